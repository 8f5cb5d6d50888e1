-- A fault that is reported is that of the definition.
use Rattle.std.proofs.Common.{◌≡◌, ◌⊎◌, inl, inr, ap, sym, subst, Result}
use Rattle.grpc_base.specs.Kinds.{KindsSeen}
use Rattle.grpc_base.specs.declared.event.JsonFault.{JsonFault}
use Rattle.grpc_base.specs.declared.event.JsonFault.TheVariants as json
use Rattle.grpc_base.specs.declared.event.ConfigFault.{ConfigFault}
use Rattle.grpc_base.specs.declared.event.ConfigFault.TheVariants as reported
use Rattle.json_text.specs.Tree.{Tree}
use Rattle.json_text.specs.Reading as read
use Rattle.config_values.specs.Places.{reported_of}
use Rattle.config_values.specs.declared.place.Fault.{Fault}
use Rattle.config_values.specs.declared.place.Fault.TheVariants as fault
use Rattle.service_config.specs.declared.config.Config.{Config}
use Rattle.service_config.specs.Entries.{Fails}
use Rattle.service_config.specs.Reading.{reported_by, json_reported, config_at, FailsBy}

-- a fault of the JSON text
pub json_reports : (kinds : KindsSeen) (f : JsonFault) (r : Result Tree JsonFault) → read.Fails f r → FailsBy (json_reported f) (config_at kinds r)
json_reports kinds (json.Syntax at) r h = ap (config_at kinds) h
json_reports kinds (json.RepeatedKey at) r h = ap (config_at kinds) h
json_reports kinds (json.TooDeep at) r h = ap (config_at kinds) h
json_reports kinds (json.Number at) r h = ap (config_at kinds) h
json_reports kinds json.TooLong r h = ap (config_at kinds) h
json_reports kinds json.NoMemory r h = tt

-- any other fault
exactly : (f : Fault) (r : Result Config Fault) → Fails f r → FailsBy (reported_of f) (reported_by r)
exactly (fault.Wrong p) r h = ap reported_by h
exactly (fault.BothPolicies i) r h = ap reported_by h
exactly (fault.RepeatedName i j) r h = ap reported_by h
exactly fault.NoSupportedPolicy r h = ap reported_by h
exactly fault.NoMemory r h = tt

pub fault_reports : (f : Fault) (e : ConfigFault) (r : Result Config Fault) → ((e ≡ reported_of f) ⊎ (e ≡ reported.NoMemory)) → Fails f r → FailsBy e (reported_by r)
fault_reports f e r (inl is) h = subst (λ (x : ConfigFault). FailsBy x (reported_by r)) (sym is) (exactly f r h)
fault_reports f e r (inr is) h = subst (λ (x : ConfigFault). FailsBy x (reported_by r)) (sym is) tt
