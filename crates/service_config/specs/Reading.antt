-- What a text is read as for some kinds of policy, or its first fault (gRPC, "Service Config in gRPC"; gRFC A6): the
-- JSON whole, the choice of the policy, each entry of methodConfig, the throttling.
use Rattle.std.specs.Prelude.{◌≡◌, ℕ, ◌+◌, if◌then◌else◌, List, [], ◌∷◌, Option, Some, None, option_and_then, Result, Ok, Err}
use Rattle.std.specs.Option.{ok_or, option_or}
use Rattle.grpc_base.specs.Kinds.{KindsSeen, kind_named, kind_named_in_any_case, has_kind}
use Rattle.grpc_base.specs.declared.kind.Kind.{Kind}
use Rattle.grpc_base.specs.declared.kind.Kind.TheVariants as kind
use Rattle.grpc_base.specs.declared.event.JsonFault.{JsonFault}
use Rattle.grpc_base.specs.declared.event.JsonFault.TheVariants as json
use Rattle.grpc_base.specs.declared.event.ConfigFault.{ConfigFault}
use Rattle.grpc_base.specs.declared.event.ConfigFault.TheVariants as reported
use Rattle.json_text.specs.Tree.{Tree}
use Rattle.json_text.specs.Reading.{reading}
use Rattle.json_text.specs.Parts.{values_in, members_in, text_in}
use Rattle.config_values.specs.Places.{reported_of}
use Rattle.config_values.specs.Policies.{Fields, ◌>>=◌, found_at, optional, value_of, fields_at, throttle_in}
use Rattle.service_config.specs.Entries.{methods_in}
use Rattle.config_values.specs.declared.place.Field.TheVariants as field
use Rattle.config_values.specs.declared.place.Object.TheVariants as object
use Rattle.config_values.specs.declared.place.Place.TheVariants as place
use Rattle.config_values.specs.declared.place.Fault.{Fault}
use Rattle.config_values.specs.declared.place.Fault.TheVariants as fault
use Rattle.service_config.specs.declared.config.Config.{Config}

-- a kind, where it is supported
abbrev pub supported : KindsSeen → Option Kind → Option Kind
supported kinds None = None
supported kinds (Some k) = if has_kind kinds k then Some k else None

-- the kind of this name, spelled exactly, where it is supported
unfoldable pub supported_kind : KindsSeen → List ℕ → Option Kind
supported_kind kinds name = supported kinds (kind_named name)

-- the name in an entry of loadBalancingConfig, which has one key with any value
abbrev pub only_name : Fields → Option (List ℕ)
only_name [] = None
only_name (m ∷ []) = Some m.0
only_name (m ∷ (n ∷ ms)) = None

abbrev pub policy_name : Tree → Option (List ℕ)
policy_name v = option_and_then only_name (members_in v)

-- the first supported kind of these entries, of which the first has this place, unless one was found before
abbrev pub first_kind : KindsSeen → ℕ → Option Kind → List Tree → Result (Option Kind) Fault
first_kind kinds i found [] = Ok found
first_kind kinds i found (v ∷ vs) =
    found_at (place.Element object.Config field.LoadBalancingConfig i) (policy_name v) >>= λ name.
    first_kind kinds (i + 1) (option_or found (supported_kind kinds name)) vs

-- the policy by its name, pick_first where it is absent
abbrev pub named_kind : KindsSeen → Option (List ℕ) → Option Kind
named_kind kinds None = supported kinds (Some kind.PickFirst)
named_kind kinds (Some name) = supported kinds (kind_named_in_any_case name)

-- loadBalancingPolicy is read only where there is no loadBalancingConfig
abbrev pub kind_by : KindsSeen → Fields → Option Tree → Result (Option Kind) Fault
kind_by kinds fields None = optional text_in object.Config field.LoadBalancingPolicy fields >>= λ name. Ok (named_kind kinds name)
kind_by kinds fields (Some v) = found_at (place.Field object.Config field.LoadBalancingConfig) (values_in v) >>= λ vs. first_kind kinds 0 None vs

unfoldable pub kind_in : KindsSeen → Fields → Result Kind Fault
kind_in kinds fields = kind_by kinds fields (value_of field.LoadBalancingConfig fields) >>= λ k. ok_or k fault.NoSupportedPolicy

-- the members of the object at the top
unfoldable pub config_in : KindsSeen → Fields → Result Config Fault
config_in kinds fields =
    kind_in kinds fields >>= λ kind.
    methods_in fields >>= λ methods.
    throttle_in fields >>= λ throttle.
    Ok (record { kind = kind; throttle = throttle; methods = methods })

-- a reading whose fault is reported
abbrev pub reported_by : Result Config Fault → Result Config ConfigFault
reported_by (Ok c) = Ok c
reported_by (Err f) = Err (reported_of f)

-- a JSON text always has an object at its top, so that it is never wrong as a whole
unfoldable pub config_in_tree : KindsSeen → Tree → Result Config Fault
config_in_tree kinds v = fields_at object.Config v >>= λ fields. config_in kinds fields

abbrev pub config_at : KindsSeen → Result Tree JsonFault → Result Config ConfigFault
config_at kinds (Ok v) = reported_by (config_in_tree kinds v)
config_at kinds (Err f) = Err (reported.Json f)

-- the config of a text for these kinds, or its first fault
abbrev pub config_of : KindsSeen → List ℕ → Result Config ConfigFault
config_of kinds bytes = config_at kinds (reading bytes)

-- a fault of the JSON text; want of memory is none of them
abbrev pub json_reported : JsonFault → ConfigFault
json_reported json.NoMemory = reported.NoMemory
json_reported f = reported.Json f

-- What a function returned is this, unless memory ran out.
abbrev pub FailsBy : ConfigFault → Result Config ConfigFault → Type 0
FailsBy reported.NoMemory read = Unit {0}
FailsBy f read = read ≡ Err f

abbrev pub ReportsThat : Result Config ConfigFault → Result Config ConfigFault → Type 0
ReportsThat (Ok c) read = read ≡ Ok c
ReportsThat (Err e) read = FailsBy e read
