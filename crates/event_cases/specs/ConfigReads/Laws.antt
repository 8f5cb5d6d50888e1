-- The config of a result is read: this bears on no call and no link, and on policies alone.
-- Example: call 1 has config 1, and an attempt of it goes on. A result brings config 2: call 1 keeps config 1, its attempt goes on, and PolicyBegins is next.
use Rattle.std.specs.Prelude.{List, Option, Some, ℕ, ◌≡◌}
use Rattle.call_actions.specs.CallsApart.Apart.{IsBook}
use Rattle.attempt_cases.specs.NetChains.Chains.{IsApartQuiescent}
use Rattle.grpc_base.specs.declared.address.Address.{Address}
use Rattle.grpc_base.specs.declared.event.ConfigFault.{ConfigFault}
use Rattle.grpc_base.specs.declared.event.Event.TheVariants as event
use Rattle.service_config.specs.declared.config.Config.{Config}
use Rattle.session_actions.specs.Configs.{config_read}
use Rattle.session_actions.specs.declared.entry.OpenEntry.{OpenEntry}
use Rattle.session_actions.specs.declared.seen.Seen.{Seen}
use Rattle.session_order.specs.Quiescent.{IsQuiescent}
use Rattle.std.specs.Prelude.{Result}

-- nothing follows from it but what policies and their subchannels do
abbrev pub ReadsStirPolicies : Type 0
ReadsStirPolicies =
    (x : Result Config ConfigFault) (o p : OpenEntry) (s : Seen) (addresses : List Address) (config : Option (List ℕ)) → s.current ≡ Some o
    → o.event ≡ event.Resolved addresses config → IsBook s → IsQuiescent o s → (config_read x s).current ≡ Some p → IsApartQuiescent p (config_read x s)
