-- Which entry of a config is taken for a path (gRPC, "Service Config in gRPC", "methodConfig").
use Rattle.std.specs.Prelude.{ℕ, ◌&&◌, List, [], Option, Some, None, unwrap_or, min}
use Rattle.std.specs.List.{find}
use Rattle.std.specs.Option.{option_or}
use Rattle.std.specs.Str.{bytes_eq}
use Rattle.grpc_base.specs.Limits.{message_limit}
use Rattle.grpc_base.specs.Requests.{names_of_path}
use Rattle.grpc_base.specs.declared.kind.Kind.TheVariants as kind
use Rattle.grpc_base.specs.declared.plan.Chosen.{Chosen}
use Rattle.grpc_base.specs.declared.plan.Throttle.{Throttle}
use Rattle.grpc_base.specs.declared.plan.CallPlan.TheVariants as plan
use Rattle.service_config.specs.declared.config.Config.{Config}
use Rattle.service_config.specs.declared.config.Method.{Method}

-- the empty config: pick_first, no throttling, and nothing said of any method
abbrev pub empty_config : Config
empty_config = record { kind = kind.PickFirst; throttle = None; methods = [] }

-- the first entry of this service and this method
abbrev pub entry_of : List ℕ → List ℕ → List Method → Option Method
entry_of service method methods = find (λ m. bytes_eq m.service service && bytes_eq m.method method) methods

-- The exact entry is taken, else that of the service alone, else that of the empty name, else none.
abbrev pub entry_for : List Method → Option (List ℕ × List ℕ) → Option Method
entry_for methods None = entry_of [] [] methods
entry_for methods (Some n) = option_or (entry_of n.0 n.1 methods) (option_or (entry_of n.0 [] methods) (entry_of [] [] methods))

-- a limit on messages as a call keeps it: at most 4,194,304 bytes, which also stands where none is named
abbrev pub limit_of : Option ℕ → ℕ
limit_of limit = min (unwrap_or limit message_limit) message_limit

-- What an entry says is taken whole; what it leaves open is not filled from another. Throttling is for all calls.
abbrev pub taken : Option Throttle → Option Method → Chosen
taken throttle None = record { wait = None; timeout = None; request = message_limit; response = message_limit; plan = plan.None; throttle = throttle }
taken throttle (Some m) = record { wait = m.wait; timeout = m.timeout; request = limit_of m.request; response = limit_of m.response; plan = m.plan; throttle = throttle }

-- what a config chooses for a path
abbrev pub chosen_for : Config → List ℕ → Chosen
chosen_for c path = taken c.throttle (entry_for c.methods (names_of_path path))
