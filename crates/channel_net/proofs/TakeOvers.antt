-- Where no generation is pending, none takes over.
use Rattle.std.proofs.Common.{◌≡◌, ℕ, List, Option, Some, None, false, refl}
use Rattle.std.specs.Prelude.{slice_get}
use Rattle.std.specs.Option.{option_map}
use Rattle.grpc_base.specs.declared.event.Conn.{Conn}
use Rattle.grpc_base.specs.declared.kind.Kind.{Kind}
use Rattle.lb_policy.specs.Table.{PolicySeen, state_of}
use Rattle.policy_rack.specs.declared.live.Live.{Live}
use Rattle.policy_rack.specs.Steps.{RackSeen, live_of, may_follow, may_take_over, policy_of}

no_state : (generation : ℕ) (current : Option Conn) (o : Option PolicySeen) → option_map {U = ℕ × Kind} (λ p. (generation, p.kind)) o ≡ None → may_follow current (option_map state_of o) ≡ false
no_state generation current None none = refl
no_state generation current (Some p) none = absurd (cc none)

none_follows : (policies : List PolicySeen) (current : Option Conn) (pending : Option Live) → live_of policies pending ≡ None → may_follow current (option_map state_of (policy_of policies pending)) ≡ false
none_follows policies current None none = refl
none_follows policies current (Some live) none = no_state live.generation current (slice_get policies live.place) none

pub none_takes_over : (r : RackSeen) → live_of r.policies r.pending ≡ None → may_take_over r ≡ false
none_takes_over r none = none_follows r.policies (option_map state_of (policy_of r.policies r.current)) r.pending none
