-- A rack over whole runs.
use Rattle.std.specs.Prelude.{true, ◌≡◌, ◌≤◌, ◌<◌, ℕ, false, if◌then◌else◌, Option, Some, None, List, [], ◌∷◌, slice_get}
use Rattle.grpc_base.specs.declared.event.Conn.{Conn}
use Rattle.lb_policy.specs.declared.seen.SubSeen.{SubSeen}
use Rattle.lb_policy.specs.Table.{PolicySeen}
use Rattle.policy_rack.specs.declared.live.Live.{Live}
use Rattle.policy_rack.specs.Kinds.{are_ready}
use Rattle.policy_rack.specs.Steps.{RackSeen, new_rack, adopted, noted_by_live, may_take_over, taken_over, asked, all_retired, is_at}

-- a call that may change a rack; a result is for the policy at a place
pub data RackCall : Type 0 where
  Adopt : ℕ → List SubSeen → RackCall
  Note : ℕ → Conn → RackCall
  TakeOver : RackCall
  Ask : RackCall
  RetireAll : RackCall

-- the rack after one call, and after several
abbrev pub after_call : RackCall → RackSeen → RackSeen
after_call (Adopt place subs) r = adopted subs (Some place) r
after_call (Note sub state) r = noted_by_live sub state r
after_call TakeOver r = if may_take_over r then taken_over r else r
after_call Ask r = asked r
after_call RetireAll r = all_retired r

abbrev pub after_calls : List RackCall → RackSeen → RackSeen
after_calls [] r = r
after_calls (call ∷ calls) r = after_calls calls (after_call call r)

-- the live generations: a pending one only beside a current one, of another policy and made later, none above the count
abbrev pub GenerationsAreLive : Option Live → Option Live → ℕ → Type 0
GenerationsAreLive None None made = Unit {0}
GenerationsAreLive None (Some later) made = ⊥
GenerationsAreLive (Some live) None made = live.generation ≤ made
GenerationsAreLive (Some live) (Some later) made = ((live.place ≡ later.place) → ⊥) × (live.generation < later.generation) × (later.generation ≤ made)

-- a policy that no live generation uses has the empty view, none that failed and no turn
abbrev pub SparesAreEmpty : List PolicySeen → Option Live → Option Live → Type 0
SparesAreEmpty policies current pending =
    (place : ℕ) (p : PolicySeen) → slice_get policies place ≡ Some p → is_at place current ≡ false → is_at place pending ≡ false → (p.view ≡ []) × (p.failed ≡ []) × (p.turns ≡ 0)

pub record IsKept (r : RackSeen) : Type 0 where
  pub live : GenerationsAreLive r.current r.pending r.made
  pub spare : SparesAreEmpty r.policies r.current r.pending

-- the kinds of the two live generations
abbrev pub KindsOfLiveDiffer : RackSeen → Type 0
KindsOfLiveDiffer r =
    (live later : Live) (p q : PolicySeen) → r.current ≡ Some live → r.pending ≡ Some later → slice_get r.policies live.place ≡ Some p → slice_get r.policies later.place ≡ Some q → p.kind ≡ q.kind → ⊥

-- so it is after any calls of a new rack
abbrev pub RackKeeps : Type 0
RackKeeps = (calls : List RackCall) (policies : List PolicySeen) → IsKept (after_calls calls (new_rack policies))

-- of policies that a channel may be passed, the two live generations are never of one kind
abbrev pub LiveKindsDiffer : Type 0
LiveKindsDiffer =
    (calls : List RackCall) (policies : List PolicySeen) → are_ready policies ≡ true → KindsOfLiveDiffer (after_calls calls (new_rack policies))

-- a rack that noted a state of a subchannel is left as it is by noting that state again
abbrev pub NotingAgainChangesNothing : Type 0
NotingAgainChangesNothing = (sub : ℕ) (state : Conn) (r : RackSeen) → noted_by_live sub state (noted_by_live sub state r) ≡ noted_by_live sub state r
