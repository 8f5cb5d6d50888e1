-- What follows from the table and the steps, for every policy.
use Rattle.std.specs.Prelude.{◌≡◌, ℕ, ◌+◌, ◌/◌, ◌<◌, true, false, Some, List, length, slice_get}
use Rattle.grpc_base.specs.declared.event.Conn.{Conn}
use Rattle.grpc_base.specs.declared.event.Conn.TheVariants as conn
use Rattle.grpc_base.specs.declared.kind.Kind.TheVariants as kind
use Rattle.grpc_base.specs.declared.kind.Pick.{Pick}
use Rattle.grpc_base.specs.declared.kind.Pick.TheVariants as pick
use Rattle.lb_policy.specs.declared.seen.SubSeen.{SubSeen}
use Rattle.lb_policy.specs.Table.{PolicySeen, is_ready, is_among, subs_in, state_of, wish_of, pick_of, IsWithoutRepeats}
use Rattle.lb_policy.specs.Steps.{noted}

-- a subchannel of a view
pub record IsIn (view : List SubSeen) (s : SubSeen) : Type 0 where
  pub place : ℕ
  pub at : slice_get view place ≡ Some s

-- an answer that fits a state
abbrev pub FitsState : List SubSeen → Conn → Pick → Type 0
FitsState view conn.Ready answer = (s : SubSeen) × IsIn view s × (s.state ≡ conn.Ready) × (answer ≡ pick.Place s.sub)
FitsState view conn.Failure answer = answer ≡ pick.Fail
FitsState view _ answer = answer ≡ pick.Wait

abbrev pub PicksFollowState : Type 0
PicksFollowState = (p : PolicySeen) → FitsState p.view (state_of p) (pick_of p)

-- what is wished connected stands in the view
abbrev pub WishesAreInView : Type 0
WishesAreInView =
    (p : PolicySeen) (i n : ℕ) → slice_get (wish_of p) i ≡ Some n → (s : SubSeen) × IsIn p.view s × (s.sub ≡ n)

-- round_robin answers the same again after as many turns as there are READY subchannels
abbrev pub RoundRobinGoesRound : Type 0
RoundRobinGoesRound =
    (p : PolicySeen) → p.kind ≡ kind.RoundRobin → pick_of (record p { turns = p.turns + length (subs_in is_ready p.view) }) ≡ pick_of p

-- a policy that noted a state of a subchannel is left as it is by noting that state again
abbrev pub NotingAgainChangesNothing : Type 0
NotingAgainChangesNothing = (sub : ℕ) (state : Conn) (p : PolicySeen) → noted sub state (noted sub state p) ≡ noted sub state p

-- of priority: a subchannel at a place, whose tier is the place by the width
pub record StandsAt (p : PolicySeen) (tier : ℕ) (s : SubSeen) : Type 0 where
  pub place : ℕ
  pub at : slice_get p.view place ≡ Some s
  pub within : place / p.width ≡ tier

-- no subchannel of an earlier tier is READY
abbrev pub NoneIsReadyBefore : PolicySeen → ℕ → Type 0
NoneIsReadyBefore p tier = (t : ℕ) (s : SubSeen) → t < tier → StandsAt p t s → is_ready s.state ≡ false

-- each subchannel of an earlier tier has failed and is not READY
abbrev pub AllFailedBefore : PolicySeen → ℕ → Type 0
AllFailedBefore p tier = (t : ℕ) (s : SubSeen) → t < tier → StandsAt p t s → (is_ready s.state ≡ false) × (is_among p.failed s ≡ true)

-- a policy of tiers
pub record HasTiers (p : PolicySeen) : Type 0 where
  pub kind : p.kind ≡ kind.Priority
  pub wide : 0 < p.width

-- no pick names a tier while an earlier one is ready
abbrev pub NoPickPassesAReadyTier : Type 0
NoPickPassesAReadyTier =
    (p : PolicySeen) (n : ℕ) → HasTiers p → pick_of p ≡ pick.Place n → (tier : ℕ) × (s : SubSeen) × StandsAt p tier s × (s.sub ≡ n) × (is_ready s.state ≡ true) × NoneIsReadyBefore p tier

-- a later tier is wished only where every earlier one has failed
abbrev pub NoWishPassesATierThatHasNotFailed : Type 0
NoWishPassesATierThatHasNotFailed =
    (p : PolicySeen) (i n : ℕ) → HasTiers p → slice_get (wish_of p) i ≡ Some n → (tier : ℕ) × (s : SubSeen) × StandsAt p tier s × (s.sub ≡ n) × AllFailedBefore p tier

-- a tier that recovers while no earlier one is ready is used at the next pick
abbrev pub ARecoveredTierIsUsed : Type 0
ARecoveredTierIsUsed =
    (p : PolicySeen) (tier : ℕ) (s : SubSeen) → HasTiers p → IsWithoutRepeats p.view → StandsAt p tier s → NoneIsReadyBefore p tier → (r : SubSeen) × StandsAt (noted s.sub conn.Ready p) tier r × (pick_of (noted s.sub conn.Ready p) ≡ pick.Place r.sub)
