-- A policy over whole runs.
use Rattle.std.specs.Prelude.{◌≡◌, ℕ, List, [], ◌∷◌}
use Rattle.grpc_base.specs.declared.event.Conn.{Conn}
use Rattle.lb_policy.specs.declared.seen.SubSeen.{SubSeen}
use Rattle.lb_policy.specs.Table.{PolicySeen, IsWithoutRepeats}
use Rattle.lb_policy.specs.Steps.{emptied, given, noted, turned, failed_in}

-- a call that may change a policy
pub data PolicyCall : Type 0 where
  Reset : PolicyCall
  Accept : List SubSeen → PolicyCall
  Note : ℕ → Conn → PolicyCall
  PickOne : PolicyCall

-- a policy after one call, and after several
abbrev pub after_call : PolicyCall → PolicySeen → PolicySeen
after_call Reset p = emptied p
after_call (Accept view) p = given view p
after_call (Note sub state) p = noted sub state p
after_call PickOne p = turned p

abbrev pub after_calls : List PolicyCall → PolicySeen → PolicySeen
after_calls [] p = p
after_calls (call ∷ calls) p = after_calls calls (after_call call p)

-- no view that it is given has a subchannel twice
abbrev pub GivesViews : List PolicyCall → Type 0
GivesViews [] = Unit {0}
GivesViews (Accept view ∷ calls) = IsWithoutRepeats view × GivesViews calls
GivesViews (_ ∷ calls) = GivesViews calls

-- the failed ones are those of the view, in its order, that are in TRANSIENT_FAILURE, or are among them and not READY:
-- so each that is in TRANSIENT_FAILURE is among them, and none that is READY
abbrev pub FailedAreOfTheView : PolicySeen → Type 0
FailedAreOfTheView p = p.failed ≡ failed_in p.failed p.view

-- so it is after any calls of a policy that was reset
abbrev pub FailedStaysOfTheView : Type 0
FailedStaysOfTheView = (calls : List PolicyCall) (p : PolicySeen) → GivesViews calls → FailedAreOfTheView (after_calls calls (emptied p))
