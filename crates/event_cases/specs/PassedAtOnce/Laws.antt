-- What follows at once from the loss of a link leaves what passed on all links, as long as the channel does not begin to settle.
-- Example: EventAnswered of a loss; AttemptEnds, CallEnds and StreamReset follow. Each of these leaves what passed.
use Rattle.std.specs.Prelude.{List, Some, [], true, ℕ, ◌≡◌}
use Rattle.event_cases.specs.PassedAtOnce.Passed.{IsPassedStill, is_at_once}
use Rattle.grpc_base.specs.declared.event.Event.TheVariants as event
use Rattle.session_actions.specs.Actions.{after}
use Rattle.session_actions.specs.Laws.{posted_in}
use Rattle.session_actions.specs.Sessions.{Does}
use Rattle.session_actions.specs.declared.action.Action.{Action}
use Rattle.session_actions.specs.declared.entry.OpenEntry.{OpenEntry}
use Rattle.session_actions.specs.declared.entry.Stage.TheVariants as stage
use Rattle.session_actions.specs.declared.seen.Seen.{Seen}

abbrev pub ActionsLeavePassed : Type 0
ActionsLeavePassed = (a : Action) (o : OpenEntry) (s : Seen) → s.current ≡ Some o → is_at_once a ≡ true → IsPassedStill s (after a s)

-- an entry of a loss that was answered, and is still: no event was posted, and no other stage begun
abbrev pub LossesLeavePassed : Type 0
LossesLeavePassed =
    (actions : List Action) (link : ℕ) (o p : OpenEntry) (s t : Seen) → Does actions s t → s.current ≡ Some o → t.current ≡ Some p → o.event ≡ event.LinkLost link
    → o.stage ≡ stage.Replied → p.stage ≡ stage.Replied → posted_in actions ≡ [] → IsPassedStill s t
