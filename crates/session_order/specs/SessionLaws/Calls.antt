-- What is asked of a call where something is done to it (gRPC, "Core concepts": RPC life cycle; gRFC A6, "When Retries are Valid").
-- Example: a call with a hedge that is due ends by its deadline: the hedge is not made. The application takes the end once, and is refused after it.
use Rattle.std.specs.Prelude.{List, None, Some, false, ℕ, ◌≡◌}
use Rattle.attempt_ledger.specs.Numbering.{is_transparent}
use Rattle.attempt_ledger.specs.declared.row.RowKind.{RowKind}
use Rattle.grpc_base.specs.declared.event.Reply.{Reply}
use Rattle.session_actions.specs.Deliveries.{next_item}
use Rattle.session_actions.specs.Sessions.{Does, IsNext, new_session}
use Rattle.session_actions.specs.Words.{numbered}
use Rattle.session_actions.specs.declared.action.Action.{Action}
use Rattle.session_actions.specs.declared.call.Call.{Call}
use Rattle.session_actions.specs.declared.seen.Seen.{Seen}
use Rattle.session_actions.specs.declared.seen.Setup.{Setup}
use Rattle.session_actions.specs.declared.action.Action.TheVariants as action

-- an attempt, but a transparent retry, is made of a call that has not ended
abbrev pub OpenCallsAttempt : Type 0
OpenCallsAttempt =
    (setup : Setup) (actions : List Action) (s : Seen) → Does actions (new_session setup) s
    → (call number due : ℕ) (kind : RowKind) → IsNext (action.AttemptMade call number kind due) s → is_transparent kind ≡ false
    → (c : Call) → numbered s.calls call ≡ Some c → c.end ≡ None

-- a call begins while the channel was not shut down
abbrev pub OpenChannelsBegin : Type 0
OpenChannelsBegin = (s : Seen) → IsNext action.CallBegins s → s.shut ≡ false

-- what is taken is the next of what the call has: the head and the messages of the committed attempt's response, and then the end, which was not
-- taken before
abbrev pub TakesAreNext : Type 0
TakesAreNext =
    (s : Seen) (call : ℕ) (item : Reply) → IsNext (action.ItemTaken call item) s
    → (c : Call) × (numbered s.calls call ≡ Some c) × (next_item c s ≡ Some item) × (c.end_taken ≡ false)
