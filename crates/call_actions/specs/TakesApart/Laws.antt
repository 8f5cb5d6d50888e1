-- An action of one call, or of none, leaves what every other call holds for its application and for its attempts: what came of its response, and the
-- messages that it still has to write (gRPC over HTTP/2: each call has a stream of its own). It is stated once of all actions.
-- Example: the calls 1 and 2 are on one link, and the application of call 1 did not take the head of its response. A frame on the stream of call 2 is read:
-- session and channel still have that head for call 1, and its deadline is as before.
use Rattle.std.specs.List.{list_all}
use Rattle.std.specs.Prelude.{List, Some, false, map, true, ◌≡◌}
use Rattle.attempt_ledger.specs.declared.ledger.Ledger.{Ledger}
use Rattle.call_actions.specs.Order.{IsInOrder}
use Rattle.call_core.specs.Steps.{Stepped, lent}
use Rattle.call_core.specs.declared.act.CallAct.{CallAct}
use Rattle.call_actions.specs.CallsApart.Apart.{IsApart, IsBook, acts_on, run_number}
use Rattle.call_actions.specs.CallsApart.Laws.{IsRecorded, tokens_in_run}
use Rattle.session_actions.specs.Actions.{after}
use Rattle.session_actions.specs.Configs.{deadline}
use Rattle.session_actions.specs.DueAttempts.{next_due}
use Rattle.session_actions.specs.Links.{read_bytes}
use Rattle.session_actions.specs.Responses.{is_read_by}
use Rattle.session_actions.specs.Sessions.{link_seen}
use Rattle.session_actions.specs.Words.{is_number, numbered}
use Rattle.session_actions.specs.declared.action.Action.{Action}
use Rattle.session_actions.specs.declared.call.Call.{Call}
use Rattle.session_actions.specs.declared.seen.Seen.{Seen}
use Rattle.call_actions.specs.TakeActions.Serves.{Serves}
use Rattle.call_actions.specs.TakesApart.Received.{IsReceivedAlike, passes_on}

-- what came of a call's responses, and what was written of its messages, is as before, where neither the action nor what it passes on a link is of it
abbrev pub OthersAreReceived : Type 0
OthersAreReceived =
    (s : Seen) (c : Call) (a : Action) → IsBook s → numbered s.calls c.number ≡ Some c → is_number c.number (acts_on a s) ≡ false → passes_on a s c ≡ false
    → IsReceivedAlike s (after a s) c

-- a ledger has the links of the session, and no frame was read after the bytes that were read
pub record LinksAgree (t : Seen) (ledger : Ledger) : Type 0 where
  pub links : map link_seen t.links ≡ ledger.links
  pub reads : list_all (λ l. list_all (is_read_by (read_bytes l)) l.traffic) t.links ≡ true

-- and the channel holds of it what the session has
abbrev pub OthersAreServed : Type 0
OthersAreServed =
    (s t : Seen) (c : Call) (x : Stepped) (ledger : Ledger) (acts : List CallAct) → IsApart s t c → IsReceivedAlike s t c → IsBook t → Serves s c x → IsInOrder s c
    → IsRecorded t c ledger → LinksAgree t ledger → Serves t c (lent x.call ledger (tokens_in_run t (run_number c t)) acts)

-- so it is with the ledger of the step of another call, which agrees with the session too
abbrev pub ServedTogether : Type 0
ServedTogether =
    (s t : Seen) (c d : Call) (x y : Stepped) (acts : List CallAct) → IsApart s t c → IsReceivedAlike s t c → IsBook t → Serves s c x → IsInOrder s c → Serves t d y
    → numbered y.ledger.calls c.number ≡ numbered x.ledger.calls c.number → Serves t c (lent x.call y.ledger (tokens_in_run t (run_number c t)) acts)

-- its next attempt is due when it was, and its deadline is the same
abbrev pub OthersAreDue : Type 0
OthersAreDue = (s t : Seen) (c : Call) → IsApart s t c → numbered s.calls c.number ≡ Some c → IsInOrder s c → next_due c t ≡ next_due c s

abbrev pub DeadlinesStay : Type 0
DeadlinesStay = (s t : Seen) (c : Call) → IsApart s t c → deadline c t ≡ deadline c s
