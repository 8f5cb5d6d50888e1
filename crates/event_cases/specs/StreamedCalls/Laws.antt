-- An attempt that gets its stream leaves its call, and every other one, as it is in all but the bytes of its messages. The call of a channel agrees with the
-- session as before, with the rows and links of the ledger that there are then, and with the buffer that a drain leaves.
-- Example: HEADERS are written for attempt 1 of call 1. Its row has stream 1; that attempt 1 is live, that nothing is due of call 1, and what came of its
-- response, is as before.
use Rattle.std.specs.List.{list_all}
use Rattle.std.specs.Prelude.{None, is_some, map, true, ◌≡◌}
use Rattle.attempt_buffer.specs.Buffers.{Buffered}
use Rattle.attempt_ledger.specs.declared.ledger.Ledger.{Ledger}
use Rattle.call_actions.specs.Order.{AttemptsAreNumbered, IsInOrder, IsInTurn}
use Rattle.call_core.specs.Steps.{Stepped}
use Rattle.channel_actions.specs.DrainCalls.Laws.{IsOnlyStreamed}
use Rattle.session_actions.specs.DueAttempts.{next_due}
use Rattle.session_actions.specs.Links.{read_bytes}
use Rattle.session_actions.specs.Responses.{is_read_by}
use Rattle.session_actions.specs.Sessions.{link_seen}
use Rattle.session_actions.specs.declared.call.Call.{Call}
use Rattle.session_actions.specs.declared.seen.Seen.{Seen}
use Rattle.call_actions.specs.TakeActions.Serves.{Holds, Serves, came}

-- the call with another buffer, and another ledger
abbrev pub with_left : Buffered → Ledger → Stepped → Stepped
with_left b ledger x = record x { call = record x.call { buffer = b }; ledger = ledger }

-- what the ledger has then, beside what it had of the calls
pub record IsLedgerOf (old ledger : Ledger) (t : Seen) : Type 0 where
  pub rows : map (λ a. a.row) t.attempts ≡ ledger.rows
  pub links : map link_seen t.links ≡ ledger.links
  pub calls : ledger.calls ≡ old.calls
  pub entry : ledger.entry ≡ old.entry
  pub reads : list_all (λ l. list_all (is_read_by (read_bytes l)) l.traffic) t.links ≡ true

-- where an entry is being made before and after, what came of its response is the same, and its buffer holds what the session has
abbrev pub CallsAreServed : Type 0
CallsAreServed =
    (s t : Seen) (c : Call) (x : Stepped) (b : Buffered) (ledger : Ledger) → AttemptsAreNumbered 1 s.attempts → IsOnlyStreamed s t → is_some t.current ≡ is_some s.current
    → Serves s c x → IsLedgerOf x.ledger ledger t → came c t ≡ came c s → (c.end ≡ None → Holds t c b) → Serves t c (with_left b ledger x)

-- what a session keeps in order of it is so still, and its next attempt is due when it was
abbrev pub OrdersStay : Type 0
OrdersStay = (s t : Seen) (c : Call) → AttemptsAreNumbered 1 s.attempts → IsOnlyStreamed s t → IsInOrder s c → IsInOrder t c

abbrev pub TurnsStay : Type 0
TurnsStay = (s t : Seen) (c : Call) → AttemptsAreNumbered 1 s.attempts → IsOnlyStreamed s t → IsInTurn s c → IsInTurn t c

abbrev pub DuesStay : Type 0
DuesStay = (s t : Seen) (c : Call) → AttemptsAreNumbered 1 s.attempts → IsOnlyStreamed s t → next_due c t ≡ next_due c s
