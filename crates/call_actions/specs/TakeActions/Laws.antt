-- What the application of a call posts is an action of the session, answered as the channel answers it, and leaves the call as what the session then is.
-- Each is stated of a session that makes an entry of this event, and a call that agrees with it (`Serves`).
-- Example: the head of a response came, and its application takes. In the session ItemTaken with the head; the channel answers the head; and in both
-- nothing is left to take.
use Rattle.std.specs.List.{list_all, list_any}
use Rattle.std.specs.Prelude.{Bool, List, None, Option, Some, [], false, is_some, length, map, option_and_then, true, ℕ, ◌++◌, ◌+◌, ◌≡◌}
use Rattle.attempt_ledger.specs.declared.ledger.Ledger.{Ledger}
use Rattle.call_actions.specs.Laws.{begun_ledger}
use Rattle.call_core.specs.Laws as channel
use Rattle.call_core.specs.Parts.{committed_buffer, furthest as channel_furthest, is_too_long, pushed_over}
use Rattle.call_core.specs.Steps as steps
use Rattle.call_core.specs.Steps.{Stepped, lent}
use Rattle.call_core.specs.declared.act.CallAct.{CallAct}
use Rattle.call_core.specs.declared.inbox.Inbox.{Inbox}
use Rattle.grpc_base.specs.Requests.{RequestSeen}
use Rattle.grpc_base.specs.declared.event.EndCause.{EndCause}
use Rattle.grpc_base.specs.declared.event.EndCause.TheVariants as ending
use Rattle.grpc_base.specs.declared.event.Event.{Event}
use Rattle.grpc_base.specs.declared.event.Event.TheVariants as event
use Rattle.grpc_base.specs.declared.event.Reply.{Reply}
use Rattle.grpc_base.specs.declared.event.Reply.TheVariants as reply
use Rattle.grpc_base.specs.declared.fields.Field.{Field}
use Rattle.grpc_frame.specs.Messages.{framed}
use Rattle.session_actions.specs.Actions.{after}
use Rattle.session_actions.specs.Attempts.{is_of}
use Rattle.session_actions.specs.CallEnds.{call_ended, has_long_request, is_cancelled, is_past_deadline}
use Rattle.session_actions.specs.Commitments.{call_committed, furthest, overflow_row}
use Rattle.session_actions.specs.Deliveries.{begun_call, call_begun_by, response_items}
use Rattle.session_actions.specs.Entries.{entry, now}
use Rattle.session_actions.specs.Events.{event_action}
use Rattle.session_actions.specs.Links.{read_bytes}
use Rattle.session_actions.specs.Responses.{is_read_by, response}
use Rattle.session_actions.specs.Sessions.{link_seen}
use Rattle.session_actions.specs.declared.action.Action.{Action}
use Rattle.session_actions.specs.declared.action.Action.TheVariants as action
use Rattle.session_actions.specs.declared.attempt.Attempt.{Attempt}
use Rattle.session_actions.specs.declared.call.Call.{Call}
use Rattle.session_actions.specs.declared.entry.OpenEntry.{OpenEntry}
use Rattle.session_actions.specs.declared.seen.Seen.{Seen}
use Rattle.call_actions.specs.TakeActions.Cuts.{AttemptsAreCut, CanCommit}
use Rattle.call_actions.specs.TakeActions.Serves.{AttemptsStandInPlace, Serves}

-- an entry of this event is being made
pub record IsPosted (e : Event) (s : Seen) : Type 0 where
  pub entry : OpenEntry
  pub current : s.current ≡ Some entry
  pub event_is : entry.event ≡ e

-- what it was answered
abbrev pub reply_of : Seen → Option Reply
reply_of s = option_and_then (λ o. o.reply) s.current

-- the call of a number agrees with a call of the channel
pub record Agrees (s : Seen) (number : ℕ) (x : Stepped) : Type 0 where
  pub call : Call
  pub number_is : call.number ≡ number
  pub serves : Serves s call x

-- the action of the event itself, its reply, and that they agree after it
pub record IsDone (e : Event) (s : Seen) (number : ℕ) (r : Reply) (x : Stepped) : Type 0 where
  pub does : Action
  pub next : event_action e s ≡ Some does
  pub replied : reply_of (after does s) ≡ Some r
  pub agrees : Agrees (after does s) number x

-- it begins a call: nothing came, and nothing was accepted. (The session keeps its attempts at their places, its links as the ledger has them, and no
-- frame was read after what was read; no attempt is of a call to come.)
abbrev pub CallsBeginAlike : Type 0
CallsBeginAlike =
    (s : Seen) (request : RequestSeen) (ledger : Ledger) (acts : List CallAct) → entry s ≡ ledger.entry → map (λ a. a.row) s.attempts ≡ ledger.rows
    → length s.calls ≡ length ledger.calls → list_any (is_of (begun_call (length s.calls + 1) (entry s) (now s) request)) s.attempts ≡ false
    → AttemptsStandInPlace 1 s.attempts → map link_seen s.links ≡ ledger.links → list_all (λ l. list_all (is_read_by (read_bytes l)) l.traffic) s.links ≡ true
    → Agrees (call_begun_by (event.Begin request) s) (length s.calls + 1)
    (lent (steps.new_call (length s.calls + 1) request (now s)) (begun_ledger ledger) None acts)

-- the application takes: the head of the response, its messages in their order, and then the end of the call, each once; nothing while nothing has come;
-- and it is refused once the end was taken
abbrev pub TakesAreItems : Type 0
TakesAreItems =
    (s : Seen) (c : Call) (x : Stepped) → IsPosted (event.Take c.number) s → Serves s c x
    → IsDone (event.Take c.number) s c.number (steps.take_reply x.ledger x.call) (record x { call = steps.taken x.call })

-- it finishes its request; refused once the call ended, or was finished
abbrev pub FinishesAreDone : Type 0
FinishesAreDone =
    (s : Seen) (c : Call) (x : Stepped) → IsPosted (event.Finish c.number) s → s.shut ≡ false → Serves s c x
    → IsDone (event.Finish c.number) s c.number (steps.finish_reply x.call) (record x { call = steps.finished x.call })

-- it gives the call up: answered, or refused once the call ended. (That the call ends by it is the next action.)
abbrev pub CancelsAreAnswered : Type 0
CancelsAreAnswered =
    (s : Seen) (c : Call) (x : Stepped) → IsPosted (event.Cancel c.number) s → s.shut ≡ false → Serves s c x
    → IsDone (event.Cancel c.number) s c.number (steps.cancel_reply x.call) x

-- it sends a message, which the call's config allows, and which does not commit the call: accepted where there is room for it, else answered with what
-- the call holds; refused once the call ended, or was finished
abbrev pub SendsAreAnswered : Type 0
SendsAreAnswered =
    (s : Seen) (c : Call) (x : Stepped) (message : List ℕ) → IsPosted (event.Send c.number message) s → s.shut ≡ false → Serves s c x
    → is_too_long x.call.chosen (length message) ≡ false → pushed_over x.call.buffer (framed message) (channel_furthest x.call.buffer x.call.live) ≡ false
    → IsDone (event.Send c.number message) s c.number (steps.send_reply message x.call) (steps.sent message (now s) x)

-- a call is committed to an attempt: each other attempt of it that is outstanding is cut off right then, and what has come of this one is for the
-- application (gRFC A6, "When Retries are Valid", "Hedging Policy")
pub record IsCommitted (s : Seen) (c : Call) (k : Attempt) (x : Stepped) : Type 0 where
  pub cuts : List Action
  pub seen : Seen
  pub cut : AttemptsAreCut c.number cuts (call_committed k.place s) seen
  pub agrees : Agrees seen c.number x

abbrev pub CommitsCutOthers : Type 0
CommitsCutOthers =
    (s : Seen) (c : Call) (x : Stepped) (k : Attempt) (inbox : Inbox) → is_some s.current ≡ true → Serves s c x → CanCommit s c k
    → inbox.is_end_taken ≡ x.call.inbox.is_end_taken
    → response_items (response k s) ≡ channel.head_items inbox.head ++ channel.message_items inbox.messages
    → IsCommitted s c k (steps.committed k.place (now s) (record x { call = record x.call { buffer = committed_buffer k.place x.call.buffer; inbox = inbox } }))

-- by a head: the session commits the call for it, and the channel receives it
pub record IsHead (s : Seen) (k : Attempt) (meta : List Field) : Type 0 where
  pub head : (response k s).head ≡ Some meta
  pub first : (response k s).messages ≡ []

abbrev pub HeadsCommit : Type 0
HeadsCommit =
    (s : Seen) (c : Call) (x : Stepped) (k : Attempt) (meta : List Field) → is_some s.current ≡ true → Serves s c x → CanCommit s c k → IsHead s k meta
    → IsCommitted s c k (steps.received_head k.place meta (now s) x)

-- by a message for which the call has no room but that of a committed one: it is accepted, and the call is committed to the attempt that was drained
-- furthest (gRFC A6, "Memory Management (Buffering)")
pub record IsOverflow (s : Seen) (c : Call) (k : Attempt) (message : List ℕ) (x y : Stepped) : Type 0 where
  pub next : event_action (event.Send c.number message) s ≡ Some (action.MessageAccepted c.number)
  pub replied : reply_of (after (action.MessageAccepted c.number) s) ≡ Some reply.Done
  pub call : Call
  pub number_is : call.number ≡ c.number
  pub committing : overflow_row (after (action.MessageAccepted c.number) s) call ≡ Some k
  pub committed : IsCommitted (after (action.MessageAccepted c.number) s) call k y

abbrev pub SendsOverflow : Type 0
SendsOverflow =
    (s : Seen) (c : Call) (x : Stepped) (k : Attempt) (message : List ℕ) → IsPosted (event.Send c.number message) s → s.shut ≡ false → Serves s c x
    → c.finished ≡ false → CanCommit s c k → furthest c s ≡ Some k → response_items (response k s) ≡ [] → is_too_long x.call.chosen (length message) ≡ false
    → pushed_over x.call.buffer (framed message) (channel_furthest x.call.buffer x.call.live) ≡ true
    → (steps.send_reply message x.call ≡ reply.Done) × IsOverflow s c k message x (steps.sent message (now s) x)

-- a call ends: each attempt of it that is outstanding is cut off right then (gRPC, "Core concepts": Cancelling an RPC)
pub record IsEnded (s : Seen) (c : Call) (why : EndCause) (x : Stepped) : Type 0 where
  pub cuts : List Action
  pub seen : Seen
  pub cut : AttemptsAreCut c.number cuts (call_ended c.number why s) seen
  pub agrees : Agrees seen c.number x

abbrev pub EndsCutAttempts : Type 0
EndsCutAttempts =
    (s : Seen) (c : Call) (x : Stepped) (why : EndCause) → is_some s.current ≡ true → Serves s c x → c.end ≡ None
    → IsEnded s c why (steps.closed_by why (now s) x)

-- an event is answered, and its call ends by it: for the reason for which the session ends it
pub record EndsNext (e : Event) (s : Seen) (c : Call) (why : EndCause) (test : OpenEntry → Seen → Call → Bool) (x : Stepped) : Type 0 where
  pub next : event_action e s ≡ Some (action.EventAnswered reply.Done)
  pub replied : reply_of (after (action.EventAnswered reply.Done) s) ≡ Some reply.Done
  pub entry : OpenEntry
  pub current : (after (action.EventAnswered reply.Done) s).current ≡ Some entry
  pub reason : test entry (after (action.EventAnswered reply.Done) s) c ≡ true
  pub ended : IsEnded (after (action.EventAnswered reply.Done) s) c why x

-- the application gives the call up
abbrev pub CancelsEnd : Type 0
CancelsEnd =
    (s : Seen) (c : Call) (x : Stepped) → IsPosted (event.Cancel c.number) s → s.shut ≡ false → Serves s c x → c.end ≡ None
    → (steps.cancel_reply x.call ≡ reply.Done) × EndsNext (event.Cancel c.number) s c ending.Cancelled (λ o t d. is_cancelled o d) (steps.cancelled (now s) x)

-- it sends a message that its config does not allow
abbrev pub LongSendsEnd : Type 0
LongSendsEnd =
    (s : Seen) (c : Call) (x : Stepped) (message : List ℕ) → IsPosted (event.Send c.number message) s → s.shut ≡ false → Serves s c x → c.end ≡ None
    → c.finished ≡ false → is_too_long x.call.chosen (length message) ≡ true
    → (steps.send_reply message x.call ≡ reply.Done) × EndsNext (event.Send c.number message) s c ending.Request has_long_request (steps.sent message (now s) x)

-- its deadline comes: at one moment in both; it ends then, and not before
abbrev pub DeadlinesEnd : Type 0
DeadlinesEnd =
    (s : Seen) (c : Call) (x : Stepped) → is_some s.current ≡ true → Serves s c x → is_past_deadline s c ≡ true
    → IsEnded s c ending.Deadline (steps.timed_out (now s) x)

abbrev pub DeadlinesWait : Type 0
DeadlinesWait = (s : Seen) (c : Call) (x : Stepped) → Serves s c x → is_past_deadline s c ≡ false → steps.timed_out (now s) x ≡ x
