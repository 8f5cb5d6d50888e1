-- What an application took of a call in a list of actions, and that it is a prefix of what the call has at last (gRPC, "Core concepts": unary and streaming
-- calls; gRPC over HTTP/2, "Responses"; gRFC A6, "When Retries are Valid"). A session is any list of actions from a new one, each of which is the one that
-- follows; between two entries or not.
-- Example: on the stream of the one attempt of call 1 come a head, a message `ab`, and trailers with status 0. Three Takes give the head, `ab`, and the end OK.
-- Had the application taken twice, it would have the head and `ab`: a prefix of these three. A fourth Take is refused, and gives no item.
use Rattle.std.specs.List.{list_any}
use Rattle.std.specs.Prelude.{List, None, Some, [], if◌then◌else◌, length, slice_get, suc, take, true, ℕ, ◌++◌, ◌==◌, ◌∷◌, ◌≡◌}
use Rattle.attempt_ledger.specs.Journals.{taken}
use Rattle.attempt_ledger.specs.declared.ledger.CallEnd.{CallEnd}
use Rattle.attempt_ledger.specs.declared.row.RowEnd.{RowEnd}
use Rattle.grpc_base.specs.declared.event.Reply.{Reply}
use Rattle.session_actions.specs.Attempts.{commitment, is_counted}
use Rattle.session_actions.specs.Deliveries.{available, end_by_row, is_by_row, is_end, response_items}
use Rattle.session_actions.specs.Responses.{response}
use Rattle.session_actions.specs.Sessions.{Does, new_session}
use Rattle.session_actions.specs.Words.{numbered}
use Rattle.session_actions.specs.declared.action.Action.{Action}
use Rattle.session_actions.specs.declared.attempt.Attempt.{Attempt}
use Rattle.session_actions.specs.declared.call.Call.{Call}
use Rattle.session_actions.specs.declared.seen.Seen.{Seen}
use Rattle.session_actions.specs.declared.seen.Setup.{Setup}
use Rattle.session_actions.specs.declared.action.Action.TheVariants as action

-- the items that were taken of the call of a number, in order
abbrev pub taken_by : ℕ → Action → List Reply
taken_by call (action.ItemTaken number item) = if number == call then item ∷ [] else []
taken_by call _ = []

abbrev pub taken_in : ℕ → List Action → List Reply
taken_in call [] = []
taken_in call (a ∷ actions) = taken_by call a ++ taken_in call actions

-- they are the first ones of what the call has, and as many as it counts
abbrev pub TakesAreFirst : Type 0
TakesAreFirst =
    (setup : Setup) (actions : List Action) (s : Seen) → Does actions (new_session setup) s
    → (k : ℕ) (c : Call) → numbered s.calls k ≡ Some c
    → (length (taken_in k actions) ≡ c.taken) × (taken_in k actions ≡ take c.taken (available c s))

-- and of a call that did not begin there are none
abbrev pub OnlyCallsAreTaken : Type 0
OnlyCallsAreTaken =
    (setup : Setup) (actions : List Action) (s : Seen) → Does actions (new_session setup) s
    → (k : ℕ) → numbered s.calls k ≡ None → taken_in k actions ≡ []

-- what a call has is a prefix of what it has later
abbrev pub ItemsStay : Type 0
ItemsStay =
    (setup : Setup) (actions more : List Action) (s t : Seen) → Does actions (new_session setup) s → Does more s t
    → (k : ℕ) (c d : Call) → numbered s.calls k ≡ Some c → numbered t.calls k ≡ Some d
    → available c s ≡ take (length (available c s)) (available d t)

-- the attempt to which a call is committed has an end that counts, and nothing else ended the call
pub record EndsByAttempt (s : Seen) (c : Call) : Type 0 where
  pub attempt : Attempt
  pub committed : commitment c s ≡ Some attempt
  pub end : RowEnd
  pub ended : attempt.row.ended ≡ Some end
  pub counts : is_counted attempt s ≡ true
  pub alone : (e : CallEnd) → c.end ≡ Some e → is_by_row e.cause ≡ true

-- all that such a call has to give: the head of the response, if one came, each whole message, and the end of the attempt
abbrev pub whole_response : Attempt → RowEnd → Seen → List Reply
whole_response k e s = response_items (response k s) ++ end_by_row e ∷ []

-- the Takes give the first of these; and all of them, once one gave an end
abbrev pub TakesAreWhole : Type 0
TakesAreWhole =
    (setup : Setup) (actions : List Action) (s : Seen) → Does actions (new_session setup) s
    → (k : ℕ) (c : Call) → numbered s.calls k ≡ Some c → (b : EndsByAttempt s c)
    → (taken_in k actions ≡ take c.taken (whole_response b.attempt b.end s))
    × (list_any is_end (taken_in k actions) ≡ true → taken_in k actions ≡ whole_response b.attempt b.end s)

-- between two entries the end is there: no Take from then on waits for more of this response
abbrev pub EndsComeAtOnce : Type 0
EndsComeAtOnce =
    (setup : Setup) (actions : List Action) (s : Seen) → Does actions (new_session setup) s → s.current ≡ None
    → (k : ℕ) (c : Call) → numbered s.calls k ≡ Some c → (b : EndsByAttempt s c) → available c s ≡ whole_response b.attempt b.end s

-- between two entries the journal shows just these: its Takes of the call were answered with them, in this order
abbrev pub JournalsReport : Type 0
JournalsReport =
    (setup : Setup) (actions : List Action) (s : Seen) → Does actions (new_session setup) s → s.current ≡ None → (k : ℕ) → taken k s.entries ≡ taken_in k actions

-- whatever ended a call, no item is taken after its end
abbrev pub EndsAreLast : Type 0
EndsAreLast =
    (setup : Setup) (actions : List Action) (s : Seen) → Does actions (new_session setup) s
    → (k i : ℕ) (item : Reply) → slice_get (taken_in k actions) i ≡ Some item → is_end item ≡ true → suc i ≡ length (taken_in k actions)
