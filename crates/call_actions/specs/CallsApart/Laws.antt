-- An action of one call, or of none, leaves of every other call what session and channel have of it, and what a session keeps in order of it. It is stated
-- once of all actions. Only tokens are shared (gRFC A6, "Throttling Retry Attempts and Hedged RPCs"): an end that counts changes the bucket of its run, and
-- no other.
-- Example: the attempts of the calls 1 and 2 are outstanding, and a head commits call 2. Its other attempts are cut off. Session and channel agree of call 1
-- after each of these actions, with the ledger that there then is.
use Rattle.std.specs.Prelude.{List, Option, Some, [], false, is_some, map, option_and_then, option_map, true, ℕ, ◌∷◌, ◌≡◌}
use Rattle.a6_numbers.specs.Throttling.{Bucket}
use Rattle.attempt_ledger.specs.declared.ledger.Ledger.{Ledger}
use Rattle.call_actions.specs.Order.{IsInOrder, IsInTurn}
use Rattle.call_actions.specs.Sees.{Sees, bucket_of}
use Rattle.call_core.specs.Steps.{Stepped, lent}
use Rattle.call_core.specs.declared.act.CallAct.{CallAct}
use Rattle.call_actions.specs.CallsApart.Apart.{IsApart, IsBook, IsFair, acts_on, counts_in, run_number}
use Rattle.session_actions.specs.Actions.{after, following}
use Rattle.session_actions.specs.Entries.{entry}
use Rattle.session_actions.specs.Sessions.{Does, call_seen, new_session}
use Rattle.session_actions.specs.Words.{is_number, numbered}
use Rattle.session_actions.specs.declared.action.Action.{Action}
use Rattle.session_actions.specs.declared.call.Call.{Call}
use Rattle.session_actions.specs.declared.seen.Seen.{Seen}
use Rattle.session_actions.specs.declared.seen.Setup.{Setup}

-- what a session keeps in order of all calls: it is so before anything happened, and after each action that a line may give
abbrev pub BooksBegin : Type 0
BooksBegin = (setup : Setup) → IsBook (new_session setup)

abbrev pub BooksStay : Type 0
BooksStay = (s : Seen) (a : Action) → IsBook s → IsFair a s → IsBook (after a s)

-- and each line of a session gives such actions alone: so it is after every list of actions
abbrev pub LinesAreFair : Type 0
LinesAreFair = (s : Seen) (a : Action) → IsBook s → following s ≡ Some a → IsFair a s

abbrev pub BooksAlong : Type 0
BooksAlong = (actions : List Action) (s t : Seen) → IsBook s → Does actions s t → IsBook t

-- an action that is not of this call changes nothing of it
abbrev pub OthersStay : Type 0
OthersStay =
    (s : Seen) (c : Call) (a : Action) → IsBook s → numbered s.calls c.number ≡ Some c → is_number c.number (acts_on a s) ≡ false → IsApart s (after a s) c

-- nor do several
abbrev pub ApartJoins : Type 0
ApartJoins = (s t u : Seen) (c : Call) → IsApart s t c → IsApart t u c → IsApart s u c

-- nor does a list of actions of which none is of the call
abbrev pub ActionsAreOfOthers : Call → List Action → Seen → Type 0
ActionsAreOfOthers c [] s = Unit {0}
ActionsAreOfOthers c (a ∷ actions) s = (is_number c.number (acts_on a s) ≡ false) × ActionsAreOfOthers c actions (after a s)

abbrev pub OthersAlong : Type 0
OthersAlong =
    (c : Call) (actions : List Action) (s t : Seen) → IsBook s → numbered s.calls c.number ≡ Some c → Does actions s t → ActionsAreOfOthers c actions s → IsApart s t c

-- where nothing changed of a call, session and channel agree of it as before, with a ledger that is of the later history, and the tokens that its bucket
-- then has
pub record IsRecorded (t : Seen) (c : Call) (ledger : Ledger) : Type 0 where
  pub entry_is : entry t ≡ ledger.entry
  pub rows : map (λ a. a.row) t.attempts ≡ ledger.rows
  pub call_is : numbered ledger.calls c.number ≡ Some (call_seen t c)

abbrev pub tokens_in_run : Seen → Option ℕ → Option Bucket
tokens_in_run s run = option_map (bucket_of s) (option_and_then (numbered s.runs) run)

abbrev pub OthersAreSeen : Type 0
OthersAreSeen =
    (s t : Seen) (c : Call) (x : Stepped) (ledger : Ledger) (acts : List CallAct) → IsApart s t c → Sees s c x → IsInOrder s c → IsRecorded t c ledger
    → Sees t c (lent x.call ledger (tokens_in_run t (run_number c t)) acts)

-- the ledger of another call's step is such a one, where that step left what it says of this call
abbrev pub LedgersAreShared : Type 0
LedgersAreShared =
    (s t : Seen) (c d : Call) (x y : Stepped) → IsApart s t c → Sees s c x → Sees t d y
    → numbered y.ledger.calls c.number ≡ numbered x.ledger.calls c.number → IsRecorded t c y.ledger

-- and what the session keeps in order of it is so still
abbrev pub OthersAreInOrder : Type 0
OthersAreInOrder = (s t : Seen) (c : Call) → IsApart s t c → IsBook t → numbered s.calls c.number ≡ Some c → IsInOrder s c → IsInOrder t c

abbrev pub OthersAreInTurn : Type 0
OthersAreInTurn =
    (s t : Seen) (c : Call) → IsApart s t c → IsBook t → numbered s.calls c.number ≡ Some c → IsInOrder s c → IsInTurn s c → IsInTurn t c

-- the tokens of a run change only by an end that counts in it; of another run they are as before
abbrev pub TokensStay : Type 0
TokensStay =
    (s : Seen) (a : Action) (run : ℕ) → IsBook s → IsFair a s → is_some (numbered s.runs run) ≡ true → is_number run (counts_in a s) ≡ false
    → tokens_in_run (after a s) (Some run) ≡ tokens_in_run s (Some run)

-- calls of one run of throttle settings have one bucket, also after an end that counts in it
abbrev pub TokensAreShared : Type 0
TokensAreShared =
    (t : Seen) (c d : Call) (x y : Stepped) → Sees t c x → Sees t d y → run_number c t ≡ run_number d t → x.tokens ≡ y.tokens
