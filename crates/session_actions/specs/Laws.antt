-- What holds of every list of actions.
-- Example: two lists begin with nothing seen, and each has one action EntryOpens: at 0, with the word 0, of a Tick. Both end with no entry being
-- made. Then both are EntryOpens, EventAnswered, SettlingBegins, EntryCloses.
use Rattle.std.specs.Prelude.{List, None, Option, Some, [], option_to_list, ◌++◌, ◌∷◌, ◌≡◌}
use Rattle.attempt_ledger.specs.declared.ledger.Ledger.{Ledger}
use Rattle.grpc_base.specs.declared.event.Entry.{Entry}
use Rattle.grpc_base.specs.declared.event.Stamped.{Stamped}
use Rattle.session_actions.specs.Sessions.{Does, IsConsistent, new_session}
use Rattle.session_actions.specs.declared.action.Action.{Action}
use Rattle.session_actions.specs.declared.seen.Seen.{Seen}
use Rattle.session_actions.specs.declared.seen.Setup.{Setup}
use Rattle.session_actions.specs.declared.action.Action.TheVariants as action

-- what comes from outside: of each entry the moment, the random word and the event
abbrev pub posted_by : Action → Option Stamped
posted_by (action.EntryOpens posted word e) = Some (record { moment = posted; word = word; event = e })
posted_by _ = None

abbrev pub posted_in : List Action → List Stamped
posted_in [] = []
posted_in (a ∷ actions) = option_to_list (posted_by a) ++ posted_in actions

-- It decides all that happens: two lists of actions that bring the same, and end between two entries, are the same list
abbrev pub PostsDecide : Type 0
PostsDecide =
    (these those : List Action) (s t u : Seen) → Does these s t → Does those s u → t.current ≡ None → u.current ≡ None
    → posted_in these ≡ posted_in those → (these ≡ those) × (t ≡ u)

-- so journal and ledger of a session are a function of its setup and of what was posted
abbrev pub PostsDecideSession : Type 0
PostsDecideSession =
    (setup : Setup) (entries others : List Entry) (ledger other : Ledger)
    (this : IsConsistent setup entries ledger) (that : IsConsistent setup others other)
    → posted_in this.actions ≡ posted_in that.actions → (entries ≡ others) × (ledger ≡ other)
