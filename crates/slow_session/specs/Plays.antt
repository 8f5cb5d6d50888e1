-- What a run of the program does: its events are posted one after the other, and each makes an entry.
use Rattle.std.specs.Prelude.{List, None, [], true, ◌∷◌, ◌≡◌}
use Rattle.attempt_ledger.specs.declared.ledger.Ledger.{Ledger}
use Rattle.grpc_base.specs.declared.event.Entry.{Entry}
use Rattle.grpc_base.specs.declared.event.Stamped.{Stamped}
use Rattle.session_actions.specs.Actions.{after}
use Rattle.session_actions.specs.Entries.{may_open}
use Rattle.session_actions.specs.Laws.{posted_in}
use Rattle.session_actions.specs.Sessions.{Does, IsConsistent}
use Rattle.session_actions.specs.declared.action.Action.{Action}
use Rattle.session_actions.specs.declared.seen.Seen.{Seen}
use Rattle.session_actions.specs.declared.seen.Setup.{Setup}
use Rattle.session_actions.specs.declared.action.Action.TheVariants as action

-- actions, each the next one and none of which posts an event, lead to where no entry is being made
pub record Settles (s t : Seen) : Type 0 where
  pub actions : List Action
  pub does : Does actions s t
  pub unposted : posted_in actions ≡ []
  pub between : t.current ≡ None

-- an event opens an entry, which is made
abbrev pub Makes : Stamped → Seen → Seen → Type 0
Makes x s t = (may_open x.event s ≡ true) × Settles (after (action.EntryOpens x.moment x.word x.event) s) t

-- each event in turn
abbrev pub Plays : List Stamped → Seen → Seen → Type 0
Plays [] s t = t ≡ s
Plays (x ∷ xs) s t = (u : Seen) × Makes x s u × Plays xs u t

-- a journal and a ledger are those of a session in which these events were posted, in turn, each with its moment and random word, and no others.
-- There is only one (`PostsDecideSession` of `session_actions`)
abbrev pub IsSessionOf : Setup → List Stamped → List Entry → Ledger → Type 0
IsSessionOf setup events entries ledger = (session : IsConsistent setup entries ledger) × (posted_in session.actions ≡ events)
