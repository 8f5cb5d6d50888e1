-- What is asked of each stage of an entry: from the point at its begin the channel's own step leads to the point at its end, and so do actions of the
-- session. These are what a run needs of the parts. Each is proved case by case, by its event or by what is due.
-- Example: a deadline has come, and then call 1 is cancelled, which it ended. `Deadlines` has CallEnds 1 and the ends of its attempts; `Events` has
-- EventRefused with CallEnded; `Settlings` has what is due.
use Rattle.std.specs.Prelude.{None, Some, ℕ, length, max, ◌+◌, ◌≡◌}
use Rattle.channel_actions.specs.Agrees.{Agrees}
use Rattle.channel_actions.specs.Quiescent.{EntriesAreQuiescent, IsAt}
use Rattle.channel_actions.specs.HeldTexts.Fits.{TextsFit}
use Rattle.channel_actions.specs.KeptSessions.Kept.{IsKept}
use Rattle.channel_actions.specs.Known.{IsKnown}
use Rattle.channel_actions.specs.Points.{Reaches, AtRest}
use Rattle.channel_actions.specs.Posted.{IsPosted}
use Rattle.channel_core.specs.Applying.{AnswersBy, begun_at, refusal_of}
use Rattle.channel_core.specs.Settling.{settled}
use Rattle.channel_core.specs.States.{StateSeen}
use Rattle.channel_core.specs.Steps.{overdue_ended}
use Rattle.grpc_base.specs.declared.event.Event.{Event}
use Rattle.grpc_base.specs.declared.event.Reply.{Reply}
use Rattle.session_actions.specs.Actions.{following}
use Rattle.session_actions.specs.CallEnds.{next_deadline}
use Rattle.session_actions.specs.Closing.{entry_made}
use Rattle.session_actions.specs.Entries.{last_moment, opened}
use Rattle.session_actions.specs.Events.{frame_action}
use Rattle.session_actions.specs.declared.action.Action.TheVariants as action
use Rattle.session_actions.specs.declared.entry.OpenEntry.{OpenEntry}
use Rattle.session_actions.specs.declared.entry.Stage.TheVariants as stage
use Rattle.session_actions.specs.declared.seen.Seen.{Seen}

-- an entry opens: at the later of its moment and that of the entry before
abbrev pub Openings : Type 0
Openings =
    (x : StateSeen) (s : Seen) (posted word : ℕ) (e : Event) → AtRest x s
    → Agrees (begun_at (length s.entries + 1) (max (last_moment s) posted) word x) (opened posted word e s)

-- the calls whose deadline has come end, the earliest first, until none is left
pub record IsTimely (x : StateSeen) (o : OpenEntry) (s : Seen) : Type 0 where
  pub reaches : Reaches stage.Event (overdue_ended x) o s
  pub fresh : reaches.entry.turn ≡ o.turn
  pub none : next_deadline reaches.seen ≡ None

abbrev pub DeadlinesOf : (StateSeen → Seen → Type 0) → Type 0
DeadlinesOf Case = (x : StateSeen) (o : OpenEntry) (s : Seen) → Agrees x s → IsAt stage.Event o s → Case x s → IsTimely x o s

abbrev pub Deadlines : Type 0
Deadlines = DeadlinesOf IsKnown

-- the event is answered, or refused; and of a piece each whole frame is read, of a drain each frame that fits is written
pub record IsAnswered (y : StateSeen) (r : Reply) (o : OpenEntry) (s : Seen) : Type 0 where
  pub reaches : Reaches stage.Replied y o s
  pub reply : reaches.entry.reply ≡ Some r
  pub fresh : reaches.entry.turn ≡ None
  pub none : frame_action reaches.entry reaches.seen ≡ None

abbrev pub EventsAnswered : (Event → StateSeen → Seen → Type 0) → Type 0
EventsAnswered Case =
    (x y : StateSeen) (r : Reply) (o : OpenEntry) (s : Seen) → Agrees x s → IsAt stage.Event o s → o.turn ≡ None → next_deadline s ≡ None
    → Case o.event x s → AnswersBy (refusal_of o.event x) o.event x y r → IsAnswered y r o s

abbrev pub Events : Type 0
Events = EventsAnswered (λ e x s. IsPosted e × IsKnown x s)

-- what is due by now is done, until nothing is left but to close the entry
pub record IsSettled (x : StateSeen) (o : OpenEntry) (s : Seen) : Type 0 where
  pub reaches : Reaches stage.Settling (settled x) o s
  pub reply : reaches.entry.reply ≡ o.reply
  pub closes : following reaches.seen ≡ Some action.EntryCloses

abbrev pub SettlingsOf : (StateSeen → Seen → Type 0) → Type 0
SettlingsOf Case =
    (x : StateSeen) (o : OpenEntry) (s : Seen) → Agrees x s → IsAt stage.Settling o s → o.turn ≡ None → Case x s → IsSettled x o s

abbrev pub Settlings : Type 0
Settlings = SettlingsOf (λ x s. TextsFit x s × IsKnown x s)

-- the entry is made, with the links that are gone stamped
abbrev pub Closings : Type 0
Closings =
    (x : StateSeen) (o : OpenEntry) (s : Seen) → Agrees x s → IsAt stage.Settling o s → following s ≡ Some action.EntryCloses → AtRest x (entry_made o s)

-- of the session alone: where an entry that settled closes, nothing follows at once in the next one. (What a line gives hangs on neither the clock nor
-- the stamp of a link; a reset and the answer of a pick are of their own entry.)
abbrev pub ClosingsAreQuiescent : Type 0
ClosingsAreQuiescent = (o : OpenEntry) (s : Seen) → IsAt stage.Settling o s → IsKept s → EntriesAreQuiescent (entry_made o s)
