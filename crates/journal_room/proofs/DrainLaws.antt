-- A drain gives no more bytes than it has room, whatever events there were.
use Rattle.std.proofs.Common.{◌≤◌, ℕ, ◌+◌, List, [], ◌∷◌, ◌++◌, length, min, sym, subst, arith, Option, Some, None}
use Rattle.grpc_base.specs.declared.event.Entry.{Entry}
use Rattle.grpc_base.specs.declared.event.Event.{Event}
use Rattle.grpc_base.specs.declared.event.Event.TheVariants as event
use Rattle.grpc_base.specs.declared.event.Refusal.{Refusal}
use Rattle.grpc_base.specs.declared.event.Reply.{Reply}
use Rattle.grpc_base.specs.declared.event.Stamped.{Stamped}
use Rattle.h2_link.specs.Feeds.{Line}
use Rattle.h2_link.specs.declared.news.Drained.{Drained}
use Rattle.channel_core.specs.declared.state.links.LinkSlot.{LinkSlot}
use Rattle.channel_core.specs.Applying as applying
use Rattle.channel_core.specs.Applying.{AnswersBy, refusal_of}
use Rattle.channel_core.specs.Books.{lines_of}
use Rattle.channel_core.specs.Core.{CoreSeen, IsNew, Runs, Steps, moment_of}
use Rattle.channel_core.specs.Draining.{drained_limit, octets_by}
use Rattle.journal_room.specs.Rooms.{EntriesAreWithinRoom, FitsBy}
use Rattle.channel_core.specs.States.{StateSeen}
use Rattle.channel_core.specs.Steps.{overdue_ended}
use Rattle.channel_core.specs.Tables.{DrainGives}

drained_fits : (room : ℕ) (links : List LinkSlot) (link : ℕ) (lines : ℕ → Line) (d : Option Drained) (after : List LinkSlot) (lines_after : ℕ → Line) → DrainGives room links link lines d after lines_after → length (octets_by d) ≤ room
drained_fits room links link lines None after lines_after g = omega arith
drained_fits room links link lines (Some d) after lines_after g = g.drains.sends.fits

answer_fits : (o : Option Refusal) (link room : ℕ) (s t : StateSeen) (r : Reply) → AnswersBy o (event.Drain link room) s t r → FitsBy (event.Drain link room) r
answer_fits (Some why) link room s t r g = subst (λ (x : Reply). FitsBy (event.Drain link room) x) (sym g.1) tt
answer_fits None link room s t r d =
    subst (λ (x : Reply). FitsBy (event.Drain link room) x) (sym d.reply_is) (drained_fits (min room drained_limit) s.links link (lines_of s.book) d.drained t.links (lines_of d.fed) d.gives)

fits : (n m w : ℕ) (e : Event) (old new : StateSeen) (r : Reply) → applying.Stepped n m w e old new r → FitsBy e r
fits n m w (event.Drain link room) old new r h =
    let s : StateSeen = overdue_ended (applying.begun_at n m w old) in
    answer_fits (refusal_of (event.Drain link room) s) link room s h.answered r h.answers
fits n m w e old new r h = tt

-- one entry more
within_more : (es : List Entry) (x : Entry) → FitsBy x.event x.reply → EntriesAreWithinRoom es → EntriesAreWithinRoom (es ++ x ∷ [])
within_more [] x last all = (last, tt)
within_more (e ∷ es) x last all = (all.0, within_more es x last all.1)

within_step : (old new : CoreSeen) (s : Stamped) (r : Reply) → Steps old new s r → EntriesAreWithinRoom old.journal.entries → EntriesAreWithinRoom new.journal.entries
within_step old new s r h all =
    let es : List Entry = old.journal.entries in
    let m : ℕ = moment_of es s in
    let x : Entry = record { moment = m; word = s.word; event = s.event; reply = r; state = applying.conn_of new.state } in
    subst (λ (entries : List Entry). EntriesAreWithinRoom entries) (sym h.journal) (within_more es x (fits (length es + 1) m s.word s.event old.state new.state r h.by) all)

within_runs : (old : CoreSeen) (events : List Stamped) (new : CoreSeen) → Runs old events new → EntriesAreWithinRoom old.journal.entries → EntriesAreWithinRoom new.journal.entries
within_runs old [] new h all = subst (λ (c : CoreSeen). EntriesAreWithinRoom c.journal.entries) (sym h) all
within_runs old (s ∷ events) new h all = within_runs h.0 events new h.3 (within_step old h.0 s h.1 h.2 all)

-- every list of events
pub within_always : (authority : List ℕ) (new core : CoreSeen) (events : List Stamped) → IsNew authority new → Runs new events core → EntriesAreWithinRoom core.journal.entries
within_always authority new core events is runs = within_runs new events core runs (subst (λ (entries : List Entry). EntriesAreWithinRoom entries) (sym is.2.journal) tt)
