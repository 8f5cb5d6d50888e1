-- What holds of each single thing that is done to a channel, but for what its applications send and finish and what its links take, holds of
-- a whole step without these. `R` joins what was before and what is after. Here: what is done to calls and what comes on links.
use Rattle.std.proofs.Common.{min, length, ◌≡◌, ℕ, true, false, Option, List, [], ◌∷◌, ◌++◌}
use Rattle.grpc_base.specs.declared.event.EndCause.{EndCause}
use Rattle.grpc_base.specs.declared.event.Event.{Event}
use Rattle.grpc_base.specs.declared.event.Event.TheVariants as event
use Rattle.grpc_base.specs.declared.kind.Kind.{Kind}
use Rattle.attempt_ledger.specs.declared.ledger.Ask.{Ask}
use Rattle.attempt_ledger.specs.declared.news.News.{News}
use Rattle.attempt_ledger.specs.declared.row.Placed.{Placed}
use Rattle.ledger_stamps.specs.Steps.{activated_generation, changed_at, gone_link, new_generation, read_link, retired_generation}
use Rattle.call_core.specs.declared.act.CallAct.{CallAct}
use Rattle.call_core.specs.Parts.{is_by_row}
use Rattle.call_core.specs.Steps as call
use Rattle.channel_core.specs.Books.{BookActs, book_acted, book_asked, book_finished, book_placed, book_taken, due_forgotten, timers_set}
use Rattle.channel_core.specs.Draining.{DrainLeaves, drained_limit}
use Rattle.channel_core.specs.States.{StateSeen}
use Rattle.channel_core.specs.Steps as step
use Rattle.channel_core.specs.Steps.{chosen_in, configured_by, is_gone, next_word, overdue_ended, with_ask, with_generations, with_ledger_links}
use Rattle.grpc_base.specs.declared.event.Reply.{Reply}
use Rattle.channel_core.proofs.FairNews.{IsFair}
use Rattle.channel_core.proofs.Resting as resting
use Rattle.channel_core.proofs.Resting.{Comes, IsQuietActionInvariant}
pub use Rattle.channel_core.proofs.Resting.{Begins, ComesUp, Configures, Holds, changed_length, with_book}

pub record IsLocalActionInvariant (R : StateSeen → StateSeen → Type 0) : Type 0 where
  pub joined : (s t u : StateSeen) → R s t → R t u → R s u
  -- what leaves the book, the config that is held and the number of links, and opens no channel that was shut
  pub beside : (s t : StateSeen) → t.book ≡ s.book → t.held ≡ s.held → length t.links ≡ length s.links → (s.shut ≡ true → t.shut ≡ true) → R s t
  -- what is done to one call
  pub timed_out : (number : ℕ) (s : StateSeen) → R s (with_book (book_asked (call.timed_out s.book.moment) number s.book).book s)
  pub closed : (why : EndCause) (number : ℕ) (s : StateSeen) → is_by_row why ≡ false → R s (with_book (book_asked (call.closed_by why s.book.moment) number s.book).book s)
  pub made : (number : ℕ) (s : StateSeen) → R s (with_book (book_asked (call.made_due s.book.moment) number s.book).book s)
  pub handled : (row : ℕ) (reported : News) (number : ℕ) (s : StateSeen) → IsFair reported → R s (with_book (book_acted (call.received_news row reported s.book.moment (next_word s)) number s.book).book s)
  pub failed : (row number : ℕ) (s : StateSeen) → R s (with_book (book_acted (call.pick_failed row s.book.moment (next_word s)) number s.book).book s)
  pub placed : (row : ℕ) (at : Placed) (number : ℕ) (s : StateSeen) → at.entry ≡ s.book.ledger.entry → at.moment ≡ s.book.moment → R s (with_book (book_placed row at number s.book).book s)
  pub taken : (number : ℕ) (s : StateSeen) → R s (with_book (book_taken number s.book) s)
  pub timers : (due deadline : Option ℕ) (number : ℕ) (s : StateSeen) → R s (with_book (timers_set due deadline number s.book) s)
  pub forgotten : (number : ℕ) (s : StateSeen) → R s (with_book (due_forgotten number s.book) s)
  -- the rest of the ledger
  pub asked : (a : Ask) (s : StateSeen) → a.entry ≡ s.book.ledger.entry → R s (with_ask a s)
  pub gone : (link : ℕ) (s : StateSeen) → R s (with_ledger_links (changed_at (gone_link s.book.ledger.entry) s.book.ledger.links link) s)
  pub read : (link read : ℕ) (s : StateSeen) → R s (with_ledger_links (changed_at (read_link read) s.book.ledger.links link) s)
  pub added : (kind : Kind) (s : StateSeen) → R s (with_generations (s.book.ledger.generations ++ new_generation kind ∷ []) s)
  pub activated : (number : ℕ) (s : StateSeen) → R s (with_generations (changed_at (activated_generation s.book.ledger.entry) s.book.ledger.generations number) s)
  pub retired : (number : ℕ) (s : StateSeen) → R s (with_generations (changed_at (retired_generation s.book.ledger.entry) s.book.ledger.generations number) s)

-- what the events that begin a call, bring a link up, bring a config, send, finish or take bytes do
abbrev pub Gone : (StateSeen → StateSeen → Type 0) → Event → Type 0
Gone R (event.Begin request) = Begins R request
Gone R (event.Send number message) = (s : StateSeen) → R s (with_book (book_asked (call.sent message s.book.moment) number s.book).book s)
Gone R (event.Finish number) = (s : StateSeen) → R s (with_book (book_finished number s.book) s)
Gone R (event.Resolved addresses text) = Holds R text
Gone R (event.LinkUp sub) = ComesUp R sub
Gone R (event.Drain link room) = (s t : StateSeen) (r : Reply) → DrainLeaves link (min room drained_limit) s r t → R s t
Gone R e = Unit {0}

-- without what comes on links, and that
pub rests : (R : StateSeen → StateSeen → Type 0) → IsLocalActionInvariant R → IsQuietActionInvariant R
rests R c = record {
  joined = c.joined;
  beside = c.beside;
  timed_out = c.timed_out;
  closed = c.closed;
  made = c.made;
  failed = c.failed;
  placed = c.placed;
  taken = c.taken;
  timers = c.timers;
  forgotten = c.forgotten;
  asked = c.asked;
  gone = c.gone;
  added = c.added;
  activated = c.activated;
  retired = c.retired;
}

pub comes : (R : StateSeen → StateSeen → Type 0) → IsLocalActionInvariant R → Comes R
comes R c = record { handled = c.handled; read = c.read }

-- the events of both
pub gone_with : (R : StateSeen → StateSeen → Type 0) → IsLocalActionInvariant R → (e : Event) → Gone R e → resting.Gone R e
gone_with R c (event.Begin request) k = k
gone_with R c (event.Send number message) k = k
gone_with R c (event.Finish number) k = k
gone_with R c (event.Resolved addresses text) k = k
gone_with R c (event.LinkUp sub) k = k
gone_with R c (event.Drain link room) k = k
gone_with R c (event.Arrived link piece) k = λ s. resting.frames R (rests R c) (comes R c) link piece 0 s
gone_with R c (event.LinkLost link) k = λ s. resting.lose R (rests R c) (comes R c) link true s
gone_with R c e k = tt

module _ (R : StateSeen → StateSeen → Type 0) (c : IsLocalActionInvariant R) where
  pub same : (s : StateSeen) → R s s
  same s = resting.same R (rests R c) s

  pub follow : (number : ℕ) (acts : List CallAct) (s : StateSeen) → R s (step.followed number acts s)
  follow number acts s = resting.follow R (rests R c) number acts s

  pub after_book : (b : BookActs) (number : ℕ) (s t : StateSeen) → t.held ≡ s.held → length t.links ≡ length s.links → (s.shut ≡ true → t.shut ≡ true) → R s (with_book b.book s) → R s (step.with_book b number t)
  after_book b number s t e l shut h = resting.after_book R (rests R c) b number s t e l shut h

  pub then_seal : (s t : StateSeen) → R s t → R s (step.sealed t)
  then_seal s t h = resting.then_seal R (rests R c) s t h

  pub overdue : (s : StateSeen) → R s (overdue_ended s)
  overdue s = resting.overdue R (rests R c) s
