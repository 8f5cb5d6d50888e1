-- What holds of each single thing that is done to a channel holds of a whole step. `R` joins what was before and what is after.
use Rattle.std.proofs.Common.{length, ◌≡◌, ℕ, true, false, Option, List, [], ◌∷◌, ◌++◌}
use Rattle.grpc_base.specs.declared.event.EndCause.{EndCause}
use Rattle.grpc_base.specs.declared.event.Event.{Event}
use Rattle.grpc_base.specs.declared.event.Event.TheVariants as event
use Rattle.grpc_base.specs.declared.kind.Kind.{Kind}
use Rattle.attempt_ledger.specs.declared.ledger.Ask.{Ask}
use Rattle.attempt_ledger.specs.declared.news.News.{News}
use Rattle.attempt_ledger.specs.declared.row.Placed.{Placed}
use Rattle.ledger_stamps.specs.Steps.{activated_generation, changed_at, gone_link, new_generation, read_link, retired_generation}
use Rattle.call_core.specs.Parts.{is_by_row}
use Rattle.call_core.specs.Steps as call
use Rattle.channel_core.specs.Books.{BookActs, book_acted, book_asked, book_finished, book_placed, book_taken, due_forgotten, timers_set}
use Rattle.channel_core.specs.Draining.{with_streams}
use Rattle.channel_core.specs.Feeding.{book_fed}
use Rattle.channel_core.specs.States.{StateSeen}
use Rattle.channel_core.specs.Steps as step
use Rattle.channel_core.specs.Steps.{chosen_in, configured_by, is_gone, next_word, overdue_ended, with_ask, with_generations, with_ledger_links}
use Rattle.channel_core.proofs.FairNews.{IsFair}
use Rattle.channel_core.proofs.Going as going
use Rattle.channel_core.proofs.Going.{IsLocalActionInvariant}
pub use Rattle.channel_core.proofs.Going.{Begins, ComesUp, Configures, Holds, changed_length, with_book}

pub record IsActionInvariant (R : StateSeen → StateSeen → Type 0) : Type 0 where
  pub joined : (s t u : StateSeen) → R s t → R t u → R s u
  -- what leaves the book, the config that is held and the number of links, and opens no channel that was shut
  pub beside : (s t : StateSeen) → t.book ≡ s.book → t.held ≡ s.held → length t.links ≡ length s.links → (s.shut ≡ true → t.shut ≡ true) → R s t
  -- what is done to one call
  pub timed_out : (number : ℕ) (s : StateSeen) → R s (with_book (book_asked (call.timed_out s.book.moment) number s.book).book s)
  pub closed : (why : EndCause) (number : ℕ) (s : StateSeen) → is_by_row why ≡ false → R s (with_book (book_asked (call.closed_by why s.book.moment) number s.book).book s)
  pub sent : (message : List ℕ) (number : ℕ) (s : StateSeen) → R s (with_book (book_asked (call.sent message s.book.moment) number s.book).book s)
  pub made : (number : ℕ) (s : StateSeen) → R s (with_book (book_asked (call.made_due s.book.moment) number s.book).book s)
  pub handled : (row : ℕ) (reported : News) (number : ℕ) (s : StateSeen) → IsFair reported → R s (with_book (book_acted (call.received_news row reported s.book.moment (next_word s)) number s.book).book s)
  pub failed : (row number : ℕ) (s : StateSeen) → R s (with_book (book_acted (call.pick_failed row s.book.moment (next_word s)) number s.book).book s)
  pub placed : (row : ℕ) (at : Placed) (number : ℕ) (s : StateSeen) → at.entry ≡ s.book.ledger.entry → at.moment ≡ s.book.moment → R s (with_book (book_placed row at number s.book).book s)
  pub finished : (number : ℕ) (s : StateSeen) → R s (with_book (book_finished number s.book) s)
  pub taken : (number : ℕ) (s : StateSeen) → R s (with_book (book_taken number s.book) s)
  pub fed : (row len : ℕ) (s : StateSeen) → R s (with_book (book_fed row len s.book) s)
  pub timers : (due deadline : Option ℕ) (number : ℕ) (s : StateSeen) → R s (with_book (timers_set due deadline number s.book) s)
  pub forgotten : (number : ℕ) (s : StateSeen) → R s (with_book (due_forgotten number s.book) s)
  -- the rest of the ledger
  pub streamed : (row stream : ℕ) (s : StateSeen) → R s (with_book (with_streams ((row, stream) ∷ []) s.book) s)
  pub asked : (a : Ask) (s : StateSeen) → a.entry ≡ s.book.ledger.entry → R s (with_ask a s)
  pub gone : (link : ℕ) (s : StateSeen) → R s (with_ledger_links (changed_at (gone_link s.book.ledger.entry) s.book.ledger.links link) s)
  pub read : (link read : ℕ) (s : StateSeen) → R s (with_ledger_links (changed_at (read_link read) s.book.ledger.links link) s)
  pub added : (kind : Kind) (s : StateSeen) → R s (with_generations (s.book.ledger.generations ++ new_generation kind ∷ []) s)
  pub activated : (number : ℕ) (s : StateSeen) → R s (with_generations (changed_at (activated_generation s.book.ledger.entry) s.book.ledger.generations number) s)
  pub retired : (number : ℕ) (s : StateSeen) → R s (with_generations (changed_at (retired_generation s.book.ledger.entry) s.book.ledger.generations number) s)

-- a weaker relation
pub weaken : (R Q : StateSeen → StateSeen → Type 0) → ((s t : StateSeen) → R s t → Q s t) → ((s t u : StateSeen) → Q s t → Q t u → Q s u) → IsActionInvariant R → IsActionInvariant Q
weaken R Q less joined c = record {
  joined = joined;
  beside = λ s t book held links shut. less s t (c.beside s t book held links shut);
  timed_out = λ number s. less s _ (c.timed_out number s);
  closed = λ why number s by. less s _ (c.closed why number s by);
  sent = λ message number s. less s _ (c.sent message number s);
  made = λ number s. less s _ (c.made number s);
  handled = λ row reported number s fair. less s _ (c.handled row reported number s fair);
  failed = λ row number s. less s _ (c.failed row number s);
  placed = λ row at number s entry moment. less s _ (c.placed row at number s entry moment);
  finished = λ number s. less s _ (c.finished number s);
  taken = λ number s. less s _ (c.taken number s);
  fed = λ row len s. less s _ (c.fed row len s);
  timers = λ due deadline number s. less s _ (c.timers due deadline number s);
  forgotten = λ number s. less s _ (c.forgotten number s);
  streamed = λ row stream s. less s _ (c.streamed row stream s);
  asked = λ a s entry. less s _ (c.asked a s entry);
  gone = λ link s. less s _ (c.gone link s);
  read = λ link read s. less s _ (c.read link read s);
  added = λ kind s. less s _ (c.added kind s);
  activated = λ number s. less s _ (c.activated number s);
  retired = λ number s. less s _ (c.retired number s);
}

abbrev pub Carried : (StateSeen → StateSeen → Type 0) → Event → Type 0
Carried R (event.Begin request) = Begins R request
Carried R (event.LinkUp sub) = ComesUp R sub
Carried R (event.Resolved addresses text) = Holds R text
Carried R e = Unit {0}

-- it holds without what applications send and finish and what links take
pub goes : (R : StateSeen → StateSeen → Type 0) → IsActionInvariant R → IsLocalActionInvariant R
goes R c = record {
  joined = c.joined;
  beside = c.beside;
  timed_out = c.timed_out;
  closed = c.closed;
  made = c.made;
  handled = c.handled;
  failed = c.failed;
  placed = c.placed;
  taken = c.taken;
  timers = c.timers;
  forgotten = c.forgotten;
  asked = c.asked;
  gone = c.gone;
  read = c.read;
  added = c.added;
  activated = c.activated;
  retired = c.retired;
}

module _ (R : StateSeen → StateSeen → Type 0) (c : IsActionInvariant R) where
  pub same : (s : StateSeen) → R s s
  same s = going.same R (goes R c) s

  pub after_book : (b : BookActs) (number : ℕ) (s t : StateSeen) → t.held ≡ s.held → length t.links ≡ length s.links → (s.shut ≡ true → t.shut ≡ true) → R s (with_book b.book s) → R s (step.with_book b number t)
  after_book b number s t e l shut h = going.after_book R (goes R c) b number s t e l shut h

  pub overdue : (s : StateSeen) → R s (overdue_ended s)
  overdue s = going.overdue R (goes R c) s
