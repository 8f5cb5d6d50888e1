-- It is reported to the channel that a message is too long, and the messages that came before it in the same frame: the call ends, as any call does.
use Rattle.std.proofs.Common.{◌≡◌, ◌-◌, ◌++◌, ◌==◌, ◌∷◌, not, ap, refl, sym, ◌∙◌, Bool, true, false, List, [], Option, None, Some, ℕ, if◌then◌else◌, is_some, map, slice_set}
use Rattle.std.proofs.lemmas.Bool.{eqb-false, eqb-true}
use Rattle.std.specs.Option.{option_map}
use Rattle.a6_numbers.specs.Throttling.{Bucket}
use Rattle.attempt_ledger.specs.declared.ledger.Ledger.{Ledger}
use Rattle.attempt_ledger.specs.declared.news.News.{News}
use Rattle.attempt_ledger.specs.declared.news.News.TheVariants as news
use Rattle.attempt_ledger.specs.declared.row.Row.{Row}
use Rattle.attempt_ledger.specs.declared.row.RowEnd.{RowEnd}
use Rattle.call_core.specs.Parts.{count_of, cut_end, read_of}
use Rattle.call_core.specs.Steps.{Stepped, closed_by, cut_all, cut_row, ended_as, received_news, is_committed_live, lent}
use Rattle.call_core.specs.declared.live.LiveRow.{LiveRow}
use Rattle.channel_actions.proofs.Links.Settings.Slots.{acted_is}
use Rattle.channel_core.proofs.BookLaws.{number_changed, number_other}
use Rattle.channel_core.specs.Arrivals.{received_all}
use Rattle.channel_core.specs.Books.{BookActs, acted_in, book_acted, book_after, book_asked, bucket_at, call_of, drew_by, has_drawn, placed_in_book, row_at, slot_at}
use Rattle.channel_core.specs.States.{StateSeen}
use Rattle.channel_core.specs.Steps.{call_asked, drawn_if, ends_kept, next_word, reported, reported_acts, reported_to, with_book}
use Rattle.channel_core.specs.Tables.{Acted, BucketsSeen, acted, acted_as, numbered, tokens_in, with_call}
use Rattle.channel_core.specs.declared.state.slots.CallSlot.{CallSlot}
use Rattle.frame_cases.proofs.MessageFrames.Report.{tokens_back}
use Rattle.grpc_base.specs.declared.event.EndCause.{EndCause}
use Rattle.grpc_base.specs.declared.event.EndCause.TheVariants as ending
use Rattle.grpc_link.specs.Response.{message_news}
use Rattle.ledger_stamps.specs.Steps.{changed_at, ended_row, stamped}

-- it stands after the messages
abbrev pub large_news : ℕ → ℕ → List (List ℕ) → List News
large_news tag seen more = map (message_news tag seen) more ++ news.TooLarge tag seen ∷ []

pub messages_first : (link tag seen : ℕ) (more : List (List ℕ)) (z : StateSeen)
    → received_all link (large_news tag seen more) z ≡ reported tag (news.TooLarge tag seen) (received_all link (map (message_news tag seen) more) z)
messages_first link tag seen [] z = refl
messages_first link tag seen (m ∷ more) z = messages_first link tag seen more (reported tag (news.Message tag m seen) z)

pub no_end : (tag seen : ℕ) (more : List (List ℕ)) → ends_kept (large_news tag seen more) [] ≡ []
no_end tag seen [] = refl
no_end tag seen (m ∷ more) = no_end tag seen more

-- a row that is cut off drew nothing
stamp_undrawn : (end : RowEnd) (o : Option RowEnd) → is_some end.word ≡ false → drew_by o ≡ false → drew_by (stamped end o) ≡ false
stamp_undrawn end None none was = none
stamp_undrawn end (Some written) none was = was

drawn_ended : (end : RowEnd) (o : Option Row) → is_some end.word ≡ false → has_drawn o ≡ false → has_drawn (option_map (ended_row end) o) ≡ false
drawn_ended end None none was = was
drawn_ended end (Some row) none was = stamp_undrawn end row.ended none was

module _ (moment : ℕ) (tokens : Option ℕ) (tag : ℕ) where
  cut_by : (end : RowEnd) (rows : List Row) (place : ℕ) (b : Bool) → (tag == place) ≡ b → is_some end.word ≡ false → has_drawn (numbered rows tag) ≡ false
      → has_drawn (numbered (changed_at (ended_row end) rows place) tag) ≡ false
  cut_by end rows place true e none was =
      let same : tag ≡ place = eqb-true tag place e in
      ap (λ (m : ℕ). has_drawn (numbered (changed_at (ended_row end) rows place) m)) same ∙ ap has_drawn (number_changed (ended_row end) rows place)
      ∙ drawn_ended end (numbered rows place) none (ap (λ (m : ℕ). has_drawn (numbered rows m)) (sym same) ∙ was)
  cut_by end rows place false e none was = ap has_drawn (number_other (ended_row end) rows place tag (eqb-false tag place e)) ∙ was

  row_undrawn : (place : ℕ) (o : Option ℕ) (ledger : Ledger) → has_drawn (numbered ledger.rows tag) ≡ false
      → has_drawn (numbered (cut_row moment tokens place ledger o).rows tag) ≡ false
  row_undrawn place None ledger was = was
  row_undrawn place (Some link) ledger was =
      cut_by (cut_end ledger.entry moment (read_of ledger.links link) tokens) ledger.rows place (tag == place) refl refl was

  all_undrawn : (live : List LiveRow) (ledger : Ledger) → has_drawn (numbered ledger.rows tag) ≡ false
      → has_drawn (numbered (cut_all None moment tokens live ledger).rows tag) ≡ false
  all_undrawn [] ledger was = was
  all_undrawn (r ∷ live) ledger was = all_undrawn live (cut_row moment tokens r.place ledger r.link) (row_undrawn r.place r.link ledger was)

-- so it ends the call that is committed to the attempt
module _ (tag seen n : ℕ) (x : StateSeen) (row : Row) (slot : CallSlot) (row_is : row_at x.book tag ≡ Some row) (call_is : row.call ≡ n) (going : row.ended ≡ None)
    (there : slot_at x.book n ≡ Some slot) (live : is_committed_live tag slot.call ≡ true) (open_ : slot.call.ended ≡ None) where
  abbrev what : News
  what = news.TooLarge tag seen

  abbrev f : Stepped → Stepped
  f s = received_news tag what x.book.moment (next_word x) s

  abbrev pub g : Stepped → Stepped
  g s = closed_by ending.Response x.book.moment s

  abbrev tokens : Option Bucket
  tokens = tokens_in x.book.buckets slot.bucket

  abbrev begun : Stepped
  begun = lent slot.call x.book.ledger tokens []

  abbrev done : Stepped
  done = ended_as ending.Response x.book.moment begun

  received_is : f begun ≡ done
  received_is = ap (λ (b : Bool). if b then done else begun) live

  closed_is : g begun ≡ done
  closed_is = ap (λ (q : Option EndCause). if not (is_some q) then done else begun) open_

  abbrev after_ : BookActs
  after_ = record { book = record x.book { calls = slice_set x.book.calls (n - 1) (with_call done.call slot); ledger = done.ledger }; acts = done.acts }

  acted_so : book_acted f n x.book ≡ after_
  acted_so =
      ap (λ (o : Option CallSlot). acted_in f n (bucket_at o) x.book) there
      ∙ ap (λ (a : Acted). record { book = book_after slot.bucket a.tokens a x.book; acts = a.acts })
      (acted_is f x.book.calls n x.book.ledger tokens slot there ∙ ap (acted_as x.book.calls (n - 1) slot) received_is)
      ∙ ap (λ (b : BucketsSeen). record { book = record after_.book { buckets = b }; acts = done.acts }) (tokens_back slot.bucket x.book.buckets)

  asked_so : book_asked g n x.book ≡ after_
  asked_so =
      ap (λ (o : Option CallSlot). placed_in_book (acted g x.book.calls n x.book.ledger (tokens_in x.book.buckets (bucket_at o))) x.book) there
      ∙ ap (λ (a : Acted). placed_in_book a x.book)
      (acted_is g x.book.calls n x.book.ledger tokens slot there ∙ ap (acted_as x.book.calls (n - 1) slot) closed_is)

  undrawn : has_drawn (row_at after_.book tag) ≡ false
  undrawn = all_undrawn x.book.moment (count_of tokens) tag slot.call.live x.book.ledger (ap has_drawn row_is ∙ ap drew_by going)

  pub reported_large : reported tag what x ≡ call_asked g n x
  reported_large =
      ap (λ (o : Option Row). reported_to (call_of o) tag what x) row_is
      ∙ ap (λ (j : ℕ). reported_to j tag what x) call_is
      ∙ ap (λ (b : BookActs). reported_acts b n tag x) acted_so
      ∙ ap (λ (d : Bool). with_book after_ n (drawn_if d x)) undrawn
      ∙ sym (ap (λ (b : BookActs). with_book b n x) asked_so)
