-- A call of the channel is notified that one of its attempts ended, and asks for nothing: the book, the timers and the draws change, and nothing else.
use Rattle.std.proofs.Common.{◌≡◌, ◌-◌, ap, refl, ◌∙◌, Bool, true, false, List, [], Option, None, Some, ℕ, if◌then◌else◌, slice_set}
use Rattle.attempt_ledger.specs.declared.ledger.LinkSeen.{LinkSeen}
use Rattle.attempt_ledger.specs.declared.news.EndNews.{EndNews}
use Rattle.attempt_ledger.specs.declared.news.News.TheVariants as news
use Rattle.attempt_ledger.specs.declared.row.Placed.{Placed}
use Rattle.attempt_ledger.specs.declared.row.Row.{Row}
use Rattle.call_core.specs.Steps.{Stepped, ended_at, received_news, lent}
use Rattle.call_core.specs.declared.act.CallAct.{CallAct}
use Rattle.channel_actions.proofs.Links.Settings.Slots.{acted_is, changed_slot_is, set_twice}
use Rattle.end_cases.specs.AttemptEnds.Ends.{gone_with, taken_off}
use Rattle.channel_core.proofs.Places.{put_there}
use Rattle.channel_core.specs.Books.{BookActs, acted_in, book_acted, book_after, bucket_at, call_of, deadline_of, due_at, has_drawn, row_at, slot_at}
use Rattle.channel_core.specs.States.{StateSeen}
use Rattle.channel_core.specs.Steps.{drawn_if, is_gone, next_word, timers_moved_to, reported, reported_acts, reported_to, with_ledger_links}
use Rattle.channel_core.specs.Tables.{Acted, numbered, tokens_in, with_call, with_timers, with_tokens}
use Rattle.channel_core.specs.Timing.{timer_moved}
use Rattle.channel_core.specs.declared.state.book.Book.{Book}
use Rattle.channel_core.specs.declared.state.slots.CallSlot.{CallSlot}

-- what the call then is
abbrev pub lent_of : StateSeen → CallSlot → Stepped
lent_of z slot = lent slot.call z.book.ledger (tokens_in z.book.buckets slot.bucket) []

abbrev pub step_of : ℕ → EndNews → StateSeen → CallSlot → Stepped
step_of place end z slot = ended_at place end z.book.moment (next_word z) (lent_of z slot)

abbrev pub slot_after : Stepped → CallSlot → CallSlot
slot_after r slot = with_timers (due_at (Some (with_call r.call slot))) (deadline_of (Some (with_call r.call slot))) (with_call r.call slot)

-- and the channel
abbrev pub book_with : ℕ → Stepped → CallSlot → CallSlot → Book → Book
book_with n r slot after b = record b {
  calls = slice_set b.calls (n - 1) after;
  ledger = r.ledger;
  buckets = with_tokens slot.bucket r.tokens (with_tokens slot.bucket None b.buckets);
}

abbrev pub reported_form : ℕ → ℕ → Stepped → CallSlot → StateSeen → StateSeen
reported_form place n r slot z = record (drawn_if (has_drawn (numbered r.ledger.rows place)) z) {
  book = book_with n r slot (slot_after r slot) z.book;
  dues = timer_moved n slot.due (due_at (Some (with_call r.call slot))) z.dues;
  deadlines = timer_moved n slot.deadline (deadline_of (Some (with_call r.call slot))) z.deadlines;
}

module _ (place : ℕ) (end : EndNews) (n : ℕ) (z : StateSeen) (slot : CallSlot) (row : Row) (row_is : row_at z.book place ≡ Some row) (call_is : row.call ≡ n)
    (there : slot_at z.book n ≡ Some slot) where
  abbrev f : Stepped → Stepped
  f s = received_news place (news.Ended place end) z.book.moment (next_word z) s

  abbrev r : Stepped
  r = step_of place end z slot

  abbrev v : CallSlot
  v = with_call r.call slot

  abbrev b : Book
  b = book_with n r slot v z.book

  acted_so : book_acted f n z.book ≡ record { book = b; acts = r.acts }
  acted_so =
      ap (λ (o : Option CallSlot). acted_in f n (bucket_at o) z.book) there
      ∙ ap (λ (a : Acted). record { book = book_after slot.bucket a.tokens a z.book; acts = a.acts })
      (acted_is f z.book.calls n z.book.ledger (tokens_in z.book.buckets slot.bucket) slot there)

  slot_is : slot_at b n ≡ Some v
  slot_is = put_there z.book.calls n slot v there

  abbrev drawn_on : StateSeen
  drawn_on = record (drawn_if (has_drawn (row_at b place)) z) { book = b }

  timed : timers_moved_to n (Some v) drawn_on ≡ reported_form place n r slot z
  timed =
      ap (λ (calls : List CallSlot). record (reported_form place n r slot z) { book = record b { calls = calls } })
      (changed_slot_is (with_timers (due_at (Some v)) (deadline_of (Some v))) b.calls n v slot_is
      ∙ set_twice z.book.calls (n - 1) v (slot_after r slot))

  pub reported_is : r.acts ≡ [] → reported place (news.Ended place end) z ≡ reported_form place n r slot z
  reported_is none =
      ap (λ (o : Option Row). reported_to (call_of o) place (news.Ended place end) z) row_is
      ∙ ap (λ (k : ℕ). reported_to k place (news.Ended place end) z) call_is
      ∙ ap (λ (a : BookActs). reported_acts a n place z) (acted_so ∙ ap (λ (acts : List CallAct). record { book = b; acts = acts }) none)
      ∙ ap (λ (o : Option CallSlot). timers_moved_to n o drawn_on) slot_is
      ∙ timed

-- the stamp of a link that is gone changes the ledger's links alone
gone_by : (ls : List LinkSeen) (c : Bool) (z : StateSeen) → (if c then with_ledger_links ls z else z) ≡ with_ledger_links (if c then with_ledger_links ls z else z).book.ledger.links z
gone_by ls true z = refl
gone_by ls false z = refl

pub gone_form : (p : Option Placed) (z : StateSeen) → gone_with p z ≡ with_ledger_links (gone_with p z).book.ledger.links z
gone_form None z = refl
gone_form (Some at) z = gone_by _ (is_gone at.link z) z

-- what is taken off is a pair of one set
pub off_book : (n row : ℕ) (p : Option Placed) (z : StateSeen) → (taken_off n row p z).book ≡ z.book
off_book n row None z = refl
off_book n row (Some at) z = refl
