-- A call of the channel is notified that one of its attempts ended, and ends by it: the book, the timers and the draws change, and the call waits for no config.
use Rattle.std.proofs.Common.{◌≡◌, ◌-◌, ◌∷◌, ap, ◌∙◌, List, [], Option, Some, ℕ}
use Rattle.std.specs.Set.{remove_key}
use Rattle.attempt_ledger.specs.declared.news.EndNews.{EndNews}
use Rattle.attempt_ledger.specs.declared.news.News.TheVariants as news
use Rattle.attempt_ledger.specs.declared.row.Row.{Row}
use Rattle.call_core.specs.Steps.{Stepped, received_news}
use Rattle.call_core.specs.declared.act.CallAct.{CallAct}
use Rattle.call_core.specs.declared.act.CallAct.TheVariants as act
use Rattle.channel_actions.proofs.Links.Settings.Slots.{acted_is, changed_slot_is, set_twice}
use Rattle.end_cases.proofs.AttemptEnds.Report.{book_with, slot_after, step_of, reported_form}
use Rattle.channel_core.proofs.Places.{put_there}
use Rattle.channel_core.specs.Books.{BookActs, acted_in, book_acted, book_after, bucket_at, call_of, deadline_of, due_at, has_drawn, row_at, slot_at}
use Rattle.channel_core.specs.States.{StateSeen}
use Rattle.channel_core.specs.Steps.{given_config, drawn_if, next_word, timers_moved_to, reported, reported_acts, reported_to}
use Rattle.channel_core.specs.Tables.{Acted, tokens_in, with_call, with_timers}
use Rattle.channel_core.specs.declared.state.book.Book.{Book}
use Rattle.channel_core.specs.declared.state.slots.CallSlot.{CallSlot}
use Rattle.grpc_base.specs.declared.event.EndCause.{EndCause}
use Rattle.picker_gate.specs.Pairs.{is_same}

abbrev pub closed_form : ℕ → ℕ → Stepped → CallSlot → StateSeen → StateSeen
closed_form place n r slot z = record (reported_form place n r slot z) {
  awaiting_config = remove_key (is_same (0, n)) z.awaiting_config;
  fail_fast = remove_key (is_same (0, n)) z.fail_fast;
}

module _ (place : ℕ) (end : EndNews) (n : ℕ) (z : StateSeen) (slot : CallSlot) (row : Row) (row_is : row_at z.book place ≡ Some row) (call_is : row.call ≡ n)
    (there : slot_at z.book n ≡ Some slot) (why : EndCause) where
  abbrev f : Stepped → Stepped
  f s = received_news place (news.Ended place end) z.book.moment (next_word z) s

  abbrev r : Stepped
  r = step_of place end z slot

  abbrev pub v : CallSlot
  v = with_call r.call slot

  abbrev pub b : Book
  b = book_with n r slot v z.book

  pub acted_so : book_acted f n z.book ≡ record { book = b; acts = r.acts }
  acted_so =
      ap (λ (o : Option CallSlot). acted_in f n (bucket_at o) z.book) there
      ∙ ap (λ (a : Acted). record { book = book_after slot.bucket a.tokens a z.book; acts = a.acts })
      (acted_is f z.book.calls n z.book.ledger (tokens_in z.book.buckets slot.bucket) slot there)

  pub slot_is : slot_at b n ≡ Some v
  slot_is = put_there z.book.calls n slot v there

  abbrev pub drawn_on : StateSeen
  drawn_on = record (drawn_if (has_drawn (row_at b place)) z) { book = b }

  timed : timers_moved_to n (Some v) (given_config n drawn_on) ≡ closed_form place n r slot z
  timed =
      ap (λ (calls : List CallSlot). record (closed_form place n r slot z) { book = record b { calls = calls } })
      (changed_slot_is (with_timers (due_at (Some v)) (deadline_of (Some v))) b.calls n v slot_is
      ∙ set_twice z.book.calls (n - 1) v (slot_after r slot))

  pub reported_end : r.acts ≡ act.End why ∷ [] → reported place (news.Ended place end) z ≡ closed_form place n r slot z
  reported_end one =
      ap (λ (o : Option Row). reported_to (call_of o) place (news.Ended place end) z) row_is
      ∙ ap (λ (k : ℕ). reported_to k place (news.Ended place end) z) call_is
      ∙ ap (λ (a : BookActs). reported_acts a n place z) (acted_so ∙ ap (λ (acts : List CallAct). record { book = b; acts = acts }) one)
      ∙ ap (λ (o : Option CallSlot). timers_moved_to n o (given_config n drawn_on)) slot_is
      ∙ timed
