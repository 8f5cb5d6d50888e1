-- What the end of a call does to the channel hangs on its deadlines in these alone; and a call whose deadline has come is closed by it.
use Rattle.std.proofs.Common.{◌≡◌, ◌-◌, ◌∷◌, ap, refl, sym, ◌∙◌, Bool, true, false, List, [], Option, None, Some, ℕ, if◌then◌else◌, is_none, is_some, nat_le, not}
use Rattle.attempt_ledger.specs.declared.ledger.LinkSeen.{LinkSeen}
use Rattle.call_core.specs.Steps as call
use Rattle.call_core.specs.Steps.{Stepped, ended_as, lent}
use Rattle.call_core.specs.declared.act.CallAct.{CallAct}
use Rattle.call_core.specs.declared.act.CallAct.TheVariants as act
use Rattle.channel_actions.proofs.ActsFollowed.Acts.{acts_form}
use Rattle.channel_actions.proofs.Links.Settings.Slots.{asked_is}
use Rattle.channel_actions.specs.ActsFollowed.Followed.{call_closed, call_lent}
use Rattle.channel_core.proofs.Places.{put_there}
use Rattle.channel_core.specs.Books.{BookActs, book_asked, deadline_of, deadline_set, link_of, placed_in_book, slot_at}
use Rattle.channel_core.specs.States.{StateSeen}
use Rattle.channel_core.specs.Steps.{act_done, acts_done, closed, is_gone, links_sealed, reset_on, resets_taken, sealed, sealed_one, timed_out, timers_moved, with_book, with_ledger_links}
use Rattle.channel_core.specs.Tables.{acted_as, numbered, tokens_in, with_call}
use Rattle.channel_core.specs.Timing.{timer_moved}
use Rattle.channel_core.specs.declared.state.slots.CallSlot.{CallSlot}
use Rattle.grpc_base.specs.declared.event.EndCause.{EndCause}
use Rattle.grpc_base.specs.declared.event.EndCause.TheVariants as ending
use Rattle.ledger_stamps.specs.Steps.{changed_at, gone_link}
use Rattle.picker_gate.specs.Pairs.{is_same}
use Rattle.std.specs.Set.{remove_key}

abbrev pub at : List (ℕ × ℕ) → StateSeen → StateSeen
at d z = record z { deadlines = d }

stamped_at : (b : Bool) (ls : List LinkSeen) (d : List (ℕ × ℕ)) (z : StateSeen) → (if b then with_ledger_links ls (at d z) else at d z) ≡ at d (if b then with_ledger_links ls z else z)
stamped_at true ls d z = refl
stamped_at false ls d z = refl

act_at : (n : ℕ) (a : CallAct) (d : List (ℕ × ℕ)) (z : StateSeen) → act_done n a (at d z) ≡ at d (act_done n a z)
act_at n (act.Cut row) d z =
    let link : ℕ = link_of (numbered z.book.ledger.rows row) in
    let y : StateSeen = record (reset_on link row z) { outstanding = remove_key (is_same (link, row)) z.outstanding } in
    stamped_at (is_gone link y) (changed_at (gone_link y.book.ledger.entry) y.book.ledger.links link) d y
act_at n (act.Drop row) d z = refl
act_at n (act.Queue row) d z = refl
act_at n (act.End why) d z = refl

acts_at : (n : ℕ) (acts : List CallAct) (d : List (ℕ × ℕ)) (z : StateSeen) → acts_done n acts (at d z) ≡ at d (acts_done n acts z)
acts_at n [] d z = refl
acts_at n (a ∷ acts) d z = ap (acts_done n acts) (act_at n a d z) ∙ acts_at n acts d (act_done n a z)

sealed_at : (ls : List ℕ) (d : List (ℕ × ℕ)) (z : StateSeen) → links_sealed ls (at d z) ≡ at d (links_sealed ls z)
sealed_at [] d z = refl
sealed_at (link ∷ ls) d z = sealed_at ls d (sealed_one link z)

module _ (why : EndCause) (n : ℕ) (z : StateSeen) (slot : CallSlot) (there : slot_at z.book n ≡ Some slot) (going : slot.call.ended ≡ None) where
  abbrev booked : BookActs
  booked = book_asked (call.closed_by why z.book.moment) n z.book

  abbrev begun : StateSeen
  begun = record z { book = booked.book }

  abbrev acted : StateSeen
  acted = acts_done n booked.acts begun

  abbrev after : CallSlot
  after = with_call (call_closed why z slot).call slot

  booked_is : booked ≡ placed_in_book (acted_as z.book.calls (n - 1) slot (call_closed why z slot)) z.book
  booked_is = asked_is (call.closed_by why z.book.moment) n z.book slot there

  slot_is : slot_at acted.book n ≡ Some after
  slot_is =
      ap (λ (y : StateSeen). slot_at y.book n) (acts_form n booked.acts begun)
      ∙ ap (λ (b : BookActs). slot_at b.book n) booked_is ∙ put_there z.book.calls n slot after there

  ended_is : (call_closed why z slot).call.ended ≡ Some why
  ended_is = ap (λ (q : Option EndCause). (if not (is_some q) then ended_as why z.book.moment (call_lent z slot) else call_lent z slot).call.ended) going

  no_deadline : deadline_of (Some after) ≡ None
  no_deadline = ap (λ (q : Option EndCause). if is_none q then call.deadline_at (call_closed why z slot).call else None) ended_is

  moved_is : (d : List (ℕ × ℕ)) → timer_moved n (deadline_set (slot_at acted.book n)) (deadline_of (slot_at acted.book n)) d ≡ timer_moved n slot.deadline None d
  moved_is d =
      ap (λ (q : Option CallSlot). timer_moved n (deadline_set q) (deadline_of q) d) slot_is ∙ ap (λ (q : Option ℕ). timer_moved n slot.deadline q d) no_deadline

  pub closed_at : (d : List (ℕ × ℕ)) → closed why n (at d z) ≡ at (timer_moved n slot.deadline None d) (closed why n z)
  closed_at d =
      ap (λ (y : StateSeen). sealed (timers_moved n y)) (acts_at n booked.acts d begun)
      ∙ ap (λ (e : List (ℕ × ℕ)). links_sealed (timers_moved n acted).resets (at e (resets_taken (timers_moved n acted)))) (moved_is d)
      ∙ sealed_at (timers_moved n acted).resets (timer_moved n slot.deadline None d) (resets_taken (timers_moved n acted))

  pub deadlines_are : (closed why n z).deadlines ≡ timer_moved n slot.deadline None z.deadlines
  deadlines_are = ap (λ (y : StateSeen). y.deadlines) (closed_at z.deadlines)

-- by its deadline
module _ (n : ℕ) (z : StateSeen) (slot : CallSlot) (there : slot_at z.book n ≡ Some slot) (moment : ℕ) (due : call.deadline_at slot.call ≡ Some moment)
    (come : nat_le moment z.book.moment ≡ true) where
  abbrev given : Stepped
  given = lent slot.call z.book.ledger (tokens_in z.book.buckets slot.bucket) []

  step_is : call.timed_out z.book.moment given ≡ call.closed_by ending.Deadline z.book.moment given
  step_is =
      ap (λ (q : Option ℕ). call.timed_out_if q z.book.moment given) due
      ∙ ap (λ (b : Bool). if b then call.closed_by ending.Deadline z.book.moment given else given) come

  book_is : book_asked (call.timed_out z.book.moment) n z.book ≡ book_asked (call.closed_by ending.Deadline z.book.moment) n z.book
  book_is =
      asked_is (call.timed_out z.book.moment) n z.book slot there
      ∙ ap (λ (y : Stepped). placed_in_book (acted_as z.book.calls (n - 1) slot y) z.book) step_is
      ∙ sym (asked_is (call.closed_by ending.Deadline z.book.moment) n z.book slot there)

  pub timed_out_is : timed_out n z ≡ closed ending.Deadline n z
  timed_out_is = ap (λ (b : BookActs). sealed (with_book b n z)) book_is
