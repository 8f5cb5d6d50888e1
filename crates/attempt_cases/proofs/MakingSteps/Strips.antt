-- The channel takes the timers of all calls that are due out before it makes the first attempt. What is done to one call does not look at the timers of the
-- others: it is the same with them and without.
use Rattle.std.proofs.Common.{◌≡◌, ◌∙◌, ◌-◌, ◌∷◌, Bool, true, false, List, [], Option, None, Some, ℕ, ap, refl, sym, if◌then◌else◌, slice_set}
use Rattle.std.specs.BTreeSet.{insert_key}
use Rattle.attempt_ledger.specs.declared.ledger.LinkSeen.{LinkSeen}
use Rattle.call_core.specs.Steps as call
use Rattle.call_core.specs.Steps.{Stepped, lent}
use Rattle.call_core.specs.declared.act.CallAct.{CallAct}
use Rattle.call_core.specs.declared.act.CallAct.TheVariants as act
use Rattle.channel_actions.proofs.Links.Settings.Slots.{asked_is, changed_slot_is, set_twice}
use Rattle.channel_core.proofs.Places.{put_there}
use Rattle.channel_core.specs.Books.{BookActs, deadline_of, due_at, link_of, row_at, slot_at, waits_at}
use Rattle.channel_core.specs.States.{StateSeen}
use Rattle.channel_core.specs.Steps as step
use Rattle.channel_core.specs.Steps.{act_done, acts_done, call_asked, followed, is_gone, left_on, links_sealed, made_one, reset_on, resets_taken, sealed, sealed_one, stamped_gone, timers_moved, timers_moved_to, with_book, with_ledger_links}
use Rattle.channel_core.specs.Tables.{changed_slot, numbered, tokens_in, with_call, with_timers, without_due}
use Rattle.channel_core.specs.Timing.{timer_moved}
use Rattle.channel_core.specs.declared.state.slots.CallSlot.{CallSlot}
use Rattle.ledger_stamps.specs.Steps.{changed_at, gone_link}
use Rattle.picker_gate.specs.Pairs.{pair_cmp}

-- with other timers
abbrev pub with_dues : List (ℕ × ℕ) → List CallSlot → StateSeen → StateSeen
with_dues dues calls y = record y { dues = dues; book = record y.book { calls = calls } }

-- the acts of a call
module _ (n : ℕ) (dues : List (ℕ × ℕ)) (calls : List CallSlot) where
  gone_if : (b : Bool) (l : List LinkSeen) (v : StateSeen)
      → (if b then with_ledger_links l (with_dues dues calls v) else with_dues dues calls v) ≡ with_dues dues calls (if b then with_ledger_links l v else v)
  gone_if true l v = refl
  gone_if false l v = refl

  gone_strip : (link : ℕ) (v : StateSeen) → stamped_gone link (with_dues dues calls v) ≡ with_dues dues calls (stamped_gone link v)
  gone_strip link v = gone_if (is_gone link v) (changed_at (gone_link v.book.ledger.entry) v.book.ledger.links link) v

  act_strip : (a : CallAct) (v : StateSeen) → waits_at (numbered calls n) ≡ waits_at (slot_at v.book n)
      → act_done n a (with_dues dues calls v) ≡ with_dues dues calls (act_done n a v)
  act_strip (act.Cut row) v waits =
      let link : ℕ = link_of (row_at v.book row) in
      let w : StateSeen = reset_on link row v in
      gone_strip link (step.left_after link row w)
  act_strip (act.Drop row) v waits = refl
  act_strip (act.Queue row) v waits =
      ap (λ (b : Bool). record (with_dues dues calls v) {
        ready_waiters = if b then insert_key pair_cmp v.ready_waiters (n, row) else v.ready_waiters;
        queue = if b then v.queue else insert_key pair_cmp v.queue (n, row);
      }) waits
  act_strip (act.End why) v waits = refl

gone_calls : (b : Bool) (l : List LinkSeen) (v : StateSeen) → (if b then with_ledger_links l v else v).book.calls ≡ v.book.calls
gone_calls true l v = refl
gone_calls false l v = refl

gone_dues : (b : Bool) (l : List LinkSeen) (v : StateSeen) → (if b then with_ledger_links l v else v).dues ≡ v.dues
gone_dues true l v = refl
gone_dues false l v = refl

gone_moment : (b : Bool) (l : List LinkSeen) (v : StateSeen) → (if b then with_ledger_links l v else v).book.moment ≡ v.book.moment
gone_moment true l v = refl
gone_moment false l v = refl

-- the acts leave calls, timers and the moment
pub record Leaves (v w : StateSeen) : Type 0 where
  pub calls : w.book.calls ≡ v.book.calls
  pub dues : w.dues ≡ v.dues
  pub moment : w.book.moment ≡ v.book.moment

act_leaves : (n : ℕ) (a : CallAct) (v : StateSeen) → Leaves v (act_done n a v)
act_leaves n (act.Cut row) v =
    let link : ℕ = link_of (row_at v.book row) in
    let w : StateSeen = step.left_after link row (reset_on link row v) in
    let l : List LinkSeen = changed_at (gone_link w.book.ledger.entry) w.book.ledger.links link in
    record { calls = gone_calls (is_gone link w) l w; dues = gone_dues (is_gone link w) l w; moment = gone_moment (is_gone link w) l w }
act_leaves n (act.Drop row) v = record { calls = refl; dues = refl; moment = refl }
act_leaves n (act.Queue row) v = record { calls = refl; dues = refl; moment = refl }
act_leaves n (act.End why) v = record { calls = refl; dues = refl; moment = refl }

acts_leave : (n : ℕ) (acts : List CallAct) (v : StateSeen) → Leaves v (acts_done n acts v)
acts_leave n [] v = record { calls = refl; dues = refl; moment = refl }
acts_leave n (a ∷ acts) v =
    let one : Leaves v (act_done n a v) = act_leaves n a v in
    let more : Leaves (act_done n a v) (acts_done n acts (act_done n a v)) = acts_leave n acts (act_done n a v) in
    record { calls = more.calls ∙ one.calls; dues = more.dues ∙ one.dues; moment = more.moment ∙ one.moment }

acts_strip : (n : ℕ) (dues : List (ℕ × ℕ)) (calls : List CallSlot) (acts : List CallAct) (v : StateSeen) → waits_at (numbered calls n) ≡ waits_at (slot_at v.book n)
    → acts_done n acts (with_dues dues calls v) ≡ with_dues dues calls (acts_done n acts v)
acts_strip n dues calls [] v waits = refl
acts_strip n dues calls (a ∷ acts) v waits =
    ap (acts_done n acts) (act_strip n dues calls a v waits)
    ∙ acts_strip n dues calls acts (act_done n a v) (waits ∙ sym (ap (λ (l : List CallSlot). waits_at (numbered l n)) (act_leaves n a v).calls))

-- resets are sealed
seal_strip : (dues : List (ℕ × ℕ)) (calls : List CallSlot) (l : List ℕ) (v : StateSeen) → links_sealed l (with_dues dues calls v) ≡ with_dues dues calls (links_sealed l v)
seal_strip dues calls [] v = refl
seal_strip dues calls (link ∷ l) v = seal_strip dues calls l (sealed_one link v)

seal_leaves : (l : List ℕ) (v : StateSeen) → Leaves v (links_sealed l v)
seal_leaves [] v = record { calls = refl; dues = refl; moment = refl }
seal_leaves (link ∷ l) v = (let more : Leaves (sealed_one link v) (links_sealed l (sealed_one link v)) = seal_leaves l (sealed_one link v) in record { calls = more.calls; dues = more.dues; moment = more.moment })

module _ (n : ℕ) (slot : CallSlot) (y : StateSeen) (there : slot_at y.book n ≡ Some slot) where
  abbrev st : Stepped
  st = call.made_due y.book.moment (lent slot.call y.book.ledger (tokens_in y.book.buckets slot.bucket) [])

  abbrev s1 : CallSlot
  s1 = with_call st.call slot

  -- its slot after it
  abbrev pub slot_after : CallSlot
  slot_after = with_timers (due_at (Some s1)) (deadline_of (Some s1)) s1

  abbrev calls1 : List CallSlot
  calls1 = slice_set y.book.calls (n - 1) s1

  abbrev v : StateSeen
  v = record y { book = record y.book { calls = calls1; ledger = st.ledger } }

  abbrev w : StateSeen
  w = acts_done n st.acts v

  asked : call_asked (call.made_due y.book.moment) n y ≡ timers_moved n w
  asked = ap (λ (b : BookActs). with_book b n y) (asked_is (call.made_due y.book.moment) n y.book slot there)

  there1 : slot_at w.book n ≡ Some s1
  there1 = ap (λ (l : List CallSlot). numbered l n) (acts_leave n st.acts v).calls ∙ put_there y.book.calls n slot s1 there

  abbrev u : StateSeen
  u = timers_moved_to n (Some s1) w

  timers_are : timers_moved n w ≡ u
  timers_are = ap (λ (q : Option CallSlot). timers_moved_to n q w) there1

  calls_are : changed_slot (with_timers (due_at (Some s1)) (deadline_of (Some s1))) calls1 n ≡ slice_set y.book.calls (n - 1) slot_after
  calls_are =
      changed_slot_is (with_timers (due_at (Some s1)) (deadline_of (Some s1))) calls1 n s1 (put_there y.book.calls n slot s1 there)
      ∙ set_twice y.book.calls (n - 1) s1 slot_after

  made_is : made_one n y ≡ sealed u
  made_is = ap sealed (asked ∙ timers_are)

  seals : Leaves u (sealed u)
  seals = (let more : Leaves (resets_taken u) (sealed u) = seal_leaves u.resets (resets_taken u) in record { calls = more.calls; dues = more.dues; moment = more.moment })

  pub made_calls : (made_one n y).book.calls ≡ slice_set y.book.calls (n - 1) slot_after
  made_calls =
      ap (λ (z : StateSeen). z.book.calls) made_is ∙ seals.calls
      ∙ ap (λ (l : List CallSlot). changed_slot (with_timers (due_at (Some s1)) (deadline_of (Some s1))) l n) (acts_leave n st.acts v).calls ∙ calls_are

  pub made_dues : (made_one n y).dues ≡ timer_moved n slot.due slot_after.due y.dues
  made_dues =
      ap (λ (z : StateSeen). z.dues) made_is ∙ seals.dues ∙ ap (timer_moved n slot.due slot_after.due) (acts_leave n st.acts v).dues

  pub made_moment : (made_one n y).book.moment ≡ y.book.moment
  made_moment = ap (λ (z : StateSeen). z.book.moment) made_is ∙ seals.moment ∙ (acts_leave n st.acts v).moment

  -- and without its timer
  module _ (dues : List (ℕ × ℕ)) (calls : List CallSlot) (there_too : numbered calls n ≡ Some (without_due slot)) where
    abbrev s2 : CallSlot
    s2 = with_call st.call (without_due slot)

    abbrev calls2 : List CallSlot
    calls2 = slice_set calls (n - 1) s2

    there2 : numbered calls2 n ≡ Some s2
    there2 = put_there calls n (without_due slot) s2 there_too

    asked_too : call_asked (call.made_due y.book.moment) n (with_dues dues calls y) ≡ timers_moved n (acts_done n st.acts (with_dues dues calls2 v))
    asked_too =
        ap (λ (b : BookActs). with_book b n (with_dues dues calls y))
        (asked_is (call.made_due y.book.moment) n (with_dues dues calls y).book (without_due slot) there_too)

    same_waits : waits_at (numbered calls2 n) ≡ waits_at (slot_at v.book n)
    same_waits = ap waits_at there2 ∙ sym (ap waits_at (put_there y.book.calls n slot s1 there))

    calls_too : changed_slot (with_timers (due_at (Some s1)) (deadline_of (Some s1))) calls2 n ≡ slice_set calls (n - 1) slot_after
    calls_too =
        changed_slot_is (with_timers (due_at (Some s1)) (deadline_of (Some s1))) calls2 n s2 there2 ∙ set_twice calls (n - 1) s2 slot_after

    timers_too : timers_moved n (with_dues dues calls2 w) ≡ with_dues (timer_moved n None slot_after.due dues) (slice_set calls (n - 1) slot_after) u
    timers_too =
        ap (λ (q : Option CallSlot). timers_moved_to n q (with_dues dues calls2 w)) there2
        ∙ ap (λ (l : List CallSlot). with_dues (timer_moved n None slot_after.due dues) l u) calls_too

    pub made_too : made_one n (with_dues dues calls y) ≡ with_dues (timer_moved n None slot_after.due dues) (slice_set calls (n - 1) slot_after) (made_one n y)
    made_too =
        ap sealed (asked_too ∙ ap (timers_moved n) (acts_strip n dues calls2 st.acts v same_waits) ∙ timers_too)
        ∙ seal_strip (timer_moved n None slot_after.due dues) (slice_set calls (n - 1) slot_after) u.resets (resets_taken u)
        ∙ sym (ap (with_dues (timer_moved n None slot_after.due dues) (slice_set calls (n - 1) slot_after)) made_is)
