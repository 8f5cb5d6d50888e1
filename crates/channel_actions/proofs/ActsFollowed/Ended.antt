-- The end of a call, followed by the whole channel.
use Rattle.std.proofs.Common.{◌≡◌, ◌-◌, ◌∷◌, ◌++◌, not, ap, arith, refl, sym, ◌∙◌, List, [], Option, None, Some, ℕ, zero, suc, if◌then◌else◌, is_none, is_some, map, slice_get, slice_set}
use Rattle.std.specs.List.{AllByRecursion}
use Rattle.std.specs.Set.{remove_key}
use Rattle.channel_actions.proofs.ActsFollowed.Acts.{IsDone, LinkIn, acts_form, all_done, done_append, given, link_list, links_of, parts_of, reported_is}
use Rattle.channel_actions.specs.ActsFollowed.Followed.{all_closed, all_given_up, all_out_gone, all_queue_gone, call_closed, call_lent, closed_in, followed_by_end, slot_closed}
use Rattle.channel_actions.specs.ActsFollowed.Laws.{CanEnd, EndsAreFollowed, IsLinked, LinkIs}
use Rattle.attempt_ledger.specs.declared.ledger.LinkSeen.{LinkSeen}
use Rattle.call_core.specs.Steps.{Stepped, closed_by, deadline_at, ended_as, next_due}
use Rattle.call_core.specs.declared.act.CallAct.{CallAct}
use Rattle.call_core.specs.declared.act.CallAct.TheVariants as act
use Rattle.call_core.specs.declared.live.LiveRow.{LiveRow}
use Rattle.channel_core.specs.Books.{BookActs, book_asked, deadline_of, due_at, slot_at}
use Rattle.channel_core.specs.States.{StateSeen}
use Rattle.channel_core.specs.Steps.{acts_done, call_asked, closed, links_sealed, sealed, sealed_one, timers_moved_to, with_book}
use Rattle.channel_core.specs.Tables.{changed_slot, numbered, sealed_in, with_call, with_timers}
use Rattle.channel_core.specs.Timing.{timer_moved}
use Rattle.channel_core.specs.declared.state.links.LinkSlot.{LinkSlot}
use Rattle.channel_core.specs.declared.state.slots.CallSlot.{CallSlot}
use Rattle.grpc_base.specs.declared.event.EndCause.{EndCause}
use Rattle.picker_gate.specs.Pairs.{is_same}
use Rattle.channel_actions.proofs.Links.Settings.Slots.{asked_is, changed_slot_is, set_twice}

-- what is sealed
abbrev seal_all : List ℕ → List LinkSlot → List LinkSlot
seal_all [] links = links
seal_all (link ∷ ls) links = seal_all ls (sealed_in link links)

sealed_is : (ls : List ℕ) (z : StateSeen) → links_sealed ls z ≡ record z { links = seal_all ls z.links }
sealed_is [] z = refl
sealed_is (link ∷ ls) z = sealed_is ls (sealed_one link z)

seal_on : (xs ys : List ℕ) (links : List LinkSlot) → seal_all (xs ++ ys) links ≡ seal_all ys (seal_all xs links)
seal_on [] ys links = refl
seal_on (x ∷ xs) ys links = seal_on xs ys (sealed_in x links)

seal_link : (o : Option ℕ) (links : List LinkSlot) → seal_all (link_list o) links ≡ closed_in o links
seal_link None links = refl
seal_link (Some link) links = refl

seal_rows : (live : List LiveRow) (links : List LinkSlot) → seal_all (links_of live) links ≡ all_closed live links
seal_rows [] links = refl
seal_rows (r ∷ live) links =
    seal_on (link_list r.link) (links_of live) links ∙ ap (seal_all (links_of live)) (seal_link r.link links) ∙ seal_rows live (closed_in r.link links)

-- a slot that was put in
put_get : {X : Type 0} (xs : List X) (i : ℕ) (x v : X) → slice_get xs i ≡ Some x → slice_get (slice_set xs i v) i ≡ Some v
put_get [] i x v e = absurd (cc)
put_get (y ∷ xs) zero x v e = refl
put_get (y ∷ xs) (suc i) x v e = put_get xs i x v e

put_here : {X : Type 0} (xs : List X) (n : ℕ) (x v : X) → numbered xs n ≡ Some x → numbered (slice_set xs (n - 1) v) n ≡ Some v
put_here xs zero x v e = absurd (cc)
put_here xs (suc i) x v e = ap (λ (k : ℕ). slice_get (slice_set xs k v) i) (let p : suc i - 1 ≡ i = omega arith in p) ∙ put_get xs i x v e

module _ (why : EndCause) (n : ℕ) (x : StateSeen) (can : CanEnd why n x) where
  abbrev slot : CallSlot
  slot = can.slot

  abbrev live : List LiveRow
  live = slot.call.live

  abbrev a : Stepped
  a = call_closed why x slot

  abbrev ended : Stepped
  ended = ended_as why x.book.moment (call_lent x slot)

  a_is : a ≡ ended
  a_is = ap (λ (o : Option EndCause). if not (is_some o) then ended else call_lent x slot) can.going

  abbrev acts : List CallAct
  acts = map given live ++ act.End why ∷ []

  acts_are : a.acts ≡ acts
  acts_are = ap (λ (z : Stepped). z.acts) a_is ∙ ap (λ (xs : List CallAct). xs ++ act.End why ∷ []) (reported_is live [])

  ended_is : a.call.ended ≡ Some why
  ended_is = ap (λ (z : Stepped). z.call.ended) a_is

  -- the book, and the acts
  abbrev v : CallSlot
  v = with_call a.call slot

  abbrev x1 : StateSeen
  x1 = record x { book = record x.book { calls = slice_set x.book.calls (n - 1) v; ledger = a.ledger } }

  book_is : book_asked (closed_by why x.book.moment) n x.book ≡ record { book = x1.book; acts = acts }
  book_is =
      asked_is (closed_by why x.book.moment) n x.book slot can.there
      ∙ ap (λ (xs : List CallAct). record { book = x1.book; acts = xs }) acts_are

  abbrev y : StateSeen
  y = acts_done n (map given live) x1

  linked_of : (rows : List LiveRow) → AllByRecursion (IsLinked x why slot) rows → AllByRecursion (λ (r : LiveRow). LinkIn a.ledger.rows r.place r.link) rows
  linked_of [] all = tt
  linked_of (r ∷ rows) all = (link_in r.place r.link all.0, linked_of rows all.1)
    where
      link_in : (place : ℕ) (o : Option ℕ) → LinkIs x why slot place o → LinkIn a.ledger.rows place o
      link_in place None e = e
      link_in place (Some link) e = e

  done : IsDone n live x1 y
  done = all_done n live x1 (linked_of live can.linked)

  abbrev y2 : StateSeen
  y2 = record y { awaiting_config = remove_key (is_same (0, n)) y.awaiting_config; fail_fast = remove_key (is_same (0, n)) y.fail_fast }

  acts_end : acts_done n acts x1 ≡ y2
  acts_end = done_append n (map given live) (act.End why ∷ []) x1

  form : y ≡ parts_of y x1
  form = acts_form n (map given live) x1

  calls_are : y2.book.calls ≡ slice_set x.book.calls (n - 1) v
  calls_are = ap (λ (z : StateSeen). z.book.calls) form

  slot_is : slot_at y2.book n ≡ Some v
  slot_is = ap (λ (cs : List CallSlot). numbered cs n) calls_are ∙ put_here x.book.calls n slot v can.there

  -- its timers
  abbrev y3 : StateSeen
  y3 = timers_moved_to n (Some v) y2

  asked_is_so : call_asked (closed_by why x.book.moment) n x ≡ y3
  asked_is_so =
      ap (λ (b : BookActs). with_book b n x) book_is
      ∙ ap (λ (z : StateSeen). timers_moved_to n (slot_at z.book n) z) acts_end ∙ ap (λ (o : Option CallSlot). timers_moved_to n o y2) slot_is

  no_due : due_at (Some v) ≡ None
  no_due = ap (λ (o : Option EndCause). if is_none o then next_due a.call else None) ended_is

  no_deadline : deadline_of (Some v) ≡ None
  no_deadline = ap (λ (o : Option EndCause). if is_none o then deadline_at a.call else None) ended_is

  -- the channel, by its parts
  abbrev shaped : Option ℕ → Option ℕ → List CallSlot → List LinkSlot → List ℕ → List (ℕ × ℕ) → List (ℕ × ℕ) → List (ℕ × ℕ) → List (ℕ × ℕ) → List (ℕ × ℕ)
      → List LinkSeen → StateSeen
  shaped due deadline calls links resets outstanding queue ready_waiters awaiting_config fail_fast stamps = record x {
    book = record x.book { ledger = record a.ledger { links = stamps }; calls = calls };
    links = links;
    resets = resets;
    outstanding = outstanding;
    queue = queue;
    ready_waiters = ready_waiters;
    dues = timer_moved n slot.due due x.dues;
    deadlines = timer_moved n slot.deadline deadline x.deadlines;
    awaiting_config = remove_key (is_same (0, n)) awaiting_config;
    fail_fast = remove_key (is_same (0, n)) fail_fast;
  }

  abbrev finished : StateSeen → StateSeen
  finished z = timers_moved_to n (Some v) (record z { awaiting_config = remove_key (is_same (0, n)) z.awaiting_config; fail_fast = remove_key (is_same (0, n)) z.fail_fast })

  abbrev timed : Option ℕ → Option ℕ → List CallSlot
  timed due deadline = changed_slot (with_timers due deadline) (slice_set x.book.calls (n - 1) v) n

  abbrev stamps : List LinkSeen
  stamps = y.book.ledger.links

  finished_is : finished y ≡ shaped (due_at (Some v)) (deadline_of (Some v)) (timed (due_at (Some v)) (deadline_of (Some v))) y.links y.resets y.outstanding y.queue y.ready_waiters y.awaiting_config y.fail_fast stamps
  finished_is = ap finished form

  -- no timers any more
  abbrev slots : List CallSlot
  slots = slice_set x.book.calls (n - 1) (slot_closed why x slot)

  abbrev with_slots : Option ℕ → Option ℕ → List CallSlot → StateSeen
  with_slots due deadline calls = shaped due deadline calls y.links y.resets y.outstanding y.queue y.ready_waiters y.awaiting_config y.fail_fast stamps

  timeless : timed None None ≡ slots
  timeless =
      changed_slot_is (with_timers None None) (slice_set x.book.calls (n - 1) v) n v (put_here x.book.calls n slot v can.there)
      ∙ set_twice x.book.calls (n - 1) v (slot_closed why x slot)

  untimed : finished y ≡ with_slots None None slots
  untimed =
      finished_is ∙ ap (λ (d : Option ℕ). with_slots d (deadline_of (Some v)) (timed d (deadline_of (Some v)))) no_due
      ∙ ap (λ (d : Option ℕ). with_slots None d (timed None d)) no_deadline ∙ ap (λ (cs : List CallSlot). with_slots None None cs) timeless

  -- what is sealed
  resets_are : y.resets ≡ links_of live
  resets_are = done.resets ∙ ap (λ (ls : List ℕ). ls ++ links_of live) can.resets

  abbrev unsealed : List LinkSlot → List ℕ → StateSeen
  unsealed links resets = shaped None None slots links resets y.outstanding y.queue y.ready_waiters y.awaiting_config y.fail_fast stamps

  closed_is : closed why n x ≡ unsealed (seal_all (links_of live) y.links) []
  closed_is =
      ap sealed (asked_is_so ∙ untimed) ∙ ap (λ (ls : List ℕ). links_sealed ls (unsealed y.links [])) resets_are ∙ sealed_is (links_of live) (unsealed y.links [])

  -- part by part
  abbrev whole : List LinkSeen → StateSeen
  whole ls =
      shaped None None slots (all_closed live (all_given_up live x.links)) x.resets (all_out_gone live x.outstanding) (all_queue_gone n live x.queue)
      (all_queue_gone n live x.ready_waiters) x.awaiting_config x.fail_fast ls

  links_are : seal_all (links_of live) y.links ≡ all_closed live (all_given_up live x.links)
  links_are = seal_rows live y.links ∙ ap (all_closed live) done.links

  parts_are : closed why n x ≡ whole stamps
  parts_are =
      closed_is
      ∙ ap (λ (ls : List LinkSlot). unsealed ls []) links_are
      ∙ ap (λ (ls : List ℕ). unsealed (all_closed live (all_given_up live x.links)) ls) (sym can.resets)
      ∙ ap (λ (ps : List (ℕ × ℕ)). shaped None None slots (all_closed live (all_given_up live x.links)) x.resets ps y.queue y.ready_waiters y.awaiting_config y.fail_fast stamps) done.outstanding
      ∙ ap (λ (ps : List (ℕ × ℕ)). shaped None None slots (all_closed live (all_given_up live x.links)) x.resets (all_out_gone live x.outstanding) ps y.ready_waiters y.awaiting_config y.fail_fast stamps)
      done.queue
      ∙ ap (λ (ps : List (ℕ × ℕ)). shaped None None slots (all_closed live (all_given_up live x.links)) x.resets (all_out_gone live x.outstanding) (all_queue_gone n live x.queue) ps
      y.awaiting_config y.fail_fast stamps) done.ready_waiters
      ∙ ap (λ (ps : List (ℕ × ℕ)). shaped None None slots (all_closed live (all_given_up live x.links)) x.resets (all_out_gone live x.outstanding) (all_queue_gone n live x.queue)
      (all_queue_gone n live x.ready_waiters) ps y.fail_fast stamps) done.awaiting_config
      ∙ ap (λ (ps : List (ℕ × ℕ)). shaped None None slots (all_closed live (all_given_up live x.links)) x.resets (all_out_gone live x.outstanding) (all_queue_gone n live x.queue)
      (all_queue_gone n live x.ready_waiters) x.awaiting_config ps stamps) done.fail_fast

  pub whole_is : closed why n x ≡ followed_by_end why n x slot (closed why n x).book.ledger
  whole_is = parts_are ∙ ap whole (sym (ap (λ (z : StateSeen). z.book.ledger.links) parts_are))

pub ends_are_followed : EndsAreFollowed
ends_are_followed why n x can = whole_is why n x can
