-- What a call does by giving rows up, followed by the whole channel: the rows leave the links, the queue and the outstanding pairs, its timers move, and what was
-- queued on links is closed.
use Rattle.std.proofs.Common.{◌≡◌, ◌-◌, ◌∷◌, ◌++◌, ap, arith, refl, sym, ◌∙◌, List, [], Option, None, Some, ℕ, zero, suc, map, slice_get, slice_set}
use Rattle.std.specs.List.{AllByRecursion}
use Rattle.attempt_ledger.specs.declared.ledger.LinkSeen.{LinkSeen}
use Rattle.call_core.specs.Steps.{Stepped}
use Rattle.call_core.specs.declared.act.CallAct.{CallAct}
use Rattle.call_core.specs.declared.live.LiveRow.{LiveRow}
use Rattle.channel_actions.proofs.ActsFollowed.Acts.{IsDone, LinkIn, acts_form, all_done, given, link_list, links_of, parts_of}
use Rattle.channel_actions.proofs.Links.Settings.Slots.{asked_is, changed_slot_is, set_twice}
use Rattle.channel_actions.specs.ActsFollowed.Followed.{all_closed, all_given_up, all_out_gone, all_queue_gone, call_lent, closed_in}
use Rattle.channel_core.specs.Books.{BookActs, book_asked, deadline_of, due_at, slot_at}
use Rattle.channel_core.specs.States.{StateSeen}
use Rattle.channel_core.specs.Steps.{acts_done, call_asked, links_sealed, sealed, sealed_one, timers_moved_to, with_book}
use Rattle.channel_core.specs.Tables.{changed_slot, numbered, sealed_in, with_call, with_timers}
use Rattle.channel_core.specs.Timing.{timer_moved}
use Rattle.channel_core.specs.declared.state.links.LinkSlot.{LinkSlot}
use Rattle.channel_core.specs.declared.state.slots.CallSlot.{CallSlot}

-- what is sealed
abbrev seal_all : List ℕ → List LinkSlot → List LinkSlot
seal_all [] links = links
seal_all (link ∷ ls) links = seal_all ls (sealed_in link links)

sealed_is : (ls : List ℕ) (z : StateSeen) → links_sealed ls z ≡ record z { links = seal_all ls z.links }
sealed_is [] z = refl
sealed_is (link ∷ ls) z = sealed_is ls (sealed_one link z)

seal_on : (xs ys : List ℕ) (links : List LinkSlot) → seal_all (xs ++ ys) links ≡ seal_all ys (seal_all xs links)
seal_on [] ys links = refl
seal_on (x ∷ xs) ys links = seal_on xs ys (sealed_in x links)

seal_link : (o : Option ℕ) (links : List LinkSlot) → seal_all (link_list o) links ≡ closed_in o links
seal_link None links = refl
seal_link (Some link) links = refl

seal_rows : (live : List LiveRow) (links : List LinkSlot) → seal_all (links_of live) links ≡ all_closed live links
seal_rows [] links = refl
seal_rows (r ∷ live) links =
    seal_on (link_list r.link) (links_of live) links ∙ ap (seal_all (links_of live)) (seal_link r.link links) ∙ seal_rows live (closed_in r.link links)

-- a slot that was put in
put_get : {X : Type 0} (xs : List X) (i : ℕ) (x v : X) → slice_get xs i ≡ Some x → slice_get (slice_set xs i v) i ≡ Some v
put_get [] i x v e = absurd (cc)
put_get (y ∷ xs) zero x v e = refl
put_get (y ∷ xs) (suc i) x v e = put_get xs i x v e

pub put_here : {X : Type 0} (xs : List X) (n : ℕ) (x v : X) → numbered xs n ≡ Some x → numbered (slice_set xs (n - 1) v) n ≡ Some v
put_here xs zero x v e = absurd (cc)
put_here xs (suc i) x v e = ap (λ (k : ℕ). slice_get (slice_set xs k v) i) (let p : suc i - 1 ≡ i = omega arith in p) ∙ put_get xs i x v e

module _ (f : Stepped → Stepped) (n : ℕ) (x : StateSeen) (slot : CallSlot) (there : slot_at x.book n ≡ Some slot) (rows : List LiveRow)
    (acts_are : (f (call_lent x slot)).acts ≡ map given rows) (linked : AllByRecursion (λ (r : LiveRow). LinkIn (f (call_lent x slot)).ledger.rows r.place r.link) rows)
    (resets : x.resets ≡ []) where
  abbrev pub a : Stepped
  a = f (call_lent x slot)

  -- the book, and the acts
  abbrev pub v : CallSlot
  v = with_call a.call slot

  abbrev pub x1 : StateSeen
  x1 = record x { book = record x.book { calls = slice_set x.book.calls (n - 1) v; ledger = a.ledger } }

  book_is : book_asked f n x.book ≡ record { book = x1.book; acts = map given rows }
  book_is = asked_is f n x.book slot there ∙ ap (λ (xs : List CallAct). record { book = x1.book; acts = xs }) acts_are

  abbrev y : StateSeen
  y = acts_done n (map given rows) x1

  done : IsDone n rows x1 y
  done = all_done n rows x1 linked

  form : y ≡ parts_of y x1
  form = acts_form n (map given rows) x1

  calls_are : y.book.calls ≡ slice_set x.book.calls (n - 1) v
  calls_are = ap (λ (z : StateSeen). z.book.calls) form

  slot_is : slot_at y.book n ≡ Some v
  slot_is = ap (λ (cs : List CallSlot). numbered cs n) calls_are ∙ put_here x.book.calls n slot v there

  asked_is_so : call_asked f n x ≡ timers_moved_to n (Some v) y
  asked_is_so = ap (λ (b : BookActs). with_book b n x) book_is ∙ ap (λ (o : Option CallSlot). timers_moved_to n o y) slot_is

  -- the slot then
  abbrev pub slot_after : CallSlot
  slot_after = record { call = a.call; bucket = slot.bucket; due = due_at (Some v); deadline = deadline_of (Some v) }

  abbrev pub slots : List CallSlot
  slots = slice_set x.book.calls (n - 1) slot_after

  -- the channel, by its parts
  abbrev pub shaped : List CallSlot → List LinkSlot → List ℕ → List (ℕ × ℕ) → List (ℕ × ℕ) → List (ℕ × ℕ) → List (ℕ × ℕ) → List (ℕ × ℕ) → List LinkSeen → StateSeen
  shaped calls links resets outstanding queue ready_waiters awaiting_config fail_fast stamps = record x {
    book = record x.book { ledger = record a.ledger { links = stamps }; calls = calls };
    links = links;
    resets = resets;
    outstanding = outstanding;
    queue = queue;
    ready_waiters = ready_waiters;
    dues = timer_moved n slot.due (due_at (Some v)) x.dues;
    deadlines = timer_moved n slot.deadline (deadline_of (Some v)) x.deadlines;
    awaiting_config = awaiting_config;
    fail_fast = fail_fast;
  }

  abbrev stamps : List LinkSeen
  stamps = y.book.ledger.links

  timed : changed_slot (with_timers (due_at (Some v)) (deadline_of (Some v))) (slice_set x.book.calls (n - 1) v) n ≡ slots
  timed =
      changed_slot_is (with_timers (due_at (Some v)) (deadline_of (Some v))) (slice_set x.book.calls (n - 1) v) n v (put_here x.book.calls n slot v there)
      ∙ set_twice x.book.calls (n - 1) v slot_after

  moved_is : timers_moved_to n (Some v) y ≡ shaped slots y.links y.resets y.outstanding y.queue y.ready_waiters y.awaiting_config y.fail_fast stamps
  moved_is =
      ap (timers_moved_to n (Some v)) form
      ∙ ap (λ (cs : List CallSlot). shaped cs y.links y.resets y.outstanding y.queue y.ready_waiters y.awaiting_config y.fail_fast stamps) timed

  -- what is sealed
  resets_are : y.resets ≡ links_of rows
  resets_are = done.resets ∙ ap (λ (ls : List ℕ). ls ++ links_of rows) resets

  abbrev unsealed : List LinkSlot → List ℕ → StateSeen
  unsealed links left = shaped slots links left y.outstanding y.queue y.ready_waiters y.awaiting_config y.fail_fast stamps

  sealed_so : sealed (call_asked f n x) ≡ unsealed (seal_all (links_of rows) y.links) []
  sealed_so =
      ap sealed (asked_is_so ∙ moved_is) ∙ ap (λ (ls : List ℕ). links_sealed ls (unsealed y.links [])) resets_are ∙ sealed_is (links_of rows) (unsealed y.links [])

  -- part by part
  abbrev pub ls : List LinkSlot
  ls = all_closed rows (all_given_up rows x.links)

  abbrev pub after_acts : List LinkSeen → StateSeen
  after_acts stamped =
      shaped slots ls x.resets (all_out_gone rows x.outstanding) (all_queue_gone n rows x.queue) (all_queue_gone n rows x.ready_waiters) x.awaiting_config x.fail_fast stamped

  links_are : seal_all (links_of rows) y.links ≡ ls
  links_are = seal_rows rows y.links ∙ ap (all_closed rows) done.links

  parts_are : sealed (call_asked f n x) ≡ after_acts stamps
  parts_are =
      sealed_so
      ∙ ap (λ (zs : List LinkSlot). unsealed zs []) links_are
      ∙ ap (λ (zs : List ℕ). unsealed ls zs) (sym resets)
      ∙ ap (λ (ps : List (ℕ × ℕ)). shaped slots ls x.resets ps y.queue y.ready_waiters y.awaiting_config y.fail_fast stamps) done.outstanding
      ∙ ap (λ (ps : List (ℕ × ℕ)). shaped slots ls x.resets (all_out_gone rows x.outstanding) ps y.ready_waiters y.awaiting_config y.fail_fast stamps) done.queue
      ∙ ap (λ (ps : List (ℕ × ℕ)). shaped slots ls x.resets (all_out_gone rows x.outstanding) (all_queue_gone n rows x.queue) ps y.awaiting_config y.fail_fast stamps) done.ready_waiters
      ∙ ap (λ (ps : List (ℕ × ℕ)). shaped slots ls x.resets (all_out_gone rows x.outstanding) (all_queue_gone n rows x.queue) (all_queue_gone n rows x.ready_waiters) ps y.fail_fast stamps)
      done.awaiting_config
      ∙ ap (λ (ps : List (ℕ × ℕ)). shaped slots ls x.resets (all_out_gone rows x.outstanding) (all_queue_gone n rows x.queue) (all_queue_gone n rows x.ready_waiters) x.awaiting_config ps stamps)
      done.fail_fast

  pub acts_followed : sealed (call_asked f n x) ≡ after_acts (acts_done n (map given rows) x1).book.ledger.links
  acts_followed = parts_are
