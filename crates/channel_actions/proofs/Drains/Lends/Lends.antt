-- The line that the book lends for an attempt on a link.
use Rattle.std.proofs.Common.{◌≡◌, ◌+◌, ◌-◌, ◌<◌, ◌≤◌, ◌&&◌, ◌||◌, ◌∷◌, ◌==◌, ap, arith, refl, subst, sym, ◌∙◌, Bool, true, false, List, [], Option, None, Some, ℕ, zero, suc, cond, drop, eq-eqb, filter, is_none, is_some, max, min, nat_le, not, slice_get}
use Rattle.std.proofs.Math.Nat.{max-eq_left, min-eq_left}
use Rattle.std.proofs.lemmas.Bool.{and_parts, leb-false, leb-true}
use Rattle.std.specs.List.{AllByRecursion, list_all}
use Rattle.std.specs.Option.{option_map, option_map_or}
use Rattle.attempt_buffer.specs.Buffers.{Buffered, taken_by, text_of}
use Rattle.attempt_ledger.specs.declared.ledger.CallEnd.{CallEnd}
use Rattle.attempt_ledger.specs.declared.row.Placed.{Placed}
use Rattle.attempt_ledger.specs.declared.row.Row.{Row}
use Rattle.call_actions.proofs.Lists.{numbered_not}
use Rattle.call_actions.proofs.Ranks.{numbered_map}
use Rattle.call_core.specs.Steps as steps
use Rattle.channel_actions.proofs.Idleness.Calls.{filter_none_at}
use Rattle.channel_actions.proofs.Stamps.{counted_at}
use Rattle.channel_actions.specs.Agrees.{Agrees}
use Rattle.channel_actions.specs.Calls.{HasSlot, lent_to}
use Rattle.channel_core.specs.Books.{clamped, finished_at, head_for, head_of, left_until, lines_of, row_at, slot_at, slot_of_tag}
use Rattle.channel_core.specs.Books as book
use Rattle.channel_core.specs.States.{StateSeen}
use Rattle.channel_core.specs.Tables.{left_at}
use Rattle.channel_core.specs.declared.state.slots.CallSlot.{CallSlot}
use Rattle.channel_actions.proofs.Drains.Lends.Refed.{IsOf, refed}
use Rattle.channel_actions.specs.DrainLends.Laws.{DeadlinesAreClose, LinesAreLent}
use Rattle.grpc_base.specs.Limits.{duration_limit}
use Rattle.grpc_base.specs.Requests.{RequestSeen}
use Rattle.grpc_frame.specs.Messages.{framed_all}
use Rattle.grpc_meta.specs.RequestFields.{fields_of_request}
use Rattle.h2_link.specs.Feeds.{Line}
use Rattle.link_actions.specs.Sees.{IsFed, written_for}
use Rattle.link_actions.proofs.LossActions.Losses.{link_is}
use Rattle.session_actions.specs.Attempts.{commitment, is_of, is_outstanding, is_over, is_over_in}
use Rattle.session_actions.specs.CallEnds.{ending_call, is_due_before, is_past_deadline, next_deadline}
use Rattle.session_actions.specs.Calls.{is_open_call}
use Rattle.session_actions.specs.Configs.{deadline}
use Rattle.session_actions.specs.Entries.{now}
use Rattle.session_actions.specs.Links.{link_of}
use Rattle.session_actions.specs.Reading.{used}
use Rattle.session_actions.specs.Words.{foremost, holds, numbered}
use Rattle.session_actions.specs.Writing.{drained, time_left}
use Rattle.session_actions.specs.declared.attempt.Attempt.{Attempt}
use Rattle.session_actions.specs.declared.call.Call.{Call}
use Rattle.session_actions.specs.declared.link.Link.{Link}
use Rattle.session_actions.specs.declared.seen.Seen.{Seen}
use Rattle.session_order.specs.Quiescent.{NoneIs, is_to_cut}
use Rattle.call_actions.proofs.TakeActions.Deadlines.{deadline_is}
use Rattle.call_actions.specs.TakeActions.Serves as serves
use Rattle.grpc_base.specs.declared.event.EndCause.TheVariants as ending

-- lists
none_filtered : {X Y : Type 0} (f : X → Y) (before : X → X → Bool) (xs : List X) → option_map f (foremost before xs) ≡ None → xs ≡ []
none_filtered f before [] e = refl
none_filtered f before (y ∷ xs) e = absurd (cc)

all_at : {X : Type 0} (test : X → Bool) (xs : List X) (i : ℕ) (x : X) → list_all test xs ≡ true → slice_get xs i ≡ Some x → test x ≡ true
all_at test [] i x all got = absurd (cc)
all_at test (y ∷ xs) zero x all got =
    let one : y ≡ x = (cc) in ap test (sym one) ∙ (and_parts (test y) (list_all test xs) all).0
all_at test (y ∷ xs) (suc i) x all got = all_at test xs i x (and_parts (test y) (list_all test xs) all).1 got

all_numbered : {X : Type 0} (test : X → Bool) (xs : List X) (n : ℕ) (x : X) → list_all test xs ≡ true → numbered xs n ≡ Some x → test x ≡ true
all_numbered test xs zero x all got = absurd (cc)
all_numbered test xs (suc i) x all got = all_at test xs i x all got

chosen_by : (P : Attempt → Type 0) (p : Attempt → Bool) (y : Attempt) (xs : List Attempt) (b : Bool) → p y ≡ b → AllByRecursion P (cond b (y ∷ filter p xs) (filter p xs))
    → (p y ≡ true → P y) × AllByRecursion P (filter p xs)
chosen_by P p y xs true e all = (λ is. all.0, all.1)
chosen_by P p y xs false e all = (λ is. absurd (let bad : true ≡ false = sym is ∙ e in (cc)), all)

pub chosen_at : (P : Attempt → Type 0) (p : Attempt → Bool) (xs : List Attempt) (i : ℕ) (x : Attempt) → AllByRecursion P (filter p xs) → slice_get xs i ≡ Some x → p x ≡ true → P x
chosen_at P p [] i x all got is = absurd (cc)
chosen_at P p (y ∷ xs) zero x all got is =
    let one : y ≡ x = (cc) in subst P one ((chosen_by P p y xs (p y) refl all).0 (ap p one ∙ is))
chosen_at P p (y ∷ xs) (suc i) x all got is = chosen_at P p xs i x (chosen_by P p y xs (p y) refl all).1 got is

pub chosen_numbered : (P : Attempt → Type 0) (p : Attempt → Bool) (xs : List Attempt) (n : ℕ) (x : Attempt) → AllByRecursion P (filter p xs) → numbered xs n ≡ Some x → p x ≡ true → P x
chosen_numbered P p xs zero x all got is = absurd (cc)
chosen_numbered P p xs (suc i) x all got is = chosen_at P p xs i x all got is

-- tests
not_both : (a b : Bool) → a ≡ true → (a && b) ≡ false → b ≡ false
not_both true b e f = f
not_both false b e f = absurd (cc)

first_true : (a b : Bool) → (a && b) ≡ true → a ≡ true
first_true true b e = refl
first_true false b e = absurd (cc)

not_ended : (o : Option CallEnd) (b : Bool) → (is_some o || b) ≡ false → o ≡ None
not_ended None b e = refl
not_ended (Some z) b e = absurd (cc)

-- the time that is left, clamped as the book clamps it
clamp_is : (m d : ℕ) → m < d → d ≤ m + duration_limit → clamped m d ≡ d - m
clamp_is m d ahead near =
    let some : 1 ≤ d - m = omega (arith, ahead) in
    let few : d - m ≤ duration_limit = omega (arith, near) in
    ap (λ (n : ℕ). min n duration_limit) (max-eq_left some) ∙ min-eq_left few

left_same : (m : ℕ) (o : Option ℕ) → holds (λ (t : ℕ). nat_le t m) o ≡ false → option_map_or (λ (t : ℕ). nat_le t (m + duration_limit)) o true ≡ true
    → option_map (clamped m) o ≡ option_map (λ (t : ℕ). t - m) o
left_same m None ahead near = refl
left_same m (Some d) ahead near = ap (λ (n : ℕ). Some n) (clamp_is m d (leb-false d m ahead) (leb-true d (m + duration_limit) near))

-- a number that is not 0
number_is : (n : ℕ) → (n == 0) ≡ false → max n 1 ≡ n
number_is zero e = absurd (cc)
number_is (suc n) e = max-eq_left (let some : 1 ≤ suc n = omega arith in some)

-- the bytes of one that goes on
fed_by : (b : Buffered) (o : Option ℕ) (out : Bool) (written : ℕ) (all : List ℕ) → out ≡ true → serves.IsFed o (text_of b) out written all
    → option_map_or (λ (taken : ℕ). drop taken (text_of b)) o [] ≡ drop written all
fed_by b None true written all out is = absurd is
fed_by b None false written all out is = absurd (cc)
fed_by b (Some taken) true written all out is = is.left
fed_by b (Some taken) false written all out is = absurd (cc)

module _ (x : StateSeen) (s : Seen) (agrees : Agrees x s) (still : NoneIs (is_to_cut s) s.attempts) (timely : next_deadline s ≡ None) (near : DeadlinesAreClose s) (l : Link)
    (at : numbered s.links l.number ≡ Some l) where
  module _ (a : Attempt) (line : Line) (is : IsOf l s a) (fed : IsFed l s a line) where
    abbrev c : Call
    c = fed.call

    has : HasSlot x s c a.row.call
    has = agrees.calls.each a.row.call c fed.call_is

    abbrev slot : CallSlot
    slot = has.slot

    own : c.number ≡ a.row.call
    own = counted_at (λ (d : Call). d.number) s.calls a.row.call c agrees.kept.calls fed.call_is

    row_is : row_at x.book a.place ≡ Some a.row
    row_is =
        ap (λ (rows : List Row). numbered rows a.place) (sym agrees.columns.rows) ∙ numbered_map (λ (q : Attempt). q.row) s.attempts a.place
        ∙ ap (option_map (λ (q : Attempt). q.row)) is.at

    slot_is : slot_of_tag x.book a.place ≡ Some slot
    slot_is = ap (λ (o : Option Row). slot_at x.book (book.call_of o)) row_is ∙ has.there

    out : is_outstanding a ≡ true
    out = first_true (is_outstanding a) (holds (λ (p : Placed). p.link == l.number) a.row.placed) is.out

    goes : is_over a s ≡ false
    goes = not_both (is_outstanding a) (is_over a s) out (numbered_not (is_to_cut s) s.attempts a.place a still is.at)

    open_ : c.end ≡ None
    open_ =
        not_ended c.end (holds (λ (k : Attempt). not (k.row.number == a.row.number)) (commitment c s))
        (sym (ap (holds (λ (d : Call). is_over_in d a s)) fed.call_is) ∙ goes)

    past_none : filter (is_past_deadline s) s.calls ≡ []
    past_none = none_filtered (ending_call ending.Deadline) (is_due_before s) (filter (is_past_deadline s) s.calls) timely

    ahead : holds (λ (t : ℕ). nat_le t (now s)) (deadline c s) ≡ false
    ahead =
        not_both (is_open_call c) (holds (λ (t : ℕ). nat_le t (now s)) (deadline c s)) (ap (λ (o : Option CallEnd). is_none o) open_)
        (filter_none_at (is_past_deadline s) s.calls a.row.call c past_none fed.call_is)

    near_one : option_map_or (λ (t : ℕ). nat_le t (now s + duration_limit)) (deadline c s) true ≡ true
    near_one = all_numbered (λ (d : Call). option_map_or (λ (t : ℕ). nat_le t (now s + duration_limit)) (deadline d s) true) s.calls a.row.call c near fed.call_is

    left_is_ : left_until x.book.moment (steps.deadline_at slot.call) ≡ time_left c s
    left_is_ =
        ap (λ (m : ℕ). left_until m (steps.deadline_at slot.call)) (sym agrees.clock.moment)
        ∙ ap (option_map (clamped (now s))) (sym (deadline_is s c (lent_to x s slot) has.sees.serves)) ∙ left_same (now s) (deadline c s) ahead near_one

    numbered_so : max a.row.number 1 ≡ a.row.number
    numbered_so =
        number_is a.row.number
        (not_both (is_of c a) (a.row.number == 0) (eq-eqb a.row.call c.number (sym own))
        (numbered_not (λ (q : Attempt). is_of c q && (q.row.number == 0)) s.attempts a.place a has.sees.turn.numbers is.at))

    fields_are : head_of x.book (row_at x.book a.place) ≡ fields_of_request c.request s.setup.authority (time_left c s) a.row.number
    fields_are =
        ap (head_of x.book) row_is ∙ ap (head_for x.book a.row) has.there
        ∙ ap (λ (r : RequestSeen). fields_of_request r x.book.authority (left_until x.book.moment (steps.deadline_at slot.call)) (max a.row.number 1)) (sym has.sees.serves.sees.request)
        ∙ ap (λ (name : List ℕ). fields_of_request c.request name (left_until x.book.moment (steps.deadline_at slot.call)) (max a.row.number 1)) (sym agrees.configs.authority)
        ∙ ap (λ (o : Option ℕ). fields_of_request c.request s.setup.authority o (max a.row.number 1)) left_is_
        ∙ ap (fields_of_request c.request s.setup.authority (time_left c s)) numbered_so

    drained_by : (o : Option ℕ) → option_map_or (λ (n : ℕ). option_map_or (used n) (link_of a s) 0) o 0 ≡ option_map_or (λ (n : ℕ). used n l) o 0
    drained_by None = refl
    drained_by (Some n) = ap (λ (q : Option Link). option_map_or (used n) q 0) (link_is l s a at is.out)

    left_so : left_at a.place (slot_of_tag x.book a.place) ≡ drop (written_for l a) (framed_all c.messages)
    left_so =
        ap (left_at a.place) slot_is
        ∙ fed_by slot.call.buffer (taken_by a.place slot.call.buffer) (is_outstanding a) (drained a s) (framed_all c.messages) out
        (chosen_numbered (λ (q : Attempt). serves.IsFed (taken_by q.place slot.call.buffer) (text_of slot.call.buffer) (is_outstanding q) (drained q s) (framed_all c.messages))
        (is_of c) s.attempts a.place a (has.sees.serves.holds open_).fed is.at (eq-eqb a.row.call c.number (sym own)))
        ∙ ap (λ (n : ℕ). drop n (framed_all c.messages)) (drained_by a.row.stream)

    pub lent : IsFed l s a (lines_of x.book a.place)
    lent = record {
      call = c;
      call_is = fed.call_is;
      fields = fields_are;
      written = fed.written;
      left = left_so;
      finished = ap finished_at slot_is ∙ sym has.sees.serves.sees.finished;
    }

pub lines_are_lent : LinesAreLent
lines_are_lent x s l w g agrees still timely near is =
    refed l s (lines_of x.book) (λ a line of fed. lent x s agrees still timely near l is.sees.at a line of fed) w g agrees.kept.attempts is
