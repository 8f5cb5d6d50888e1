-- A call that ended, and whose attempts were cut off, is in order.
use Rattle.std.proofs.Common.{◌≡◌, ◌∷◌, ◌&&◌, nat_lt, append-nil, ap, refl, subst, sym, ◌∙◌, Bool, true, false, List, [], Option, None, Some, ℕ, zero, suc, cond, filter, if◌then◌else◌, is_some, map, slice_get}
use Rattle.std.proofs.lemmas.Bool.{and_parts, both_ways}
use Rattle.std.proofs.lemmas.List.Folds.{list_all-append}
use Rattle.std.specs.List.{list_all}
use Rattle.std.specs.Option.{option_map}
use Rattle.call_actions.specs.Order.{AttemptsAreNumbered, IsInOrder, is_beyond, is_own_mark}
use Rattle.call_core.specs.Steps.{Stepped, closed_by}
use Rattle.call_actions.proofs.CallsApart.Acts.{at_place, in_filter}
use Rattle.call_actions.specs.EndsInOrder.Laws.{EndsInOrder, EndsStayInOrder}
use Rattle.grpc_base.specs.declared.event.EndCause.{EndCause}
use Rattle.session_actions.specs.Attempts.{is_of, is_outstanding}
use Rattle.session_actions.specs.CallEnds.{call_ended}
use Rattle.session_actions.specs.DueAttempts.{attempts_made}
use Rattle.session_actions.specs.Entries.{entry, now}
use Rattle.session_actions.specs.Words.{holds, numbered}
use Rattle.session_actions.specs.declared.attempt.Attempt.{Attempt}
use Rattle.session_actions.specs.declared.call.Call.{Call}
use Rattle.session_actions.specs.declared.call.Mark.{Mark}
use Rattle.session_actions.specs.declared.call.MarkKind.{MarkKind}
use Rattle.session_actions.specs.declared.call.MarkKind.TheVariants as mark
use Rattle.session_actions.specs.declared.entry.OpenEntry.{OpenEntry}
use Rattle.session_actions.specs.declared.seen.Seen.{Seen}
use Rattle.call_actions.proofs.TakeActions.CutAttempts.{end_by_cut, ended_mark, is_cut_off, made_still}
use Rattle.call_actions.proofs.TakeActions.EndSees.{all_gone, due_now, end_call, end_seen, final_at, first, own_stamp, serves_ended, tokens_now}
use Rattle.call_actions.proofs.TakeActions.Ends.{end_walked, point, put}
use Rattle.call_actions.proofs.TakeActions.Maps.{any_map, numbered_each}
use Rattle.call_actions.specs.TakeActions.Cuts.{AttemptsAreCut}
use Rattle.call_actions.specs.TakeActions.Serves.{Serves}

all_get : {X : Type 0} (p : X → Bool) (xs : List X) → ((i : ℕ) (x : X) → slice_get xs i ≡ Some x → p x ≡ true) → list_all p xs ≡ true
all_get p [] each = refl
all_get p (x ∷ xs) each = ap (λ (b : Bool). b && list_all p xs) (each zero x refl) ∙ all_get p xs (λ i y at. each (suc i) y at)

passes_by : {X : Type 0} (p : X → Bool) (x y : X) (xs : List X) (j : ℕ) (b : Bool) → p x ≡ b → ((k : ℕ) → slice_get (filter p xs) k ≡ Some y → p y ≡ true)
    → slice_get (cond b (x ∷ filter p xs) (filter p xs)) j ≡ Some y → p y ≡ true
passes_by p x y xs zero true e rest at = let same : y ≡ x = (cc) in ap p same ∙ e
passes_by p x y xs (suc j) true e rest at = rest j at
passes_by p x y xs j false e rest at = rest j at

passes : {X : Type 0} (p : X → Bool) (xs : List X) (j : ℕ) (y : X) → slice_get (filter p xs) j ≡ Some y → p y ≡ true
passes p [] j y at = absurd (cc)
passes p (x ∷ xs) j y at = passes_by p x y xs j (p x) refl (λ k e. passes p xs k y e) at

mapped_by : {X Y : Type 0} (p : Y → Bool) (g : X → Y) (xs : List X) → list_all p (map g xs) ≡ list_all (λ (x : X). p (g x)) xs
mapped_by p g [] = refl
mapped_by p g (x ∷ xs) = ap (λ (b : Bool). p (g x) && b) (mapped_by p g xs)

some_if : {X : Type 0} (b : Bool) (x : X) (o : Option X) → is_some o ≡ true → is_some (if b then Some x else o) ≡ true
some_if true x o e = refl
some_if false x o e = e

both_of : (a b : Bool) → a ≡ true → b ≡ true → (a && b) ≡ true
both_of true b e f = f
both_of false b e f = absurd (cc)

all_so : {X : Type 0} (p q : X → Bool) → ((x : X) → p x ≡ true → q x ≡ true) → (xs : List X) → list_all p xs ≡ true → list_all q xs ≡ true
all_so p q turn [] e = refl
all_so p q turn (x ∷ xs) e =
    let parts : (p x ≡ true) × (list_all p xs ≡ true) = and_parts (p x) (list_all p xs) e in
    both_of (q x) (list_all q xs) (turn x parts.0) (all_so p q turn xs parts.1)

module _ (s : Seen) (c : Call) (x : Stepped) (why : EndCause) (h : Serves s c x) (open_now : c.end ≡ None) (current : Option OpenEntry)
    (still : is_some current ≡ is_some s.current) (order : IsInOrder s c) where
  abbrev z : Seen
  z = end_seen s c x why h open_now current still

  abbrev d : Call
  d = end_call s c x why h open_now current still

  abbrev f : Attempt → Attempt
  f a = final_at s c x why h open_now current still a

  abbrev gone : Attempt → Bool
  gone a = true

  abbrev is_off : Attempt → Bool
  is_off a = is_cut_off c.number gone a

  placed : (n : ℕ) (xs : List Attempt) → AttemptsAreNumbered n xs → AttemptsAreNumbered n (map f xs)
  placed n [] p = tt
  placed n (a ∷ xs) p = (p.0, placed (suc n) xs p.1)

  at_row : (row : ℕ) → numbered z.attempts row ≡ option_map f (numbered s.attempts row)
  at_row row = numbered_each f s.attempts row

  abbrev is_over_own : Attempt → Bool
  is_over_own a = is_of c a && is_some a.row.ended

  ended_more : (a : Attempt) → is_over_own a ≡ true → is_over_own (f a) ≡ true
  ended_more a e =
      let parts : (is_of c a ≡ true) × (is_some a.row.ended ≡ true) = and_parts (is_of c a) (is_some a.row.ended) e in
      both_of (is_of c a) (is_some (f a).row.ended) parts.0 (some_if (is_off a) _ a.row.ended parts.1)

  ended_at : (o : Option Attempt) → holds is_over_own o ≡ true → holds is_over_own (option_map f o) ≡ true
  ended_at None e = e
  ended_at (Some a) e = ended_more a e

  made_at : (o : Option Attempt) → holds (is_of c) o ≡ true → holds (is_of c) (option_map f o) ≡ true
  made_at None e = e
  made_at (Some a) e = e

  old_mark : (w : MarkKind) → is_own_mark s c w ≡ true → is_own_mark z d w ≡ true
  old_mark mark.Configured e = refl
  old_mark (mark.Made row) e = ap (holds (is_of c)) (at_row row) ∙ made_at (numbered s.attempts row) e
  old_mark (mark.Placed row) e = refl
  old_mark (mark.Ended row) e = ap (holds is_over_own) (at_row row) ∙ ended_at (numbered s.attempts row) e
  old_mark mark.Withheld e = refl
  old_mark mark.Committed e = refl
  old_mark mark.Closed e = refl

  -- the marks of those that were cut off
  cut_ended : (a : Attempt) → is_off a ≡ true → is_over_own (f a) ≡ true
  cut_ended a e =
      let parts : (is_of c a ≡ true) × ((is_outstanding a && true) ≡ true) = and_parts (is_of c a) (is_outstanding a && true) e in
      both_of (is_of c a) (is_some (f a).row.ended) parts.0 (ap (λ (b : Bool). is_some (if b then Some (end_by_cut (entry s) (now s) (tokens_now s c x why h open_now current still) s a) else a.row.ended)) e)

  new_mark : (i : ℕ) (a : Attempt) → slice_get (filter is_off s.attempts) i ≡ Some a → is_own_mark z d (mark.Ended a.place) ≡ true
  new_mark i a at =
      ap (holds is_over_own) (at_row a.place ∙ ap (option_map f) (at_place s.attempts a order.places (in_filter is_off s.attempts i a at))) ∙ cut_ended a (passes is_off s.attempts i a at)

  abbrev new_marks : List Mark
  new_marks = map (ended_mark (now s)) (filter is_off s.attempts)

  abbrev is_own : Mark → Bool
  is_own m = is_own_mark z d m.what

  marks_are : list_all is_own d.marks ≡ true
  marks_are =
      list_all-append is_own c.marks (first s c x why h open_now current still ∷ new_marks)
      ∙ ap (λ (b : Bool). b && list_all is_own new_marks) (all_so (λ (m : Mark). is_own_mark s c m.what) is_own (λ m e. old_mark m.what e) c.marks order.marks)
      ∙ mapped_by is_own (ended_mark (now s)) (filter is_off s.attempts)
      ∙ all_get (λ (a : Attempt). is_own (ended_mark (now s) a)) (filter is_off s.attempts) (λ i a at. new_mark i a at)

  made_same : attempts_made d z ≡ attempts_made c s
  made_same = made_still (entry s) (now s) (tokens_now s c x why h open_now current still) s c (own_stamp s c x why h open_now current still) (all_gone s c x why h open_now current still)

  beyond_one : (a : Attempt) → is_beyond z d (f a) ≡ is_beyond s c a
  beyond_one a = ap (λ (k : ℕ). is_of c a && nat_lt k a.row.number) made_same

  pub order_now : IsInOrder z d
  order_now = record {
    places = placed 1 s.attempts order.places;
    marks = marks_are;
    numbers = any_map (is_beyond z d) (is_beyond s c) f beyond_one s.attempts ∙ order.numbers;
    first = λ e. (due_now s c x why h open_now current still).0 ∙ order.first (sym made_same ∙ e);
    stops = λ e. (due_now s c x why h open_now current still).2;
  }

module _ (s : Seen) (c : Call) (x : Stepped) (why : EndCause) (h : Serves s c x) (open_now : c.end ≡ None) (order : IsInOrder s c) where
  by_current : (o : Option OpenEntry) → s.current ≡ o → is_some s.current ≡ true → EndsInOrder s c why (closed_by why (now s) x)
  by_current None opened some = absurd (let none : is_some s.current ≡ false = ap (λ (k : Option OpenEntry). is_some k) opened in both_ways (is_some s.current) none some)
  by_current (Some o) opened some =
      let w = end_walked s c x why h open_now o opened in
      let still : is_some (Some w.entry_now) ≡ is_some s.current = sym (ap (λ (k : Option OpenEntry). is_some k) opened) in
      let last : Seen = end_seen s c x why h open_now (Some w.entry_now) still in
      let same : point s c x why h open_now s.attempts [] (Some w.entry_now) ≡ last = ap (put s c x why h open_now (Some w.entry_now)) (append-nil last.attempts) in
      record {
        ended = record {
          cuts = w.actions;
          seen = last;
          cut = subst (AttemptsAreCut c.number w.actions (call_ended c.number why s)) same w.cuts;
          agrees = record {
            call = end_call s c x why h open_now (Some w.entry_now) still;
            number_is = refl;
            serves = serves_ended s c x why h open_now (Some w.entry_now) still;
          };
        };
        order = order_now s c x why h open_now (Some w.entry_now) still order;
      }

pub ends_stay_in_order : EndsStayInOrder
ends_stay_in_order s c x why opened h open_now order = by_current s c x why h open_now order s.current refl opened
