-- Live rows: one of them in the loop that changes them, and the one that was sent furthest is open.
use Rattle.std.proofs.Common.{◌≡◌, ℕ, zero, suc, ◌<◌, Bool, true, false, if◌then◌else◌, IsTrue, ◌↔◌, Option, Some, None, IfSome, List, [], ◌∷◌, ◌++◌, length, map, take, drop, set, get_or, refl, ap, arith, sym, subst}
use Rattle.std.proofs.Math.Dec.{eqb-suc-zero}
use Rattle.std.specs.Option.{option_map}
use Rattle.attempt_buffer.specs.Buffers.{Buffered, is_open}
use Rattle.call_core.specs.declared.live.LiveRow.{LiveRow}
use Rattle.call_core.specs.Parts.{further, further_than, furthest, furthest_from, has_none, is_further}

pub linked_more : (f : LiveRow → LiveRow) (old : List LiveRow) (i : ℕ) (d : LiveRow) → i < length old → set (map f (take i old) ++ drop i old) i (f (get_or (map f (take i old) ++ drop i old) i d)) ≡ map f (take (suc i) old) ++ drop (suc i) old
linked_more f [] i d lt = absurd (let no : ⊥ = omega (arith, lt) in no)
linked_more f (c ∷ cs) zero d lt = refl
linked_more f (c ∷ cs) (suc i) d lt = ap (λ l. f c ∷ l) (linked_more f cs i d (omega (arith, lt)))

abbrev pub IsOpen : Buffered → LiveRow → Type 0
IsOpen b row = is_open row.place b ≡ true

further-open : (b : Buffered) (best : Option LiveRow) (row : LiveRow) (open_now : Bool) → is_open row.place b ≡ open_now → IfSome best (IsOpen b) → IfSome (if open_now then further_than b best row else best) (IsOpen b)
further-open b best row false e old = old
further-open b None row true e old = e
further-open b (Some other) row true e old =
    elim (is_further b row other) as (λ t. IfSome (if t then Some row else Some other) (IsOpen b)) [ true ↦ e | false ↦ old ]

furthest_from-open : (b : Buffered) (live : List LiveRow) (best : Option LiveRow) → IfSome best (IsOpen b) → IfSome (furthest_from b best live) (IsOpen b)
furthest_from-open b [] best old = old
furthest_from-open b (row ∷ live) best old =
    furthest_from-open b live (further b best row) (further-open b best row (is_open row.place b) refl old)

pub open_found : (b : Buffered) (live : List LiveRow) (row : LiveRow) → Some row ≡ furthest_from b None live → is_open row.place b ≡ true
open_found b live row e = subst (λ (o : Option LiveRow). IfSome o (IsOpen b)) (sym e) (furthest_from-open b live None tt)

-- a list without elements
pub none_exact : {X : Type 0} (b : Bool) (xs : List X) → (IsTrue b ↔ (xs ≡ [])) → b ≡ has_none xs
none_exact true [] e = refl
none_exact false [] e = absurd (cc (e.1 refl))
none_exact true (x ∷ xs) e = absurd (cc (e.0 refl))
none_exact false (x ∷ xs) e = sym (eqb-suc-zero (length xs))
