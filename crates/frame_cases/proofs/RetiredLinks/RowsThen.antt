-- Each attempt of a session, once those have ended whose ends are left: as it was, or ended by one of these.
use Rattle.std.proofs.Common.{◌≡◌, ◌||◌, ◌==◌, ◌∷◌, ap, arith, refl, ◌∙◌, Bool, true, false, List, [], None, Option, Some, ℕ, suc, if◌then◌else◌, length, map, slice_get}
use Rattle.std.proofs.lemmas.Bool.Decides.{nat_tests}
use Rattle.std.specs.List.{AllByRecursion}
use Rattle.std.specs.Option.{option_map}
use Rattle.attempt_ledger.specs.declared.row.RowEnd.{RowEnd}
use Rattle.channel_actions.specs.LinkFrames.Alike.{AttemptsAreAlike, IsAlike, Numbers}
use Rattle.end_cases.proofs.AttemptEnds.LeftLinks.{is_among}
use Rattle.end_cases.specs.AttemptEnds.Left.{rows_ended}
use Rattle.link_actions.specs.ResetActions.Laws.{OweAt, OwesIf}
use Rattle.lb_policy.specs.Table.{is_one_of}
use Rattle.link_actions.proofs.LossActions.Calls.{changed_any}
use Rattle.session_actions.specs.AttemptEnds.{with_end}
use Rattle.session_actions.specs.Words.{changed, numbered}
use Rattle.session_actions.specs.declared.attempt.Attempt.{Attempt}
use Rattle.session_actions.specs.declared.link.Link.{Link}
use Rattle.session_actions.specs.declared.seen.Seen.{Seen}

abbrev pub row_then : List (ℕ × RowEnd) → ℕ → Attempt → Attempt
row_then [] n a = a
row_then (x ∷ later) n a = row_then later n (if n == x.0 then with_end x.1 a else a)

mapped_self : {X : Type 0} (o : Option X) → o ≡ option_map (λ x. x) o
mapped_self None = refl
mapped_self (Some x) = refl

mapped_on : {X : Type 0} (g k : X → X) (o : Option X) → option_map g (option_map k o) ≡ option_map (λ x. g (k x)) o
mapped_on g k None = refl
mapped_on g k (Some x) = refl

pub rows_at : (later : List (ℕ × RowEnd)) (n : ℕ) (xs : List Attempt) → numbered (rows_ended later xs) n ≡ option_map (row_then later n) (numbered xs n)
rows_at [] n xs = mapped_self (numbered xs n)
rows_at (x ∷ later) n xs =
    rows_at later n (changed (with_end x.1) x.0 xs) ∙ ap (option_map (row_then later n)) (changed_any (with_end x.1) x.0 n xs)
    ∙ mapped_on (row_then later n) (λ (a : Attempt). if n == x.0 then with_end x.1 a else a) (numbered xs n)

-- the places of these ends
abbrev pub places : List (ℕ × RowEnd) → List ℕ
places later = map (λ (x : ℕ × RowEnd). x.0) later

pub among_same : (later : List (ℕ × RowEnd)) (n : ℕ) → is_among later n ≡ is_one_of (places later) n
among_same [] n = refl
among_same (x ∷ later) n = ap (λ (b : Bool). (x.0 == n) || b) (among_same later n)

turned : (m n : ℕ) → (m == n) ≡ (n == m)
turned m n = grind (arith, nat_tests)

off_parts : (a b : Bool) → (a || b) ≡ false → (a ≡ false) × (b ≡ false)
off_parts true b e = absurd (cc)
off_parts false b e = (refl, e)

pub row_off : (later : List (ℕ × RowEnd)) (n : ℕ) (a : Attempt) → is_one_of (places later) n ≡ false → row_then later n a ≡ a
row_off [] n a off = refl
row_off (x ∷ later) n a off =
    let k = off_parts (x.0 == n) (is_one_of (places later) n) off in
    ap (λ (b : Bool). row_then later n (if b then with_end x.1 a else a)) (turned n x.0 ∙ k.0) ∙ row_off later n a k.1

pub record IsEndedBy (P : RowEnd → Type 0) (a b : Attempt) : Type 0 where
  pub end : RowEnd
  pub plain : P end
  pub is : b ≡ with_end end a

over_by : (e d : RowEnd) (a : Attempt) (b : Bool) → with_end e (if b then with_end d a else a) ≡ with_end e a
over_by e d a true = refl
over_by e d a false = refl

first_on : (c : Bool) → (c || false) ≡ true → c ≡ true
first_on true h = refl
first_on false h = absurd (cc)

on_by : (P : RowEnd → Type 0) (x : ℕ × RowEnd) (later : List (ℕ × RowEnd)) (n : ℕ) (a : Attempt) (c : Bool) → P x.1 → is_one_of (places later) n ≡ c → ((x.0 == n) || c) ≡ true
    → (is_one_of (places later) n ≡ true → IsEndedBy P (if n == x.0 then with_end x.1 a else a) (row_then (x ∷ later) n a)) → IsEndedBy P a (row_then (x ∷ later) n a)
on_by P x later n a true one e h rest =
    let k : IsEndedBy P (if n == x.0 then with_end x.1 a else a) (row_then (x ∷ later) n a) = rest e in
    record { end = k.end; plain = k.plain; is = k.is ∙ over_by k.end x.1 a (n == x.0) }
on_by P x later n a false one e h rest = record {
  end = x.1;
  plain = one;
  is = row_off later n (if n == x.0 then with_end x.1 a else a) e ∙ ap (λ (b : Bool). if b then with_end x.1 a else a) (turned n x.0 ∙ first_on (x.0 == n) h);
}

pub row_on : (P : RowEnd → Type 0) (later : List (ℕ × RowEnd)) (n : ℕ) (a : Attempt) → AllByRecursion (λ (x : ℕ × RowEnd). P x.1) later → is_one_of (places later) n ≡ true
    → IsEndedBy P a (row_then later n a)
row_on P [] n a all on = absurd (cc)
row_on P (x ∷ later) n a all on =
    on_by P x later n a (is_one_of (places later) n) all.0 refl on (λ e. row_on P later n (if n == x.0 then with_end x.1 a else a) all.1 e)

-- of two lists, one by one
pub owe_each : (code : Attempt → Option ℕ) (l : Link) (ts : List ℕ) (xs ys : List Attempt) → length ys ≡ length xs
    → ((i : ℕ) (a b : Attempt) → slice_get xs i ≡ Some a → slice_get ys i ≡ Some b → OwesIf code l (is_one_of ts a.place) a b) → OweAt code l ts xs ys
owe_each code l ts [] [] long each = tt
owe_each code l ts (x ∷ xs) (y ∷ ys) long each =
    (each 0 x y refl refl, owe_each code l ts xs ys (let same : length ys ≡ length xs = omega (arith, long) in same) (λ i a b at to. each (suc i) a b at to))
owe_each code l ts [] (y ∷ ys) long each = absurd (let no : ⊥ = omega (arith, long) in no)
owe_each code l ts (x ∷ xs) [] long each = absurd (let no : ⊥ = omega (arith, long) in no)

pub alike_each : (touched : Numbers) (s t : Seen) (xs ys : List Attempt) → length ys ≡ length xs
    → ((i : ℕ) (a b : Attempt) → slice_get xs i ≡ Some a → slice_get ys i ≡ Some b → IsAlike touched s t a b) → AttemptsAreAlike touched s t xs ys
alike_each touched s t [] [] long each = tt
alike_each touched s t (x ∷ xs) (y ∷ ys) long each =
    (each 0 x y refl refl, alike_each touched s t xs ys (let same : length ys ≡ length xs = omega (arith, long) in same) (λ i a b at to. each (suc i) a b at to))
alike_each touched s t [] (y ∷ ys) long each = absurd (let no : ⊥ = omega (arith, long) in no)
alike_each touched s t (x ∷ xs) [] long each = absurd (let no : ⊥ = omega (arith, long) in no)
