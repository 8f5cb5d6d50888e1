-- Where a cursor stands among messages.
use Rattle.std.proofs.Common.{◌≡◌, ◌∙◌, ◌<◌, ◌≤◌, ℕ, zero, suc, ◌+◌, ◌-◌, true, false, nat_le, if◌then◌else◌, List, [], ◌∷◌, ◌++◌, length, take, drop, refl, ap, sym, subst, inl, inr, arith, zero-add, length-append, length-drop, get_or}
use Rattle.std.specs.List.{concat}
use Rattle.std.proofs.lemmas.Grind.{common_steps}
use Rattle.std.proofs.lemmas.Bool.{cases_lt}
use Rattle.std.proofs.lemmas.Bool.Decides.{nat_tests}
use Rattle.std.proofs.lemmas.List.{drop-append-le, take-append-le, drop_all, take_all}
use Rattle.std.proofs.lemmas.List.Folds.{concat-append}
use Rattle.std.proofs.Math.Seq.{drop-append-add, drop-cons, take-add}
use Rattle.attempt_buffer.specs.declared.messages.Spot.{Spot}
use Rattle.attempt_buffer.specs.Buffers.{unpassed}
use Rattle.attempt_buffer.specs.Spots.{MessagesAreSized, IsInFirst, IsSpot}

-- a prefix of no bytes is before any message
pub first_sized : (ms : List (List ℕ)) (k : ℕ) → MessagesAreSized ms → IsInFirst 0 (drop k ms)
first_sized [] zero sized = refl
first_sized [] (suc k) sized = refl
first_sized (m ∷ ms) zero sized = sized.0
first_sized (m ∷ ms) (suc k) sized = first_sized ms k sized.2

-- the beginning
pub at_start : (ms : List (List ℕ)) → MessagesAreSized ms → IsSpot ms 0 0 0
at_start ms sized = record { within = omega arith; sum = refl; first = first_sized ms 0 sized }

-- what stands after so many messages and bytes
pub text_after : (ms : List (List ℕ)) (k o : ℕ) → drop (length (concat (take k ms)) + o) (concat ms) ≡ drop o (concat (drop k ms))
text_after ms zero o = ap (λ n. drop n (concat ms)) (zero-add o)
text_after [] (suc k) o = ap (λ n. drop {A = ℕ} n []) (zero-add o)
text_after (m ∷ ms) (suc k) o =
    let prefix = concat (take k ms) in
    let e : length (m ++ prefix) + o ≡ length m + (length prefix + o) = omega (arith, length-append m prefix) in
    ap (λ n. drop n (m ++ concat ms)) e ∙ drop-append-add m (concat ms) (length prefix + o) ∙ text_after ms k o

-- the bytes that follow within one message
pub bytes_within : (ms : List (List ℕ)) (k o taken n : ℕ) (m : List ℕ) (rest : List (List ℕ)) → IsSpot ms k o taken → drop k ms ≡ m ∷ rest → o + n ≤ length m → take n (drop taken (concat ms)) ≡ take n (drop o m)
bytes_within ms k o taken n m rest spot at le =
    let here : drop taken (concat ms) ≡ drop o m ++ concat rest =
    ap (λ t. drop t (concat ms)) spot.sum ∙ text_after ms k o ∙ ap (λ l. drop o (concat l)) at ∙ drop-append-le o m (concat rest) (omega arith) in
    ap (take n) here ∙ take-append-le n (drop o m) (concat rest) (omega (arith, length-drop o m))

-- after some bytes of a message that has more
pub spot_within : (ms : List (List ℕ)) (k o taken n : ℕ) (m : List ℕ) (rest : List (List ℕ)) → IsSpot ms k o taken → drop k ms ≡ m ∷ rest → o + n < length m → IsSpot ms k (o + n) (taken + n)
spot_within ms k o taken n m rest spot at lt = record {
  within = spot.within;
  sum = omega (arith, spot.sum);
  first = let P : List (List ℕ) → Type 0 = λ l. IsInFirst (o + n) l in subst P (sym at) lt;
}

-- after the last byte of a message
pub spot_after : (ms : List (List ℕ)) (k o taken n : ℕ) (m : List ℕ) (rest : List (List ℕ)) → MessagesAreSized ms → IsSpot ms k o taken → k < length ms → drop k ms ≡ m ∷ rest → o + n ≡ length m → IsSpot ms (k + 1) 0 (taken + n)
spot_after ms k o taken n m rest sized spot lt at end =
    let grown : concat (take (k + 1) ms) ≡ concat (take k ms) ++ (m ++ []) =
    ap concat (take-add k 1 ms) ∙ concat-append (take k ms) (take 1 (drop k ms)) ∙ ap (λ l. concat (take k ms) ++ concat (take 1 l)) at in
    let len : length (concat (take (k + 1) ms)) ≡ length (concat (take k ms)) + length m =
    ap length grown ∙ length-append (concat (take k ms)) (m ++ []) ∙ ap (λ n. length (concat (take k ms)) + n) (grind (arith, common_steps)) in
    record {
      within = omega arith;
      sum = omega (arith, spot.sum, len);
      first = first_sized ms (k + 1) sized;
    }

-- what stands after a byte of a message, up to its end
pub rest_whole : (m : List ℕ) (o : ℕ) → take (length m - o) (drop o m) ≡ drop o m
rest_whole m o = take_all (length m - o) (drop o m) (omega (arith, length-drop o m))

-- where text is left, so is a message
pub spot_inside : (ms : List (List ℕ)) (k o taken : ℕ) → IsSpot ms k o taken → taken < length (concat ms) → k < length ms
spot_inside ms k o taken spot lt =
    elim (cases_lt k (length ms)) [
      | inl inside ↦ inside
      | inr past ↦
          let P : List (List ℕ) → Type 0 = λ l. IsInFirst o l in
          let none : o ≡ 0 = subst P (drop_all k ms past) spot.first in
          let all : length (concat (take k ms)) ≡ length (concat ms) = ap (λ l. length (concat l)) (take_all k ms past) in
          omega (arith, spot.sum, none, all, lt)
    ]

-- the message that stands there
pub message_there : (ms : List (List ℕ)) (k : ℕ) (m d : List ℕ) → k < length ms → m ≡ get_or ms k d → drop k ms ≡ m ∷ drop (suc k) ms
message_there ms k m d lt is = drop-cons ms k d lt ∙ ap (λ x. x ∷ drop (suc k) ms) (sym is)

-- further on by some bytes of one message
pub spot_on : (ms : List (List ℕ)) (k o taken n : ℕ) (m : List ℕ) (rest : List (List ℕ)) (r : Spot) → MessagesAreSized ms → IsSpot ms k o taken → k < length ms → drop k ms ≡ m ∷ rest → o + n ≤ length m
    → (o + n ≡ length m → r ≡ record { message = k + 1; offset = 0; taken = taken + n })
    → (o + n < length m → r ≡ record { message = k; offset = o + n; taken = taken + n })
    → IsSpot ms r.message r.offset r.taken
spot_on ms k o taken n m rest r sized spot lt at le end within =
    let P : Spot → Type 0 = λ s. IsSpot ms s.message s.offset s.taken in
    elim (cases_lt (o + n) (length m)) [
      | inl more ↦ subst P (sym (within more)) (spot_within ms k o taken n m rest spot at more)
      | inr none ↦
          let whole : o + n ≡ length m = omega (arith, le, none) in
          subst P (sym (end whole)) (spot_after ms k o taken n m rest sized spot lt at whole)
    ]

-- one message more
pub sized_more : (ms : List (List ℕ)) (m : List ℕ) → MessagesAreSized ms → 0 < length m → length m ≤ 4194309 → MessagesAreSized (ms ++ m ∷ [])
sized_more [] m sized filled fits = (filled, fits, tt)
sized_more (x ∷ ms) m sized filled fits = (sized.0, sized.1, sized_more ms m sized.2 filled fits)

pub bytes_more : (ms : List (List ℕ)) (m : List ℕ) → length (concat (ms ++ m ∷ [])) ≡ length (concat ms) + length m
bytes_more [] m = grind (arith, common_steps)
bytes_more (x ∷ ms) m = omega (arith, length-append x (concat (ms ++ m ∷ [])), length-append x (concat ms), bytes_more ms m)

-- what stands after so many bytes, and after more
pub drop_on : (s n : ℕ) (xs : List ℕ) → drop n (drop s xs) ≡ drop (s + n) xs
drop_on zero n xs = ap (λ k. drop k xs) (sym (zero-add n))
drop_on (suc s) n [] = drop_all n [] (omega arith) ∙ sym (drop_all (suc s + n) [] (omega arith))
drop_on (suc s) n (x ∷ xs) =
    let e : suc (s + n) ≡ suc s + n = omega arith in
    drop_on s n xs ∙ ap (λ k. drop k (x ∷ xs)) e

-- bytes and the bytes after them
pub bytes_on : (xs : List ℕ) (s a r : ℕ) → s ≤ a → a ≤ r → take (a - s) (drop s xs) ++ take (r - a) (drop a xs) ≡ take (r - s) (drop s xs)
bytes_on xs s a r sa ar =
    let sum : (a - s) + (r - a) ≡ r - s = omega (arith, sa, ar) in
    let there : drop (a - s) (drop s xs) ≡ drop a xs = drop_on s (a - s) xs ∙ ap (λ k. drop k xs) (omega (arith, sa)) in
    ap (λ l. take (a - s) (drop s xs) ++ take (r - a) l) (sym there) ∙ sym (take-add (a - s) (r - a) (drop s xs)) ∙ ap (λ n. take n (drop s xs)) sum

-- what isn't passed at a spot is what stands from it on
pub unpassed_there : (ms : List (List ℕ)) (k o : ℕ) → k ≤ length ms → IsInFirst o (drop k ms) → unpassed (length (concat (take k ms)) + o) ms ≡ drop k ms
unpassed_there [] zero o le first = refl
unpassed_there [] (suc k) o le first = refl
unpassed_there (m ∷ ms) zero o le first =
    let test : nat_le (length m) (0 + o) ≡ false = grind (arith, nat_tests) in
    ap (λ b. if b then unpassed (0 + o - length m) ms else m ∷ ms) test
unpassed_there (m ∷ ms) (suc k) o le first =
    let prefix = concat (take k ms) in
    let len : length (m ++ prefix) ≡ length m + length prefix = length-append m prefix in
    let test : nat_le (length m) (length (m ++ prefix) + o) ≡ true = grind (arith, nat_tests) in
    let rest : length (m ++ prefix) + o - length m ≡ length prefix + o = omega (arith, len) in
    ap (λ b. if b then unpassed (length (m ++ prefix) + o - length m) ms else m ∷ ms) test
    ∙ ap (λ n. unpassed n ms) rest ∙ unpassed_there ms k o (omega (arith, le)) first
