-- Texts that are appended to one run of memory.
use Rattle.std.proofs.Common.{◌≡◌, ℕ, ◌-◌, arith, List, [], ◌∷◌, ◌++◌, length, take, drop, refl, sym, ◌∙◌, ap, Result, Ok, Err, Some, false, true}
use Rattle.std.specs.Prelude.{bytes_eq, slice_range}
use Rattle.std.proofs.lemmas.Slice.Eq.{bytes_eq-Decides}
use Rattle.h2_hpack.specs.declared.fault.HpackFault.{HpackFault}
use Rattle.h2_hpack.specs.Blocks.{RawString, and_then, raw_string_at, spelled_at, text_at, text_after}

ok_parts : (x y : List ℕ × List ℕ) → ◌≡◌ {A = Result (List ℕ × List ℕ) HpackFault} (Ok x) (Ok y) → (x.0 ≡ y.0) × (x.1 ≡ y.1)
ok_parts x y h =
    let same : x ≡ y = cc h in
    (ap (λ (z : List ℕ × List ℕ). z.0) same, ap (λ (z : List ℕ × List ℕ). z.1) same)

-- what was appended is the text
appended : (before new rest : List ℕ) (t : Result (List ℕ × List ℕ) HpackFault) → and_then {B = List ℕ × List ℕ} t (λ x. Ok (before ++ x.0, x.1)) ≡ Ok (new, rest) → (text : List ℕ) × (t ≡ Ok (text, rest)) × (before ++ text ≡ new)
appended before new rest (Err e) h = absurd (cc h)
appended before new rest (Ok x) h =
    let parts = ok_parts (before ++ x.0, x.1) (new, rest) h in
    (x.0, ap (λ r. Ok (x.0, r)) parts.1, parts.0)

pub alone : (bytes new rest : List ℕ) → text_after [] bytes ≡ Ok (new, rest) → text_at bytes ≡ Ok (new, rest)
alone bytes new rest h =
    let a = appended [] new rest (text_at bytes) h in
    a.1 ∙ ap (λ l. Ok (l, rest)) a.2

take_prefix : (xs ys : List ℕ) → take (length xs) (xs ++ ys) ≡ xs
take_prefix [] ys = refl
take_prefix (x ∷ xs) ys = ap (λ l. x ∷ l) (take_prefix xs ys)

drop_prefix : (xs ys : List ℕ) → drop (length xs) (xs ++ ys) ≡ ys
drop_prefix [] ys = refl
drop_prefix (x ∷ xs) ys = drop_prefix xs ys

pub two_texts : (bytes name rest both end : List ℕ) → text_after [] bytes ≡ Ok (name, rest) → text_after name rest ≡ Ok (both, end) → spelled_at bytes ≡ Ok (record { name = take (length name) both; value = drop (length name) both }, end)
two_texts bytes name rest both end first second =
    let n = alone bytes name rest first in
    let v = appended name both end (text_at rest) second in
    let leading : take (length name) both ≡ name = ap (take (length name)) (sym v.2) ∙ take_prefix name v.0 in
    let back : drop (length name) both ≡ v.0 = ap (drop (length name)) (sym v.2) ∙ drop_prefix name v.0 in
    rw (n, v.1, leading, back) refl

pub bad_name : (bytes : List ℕ) (e : HpackFault) → text_at bytes ≡ Err e → spelled_at bytes ≡ Err e
bad_name bytes e h = rw h refl

pub bad_value : (bytes name rest : List ℕ) (e : HpackFault) → text_after [] bytes ≡ Ok (name, rest) → text_at rest ≡ Err e → spelled_at bytes ≡ Err e
bad_value bytes name rest e first h = rw (alone bytes name rest first, h) refl

slice_prefix : (xs : List ℕ) (n : ℕ) → slice_range xs 0 n ≡ take n xs
slice_prefix xs n = let same : n - 0 ≡ n = omega arith in ap (λ k. take k xs) same

-- a name and a value that lie after each other
pub cut_apart : (bytes start name rest both end whole leading back : List ℕ) (len : ℕ) → start ≡ [] → text_after start bytes ≡ Ok (name, rest) → len ≡ length name → text_after name rest ≡ Ok (both, end) → whole ≡ both → leading ≡ slice_range whole 0 len → back ≡ drop len whole → spelled_at bytes ≡ Ok (record { name = leading; value = back }, end)
cut_apart bytes start name rest both end whole leading back len empty first len_is second whole_is prefix_is back_is =
    let begun : text_after [] bytes ≡ Ok (name, rest) = ap (λ l. text_after l bytes) (sym empty) ∙ first in
    let cut : leading ≡ take (length name) both = prefix_is ∙ slice_prefix whole len ∙ ap (λ k. take k whole) len_is ∙ ap (take (length name)) whole_is in
    let left : back ≡ drop (length name) both = back_is ∙ ap (λ k. drop k whole) len_is ∙ ap (drop (length name)) whole_is in
    rw (cut, left) (two_texts bytes name rest both end begun second)

pub same_text : (a b : List ℕ) → bytes_eq a b ≡ true → a ≡ b
same_text a b = (bytes_eq-Decides a b).0

-- a string that is no Huffman text
pub plain_text : (bytes text rest : List ℕ) (raw : RawString) → Some raw ≡ raw_string_at bytes → raw.huffman ≡ false → text ≡ raw.bytes → rest ≡ raw.rest → text_at bytes ≡ Ok (text, rest)
plain_text bytes text rest raw is plain text_is rest_is = rw (sym is, plain, text_is, rest_is) refl
