-- A row that isn't open has nothing to send.
use Rattle.std.proofs.Common.{◌≡◌, ◌≤◌, ◌<◌, ℕ, Bool, true, false, not, ◌||◌, ◌==◌, nat_lt, if◌then◌else◌, Option, Some, None, is_some, [], length, drop, refl, sym, ap, subst, arith}
use Rattle.std.proofs.lemmas.Bool.{eqb-true, ltb-true}
use Rattle.std.specs.Option.{option_map_or}
use Rattle.attempt_buffer.specs.Buffers.{Buffered, is_open, left_of, taken_by, text_of}

none_left : (b : Buffered) (o : Option ℕ) → is_some o ≡ false → option_map_or (λ taken. drop taken (text_of b)) o [] ≡ []
none_left b None e = refl
none_left b (Some taken) e = absurd (cc)

same_left : (row t : ℕ) (b : Buffered) (x : Bool) → (t == row) ≡ x → left_of t b ≡ (if x then left_of row b else left_of t b)
same_left row t b true e = ap (λ (k : ℕ). left_of k b) (eqb-true t row e)
same_left row t b false e = refl

shut_left : (row len : ℕ) (b : Buffered) (t : ℕ) → is_open row b ≡ false → len ≤ length (left_of row b) → left_of t b ≡ (if t == row then drop len (left_of row b) else left_of t b)
shut_left row len b t shut h =
    let none : length (left_of row b) ≡ 0 = ap length (none_left b (taken_by row b) shut) in
    let zero : len ≡ 0 = omega (arith, h, none) in
    subst (λ (k : ℕ). left_of t b ≡ (if t == row then drop k (left_of row b) else left_of t b)) (sym zero) (same_left row t b (t == row) refl)

by_open : (row len : ℕ) (b : Buffered) (x : Bool) → is_open row b ≡ x → (not x || nat_lt (length (left_of row b)) len) ≡ true → len ≤ length (left_of row b) → (t : ℕ) → left_of t b ≡ (if t == row then drop len (left_of row b) else left_of t b)
by_open row len b false e test h t = shut_left row len b t e h
by_open row len b true e test h t =
    let less : length (left_of row b) < len = ltb-true (length (left_of row b)) len test in absurd (let no : ⊥ = omega (arith, h, less) in no)

pub unfed_left : (row len : ℕ) (b : Buffered) → (not (is_open row b) || nat_lt (length (left_of row b)) len) ≡ true → len ≤ length (left_of row b) → (t : ℕ) → left_of t b ≡ (if t == row then drop len (left_of row b) else left_of t b)
unfed_left row len b test h t = by_open row len b (is_open row b) refl test h t
