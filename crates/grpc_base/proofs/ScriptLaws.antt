-- The parts of an answer after the first of some kind, and the numbers of answers.
use Rattle.std.proofs.Common.{◌≡◌, ℕ, ◌+◌, ◌-◌, ◌<◌, ◌≤◌, Bool, true, false, cond, nat_lt, Some, None, List, [], length, take, drop, position, arith, refl, sym, ap, subst, get_or, ◌∙◌}
use Rattle.std.proofs.lemmas.Grind.{common_steps}
use Rattle.std.proofs.lemmas.Bool.Decides.{nat_tests}
use Rattle.std.specs.List.{after_first, position_or_len}
use Rattle.grpc_base.specs.declared.script.AnswerLine.{AnswerLine}
use Rattle.grpc_base.specs.Scripts.{AnswersAreNumbered, count_of}

place_is : (b : Bool) (n place : ℕ) → cond b (Some n) None ≡ Some place → n ≡ place
place_is true n place e = (cc)
place_is false n place e = absurd (cc)

not_within : (b : Bool) (n : ℕ) → cond b (Some n) None ≡ None → b ≡ false
not_within true n e = absurd (cc)
not_within false n e = refl

all_taken : {X : Type 0} (n : ℕ) (xs : List X) → take (length xs - n) (drop n xs) ≡ drop n xs
all_taken n xs = grind (arith, common_steps)

pub after_the_first : {X : Type 0} (p : X → Bool) (xs : List X) (place : ℕ) → position p xs ≡ Some place → take (length xs - (place + 1)) (drop (place + 1) xs) ≡ after_first p xs
after_the_first p xs place e =
    let n : position_or_len p xs ≡ place = place_is (nat_lt (position_or_len p xs) (length xs)) (position_or_len p xs) place e in
    all_taken (place + 1) xs ∙ ap (λ k. drop (k + 1) xs) (sym n)

past : (n m : ℕ) → nat_lt n m ≡ false → m ≤ n + 1
past n m t = grind (arith, nat_tests)

none_left : {X : Type 0} (n : ℕ) (xs : List X) → length xs ≤ n → [] ≡ drop n xs
none_left n xs h = grind (arith, common_steps)

pub after_none : {X : Type 0} (p : X → Bool) (xs : List X) → position p xs ≡ None → [] ≡ after_first p xs
after_none p xs e =
    none_left (position_or_len p xs + 1) xs (past (position_or_len p xs) (length xs) (not_within (nat_lt (position_or_len p xs) (length xs)) (position_or_len p xs) e))

-- the number of one of the answers
pub numbered_at : (answers : List AnswerLine) (i : ℕ) (a : AnswerLine) → i < length answers → a ≡ get_or answers i a → AnswersAreNumbered answers → a.n ≡ count_of a.path (take i answers) + 1
numbered_at answers i a within is numbered = subst (λ (b : AnswerLine). b.n ≡ count_of b.path (take i answers) + 1) (sym is) (numbered i a within)
