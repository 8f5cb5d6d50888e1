-- Words on lists and options. The things of a session are numbered from 1. In the other files mostly c is a call, a an attempt, k the one to which a
-- call is committed, l a link, b a subchannel, g a policy, h a held config. And s is what is seen, o the open entry, e an event or an end.
-- Example: of the list a, b the number 1 names a, 2 names b, and 0 and 3 name nothing; `changed f 2` makes it a, f b. The `foremost` of 3, 1, 2
-- by `nat_lt` is 1, and the `sooner` of 5 and nothing is 5.
use Rattle.std.specs.Option.{option_map_or, option_or}
use Rattle.std.specs.Prelude.{Bool, List, None, Option, Some, [], false, if◌then◌else◌, length, min, pred, slice_get, slice_set, suc, zero, ℕ, ◌==◌, ◌∷◌}

-- the thing of a number
abbrev pub numbered : {X : Type 0} → List X → ℕ → Option X
numbered xs zero = None
numbered xs (suc index) = slice_get xs index

-- the last one
abbrev pub last_of : {X : Type 0} → List X → Option X
last_of xs = numbered xs (length xs)

-- the list with the thing of a number changed
abbrev pub changed_if : {X : Type 0} → (X → X) → ℕ → List X → Option X → List X
changed_if f number xs None = xs
changed_if f number xs (Some x) = slice_set xs (pred number) (f x)

abbrev pub changed : {X : Type 0} → (X → X) → ℕ → List X → List X
changed f number xs = changed_if f number xs (numbered xs number)

-- a test of a value that may not be there
abbrev pub holds : {X : Type 0} → (X → Bool) → Option X → Bool
holds test None = false
holds test (Some x) = test x

-- the last one that passes a test
abbrev pub find_last : {X : Type 0} → (X → Bool) → List X → Option X
find_last test [] = None
find_last test (x ∷ xs) = option_or (find_last test xs) (if test x then Some x else None)

-- the first value that one of these gives
abbrev pub first_of : {X Y : Type 0} → (X → Option Y) → List X → Option Y
first_of f [] = None
first_of f (x ∷ xs) = option_or (f x) (first_of f xs)

-- the one that comes before all others, the first of equals
abbrev pub earlier : {X : Type 0} → (X → X → Bool) → X → Option X → X
earlier is_before x None = x
earlier is_before x (Some y) = if is_before y x then y else x

abbrev pub foremost : {X : Type 0} → (X → X → Bool) → List X → Option X
foremost is_before [] = None
foremost is_before (x ∷ xs) = Some (earlier is_before x (foremost is_before xs))

-- the lesser of two numbers that may not be there
abbrev pub sooner : Option ℕ → Option ℕ → Option ℕ
sooner None other = other
sooner (Some n) other = Some (option_map_or (λ m. min n m) other n)

-- whether a number is this one
abbrev pub is_number : ℕ → Option ℕ → Bool
is_number n o = holds (λ m. m == n) o
