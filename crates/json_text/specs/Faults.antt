-- Where a repeated name, a level too many and an exponent stand, in the words of the grammar.
use Rattle.std.specs.Prelude.{◌≡◌, ◌⊎◌, ℕ, zero, suc, ◌≤◌, true, List, [], ◌∷◌, ◌++◌, length, take}
use Rattle.json_text.specs.Tree.{Items, Members, is_named}
use Rattle.json_text.specs.Grammar.{IsBlank, HasExponent, IsString, Named, BeforeItem, BeforeName}

-- the prefix of a text up to where a value of a list may begin
abbrev pub AwaitsItem : (List ℕ → Type 0) → List ℕ → Type 0
AwaitsItem Outer p = (items : Items) × (outer inner : List ℕ) × (p ≡ outer ++ 91 ∷ inner) × Outer outer × BeforeItem items inner

-- the prefix of a text up to where a value of an object may begin
abbrev pub AwaitsMember : (List ℕ → Type 0) → List ℕ → Type 0
AwaitsMember Outer p =
    (members : Members) × (name outer inner : List ℕ) × (p ≡ outer ++ 123 ∷ inner) × Outer outer × Named (λ f. BeforeName members f) name inner

-- the prefix of a text up to where a value may begin, inside this many lists and objects
abbrev pub Awaits : ℕ → List ℕ → Type 0
Awaits zero p = IsBlank p
Awaits (suc zero) p = AwaitsMember IsBlank p
Awaits (suc (suc levels)) p = AwaitsItem (Awaits (suc levels)) p ⊎ AwaitsMember (Awaits (suc levels)) p

-- a name that stands in its object already, the second beginning at k
abbrev pub RepeatsName : ℕ → List ℕ → Type 0
RepeatsName k p =
    (levels : ℕ) × (members : Members) × (name outer prefix spelled : List ℕ) × (p ≡ outer ++ (123 ∷ (prefix ++ spelled)))
    × (k ≡ length (outer ++ 123 ∷ prefix)) × Awaits levels outer × BeforeName members prefix × IsString name spelled
    × (is_named name members ≡ true)

-- a bracket at k that opens a further level where 32 are open
abbrev pub OpensTooDeep : ℕ → List ℕ → Type 0
OpensTooDeep k p =
    (levels : ℕ) × (prefix : List ℕ) × (b : ℕ) × (p ≡ prefix ++ b ∷ []) × (k ≡ length prefix) × (32 ≤ levels)
    × Awaits levels prefix × ((b ≡ 91) ⊎ (b ≡ 123))

-- a number with an exponent, beginning at k
abbrev pub ExponentAt : ℕ → List ℕ → Type 0
ExponentAt k p =
    (levels : ℕ) × (outer spelled : List ℕ) × (p ≡ outer ++ spelled) × (k ≡ length outer) × Awaits levels outer × HasExponent spelled

-- after some first bytes of a text
abbrev pub After : (List ℕ → Type 0) → List ℕ → Type 0
After P bytes = (n : ℕ) × (n ≤ length bytes) × P (take n bytes)
