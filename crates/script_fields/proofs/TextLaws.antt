-- Texts of numbers and of hex.
use Rattle.std.proofs.Common.{length-append, ◌≡◌, ◌≢◌, ℕ, ◌+◌, ◌/◌, ◌%◌, ◌^◌, ◌<◌, ◌≤◌, List, [], ◌∷◌, ◌++◌, length, refl, ap, sym, subst, inl, inr, ◌⊎◌, arith, All, take, drop, ◌-◌, ◌∙◌, true, false, Bool, Option, Some, None, Result, Ok, Err, get_or}
use Rattle.std.specs.Cmp.Lexicographic.{pointwise}
use Rattle.std.specs.Option.{MatchOption}
use Rattle.std.proofs.lemmas.Slice.Eq.{bytes_eq-Decides}
use Rattle.std.proofs.lemmas.List.{take-append-drop}
use Rattle.std.proofs.lemmas.Bool.{true≢false}
use Rattle.std.proofs.lemmas.Grind.{common_steps}
use Rattle.std.proofs.lemmas.Bool.Decides.{nat_tests}
use Rattle.std.specs.List.{AllByRecursion}
use Rattle.std.specs.Prelude.{decimal, IfOk, IfSome, IfNone, nat_eq, ◌==◌}
use Rattle.std.proofs.lemmas.Fmt.{decimal_injective, decimal_by_steps}
use Rattle.std.proofs.lemmas.List.Elements.{recursion_from_All, All-from_get_or, All-from_recursion}
use Rattle.script_fields.specs.Spelling.{hex_digits, hex_or_dash, lower_digit}
use Rattle.script_fields.specs.Values.{IsBytes}
use Rattle.script_fields.specs.Values.{IsNoDigit}

-- a fact on an option that is none, where the fact holds anyway
pub if_none : {X : Type 0} (o : Option X) {P : Type 0} → P → IfNone o P
if_none (Some x) p = tt
if_none None p = p

-- a digit
abbrev IsDigit : ℕ → Type 0
IsDigit d = (48 ≤ d) × (d ≤ 57)

pub push_all : (P : ℕ → Type 0) (xs : List ℕ) (x : ℕ) → AllByRecursion P xs → P x → AllByRecursion P (xs ++ x ∷ [])
push_all P [] x all p = (p, tt)
push_all P (y ∷ xs) x all p = (all.0, push_all P xs x all.1 p)

digits_only : (n : ℕ) → n < 2 ^ 64 → AllByRecursion IsDigit (decimal n)
digits_only = decimal_by_steps (λ n ds. AllByRecursion IsDigit ds)
    (λ n small. ((omega arith, omega arith), tt))
    (λ n ds large all. push_all IsDigit ds (48 + n % 10) all (omega arith, omega arith))

free_list : (b : ℕ) (ds : List ℕ) → IsNoDigit b → AllByRecursion IsDigit ds → AllByRecursion (λ d. d ≢ b) ds
free_list b [] nd all = tt
free_list b (d ∷ ds) nd all = ((λ e. grind (arith, nd, all.0, e)), free_list b ds nd all.1)

-- a number has no other byte than digits
pub free_of : (b n : ℕ) → IsNoDigit b → n < 2 ^ 64 → AllByRecursion (λ d. d ≢ b) (decimal n)
free_of b n nd small = free_list b (decimal n) nd (digits_only n small)

-- a text has one cut at the first of a byte
pub one_cut : (b : ℕ) (s t m n : List ℕ) → AllByRecursion (λ d. d ≢ b) s → AllByRecursion (λ d. d ≢ b) t → s ++ b ∷ m ≡ t ++ b ∷ n → (s ≡ t) × (m ≡ n)
one_cut b [] [] m n p q e = (refl, (cc))
one_cut b [] (y ∷ t) m n p q e = absurd (q.0 (cc))
one_cut b (x ∷ s) [] m n p q e = absurd (p.0 (cc))
one_cut b (x ∷ s) (y ∷ t) m n p q e =
    let head : x ≡ y = (cc) in
    let rest : s ++ b ∷ m ≡ t ++ b ∷ n = (cc) in
    let both : (s ≡ t) × (m ≡ n) = one_cut b s t m n p.1 q.1 rest in
    let prefix : s ≡ t = both.0 in
    ((cc), both.1)

no_cut_list : (b : ℕ) (s m : List ℕ) → AllByRecursion (λ d. d ≢ b) (s ++ b ∷ m) → ⊥
no_cut_list b [] m all = all.0 refl
no_cut_list b (x ∷ s) m all = no_cut_list b s m all.1

-- a text without a byte has no cut at it
pub no_cut : (b : ℕ) (text s m : List ℕ) → All (λ d. d ≢ b) text → text ≡ s ++ b ∷ m → ⊥
no_cut b text s m all e = no_cut_list b s m (recursion_from_All (λ d. d ≢ b) (s ++ b ∷ m) (subst (All (λ d. d ≢ b)) e all))

-- a number before a byte, cut there
pub number_cut : (b n : ℕ) (text s m rest : List ℕ) → IsNoDigit b → n < 2 ^ 64 → All (λ d. d ≢ b) s → text ≡ s ++ b ∷ m → text ≡ decimal n ++ b ∷ rest → (s ≡ decimal n) × (m ≡ rest)
number_cut b n text s m rest nd small free e f =
    one_cut b s (decimal n) m rest (recursion_from_All (λ d. d ≢ b) s free) (free_of b n nd small) (sym e ∙ f)

-- two numbers before a byte
pub same_number : (b n k : ℕ) (text r s : List ℕ) → IsNoDigit b → n < 2 ^ 64 → k < 2 ^ 64 → text ≡ decimal n ++ b ∷ r → text ≡ decimal k ++ b ∷ s → (n ≡ k) × (r ≡ s)
same_number b n k text r s nd small small_k e f =
    let both : (decimal n ≡ decimal k) × (r ≡ s) = one_cut b (decimal n) (decimal k) r s (free_of b n nd small) (free_of b k nd small_k) (sym e ∙ f) in
    (decimal_injective n k small small_k both.0, both.1)

-- hex
digit_one : (d e : ℕ) → d < 16 → e < 16 → lower_digit d ≡ lower_digit e → d ≡ e
digit_one d e d_small e_small same = grind (arith, nat_tests)

byte_one : (x y : ℕ) → x < 256 → y < 256 → lower_digit (x / 16) ≡ lower_digit (y / 16) → lower_digit (x % 16) ≡ lower_digit (y % 16) → x ≡ y
byte_one x y x_small y_small high low =
    let h : x / 16 ≡ y / 16 = digit_one (x / 16) (y / 16) (omega arith) (omega arith) high in
    let l : x % 16 ≡ y % 16 = digit_one (x % 16) (y % 16) (omega arith) (omega arith) low in
    omega arith

-- what stands after the digits of bytes is the digits of bytes
pub hex_after : (xs v rest : List ℕ) → AllByRecursion (λ b. b < 256) v → hex_digits xs ++ rest ≡ hex_digits v → (w : List ℕ) × AllByRecursion (λ b. b < 256) w × (rest ≡ hex_digits w)
hex_after [] v rest all e = (v, all, e)
hex_after (x ∷ xs) [] rest all e = absurd (grind (arith, common_steps, e))
hex_after (x ∷ xs) (y ∷ v) rest all e =
    let tail : hex_digits xs ++ rest ≡ hex_digits v = (cc) in
    hex_after xs v rest all.1 tail

-- bytes have one spelling, and no spelling is that of two
pub hex_one : (v w : List ℕ) → AllByRecursion (λ b. b < 256) v → AllByRecursion (λ b. b < 256) w → hex_digits v ≡ hex_digits w → v ≡ w
hex_one [] [] p q e = refl
hex_one [] (y ∷ w) p q e = absurd (grind (arith, common_steps, e))
hex_one (x ∷ v) [] p q e = absurd (grind (arith, common_steps, e))
hex_one (x ∷ v) (y ∷ w) p q e =
    let high : lower_digit (x / 16) ≡ lower_digit (y / 16) = (cc) in
    let low : lower_digit (x % 16) ≡ lower_digit (y % 16) = (cc) in
    let tail : hex_digits v ≡ hex_digits w = (cc) in
    let head : x ≡ y = byte_one x y p.0 q.0 high low in
    let same : v ≡ w = hex_one v w p.1 q.1 tail in
    (cc)

pub bool_cases : (t : Bool) → (t ≡ true) ⊎ (t ≡ false)
bool_cases true = inl refl
bool_cases false = inr refl

take-append-le2 : (head rest : List ℕ) → take (length head) (head ++ rest) ≡ head
take-append-le2 head rest = grind (arith, common_steps)

-- a prefix that was taken off, and one that was not
pub prefix_taken : {X : Type 0} (now : X → List ℕ) (o : Option X) (text head : List ℕ) → MatchOption o (pointwise nat_eq (take (length head) text) head ≡ false) (λ x. (pointwise nat_eq (take (length head) text) head ≡ true) × (now x ≡ drop (length head) text) × (length (now x) + length head ≡ length text)) → IfSome o (λ x. text ≡ head ++ now x)
prefix_taken now (Some x) text head h =
    let prefix : take (length head) text ≡ head = (bytes_eq-Decides (take (length head) text) head).0 h.0 in
    sym (take-append-drop (length head) text) ∙ ap (λ t. t ++ drop (length head) text) prefix ∙ ap (λ t. head ++ t) (sym h.1)
prefix_taken now None text head h = tt

pub prefix_not_taken : {X : Type 0} (now : X → List ℕ) (o : Option X) (text head : List ℕ) → MatchOption o (pointwise nat_eq (take (length head) text) head ≡ false) (λ x. (pointwise nat_eq (take (length head) text) head ≡ true) × (now x ≡ drop (length head) text) × (length (now x) + length head ≡ length text)) → IfNone o ((rest : List ℕ) → text ≢ head ++ rest)
prefix_not_taken now (Some x) text head h = tt
prefix_not_taken now None text head h = λ rest e.
    let prefix : take (length head) text ≡ head = ap (take (length head)) e ∙ take-append-le2 head rest in
    true≢false (sym ((bytes_eq-Decides (take (length head) text) head).1 prefix) ∙ h)

-- bytes that are known by their spelling
pub bytes_from : (v : List ℕ) → IsBytes v → AllByRecursion (λ b. b < 256) v
bytes_from v all = recursion_from_All (λ b. b < 256) v all

short_of : (w rest : List ℕ) → rest ≡ hex_digits w → 1 ≤ length rest → 2 ≤ length rest
short_of [] rest e filled = (let l : length rest ≡ 0 = ap length e in absurd (omega (arith, l)))
short_of (x ∷ w) rest e filled = (let l : length rest ≡ length (lower_digit (x / 16) ∷ lower_digit (x % 16) ∷ hex_digits w) = ap length e in omega (arith, l))

pub hex_short : (text bytes v rest : List ℕ) → IsBytes v → text ≡ hex_digits bytes ++ rest → text ≡ hex_digits v → 1 ≤ length rest → length rest < 2 → ⊥
hex_short text bytes v rest all e f filled short =
    let w : (w : List ℕ) × AllByRecursion (λ b. b < 256) w × (rest ≡ hex_digits w) = hex_after bytes v rest (bytes_from v all) (sym e ∙ f) in
    let long : 2 ≤ length rest = short_of w.0 rest w.2 filled in
    omega (arith, long, short)

two_of : (w rest : List ℕ) → AllByRecursion (λ b. b < 256) w → rest ≡ hex_digits w → 1 ≤ length rest → (b : ℕ) × (b < 256) × (get_or rest 0 0 ≡ lower_digit (b / 16)) × (get_or rest 1 0 ≡ lower_digit (b % 16))
two_of [] rest p e filled = (let l : length rest ≡ 0 = ap length e in absurd (omega (arith, l)))
two_of (x ∷ w) rest p e filled = (x, p.0, ap (λ (t : List ℕ). get_or t 0 0) e, ap (λ (t : List ℕ). get_or t 1 0) e)

pub hex_other : (text bytes v rest : List ℕ) (high low : ℕ) → IsBytes v → text ≡ hex_digits bytes ++ rest → text ≡ hex_digits v → 1 ≤ length rest → high ≡ get_or rest 0 0 → low ≡ get_or rest 1 0 → ((b : ℕ) → b < 256 → high ≡ lower_digit (b / 16) → low ≡ lower_digit (b % 16) → ⊥) → ⊥
hex_other text bytes v rest high low all e f filled h l none =
    let w : (w : List ℕ) × AllByRecursion (λ b. b < 256) w × (rest ≡ hex_digits w) = hex_after bytes v rest (bytes_from v all) (sym e ∙ f) in
    let x : (b : ℕ) × (b < 256) × (get_or rest 0 0 ≡ lower_digit (b / 16)) × (get_or rest 1 0 ≡ lower_digit (b % 16)) = two_of w.0 rest w.1 w.2 filled in
    none x.0 x.1 (h ∙ x.2) (l ∙ x.3)

-- bytes that are a dash or hex have one spelling, and no spelling is that of two
pub dash_one : (v w : List ℕ) → IsBytes v → IsBytes w → hex_or_dash v ≡ hex_or_dash w → v ≡ w
dash_one [] [] p q e = refl
dash_one [] (y ∷ w) p q e = (let rest : [] ≡ lower_digit (y % 16) ∷ hex_digits w = (cc) in absurd ((cc)))
dash_one (x ∷ v) [] p q e = (let rest : lower_digit (x % 16) ∷ hex_digits v ≡ [] = (cc) in absurd ((cc)))
dash_one (x ∷ v) (y ∷ w) p q e = hex_one (x ∷ v) (y ∷ w) (bytes_from (x ∷ v) p) (bytes_from (y ∷ w) q) e

pub dash_none : (v text : List ℕ) → text ≢ 45 ∷ [] → text ≡ hex_or_dash v → text ≡ hex_digits v
dash_none [] text other e = absurd (other e)
dash_none (x ∷ v) text other e = e

-- what no option spells, from what none spells
pub map_none : {X E : Type 0} (r : Result (Option X) E) (P Q : Type 0) → (P → Q) → IfOk r (λ o. IfNone o P) → IfOk r (λ o. IfNone o Q)
map_none (Ok (Some x)) P Q f h = tt
map_none (Ok None) P Q f h = f h
map_none (Err e) P Q f h = tt
