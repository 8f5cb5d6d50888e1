-- The uses of policies: the one that is found by a test, the ones that pass it, and a change of the one of a number.
use Rattle.std.proofs.Common.{◌≡◌, ◌+◌, ◌<◌, ◌∷◌, ◌||◌, ◌==◌, ap, arith, refl, subst, sym, ◌∙◌, Bool, true, false, List, [], Option, None, Some, ℕ, zero, suc, cond, slice_get, map, length}
use Rattle.std.proofs.lemmas.Bool.{eq-eqb, or_parts}
use Rattle.std.specs.List.{list_any}
use Rattle.std.specs.Option.{option_map}
use Rattle.std.specs.Prelude.{find}
use Rattle.net_actions.proofs.OwnLinks.{unlike}
use Rattle.net_actions.proofs.Quiet.{at_number, changed_number}
use Rattle.net_actions.proofs.Running.{both_false}
use Rattle.net_actions.specs.Sees.{PoliciesAreNumbered, AtMostOne}
use Rattle.session_actions.specs.Words.{changed, holds}
use Rattle.session_actions.specs.declared.policy.PolicyUse.{PolicyUse}

-- where a use stands that is found
pub record UseAt (uses : List PolicyUse) (g : PolicyUse) (n : ℕ) : Type 0 where
  pub place : ℕ
  pub own : slice_get uses place ≡ Some g
  pub number_is : g.number ≡ n + place

use_by : (c : PolicyUse) (uses : List PolicyUse) (test : PolicyUse → Bool) (n : ℕ) (g : PolicyUse) (t : Bool) → c.number ≡ n
    → cond t (Some c) (find test uses) ≡ Some g → (find test uses ≡ Some g → UseAt uses g (n + 1)) → UseAt (c ∷ uses) g n
use_by c uses test n g true number e next =
    let one : c ≡ g = (cc) in
    let k : n ≡ n + 0 = omega arith in
    record { place = 0; own = ap (λ (x : PolicyUse). Some x) one; number_is = sym (ap (λ (x : PolicyUse). x.number) one) ∙ number ∙ k }
use_by c uses test n g false number e next =
    let later : UseAt uses g (n + 1) = next e in
    let k : n + 1 + later.place ≡ n + suc later.place = omega arith in
    record { place = suc later.place; own = later.own; number_is = later.number_is ∙ k }

pub use_at : (uses : List PolicyUse) (test : PolicyUse → Bool) (n : ℕ) (g : PolicyUse) → PoliciesAreNumbered n uses → find test uses ≡ Some g → UseAt uses g n
use_at [] test n g h e = absurd (cc)
use_at (c ∷ uses) test n g h e = use_by c uses test n g (test c) h.0 e (λ f. use_at uses test (n + 1) g h.1 f)

pub use_within : (uses : List PolicyUse) (place : ℕ) (g : PolicyUse) → slice_get uses place ≡ Some g → place < length uses
use_within [] place g e = absurd (cc)
use_within (x ∷ uses) zero g e = omega arith
use_within (x ∷ uses) (suc place) g e = let next : place < length uses = use_within uses place g e in omega arith

-- something of each use
abbrev pub AllUses : (PolicyUse → Type 0) → List PolicyUse → Type 0
AllUses P [] = Unit {0}
AllUses P (g ∷ uses) = P g × AllUses P uses

pub map_uses : (f h : PolicyUse → PolicyUse) (uses : List PolicyUse) → AllUses (λ (g : PolicyUse). f g ≡ h g) uses → map f uses ≡ map h uses
map_uses f h [] all = refl
map_uses f h (g ∷ uses) all = ap (λ (x : PolicyUse). x ∷ map f uses) all.0 ∙ ap (λ (l : List PolicyUse). h g ∷ l) (map_uses f h uses all.1)

pub all_to : (P Q : PolicyUse → Type 0) → ((g : PolicyUse) → P g → Q g) → (uses : List PolicyUse) → AllUses P uses → AllUses Q uses
all_to P Q f [] h = tt
all_to P Q f (g ∷ uses) h = (f g h.0, all_to P Q f uses h.1)

-- where one passes a test at most, it is the one of its number
abbrev pub is_of : Option PolicyUse → PolicyUse → Bool
is_of o g = holds (λ (c : PolicyUse). g.number == c.number) o

abbrev pub ReportsOf : (PolicyUse → Bool) → Option PolicyUse → List PolicyUse → Type 0
ReportsOf test o uses = AllUses (λ (g : PolicyUse). is_of o g ≡ test g) uses

none_pass : (test : PolicyUse → Bool) (uses : List PolicyUse) → list_any test uses ≡ false → ReportsOf test None uses
none_pass test [] e = tt
none_pass test (g ∷ uses) e =
    let parts : (test g ≡ false) × (list_any test uses ≡ false) = or_parts (test g) (list_any test uses) e in
    (sym parts.0, none_pass test uses parts.1)

others_differ : (test : PolicyUse → Bool) (c : PolicyUse) (n : ℕ) (uses : List PolicyUse) → c.number < n → PoliciesAreNumbered n uses → list_any test uses ≡ false
    → ReportsOf test (Some c) uses
others_differ test c n [] less h e = tt
others_differ test c n (g ∷ uses) less h e =
    let parts : (test g ≡ false) × (list_any test uses ≡ false) = or_parts (test g) (list_any test uses) e in
    let other : (g.number == c.number) ≡ false = unlike g.number c.number (λ d. (let number : g.number ≡ n = h.0 in omega (arith, d, number))) in
    (other ∙ sym parts.0, others_differ test c (n + 1) uses (omega arith) h.1 parts.1)

none_by : (test : PolicyUse → Bool) (g : PolicyUse) (uses : List PolicyUse) (x : Bool) → test g ≡ x → cond x (Some g) (find test uses) ≡ None
    → (find test uses ≡ None → list_any test uses ≡ false) → (x || list_any test uses) ≡ false
none_by test g uses true here e next = absurd (cc)
none_by test g uses false here e next = next e

pub none_found : (test : PolicyUse → Bool) (uses : List PolicyUse) → find test uses ≡ None → list_any test uses ≡ false
none_found test [] e = refl
none_found test (g ∷ uses) e = none_by test g uses (test g) refl e (none_found test uses)

reports_by : (test : PolicyUse → Bool) (n : ℕ) (g : PolicyUse) (uses : List PolicyUse) (c : PolicyUse) (x : Bool) → test g ≡ x → PoliciesAreNumbered n (g ∷ uses)
    → (test g ≡ true → list_any test uses ≡ false) → cond x (Some g) (find test uses) ≡ Some c → (find test uses ≡ Some c → ReportsOf test (Some c) uses)
    → ReportsOf test (Some c) (g ∷ uses)
reports_by test n g uses c true here h only e next =
    let one : g ≡ c = (cc) in
    let same : (g.number == c.number) ≡ true = eq-eqb g.number c.number (ap (λ (x : PolicyUse). x.number) one) in
    let number : c.number ≡ n = sym (ap (λ (x : PolicyUse). x.number) one) ∙ h.0 in
    (same ∙ sym here, others_differ test c (n + 1) uses (omega arith) h.1 (only here))
reports_by test n g uses c false here h only e next =
    let at : UseAt uses c (n + 1) = use_at uses test (n + 1) c h.1 e in
    let later : c.number ≡ n + 1 + at.place = at.number_is in
    let number : g.number ≡ n = h.0 in
    let other : (g.number == c.number) ≡ false = unlike g.number c.number (λ d. omega (arith, d, number, later)) in
    (other ∙ sym here, next e)

reports_one : (test : PolicyUse → Bool) (n : ℕ) (uses : List PolicyUse) (c : PolicyUse) → PoliciesAreNumbered n uses → AtMostOne test uses → find test uses ≡ Some c
    → ReportsOf test (Some c) uses
reports_one test n [] c h only e = absurd (cc)
reports_one test n (g ∷ uses) c h only e =
    reports_by test n g uses c (test g) refl h only.0 e (λ f. reports_one test (n + 1) uses c h.1 only.1 f)

pub reports_that : (test : PolicyUse → Bool) (uses : List PolicyUse) (o : Option PolicyUse) → PoliciesAreNumbered 1 uses → AtMostOne test uses → find test uses ≡ o
    → ReportsOf test o uses
reports_that test uses None h only e = none_pass test uses (none_found test uses e)
reports_that test uses (Some c) h only e = reports_one test 1 uses c h only e

pub map_same : (uses : List PolicyUse) → map (λ (g : PolicyUse). g) uses ≡ uses
map_same [] = refl
map_same (g ∷ uses) = ap (λ (l : List PolicyUse). g ∷ l) (map_same uses)

pub map_map : (f h : PolicyUse → PolicyUse) (uses : List PolicyUse) → map f (map h uses) ≡ map (λ (g : PolicyUse). f (h g)) uses
map_map f h [] = refl
map_map f h (g ∷ uses) = ap (λ (l : List PolicyUse). f (h g) ∷ l) (map_map f h uses)

pub get_map : (f : PolicyUse → PolicyUse) (uses : List PolicyUse) (place : ℕ) (g : PolicyUse) → slice_get uses place ≡ Some g → slice_get (map f uses) place ≡ Some (f g)
get_map f [] place g e = absurd (cc)
get_map f (x ∷ uses) zero g e = let one : x ≡ g = (cc) in ap (λ (y : PolicyUse). Some (f y)) one
get_map f (x ∷ uses) (suc place) g e = get_map f uses place g e

-- (one found by its number is the one at that place)
pub changed_found : (f : PolicyUse → PolicyUse) (uses : List PolicyUse) (test : PolicyUse → Bool) (c : PolicyUse) → PoliciesAreNumbered 1 uses → find test uses ≡ Some c
    → changed f c.number uses ≡ map (at_number c.number f) uses
changed_found f uses test c h e =
    let at : UseAt uses c 1 = use_at uses test 1 c h e in
    let number : suc at.place ≡ c.number = (let k : c.number ≡ 1 + at.place = at.number_is in omega arith) in
    subst (λ (k : ℕ). changed f k uses ≡ map (at_number k f) uses) number (changed_number at.place f uses c h at.own)

-- where one passes at most, all that pass are the one that is found; and a stronger test finds it or nothing
pub none_passes : (test : PolicyUse → Bool) (P : PolicyUse → Type 0) (uses : List PolicyUse) → list_any test uses ≡ false
    → AllUses (λ (h : PolicyUse). test h ≡ true → P h) uses
none_passes test P [] e = tt
none_passes test P (g ∷ uses) e =
    let parts : (test g ≡ false) × (list_any test uses ≡ false) = or_parts (test g) (list_any test uses) e in
    (λ x. absurd (let bad : false ≡ true = sym parts.0 ∙ x in let no_one : ⊥ = (cc) in no_one), none_passes test P uses parts.1)

found_by_one : (test : PolicyUse → Bool) (g c : PolicyUse) (uses : List PolicyUse) (x : Bool) → test g ≡ x → (test g ≡ true → list_any test uses ≡ false)
    → cond x (Some g) (find test uses) ≡ Some c → (find test uses ≡ Some c → AllUses (λ (h : PolicyUse). test h ≡ true → h ≡ c) uses)
    → AllUses (λ (h : PolicyUse). test h ≡ true → h ≡ c) (g ∷ uses)
found_by_one test g c uses true here only e next =
    let one : g ≡ c = (cc) in
    (λ x. one, none_passes test (λ (h : PolicyUse). h ≡ c) uses (only here))
found_by_one test g c uses false here only e next =
    (λ x. absurd (let bad : false ≡ true = sym here ∙ x in let no_one : ⊥ = (cc) in no_one), next e)

pub only_is : (test : PolicyUse → Bool) (uses : List PolicyUse) (c : PolicyUse) → AtMostOne test uses → find test uses ≡ Some c
    → AllUses (λ (h : PolicyUse). test h ≡ true → h ≡ c) uses
only_is test [] c only e = tt
only_is test (g ∷ uses) c only e = found_by_one test g c uses (test g) refl only.0 e (λ f. only_is test uses c only.1 f)

-- of each use two things
pub all_with : (P Q R : PolicyUse → Type 0) → ((g : PolicyUse) → P g → Q g → R g) → (uses : List PolicyUse) → AllUses P uses → AllUses Q uses → AllUses R uses
all_with P Q R f [] h d = tt
all_with P Q R f (g ∷ uses) h d = (f g h.0 d.0, all_with P Q R f uses h.1 d.1)

-- what passes after a change of each
found_by : (f : PolicyUse → PolicyUse) (g : PolicyUse) (x y : Bool) (o p : Option PolicyUse) → x ≡ y → o ≡ option_map f p
    → cond x (Some (f g)) o ≡ option_map f (cond y (Some g) p)
found_by f g true true o p e h = refl
found_by f g false false o p e h = h
found_by f g true false o p e h = absurd (cc)
found_by f g false true o p e h = absurd (cc)

pub found_all : (test other : PolicyUse → Bool) (f : PolicyUse → PolicyUse) (uses : List PolicyUse) → AllUses (λ (g : PolicyUse). test (f g) ≡ other g) uses
    → find test (map f uses) ≡ option_map f (find other uses)
found_all test other f [] h = refl
found_all test other f (g ∷ uses) h =
    found_by f g (test (f g)) (other g) (find test (map f uses)) (find other uses) h.0 (found_all test other f uses h.1)

any_all : (test other : PolicyUse → Bool) (f : PolicyUse → PolicyUse) (uses : List PolicyUse) → AllUses (λ (g : PolicyUse). test (f g) ≡ other g) uses
    → list_any test (map f uses) ≡ list_any other uses
any_all test other f [] h = refl
any_all test other f (g ∷ uses) h =
    ap (λ (x : Bool). x || list_any test (map f uses)) h.0 ∙ ap (λ (x : Bool). other g || x) (any_all test other f uses h.1)

pub one_all : (test other : PolicyUse → Bool) (f : PolicyUse → PolicyUse) (uses : List PolicyUse) → AllUses (λ (g : PolicyUse). test (f g) ≡ other g) uses
    → AtMostOne other uses → AtMostOne test (map f uses)
one_all test other f [] h only = tt
one_all test other f (g ∷ uses) h only =
    (λ e. any_all test other f uses h.1 ∙ only.0 (sym h.0 ∙ e), one_all test other f uses h.1 only.1)

pub none_all : (test : PolicyUse → Bool) (f : PolicyUse → PolicyUse) (uses : List PolicyUse) → AllUses (λ (g : PolicyUse). test (f g) ≡ false) uses
    → list_any test (map f uses) ≡ false
none_all test f [] h = refl
none_all test f (g ∷ uses) h = both_false (test (f g)) (list_any test (map f uses)) h.0 (none_all test f uses h.1)
