-- An index past the static table is one of the dynamic table.
use Rattle.std.proofs.Common.{◌≡◌, ℕ, zero, suc, ◌+◌, ◌-◌, ◌<◌, ◌≤◌, List, [], ◌∷◌, ◌++◌, length, refl, ap, sym, ◌∙◌, arith, Some, None, Bool, true, false, ◌&&◌, ◌||◌, cond, drop, take, get_or, Option}
use Rattle.std.specs.Prelude.{bytes_eq, is_some, slice_get, option_map, unwrap_or}
use Rattle.std.specs.List.{list_any, position_from}
use Rattle.std.proofs.lemmas.Bool.{false≢true}
use Rattle.std.proofs.lemmas.List.{drop_all}
use Rattle.std.proofs.lemmas.Slice.Eq.{bytes_eq-Decides}
use Rattle.h2_hpack.specs.Encoding.{index_where, is_at, same_name, same_pair}
use Rattle.grpc_base.specs.declared.fields.Field.{Field}
use Rattle.h2_hpack.specs.StaticTable.{static_table}
use Rattle.h2_hpack.specs.Tables.{Table, field_at}

pub static_length : length static_table ≡ 61
unfolding static_table
static_length = refl

past_end : (xs : List Field) (i : ℕ) → slice_get xs i ≡ None → length xs ≤ i
past_end [] i h = omega arith
past_end (x ∷ xs) zero h = absurd (cc h)
past_end (x ∷ xs) (suc i) h = omega (arith, past_end xs i h)

afterwards : (xs ys : List Field) (i : ℕ) → length xs ≤ i → slice_get (xs ++ ys) i ≡ slice_get ys (i - length xs)
afterwards [] ys i h = ap (slice_get ys) {x = i} {y = i - 0} (omega arith)
afterwards (x ∷ xs) ys zero h = absurd (omega (arith, h))
afterwards (x ∷ xs) ys (suc i) h = afterwards xs ys i (omega (arith, h)) ∙ ap (slice_get ys) {x = i - length xs} {y = suc i - suc (length xs)} (omega arith)

pub past_static : (place : ℕ) → slice_get static_table place ≡ None → 61 ≤ place
past_static place h = omega (arith, past_end static_table place h, static_length)

pub dynamic_at : (t : Table) (index place : ℕ) → place + 1 ≡ index → slice_get static_table place ≡ None → field_at t index ≡ slice_get t.entries (place - 61)
dynamic_at t zero place is h = absurd (omega (arith, is))
dynamic_at t (suc i) place is h =
    let same : i ≡ place = omega (arith, is) in
    rw same (afterwards static_table t.entries place (past_end static_table place h) ∙ ap (λ n. slice_get t.entries (place - n)) static_length)

-- the search for an entry is as far as a place
abbrev pub IsSought : (Field → Bool) → ℕ → Type 0
IsSought test place = index_where test ≡ position_from test (place + 1) (drop place static_table)

cut_at : (xs : List Field) (i : ℕ) → i < length xs → (x : Field) × (slice_get xs i ≡ Some x) × (drop i xs ≡ x ∷ drop (i + 1) xs)
cut_at [] i h = absurd (omega (arith, h))
cut_at (x ∷ xs) zero h = (x, refl, refl)
cut_at (x ∷ xs) (suc i) h =
    let r = cut_at xs i (omega (arith, h)) in
    let n : suc i + 1 ≡ suc (i + 1) = omega arith in
    (r.0, r.1, rw n r.2)

one_on : (test : Field → Bool) (place : ℕ) (found : Bool) → place < 61 → IsSought test place → is_at test place ≡ found → index_where test ≡ cond found (Some (place + 1)) (position_from test (place + 1 + 1) (drop (place + 1) static_table))
one_on test place found below so is =
    let r = cut_at static_table place (omega (arith, static_length, below)) in
    let tested : test r.0 ≡ found = sym (ap (λ o. unwrap_or (option_map test o) false) r.1) ∙ is in
    so ∙ ap (position_from test (place + 1)) r.2 ∙ ap (λ b. cond b (Some (place + 1)) (position_from test (place + 1 + 1) (drop (place + 1) static_table))) tested

pub sought_here : (test : Field → Bool) (place : ℕ) → place < 61 → IsSought test place → is_at test place ≡ true → index_where test ≡ Some (place + 1)
sought_here test place below so is = one_on test place true below so is

pub sought_next : (test : Field → Bool) (place : ℕ) → place < 61 → IsSought test place → is_at test place ≡ false → IsSought test (place + 1)
sought_next test place below so is = one_on test place false below so is

nothing_left : (place : ℕ) → 61 ≤ place → drop place static_table ≡ []
nothing_left place h = drop_all place static_table (omega (arith, static_length, h))

-- the search for a name, or what it found
abbrev pub IsNameSought : (Field → Bool) → ℕ → Option ℕ → Type 0
IsNameSought test place None = IsSought test place
IsNameSought test place (Some index) = index_where test ≡ Some index

pub name_next : (test : Field → Bool) (place : ℕ) (named : Option ℕ) → place < 61 → IsNameSought test place named → is_at test place ≡ false → IsNameSought test (place + 1) named
name_next test place None below so is = sought_next test place below so is
name_next test place (Some index) below so is = so

pub name_here : (test : Field → Bool) (place : ℕ) (named : Option ℕ) → is_some named ≡ false → place < 61 → IsNameSought test place named → is_at test place ≡ true → IsNameSought test (place + 1) (Some (place + 1))
name_here test place None none below so is = sought_here test place below so is
name_here test place (Some index) none below so is = absurd (false≢true (sym none))

pub name_kept : (test : Field → Bool) (place : ℕ) (named : Option ℕ) → is_some named ≡ true → IsNameSought test place named → IsNameSought test (place + 1) named
name_kept test place None some so = absurd (false≢true some)
name_kept test place (Some index) some so = so

-- another name is another pair
other_name : (name value : List ℕ) (o : Option Field) → unwrap_or (option_map (same_name name) o) false ≡ false → unwrap_or (option_map (same_pair name value) o) false ≡ false
other_name name value None h = refl
other_name name value (Some entry) h = ap (λ b. b && bytes_eq entry.value value) h

pub no_pair : (name value : List ℕ) (place : ℕ) → is_at (same_name name) place ≡ false → is_at (same_pair name value) place ≡ false
no_pair name value place h = other_name name value (slice_get static_table place) h

-- no entry of some passes a test
or_first : (b c : Bool) → (b || c) ≡ false → (b ≡ false) × (c ≡ false)
or_first true c h = absurd (cc h)
or_first false c h = (refl, h)

passed : (test : Field → Bool) (xs : List Field) (place n : ℕ) → list_any test (take n xs) ≡ false → position_from test place xs ≡ position_from test (place + n) (drop n xs)
passed test xs place zero none = ap (λ p. position_from test p xs) {x = place} {y = place + 0} (omega arith)
passed test [] place (suc n) none = refl
passed test (x ∷ xs) place (suc n) none =
    let each = or_first (test x) (list_any test (take n xs)) none in
    ap (λ b. cond b (Some place) (position_from test (place + 1) xs)) each.0 ∙ passed test xs (place + 1) n each.1 ∙ ap (λ p. position_from test p (drop n xs)) {x = place + 1 + n} {y = place + suc n} (omega arith)

pub sought_from : (test : Field → Bool) (place : ℕ) → list_any test (take place static_table) ≡ false → IsSought test place
sought_from test place none = passed test static_table 1 place none ∙ ap (λ p. position_from test p (drop place static_table)) {x = 1 + place} {y = place + 1} (omega arith)

none_dropped : (test : Field → Bool) (xs : List Field) (n : ℕ) → list_any test xs ≡ false → list_any test (drop n xs) ≡ false
none_dropped test xs zero none = none
none_dropped test [] (suc n) none = refl
none_dropped test (x ∷ xs) (suc n) none = none_dropped test xs n (or_first (test x) (list_any test xs) none).1

none_afterwards : (test : Field → Bool) (xs : List Field) (last place : ℕ) → last ≤ place → list_any test (drop last xs) ≡ false → list_any test (drop place xs) ≡ false
none_afterwards test xs zero place within none = none_dropped test xs place none
none_afterwards test [] (suc last) zero within none = refl
none_afterwards test [] (suc last) (suc place) within none = refl
none_afterwards test (x ∷ xs) (suc last) zero within none = absurd (omega (arith, within))
none_afterwards test (x ∷ xs) (suc last) (suc place) within none = none_afterwards test xs last place (omega (arith, within)) none

none_in : (test : Field → Bool) (xs : List Field) (place : ℕ) → list_any test xs ≡ false → position_from test place xs ≡ None
none_in test [] place none = refl
none_in test (x ∷ xs) place none =
    let each = or_first (test x) (list_any test xs) none in
    ap (λ b. cond b (Some place) (position_from test (place + 1) xs)) each.0 ∙ none_in test xs (place + 1) each.1

pub sought_past : (test : Field → Bool) (last place : ℕ) → last ≤ place → list_any test (drop last static_table) ≡ false → IsSought test place → index_where test ≡ None
sought_past test last place within none so = so ∙ none_in test (drop place static_table) (place + 1) (none_afterwards test static_table last place within none)

pub name_past : (test : Field → Bool) (last place : ℕ) (named : Option ℕ) → last ≤ place → list_any test (drop last static_table) ≡ false → IsNameSought test place named → index_where test ≡ named
name_past test last place None within none so = sought_past test last place within none so
name_past test last place (Some index) within none so = so

-- where no entry has a name, none has it with a value
pub pairless : (name value : List ℕ) (xs : List Field) → list_any (same_name name) xs ≡ false → list_any (same_pair name value) xs ≡ false
pairless name value [] none = refl
pairless name value (x ∷ xs) none =
    let each = or_first (same_name name x) (list_any (same_name name) xs) none in
    ap (λ b. (b && bytes_eq x.value value) || list_any (same_pair name value) xs) each.0 ∙ pairless name value xs each.1

-- where the entries stand that begin with a letter
begins_with : (name : List ℕ) (letter : ℕ) → get_or name 0 0 ≡ letter → 0 < letter → (rest : List ℕ) × (name ≡ letter ∷ rest)
begins_with [] letter is some = absurd (omega (arith, is, some))
begins_with (x ∷ xs) letter is some = (xs, ap (λ l. l ∷ xs) is)

after_colon : (rest : List ℕ) → list_any (same_name (58 ∷ rest)) (drop 14 static_table) ≡ false
unfolding static_table
after_colon rest = refl

before_c : (rest : List ℕ) → list_any (same_name (99 ∷ rest)) (take 23 static_table) ≡ false
unfolding static_table
before_c rest = refl

after_c : (rest : List ℕ) → list_any (same_name (99 ∷ rest)) (drop 32 static_table) ≡ false
unfolding static_table
after_c rest = refl

without_g : (rest : List ℕ) → list_any (same_name (103 ∷ rest)) static_table ≡ false
unfolding static_table
without_g rest = refl

before_t : (rest : List ℕ) → list_any (same_name (116 ∷ rest)) (take 56 static_table) ≡ false
unfolding static_table
before_t rest = refl

after_t : (rest : List ℕ) → list_any (same_name (116 ∷ rest)) (drop 57 static_table) ≡ false
unfolding static_table
after_t rest = refl

before_u : (rest : List ℕ) → list_any (same_name (117 ∷ rest)) (take 57 static_table) ≡ false
unfolding static_table
before_u rest = refl

after_u : (rest : List ℕ) → list_any (same_name (117 ∷ rest)) (drop 58 static_table) ≡ false
unfolding static_table
after_u rest = refl

-- some entries have no name that begins with a letter
abbrev pub Lacks : ℕ → List Field → Type 0
Lacks letter xs = (name : List ℕ) → get_or name 0 0 ≡ letter → list_any (same_name name) xs ≡ false

lacking : (letter : ℕ) (xs : List Field) → 0 < letter → ((rest : List ℕ) → list_any (same_name (letter ∷ rest)) xs ≡ false) → Lacks letter xs
lacking letter xs some none name is =
    let begun = begins_with name letter is some in
    ap (λ l. list_any (same_name l) xs) begun.1 ∙ none begun.0

pub colon_after : Lacks 58 (drop 14 static_table)
colon_after = lacking 58 (drop 14 static_table) (omega arith) after_colon

pub c_before : Lacks 99 (take 23 static_table)
c_before = lacking 99 (take 23 static_table) (omega arith) before_c

pub c_after : Lacks 99 (drop 32 static_table)
c_after = lacking 99 (drop 32 static_table) (omega arith) after_c

pub g_nowhere : Lacks 103 static_table
g_nowhere = lacking 103 static_table (omega arith) without_g

pub t_before : Lacks 116 (take 56 static_table)
t_before = lacking 116 (take 56 static_table) (omega arith) before_t

pub t_after : Lacks 116 (drop 57 static_table)
t_after = lacking 116 (drop 57 static_table) (omega arith) after_t

pub u_before : Lacks 117 (take 57 static_table)
u_before = lacking 117 (take 57 static_table) (omega arith) before_u

pub u_after : Lacks 117 (drop 58 static_table)
u_after = lacking 117 (drop 58 static_table) (omega arith) after_u

pub none_past_all : (test : Field → Bool) → list_any test (drop 61 static_table) ≡ false
none_past_all test = ap (list_any test) (nothing_left 61 (omega arith))

-- the same by the first two letters
begins_with_both : (name : List ℕ) (first second : ℕ) → get_or name 0 0 ≡ first → get_or name 1 0 ≡ second → 0 < first → 0 < second → (rest : List ℕ) × (name ≡ first ∷ second ∷ rest)
begins_with_both [] first second is then_is some some_too = absurd (omega (arith, is, some))
begins_with_both (x ∷ []) first second is then_is some some_too = absurd (omega (arith, then_is, some_too))
begins_with_both (x ∷ y ∷ xs) first second is then_is some some_too = (xs, ap (λ l. l ∷ y ∷ xs) is ∙ ap (λ l. first ∷ l ∷ xs) then_is)

abbrev pub LacksBoth : ℕ → ℕ → List Field → Type 0
LacksBoth first second xs = (name : List ℕ) → get_or name 0 0 ≡ first → get_or name 1 0 ≡ second → list_any (same_name name) xs ≡ false

lacking_both : (first second : ℕ) (xs : List Field) → 0 < first → 0 < second → ((rest : List ℕ) → list_any (same_name (first ∷ second ∷ rest)) xs ≡ false) → LacksBoth first second xs
lacking_both first second xs some some_too none name is then_is =
    let begun = begins_with_both name first second is then_is some some_too in
    ap (λ l. list_any (same_name l) xs) begun.1 ∙ none begun.0

colon_a_after_rest : (rest : List ℕ) → list_any (same_name (58 ∷ 97 ∷ rest)) (drop 1 static_table) ≡ false
unfolding static_table
colon_a_after_rest rest = refl

pub colon_a_after : LacksBoth 58 97 (drop 1 static_table)
colon_a_after = lacking_both 58 97 (drop 1 static_table) (omega arith) (omega arith) colon_a_after_rest

colon_m_before_rest : (rest : List ℕ) → list_any (same_name (58 ∷ 109 ∷ rest)) (take 1 static_table) ≡ false
unfolding static_table
colon_m_before_rest rest = refl

pub colon_m_before : LacksBoth 58 109 (take 1 static_table)
colon_m_before = lacking_both 58 109 (take 1 static_table) (omega arith) (omega arith) colon_m_before_rest

colon_m_after_rest : (rest : List ℕ) → list_any (same_name (58 ∷ 109 ∷ rest)) (drop 3 static_table) ≡ false
unfolding static_table
colon_m_after_rest rest = refl

pub colon_m_after : LacksBoth 58 109 (drop 3 static_table)
colon_m_after = lacking_both 58 109 (drop 3 static_table) (omega arith) (omega arith) colon_m_after_rest

colon_p_before_rest : (rest : List ℕ) → list_any (same_name (58 ∷ 112 ∷ rest)) (take 3 static_table) ≡ false
unfolding static_table
colon_p_before_rest rest = refl

pub colon_p_before : LacksBoth 58 112 (take 3 static_table)
colon_p_before = lacking_both 58 112 (take 3 static_table) (omega arith) (omega arith) colon_p_before_rest

colon_p_after_rest : (rest : List ℕ) → list_any (same_name (58 ∷ 112 ∷ rest)) (drop 5 static_table) ≡ false
unfolding static_table
colon_p_after_rest rest = refl

pub colon_p_after : LacksBoth 58 112 (drop 5 static_table)
colon_p_after = lacking_both 58 112 (drop 5 static_table) (omega arith) (omega arith) colon_p_after_rest

colon_s_before_rest : (rest : List ℕ) → list_any (same_name (58 ∷ 115 ∷ rest)) (take 5 static_table) ≡ false
unfolding static_table
colon_s_before_rest rest = refl

pub colon_s_before : LacksBoth 58 115 (take 5 static_table)
colon_s_before = lacking_both 58 115 (take 5 static_table) (omega arith) (omega arith) colon_s_before_rest

colon_s_after_rest : (rest : List ℕ) → list_any (same_name (58 ∷ 115 ∷ rest)) (drop 14 static_table) ≡ false
unfolding static_table
colon_s_after_rest rest = refl

pub colon_s_after : LacksBoth 58 115 (drop 14 static_table)
colon_s_after = lacking_both 58 115 (drop 14 static_table) (omega arith) (omega arith) colon_s_after_rest

without_x : (rest : List ℕ) → list_any (same_name (120 ∷ rest)) static_table ≡ false
unfolding static_table
without_x rest = refl

pub x_nowhere : Lacks 120 static_table
x_nowhere = lacking 120 static_table (omega arith) without_x

-- the bytes of "content-type"
abbrev pub content_type : List ℕ
content_type = 99 ∷ 111 ∷ 110 ∷ 116 ∷ 101 ∷ 110 ∷ 116 ∷ 45 ∷ 116 ∷ 121 ∷ 112 ∷ 101 ∷ []

content_type_first : list_any (same_name content_type) (take 30 static_table) ≡ false
unfolding static_table
content_type_first = refl

content_type_last : list_any (same_name content_type) (drop 31 static_table) ≡ false
unfolding static_table
content_type_last = refl

pub content_type_before : (name : List ℕ) → bytes_eq name content_type ≡ true → list_any (same_name name) (take 30 static_table) ≡ false
content_type_before name is = ap (λ l. list_any (same_name l) (take 30 static_table)) ((bytes_eq-Decides name content_type).0 is) ∙ content_type_first

pub content_type_after : (name : List ℕ) → bytes_eq name content_type ≡ true → list_any (same_name name) (drop 31 static_table) ≡ false
content_type_after name is = ap (λ l. list_any (same_name l) (drop 31 static_table)) ((bytes_eq-Decides name content_type).0 is) ∙ content_type_last

pub c_none_before : (name : List ℕ) → get_or name 0 0 ≡ 99 → list_any (same_name name) (take 23 static_table) ≡ false
c_none_before name is = c_before name is

pub c_none_after : (name : List ℕ) → get_or name 0 0 ≡ 99 → list_any (same_name name) (drop 32 static_table) ≡ false
c_none_after name is = c_after name is

-- an entry that has the name has the pair where it has the value
pub paired : (name value : List ℕ) (entry : Field) (o : Option Field) → Some entry ≡ o → unwrap_or (option_map (same_name name) o) false ≡ true → unwrap_or (option_map (same_pair name value) o) false ≡ bytes_eq entry.value value
paired name value entry None is so = absurd (cc is)
paired name value entry (Some other) is so = ap (λ b. b && bytes_eq other.value value) so ∙ ap (λ (o : Option Field). bytes_eq (unwrap_or o entry).value value) (sym is)

pub unpaired : (name : List ℕ) (o : Option Field) → None ≡ o → unwrap_or (option_map (same_name name) o) false ≡ true → false ≡ true
unpaired name None is so = so
unpaired name (Some entry) is so = absurd (cc is)
