-- Metadata and its one spelling.
use Rattle.std.proofs.Common.{◌≡◌, ◌≢◌, ℕ, ◌+◌, ◌/◌, ◌%◌, ◌<◌, ◌≤◌, List, [], ◌∷◌, ◌++◌, refl, ap, sym, subst, arith, All, Option, Some, None, ◌∙◌, true, map, append_assoc}
use Rattle.std.specs.List.{AllByRecursion}
use Rattle.std.proofs.lemmas.Bool.Decides.{nat_tests}
use Rattle.std.proofs.lemmas.List.{map-append}
use Rattle.std.proofs.lemmas.List.Sums.{sum_by-append}
use Rattle.std.proofs.lemmas.List.Elements.{recursion_from_All, All-from_recursion, All-push}
use Rattle.grpc_base.specs.declared.fields.Field.{Field}
use Rattle.grpc_base.specs.Metadata.{IsMetaName, IsMetaValue, IsPair, IsRequestMetadata, is_meta_name_byte, meta_limit, meta_size, pair_size}
use Rattle.grpc_base.specs.Pieces.{pieces, pieces_of_rest}
use Rattle.grpc_base.proofs.MetaLaws.{meta_size-push}
use Rattle.script_fields.specs.Spelling.{hex_digits, lower_digit, pair_text}
use Rattle.script_fields.specs.Reading.{SpellsMeta}
use Rattle.script_fields.specs.Values.{IsBytes}
use Rattle.script_fields.proofs.TextLaws.{bytes_from, hex_one, one_cut}
use Rattle.script_fields.proofs.PartLaws.{all_read, pieces-joined}

-- what has been read of a text, and what is left
pub record IsReadMeta (text : List ℕ) (meta : List Field) (rest : Option (List ℕ)) : Type 0 where
  pub kept : IsRequestMetadata meta
  pub bytes : All (λ f. IsBytes f.value) meta
  pub parts : pieces 44 text ≡ map pair_text meta ++ pieces_of_rest 44 rest

-- a pair of a request that a text may spell
abbrev IsGood : Field → Type 0
IsGood f = IsPair f × IsBytes f.value

both_hold : (fs : List Field) → AllByRecursion IsPair fs → AllByRecursion (λ f. IsBytes f.value) fs → AllByRecursion IsGood fs
both_hold [] p q = tt
both_hold (f ∷ fs) p q = ((p.0, q.0), both_hold fs p.1 q.1)

pub all_good : (fs : List Field) → IsRequestMetadata fs → All (λ f. IsBytes f.value) fs → AllByRecursion IsGood fs
all_good fs p q = both_hold fs (recursion_from_All IsPair fs p.pairs_are) (recursion_from_All (λ f. IsBytes f.value) fs q)

-- names and digits have neither a colon nor a comma
name_byte_plain : (b : ℕ) → is_meta_name_byte b ≡ true → (b ≢ 44) × (b ≢ 58)
name_byte_plain b h = ((λ e. grind (arith, nat_tests, h, e)), (λ e. grind (arith, nat_tests, h, e)))

name_free : (name : List ℕ) → AllByRecursion (λ b. is_meta_name_byte b ≡ true) name → AllByRecursion (λ d. d ≢ 44) name × AllByRecursion (λ d. d ≢ 58) name
name_free [] h = (tt, tt)
name_free (b ∷ name) h =
    let one : (b ≢ 44) × (b ≢ 58) = name_byte_plain b h.0 in
    let rest : AllByRecursion (λ d. d ≢ 44) name × AllByRecursion (λ d. d ≢ 58) name = name_free name h.1 in
    ((one.0, rest.0), (one.1, rest.1))

name_is_free : (name : List ℕ) → IsMetaName name → AllByRecursion (λ d. d ≢ 44) name × AllByRecursion (λ d. d ≢ 58) name
name_is_free name is = name_free name (recursion_from_All (λ b. is_meta_name_byte b ≡ true) name is.bytes)

digit_plain : (d : ℕ) → lower_digit d ≢ 44
digit_plain d e = grind (arith, nat_tests, e)

hex_free : (v : List ℕ) → AllByRecursion (λ d. d ≢ 44) (hex_digits v)
hex_free [] = tt
hex_free (b ∷ v) = (digit_plain (b / 16), (digit_plain (b % 16), hex_free v))

pub append_free : (P : ℕ → Type 0) (xs ys : List ℕ) → AllByRecursion P xs → AllByRecursion P ys → AllByRecursion P (xs ++ ys)
append_free P [] ys p q = q
append_free P (x ∷ xs) ys p q = (p.0, append_free P xs ys p.1 q)

pair_free : (f : Field) → IsPair f → AllByRecursion (λ d. d ≢ 44) (pair_text f)
pair_free f is = append_free (λ d. d ≢ 44) f.name (58 ∷ hex_digits f.value) (name_is_free f.name is.name_is).0 ((λ e. omega (arith, e)), hex_free f.value)

pairs_free : (fs : List Field) → AllByRecursion IsGood fs → AllByRecursion (λ (v : List ℕ). AllByRecursion (λ d. d ≢ 44) v) (map pair_text fs)
pairs_free [] good = tt
pairs_free (f ∷ fs) good = (pair_free f good.0.0, pairs_free fs good.1)

-- a text that is no dash has the spellings of its pairs as its parts
pub meta_parted : (text : List ℕ) (pairs : List Field) → text ≢ 45 ∷ [] → SpellsMeta text pairs → pieces 44 text ≡ map pair_text pairs
meta_parted text [] other spelled = absurd (other spelled.2)
meta_parted text (f ∷ fs) other spelled = ap (pieces 44) spelled.2 ∙ pieces-joined 44 (pair_text f) (map pair_text fs) (pairs_free (f ∷ fs) (all_good (f ∷ fs) spelled.0 spelled.1))

-- a pair by its name and its digits
pub pair_parts : (item name digits : List ℕ) (f : Field) → item ≡ name ++ 58 ∷ digits → All (λ b. b ≢ 58) name → IsPair f → item ≡ pair_text f → (name ≡ f.name) × (digits ≡ hex_digits f.value)
pair_parts item name digits f e free is spelled =
    one_cut 58 name f.name digits (hex_digits f.value) (recursion_from_All (λ d. d ≢ 58) name free) (name_is_free f.name is.name_is).1 (sym e ∙ spelled)

pub value_same : (item name digits value : List ℕ) (f : Field) → item ≡ name ++ 58 ∷ digits → All (λ b. b ≢ 58) name → IsPair f → IsBytes f.value → item ≡ pair_text f → IsBytes value → digits ≡ hex_digits value → (name ≡ f.name) × (value ≡ f.value)
value_same item name digits value f e free is bytes spelled p q =
    let both : (name ≡ f.name) × (digits ≡ hex_digits f.value) = pair_parts item name digits f e free is spelled in
    (both.0, hex_one value f.value (bytes_from value p) (bytes_from f.value bytes) (sym q ∙ both.1))

-- what a push refuses, no pair of a request is
pub refused_value : (name value : List ℕ) (f : Field) → name ≡ f.name → value ≡ f.value → IsPair f → (IsMetaValue name value → ⊥) → ⊥
refused_value name value f n v is refuses = refuses (subst (λ (m : List ℕ). IsMetaValue m value) (sym n) (subst (λ (x : List ℕ). IsMetaValue f.name x) (sym v) is.value_is))

pub refused_long : (name value : List ℕ) (old : List Field) (f : Field) → name ≡ f.name → value ≡ f.value → meta_limit < meta_size old + pair_size (record { name = name; value = value }) → meta_size old + pair_size f ≤ meta_limit → ⊥
refused_long name value old f n v long within =
    let made : Field = record { name = name; value = value } in
    let other : Field = record { name = f.name; value = f.value } in
    let same : made ≡ other = ap (λ (m : List ℕ). record { name = m; value = value }) n ∙ ap (λ (x : List ℕ). record { name = f.name; value = x }) v in
    let size : pair_size made ≡ pair_size f = ap pair_size same in
    omega (arith, long, within, size)

pub pair_one : (f g : Field) → IsGood f → IsGood g → pair_text f ≡ pair_text g → f ≡ g
pair_one f g p q e =
    let both : (f.name ≡ g.name) × (f.value ≡ g.value) =
    value_same (pair_text f) f.name (hex_digits f.value) f.value g refl (All-from_recursion (λ d. d ≢ 58) f.name (name_is_free f.name p.0.name_is).1) q.0 q.1 e p.1 refl in
    let same : record { name = f.name; value = f.value } ≡ record { name = g.name; value = g.value } = ap (λ (m : List ℕ). record { name = m; value = f.value }) both.0 ∙ ap (λ (x : List ℕ). record { name = g.name; value = x }) both.1 in
    same

-- the pair after those that were read
next_of : (done pairs : List Field) (item : List ℕ) (more : List (List ℕ)) → AllByRecursion IsGood done → AllByRecursion IsGood pairs → map pair_text pairs ≡ map pair_text done ++ item ∷ more → (f : Field) × (tail : List Field) × (pairs ≡ done ++ f ∷ tail) × (item ≡ pair_text f) × IsGood f
next_of [] [] item more p q e = (let bad : [] ≡ item ∷ more = e in absurd ((cc)))
next_of [] (g ∷ pairs) item more p q e = (let is : pair_text g ≡ item = (cc) in (g, pairs, refl, sym is, q.0))
next_of (d ∷ done) [] item more p q e = (let bad : [] ≡ pair_text d ∷ (map pair_text done ++ item ∷ more) = e in absurd ((cc)))
next_of (d ∷ done) (g ∷ pairs) item more p q e =
    let head : pair_text g ≡ pair_text d = (cc) in
    let tail : map pair_text pairs ≡ map pair_text done ++ item ∷ more = (cc) in
    let same : g ≡ d = pair_one g d q.0 p.0 head in
    let next : (f : Field) × (rest : List Field) × (pairs ≡ done ++ f ∷ rest) × (item ≡ pair_text f) × IsGood f = next_of done pairs item more p.1 q.1 tail in
    (next.0, next.1, ap (λ (x : Field). x ∷ pairs) same ∙ ap (λ (t : List Field). d ∷ t) next.2, next.3, next.4)

room_for : (done tail : List Field) (f : Field) → meta_size (done ++ f ∷ tail) ≤ meta_limit → meta_size done + pair_size f ≤ meta_limit
room_for done tail f within =
    let whole : meta_size ((done ++ f ∷ []) ++ tail) ≡ meta_size (done ++ f ∷ []) + meta_size tail = sum_by-append pair_size (done ++ f ∷ []) tail in
    let same : (done ++ f ∷ []) ++ tail ≡ done ++ f ∷ tail = append_assoc done (f ∷ []) tail in
    let size : meta_size ((done ++ f ∷ []) ++ tail) ≡ meta_size (done ++ f ∷ tail) = ap meta_size same in
    let push : meta_size (done ++ f ∷ []) ≡ meta_size done + pair_size f = meta_size-push done f in
    omega (arith, whole, size, push, within)

-- ---- the loop

-- an item that is refused is that of no metadata
pub read_refused : (text : List ℕ) (meta : List Field) (items item : List ℕ) (afterwards : Option (List ℕ)) (pairs : List Field) → text ≢ 45 ∷ [] → IsReadMeta text meta (Some items) → pieces 44 items ≡ item ∷ pieces_of_rest 44 afterwards → ((f : Field) → IsPair f → IsBytes f.value → item ≡ pair_text f → meta_size meta + pair_size f ≤ meta_limit → ⊥) → SpellsMeta text pairs → ⊥
read_refused text meta items item afterwards pairs other is first none spelled =
    let parts : map pair_text pairs ≡ map pair_text meta ++ item ∷ pieces_of_rest 44 afterwards =
    sym (meta_parted text pairs other spelled) ∙ is.parts ∙ ap (λ (t : List (List ℕ)). map pair_text meta ++ t) first in
    let next : (f : Field) × (tail : List Field) × (pairs ≡ meta ++ f ∷ tail) × (item ≡ pair_text f) × IsGood f =
    next_of meta pairs item (pieces_of_rest 44 afterwards) (all_good meta is.kept is.bytes) (all_good pairs spelled.0 spelled.1) parts in
    let within : meta_size (meta ++ next.0 ∷ next.1) ≤ meta_limit = subst (λ (ps : List Field). meta_size ps ≤ meta_limit) next.2 spelled.0.within in
    none next.0 next.4.0 next.4.1 next.3 (room_for meta next.1 next.0 within)

-- one pair more
pub read_more : (text : List ℕ) (meta made : List Field) (items item : List ℕ) (afterwards : Option (List ℕ)) → IsReadMeta text meta (Some items) → pieces 44 items ≡ item ∷ pieces_of_rest 44 afterwards → ((f : Field) × IsBytes f.value × (item ≡ pair_text f) × (made ≡ meta ++ f ∷ [])) → (IsRequestMetadata meta → IsRequestMetadata made) → IsReadMeta text made afterwards
read_more text meta made items item afterwards is first pushed kept =
    let f : Field = pushed.0 in
    let spelled : map pair_text made ≡ map pair_text meta ++ pair_text f ∷ [] = ap (map pair_text) pushed.3 ∙ map-append pair_text meta (f ∷ []) in
    let parts : pieces 44 text ≡ map pair_text meta ++ pair_text f ∷ pieces_of_rest 44 afterwards =
    is.parts ∙ ap (λ (t : List (List ℕ)). map pair_text meta ++ t) (first ∙ ap (λ (v : List ℕ). v ∷ pieces_of_rest 44 afterwards) pushed.2) in
    record {
      kept = kept is.kept;
      bytes = subst (All (λ f. IsBytes f.value)) (sym pushed.3) (All-push (λ f. IsBytes f.value) meta f is.bytes pushed.1);
      parts = parts ∙ sym (append_assoc (map pair_text meta) (pair_text f ∷ []) (pieces_of_rest 44 afterwards)) ∙ ap (λ (t : List (List ℕ)). t ++ pieces_of_rest 44 afterwards) (sym spelled);
    }

-- all is read
pub read_whole : (text : List ℕ) (meta : List Field) → IsReadMeta text meta None → SpellsMeta text meta
read_whole text [] is = absurd ((all_read 44 text [] is.parts).0 refl)
read_whole text (f ∷ meta) is = (is.kept, is.bytes, (all_read 44 text (map pair_text (f ∷ meta)) is.parts).1)
