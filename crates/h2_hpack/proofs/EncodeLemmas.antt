-- The bytes of the fields so far.
use Rattle.std.proofs.Common.{append_assoc, ◌≡◌, ℕ, ◌+◌, ◌<◌, ◌≤◌, List, [], ◌∷◌, ◌++◌, length, take, get_or, refl, sym, ◌∙◌, ap, Option, Some, None, Bool, true, false, ◌&&◌}
use Rattle.std.specs.Prelude.{bytes_eq, codes}
use Rattle.std.proofs.lemmas.List.{append-nil, take_more, take_all}
use Rattle.std.proofs.lemmas.Slice.Eq.{bytes_eq-Decides}
use Rattle.std.proofs.lemmas.Grind.{flat_map-append}
use Rattle.grpc_base.specs.declared.fields.Field.{Field}
use Rattle.h2_hpack.specs.declared.lookup.StaticMatch.{StaticMatch}
use Rattle.h2_hpack.specs.declared.lookup.StaticMatch.TheVariants as matches
use Rattle.h2_hpack.specs.Encoding.{field_bytes, block_bytes, index_where, match_of, name_bytes, pair_bytes, same_name, same_pair, text_bytes}
use Rattle.h2_hpack.specs.StaticTable.{static_table}

pub written : (fields : List Field) (i : ℕ) (f : Field) → f ≡ get_or fields i f → i < length fields → block_bytes (take (i + 1) fields) ≡ block_bytes (take i fields) ++ field_bytes f
written fields i f is below =
    ap block_bytes (take_more fields i f below) ∙ flat_map-append field_bytes (take i fields) (get_or fields i f ∷ [])
    ∙ ap (λ x. block_bytes (take i fields) ++ x) (append-nil (field_bytes (get_or fields i f)) ∙ ap field_bytes (sym is))

pub all_written : (fields : List Field) (i : ℕ) → length fields ≤ i → block_bytes (take i fields) ≡ block_bytes fields
all_written fields i all = ap block_bytes (take_all i fields all)

-- the same after what was there before
pub written_after : (before now : List ℕ) (fields : List Field) (i : ℕ) (f : Field) → now ≡ before ++ block_bytes (take i fields) → f ≡ get_or fields i f → i < length fields → now ++ field_bytes f ≡ before ++ block_bytes (take (i + 1) fields)
written_after before now fields i f so is below =
    ap (λ l. l ++ field_bytes f) so ∙ append_assoc before (block_bytes (take i fields)) (field_bytes f) ∙ ap (λ l. before ++ l) (sym (written fields i f is below))

pub all_written_after : (before : List ℕ) (fields : List Field) (i : ℕ) → length fields ≤ i → before ++ block_bytes (take i fields) ≡ before ++ block_bytes fields
all_written_after before fields i all = ap (λ l. before ++ l) (all_written fields i all)

-- the bytes of the fields that each request of gRPC has
pub method_written : 131 ∷ [] ≡ field_bytes (record { name = codes ":method"; value = codes "POST" })
unfolding static_table
method_written = refl

pub scheme_written : 134 ∷ [] ≡ field_bytes (record { name = codes ":scheme"; value = codes "http" })
unfolding static_table
scheme_written = refl

pub trailers_written : 0 ∷ 2 ∷ codes "te" ++ 8 ∷ codes "trailers" ≡ field_bytes (record { name = codes "te"; value = codes "trailers" })
unfolding static_table
trailers_written = refl

pub type_written : 15 ∷ 16 ∷ 16 ∷ codes "application/grpc" ≡ field_bytes (record { name = codes "content-type"; value = codes "application/grpc" })
unfolding static_table
type_written = refl

both_true : (a b : Bool) → (a && b) ≡ true → (a ≡ true) × (b ≡ true)
both_true true b h = (refl, h)
both_true false b h = absurd (cc h)

pub fixed_written : (f : Field) (name value bytes : List ℕ) → bytes ≡ field_bytes (record { name = name; value = value }) → (bytes_eq f.name name && bytes_eq f.value value) ≡ true → bytes ≡ field_bytes f
fixed_written f name value bytes is same =
    let both = both_true (bytes_eq f.name name) (bytes_eq f.value value) same in
    is ∙ ap (λ n. field_bytes (record { name = n; value = value })) (sym ((bytes_eq-Decides f.name name).0 both.0))
    ∙ ap (λ v. field_bytes (record { name = f.name; value = v })) (sym ((bytes_eq-Decides f.value value).0 both.1))

-- what a match says of both searches
pair_found : (p n : Option ℕ) (i : ℕ) → matches.Pair i ≡ match_of p n → p ≡ Some i
pair_found (Some j) n i h = cc h
pair_found None (Some j) i h = absurd (cc h)
pair_found None None i h = absurd (cc h)

name_found : (p n : Option ℕ) (i : ℕ) → matches.Name i ≡ match_of p n → (p ≡ None) × (n ≡ Some i)
name_found (Some j) n i h = absurd (cc h)
name_found None (Some j) i h = (refl, cc h)
name_found None None i h = absurd (cc h)

nothing_found : (p n : Option ℕ) → matches.Nothing ≡ match_of p n → (p ≡ None) × (n ≡ None)
nothing_found (Some j) n h = absurd (cc h)
nothing_found None (Some j) h = absurd (cc h)
nothing_found None None h = (refl, refl)

-- the match of a field
abbrev pub Matches : Field → StaticMatch → Type 0
Matches f m = m ≡ match_of (index_where (same_pair f.name f.value)) (index_where (same_name f.name))

pub matched : (f : Field) (name value : List ℕ) (m : StaticMatch) → name ≡ f.name → value ≡ f.value → m ≡ match_of (index_where (same_pair name value)) (index_where (same_name name)) → Matches f m
matched f name value m n v is = is ∙ ap (λ l. match_of (index_where (same_pair l value)) (index_where (same_name l))) n ∙ ap (λ l. match_of (index_where (same_pair f.name l)) (index_where (same_name f.name))) v

pub pair_written : (f : Field) (i : ℕ) → Matches f (matches.Pair i) → pair_bytes f (Some i) ≡ field_bytes f
pair_written f i h = sym (ap (pair_bytes f) (pair_found (index_where (same_pair f.name f.value)) (index_where (same_name f.name)) i h))

pub name_written : (f : Field) (i : ℕ) (value : List ℕ) → value ≡ f.value → Matches f (matches.Name i) → name_bytes f.name (Some i) ++ text_bytes value ≡ field_bytes f
name_written f i value v h =
    let found = name_found (index_where (same_pair f.name f.value)) (index_where (same_name f.name)) i h in
    ap (λ l. name_bytes f.name (Some i) ++ text_bytes l) v ∙ sym (ap (pair_bytes f) found.0 ∙ ap (λ o. name_bytes f.name o ++ text_bytes f.value) found.1)

pub nothing_written : (f : Field) (name value : List ℕ) → name ≡ f.name → value ≡ f.value → Matches f matches.Nothing → name_bytes name None ++ text_bytes value ≡ field_bytes f
nothing_written f name value n v h =
    let found = nothing_found (index_where (same_pair f.name f.value)) (index_where (same_name f.name)) h in
    ap (λ l. name_bytes l None ++ text_bytes value) n ∙ ap (λ l. name_bytes f.name None ++ text_bytes l) v ∙ sym (ap (pair_bytes f) found.0 ∙ ap (λ o. name_bytes f.name o ++ text_bytes f.value) found.1)
