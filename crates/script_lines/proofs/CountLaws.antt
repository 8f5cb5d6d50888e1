-- Counts of paths, kept in a map.
use Rattle.std.proofs.Common.{◌≡◌, ◌≢◌, ℕ, List, [], ◌∷◌, map, Bool, true, false, Option, refl, ap, sym, inl, inr, ◌∙◌}
use Rattle.std.specs.Prelude.{nat_eq, Vec}
use Rattle.std.specs.BTreeMap.{insert_entry}
use Rattle.std.specs.Cmp.Lexicographic.{pointwise, slice_cmp}
use Rattle.std.specs.Map.{lookup}
use Rattle.std.specs.Option.{unwrap_or}
use Rattle.std.specs.Ordering.{is_eq, match_ordering, nat_cmp}
use Rattle.std.specs.declared.cmp.Ordering.{Ordering}
use Rattle.std.specs.declared.cmp.Ordering.TheVariants as order
use Rattle.std.proofs.lemmas.Map.Text.{is_eq-slice_cmp}
use Rattle.std.proofs.lemmas.Slice.Eq.{bytes_eq-Decides}
use Rattle.script_fields.proofs.TextLaws.{bool_cases}
use Rattle.script_lines.specs.Answers.{Answered, count_of}

-- the paths of a map's entries with their counts
abbrev pub seen : {Y : Type 0} → List (Vec ℕ Y × ℕ) → Answered
seen es = map (λ e. (e.0.items, e.1)) es

lookup_seen : {Y : Type 0} (path : List ℕ) (es : List (Vec ℕ Y × ℕ)) → lookup (λ other. pointwise nat_eq path other) (seen es) ≡ lookup (λ k. is_eq (slice_cmp nat_cmp path k.items)) es
lookup_seen path [] = refl
lookup_seen path (e ∷ es) = rw (is_eq-slice_cmp path e.0.items) (rw (lookup_seen path es) refl)

-- the count that a look-up finds
pub count_seen : {Y : Type 0} (path : List ℕ) (es : List (Vec ℕ Y × ℕ)) (found : Option ℕ) → found ≡ lookup (λ k. is_eq (slice_cmp nat_cmp path k.items)) es → unwrap_or found 0 ≡ count_of (seen es) path
count_seen path es found is = ap (λ o. unwrap_or o 0) (is ∙ sym (lookup_seen path es))

other_path : (path other : List ℕ) → other ≢ path → is_eq (slice_cmp nat_cmp other path) ≡ false
other_path path other apart = elim (bool_cases (pointwise nat_eq other path)) [
  | inl same ↦ absurd (apart ((bytes_eq-Decides other path).0 same))
  | inr differ ↦ is_eq-slice_cmp other path ∙ differ
]

at_key : {Y : Type 0} (test : Vec ℕ Y → Bool) (o : Ordering) (k : Vec ℕ Y) (v : ℕ) (e : Vec ℕ Y × ℕ) (es more : List (Vec ℕ Y × ℕ)) → test k ≡ false → (is_eq o ≡ true → test e.0 ≡ false) → lookup test more ≡ lookup test es → lookup test (match_ordering o ((k, v) ∷ e ∷ es) ((e.0, v) ∷ es) (e ∷ more)) ≡ lookup test (e ∷ es)
at_key test order.Less k v e es more apart same rest = rw apart refl
at_key test order.Equal k v e es more apart same rest = (let f : test e.0 ≡ false = same refl in rw f refl)
at_key test order.Greater k v e es more apart same rest = rw rest refl

lookup_others : {Y : Type 0} (other : List ℕ) (k : Vec ℕ Y) (v : ℕ) (es : List (Vec ℕ Y × ℕ)) → other ≢ k.items → lookup (λ x. is_eq (slice_cmp nat_cmp other x.items)) (insert_entry (λ a b. slice_cmp nat_cmp a.items b.items) es k v) ≡ lookup (λ x. is_eq (slice_cmp nat_cmp other x.items)) es
lookup_others other k v [] apart = rw (other_path k.items other apart) refl
lookup_others other k v (e ∷ es) apart =
    at_key (λ x. is_eq (slice_cmp nat_cmp other x.items)) (slice_cmp nat_cmp k.items e.0.items) k v e es (insert_entry (λ a b. slice_cmp nat_cmp a.items b.items) es k v)
    (other_path k.items other apart)
    (λ tied. other_path e.0.items other (λ same. apart (same ∙ sym ((bytes_eq-Decides k.items e.0.items).0 (sym (is_eq-slice_cmp k.items e.0.items) ∙ tied)))))
    (lookup_others other k v es apart)

-- a count that is set leaves those of other paths
pub count_others : {Y : Type 0} (other : List ℕ) (k : Vec ℕ Y) (v : ℕ) (es new : List (Vec ℕ Y × ℕ)) → new ≡ insert_entry (λ a b. slice_cmp nat_cmp a.items b.items) es k v → other ≢ k.items → count_of (seen new) other ≡ count_of (seen es) other
count_others other k v es new is apart =
    sym (count_seen other new _ refl) ∙ ap (λ o. unwrap_or o 0) (ap (λ t. lookup (λ x. is_eq (slice_cmp nat_cmp other x.items)) t) is ∙ lookup_others other k v es apart) ∙ count_seen other es _ refl
