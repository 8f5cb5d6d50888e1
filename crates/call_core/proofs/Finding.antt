-- Lists of live rows: rows that are found, and lists of none or one.
use Rattle.std.proofs.Common.{◌≡◌, ℕ, Bool, true, false, not, ◌==◌, if◌then◌else◌, length, Option, Some, None, is_some, List, [], ◌∷◌, ◌++◌, map, refl, sym, ap, subst, ◌∙◌, ◌⊎◌, inl, inr, eq-eqb}
use Rattle.std.proofs.Math.Dec.{eqb-suc-zero}
use Rattle.std.proofs.lemmas.Bool.{eqb-true, ne_eqb}
use Rattle.std.specs.Option.{option_map}
use Rattle.attempt_buffer.specs.Buffers.{Buffered, is_open}
use Rattle.call_core.specs.declared.live.LiveRow.{LiveRow}
use Rattle.call_core.specs.Parts.{find_live, further, further_than, furthest, furthest_from, has_none, is_further, is_row, kept_alone, linked, without}

-- lists
pub none_list : {X : Type 0} (xs : List X) → has_none xs ≡ true → xs ≡ []
none_list [] e = refl
none_list (x ∷ xs) e = absurd (let no : false ≡ true = sym (eqb-suc-zero (length xs)) ∙ e in cc)

pub some_list : {X : Type 0} (xs : List X) → has_none xs ≡ false → xs ≡ [] → ⊥
some_list [] e none = let no : true ≡ false = e in (cc)
some_list (x ∷ xs) e none = (cc)

pub some_first : {X : Type 0} (x : X) (xs : List X) → has_none (x ∷ xs) ≡ false
some_first x xs = eqb-suc-zero (length xs)

pub some_more : {X : Type 0} (xs : List X) (x : X) → has_none (xs ++ x ∷ []) ≡ false
some_more [] x = some_first x []
some_more (y ∷ xs) x = some_first y (xs ++ x ∷ [])

pub found_list : (place : ℕ) (live : List LiveRow) (row : LiveRow) → find_live place live ≡ Some row → has_none live ≡ false
found_list place [] row e = absurd (cc)
found_list place (x ∷ live) row e = some_first x live

pub linked_list : (place link : ℕ) (live : List LiveRow) → has_none live ≡ false → has_none (map (linked place link) live) ≡ false
linked_list place link [] e = e
linked_list place link (x ∷ live) e = some_first (linked place link x) (map (linked place link) live)

-- of a list with a row of a place that row is left, where the others leave
alone_one : (place : ℕ) (x row : LiveRow) (live : List LiveRow) (b : Bool) → (if b then Some x else find_live place live) ≡ Some row → (find_live place live ≡ Some row → has_none (kept_alone place live) ≡ false) → has_none (if b then x ∷ kept_alone place live else kept_alone place live) ≡ false
alone_one place x row live true e rest = some_first x (kept_alone place live)
alone_one place x row live false e rest = rest e

pub alone_list : (place : ℕ) (live : List LiveRow) (row : LiveRow) → find_live place live ≡ Some row → has_none (kept_alone place live) ≡ false
alone_list place [] row e = absurd (cc)
alone_list place (x ∷ live) row e = alone_one place x row live (is_row place x) e (alone_list place live row)

-- a list of one row
one_found : (place : ℕ) (x row : LiveRow) (b : Bool) → is_row place x ≡ b → (if b then Some x else None) ≡ Some row → (x ≡ row) × (is_row place x ≡ true)
one_found place x row true t e = ((cc), t)
one_found place x row false t e = absurd (cc)

pub record IsOne (place : ℕ) (row : LiveRow) (live : List LiveRow) : Type 0 where
  pub is : live ≡ row ∷ []
  pub at : is_row place row ≡ true

pub one_of : (place : ℕ) (live : List LiveRow) (x row : LiveRow) → live ≡ x ∷ [] → find_live place live ≡ Some row → IsOne place row live
one_of place live x row is e =
    let found : find_live place (x ∷ []) ≡ Some row = subst (λ (l : List LiveRow). find_live place l ≡ Some row) is e in
    let both : (x ≡ row) × (is_row place x ≡ true) = one_found place x row (is_row place x) refl found in
    record { is = subst (λ (y : LiveRow). live ≡ y ∷ []) both.0 is; at = subst (λ (y : LiveRow). is_row place y ≡ true) both.0 both.1 }

without_self : (row : LiveRow) → without row.place (row ∷ []) ≡ []
without_self row = ap (λ (b : Bool). if not b then row ∷ [] else []) (eq-eqb row.place row.place refl)

pub without_only : (place : ℕ) (row : LiveRow) (live : List LiveRow) → IsOne place row live → without row.place live ≡ []
without_only place row live one = ap (without row.place) one.is ∙ without_self row

pub kept_only : (place : ℕ) (row : LiveRow) (live : List LiveRow) → IsOne place row live → kept_alone place live ≡ row ∷ []
kept_only place row live one = ap (kept_alone place) one.is ∙ ap (λ (b : Bool). if b then row ∷ [] else []) one.at

-- the row that was sent furthest is one of the live ones
further_if : (b : Bool) (other l r : LiveRow) → (if b then Some l else Some other) ≡ Some r → (Some other ≡ Some r) ⊎ (l ≡ r)
further_if true other l r e = inr (cc)
further_if false other l r e = inl e

further_is : (b : Buffered) (best : Option LiveRow) (l r : LiveRow) (opened : Bool) → (if opened then further_than b best l else best) ≡ Some r → (best ≡ Some r) ⊎ (l ≡ r)
further_is b best l r false e = inl e
further_is b None l r true e = inr (cc)
further_is b (Some other) l r true e = further_if (is_further b l other) other l r e

abbrev pub IsFound : ℕ → List LiveRow → Type 0
IsFound place live = (row : LiveRow) × (find_live place live ≡ Some row)

found_here : (l r : LiveRow) (live : List LiveRow) → l ≡ r → IsFound r.place (l ∷ live)
found_here l r live same =
    (l, ap (λ (b : Bool). if b then Some l else find_live r.place live) (eq-eqb l.place r.place (ap (λ (x : LiveRow). x.place) same)))

found_later : (place : ℕ) (l : LiveRow) (live : List LiveRow) (b : Bool) → IsFound place live → (row : LiveRow) × ((if b then Some l else find_live place live) ≡ Some row)
found_later place l live true old = (l, refl)
found_later place l live false old = old

furthest_split : (b : Buffered) (l r : LiveRow) (live : List LiveRow) (best : Option LiveRow) → (best ≡ Some r) ⊎ (l ≡ r) → (best ≡ Some r) ⊎ IsFound r.place (l ∷ live)
furthest_split b l r live best (inl e) = inl e
furthest_split b l r live best (inr same) = inr (found_here l r live same)

furthest_step : (b : Buffered) (l r : LiveRow) (live : List LiveRow) (best : Option LiveRow) → (further b best l ≡ Some r) ⊎ IsFound r.place live → (best ≡ Some r) ⊎ IsFound r.place (l ∷ live)
furthest_step b l r live best (inl e) = furthest_split b l r live best (further_is b best l r (is_open l.place b) e)
furthest_step b l r live best (inr old) = inr (found_later r.place l live (is_row r.place l) old)

furthest_in : (b : Buffered) (live : List LiveRow) (best : Option LiveRow) (r : LiveRow) → furthest_from b best live ≡ Some r → (best ≡ Some r) ⊎ IsFound r.place live
furthest_in b [] best r e = inl e
furthest_in b (l ∷ live) best r e = furthest_step b l r live best (furthest_in b live (further b best l) r e)

furthest_some : (live : List LiveRow) (r : LiveRow) → (None ≡ Some r) ⊎ IsFound r.place live → IsFound r.place live
furthest_some live r (inl e) = absurd (cc)
furthest_some live r (inr old) = old

furthest_of : (b : Buffered) (live : List LiveRow) (place : ℕ) (o : Option LiveRow) → furthest_from b None live ≡ o → option_map (λ r. r.place) o ≡ Some place → IsFound place live
furthest_of b live place None e h = absurd (cc)
furthest_of b live place (Some r) e h =
    let is : r.place ≡ place = (cc) in subst (λ (k : ℕ). IsFound k live) is (furthest_some live r (furthest_in b live None r e))

pub furthest_found : (b : Buffered) (live : List LiveRow) (place : ℕ) → furthest b live ≡ Some place → IsFound place live
furthest_found b live place e = furthest_of b live place (furthest_from b None live) refl e

-- a row that is found is at its place
found_place_one : (place : ℕ) (x row : LiveRow) (live : List LiveRow) (b : Bool) → is_row place x ≡ b → (if b then Some x else find_live place live) ≡ Some row → (find_live place live ≡ Some row → row.place ≡ place) → row.place ≡ place
found_place_one place x row live true t e rest = let same : x ≡ row = (cc) in subst (λ (r : LiveRow). r.place ≡ place) same (eqb-true x.place place t)
found_place_one place x row live false t e rest = rest e

pub found_place : (place : ℕ) (live : List LiveRow) (row : LiveRow) → find_live place live ≡ Some row → row.place ≡ place
found_place place [] row e = absurd (cc)
found_place place (x ∷ live) row e = found_place_one place x row live (is_row place x) refl e (found_place place live row)

-- of two places the search for one doesn't see the other leave
find_kept_one : (q : ℕ) (l : LiveRow) (live rest : List LiveRow) (b : Bool) → find_live q rest ≡ find_live q live → (b ≡ false → is_row q l ≡ false) → find_live q (if b then l ∷ rest else rest) ≡ (if is_row q l then Some l else find_live q live)
find_kept_one q l live rest true same off = ap (λ (o : Option LiveRow). if is_row q l then Some l else o) same
find_kept_one q l live rest false same off = same ∙ sym (ap (λ (b : Bool). if b then Some l else find_live q live) (off refl))

not_false : (b : Bool) → not b ≡ false → b ≡ true
not_false true e = refl
not_false false e = absurd (let bad : true ≡ false = e in cc)

pub find_without : (q place : ℕ) (live : List LiveRow) → (q ≡ place → ⊥) → find_live q (without place live) ≡ find_live q live
find_without q place [] off = refl
find_without q place (l ∷ live) off =
    find_kept_one q l live (without place live) (not (is_row place l)) (find_without q place live off)
    (λ h. let at : l.place ≡ place = eqb-true l.place place (not_false (is_row place l) h) in ne_eqb l.place q (λ e. off (sym e ∙ at)))

pub find_alone : (q place : ℕ) (live : List LiveRow) → q ≡ place → find_live q (kept_alone place live) ≡ find_live q live
find_alone q place [] same = refl
find_alone q place (l ∷ live) same =
    find_kept_one q l live (kept_alone place live) (is_row place l) (find_alone q place live same)
    (λ h. ap (λ (k : ℕ). l.place == k) same ∙ h)

find_more_one : (q : ℕ) (l : LiveRow) (live : List LiveRow) (x row : LiveRow) (b : Bool) → (if b then Some l else find_live q live) ≡ Some row → (find_live q live ≡ Some row → find_live q (live ++ x ∷ []) ≡ Some row) → (if b then Some l else find_live q (live ++ x ∷ [])) ≡ Some row
find_more_one q l live x row true e rest = e
find_more_one q l live x row false e rest = rest e

pub find_more : (q : ℕ) (live : List LiveRow) (x row : LiveRow) → find_live q live ≡ Some row → find_live q (live ++ x ∷ []) ≡ Some row
find_more q [] x row e = absurd (cc)
find_more q (l ∷ live) x row e = find_more_one q l live x row (is_row q l) e (find_more q live x row)

linked_some : (b : Bool) (x l : LiveRow) (o p : Option LiveRow) → is_some o ≡ is_some p → is_some (if b then Some x else o) ≡ is_some (if b then Some l else p)
linked_some true x l o p e = refl
linked_some false x l o p e = e

linked_find : (q place link : ℕ) (l : LiveRow) (live : List LiveRow) (b : Bool) → is_some (find_live q (map (linked place link) live)) ≡ is_some (find_live q live) → is_some (if (if b then record l { link = Some link } else l).place == q then Some (if b then record l { link = Some link } else l) else find_live q (map (linked place link) live)) ≡ is_some (if l.place == q then Some l else find_live q live)
linked_find q place link l live true rest = linked_some (l.place == q) (record l { link = Some link }) l (find_live q (map (linked place link) live)) (find_live q live) rest
linked_find q place link l live false rest = linked_some (l.place == q) l l (find_live q (map (linked place link) live)) (find_live q live) rest

pub find_linked : (q place link : ℕ) (live : List LiveRow) → is_some (find_live q (map (linked place link) live)) ≡ is_some (find_live q live)
find_linked q place link [] = refl
find_linked q place link (l ∷ live) = linked_find q place link l live (is_row place l) (find_linked q place link live)
