-- What each row has still to send, after a change of one row.
use Rattle.std.proofs.Common.{◌≡◌, ◌∙◌, ℕ, ◌+◌, ◌-◌, ◌==◌, ◌&&◌, Bool, true, false, if◌then◌else◌, Option, Some, None, IfSome, List, [], ◌∷◌, length, drop, map, refl, ap, sym, inl, inr}
use Rattle.std.specs.List.{concat, find}
use Rattle.std.specs.Option.{option_map, option_map_or}
use Rattle.std.proofs.lemmas.Bool.{and_parts, and_right, cases_Bool, cases_eq, eq-eqb, eqb-true, ne_eqb}
use Rattle.attempt_buffer.specs.Buffers.{Buffered, Committed, Cursor, committed_at, is_committed_row, left_of, moved, moved_one, taken_by, taken_from, taken_to, taken_uncommitted, text_of, unpassed}
use Rattle.attempt_buffer.specs.Cursors.{seen_committed, seen_cursor}
use Rattle.attempt_buffer.specs.declared.cursors.Committed.{Committed as Kept}
use Rattle.attempt_buffer.specs.declared.cursors.Cursor.{Cursor as Held}
use Rattle.attempt_buffer.proofs.BufferLaws.{left_is, taken_else, taken_then, text_unpassed}
use Rattle.attempt_buffer.proofs.SpotLaws.{drop_on}

-- where a committed row is open, no other one is
abbrev pub IsAlone : List Cursor → Option Committed → Type 0
IsAlone cursors committed = IfSome committed (λ c. c.is_open ≡ true → cursors ≡ [])

pub alone_seen : (cs : List Held) (o : Option Kept) → IfSome o (λ c. c.is_open ≡ true → cs ≡ []) → IsAlone (map seen_cursor cs) (option_map seen_committed o)
alone_seen cs None alone = tt
alone_seen cs (Some c) alone = λ is_open. ap (map seen_cursor) (alone is_open)

-- a cursor that moves
moved_where : (row n : ℕ) (c : Cursor) → (c.row == row) ≡ true → moved_one row n c ≡ record c { taken = n }
moved_where row n c h = ap (λ b. if b then record c { taken = n } else c) h

moved_else : (row n : ℕ) (c : Cursor) → (c.row == row) ≡ false → moved_one row n c ≡ c
moved_else row n c h = ap (λ b. if b then record c { taken = n } else c) h

-- what a row has taken, by the first cursor of it
first_where : (row : ℕ) (c : Cursor) (cs : List Cursor) → (c.row == row) ≡ true → taken_uncommitted row (c ∷ cs) ≡ Some c.taken
first_where row c cs h = ap (λ b. option_map (λ x. x.taken) (if b then Some c else find (λ x. x.row == row) cs)) h

first_else : (row : ℕ) (c : Cursor) (cs : List Cursor) → (c.row == row) ≡ false → taken_uncommitted row (c ∷ cs) ≡ taken_uncommitted row cs
first_else row c cs h = ap (λ b. option_map (λ x. x.taken) (if b then Some c else find (λ x. x.row == row) cs)) h

taken_moved : (row n a : ℕ) (cs : List Cursor) → taken_uncommitted row cs ≡ Some a → taken_uncommitted row (moved row n cs) ≡ Some n
taken_moved row n a [] h = absurd (let no : ⊥ = (cc) in no)
taken_moved row n a (c ∷ cs) h =
    elim (cases_Bool (c.row == row)) [
      | inl here ↦ ap (λ x. taken_uncommitted row (x ∷ moved row n cs)) (moved_where row n c here) ∙ first_where row (record c { taken = n }) (moved row n cs) here
      | inr other ↦
          ap (λ x. taken_uncommitted row (x ∷ moved row n cs)) (moved_else row n c other) ∙ first_else row c (moved row n cs) other
          ∙ taken_moved row n a cs (sym (first_else row c cs other) ∙ h)
    ]

unmoved : (row n t : ℕ) (cs : List Cursor) → (t ≡ row → ⊥) → taken_uncommitted t (moved row n cs) ≡ taken_uncommitted t cs
unmoved row n t [] ne = refl
unmoved row n t (c ∷ cs) ne =
    elim (cases_Bool (c.row == row)) [
      | inl here ↦
          let other : (c.row == t) ≡ false = ne_eqb c.row t (λ e. ne (sym e ∙ eqb-true c.row row here)) in
          ap (λ x. taken_uncommitted t (x ∷ moved row n cs)) (moved_where row n c here) ∙ first_else t (record c { taken = n }) (moved row n cs) other
          ∙ unmoved row n t cs ne ∙ sym (first_else t c cs other)
      | inr there ↦
          ap (λ x. taken_uncommitted t (x ∷ moved row n cs)) (moved_else row n c there)
          ∙ (elim (c.row == t) as (λ b. option_map (λ x. x.taken) (if b then Some c else find (λ x. x.row == t) (moved row n cs)) ≡ option_map (λ x. x.taken) (if b then Some c else find (λ x. x.row == t) cs))
          [ true ↦ refl | false ↦ unmoved row n t cs ne ])
    ]

-- the text that is left of a row
abbrev left_at : Buffered → Option ℕ → List ℕ
left_at b taken = option_map_or (λ n. drop n (text_of b)) taken []

-- a commitment: what the committed row has still to send is as it was, and no other row has anything to send
pub left_committed : (row n t : ℕ) (b : Buffered) → left_of t (committed_at row n b) ≡ (if t == row then drop n (text_of b) else [])
left_committed row n t b =
    let rest = unpassed n b.messages in
    let k = n - (length (concat b.messages) - length (concat rest)) in
    let L : Bool → List ℕ = λ x. option_map_or (λ m. drop m (concat rest)) (if x then Some k else None) [] in
    let R : Bool → List ℕ = λ x. if x then drop n (concat b.messages) else [] in
    elim (cases_eq t row) [
      | inl e ↦ ap L (eq-eqb row t (sym e)) ∙ text_unpassed n b.messages ∙ sym (ap R (eq-eqb t row e))
      | inr ne ↦ ap L (ne_eqb row t (λ e. ne (sym e))) ∙ sym (ap R (ne_eqb t row ne))
    ]

-- where the committed row is open, no other row has a place
none_taken : (row t : ℕ) (cs : List Cursor) (o : Option Committed) → IsAlone cs o → is_committed_row row o ≡ true → (t ≡ row → ⊥) → taken_from t cs o ≡ None
none_taken row t cs None alone h ne = absurd (let no : ⊥ = (cc) in no)
none_taken row t cs (Some c) alone h ne =
    let parts = and_parts c.is_open (c.row == row) h in
    let other : (c.row == t) ≡ false = ne_eqb c.row t (λ e. ne (sym e ∙ eqb-true c.row row parts.1)) in
    ap (λ x. if x then Some c.taken else taken_uncommitted t cs) (and_right c.is_open (c.row == t) other) ∙ ap (taken_uncommitted t) (alone parts.0)

-- the place of a row that isn't committed, and of one that doesn't move
uncommitted : (row : ℕ) (cs : List Cursor) (o : Option Committed) → is_committed_row row o ≡ false → taken_from row cs o ≡ taken_uncommitted row cs
uncommitted row cs None h = refl
uncommitted row cs (Some c) h = ap (λ x. if x then Some c.taken else taken_uncommitted row cs) h

stays : (row n t : ℕ) (cs : List Cursor) (o : Option Committed) → (t ≡ row → ⊥) → taken_from t (moved row n cs) o ≡ taken_from t cs o
stays row n t cs None ne = unmoved row n t cs ne
stays row n t cs (Some c) ne = ap (λ u. if c.is_open && (c.row == t) then Some c.taken else u) (unmoved row n t cs ne)

-- a row that takes bytes has so many fewer to send, and every other row as many as before
pub left_taken : (row taken len t : ℕ) (b : Buffered) → IsAlone b.cursors b.committed → taken_by row b ≡ Some taken → left_of t (taken_to row (taken + len) b) ≡ (if t == row then drop len (left_of row b) else left_of t b)
left_taken row taken len t b alone at =
    let n = taken + len in
    let fewer : drop n (text_of b) ≡ drop len (left_of row b) = sym (drop_on taken len (text_of b)) ∙ ap (drop len) (sym (left_is row taken b at)) in
    let R : Bool → List ℕ = λ x. if x then drop len (left_of row b) else left_of t b in
    elim (cases_Bool (is_committed_row row b.committed)) [
      | inl committed ↦
          let to : left_of t (taken_to row n b) ≡ left_of t (committed_at row n b) = ap (left_of t) (sym (taken_then row n b committed)) in
          let C : Bool → List ℕ = λ x. if x then drop n (text_of b) else [] in
          elim (cases_eq t row) [
            | inl e ↦ to ∙ left_committed row n t b ∙ ap C (eq-eqb t row e) ∙ fewer ∙ sym (ap R (eq-eqb t row e))
            | inr ne ↦
                to ∙ left_committed row n t b ∙ ap C (ne_eqb t row ne) ∙ sym (ap (left_at b) (none_taken row t b.cursors b.committed alone committed ne))
                ∙ sym (ap R (ne_eqb t row ne))
          ]
      | inr other ↦
          let by : left_of t (taken_to row n b) ≡ left_at b (taken_from t (moved row n b.cursors) b.committed) = ap (left_of t) (sym (taken_else row n b other)) in
          elim (cases_eq t row) [
            | inl e ↦
                let here : taken_from row (moved row n b.cursors) b.committed ≡ Some n =
                uncommitted row (moved row n b.cursors) b.committed other ∙ taken_moved row n taken b.cursors (sym (uncommitted row b.cursors b.committed other) ∙ at) in
                by ∙ ap (λ u. left_at b (taken_from u (moved row n b.cursors) b.committed)) e ∙ ap (left_at b) here ∙ fewer ∙ sym (ap R (eq-eqb t row e))
            | inr ne ↦ by ∙ ap (left_at b) (stays row n t b.cursors b.committed ne) ∙ sym (ap R (ne_eqb t row ne))
          ]
    ]
