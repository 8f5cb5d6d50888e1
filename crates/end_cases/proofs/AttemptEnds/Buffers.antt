-- The buffer of a call that is not committed, where one of its rows is closed: that row has no place in it any more, and each other row has the place that it had.
use Rattle.std.proofs.Common.{◌≡◌, ◌==◌, ◌∷◌, not, ap, refl, sym, ◌∙◌, Bool, true, false, List, [], Option, None, Some, ℕ, cond, filter, find, if◌then◌else◌, is_some, option_map}
use Rattle.std.proofs.lemmas.Bool.{eqb-true}
use Rattle.attempt_buffer.specs.Buffers.{Buffered, Committed, Cursor, closed, is_committed_row, shut, taken_by, taken_from}

abbrev pub is_other : ℕ → Cursor → Bool
is_other row k = not (k.row == row)

-- the row that is closed
gone_by : (row : ℕ) (k : Cursor) (cursors : List Cursor) (b : Bool) → (k.row == row) ≡ b → find (λ (q : Cursor). q.row == row) (filter (is_other row) cursors) ≡ None
    → find (λ (q : Cursor). q.row == row) (cond (not b) (k ∷ filter (is_other row) cursors) (filter (is_other row) cursors)) ≡ None
gone_by row k cursors true e rest = rest
gone_by row k cursors false e rest =
    ap (λ (b : Bool). cond b (Some k) (find (λ (q : Cursor). q.row == row) (filter (is_other row) cursors))) e ∙ rest

gone : (row : ℕ) (cursors : List Cursor) → find (λ (q : Cursor). q.row == row) (filter (is_other row) cursors) ≡ None
gone row [] = refl
gone row (k ∷ cursors) = gone_by row k cursors (k.row == row) refl (gone row cursors)

-- another one
kept_by : (row other : ℕ) (k : Cursor) (cursors : List Cursor) (b : Bool) → (other == row) ≡ false → (k.row == row) ≡ b
    → find (λ (q : Cursor). q.row == other) (filter (is_other row) cursors) ≡ find (λ (q : Cursor). q.row == other) cursors
    → find (λ (q : Cursor). q.row == other) (cond (not b) (k ∷ filter (is_other row) cursors) (filter (is_other row) cursors)) ≡ find (λ (q : Cursor). q.row == other) (k ∷ cursors)
kept_by row other k cursors true off e rest =
    rest ∙ sym (ap (λ (b : Bool). cond b (Some k) (find (λ (q : Cursor). q.row == other) cursors)) (not_other (k.row == other) refl))
  where
    not_other : (b : Bool) → (k.row == other) ≡ b → (k.row == other) ≡ false
    not_other false f = f
    not_other true f =
        let same : k.row ≡ other = eqb-true k.row other f in
        let both : true ≡ false = sym e ∙ ap (λ (n : ℕ). n == row) same ∙ off in absurd (cc)
kept_by row other k cursors false off e rest =
    ap (λ (o : Option Cursor). cond (k.row == other) (Some k) o) rest

kept : (row other : ℕ) (cursors : List Cursor) → (other == row) ≡ false
    → find (λ (q : Cursor). q.row == other) (filter (is_other row) cursors) ≡ find (λ (q : Cursor). q.row == other) cursors
kept row other [] off = refl
kept row other (k ∷ cursors) off = kept_by row other k cursors (k.row == row) off refl (kept row other cursors off)

none_of : (o : Option Committed) → is_some o ≡ false → o ≡ None
none_of None e = refl
none_of (Some k) e = absurd (cc)

module _ (b : Buffered) (row : ℕ) (free : is_some b.committed ≡ false) where
  abbrev pub without : Buffered
  without = record b { cursors = filter (is_other row) b.cursors }

  pub closed_is : closed row b ≡ without
  closed_is =
      ap (λ (o : Option Committed). if is_committed_row row o then record b { committed = option_map shut b.committed } else without) (none_of b.committed free)

  free_is : b.committed ≡ None
  free_is = none_of b.committed free

  pub taken_gone : taken_by row without ≡ None
  taken_gone = ap (taken_from row (filter (is_other row) b.cursors)) free_is ∙ ap (option_map (λ (k : Cursor). k.taken)) (gone row b.cursors)

  pub taken_kept : (other : ℕ) → (other == row) ≡ false → taken_by other without ≡ taken_by other b
  taken_kept other off =
      ap (taken_from other (filter (is_other row) b.cursors)) free_is ∙ ap (option_map (λ (k : Cursor). k.taken)) (kept row other b.cursors off)
      ∙ sym (ap (taken_from other b.cursors) free_is)
