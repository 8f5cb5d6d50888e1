-- What a call holds once a row of it begins: every message is held from its first byte on, and the row has taken none.
use Rattle.attempt_buffer.specs.Buffers.{Buffered, Committed, Cursor, can_open, committed_at, committed_to, is_open, opened, taken_by, taken_from, taken_uncommitted, text_of, unpassed}
use Rattle.call_core.specs.Parts.{begun_row, committed_buffer, opened_row}
use Rattle.channel_actions.proofs.SoundBuffers.Buffers.{find_on, start}
use Rattle.std.proofs.Common.{Bool, List, None, Option, Some, [], ap, arith, cond, eq-eqb, false, if◌then◌else◌, is_some, length, nat_le, not, option_map, refl, suc, sym, true, ℕ, ◌&&◌, ◌++◌, ◌-◌, ◌==◌, ◌∙◌, ◌∷◌, ◌≡◌}
use Rattle.std.proofs.lemmas.Bool.Decides.{nat_tests}
use Rattle.std.specs.Option.{option_map_or, option_or}
use Rattle.std.specs.List.{concat, find}

unmapped : {X Y : Type 0} (g : X → Y) (o : Option X) → option_map g o ≡ None → o ≡ None
unmapped g None e = refl
unmapped g (Some x) e = absurd (let bad : Some (g x) ≡ None = e in (cc))

or_last : {X : Type 0} (o : Option X) → option_or o None ≡ o
or_last None = refl
or_last (Some x) = refl

module _ (row : ℕ) (cs : List Cursor) where
  put_here : taken_uncommitted row cs ≡ None → taken_uncommitted row (cs ++ start row ∷ []) ≡ Some 0
  put_here off =
      ap (option_map (λ (c : Cursor). c.taken)) (find_on (λ (c : Cursor). c.row == row) cs (start row ∷ []))
      ∙ ap (λ (o : Option Cursor). option_map (λ (c : Cursor). c.taken) (option_or o (find (λ (c : Cursor). c.row == row) (start row ∷ []))))
      (unmapped (λ (c : Cursor). c.taken) (find (λ (c : Cursor). c.row == row) cs) off)
      ∙ ap (λ (b : Bool). option_map (λ (c : Cursor). c.taken) (cond b (Some (start row)) None)) (eq-eqb row row refl)

  put_away : (k : ℕ) → (row == k) ≡ false → taken_uncommitted k (cs ++ start row ∷ []) ≡ taken_uncommitted k cs
  put_away k off =
      ap (option_map (λ (c : Cursor). c.taken)) (find_on (λ (c : Cursor). c.row == k) cs (start row ∷ []))
      ∙ ap (λ (b : Bool). option_map (λ (c : Cursor). c.taken) (option_or (find (λ (c : Cursor). c.row == k) cs) (cond b (Some (start row)) None))) off
      ∙ ap (option_map (λ (c : Cursor). c.taken)) (or_last (find (λ (c : Cursor). c.row == k) cs))

module _ (row : ℕ) (b : Buffered) (whole : b.is_whole ≡ true) (off : taken_by row b ≡ None) where
  can_by : option_map_or (λ (c : Committed). c.is_open) b.committed false ≡ false → can_open row b ≡ true
  can_by shut =
      ap (λ (w : Bool). (w && not (option_map_or (λ (c : Committed). c.is_open) b.committed false)) && not (is_open row b)) whole
      ∙ ap (λ (q : Bool). not q && not (is_open row b)) shut ∙ ap (λ (o : Option ℕ). not (is_some o)) off

  -- of a call that is not committed
  module _ (none : b.committed ≡ None) where
    pub begins : begun_row row false b ≡ opened row b
    begins = ap (λ (q : Bool). if q then opened row b else b) (can_by (ap (λ (o : Option Committed). option_map_or (λ (c : Committed). c.is_open) o false) none))

    off_here : taken_uncommitted row b.cursors ≡ None
    off_here = sym (ap (taken_from row b.cursors) none) ∙ off

    pub here : taken_by row (opened row b) ≡ Some 0
    here = ap (taken_from row (b.cursors ++ start row ∷ [])) none ∙ put_here row b.cursors off_here

    pub away : (k : ℕ) → (row == k) ≡ false → taken_by k (opened row b) ≡ taken_by k b
    away k other = ap (taken_from k (b.cursors ++ start row ∷ [])) none ∙ put_away row b.cursors k other ∙ sym (ap (taken_from k b.cursors) none)

  -- of one that is committed to this row, which was closed
  module _ (m : Committed) (is : b.committed ≡ Some m) (shut : m.is_open ≡ false) (empty : b.cursors ≡ []) where
    abbrev d : Buffered
    d = opened row b

    opens : opened_row row b ≡ d
    opens =
        ap (λ (q : Bool). if q then opened row b else b)
        (can_by (ap (λ (o : Option Committed). option_map_or (λ (c : Committed). c.is_open) o false) is ∙ shut))

    taken_now : taken_by row d ≡ Some 0
    taken_now =
        ap (λ (cs : List Cursor). taken_from row (cs ++ start row ∷ []) b.committed) empty ∙ ap (taken_from row (start row ∷ [])) is
        ∙ ap (λ (q : Bool). if q && (m.row == row) then Some m.taken else taken_uncommitted row (start row ∷ [])) shut
        ∙ ap (λ (q : Bool). option_map (λ (c : Cursor). c.taken) (cond q (Some (start row)) None)) (eq-eqb row row refl)

    pub commits : begun_row row true b ≡ committed_at row 0 d
    commits =
        ap (committed_buffer row) opens ∙ ap (λ (o : Option ℕ). if is_some o then committed_to row d else d) taken_now
        ∙ ap (λ (o : Option ℕ). option_map_or (λ (taken : ℕ). committed_at row taken d) o d) taken_now

    none_less : (n : ℕ) → nat_le (suc n) 0 ≡ false
    none_less n = grind (arith, nat_tests)

    unpassed_none : (ms : List (List ℕ)) → concat (unpassed 0 ms) ≡ concat ms
    unpassed_none [] = refl
    unpassed_none ([] ∷ ms) = unpassed_none ms
    unpassed_none ((x ∷ xs) ∷ ms) = ap (λ (q : Bool). concat (if q then unpassed (0 - suc (length xs)) ms else (x ∷ xs) ∷ ms)) (none_less (length xs))

    pub text_same : text_of (committed_at row 0 d) ≡ text_of b
    text_same = unpassed_none b.messages

    less : (n : ℕ) → 0 - n ≡ 0
    less n = omega arith

    pub commits_here : taken_by row (committed_at row 0 d) ≡ Some 0
    commits_here =
        ap (λ (q : Bool). if true && q then Some (0 - (length (text_of d) - length (concat (unpassed 0 d.messages)))) else taken_uncommitted row []) (eq-eqb row row refl)
        ∙ ap (λ (n : ℕ). Some n) (less (length (text_of d) - length (concat (unpassed 0 d.messages))))

    pub commits_away : (k : ℕ) → (row == k) ≡ false → taken_by k (committed_at row 0 d) ≡ None
    commits_away k other =
        ap (λ (q : Bool). if true && q then Some (0 - (length (text_of d) - length (concat (unpassed 0 d.messages)))) else taken_uncommitted k []) other

    pub was_none : (k : ℕ) → taken_by k b ≡ None
    was_none k =
        ap (λ (cs : List Cursor). taken_from k cs b.committed) empty ∙ ap (taken_from k []) is
        ∙ ap (λ (q : Bool). if q && (m.row == k) then Some m.taken else taken_uncommitted k []) shut

    pub passed_none : option_map_or (λ (k : Committed). k.taken) (committed_at row 0 d).committed 0 ≡ 0
    passed_none = less (length (text_of d) - length (concat (unpassed 0 d.messages)))
