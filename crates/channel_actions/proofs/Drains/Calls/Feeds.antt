-- A buffer of which rows took bytes: which rows are open stays, and none took more than is held.
use Rattle.std.proofs.Common.{◌≡◌, ◌+◌, ◌-◌, ◌≤◌, ◌∷◌, ◌&&◌, ◌==◌, ◌⊎◌, inl, inr, ap, arith, length-append, length-drop, refl, subst, sym, ◌∙◌, Bool, true, false, List, [], Option, None, Some, ℕ, cond, drop, if◌then◌else◌, is_some, length, nat_le}
use Rattle.std.proofs.Math.Nat.{le_refl}
use Rattle.std.proofs.lemmas.Bool.{and_parts, eqb-true, leb-true}
use Rattle.std.specs.List.{concat, find}
use Rattle.std.specs.Option.{option_map, option_map_or}
use Rattle.attempt_buffer.proofs.LeftLaws.{IsAlone}
use Rattle.attempt_buffer.specs.Buffers.{Buffered, Committed, Cursor, after_taking, committed_at, is_committed_row, is_open, moved, moved_one, taken_by, taken_from, taken_to, taken_uncommitted, text_of, unpassed}
use Rattle.call_core.specs.Parts.{can_feed, fed_buffer, ready_of}
use Rattle.channel_actions.specs.DrainCalls.Laws.{fed_some}

-- of every open row
abbrev pub IsWithin : Buffered → Type 0
IsWithin b = (row taken : ℕ) → taken_by row b ≡ Some taken → taken ≤ length (text_of b)

-- what one open row takes leaves of a commitment whether it is there, its row, and whether it goes on
pub record IsKeptGoing (m : Committed) (o : Option Committed) : Type 0 where
  pub committed : Committed
  pub is : o ≡ Some committed
  pub row : committed.row ≡ m.row
  pub goes : committed.is_open ≡ true

pub record IsFedFrom (b c : Buffered) : Type 0 where
  pub opens : (row : ℕ) → is_some (taken_by row c) ≡ is_some (taken_by row b)
  pub alone : IsAlone c.cursors c.committed
  pub within : IsWithin c
  pub none : b.committed ≡ None → (c.committed ≡ None) × (text_of c ≡ text_of b)
  pub shut : (m : Committed) → b.committed ≡ Some m → m.is_open ≡ false → (c.committed ≡ Some m) × (text_of c ≡ text_of b)
  pub going : (m : Committed) → b.committed ≡ Some m → m.is_open ≡ true → IsKeptGoing m c.committed

pub fed_self : (b : Buffered) → IsAlone b.cursors b.committed → IsWithin b → IsFedFrom b b
fed_self b alone within = record {
  opens = λ row. refl;
  alone = alone;
  within = within;
  none = λ e. (e, refl);
  shut = λ m e closed. (e, refl);
  going = λ m e goes. record { committed = m; is = e; row = refl; goes = goes };
}

pub fed_join : (b c d : Buffered) → IsFedFrom b c → IsFedFrom c d → IsFedFrom b d
fed_join b c d f g = record {
  opens = λ row. g.opens row ∙ f.opens row;
  alone = g.alone;
  within = g.within;
  none = λ e.
      let one = f.none e in
      let two = g.none one.0 in (two.0, two.1 ∙ one.1);
  shut = λ m e closed.
      let one = f.shut m e closed in
      let two = g.shut m one.0 closed in (two.0, two.1 ∙ one.1);
  going = λ m e goes.
      let one = f.going m e goes in
      let two = g.going one.committed one.is one.goes in record { committed = two.committed; is = two.is; row = two.row ∙ one.row; goes = two.goes };
}

-- a cursor that moves
abbrev place_in : ℕ → List Cursor → Option ℕ
place_in k cs = taken_uncommitted k cs

same_row : (row n : ℕ) (c : Cursor) (b : Bool) → (if b then record c { taken = n } else c).row ≡ c.row
same_row row n c true = refl
same_row row n c false = refl

some_by : (c d : Cursor) (b : Bool) (o p : Option Cursor) → is_some (option_map (λ (x : Cursor). x.taken) p) ≡ is_some (option_map (λ (x : Cursor). x.taken) o)
    → is_some (option_map (λ (x : Cursor). x.taken) (cond b (Some d) p)) ≡ is_some (option_map (λ (x : Cursor). x.taken) (cond b (Some c) o))
some_by c d true o p e = refl
some_by c d false o p e = e

some_moved : (row n k : ℕ) (cs : List Cursor) → is_some (place_in k (moved row n cs)) ≡ is_some (place_in k cs)
some_moved row n k [] = refl
some_moved row n k (c ∷ cs) =
    ap (λ (r : ℕ). is_some (option_map (λ (x : Cursor). x.taken) (cond (r == k) (Some (moved_one row n c)) (find (λ (x : Cursor). x.row == k) (moved row n cs)))))
    (same_row row n c (c.row == row))
    ∙ some_by c (moved_one row n c) (c.row == k) (find (λ (x : Cursor). x.row == k) cs) (find (λ (x : Cursor). x.row == k) (moved row n cs)) (some_moved row n k cs)

-- it is at its new place, or where it was
moved_to : (n t : ℕ) (c : Cursor) (b : Bool) → Some (if b then record c { taken = n } else c).taken ≡ Some t → (t ≡ n) ⊎ (◌≡◌ {A = Option ℕ} (Some c.taken) (Some t))
moved_to n t c true e = inl (let one : n ≡ t = (cc) in sym one)
moved_to n t c false e = inr e

which_by : (row n t : ℕ) (c : Cursor) (b : Bool) (o p : Option Cursor) → option_map (λ (x : Cursor). x.taken) (cond b (Some (moved_one row n c)) p) ≡ Some t
    → (option_map (λ (x : Cursor). x.taken) p ≡ Some t → (t ≡ n) ⊎ (option_map (λ (x : Cursor). x.taken) o ≡ Some t))
    → (t ≡ n) ⊎ (option_map (λ (x : Cursor). x.taken) (cond b (Some c) o) ≡ Some t)
which_by row n t c true o p e rest = moved_to n t c (c.row == row) e
which_by row n t c false o p e rest = rest e

which_moved : (row n k t : ℕ) (cs : List Cursor) → place_in k (moved row n cs) ≡ Some t → (t ≡ n) ⊎ (place_in k cs ≡ Some t)
which_moved row n k t [] e = absurd (cc)
which_moved row n k t (c ∷ cs) e =
    which_by row n t c (c.row == k) (find (λ (x : Cursor). x.row == k) cs) (find (λ (x : Cursor). x.row == k) (moved row n cs))
    (sym (ap (λ (r : ℕ). option_map (λ (x : Cursor). x.taken) (cond (r == k) (Some (moved_one row n c)) (find (λ (x : Cursor). x.row == k) (moved row n cs)))) (same_row row n c (c.row == row))) ∙ e)
    (which_moved row n k t cs)

-- a row that is not committed takes bytes
alone_moved : (row n : ℕ) (cs : List Cursor) (o : Option Committed) → IsAlone cs o → IsAlone (moved row n cs) o
alone_moved row n cs None alone = tt
alone_moved row n cs (Some m) alone = λ goes. ap (moved row n) (alone goes)

opens_if : (row n k : ℕ) (cs : List Cursor) (m : Committed) (b : Bool)
    → is_some (if b then Some m.taken else place_in k (moved row n cs)) ≡ is_some (if b then Some m.taken else place_in k cs)
opens_if row n k cs m true = refl
opens_if row n k cs m false = some_moved row n k cs

opens_moved : (row n k : ℕ) (cs : List Cursor) (o : Option Committed) → is_some (taken_from k (moved row n cs) o) ≡ is_some (taken_from k cs o)
opens_moved row n k cs None = some_moved row n k cs
opens_moved row n k cs (Some m) = opens_if row n k cs m (m.is_open && (m.row == k))

which_if : (row n k t : ℕ) (cs : List Cursor) (m : Committed) (b : Bool) → (if b then Some m.taken else place_in k (moved row n cs)) ≡ Some t
    → (t ≡ n) ⊎ ((if b then Some m.taken else place_in k cs) ≡ Some t)
which_if row n k t cs m true e = inr e
which_if row n k t cs m false e = which_moved row n k t cs e

which_from : (row n k t : ℕ) (cs : List Cursor) (o : Option Committed) → taken_from k (moved row n cs) o ≡ Some t → (t ≡ n) ⊎ (taken_from k cs o ≡ Some t)
which_from row n k t cs None e = which_moved row n k t cs e
which_from row n k t cs (Some m) e = which_if row n k t cs m (m.is_open && (m.row == k)) e

within_by : (b : Buffered) (k t n : ℕ) → IsWithin b → n ≤ length (text_of b) → (t ≡ n) ⊎ (taken_by k b ≡ Some t) → t ≤ length (text_of b)
within_by b k t n within low (inl e) = subst (λ (m : ℕ). m ≤ length (text_of b)) (sym e) low
within_by b k t n within low (inr e) = within k t e

fed_moved : (row n : ℕ) (b : Buffered) → IsAlone b.cursors b.committed → IsWithin b → n ≤ length (text_of b) → IsFedFrom b (record b { cursors = moved row n b.cursors })
fed_moved row n b alone within low = record {
  opens = λ k. opens_moved row n k b.cursors b.committed;
  alone = alone_moved row n b.cursors b.committed alone;
  within = λ k t e. within_by b k t n within low (which_from row n k t b.cursors b.committed e);
  none = λ e. (e, refl);
  shut = λ m e closed. (e, refl);
  going = λ m e goes. record { committed = m; is = e; row = refl; goes = goes };
}

-- the committed row does
shorter_by : (taken : ℕ) (m : List ℕ) (ms : List (List ℕ)) (b : Bool) → length (concat (unpassed (taken - length m) ms)) ≤ length (concat ms)
    → length (concat (if b then unpassed (taken - length m) ms else m ∷ ms)) ≤ length (concat (m ∷ ms))
shorter_by taken m ms true less =
    let whole : length (concat (m ∷ ms)) ≡ length m + length (concat ms) = length-append m (concat ms) in omega (arith, less, whole)
shorter_by taken m ms false less = le_refl (length (concat (m ∷ ms)))

shorter : (taken : ℕ) (ms : List (List ℕ)) → length (concat (unpassed taken ms)) ≤ length (concat ms)
shorter taken [] = le_refl 0
shorter taken (m ∷ ms) = shorter_by taken m ms (nat_le (length m) taken) (shorter (taken - length m) ms)

only_by : (row k : ℕ) (n : ℕ) (b : Bool) → (row == k) ≡ b → is_some (if true && b then Some n else None) ≡ b
only_by row k n true e = refl
only_by row k n false e = refl

alone_opens : (k : ℕ) (cs : List Cursor) (m : Committed) → cs ≡ [] → m.is_open ≡ true → is_some (taken_from k cs (Some m)) ≡ (m.row == k)
alone_opens k cs m empty goes =
    ap (λ (c : List Cursor). is_some (taken_from k c (Some m))) empty ∙ ap (λ (b : Bool). is_some (if b && (m.row == k) then Some m.taken else None)) goes
    ∙ only_by m.row k m.taken (m.row == k) refl

taken_only : (n t : ℕ) (b : Bool) → (if true && b then Some n else None) ≡ Some t → t ≡ n
taken_only n t true e = (let one : n ≡ t = (cc) in sym one)
taken_only n t false e = absurd (cc)

fed_committed : (row n : ℕ) (b : Buffered) (m : Committed) → b.committed ≡ Some m → m.is_open ≡ true → m.row ≡ row → b.cursors ≡ [] → n ≤ length (text_of b)
    → IsFedFrom b (committed_at row n b)
fed_committed row n b m is goes own empty low =
    let rest : List (List ℕ) = unpassed n b.messages in
    let less : length (concat rest) ≤ length (text_of b) = shorter n b.messages in
    let now : ℕ = n - (length (text_of b) - length (concat rest)) in
    record {
      opens = λ k.
          only_by row k now (row == k) refl
          ∙ sym (ap (λ (o : Option Committed). is_some (taken_from k b.cursors o)) is ∙ alone_opens k b.cursors m empty goes ∙ ap (λ (r : ℕ). r == k) own);
      alone = λ e. refl;
      within = λ k t e.
          let one : t ≡ now = taken_only now t (row == k) e in
          subst (λ (v : ℕ). v ≤ length (concat rest)) (sym one) (let small : now ≤ length (concat rest) = omega (arith, less, low) in small);
      none = λ e. absurd (let bad : None ≡ Some m = sym e ∙ is in (cc));
      shut = λ k e closed.
          absurd (let one : m ≡ k = (let both : Some m ≡ Some k = sym is ∙ e in (cc)) in (let bad : true ≡ false = sym goes ∙ ap (λ (z : Committed). z.is_open) one ∙ closed in (cc)));
      going = λ k e open_.
          let one : m ≡ k = (let both : Some m ≡ Some k = sym is ∙ e in (cc)) in
          record { committed = record { row = row; taken = now; is_open = true }; is = refl; row = sym own ∙ ap (λ (z : Committed). z.row) one; goes = refl };
    }

-- whichever it is
to_by : (row n : ℕ) (b : Buffered) (o : Option Committed) → b.committed ≡ o → (c : Bool) → is_committed_row row o ≡ c → IsAlone b.cursors b.committed → IsWithin b
    → n ≤ length (text_of b) → IsFedFrom b (if c then committed_at row n b else record b { cursors = moved row n b.cursors })
to_by row n b o is false e alone within low = fed_moved row n b alone within low
to_by row n b None is true e alone within low = absurd (cc)
to_by row n b (Some m) is true e alone within low =
    let both = and_parts m.is_open (m.row == row) e in
    fed_committed row n b m is both.0 (eqb-true m.row row both.1) (subst (IsAlone b.cursors) is alone both.0) low

taken_so : (row len : ℕ) (b : Buffered) (o : Option ℕ) → taken_by row b ≡ o → IsAlone b.cursors b.committed → IsWithin b → len ≤ length (option_map_or (λ (t : ℕ). drop t (text_of b)) o [])
    → IsFedFrom b (option_map_or (λ (t : ℕ). taken_to row (t + len) b) o b)
taken_so row len b None is alone within low = fed_self b alone within
taken_so row len b (Some t) is alone within low =
    let there : t ≤ length (text_of b) = within row t is in
    let rest : length (drop t (text_of b)) ≡ length (text_of b) - t = length-drop t (text_of b) in
    let fits : t + len ≤ length (text_of b) = omega (arith, there, rest, low) in
    to_by row (t + len) b b.committed refl (is_committed_row row b.committed) refl alone within fits

fed_if : (row len : ℕ) (b : Buffered) (c : Bool) → can_feed row len b ≡ c → IsAlone b.cursors b.committed → IsWithin b → IsFedFrom b (if c then after_taking row len b else b)
fed_if row len b false e alone within = fed_self b alone within
fed_if row len b true e alone within =
    let both = and_parts (is_open row b) (nat_le len (ready_of row b)) e in
    taken_so row len b (taken_by row b) refl alone within (leb-true len (ready_of row b) both.1)

pub fed_one : (row len : ℕ) (b : Buffered) → IsAlone b.cursors b.committed → IsWithin b → IsFedFrom b (fed_buffer row len b)
fed_one row len b alone within = fed_if row len b (can_feed row len b) refl alone within

-- several, one after the other, each where it is of a kind
some_if : (row len : ℕ) (b : Buffered) (c : Bool) → IsAlone b.cursors b.committed → IsWithin b → IsFedFrom b (if c then fed_buffer row len b else b)
some_if row len b true alone within = fed_one row len b alone within
some_if row len b false alone within = fed_self b alone within

pub fed_all_so : (own : ℕ → Bool) (feeds : List (ℕ × ℕ)) (b : Buffered) → IsAlone b.cursors b.committed → IsWithin b → IsFedFrom b (fed_some own feeds b)
fed_all_so own [] b alone within = fed_self b alone within
fed_all_so own (f ∷ feeds) b alone within =
    let one : IsFedFrom b (if own f.0 then fed_buffer f.0 f.1 b else b) = some_if f.0 f.1 b (own f.0) alone within in
    fed_join b (if own f.0 then fed_buffer f.0 f.1 b else b) (fed_some own (f ∷ feeds) b) one
    (fed_all_so own feeds (if own f.0 then fed_buffer f.0 f.1 b else b) one.alone one.within)
