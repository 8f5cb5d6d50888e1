-- What a contract sees of the cursors, and what every buffer keeps.
use Rattle.std.proofs.Common.{◌≡◌, ◌∙◌, ◌<◌, ◌≤◌, ℕ, zero, suc, ◌+◌, ◌-◌, ◌==◌, Bool, true, false, not, ◌&&◌, is_some, nat_le, if◌then◌else◌, Option, Some, None, IfSome, List, [], ◌∷◌, ◌++◌, length, take, drop, map, refl, ap, sym, subst, inl, inr, arith, zero-add, length-append, set, get_or}
use Rattle.std.specs.List.{concat, filter, find}
use Rattle.std.specs.Option.{option_map, option_map_or}
use Rattle.std.proofs.lemmas.Bool.{and_parts, cases_lt, false≢true, not-true}
use Rattle.std.proofs.lemmas.Bool.Decides.{nat_tests}
use Rattle.std.proofs.lemmas.List.{take-append-le}
use Rattle.std.proofs.Math.Seq.{drop-append-add, take-append_seam}
use Rattle.attempt_buffer.specs.Buffers.{Buffered, closed, committed_at, committed_to, is_committed_row, left_of, moved, moved_one, shut, taken_by, taken_from, taken_to, taken_uncommitted, text_of, unpassed}
use Rattle.attempt_buffer.specs.Cursors.{CursorsAreAt, IsAt, IsSound, at_spot, most_bytes, seen_committed, seen_cursor, shut_code, spot_from, spot_or}
use Rattle.attempt_buffer.specs.Spots.{MessagesAreSized, IsInFirst, IsSpot}
use Rattle.attempt_buffer.specs.declared.cursors.Committed.{Committed}
use Rattle.attempt_buffer.specs.declared.cursors.Cursor.{Cursor}
use Rattle.attempt_buffer.specs.declared.messages.Spot.{Spot}
use Rattle.attempt_buffer.proofs.SpotLaws.{bytes_more, sized_more, unpassed_there}

-- a cursor that moves
one_seen : (row : ℕ) (spot : Spot) (c : Cursor) → seen_cursor (at_spot row spot c) ≡ moved_one row spot.taken (seen_cursor c)
one_seen row spot c =
    elim (c.row == row) as (λ b. seen_cursor (if b then record c { spot = spot } else c) ≡ (if b then record (seen_cursor c) { taken = spot.taken } else seen_cursor c))
    [ true ↦ refl | false ↦ refl ]

pub moved_seen : (row : ℕ) (spot : Spot) (cs : List Cursor) → map seen_cursor (map (at_spot row spot) cs) ≡ moved row spot.taken (map seen_cursor cs)
moved_seen row spot [] = refl
moved_seen row spot (c ∷ cs) = ap (λ x. x ∷ map seen_cursor (map (at_spot row spot) cs)) (one_seen row spot c) ∙ ap (λ xs. moved_one row spot.taken (seen_cursor c) ∷ xs) (moved_seen row spot cs)

pub moved_at : (ms : List (List ℕ)) (row : ℕ) (spot : Spot) (cs : List Cursor) → IsAt ms spot → CursorsAreAt ms cs → CursorsAreAt ms (map (at_spot row spot) cs)
moved_at ms row spot [] here at = tt
moved_at ms row spot (c ∷ cs) here at =
    let one : IsAt ms (at_spot row spot c).spot =
    elim (c.row == row) as (λ b. IsAt ms (if b then record c { spot = spot } else c).spot) [ true ↦ here | false ↦ at.0 ] in
    (one, moved_at ms row spot cs here at.1)

-- one of the cursors in the loop that moves them
pub moved_more : (f : Cursor → Cursor) (old : List Cursor) (i : ℕ) (d : Cursor) → i < length old → set (map f (take i old) ++ drop i old) i (f (get_or (map f (take i old) ++ drop i old) i d)) ≡ map f (take (suc i) old) ++ drop (suc i) old
moved_more f [] i d lt = absurd (let no : ⊥ = omega (arith, lt) in no)
moved_more f (c ∷ cs) zero d lt = refl
moved_more f (c ∷ cs) (suc i) d lt = ap (λ l. f c ∷ l) (moved_more f cs i d (omega (arith, lt)))

-- a row that is closed
pub closed_seen : (row : ℕ) (cs : List Cursor) → map seen_cursor (filter (λ c. not (c.row == row)) cs) ≡ filter (λ c. not (c.row == row)) (map seen_cursor cs)
closed_seen row [] = refl
closed_seen row (c ∷ cs) =
    elim (c.row == row) as (λ b. map seen_cursor (if not b then c ∷ filter (λ x. not (x.row == row)) cs else filter (λ x. not (x.row == row)) cs) ≡ (if not b then seen_cursor c ∷ filter (λ x. not (x.row == row)) (map seen_cursor cs) else filter (λ x. not (x.row == row)) (map seen_cursor cs)))
    [ true ↦ closed_seen row cs | false ↦ ap (λ l. seen_cursor c ∷ l) (closed_seen row cs) ]

pub closed_at : (ms : List (List ℕ)) (row : ℕ) (cs : List Cursor) → CursorsAreAt ms cs → CursorsAreAt ms (filter (λ c. not (c.row == row)) cs)
closed_at ms row [] at = tt
closed_at ms row (c ∷ cs) at =
    elim (c.row == row) as (λ b. CursorsAreAt ms (if not b then c ∷ filter (λ x. not (x.row == row)) cs else filter (λ x. not (x.row == row)) cs))
    [ true ↦ closed_at ms row cs at.1 | false ↦ (at.0, closed_at ms row cs at.1) ]

-- a row that begins
pub begun_at : (ms : List (List ℕ)) (cs : List Cursor) (c : Cursor) → CursorsAreAt ms cs → IsAt ms c.spot → CursorsAreAt ms (cs ++ c ∷ [])
begun_at ms [] c at here = (here, tt)
begun_at ms (x ∷ cs) c at here = (at.0, begun_at ms cs c at.1 here)

-- one message more leaves each spot
first_more : (ms : List (List ℕ)) (k o : ℕ) (m : List ℕ) → k ≤ length ms → 0 < length m → IsInFirst o (drop k ms) → IsInFirst o (drop k (ms ++ m ∷ []))
first_more [] zero o m le filled first = let P : ℕ → Type 0 = λ n. n < length m in subst P (sym first) filled
first_more [] (suc k) o m le filled first = absurd (let no : ⊥ = omega (arith, le) in no)
first_more (x ∷ ms) zero o m le filled first = first
first_more (x ∷ ms) (suc k) o m le filled first = first_more ms k o m (omega (arith, le)) filled first

pub spot_more : (ms : List (List ℕ)) (m : List ℕ) (s : Spot) → 0 < length m → IsAt ms s → IsAt (ms ++ m ∷ []) s
spot_more ms m s filled at = record {
  within = omega (arith, at.within, length-append ms (m ∷ []));
  sum = at.sum ∙ ap (λ l. length (concat l) + s.offset) (sym (take-append-le s.message ms (m ∷ []) at.within));
  first = first_more ms s.message s.offset m at.within filled at.first;
}

pub spots_more : (ms : List (List ℕ)) (m : List ℕ) (cs : List Cursor) → 0 < length m → CursorsAreAt ms cs → CursorsAreAt (ms ++ m ∷ []) cs
spots_more ms m [] filled at = tt
spots_more ms m (c ∷ cs) filled at = (spot_more ms m c.spot filled at.0, spots_more ms m cs filled at.1)

-- messages that are given up
pub sized_rest : (ms : List (List ℕ)) (k : ℕ) → MessagesAreSized ms → MessagesAreSized (drop k ms)
sized_rest [] zero sized = tt
sized_rest [] (suc k) sized = tt
sized_rest (m ∷ ms) zero sized = sized
sized_rest (m ∷ ms) (suc k) sized = sized_rest ms k sized.2

-- what stands before a spot is what is given up, and what is left of it
split_at : (ms : List (List ℕ)) (k : ℕ) → length (concat (take k ms)) + length (concat (drop k ms)) ≡ length (concat ms)
split_at [] zero = refl
split_at [] (suc k) = refl
split_at (m ∷ ms) zero = zero-add (length (concat (m ∷ ms)))
split_at (m ∷ ms) (suc k) = omega (arith, length-append m (concat (take k ms)), length-append m (concat ms), split_at ms k)

none_before : (ms : List (List ℕ)) (k : ℕ) → MessagesAreSized ms → k ≤ length ms → (length (concat (take k ms)) == 0) ≡ (k == 0)
none_before ms zero sized le = refl
none_before [] (suc k) sized le = absurd (let no : ⊥ = omega (arith, le) in no)
none_before (m ∷ ms) (suc k) sized le =
    let some : 0 < length (m ++ concat (take k ms)) = omega (arith, length-append m (concat (take k ms)), sized.0) in
    grind (arith, nat_tests)

pub record IsPassed (ms : List (List ℕ)) (s : Spot) : Type 0 where
  pub rest : unpassed s.taken ms ≡ drop s.message ms
  pub left : s.taken - (length (concat ms) - length (concat (unpassed s.taken ms))) ≡ s.offset
  pub none : ((length (concat ms) - length (concat (unpassed s.taken ms))) == 0) ≡ (s.message == 0)

pub passed_at : (ms : List (List ℕ)) (s : Spot) → MessagesAreSized ms → IsAt ms s → IsPassed ms s
passed_at ms s sized at =
    let rest : unpassed s.taken ms ≡ drop s.message ms =
    ap (λ n. unpassed n ms) at.sum ∙ unpassed_there ms s.message s.offset at.within at.first in
    let len : length (concat (unpassed s.taken ms)) ≡ length (concat (drop s.message ms)) = ap (λ l. length (concat l)) rest in
    let prefix : length (concat ms) - length (concat (unpassed s.taken ms)) ≡ length (concat (take s.message ms)) = omega (arith, len, split_at ms s.message) in
    record {
      rest = rest;
      left = omega (arith, prefix, at.sum);
      none = ap (λ n. n == 0) prefix ∙ none_before ms s.message sized at.within;
    }

-- where the passed messages are gone, a spot stands in the first message
pub spot_rest : (ms : List (List ℕ)) (k o : ℕ) → IsInFirst o (drop k ms) → IsSpot (drop k ms) 0 o o
spot_rest ms k o first = record { within = omega arith; sum = sym (zero-add o); first = first }

first_within : (ms : List (List ℕ)) (o : ℕ) → IsInFirst o ms → o ≤ length (concat ms)
first_within [] o first = omega (arith, first)
first_within (m ∷ ms) o first = omega (arith, first, length-append m (concat ms))

pub spot_in_text : (ms : List (List ℕ)) (s : Spot) → IsAt ms s → s.taken ≤ length (concat ms)
spot_in_text ms s at = omega (arith, at.sum, split_at ms s.message, first_within (drop s.message ms) s.offset at.first)

-- what stands from a spot's message on isn't passed
pub rest_at : (ms : List (List ℕ)) (s : Spot) → IsAt ms s → drop s.message ms ≡ unpassed s.taken ms
rest_at ms s at = sym (ap (λ n. unpassed n ms) at.sum ∙ unpassed_there ms s.message s.offset at.within at.first)

-- an open row's spot, as a contract sees it, and among the messages
from_found : (row : ℕ) (cs : List Cursor) → option_map (λ s. s.taken) (option_map (λ c. c.spot) (find (λ c. c.row == row) cs)) ≡ taken_uncommitted row (map seen_cursor cs)
from_found row [] = refl
from_found row (c ∷ cs) =
    elim (c.row == row) as (λ b. option_map (λ s. s.taken) (option_map (λ x. x.spot) (if b then Some c else find (λ x. x.row == row) cs)) ≡ option_map (λ x. x.taken) (if b then Some (seen_cursor c) else find (λ x. x.row == row) (map seen_cursor cs)))
    [ true ↦ refl | false ↦ from_found row cs ]

pub spot_taken : (row : ℕ) (cs : List Cursor) (committed : Option Committed) → option_map (λ s. s.taken) (spot_from row cs committed) ≡ taken_from row (map seen_cursor cs) (option_map seen_committed committed)
spot_taken row cs None = from_found row cs
spot_taken row cs (Some c) =
    elim (c.is_open && (c.cursor.row == row)) as (λ b. option_map (λ s. s.taken) (spot_or (if b then Some c.cursor.spot else None) (find (λ x. x.row == row) cs)) ≡ (if b then Some c.cursor.spot.taken else taken_uncommitted row (map seen_cursor cs)))
    [ true ↦ refl | false ↦ from_found row cs ]

at_found : (ms : List (List ℕ)) (row : ℕ) (cs : List Cursor) → CursorsAreAt ms cs → IfSome (option_map (λ c. c.spot) (find (λ c. c.row == row) cs)) (IsAt ms)
at_found ms row [] at = tt
at_found ms row (c ∷ cs) at =
    elim (c.row == row) as (λ b. IfSome (option_map (λ x. x.spot) (if b then Some c else find (λ x. x.row == row) cs)) (IsAt ms))
    [ true ↦ at.0 | false ↦ at_found ms row cs at.1 ]

pub spot_is_at : (ms : List (List ℕ)) (row : ℕ) (cs : List Cursor) (committed : Option Committed) → IsSound ms cs committed → IfSome (spot_from row cs committed) (IsAt ms)
spot_is_at ms row cs None sound = at_found ms row cs sound.spots
spot_is_at ms row cs (Some c) sound =
    elim (c.is_open && (c.cursor.row == row)) as (λ b. IfSome (spot_or (if b then Some c.cursor.spot else None) (find (λ x. x.row == row) cs)) (IsAt ms))
    [ true ↦ sound.first.0 | false ↦ at_found ms row cs sound.spots ]

-- the call is committed to a row
pub committed_is : (b : Buffered) (row : ℕ) (s : Spot) → MessagesAreSized b.messages → IsAt b.messages s
    → record { messages = unpassed s.taken b.messages; cursors = []; committed = Some (record { row = row; taken = s.offset; is_open = true }); is_whole = b.is_whole && (s.message == 0) } ≡ committed_at row s.taken b
committed_is b row s sized at =
    let p = passed_at b.messages s sized at in
    let M : ℕ → Bool → Buffered = λ t w. record { messages = unpassed s.taken b.messages; cursors = []; committed = Some (record { row = row; taken = t; is_open = true }); is_whole = b.is_whole && w } in
    ap (λ t. M t (s.message == 0)) (sym p.left) ∙ ap (M (s.taken - (length (concat b.messages) - length (concat (unpassed s.taken b.messages))))) (sym p.none)

-- the parts of what a contract sees, one by one
pub seen_is : (ms ms' : List (List ℕ)) (cs cs' : List Cursor) (o o' : Option Committed) (w w' : Bool) → ms ≡ ms' → cs ≡ cs' → o ≡ o' → w ≡ w'
    → ◌≡◌ {A = Buffered} (record { messages = ms; cursors = map seen_cursor cs; committed = option_map seen_committed o; is_whole = w }) (record { messages = ms'; cursors = map seen_cursor cs'; committed = option_map seen_committed o'; is_whole = w' })
seen_is ms ms' cs cs' o o' w w' e1 e2 e3 e4 =
    let M : List (List ℕ) → List Cursor → Option Committed → Bool → Buffered = λ a b c d. record { messages = a; cursors = map seen_cursor b; committed = option_map seen_committed c; is_whole = d } in
    ap (λ a. M a cs o w) e1 ∙ ap (λ b. M ms' b o w) e2 ∙ ap (λ c. M ms' cs' c w) e3 ∙ ap (M ms' cs' o') e4

pub sound_committed : (ms : List (List ℕ)) (s : Spot) (row : ℕ) → MessagesAreSized ms → IsAt ms s → length (concat ms) ≤ 8454153
    → IsSound (unpassed s.taken ms) [] (Some (record { cursor = record { row = row; spot = record { message = 0; offset = s.offset; taken = s.offset } }; is_open = true }))
sound_committed ms s row sized at le =
    let P : List (List ℕ) → Type 0 = λ l. IsSound l [] (Some (record { cursor = record { row = row; spot = record { message = 0; offset = s.offset; taken = s.offset } }; is_open = true })) in
    subst P (rest_at ms s at) (record {
      sized = sized_rest ms s.message sized;
      spots = tt;
      first = (spot_rest ms s.message s.offset at.first, refl);
      fits = omega (arith, split_at ms s.message, le);
      alone = λ h. refl;
    })

-- one message more
pub sound_more : (ms : List (List ℕ)) (m : List ℕ) (cs : List Cursor) (o : Option Committed) → IsSound ms cs o → 0 < length m → length m ≤ 4194309 → length (concat ms) + length m ≤ most_bytes o → IsSound (ms ++ m ∷ []) cs o
sound_more ms m cs None sound filled short room = record {
  sized = sized_more ms m sound.sized filled short;
  spots = spots_more ms m cs filled sound.spots;
  first = tt;
  fits = omega (arith, bytes_more ms m, room);
  alone = tt;
}
sound_more ms m cs (Some c) sound filled short room = record {
  sized = sized_more ms m sound.sized filled short;
  spots = spots_more ms m cs filled sound.spots;
  first = (spot_more ms m c.cursor.spot filled sound.first.0, sound.first.1);
  fits = omega (arith, bytes_more ms m, room);
  alone = sound.alone;
}

pub most_is : (o : Option Committed) → most_bytes o ≡ (if is_some (option_map seen_committed o) then 8454153 else 262144)
most_is None = refl
most_is (Some c) = refl

-- where a committed row is open, no other one is
pub alone_kept : (f : List Cursor → List Cursor) (cs : List Cursor) (o : Option Committed) → f [] ≡ [] → IfSome o (λ c. c.is_open ≡ true → cs ≡ []) → IfSome o (λ c. c.is_open ≡ true → f cs ≡ [])
alone_kept f cs None e alone = tt
alone_kept f cs (Some c) e alone = λ h. ap f (alone h) ∙ e

pub alone_opened : (whole other : Bool) (cs : List Cursor) (o : Option Committed) → (whole && not (option_map_or (λ c. c.is_open) (option_map seen_committed o) false) && other) ≡ true → IfSome o (λ c. c.is_open ≡ true → cs ≡ [])
alone_opened whole other cs None can = tt
alone_opened whole other cs (Some c) can = λ h.
    let closed : not c.is_open ≡ true = (and_parts whole (not c.is_open) (and_parts (whole && not c.is_open) other can).0).1 in
    absurd (false≢true (sym (not-true c.is_open closed) ∙ h))

pub closed_else : (row : ℕ) (b : Buffered) → is_committed_row row b.committed ≡ false → ◌≡◌ {A = Buffered} (record b { cursors = filter (λ c. not (c.row == row)) b.cursors }) (closed row b)
closed_else row b h = sym (ap (λ t. if t then record b { committed = option_map shut b.committed } else record b { cursors = filter (λ c. not (c.row == row)) b.cursors }) h)

-- a row that has taken more
pub taken_then : (row taken : ℕ) (b : Buffered) → is_committed_row row b.committed ≡ true → committed_at row taken b ≡ taken_to row taken b
taken_then row taken b h = sym (ap (λ t. if t then committed_at row taken b else record b { cursors = moved row taken b.cursors }) h)

pub taken_else : (row taken : ℕ) (b : Buffered) → is_committed_row row b.committed ≡ false → ◌≡◌ {A = Buffered} (record b { cursors = moved row taken b.cursors }) (taken_to row taken b)
taken_else row taken b h = sym (ap (λ t. if t then committed_at row taken b else record b { cursors = moved row taken b.cursors }) h)

-- what an open row has still to send
pub left_is : (row taken : ℕ) (b : Buffered) → taken_by row b ≡ Some taken → left_of row b ≡ drop taken (text_of b)
left_is row taken b e = ap (λ o. option_map_or (λ t. drop t (text_of b)) o []) e

pub uncommitted_most : (o : Option Committed) → option_map seen_committed o ≡ None → most_bytes o ≡ 262144
uncommitted_most None h = refl
uncommitted_most (Some c) h = absurd (let no : ⊥ = (cc) in no)

-- what a vector has, where a slice of all of it was changed
pub back_whole : (new items : List Cursor) (n : ℕ) → n ≡ length new → take n (new ++ drop (length new) items) ≡ new
back_whole new items n e = ap (λ k. take k (new ++ drop (length new) items)) e ∙ take-append_seam new (drop (length new) items)

-- what isn't passed is no longer than all
unpassed_short : (taken : ℕ) (ms : List (List ℕ)) → length (concat (unpassed taken ms)) ≤ length (concat ms)
unpassed_short taken [] = omega arith
unpassed_short taken (m ∷ ms) =
    elim (nat_le (length m) taken) as (λ b. length (concat (if b then unpassed (taken - length m) ms else m ∷ ms)) ≤ length (m ++ concat ms))
    [ true ↦ omega (arith, unpassed_short (taken - length m) ms, length-append m (concat ms)) | false ↦ omega arith ]

-- the text from a place on is the same, whether the messages that are passed there are held or given up
pub text_unpassed : (taken : ℕ) (ms : List (List ℕ)) → drop (taken - (length (concat ms) - length (concat (unpassed taken ms)))) (concat (unpassed taken ms)) ≡ drop taken (concat ms)
text_unpassed taken [] = ap (λ n. drop {A = ℕ} n []) (omega arith)
text_unpassed taken (m ∷ ms) =
    elim (cases_lt taken (length m)) [
      | inl more ↦
          let test : nat_le (length m) taken ≡ false = grind (arith, nat_tests) in
          let all : unpassed taken (m ∷ ms) ≡ m ∷ ms = ap (λ b. if b then unpassed (taken - length m) ms else m ∷ ms) test in
          let T : List (List ℕ) → List ℕ = λ l. drop (taken - (length (m ++ concat ms) - length (concat l))) (concat l) in
          ap T all ∙ ap (λ n. drop n (m ++ concat ms)) (omega arith)
      | inr past ↦
          let test : nat_le (length m) taken ≡ true = grind (arith, nat_tests) in
          let rest = unpassed (taken - length m) ms in
          let fewer : unpassed taken (m ∷ ms) ≡ rest = ap (λ b. if b then rest else m ∷ ms) test in
          let T : List (List ℕ) → List ℕ = λ l. drop (taken - (length (m ++ concat ms) - length (concat l))) (concat l) in
          let less : taken - (length (m ++ concat ms) - length (concat rest)) ≡ (taken - length m) - (length (concat ms) - length (concat rest)) = omega (arith, length-append m (concat ms), unpassed_short (taken - length m) ms, past) in
          let whole : length m + (taken - length m) ≡ taken = omega (arith, past) in
          ap T fewer ∙ ap (λ n. drop n (concat rest)) less ∙ text_unpassed (taken - length m) ms
          ∙ sym (drop-append-add m (concat ms) (taken - length m)) ∙ ap (λ n. drop n (m ++ concat ms)) whole
    ]
