-- What is done to a buffer leaves it sound, for a call that is committed to a row or to none.
use Rattle.std.proofs.Common.{◌≡◌, ◌+◌, ◌-◌, ◌≤◌, ◌∷◌, ◌&&◌, ◌==◌, ◌++◌, ◌⊎◌, inl, inr, not, ap, arith, length-append, refl, subst, sym, ◌∙◌, Bool, true, false, List, [], Option, None, Some, ℕ, cond, filter, if◌then◌else◌, is_some, length, nat_le}
use Rattle.std.proofs.Math.Nat.{le_refl}
use Rattle.std.proofs.lemmas.Bool.{both_ways, eq-eqb, eqb-true}
use Rattle.std.specs.List.{concat, find}
use Rattle.std.specs.Option.{option_map, option_map_or, option_or}
use Rattle.attempt_buffer.proofs.LeftLaws.{IsAlone}
use Rattle.attempt_buffer.specs.Buffers.{Buffered, Committed, Cursor, after_taking, appended, can_open, closed, committed_at, committed_to, is_committed_row, is_open, moved, opened, shut, taken_by, taken_from, taken_to, taken_uncommitted, text_of, unpassed}
use Rattle.call_core.specs.Parts.{begun_row, can_feed, committed_buffer, fed_buffer, names, opened_row}
use Rattle.call_core.specs.Steps.{fresh_buffer}
use Rattle.channel_actions.proofs.Drains.Calls.Feeds.{IsFedFrom, IsKeptGoing, IsWithin, fed_one}

-- held from the first byte on, and no more than is kept for attempts to come
pub record IsFree (b : Buffered) : Type 0 where
  pub whole : b.is_whole ≡ true
  pub low : length (text_of b) ≤ 262144

-- of a call that is committed to this row, or to none
pub record IsSoundFor (c : Option ℕ) (b : Buffered) : Type 0 where
  pub within : IsWithin b
  pub alone : (m : Committed) → b.committed ≡ Some m → b.cursors ≡ []
  pub kept : (m : Committed) → b.committed ≡ Some m → is_some c ≡ true
  pub row : (m : Committed) → b.committed ≡ Some m → m.is_open ≡ true → c ≡ Some m.row
  pub free : c ≡ None → IsFree b

-- of one that is committed there is nothing to show of that
pub taken : (row : ℕ) (b : Buffered) → Some row ≡ None → IsFree b
taken row b e = absurd (let bad : Some row ≡ None = e in (cc))

back : (c d : Option ℕ) → (is_some c ≡ true → is_some d ≡ true) → d ≡ None → c ≡ None
back None d turn e = refl
back (Some n) None turn e = absurd (let bad : false ≡ true = turn refl in (cc))
back (Some n) (Some m) turn e = absurd (let bad : Some m ≡ None = e in (cc))

-- nothing is held for one row alone
pub free : (c : Option ℕ) (b : Buffered) → b.committed ≡ None → IsWithin b → (c ≡ None → IsFree b) → IsSoundFor c b
free c b none within low = record {
  within = within;
  alone = λ m e. absurd (let bad : None ≡ Some m = sym none ∙ e in (cc));
  kept = λ m e. absurd (let bad : None ≡ Some m = sym none ∙ e in (cc));
  row = λ m e goes. absurd (let bad : None ≡ Some m = sym none ∙ e in (cc));
  free = low;
}

pub fresh : (c : Option ℕ) → IsSoundFor c fresh_buffer
fresh c = free c fresh_buffer refl (λ row taken e. absurd (cc)) (λ e. record { whole = refl; low = omega arith })

-- where the call is not committed, neither is its buffer
pub uncommitted : (b : Buffered) → IsSoundFor None b → (o : Option Committed) → b.committed ≡ o → o ≡ None
uncommitted b is None e = refl
uncommitted b is (Some m) e = absurd (let bad : false ≡ true = is.kept m e in (cc))

-- a committed row
shorter_by : (taken : ℕ) (m : List ℕ) (ms : List (List ℕ)) (b : Bool) → length (concat (unpassed (taken - length m) ms)) ≤ length (concat ms)
    → length (concat (if b then unpassed (taken - length m) ms else m ∷ ms)) ≤ length (concat (m ∷ ms))
shorter_by taken m ms true less =
    let whole : length (concat (m ∷ ms)) ≡ length m + length (concat ms) = length-append m (concat ms) in omega (arith, less, whole)
shorter_by taken m ms false less = le_refl (length (concat (m ∷ ms)))

pub shorter : (taken : ℕ) (ms : List (List ℕ)) → length (concat (unpassed taken ms)) ≤ length (concat ms)
shorter taken [] = le_refl 0
shorter taken (m ∷ ms) = shorter_by taken m ms (nat_le (length m) taken) (shorter (taken - length m) ms)

taken_only : (n t : ℕ) (b : Bool) → (if true && b then Some n else None) ≡ Some t → t ≡ n
taken_only n t true e = (let one : n ≡ t = (cc) in sym one)
taken_only n t false e = absurd (cc)

pub at_row : (row n : ℕ) (b : Buffered) → n ≤ length (text_of b) → IsSoundFor (Some row) (committed_at row n b)
at_row row n b low =
    let rest : List (List ℕ) = unpassed n b.messages in
    let less : length (concat rest) ≤ length (text_of b) = shorter n b.messages in
    let now : ℕ = n - (length (text_of b) - length (concat rest)) in
    record {
      within = λ k t e.
          let one : t ≡ now = taken_only now t (row == k) e in
          subst (λ (v : ℕ). v ≤ length (concat rest)) (sym one) (let small : now ≤ length (concat rest) = omega (arith, less, low) in small);
      alone = λ m e. refl;
      kept = λ m e. refl;
      row = λ m e goes. (let one : record { row = row; taken = now; is_open = true } ≡ m = (cc) in ap (λ (z : Committed). Some z.row) one);
      free = λ e. taken row (committed_at row n b) e;
    }

pub to_row : (row : ℕ) (b : Buffered) (o : Option ℕ) → taken_by row b ≡ o → is_some o ≡ true → IsWithin b
    → IsSoundFor (Some row) (option_map_or (λ (taken : ℕ). committed_at row taken b) o b)
to_row row b None e some within = absurd (cc)
to_row row b (Some taken) e some within = at_row row taken b (within row taken e)

-- the call is committed to a row, where it was not
pub commits_so : (row : ℕ) (b : Buffered) (q : Bool) → is_open row b ≡ q → b.committed ≡ None → IsWithin b → IsSoundFor (Some row) (if q then committed_to row b else b)
commits_so row b true e none within = to_row row b (taken_by row b) refl e within
commits_so row b false e none within = free (Some row) b none within (taken row b)

pub committed_so : (row : ℕ) (b : Buffered) → IsSoundFor None b → IsSoundFor (Some row) (committed_buffer row b)
committed_so row b is = commits_so row b (is_open row b) refl (uncommitted b is b.committed refl) is.within

-- more is held
text_more : (framed : List ℕ) (ms : List (List ℕ)) → length (concat (ms ++ framed ∷ [])) ≡ length (concat ms) + length framed
text_more framed [] = length-append framed []
    ∙ (let e : length framed + 0 ≡ 0 + length framed = omega arith in e)
text_more framed (m ∷ ms) =
    length-append m (concat (ms ++ framed ∷ [])) ∙ ap (λ (n : ℕ). length m + n) (text_more framed ms)
    ∙ (let e : length m + (length (concat ms) + length framed) ≡ (length m + length (concat ms)) + length framed = omega arith in e)
    ∙ sym (ap (λ (n : ℕ). n + length framed) (length-append m (concat ms)))

within_by : (framed : List ℕ) (b : Buffered) (q : Bool) → IsWithin b → IsWithin (if q then b else record b { messages = b.messages ++ framed ∷ [] })
within_by framed b true within = within
within_by framed b false within = λ row n e.
    let low : n ≤ length (text_of b) = within row n e in
    let long : length (concat (b.messages ++ framed ∷ [])) ≡ length (text_of b) + length framed = text_more framed b.messages in omega (arith, low, long)

pub more_within : (framed : List ℕ) (b : Buffered) → IsWithin b → IsWithin (appended framed b)
more_within framed b within = within_by framed b (length framed == 0) within

long_by : (framed : List ℕ) (b : Buffered) (q : Bool)
    → length (text_of (if q then b else record b { messages = b.messages ++ framed ∷ [] })) ≤ length (text_of b) + length framed
long_by framed b true = omega arith
long_by framed b false =
    let long : length (concat (b.messages ++ framed ∷ [])) ≡ length (text_of b) + length framed = text_more framed b.messages in omega (arith, long)

pub more_long : (framed : List ℕ) (b : Buffered) → length (text_of (appended framed b)) ≤ length (text_of b) + length framed
more_long framed b = long_by framed b (length framed == 0)

more_by : (c : Option ℕ) (framed : List ℕ) (b : Buffered) (q : Bool)
    → (c ≡ None → length (text_of (if q then b else record b { messages = b.messages ++ framed ∷ [] })) ≤ 262144) → IsSoundFor c b
    → IsSoundFor c (if q then b else record b { messages = b.messages ++ framed ∷ [] })
more_by c framed b true low is = is
more_by c framed b false low is = record {
  within = within_by framed b false is.within;
  alone = is.alone;
  kept = is.kept;
  row = is.row;
  free = λ e. record { whole = (is.free e).whole; low = low e };
}

pub more : (c : Option ℕ) (framed : List ℕ) (b : Buffered) → (c ≡ None → length (text_of (appended framed b)) ≤ 262144) → IsSoundFor c b → IsSoundFor c (appended framed b)
more c framed b low is = more_by c framed b (length framed == 0) low is

-- a row is closed
none_left : (row k : ℕ) (cs : List Cursor) → (k == row) ≡ true → find (λ (x : Cursor). x.row == k) (filter (λ (x : Cursor). not (x.row == row)) cs) ≡ None
none_left row k [] e = refl
none_left row k (c ∷ cs) e = left_by (c.row == row) (c.row == k) refl refl (none_left row k cs e)
  where
    left_by : (p q : Bool) → (c.row == row) ≡ p → (c.row == k) ≡ q → find (λ (x : Cursor). x.row == k) (filter (λ (x : Cursor). not (x.row == row)) cs) ≡ None
        → find (λ (x : Cursor). x.row == k) (cond (not p) (c ∷ filter (λ (x : Cursor). not (x.row == row)) cs) (filter (λ (x : Cursor). not (x.row == row)) cs)) ≡ None
    left_by true q f g rest = rest
    left_by false false f g rest = ap (λ (b : Bool). cond b (Some c) (find (λ (x : Cursor). x.row == k) (filter (λ (x : Cursor). not (x.row == row)) cs))) g ∙ rest
    left_by false true f g rest =
        absurd (both_ways (c.row == row) f (eq-eqb c.row row (eqb-true c.row k g ∙ eqb-true k row e)))

same_left : (row k : ℕ) (cs : List Cursor) → (k == row) ≡ false
    → find (λ (x : Cursor). x.row == k) (filter (λ (x : Cursor). not (x.row == row)) cs) ≡ find (λ (x : Cursor). x.row == k) cs
same_left row k [] e = refl
same_left row k (c ∷ cs) e = same_by (c.row == row) refl (same_left row k cs e)
  where
    off_by : (q : Bool) → (c.row == k) ≡ q → (c.row == row) ≡ true → q ≡ false
    off_by false g f = refl
    off_by true g f = absurd (both_ways (k == row) e (eq-eqb k row (sym (eqb-true c.row k g) ∙ eqb-true c.row row f)))

    same_by : (p : Bool) → (c.row == row) ≡ p
        → find (λ (x : Cursor). x.row == k) (filter (λ (x : Cursor). not (x.row == row)) cs) ≡ find (λ (x : Cursor). x.row == k) cs
        → find (λ (x : Cursor). x.row == k) (cond (not p) (c ∷ filter (λ (x : Cursor). not (x.row == row)) cs) (filter (λ (x : Cursor). not (x.row == row)) cs))
        ≡ cond (c.row == k) (Some c) (find (λ (x : Cursor). x.row == k) cs)
    same_by true f rest = rest ∙ sym (ap (λ (b : Bool). cond b (Some c) (find (λ (x : Cursor). x.row == k) cs)) (off_by (c.row == k) refl f))
    same_by false f rest = ap (λ (o : Option Cursor). cond (c.row == k) (Some c) o) rest

left_some : (row k t : ℕ) (cs : List Cursor) (q : Bool) → (k == row) ≡ q → taken_uncommitted k (filter (λ (x : Cursor). not (x.row == row)) cs) ≡ Some t → taken_uncommitted k cs ≡ Some t
left_some row k t cs true e is =
    absurd (let bad : None ≡ Some t = sym (ap (option_map (λ (x : Cursor). x.taken)) (none_left row k cs e)) ∙ is in (cc))
left_some row k t cs false e is = sym (ap (option_map (λ (x : Cursor). x.taken)) (same_left row k cs e)) ∙ is

within_left : (b : Buffered) (row k t : ℕ) (o : Option Committed) → b.committed ≡ o → IsWithin b
    → taken_from k (filter (λ (x : Cursor). not (x.row == row)) b.cursors) o ≡ Some t → t ≤ length (text_of b)
within_left b row k t None e within is =
    within k t (ap (taken_from k b.cursors) e ∙ left_some row k t b.cursors (k == row) refl is)
within_left b row k t (Some m) e within is = by_open (m.is_open && (m.row == k)) refl is
  where
    by_open : (q : Bool) → (m.is_open && (m.row == k)) ≡ q
        → (if q then Some m.taken else taken_uncommitted k (filter (λ (x : Cursor). not (x.row == row)) b.cursors)) ≡ Some t → t ≤ length (text_of b)
    by_open true f is = within k t (ap (taken_from k b.cursors) e ∙ ap (λ (z : Bool). if z then Some m.taken else taken_uncommitted k b.cursors) f ∙ is)
    by_open false f is =
        within k t (ap (taken_from k b.cursors) e ∙ ap (λ (z : Bool). if z then Some m.taken else taken_uncommitted k b.cursors) f ∙ left_some row k t b.cursors (k == row) refl is)

not_row : (row : ℕ) (m : Committed) → is_committed_row row (Some m) ≡ false → m.is_open ≡ true → (m.row == row) ≡ false
not_row row m e goes = by_open m.is_open (m.row == row) goes e
  where
    by_open : (p q : Bool) → p ≡ true → (p && q) ≡ false → q ≡ false
    by_open true q f g = g
    by_open false q f g = absurd (cc)

shut_by : (c d : Option ℕ) (row : ℕ) (b : Buffered) (m : Committed) → b.committed ≡ Some m → (is_some c ≡ true → is_some d ≡ true) → IsSoundFor c b
    → IsSoundFor d (record b { committed = Some (shut m) })
shut_by c d row b m e turn is = record {
  within = λ k t f.
      absurd (let none : taken_uncommitted k b.cursors ≡ None = ap (taken_uncommitted k) (is.alone m e) in let bad : None ≡ Some t = sym none ∙ f in (cc));
  alone = λ n f. is.alone m e;
  kept = λ n f. turn (is.kept m e);
  row = λ n f goes. absurd (let one : shut m ≡ n = (cc) in let bad : false ≡ true = ap (λ (z : Committed). z.is_open) one ∙ goes in (cc));
  free = λ f. let was : IsFree b = is.free (back c d turn f) in record { whole = was.whole; low = was.low };
}

left_by : (c d : Option ℕ) (row : ℕ) (b : Buffered) → is_committed_row row b.committed ≡ false → (is_some c ≡ true → is_some d ≡ true)
    → ((m : Committed) → c ≡ Some m.row → (m.row == row) ≡ false → d ≡ Some m.row) → IsSoundFor c b
    → IsSoundFor d (record b { cursors = filter (λ (x : Cursor). not (x.row == row)) b.cursors })
left_by c d row b off turn stays is = record {
  within = λ k t f. within_left b row k t b.committed refl is.within f;
  alone = λ m e. ap (filter (λ (x : Cursor). not (x.row == row))) (is.alone m e);
  kept = λ m e. turn (is.kept m e);
  row = λ m e goes. stays m (is.row m e goes) (not_row row m (sym (ap (is_committed_row row) e) ∙ off) goes);
  free = λ f. let was : IsFree b = is.free (back c d turn f) in record { whole = was.whole; low = was.low };
}

closed_by : (c d : Option ℕ) (row : ℕ) (b : Buffered) (o : Option Committed) (q : Bool) → b.committed ≡ o → is_committed_row row o ≡ q → (is_some c ≡ true → is_some d ≡ true)
    → ((m : Committed) → c ≡ Some m.row → (m.row == row) ≡ false → d ≡ Some m.row) → IsSoundFor c b
    → IsSoundFor d (if q then record b { committed = option_map shut o } else record b { cursors = filter (λ (x : Cursor). not (x.row == row)) b.cursors })
closed_by c d row b None true e f turn stays is = absurd (cc)
closed_by c d row b (Some m) true e f turn stays is = shut_by c d row b m e turn is
closed_by c d row b o false e f turn stays is = left_by c d row b (ap (is_committed_row row) e ∙ f) turn stays is

pub closed_so : (c d : Option ℕ) (row : ℕ) (b : Buffered) → (is_some c ≡ true → is_some d ≡ true)
    → ((m : Committed) → c ≡ Some m.row → (m.row == row) ≡ false → d ≡ Some m.row) → IsSoundFor c b → IsSoundFor d (closed row b)
closed_so c d row b turn stays is = closed_by c d row b b.committed (is_committed_row row b.committed) refl refl turn stays is

-- a row begins
pub find_on : (p : Cursor → Bool) (xs ys : List Cursor) → find p (xs ++ ys) ≡ option_or (find p xs) (find p ys)
find_on p [] ys = refl
find_on p (x ∷ xs) ys = by_head (p x) (find_on p xs ys)
  where
    by_head : (q : Bool) → find p (xs ++ ys) ≡ option_or (find p xs) (find p ys) → cond q (Some x) (find p (xs ++ ys)) ≡ option_or (cond q (Some x) (find p xs)) (find p ys)
    by_head true e = refl
    by_head false e = e

abbrev pub start : ℕ → Cursor
start row = record { row = row; taken = 0 }

begin_by : (row k t : ℕ) (cs : List Cursor) (o : Option Cursor) (q : Bool) → find (λ (x : Cursor). x.row == k) cs ≡ o → (row == k) ≡ q
    → option_map (λ (x : Cursor). x.taken) (option_or o (cond q (Some (start row)) None)) ≡ Some t → (t ≡ 0) ⊎ (taken_uncommitted k cs ≡ Some t)
begin_by row k t cs None true e f is = inl (let one : 0 ≡ t = (cc) in sym one)
begin_by row k t cs None false e f is = absurd (cc)
begin_by row k t cs (Some x) q e f is = inr (ap (option_map (λ (x : Cursor). x.taken)) e ∙ is)

started : (row k t : ℕ) (cs : List Cursor) → taken_uncommitted k (cs ++ start row ∷ []) ≡ Some t → (t ≡ 0) ⊎ (taken_uncommitted k cs ≡ Some t)
started row k t cs is =
    begin_by row k t cs (find (λ (x : Cursor). x.row == k) cs) (row == k) refl refl
    (sym (ap (option_map (λ (x : Cursor). x.taken)) (find_on (λ (x : Cursor). x.row == k) cs (start row ∷ []))) ∙ is)

low_by : (b : Buffered) (k t : ℕ) → IsWithin b → (t ≡ 0) ⊎ (taken_by k b ≡ Some t) → t ≤ length (text_of b)
low_by b k t within (inl e) = subst (λ (n : ℕ). n ≤ length (text_of b)) (sym e) (omega arith)
low_by b k t within (inr e) = within k t e

started_in : (row k t : ℕ) (cs : List Cursor) (o : Option Committed) → taken_from k (cs ++ start row ∷ []) o ≡ Some t → (t ≡ 0) ⊎ (taken_from k cs o ≡ Some t)
started_in row k t cs None is = started row k t cs is
started_in row k t cs (Some m) is = by_open (m.is_open && (m.row == k)) is
  where
    by_open : (q : Bool) → (if q then Some m.taken else taken_uncommitted k (cs ++ start row ∷ [])) ≡ Some t → (t ≡ 0) ⊎ ((if q then Some m.taken else taken_uncommitted k cs) ≡ Some t)
    by_open true e = inr e
    by_open false e = started row k t cs e

opened_within : (row : ℕ) (b : Buffered) → IsWithin b → IsWithin (opened row b)
opened_within row b within k t e = low_by b k t within (started_in row k t b.cursors b.committed e)

row_within : (row : ℕ) (b : Buffered) (q : Bool) → IsWithin b → IsWithin (if q then opened row b else b)
row_within row b true within = opened_within row b within
row_within row b false within = within

row_free : (row : ℕ) (b : Buffered) (q : Bool) → (if q then opened row b else b).committed ≡ b.committed
row_free row b true = refl
row_free row b false = refl

row_low : (row : ℕ) (b : Buffered) (q : Bool) → IsFree b → IsFree (if q then opened row b else b)
row_low row b true f = record { whole = f.whole; low = f.low }
row_low row b false f = f

-- a row that was just opened is open, where no other one was
open_now : (row : ℕ) (b : Buffered) (m : Committed) → b.committed ≡ Some m → b.cursors ≡ [] → is_open row (opened row b) ≡ true
open_now row b m e none =
    ap (λ (cs : List Cursor). is_some (taken_from row (cs ++ start row ∷ []) b.committed)) none
    ∙ ap (λ (o : Option Committed). is_some (taken_from row (start row ∷ []) o)) e ∙ by_open (m.is_open && (m.row == row))
  where
    own : taken_uncommitted row (start row ∷ []) ≡ Some 0
    own = ap (λ (q : Bool). option_map (λ (x : Cursor). x.taken) (cond q (Some (start row)) None)) (eq-eqb row row refl)

    by_open : (q : Bool) → is_some (if q then Some m.taken else taken_uncommitted row (start row ∷ [])) ≡ true
    by_open true = refl
    by_open false = ap (λ (o : Option ℕ). is_some o) own

-- of a call that is committed to this row
own_by : (row : ℕ) (b : Buffered) (o : Option Committed) (can q : Bool) → b.committed ≡ o → is_open row (if can then opened row b else b) ≡ q → IsSoundFor (Some row) b
    → IsSoundFor (Some row) (if q then committed_to row (if can then opened row b else b) else if can then opened row b else b)
own_by row b o can true e f is =
    to_row row (if can then opened row b else b) (taken_by row (if can then opened row b else b)) refl f (row_within row b can is.within)
own_by row b o false false e f is = is
own_by row b None true false e f is = free (Some row) (opened row b) e (opened_within row b is.within) (taken row (opened row b))
own_by row b (Some m) true false e f is = absurd (both_ways (is_open row (opened row b)) f (open_now row b m e (is.alone m e)))

begun_by : (c : Option ℕ) (row : ℕ) (b : Buffered) → ((place : ℕ) → c ≡ Some place → place ≡ row) → IsSoundFor c b → IsSoundFor c (begun_row row (names row c) b)
begun_by None row b same is =
    free None (opened_row row b) (row_free row b (can_open row b) ∙ uncommitted b is b.committed refl) (row_within row b (can_open row b) is.within)
    (λ e. row_low row b (can_open row b) (is.free e))
begun_by (Some place) row b same is =
    let one : place ≡ row = same place refl in
    subst (λ (q : Bool). IsSoundFor (Some place) (begun_row row q b)) (sym (eq-eqb place row one))
    (subst (λ (n : ℕ). IsSoundFor (Some n) (committed_buffer row (opened_row row b))) (sym one)
    (own_by row b b.committed (can_open row b) (is_open row (opened_row row b)) refl refl (subst (λ (n : ℕ). IsSoundFor (Some n) b) one is)))

pub begun_so : (c : Option ℕ) (row : ℕ) (b : Buffered) → ((place : ℕ) → c ≡ Some place → place ≡ row) → IsSoundFor c b → IsSoundFor c (begun_row row (names row c) b)
begun_so c row b same is = begun_by c row b same is

-- a row takes bytes
alone_for : (c : Option ℕ) (b : Buffered) → IsSoundFor c b → (o : Option Committed) → b.committed ≡ o → IsAlone b.cursors o
alone_for c b is None e = tt
alone_for c b is (Some m) e = λ goes. is.alone m e

fed_cursors : (row n : ℕ) (b : Buffered) (q : Bool) → b.cursors ≡ [] → (if q then committed_at row n b else record b { cursors = moved row n b.cursors }).cursors ≡ []
fed_cursors row n b true none = refl
fed_cursors row n b false none = ap (moved row n) none

taken_cursors : (row len : ℕ) (b : Buffered) (o : Option ℕ) → b.cursors ≡ [] → (option_map_or (λ (t : ℕ). taken_to row (t + len) b) o b).cursors ≡ []
taken_cursors row len b None none = none
taken_cursors row len b (Some t) none = fed_cursors row (t + len) b (is_committed_row row b.committed) none

buffer_cursors : (row len : ℕ) (b : Buffered) (q : Bool) → b.cursors ≡ [] → (if q then after_taking row len b else b).cursors ≡ []
buffer_cursors row len b true none = taken_cursors row len b (taken_by row b) none
buffer_cursors row len b false none = none

whole_by : (row len : ℕ) (b : Buffered) → b.committed ≡ None → (o : Option ℕ) → (option_map_or (λ (t : ℕ). taken_to row (t + len) b) o b).is_whole ≡ b.is_whole
whole_by row len b none None = refl
whole_by row len b none (Some t) =
    ap (λ (o : Option Committed). (if is_committed_row row o then committed_at row (t + len) b else record b { cursors = moved row (t + len) b.cursors }).is_whole) none

fed_whole : (row len : ℕ) (b : Buffered) → b.committed ≡ None → (q : Bool) → (if q then after_taking row len b else b).is_whole ≡ b.is_whole
fed_whole row len b none true = whole_by row len b none (taken_by row b)
fed_whole row len b none false = refl

fed_by : (c : Option ℕ) (row len : ℕ) (b : Buffered) → IsSoundFor c b → IsFedFrom b (fed_buffer row len b) → (o : Option Committed) → b.committed ≡ o → IsSoundFor c (fed_buffer row len b)
fed_by c row len b is from None e =
    free c (fed_buffer row len b) (from.none e).0 from.within
    (λ f.
    let was : IsFree b = is.free f in
    record {
      whole = fed_whole row len b e (can_feed row len b) ∙ was.whole;
      low = subst (λ (l : List ℕ). length l ≤ 262144) (sym (from.none e).1) was.low;
    })
fed_by c row len b is from (Some m) e = open_by m.is_open refl
  where
    open_by : (q : Bool) → m.is_open ≡ q → IsSoundFor c (fed_buffer row len b)
    open_by true goes =
        let k : IsKeptGoing m (fed_buffer row len b).committed = from.going m e goes in
        record {
          within = from.within;
          alone = λ n f. buffer_cursors row len b (can_feed row len b) (is.alone m e);
          kept = λ n f. is.kept m e;
          row = λ n f open_.
              let one : k.committed ≡ n = (let both : Some k.committed ≡ Some n = sym k.is ∙ f in (cc)) in
              is.row m e goes ∙ ap (λ (r : ℕ). Some r) (sym k.row) ∙ ap (λ (z : Committed). Some z.row) one;
          free = λ f. absurd (let bad : false ≡ true = sym (ap (λ (o : Option ℕ). is_some o) f) ∙ is.kept m e in (cc));
        }
    open_by false off =
        let same = from.shut m e off in
        record {
          within = from.within;
          alone = λ n f. buffer_cursors row len b (can_feed row len b) (is.alone m e);
          kept = λ n f. is.kept m e;
          row = λ n f open_.
              absurd (let one : m ≡ n = (let both : Some m ≡ Some n = sym same.0 ∙ f in (cc)) in let bad : false ≡ true = sym off ∙ ap (λ (z : Committed). z.is_open) one ∙ open_ in (cc));
          free = λ f. absurd (let bad : false ≡ true = sym (ap (λ (o : Option ℕ). is_some o) f) ∙ is.kept m e in (cc));
        }

pub fed_so : (c : Option ℕ) (row len : ℕ) (b : Buffered) → IsSoundFor c b → IsSoundFor c (fed_buffer row len b)
fed_so c row len b is = fed_by c row len b is (fed_one row len b (alone_for c b is b.committed refl) is.within) b.committed refl
