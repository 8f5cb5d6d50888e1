-- One more attempt is cut off, or one more stream is reset: the session is left as it was but for the call.
use Rattle.std.proofs.Common.{◌≡◌, ◌+◌, ◌&&◌, ◌==◌, ◌∷◌, ap, arith, refl, subst, sym, ◌∙◌, Bool, true, false, List, [], Option, None, Some, ℕ, zero, suc, filter, is_none, is_some, slice_get}
use Rattle.std.proofs.lemmas.Bool.{both_ways, eqb-false, eqb-true}
use Rattle.std.proofs.lemmas.Bool.Decides.{nat_tests}
use Rattle.std.specs.List.{list_any}
use Rattle.std.specs.Option.{option_and_then, option_map, option_map_or}
use Rattle.attempt_ledger.specs.declared.row.RowEnd.{RowEnd}
use Rattle.call_actions.specs.Order.{AttemptsAreNumbered}
use Rattle.call_actions.proofs.CallsApart.Acts.{apart_joins, others_stay}
use Rattle.call_actions.proofs.CallsApart.Books.{books_stay}
use Rattle.call_actions.specs.CallsApart.Apart.{CallsAreNumbered, IsApart, IsBook}
use Rattle.call_actions.proofs.CallsInTurn.Rows.{ending_keeps}
use Rattle.call_actions.specs.CallsInTurn.Turns.{StaysSteady, waits as waits_for}
use Rattle.call_cases.proofs.EndsFollow.Codes.{ended_code, reset_code}
use Rattle.call_cases.proofs.EndsFollow.Cuts.{IsOneCut, place_suc}
use Rattle.call_cases.proofs.EndsFollow.Stays.{IsBase, IsLeft, final_still, row_still, unfollowed}
use Rattle.call_cases.proofs.EndsFollow.Streams.{IsForemost, by_stream_order, is_foremost}
use Rattle.call_cases.specs.EndsFollow.Cuts.{cut_off}
use Rattle.link_actions.specs.Sees.{AttemptsStandInPlace}
use Rattle.session_actions.specs.Actions.{after, after_if}
use Rattle.session_actions.specs.AttemptEnds.{cut_end, end_of, next_reset, reset_code_of, reset_of, stream_reset, stream_reset_of, with_end, with_reset_queued}
use Rattle.session_actions.specs.Attempts.{wants_follower}
use Rattle.session_actions.specs.Entries.{now}
use Rattle.session_actions.specs.Links.{is_stream_before}
use Rattle.session_actions.specs.Words.{changed, foremost, is_number, numbered}
use Rattle.session_actions.specs.declared.action.Action.{Action}
use Rattle.session_actions.specs.declared.action.Action.TheVariants as action
use Rattle.session_actions.specs.declared.attempt.Attempt.{Attempt}
use Rattle.session_actions.specs.declared.call.Call.{Call}
use Rattle.session_actions.specs.declared.entry.OpenEntry.{OpenEntry}
use Rattle.session_actions.specs.declared.seen.Seen.{Seen}
use Rattle.session_order.proofs.AttemptDone.{attempt_leaves}
use Rattle.session_order.proofs.Changed.{changed_away, changed_here, none_from, passes_not}
use Rattle.session_order.proofs.StreamResets.{reset_leaves}
use Rattle.session_order.specs.Quiescent.{IsStill}
use Rattle.session_order.specs.Lines.{is_line}
use Rattle.session_order.specs.Stirs.{stirs}
use Rattle.session_order.specs.declared.line.Line.{Line}
use Rattle.session_order.specs.declared.line.Line.TheVariants as line
use Rattle.call_actions.proofs.TakeActions.CutAttempts.{ended_mark}
use Rattle.call_actions.proofs.TakeActions.CutOne.{marked_also}

-- what is kept in mid of it
pub record IsMid (waits : Line → Bool) (n : ℕ) (o : OpenEntry) (b v : Seen) : Type 0 where
  pub current : v.current ≡ Some o
  pub book : IsBook v
  pub left : IsLeft n b v
  pub steady : StaysSteady v n
  pub still : (l : Line) → is_line l line.Cut ≡ false → is_line l line.Reset ≡ false → waits l ≡ false → IsStill l o v

-- and once no attempt is left to be cut off
pub record IsReset (waits : Line → Bool) (n : ℕ) (o : OpenEntry) (b v : Seen) : Type 0 where
  pub current : v.current ≡ Some o
  pub book : IsBook v
  pub left : IsLeft n b v
  pub still : (l : Line) → is_line l line.Reset ≡ false → waits l ≡ false → IsStill l o v

pub placed_of : (k : ℕ) (xs : List Attempt) → AttemptsAreNumbered k xs → AttemptsStandInPlace k xs
placed_of k [] p = tt
placed_of k (a ∷ xs) p = (p.0, subst (λ (j : ℕ). AttemptsStandInPlace j xs) (let e : suc k ≡ k + 1 = omega arith in e) (placed_of (suc k) xs p.1))

other_call : (m n d : ℕ) → (m == n) ≡ true → (d == n) ≡ false → (m == d) ≡ false
other_call m n d e f = grind (arith, nat_tests, e, f)

away_from : (k m n : ℕ) → (k == n) ≡ false → m ≡ n → k ≡ m → ⊥
away_from k m n e f g = grind (arith, nat_tests, e, f, g)

-- a thing of a list of which one was changed
at_by : {X : Type 0} (f : X → X) (k p : ℕ) (xs : List X) (y x : X) (q : Bool) → (p == k) ≡ q → numbered xs k ≡ Some y → numbered (changed f k xs) p ≡ Some x
    → (q ≡ true → x ≡ f y) × (q ≡ false → numbered xs p ≡ Some x)
at_by f k p xs y x true e there at =
    let two : Some x ≡ Some (f y) = sym at ∙ ap (numbered (changed f k xs)) (eqb-true p k e) ∙ changed_here f k xs y there in
    ((λ h. let one : x ≡ f y = (cc) in one), (λ h. absurd (cc)))
at_by f k p xs y x false e there at = ((λ h. absurd (cc)), (λ h. sym (changed_away f k p xs (eqb-false p k e)) ∙ at))

-- calls have the numbers of their places
number_from : (k i : ℕ) (xs : List Call) (c : Call) → CallsAreNumbered k xs → slice_get xs i ≡ Some c → c.number ≡ k + i
number_from k i [] c p e = absurd (cc)
number_from k zero (x ∷ xs) c p e = let same : c ≡ x = (cc) in ap (λ (y : Call). y.number) same ∙ p.0 ∙ (let up : k ≡ k + 0 = omega arith in up)
number_from k (suc i) (x ∷ xs) c p e = number_from (suc k) i xs c p.1 e ∙ (let up : suc k + i ≡ k + suc i = omega arith in up)

pub call_number : (n : ℕ) (xs : List Call) (c : Call) → CallsAreNumbered 1 xs → numbered xs n ≡ Some c → c.number ≡ n
call_number zero xs c p e = absurd (cc)
call_number (suc i) xs c p e = number_from 1 i xs c p e ∙ (let up : 1 + i ≡ suc i = omega arith in up)

-- one more is cut off
module _ (waits : Line → Bool) (n : ℕ) (o : OpenEntry) (b v : Seen) (base : IsBase n b) (mid : IsMid waits n o b v) (act : Action) (one : IsOneCut n v act o) where
  abbrev a : Attempt
  a = one.attempt

  abbrev u : Seen
  u = cut_off a v

  abbrev end : RowEnd
  end = end_of a cut_end v

  places : AttemptsStandInPlace 1 v.attempts
  places = placed_of 1 v.attempts mid.book.places

  of_it : a.row.call ≡ n
  of_it = eqb-true a.row.call n one.own

  attempts_are : u.attempts ≡ changed (with_end one.end) a.place v.attempts
  attempts_are = ap (λ (z : Seen). z.attempts) one.after_is

  calls_are : u.calls ≡ changed (marked_also (ended_mark (now v) a)) a.row.call v.calls
  calls_are = ap (λ (z : Seen). z.calls) one.after_is

  book_cut : IsBook u
  book_cut =
      subst IsBook (ap (λ (z : Action). after z v) (sym one.act_is) ∙ one.does)
      (books_stay v (action.AttemptEnds a.place end) mid.book (λ x at. going x at))
    where
      ends_not : (p q : Bool) → (p && q) ≡ true → q ≡ true
      ends_not true q e = e
      ends_not false q e = absurd (cc)

      none_by : (x : Attempt) → x ≡ a → is_none x.row.ended ≡ true
      none_by x same = ap (λ (y : Attempt). is_none y.row.ended) same ∙ ends_not (is_some a.row.placed) (is_none a.row.ended) one.out.outstanding

      going : (x : Attempt) → numbered v.attempts a.place ≡ Some x → is_none x.row.ended ≡ true
      going x at = let two : Some x ≡ Some a = sym at ∙ one.out.there in let same : x ≡ a = (cc) in none_by x same

  apart_one : (d : Call) → numbered b.calls d.number ≡ Some d → (d.number == n) ≡ false → IsApart v u d
  apart_one d own off =
      subst (λ (z : Seen). IsApart v z d) (ap (λ (z : Action). after z v) (sym one.act_is) ∙ one.does)
      (others_stay v d (action.AttemptEnds a.place end) mid.book (mid.left.calls d.number off ∙ own)
      (ap (λ (x : Option Attempt). is_number d.number (option_map (λ (y : Attempt). y.row.call) x)) one.out.there ∙ other_call a.row.call n d.number one.own off))

  rows_by : (p : ℕ) (x : Attempt) → numbered u.attempts p ≡ Some x → (x.row.call == n) ≡ false → numbered v.attempts p ≡ Some x
  rows_by p x at off = row_by (p == a.place) refl
    where
      row_by : (q : Bool) → (p == a.place) ≡ q → numbered v.attempts p ≡ Some x
      row_by true e =
          let same : x ≡ with_end one.end a
          = (at_by (with_end one.end) a.place p v.attempts a x true e one.out.there (sym (ap (λ (xs : List Attempt). numbered xs p) attempts_are) ∙ at)).0 refl in
          absurd (both_ways (a.row.call == n) (sym (ap (λ (y : Attempt). y.row.call == n) same) ∙ off) one.own)
      row_by false e =
          (at_by (with_end one.end) a.place p v.attempts a x false e one.out.there (sym (ap (λ (xs : List Attempt). numbered xs p) attempts_are) ∙ at)).1 refl

  pub left_cut : IsLeft n b u
  left_cut = record {
    done = record {
      call = marked_also (ended_mark (now v) a) mid.left.done.call;
      there = ap (λ (cs : List Call). numbered cs n) (calls_are ∙ ap (λ (k : ℕ). changed (marked_also (ended_mark (now v) a)) k v.calls) of_it)
          ∙ changed_here (marked_also (ended_mark (now v) a)) n v.calls mid.left.done.call mid.left.done.there;
      ended = mid.left.done.ended;
    };
    apart = λ d own off. apart_joins b v u d (mid.left.apart d own off) (apart_one d own off);
    calls = λ k off. ap (λ (cs : List Call). numbered cs k) calls_are
        ∙ changed_away (marked_also (ended_mark (now v) a)) a.row.call k v.calls (away_from k a.row.call n off of_it) ∙ mid.left.calls k off;
    rows = λ p x at off. mid.left.rows p x (rows_by p x at off) off;
    codes = λ p x at off. ended_code v a.place a end places one.out.there x ∙ mid.left.codes p x (rows_by p x at off) off;
  }

  current_cut : u.current ≡ Some o
  current_cut = ap (λ (z : Seen). z.current) one.after_is

  pub steady_cut : StaysSteady u n
  steady_cut =
      let c : Call = mid.steady.call in
      let number : c.number ≡ n = call_number n v.calls c mid.book.calls mid.steady.own in
      subst (StaysSteady u) number
      (ending_keeps v c a.place a end mid.book book_cut
      (record {
        own = ap (numbered v.calls) number ∙ mid.steady.own;
        there = one.out.there;
        mine = ap (λ (k : ℕ). a.row.call == k) number ∙ one.own;
      }) (ended_not (is_some a.row.placed) (is_none a.row.ended) one.out.outstanding) refl mid.steady.steady)
    where
      ended_not : (p q : Bool) → (p && q) ≡ true → q ≡ true
      ended_not true q e = e
      ended_not false q e = absurd (cc)

  leaves : (l : Line) → stirs (action.AttemptEnds a.place end) l ≡ false → IsStill l o v → IsStill l o u
  leaves l off h = attempt_leaves a.place end o v mid.current tt l o current_cut off h

  steady_quiescent : (p : ℕ) (x : Attempt) (q : Bool) → (x.row.call == n) ≡ q → numbered u.attempts p ≡ Some x → wants_follower x u ≡ false
  steady_quiescent p x false e at = unfollowed n b u base left_cut p x at e
  steady_quiescent p x true e at =
      let number : steady_cut.call.number ≡ n = call_number n u.calls steady_cut.call book_cut.calls steady_cut.own in
      second (x.row.call == steady_cut.call.number) (wants_follower x u) (ap (λ (k : ℕ). x.row.call == k) number ∙ e)
      (passes_not (waits_for u steady_cut.call) u.attempts p x steady_cut.steady.quiescent at)
    where
      second : (c d : Bool) → c ≡ true → (c && d) ≡ false → d ≡ false
      second true d e h = h
      second false d e h = absurd (cc)

  transparent_cut : list_any (λ (x : Attempt). wants_follower x u) u.attempts ≡ false
  transparent_cut = none_from (λ (x : Attempt). wants_follower x u) u.attempts (λ p x at. steady_quiescent p x (x.row.call == n) refl at)

  still_cut : (l : Line) → is_line l line.Cut ≡ false → is_line l line.Reset ≡ false → waits l ≡ false → IsStill l o u
  still_cut line.Cut e f w = absurd (cc)
  still_cut line.Transparent e f w = transparent_cut
  still_cut line.Inherited e f w = leaves line.Inherited refl (mid.still line.Inherited refl refl w)
  still_cut line.Row e f w = row_still n b u base left_cut
  still_cut line.Final e f w = final_still n b u base left_cut
  still_cut line.Cancelled e f w = leaves line.Cancelled refl (mid.still line.Cancelled refl refl w)
  still_cut line.Request e f w = leaves line.Request refl (mid.still line.Request refl refl w)
  still_cut line.Overflow e f w = leaves line.Overflow refl (mid.still line.Overflow refl refl w)
  still_cut line.Head e f w = leaves line.Head refl (mid.still line.Head refl refl w)
  still_cut line.Response e f w = leaves line.Response refl (mid.still line.Response refl refl w)
  still_cut line.Pick e f w = leaves line.Pick refl (mid.still line.Pick refl refl w)
  still_cut line.Link e f w = leaves line.Link refl (mid.still line.Link refl refl w)
  still_cut line.WireEnd e f w = leaves line.WireEnd refl (mid.still line.WireEnd refl refl w)
  still_cut line.Reset e f w = absurd (cc)
  still_cut line.Shut e f w = leaves line.Shut refl (mid.still line.Shut refl refl w)
  still_cut line.Retire e f w = leaves line.Retire refl (mid.still line.Retire refl refl w)
  still_cut line.Begin e f w = leaves line.Begin refl (mid.still line.Begin refl refl w)
  still_cut line.Give e f w = leaves line.Give refl (mid.still line.Give refl refl w)
  still_cut line.Drop e f w = leaves line.Drop refl (mid.still line.Drop refl refl w)
  still_cut line.Add e f w = leaves line.Add refl (mid.still line.Add refl refl w)

  pub mid_cut : IsMid waits n o b u
  mid_cut = record { current = current_cut; book = book_cut; left = left_cut; steady = steady_cut; still = still_cut }

-- the next reset is of an attempt of the call
pub record IsOneReset (n : ℕ) (v : Seen) (act : Action) : Type 0 where
  pub attempt : Attempt
  pub number : ℕ
  pub there : numbered v.attempts attempt.place ≡ Some attempt
  pub own : (attempt.row.call == n) ≡ true
  pub act_is : act ≡ action.StreamReset attempt.place number

code_by : (v : Seen) (a : Attempt) (act : Action) (c : Option ℕ) → reset_code_of v a ≡ c → option_map (λ (number : ℕ). action.StreamReset a.place number) c ≡ Some act
    → (number : ℕ) × (reset_code_of v a ≡ Some number) × (act ≡ action.StreamReset a.place number)
code_by v a act None e is = absurd (cc)
code_by v a act (Some number) e is = (number, e, (let same : act ≡ action.StreamReset a.place number = (cc) in same))

own_by : (n : ℕ) (b v : Seen) (is : IsLeft n b v) (a : Attempt) (p number : ℕ) (q : Bool) → (a.row.call == n) ≡ q → numbered v.attempts p ≡ Some a → reset_code_of v a ≡ Some number
    → (a.row.call == n) ≡ true
own_by n b v is a p number true e at code = e
own_by n b v is a p number false e at code = absurd (let two : Some number ≡ None = sym code ∙ is.codes p a at e in (cc))

reset_by : (waits : Line → Bool) (n : ℕ) (o : OpenEntry) (b v : Seen) (mid : IsReset waits n o b v) (act : Action) (x : Option Attempt)
    → foremost is_stream_before (filter (λ (y : Attempt). is_some (reset_code_of v y)) v.attempts) ≡ x → option_and_then (reset_of v) x ≡ Some act → IsOneReset n v act
reset_by waits n o b v mid act None e is = absurd (cc)
reset_by waits n o b v mid act (Some a) e is =
    let f : IsForemost is_stream_before (λ (y : Attempt). is_some (reset_code_of v y)) v.attempts a
    = is_foremost is_stream_before by_stream_order (λ (y : Attempt). is_some (reset_code_of v y)) v.attempts a e in
    let code = code_by v a act (reset_code_of v a) refl is in
    let place : a.place ≡ suc f.index = place_suc f.index v.attempts a mid.book.places f.there in
    record {
      attempt = a;
      number = code.0;
      there = ap (numbered v.attempts) place ∙ f.there;
      own = own_by n b v mid.left a (suc f.index) code.0 (a.row.call == n) refl f.there code.1;
      act_is = code.2;
    }

pub one_reset : (waits : Line → Bool) (n : ℕ) (o : OpenEntry) (b v : Seen) → IsReset waits n o b v → (act : Action) → next_reset v ≡ Some act → IsOneReset n v act
one_reset waits n o b v mid act next =
    reset_by waits n o b v mid act (foremost is_stream_before (filter (λ (y : Attempt). is_some (reset_code_of v y)) v.attempts)) refl next

module _ (waits : Line → Bool) (n : ℕ) (o : OpenEntry) (b v : Seen) (base : IsBase n b) (mid : IsReset waits n o b v) (act : Action) (one : IsOneReset n v act) where
  abbrev r : Attempt
  r = one.attempt

  abbrev z : Seen
  z = stream_reset_of one.number v r

  pub after_is : after act v ≡ z
  after_is =
      ap (λ (c : Option OpenEntry). after_if c act v) mid.current ∙ ap (λ (x : Action). after_if (Some o) x v) one.act_is
      ∙ ap (λ (x : Option Attempt). option_map_or (stream_reset_of one.number v) x v) one.there

  reset_is : stream_reset r.place one.number v ≡ z
  reset_is = ap (λ (x : Option Attempt). option_map_or (stream_reset_of one.number v) x v) one.there

  book_reset : IsBook z
  book_reset =
      subst IsBook (ap (λ (x : Action). after x v) (sym one.act_is) ∙ after_is) (books_stay v (action.StreamReset r.place one.number) mid.book tt)

  apart_reset : (d : Call) → numbered b.calls d.number ≡ Some d → (d.number == n) ≡ false → IsApart v z d
  apart_reset d own off =
      subst (λ (x : Seen). IsApart v x d) (ap (λ (x : Action). after x v) (sym one.act_is) ∙ after_is)
      (others_stay v d (action.StreamReset r.place one.number) mid.book (mid.left.calls d.number off ∙ own)
      (ap (λ (x : Option Attempt). is_number d.number (option_map (λ (y : Attempt). y.row.call) x)) one.there ∙ other_call r.row.call n d.number one.own off))

  rows_reset : (p : ℕ) (x : Attempt) → numbered z.attempts p ≡ Some x → (x.row.call == n) ≡ false → numbered v.attempts p ≡ Some x
  rows_reset p x at off = row_by (p == r.place) refl
    where
      row_by : (q : Bool) → (p == r.place) ≡ q → numbered v.attempts p ≡ Some x
      row_by true e =
          let same : x ≡ with_reset_queued r = (at_by with_reset_queued r.place p v.attempts r x true e one.there at).0 refl in
          absurd (both_ways (r.row.call == n) (sym (ap (λ (y : Attempt). y.row.call == n) same) ∙ off) one.own)
      row_by false e = (at_by with_reset_queued r.place p v.attempts r x false e one.there at).1 refl

  left_reset : IsLeft n b z
  left_reset = record {
    done = record { call = mid.left.done.call; there = mid.left.done.there; ended = mid.left.done.ended };
    apart = λ d own off. apart_joins b v z d (mid.left.apart d own off) (apart_reset d own off);
    calls = mid.left.calls;
    rows = λ p x at off. mid.left.rows p x (rows_reset p x at off) off;
    codes = λ p x at off. reset_code v r one.number x ∙ mid.left.codes p x (rows_reset p x at off) off;
  }

  moves : (l : Line) → is_line l line.Final ≡ false → IsStill l o v → IsStill l o z
  moves l final h =
      subst (IsStill l o) reset_is
      (reset_leaves r.place one.number o v mid.current tt l o (ap (λ (x : Seen). x.current) reset_is ∙ mid.current) final (never_stirs l) h)
    where
      never_stirs : (l : Line) → stirs (action.StreamReset r.place one.number) l ≡ false
      never_stirs l = refl

  -- what the call's attempts wait for
  still_reset : (l : Line) → is_line l line.Reset ≡ false → waits l ≡ false → IsStill l o z
  still_reset line.Cut e w = moves line.Cut refl (mid.still line.Cut refl w)
  still_reset line.Transparent e w = moves line.Transparent refl (mid.still line.Transparent refl w)
  still_reset line.Inherited e w = moves line.Inherited refl (mid.still line.Inherited refl w)
  still_reset line.Row e w = moves line.Row refl (mid.still line.Row refl w)
  still_reset line.Final e w = final_still n b z base left_reset
  still_reset line.Cancelled e w = moves line.Cancelled refl (mid.still line.Cancelled refl w)
  still_reset line.Request e w = moves line.Request refl (mid.still line.Request refl w)
  still_reset line.Overflow e w = moves line.Overflow refl (mid.still line.Overflow refl w)
  still_reset line.Head e w = moves line.Head refl (mid.still line.Head refl w)
  still_reset line.Response e w = moves line.Response refl (mid.still line.Response refl w)
  still_reset line.Pick e w = moves line.Pick refl (mid.still line.Pick refl w)
  still_reset line.Link e w = moves line.Link refl (mid.still line.Link refl w)
  still_reset line.WireEnd e w = moves line.WireEnd refl (mid.still line.WireEnd refl w)
  still_reset line.Reset e w = absurd (cc)
  still_reset line.Shut e w = moves line.Shut refl (mid.still line.Shut refl w)
  still_reset line.Retire e w = moves line.Retire refl (mid.still line.Retire refl w)
  still_reset line.Begin e w = moves line.Begin refl (mid.still line.Begin refl w)
  still_reset line.Give e w = moves line.Give refl (mid.still line.Give refl w)
  still_reset line.Drop e w = moves line.Drop refl (mid.still line.Drop refl w)
  still_reset line.Add e w = moves line.Add refl (mid.still line.Add refl w)

  pub reset_mid : IsReset waits n o b z
  reset_mid = record { current = mid.current; book = book_reset; left = left_reset; still = still_reset }
