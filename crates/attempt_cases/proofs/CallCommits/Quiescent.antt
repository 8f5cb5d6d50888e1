-- Once a call is committed nothing follows at once but that its other attempts are cut off: where nothing followed before it but that the call was committed, and
-- no other call overflows or has a head that came.
use Rattle.std.proofs.Common.{◌≡◌, ◌&&◌, ◌==◌, ap, refl, subst, sym, ◌∙◌, Bool, true, false, [], ◌∷◌, Option, None, Some, ℕ, is_none, is_some, nat_lt}
use Rattle.std.proofs.lemmas.Bool.{eq-eqb, eqb-true}
use Rattle.std.specs.List.{list_any}
use Rattle.std.specs.Option.{option_map_or}
use Rattle.attempt_ledger.specs.declared.ledger.CallEnd.{CallEnd}
use Rattle.attempt_ledger.specs.declared.row.RowEnd.{RowEnd}
use Rattle.call_actions.proofs.CallsApart.Kept.{commitment_same}
use Rattle.call_actions.specs.CallsApart.Apart.{IsApart}
use Rattle.call_actions.specs.Order.{IsInTurn, goes_on_followed}
use Rattle.call_cases.proofs.EndsFollow.Apart.{final_in_same, row_same}
use Rattle.call_cases.proofs.EndsFollow.Steps.{call_number}
use Rattle.attempt_cases.proofs.CallCommits.Small.{never_large}
use Rattle.call_cases.proofs.CommitsFollow.Begun as begun
use Rattle.call_cases.proofs.CommitsFollow.Begun.{IsToCommit}
use Rattle.call_cases.proofs.CommitsFollow.Cuts.{IsTaken}
use Rattle.grpc_base.specs.Limits.{message_limit}
use Rattle.session_actions.specs.Attempts.{commitment, counts_by, is_counted, is_followed, is_of, is_outstanding}
use Rattle.session_actions.specs.CallEnds.{is_over_by_row}
use Rattle.session_actions.specs.Calls.{is_open_call}
use Rattle.session_actions.specs.Commitments.{call_committed, has_head_in, is_final_end, is_final_in, is_free_call, is_headed}
use Rattle.session_actions.specs.Configs.{chosen_of}
use Rattle.session_actions.specs.DueAttempts.{is_final}
use Rattle.session_actions.specs.Links.{link_of}
use Rattle.session_actions.specs.Responses.{limit_of_attempt, no_response, response, response_by, response_in, traffic_of}
use Rattle.session_actions.specs.Words.{find_last, holds, numbered}
use Rattle.session_actions.specs.Writing.{accepted_bytes}
use Rattle.session_actions.specs.declared.action.CommitCause.TheVariants as commit
use Rattle.session_actions.specs.declared.attempt.Attempt.{Attempt}
use Rattle.session_actions.specs.declared.call.Call.{Call}
use Rattle.session_actions.specs.declared.entry.OpenEntry.{OpenEntry}
use Rattle.session_actions.specs.declared.link.Link.{Link}
use Rattle.session_actions.specs.declared.response.Response.{Response}
use Rattle.session_actions.specs.declared.seen.Seen.{Seen}
use Rattle.session_order.proofs.Changed.{any_changed, none_from, passes_not}
use Rattle.session_order.proofs.Commits.{committed_leaves}
use Rattle.session_order.specs.Quiescent.{IsStill, has_outstanding, is_overflowing}
use Rattle.session_order.specs.Lines.{is_line}
use Rattle.session_order.specs.Stirs.{CallsHaveTheirNumbers, IsCommittable}
use Rattle.session_order.specs.declared.line.Line.{Line}
use Rattle.session_order.specs.declared.line.Line.TheVariants as line

and_no : (p : Bool) → (p && false) ≡ false
and_no true = refl
and_no false = refl

none_of : {X : Type 0} (o : Option X) → is_some o ≡ false → o ≡ None
none_of None e = refl
none_of (Some x) e = absurd (cc)

-- where no head came of its response, nothing else did
module _ (n : ℕ) (o : OpenEntry) (s : Seen) (is : IsToCommit n o s) (head : IsStill line.Head o s) where
  its_call : numbered s.calls is.attempt.row.call ≡ Some is.call
  its_call = ap (numbered s.calls) (begun.of_it n o s is) ∙ is.there

  pub no_head : (response is.attempt s).head ≡ None
  no_head =
      none_of (response is.attempt s).head
      (sym (ap (λ (z : Bool). z && holds (has_head_in is.attempt s) (numbered s.calls is.attempt.row.call)) is.can.outstanding ∙ ap (holds (has_head_in is.attempt s)) its_call
      ∙ ap (λ (z : Option CallEnd). (is_none z && is_none (commitment is.call s)) && is_some (response is.attempt s).head) is.can.open_now
      ∙ ap (λ (z : Option Attempt). is_none z && is_some (response is.attempt s).head) is.can.free)
      ∙ passes_not (is_headed s) s.attempts is.attempt.place is.attempt head is.can.at)

  pub no_large : (response is.attempt s).large ≡ false
  no_large = never_large is.attempt s no_head

-- no other call overflows, and no head came for another one
module _ (n : ℕ) (o : OpenEntry) (s : Seen) (is : IsToCommit n o s) (turn : IsInTurn s is.call) (small : (response is.attempt s).large ≡ false)
    (still : (l : Line) → is_line l line.Overflow ≡ false → is_line l line.Head ≡ false → IsStill l o s)
    (others : (j : ℕ) (d : Call) → (j == n) ≡ false → numbered s.calls j ≡ Some d → is_overflowing s d ≡ false)
    (heads : (p : ℕ) (a : Attempt) → numbered s.attempts p ≡ Some a → (a.row.call == n) ≡ false → is_headed s a ≡ false) where
  abbrev k : Attempt
  k = is.attempt

  abbrev c : Call
  c = is.call

  abbrev b : Seen
  b = begun.b n o s is

  done : IsTaken n (begun.k n o s is) b
  done = begun.taken n o s is

  numbers : CallsHaveTheirNumbers s
  numbers j d at = call_number j s.calls d is.book.calls at

  -- of any call of its number
  free_by : (d : Call) → is_of d k ≡ true → commitment d s ≡ None
  free_by d mine =
      let same : d.number ≡ c.number = sym (eqb-true k.row.call d.number mine) ∙ eqb-true k.row.call c.number is.can.mine in
      ap (λ (m : ℕ). find_last (λ (a : Attempt). (a.row.call == m) && is_some a.row.committed) s.attempts) same ∙ is.can.free

  going : k.row.ended ≡ None
  going = begun.goes n o s is

  unfollowed : is_followed k s ≡ false
  unfollowed =
      sym (ap (λ (z : Bool). (z && is_none k.row.ended) && is_followed k s) is.can.mine ∙ ap (λ (e : Option RowEnd). is_none e && is_followed k s) going)
      ∙ passes_not (goes_on_followed s c) s.attempts k.place k turn.unfollowed is.can.at

  fits : IsCommittable k.place s
  fits = record {
    attempt = k;
    here = is.can.at;
    free = free_by;
    follows = unfollowed;
    small = ap (λ (z : Bool). is_outstanding k && z) small ∙ and_no (is_outstanding k);
    numbers = numbers;
  }

  current_b : (call_committed k.place s).current ≡ Some o
  current_b = ap (λ (z : Seen). z.current) (begun.committed_is n o s is) ∙ is.current

  -- another call is as before
  module _ (j : ℕ) (d : Call) (off : (j == n) ≡ false) (at : numbered b.calls j ≡ Some d) where
    before : numbered s.calls j ≡ Some d
    before = sym (begun.same_call n o s is j off) ∙ at

    number : d.number ≡ j
    number = numbers j d before

    own : numbered s.calls d.number ≡ Some d
    own = ap (numbered s.calls) number ∙ before

    apart : IsApart s b d
    apart = begun.other_apart n o s is d own (ap (λ (m : ℕ). m == n) number ∙ off)

    row_other : is_over_by_row b d ≡ false
    row_other = row_same s b d apart own (is.orders d own).marks ∙ passes_not (is_over_by_row s) s.calls j d (still line.Row refl refl) before

    over_other : is_overflowing b d ≡ false
    over_other =
        ap (λ (q : Option Attempt). ((is_none d.end && is_none q) && nat_lt 262144 (accepted_bytes d)) && has_outstanding d b) (commitment_same s b d apart own)
        ∙ ap (λ (z : Bool). (is_free_call s d && nat_lt 262144 (accepted_bytes d)) && z)
        (any_changed (λ (a : Attempt). is_of d a && is_outstanding a) (begun.put n o s is) (λ a. refl) k.place s.attempts)
        ∙ others j d off before

  -- the call itself
  module _ (j : ℕ) (d : Call) (on : (j == n) ≡ true) (at : numbered b.calls j ≡ Some d) where
    itself : d ≡ done.call
    itself = let two : Some d ≡ Some done.call = sym at ∙ ap (numbered b.calls) (eqb-true j n on) ∙ done.there in (cc)

    taken : commitment d b ≡ Some (begun.k n o s is)
    taken = ap (λ (z : Call). commitment z b) itself ∙ done.is

    row_own : is_over_by_row b d ≡ false
    row_own =
        ap (λ (q : Option Attempt). is_open_call d && holds (λ (a : Attempt). is_counted a b) q) taken
        ∙ ap (λ (e : Option RowEnd). is_open_call d && holds (counts_by (begun.k n o s is) b) e) going ∙ and_no (is_open_call d)

    over_own : is_overflowing b d ≡ false
    over_own =
        ap (λ (q : Option Attempt). ((is_none d.end && is_none q) && nat_lt 262144 (accepted_bytes d)) && has_outstanding d b) taken
        ∙ never (is_none d.end) (nat_lt 262144 (accepted_bytes d)) (has_outstanding d b)
      where
        never : (p q r : Bool) → (((p && false) && q) && r) ≡ false
        never true q r = refl
        never false q r = refl

    final_own : (a : Attempt) → is_final_in a b d ≡ false
    final_own a =
        ap (λ (q : Option Attempt). ((is_none d.end && is_none q) && is_counted a b) && is_final d a b) taken ∙ never (is_none d.end) (is_counted a b) (is_final d a b)
      where
        never : (p q r : Bool) → (((p && false) && q) && r) ≡ false
        never true q r = refl
        never false q r = refl

  row_by : (j : ℕ) (d : Call) (q : Bool) → (j == n) ≡ q → numbered b.calls j ≡ Some d → is_over_by_row b d ≡ false
  row_by j d true e at = row_own j d e at
  row_by j d false e at = row_other j d e at

  over_by : (j : ℕ) (d : Call) (q : Bool) → (j == n) ≡ q → numbered b.calls j ≡ Some d → is_overflowing b d ≡ false
  over_by j d true e at = over_own j d e at
  over_by j d false e at = over_other j d e at

  final_call : (p : ℕ) (a : Attempt) (q : Bool) (z : Option Call) → (a.row.call == n) ≡ q → numbered b.calls a.row.call ≡ z → numbered b.attempts p ≡ Some a
      → holds (is_final_in a b) z ≡ false
  final_call p a q None e at there = refl
  final_call p a true (Some d) e at there = final_own a.row.call d e at a
  final_call p a false (Some d) e at there =
      let was : numbered s.calls a.row.call ≡ Some d = before a.row.call d e at in
      let number_is : d.number ≡ a.row.call = numbers a.row.call d was in
      let own_is : numbered s.calls d.number ≡ Some d = ap (numbered s.calls) number_is ∙ was in
      final_in_same s b d (apart a.row.call d e at) own_is (is.orders d own_is).marks a (eq-eqb a.row.call d.number (sym number_is))
      ∙ sym (ap (holds (is_final_in a s)) was) ∙ passes_not (is_final_end s) s.attempts p a (still line.Final refl refl) (begun.before n o s is p a there e)

  -- of another call the response is as before
  limit_other : (a : Attempt) → (a.row.call == n) ≡ false → limit_of_attempt a b ≡ limit_of_attempt a s
  limit_other a off = ap (λ (z : Option Call). option_map_or (λ (d : Call). (chosen_of d s).response) z message_limit) (begun.same_call n o s is a.row.call off)

  response_other : (a : Attempt) → (a.row.call == n) ≡ false → (w : Option ℕ) → response_by a b w ≡ response_by a s w
  response_other a off None = refl
  response_other a off (Some stream) =
      ap (λ (limit : ℕ). option_map_or (λ (l : Link). response_in limit stream (traffic_of a l.traffic)) (link_of a s) no_response) (limit_other a off)

  head_own : (a : Attempt) (j : ℕ) (d : Call) → (j == n) ≡ true → numbered b.calls j ≡ Some d → has_head_in a b d ≡ false
  head_own a j d on at =
      ap (λ (q : Option Attempt). (is_none d.end && is_none q) && is_some (response a b).head) (taken j d on at) ∙ never (is_none d.end) (is_some (response a b).head)
    where
      never : (p q : Bool) → ((p && false) && q) ≡ false
      never true q = refl
      never false q = refl

  head_call : (p : ℕ) (a : Attempt) (q : Bool) (z : Option Call) → (a.row.call == n) ≡ q → numbered b.calls a.row.call ≡ z → numbered b.attempts p ≡ Some a → is_headed b a ≡ false
  head_call p a q None e at there = ap (λ (w : Option Call). is_outstanding a && holds (has_head_in a b) w) at ∙ and_no (is_outstanding a)
  head_call p a true (Some d) e at there =
      ap (λ (w : Option Call). is_outstanding a && holds (has_head_in a b) w) at ∙ ap (λ (w : Bool). is_outstanding a && w) (head_own a a.row.call d e at) ∙ and_no (is_outstanding a)
  head_call p a false (Some d) e at there =
      let was : numbered s.calls a.row.call ≡ Some d = before a.row.call d e at in
      let own_is : numbered s.calls d.number ≡ Some d = own a.row.call d e at in
      ap (λ (w : Option Call). is_outstanding a && holds (has_head_in a b) w) at
      ∙ ap (λ (w : Option Attempt). is_outstanding a && ((is_none d.end && is_none w) && is_some (response a b).head)) (commitment_same s b d (apart a.row.call d e at) own_is)
      ∙ ap (λ (w : Response). is_outstanding a && (is_free_call s d && is_some w.head)) (response_other a e a.row.stream)
      ∙ sym (ap (λ (w : Option Call). is_outstanding a && holds (has_head_in a s) w) was)
      ∙ heads p a (begun.before n o s is p a there e) e

  moves : (l : Line) → is_line l line.Final ≡ false → list_any (is_line l) (line.Cut ∷ line.Row ∷ []) ≡ false → IsStill l o s → IsStill l o b
  moves l final off h =
      subst (IsStill l o) (begun.committed_is n o s is) (committed_leaves k.place commit.Head o s is.current fits l o current_b final off h)

  still_b : (l : Line) → is_line l line.Cut ≡ false → IsStill l o b
  still_b line.Cut e = absurd (cc)
  still_b line.Transparent e = moves line.Transparent refl refl (still line.Transparent refl refl)
  still_b line.Inherited e = moves line.Inherited refl refl (still line.Inherited refl refl)
  still_b line.Row e = none_from (is_over_by_row b) b.calls (λ j d at. row_by j d (j == n) refl at)
  still_b line.Final e = none_from (is_final_end b) b.attempts (λ p a at. final_call p a (a.row.call == n) (numbered b.calls a.row.call) refl refl at)
  still_b line.Cancelled e = moves line.Cancelled refl refl (still line.Cancelled refl refl)
  still_b line.Request e = moves line.Request refl refl (still line.Request refl refl)
  still_b line.Overflow e = none_from (is_overflowing b) b.calls (λ j d at. over_by j d (j == n) refl at)
  still_b line.Head e = none_from (is_headed b) b.attempts (λ p a at. head_call p a (a.row.call == n) (numbered b.calls a.row.call) refl refl at)
  still_b line.Response e = moves line.Response refl refl (still line.Response refl refl)
  still_b line.Pick e = moves line.Pick refl refl (still line.Pick refl refl)
  still_b line.Link e = moves line.Link refl refl (still line.Link refl refl)
  still_b line.WireEnd e = moves line.WireEnd refl refl (still line.WireEnd refl refl)
  still_b line.Reset e = moves line.Reset refl refl (still line.Reset refl refl)
  still_b line.Shut e = moves line.Shut refl refl (still line.Shut refl refl)
  still_b line.Retire e = moves line.Retire refl refl (still line.Retire refl refl)
  still_b line.Begin e = moves line.Begin refl refl (still line.Begin refl refl)
  still_b line.Give e = moves line.Give refl refl (still line.Give refl refl)
  still_b line.Drop e = moves line.Drop refl refl (still line.Drop refl refl)
  still_b line.Add e = moves line.Add refl refl (still line.Add refl refl)

  pub committed_still : (l : Line) → is_line l line.Cut ≡ false → IsStill l o (call_committed k.place s)
  committed_still l e = subst (IsStill l o) (sym (begun.committed_is n o s is)) (still_b l e)
