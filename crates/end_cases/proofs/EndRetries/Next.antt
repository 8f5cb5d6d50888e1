-- An attempt ends that a transparent retry follows: the retry is made next, and nothing follows at once from it but that it takes a commitment over.
use Rattle.std.proofs.Common.{◌≡◌, ◌&&◌, ◌||◌, ◌==◌, ◌+◌, ◌++◌, ◌∷◌, not, ap, refl, subst, sym, ◌∙◌, Bool, true, false, List, [], Option, None, Some, ℕ, suc, if◌then◌else◌, is_none, is_some, length, nat_lt, option_map, slice_get}
use Rattle.std.proofs.lemmas.Bool.{and_right, eq-eqb}
use Rattle.std.specs.List.{list_any}
use Rattle.attempt_ledger.specs.TransparentRows.{is_by_peer, is_refused, is_unsent}
use Rattle.attempt_ledger.specs.declared.row.Placed.{Placed}
use Rattle.attempt_ledger.specs.declared.row.RowEnd.{RowEnd}
use Rattle.attempt_ledger.specs.declared.row.RowKind.TheVariants as kind
use Rattle.call_actions.proofs.CallsApart.Books.{tokens_stay}
use Rattle.call_actions.proofs.CallsInTurn.Changes.{any_keep}
use Rattle.call_actions.proofs.CallsInTurn.Columns as columns
use Rattle.call_actions.proofs.CallsInTurn.Retries.{retrying_keeps}
use Rattle.call_actions.proofs.CallsInTurn.Rows.{unfollowed_of}
use Rattle.call_actions.proofs.Lists.{changed_here, numbered_not}
use Rattle.call_actions.proofs.Places.{place_is}
use Rattle.call_actions.specs.CallsApart.Apart.{IsBook}
use Rattle.call_actions.specs.CallsApart.Laws.{tokens_in_run}
use Rattle.call_actions.specs.CallsInTurn.Laws.{IsOwn}
use Rattle.call_actions.specs.CallsInTurn.Turns.{IsSteady, StaysSteady, waits as waits_to_follow}
use Rattle.call_actions.specs.Order.{IsInTurn}
use Rattle.channel_actions.proofs.KeptSessions.Along.{kept_along}
use Rattle.channel_actions.specs.KeptSessions.Kept.{IsKept}
use Rattle.call_cases.specs.OtherCalls.Others.{ActionsAreOfCall, GoesApart, IsBooked}
use Rattle.end_cases.proofs.AttemptEnds.After.{attempts_are, commitment_is, d, d_here, put, put_place, t_is, u}
use Rattle.end_cases.proofs.AttemptEnds.Agreeing.{none_of}
use Rattle.end_cases.proofs.AttemptEnds.Base.{books, c, call_is, e, has, here, x1}
use Rattle.end_cases.proofs.AttemptEnds.ClosedAgree.{of_call_on}
use Rattle.end_cases.proofs.AttemptEnds.Committed.{unended_by}
use Rattle.end_cases.proofs.AttemptEnds.LastCommits.{found_one}
use Rattle.end_cases.proofs.AttemptEnds.Lists.{IsFrom, from_map}
use Rattle.end_cases.proofs.AttemptEnds.OneEnded as first
use Rattle.end_cases.proofs.AttemptEnds.Others.{wants_none}
use Rattle.end_cases.specs.AttemptEnds.Ends.{EndNext}
use Rattle.channel_core.specs.States.{StateSeen}
use Rattle.net_actions.specs.NetFrames.Frames.{is_of_net}
use Rattle.session_actions.specs.Actions.{after as after_action, after_if, following}
use Rattle.session_actions.specs.AttemptEnds.{attempt_ended, with_end}
use Rattle.session_actions.specs.Attempts.{commitment, is_followed, is_of, is_over, is_to_follow, wants_follower, was_refused, was_retried_so}
use Rattle.session_actions.specs.CallEnds.{has_long_response, is_over_by_row}
use Rattle.session_actions.specs.Commitments.{is_final_in, is_inherited}
use Rattle.session_actions.specs.Entries.{entry, now}
use Rattle.session_actions.specs.Events.{is_loss}
use Rattle.session_actions.specs.Making.{attempt_made, new_row, transparent_retry}
use Rattle.session_actions.specs.Laws.{posted_in}
use Rattle.session_actions.specs.Sessions.{Does}
use Rattle.session_actions.specs.Words.{changed, holds, numbered}
use Rattle.session_actions.specs.declared.action.Action.{Action}
use Rattle.session_actions.specs.declared.action.Action.TheVariants as action
use Rattle.session_actions.specs.declared.attempt.Attempt.{Attempt}
use Rattle.session_actions.specs.declared.call.Call.{Call}
use Rattle.session_actions.specs.declared.call.Mark.{Mark}
use Rattle.session_actions.specs.declared.call.MarkKind.TheVariants as mark
use Rattle.session_actions.specs.declared.entry.OpenEntry.{OpenEntry}
use Rattle.session_actions.specs.declared.response.Outcome.{Outcome}
use Rattle.session_actions.specs.declared.seen.Seen.{Seen}
use Rattle.session_order.proofs.Quiescence.{first_line_gives}
use Rattle.session_order.specs.Quiescent.{IsStill}
use Rattle.session_order.specs.Lines.{rank}
use Rattle.session_order.specs.Stirs.{stirs}
use Rattle.session_order.specs.declared.line.Line.{Line}
use Rattle.session_order.specs.declared.line.Line.TheVariants as line

-- what comes before a transparent retry
before_retry : (loses : Bool) (m : Line) → nat_lt (rank loses m) (rank loses line.Transparent) ≡ true → (X : Line → Type 0) → X line.Cut → X m
before_retry loses line.Cut e X a = a
before_retry loses line.Transparent e X a = absurd (cc)
before_retry loses line.Inherited e X a = absurd (cc)
before_retry loses line.Row e X a = absurd (cc)
before_retry loses line.Final e X a = absurd (cc)
before_retry loses line.Cancelled e X a = absurd (cc)
before_retry loses line.Request e X a = absurd (cc)
before_retry loses line.Overflow e X a = absurd (cc)
before_retry loses line.Head e X a = absurd (cc)
before_retry loses line.Response e X a = absurd (cc)
before_retry loses line.Pick e X a = absurd (cc)
before_retry loses line.Link e X a = absurd (cc)
before_retry true line.WireEnd e X a = absurd (cc)
before_retry false line.WireEnd e X a = absurd (cc)
before_retry loses line.Reset e X a = absurd (cc)
before_retry loses line.Shut e X a = absurd (cc)
before_retry loses line.Retire e X a = absurd (cc)
before_retry loses line.Begin e X a = absurd (cc)
before_retry loses line.Give e X a = absurd (cc)
before_retry loses line.Drop e X a = absurd (cc)
before_retry loses line.Add e X a = absurd (cc)

none_map : {X Y : Type 0} (f : X → Y) (q : Option X) → is_none (option_map f q) ≡ is_none q
none_map f None = refl
none_map f (Some x) = refl

flat : (p q r : Bool) → r ≡ false → ((p && q) && r) ≡ ((p && false) && r)
flat p q r e = ap (λ (b : Bool). (p && q) && b) e ∙ and_right (p && q) false refl ∙ sym (ap (λ (b : Bool). (p && false) && b) e ∙ and_right (p && false) false refl)

module _ (later : List (ℕ × RowEnd)) (waits : Line → Bool) (also : List ℕ) (a : Attempt) (out : Outcome) (x : StateSeen) (o : OpenEntry) (s : Seen) (is : EndNext later waits also a out x o s)
    (going : (c later waits also a out x o s is).end ≡ None) (follows : is_to_follow (c later waits also a out x o s is) out.cause out.unseen s ≡ true) where
  abbrev pub k : Call
  k = c later waits also a out x o s is

  abbrev pub n : ℕ
  n = k.number

  abbrev pub v : Seen
  v = u later waits also a out x o s is

  abbrev end_ : RowEnd
  end_ = e later waits also a out x o s is

  abbrev pub dk : Call
  dk = d later waits also a out x o s is

  abbrev then_ : Attempt
  then_ = with_end end_ a

  abbrev there : numbered v.attempts a.place ≡ Some then_
  there = first.one_there later waits also a out x o s is

  abbrev kept : IsKept s
  kept = first.kept later waits also a out x o s is

  abbrev kept_one : IsKept v
  kept_one = first.kept_one later waits also a out x o s is

  abbrev pub p : OpenEntry
  p = first.entry_then later waits also a out x o s is

  abbrev pub now_open : v.current ≡ Some p
  now_open = first.current_one later waits also a out x o s is

  -- the session once the retry is made
  abbrev pub place : ℕ
  place = length v.attempts + 1

  abbrev pub new : Attempt
  new = record { place = place; row = new_row n a.row.number kind.Transparent (now v); made = entry v; reset = false }

  abbrev pub noted : Call → Call
  noted g = record g { marks = g.marks ++ record { what = mark.Made place; moment = now v } ∷ [] }

  -- its attempts alone, and its calls too
  abbrev added : Seen
  added = record v { attempts = v.attempts ++ new ∷ [] }

  abbrev pub t : Seen
  t = record v { calls = changed noted n v.calls; attempts = v.attempts ++ new ∷ [] }

  abbrev pub dt : Call
  dt = noted dk

  abbrev pub at : ℕ
  at = now v

  pub dk_here : numbered v.calls n ≡ Some dk
  dk_here = d_here later waits also a out x o s is

  pub dt_here : numbered t.calls n ≡ Some dt
  dt_here = changed_here noted n v.calls dk (d_here later waits also a out x o s is)

  abbrev pub makes : Action
  makes = action.AttemptMade n a.row.number kind.Transparent (now v)

  pub after_two : after_action makes v ≡ t
  after_two = ap (λ (q : Option OpenEntry). after_if q makes v) now_open

  -- no other attempt follows it
  unended : is_none a.row.ended ≡ true
  unended = unended_by (is_of k a) (is_some a.row.placed) (is_none a.row.placed) (is_none a.row.ended) (is_over a s) is.ending.lives

  own : IsOwn s k a.place a
  own = record { own = here later waits also a out x o s is; there = is.ending.there; mine = is.ending.own }

  turn : IsInTurn s k
  turn = (has later waits also a out x o s is).sees.turn

  unfollowed : is_followed a s ≡ false
  unfollowed = unfollowed_of s k a.place a own unended turn.unfollowed

  pub quiescent : list_any (waits_to_follow s k) s.attempts ≡ false
  quiescent = none_of (is_of k) (λ (q : Attempt). wants_follower q s) s.attempts (first.was_still later waits also a out x o s is line.Transparent refl refl)

  steady : IsSteady s k
  steady = record { turn = turn; quiescent = quiescent }

  abbrev pl : Attempt → Option Placed
  pl q = q.row.placed

  abbrev en : Attempt → Option RowEnd
  en q = Some end_

  abbrev co : Attempt → Option ℕ
  co q = q.row.committed

  refused : (holds is_refused (en a) && is_followed a s) ≡ (was_refused a && is_followed a s)
  refused =
      ap (λ (b : Bool). is_refused end_ && b) unfollowed ∙ and_right (is_refused end_) false refl
      ∙ sym (ap (λ (b : Bool). was_refused a && b) unfollowed ∙ and_right (was_refused a) false refl)

  pub followed_same : (q : Attempt) → is_followed q v ≡ is_followed q s
  followed_same q =
      columns.followed_now s v k dk.marks pl en co a.place a kept_one.book (here later waits also a out x o s is) (d_here later waits also a out x o s is) refl refl is.ending.there is.ending.own
      (λ none. unended) refused (λ was. was) steady q

  waits_so : (q : Attempt) → waits_to_follow s k q ≡ false → waits_to_follow v dk q ≡ false
  waits_so q off =
      columns.waits_so s v k dk.marks pl en co a.place a kept_one.book (here later waits also a out x o s is) (d_here later waits also a out x o s is) refl refl is.ending.there is.ending.own
      (λ none. unended) refused (λ was. was) steady q off

  -- it is the one that is to be followed
  retried_same : was_retried_so dk v ≡ was_retried_so k s
  retried_same =
      any_keep (λ (q : Attempt). is_of k q && was_refused q && is_followed q s) (λ (q : Attempt). is_of k q && was_refused q && is_followed q v) (with_end end_) a
      (λ q. ap (λ (b : Bool). (is_of k q && was_refused q) && b) (followed_same q))
      (flat (is_of k a) (is_refused end_) (is_followed a v) (followed_same a ∙ unfollowed)
      ∙ ap (λ (b : Bool). (is_of k a && false) && b) (followed_same a) ∙ sym (flat (is_of k a) (was_refused a) (is_followed a s) unfollowed))
      s.attempts a.place is.ending.there

  follow_then : is_to_follow dk out.cause out.unseen v ≡ true
  follow_then =
      ap (λ (q : Option Attempt). is_unsent out.cause || (((out.unseen && is_by_peer out.cause) && is_none q) && not (was_retried_so dk v))) (commitment_is later waits also a out x o s is k)
      ∙ ap (λ (b : Bool). is_unsent out.cause || (((out.unseen && is_by_peer out.cause) && b) && not (was_retried_so dk v))) (none_map (put later waits also a out x o s is) (commitment k s))
      ∙ ap (λ (b : Bool). is_unsent out.cause || (((out.unseen && is_by_peer out.cause) && is_none (commitment k s)) && not b)) retried_same ∙ follows

  wants_one : wants_follower then_ v ≡ true
  wants_one =
      ap (λ (b : Bool). not b && holds (λ (g : Call). is_to_follow g out.cause out.unseen v) (numbered v.calls a.row.call)) (followed_same a ∙ unfollowed)
      ∙ ap (holds (λ (g : Call). is_to_follow g out.cause out.unseen v)) (ap (numbered v.calls) (call_is later waits also a out x o s is) ∙ d_here later waits also a out x o s is) ∙ follow_then

  -- another one was there before
  pub was_there : (i : ℕ) (q : Attempt) → slice_get v.attempts i ≡ Some q → (q.place == a.place) ≡ false → numbered s.attempts (suc i) ≡ Some q
  was_there i q at off =
      let from : IsFrom (λ (b : Attempt). put later waits also a out x o s is b) s.attempts i q
      = from_map (λ (b : Attempt). put later waits also a out x o s is b) s.attempts i q (ap (λ (xs : List Attempt). slice_get xs i) (sym (attempts_are later waits also a out x o s is)) ∙ at) in
      let away : (from.one.place == a.place) ≡ false
      = ap (λ (j : ℕ). j == a.place) (sym (put_place later waits also a out x o s is from.one) ∙ ap (λ (b : Attempt). b.place) (sym from.is)) ∙ off in
      let same : q ≡ from.one = from.is ∙ ap (λ (b : Bool). if b then with_end end_ from.one else from.one) away in
      from.there ∙ ap (λ (b : Attempt). Some b) (sym same)

  wants_else : (i : ℕ) (q : Attempt) (g : Bool) → slice_get v.attempts i ≡ Some q → (suc i == a.place) ≡ false → (q.row.call == n) ≡ g → wants_follower q v ≡ false
  wants_else i q true at off mine =
      let away : (q.place == a.place) ≡ false = ap (λ (m : ℕ). m == a.place) (place_is (suc i) v.attempts q kept_one.book.places at) ∙ off in
      ap (λ (b : Bool). b && wants_follower q v) (sym mine) ∙ waits_so q (numbered_not (waits_to_follow s k) s.attempts (suc i) q quiescent (was_there i q at away))
  wants_else i q false at off other =
      wants_none n (x1 later waits also a out x o s is) s v (first.apart_one later waits also a out x o s is) (books later waits also a out x o s is).calls kept kept_one i q at other
      (first.was_still later waits also a out x o s is line.Transparent refl refl)

  pub uncut : IsStill line.Cut p v
  uncut = first.plain later waits also a out x o s is line.Cut refl (first.was_still later waits also a out x o s is line.Cut refl refl)

  pub next_two : following v ≡ Some makes
  next_two =
      first_line_gives line.Transparent makes p v now_open (λ l less. before_retry (is_loss p.event) l less (λ (q : Line). IsStill q p v) uncut)
      (ap (option_map (transparent_retry v))
      (found_one (λ (q : Attempt). wants_follower q v) a.place v.attempts then_ there wants_one (λ i q at off. wants_else i q (q.row.call == n) at off refl))
      ∙ ap (λ (m : ℕ). Some (action.AttemptMade m a.row.number kind.Transparent (now v))) (call_is later waits also a out x o s is))

  pub does_two : Does (makes ∷ []) v t
  does_two = (next_two, sym after_two)

  pub kept_two : IsKept t
  kept_two = kept_along (makes ∷ []) v t kept_one does_two

  pub of_call_two : ActionsAreOfCall n (makes ∷ []) v
  of_call_two = (record { acts = eq-eqb n n refl; passes = λ g at off. refl }, tt)

  booked : (q : Seen) → IsKept q → IsBooked q
  booked q h = record { book = h.book; owned = h.owned; reads = h.reads }

  abbrev act : Action
  act = first.act later waits also a out x o s is

  does_both : Does (act ∷ makes ∷ []) s t
  does_both = (is.next, subst (λ (q : Seen). Does (makes ∷ []) q t) (sym (first.after_is later waits also a out x o s is)) does_two)

  pub apart_two : GoesApart n s t
  apart_two = record {
    actions = act ∷ makes ∷ [];
    does = does_both;
    apart = of_call_on n (act ∷ []) (makes ∷ []) s v (first.does_one later waits also a out x o s is) (first.of_call_one later waits also a out x o s is) of_call_two;
    earlier = booked s kept;
    later = booked t kept_two;
  }

  -- the call is in turn
  made_then : attempt_made n a.row.number kind.Transparent (now v) (attempt_ended a.place end_ s) ≡ t
  made_then = ap (attempt_made n a.row.number kind.Transparent (now v)) (t_is later waits also a out x o s is)

  turned : StaysSteady t n
  turned =
      subst (λ (q : Seen). StaysSteady q n) made_then
      (retrying_keeps s k a.place a end_ (now v) kept.book (subst IsBook (sym (t_is later waits also a out x o s is)) kept_one.book) (subst IsBook (sym made_then) kept_two.book)
      own unended steady)

  same_turned : turned.call ≡ dt
  same_turned =
      let two : Some turned.call ≡ Some dt = sym turned.own ∙ dt_here in
      (cc)

  pub turn_two : IsInTurn t dt
  turn_two = subst (λ (g : Call). IsInTurn t g) same_turned turned.steady.turn

  pub quiescent_two : list_any (waits_to_follow t dt) t.attempts ≡ false
  quiescent_two = subst (λ (g : Call). list_any (waits_to_follow t g) t.attempts ≡ false) same_turned turned.steady.quiescent

  pub uninherited : IsStill line.Inherited p v
  uninherited = first.plain later waits also a out x o s is line.Inherited refl (first.was_still later waits also a out x o s is line.Inherited refl refl)

  pub tokens_two : (i : ℕ) → is_some (numbered v.runs i) ≡ true → tokens_in_run t (Some i) ≡ tokens_in_run v (Some i)
  tokens_two i some = subst (λ (q : Seen). tokens_in_run q (Some i) ≡ tokens_in_run v (Some i)) after_two (tokens_stay v makes i kept_one.book tt some refl)

  -- the retry alone, or the retry and what it takes over: actions of the session, and after them the calls, the marks of the call, and the commitment of the retry
  pub record Retry : Type 0 where
    pub actions : List Action
    pub calls : List Call
    pub marks : List Mark
    pub stamp : Option ℕ

  abbrev pub fresh : Retry → Attempt
  fresh r = record new { row = record new.row { committed = r.stamp } }

  abbrev pub attempts : Retry → List Attempt
  attempts r = v.attempts ++ fresh r ∷ []

  abbrev pub grown : Retry → Seen
  grown r = record v { attempts = attempts r }

  abbrev pub done : Retry → Seen
  done r = record v { calls = r.calls; attempts = attempts r }

  abbrev pub its : Retry → Call
  its r = record dk { marks = r.marks }

  -- what each case has to show
  pub record Leads (r : Retry) : Type 0 where
    pub does : Does r.actions v (done r)
    pub of_call : ActionsAreOfCall n r.actions v
    pub posts : posted_in r.actions ≡ []
    pub netless : list_any is_of_net r.actions ≡ false
    pub here : numbered r.calls n ≡ Some (its r)
    pub count : length r.calls ≡ length v.calls
    pub reported : (l : Line) → stirs (action.HedgeWithheld n) l ≡ false → IsStill l p (grown r) → IsStill l p (done r)
    pub turn : IsInTurn (done r) (its r)
    pub quiescent : list_any (waits_to_follow (done r) (its r)) (attempts r) ≡ false
    pub over : (q : Attempt) → is_over q (grown r) ≡ is_over q v
    pub free : (g : Call) → is_none (commitment g (grown r)) ≡ is_none (commitment g v)
    pub long : (g : Call) → has_long_response v g ≡ false → has_long_response (grown r) g ≡ false
    pub inherited : list_any (is_inherited (grown r)) (attempts r) ≡ false
    pub row : is_over_by_row (done r) (its r) ≡ false
    pub final : (i : ℕ) (q : Attempt) → slice_get (attempts r) i ≡ Some q → (q.row.call == n) ≡ true → is_final_in q (done r) (its r) ≡ false
    pub tokens : (i : ℕ) → is_some (numbered v.runs i) ≡ true → tokens_in_run (done r) (Some i) ≡ tokens_in_run v (Some i)
