-- All calls of a channel that was shut down end, the lowest number first.
use Rattle.std.proofs.Common.{◌≡◌, ◌≤◌, ◌<◌, ◌&&◌, ◌||◌, ◌++◌, ◌+◌, ◌==◌, ◌∷◌, ap, arith, eqb-true, refl, subst, sym, ◌∙◌, Bool, true, false, cond, List, [], None, Option, Some, ℕ, zero, suc, find, if◌then◌else◌, is_none, is_some, length, min, nat_lt, not, slice_get}
use Rattle.std.proofs.lemmas.Bool.Decides.{nat_tests}
use Rattle.std.specs.Option.{option_map}
use Rattle.attempt_ledger.specs.declared.ledger.CallEnd.{CallEnd}
use Rattle.call_actions.proofs.Places.{places_below}
use Rattle.call_core.specs.Steps as call
use Rattle.call_core.specs.Steps.{lent}
use Rattle.channel_actions.proofs.Does.{does_on, none_on}
use Rattle.call_cases.proofs.EndsFollow.Follow.{rest_on, rest_self}
use Rattle.call_cases.proofs.OtherCalls.Rows.{others_are_same}
use Rattle.channel_actions.proofs.Stamps.{counted_at}
use Rattle.channel_actions.specs.Agrees.{Agrees}
use Rattle.call_cases.specs.EndsFollow.Cuts.{NoStreamIsToReset}
use Rattle.call_cases.specs.EndsFollow.Laws.{IsSameRest, is_late}
use Rattle.call_cases.proofs.CallEnds.Late.{ended_too, has, no_deadline, no_due, unasked}
use Rattle.call_cases.proofs.OneCallEnds.Whole.{WholeEnd, whole_end}
use Rattle.call_cases.specs.CallEnds.Ends.{EndsNext}
use Rattle.channel_core.specs.Applying.{calls_closed, closed_at}
use Rattle.channel_core.specs.States.{StateSeen}
use Rattle.channel_core.specs.Steps.{closed}
use Rattle.channel_core.specs.Tables.{tokens_in}
use Rattle.channel_core.specs.Timing.{number_of}
use Rattle.grpc_base.specs.declared.event.EndCause.TheVariants as ending
use Rattle.session_actions.specs.Actions.{following}
use Rattle.session_actions.specs.CallEnds.{ending_call, is_shut_down}
use Rattle.session_actions.specs.Events.{is_loss}
use Rattle.session_actions.specs.Laws.{posted_in}
use Rattle.session_actions.specs.Sessions.{Does}
use Rattle.session_actions.specs.Words.{numbered}
use Rattle.session_actions.specs.declared.action.Action.{Action}
use Rattle.session_actions.specs.declared.action.Action.TheVariants as action
use Rattle.session_actions.specs.declared.call.Call.{Call}
use Rattle.session_actions.specs.declared.entry.OpenEntry.{OpenEntry}
use Rattle.session_actions.specs.declared.seen.Seen.{Seen}
use Rattle.session_order.proofs.Quiescence.{first_line_gives}
use Rattle.session_order.proofs.Ended.{ended_leaves}
use Rattle.session_order.specs.Quiescent.{IsStill}
use Rattle.session_order.specs.Lines.{is_line, rank}
use Rattle.session_order.specs.declared.line.Line.{Line}
use Rattle.session_order.specs.declared.line.Line.TheVariants as line

-- nothing late comes before the line of calls that end
before_shut : (loses : Bool) (m : Line) → nat_lt (rank loses m) (rank loses line.Shut) ≡ true → is_late m ≡ false
before_shut loses line.Cut e = refl
before_shut loses line.Transparent e = refl
before_shut loses line.Inherited e = refl
before_shut loses line.Row e = refl
before_shut loses line.Final e = refl
before_shut loses line.Cancelled e = refl
before_shut loses line.Request e = refl
before_shut loses line.Overflow e = refl
before_shut loses line.Head e = refl
before_shut loses line.Response e = refl
before_shut loses line.Pick e = refl
before_shut loses line.Link e = refl
before_shut loses line.WireEnd e = refl
before_shut loses line.Reset e = refl
before_shut loses line.Shut e = absurd (cc)
before_shut loses line.Retire e = absurd (cc)
before_shut loses line.Begin e = absurd (cc)
before_shut loses line.Give e = absurd (cc)
before_shut loses line.Drop e = absurd (cc)
before_shut loses line.Add e = absurd (cc)

-- the first that passes
found_by : {X : Type 0} (p : X → Bool) (x a : X) (xs : List X) (b : Bool) → p x ≡ b → b ≡ false → find p xs ≡ Some a → cond b (Some x) (find p xs) ≡ Some a
found_by p x a xs true e f rest = absurd (cc)
found_by p x a xs false e f rest = rest

found_at : {X : Type 0} (p : X → Bool) (xs : List X) (i : ℕ) (a : X) → slice_get xs i ≡ Some a → p a ≡ true → ((j : ℕ) (x : X) → j < i → slice_get xs j ≡ Some x → p x ≡ false)
    → find p xs ≡ Some a
found_at p [] i a at passes none = absurd (cc)
found_at p (x ∷ xs) zero a at passes none =
    let same : x ≡ a = (cc) in ap (λ (b : Bool). cond b (Some x) (find p xs)) (ap p same ∙ passes) ∙ ap (λ (z : _). Some z) same
found_at p (x ∷ xs) (suc i) a at passes none =
    found_by p x a xs (p x) refl (none zero x (omega arith) refl) (found_at p xs i a at passes (λ j y less there. none (suc j) y (omega (arith, less)) there))

-- there is one at each place
there_at : {X : Type 0} (xs : List X) (i more : ℕ) → i + suc more ≡ length xs → (x : X) × (slice_get xs i ≡ Some x)
there_at [] i more e = absurd (let bad : i + suc more ≡ 0 = e in omega (arith, bad))
there_at (x ∷ xs) zero more e = (x, refl)
there_at (x ∷ xs) (suc i) more e = there_at xs i more (let le : suc i + suc more ≡ suc (length xs) = e in omega (arith, le))

below_of : (k i : ℕ) → k ≤ i + 1 → (k == suc i) ≡ false → k ≤ i
below_of k i less off = grind (arith, nat_tests)

or_none : (b : Bool) → b ≡ false → (b || false) ≡ false
or_none b e = ap (λ (z : Bool). z || false) e

-- where the loop stands: the calls up to a number have ended
pub record Loop (index more : ℕ) (z : StateSeen) (o : OpenEntry) (t : Seen) : Type 0 where
  pub agrees : Agrees z t
  pub current : t.current ≡ Some o
  pub still : (l : Line) → is_late l ≡ false → IsStill l o t
  pub unreset : NoStreamIsToReset t
  pub shut : t.shut ≡ true
  pub over : (k : ℕ) (d : Call) → k ≤ index → numbered t.calls k ≡ Some d → is_some d.end ≡ true
  pub count : index + more ≡ length t.calls
  pub few : length t.calls ≤ 4294967295

-- all have ended
pub record AllOver (y : StateSeen) (o : OpenEntry) (t : Seen) : Type 0 where
  pub actions : List Action
  pub seen : Seen
  pub does : Does actions t seen
  pub posts : posted_in actions ≡ []
  pub rest : IsSameRest t seen
  pub current : seen.current ≡ Some o
  pub still : (l : Line) → is_late l ≡ false → IsStill l o seen
  pub agrees : Agrees y seen
  pub over : (k : ℕ) (d : Call) → numbered seen.calls k ≡ Some d → is_some d.end ≡ true

none_end : (q : Option CallEnd) → is_some q ≡ false → q ≡ None
none_end None e = refl
none_end (Some k) e = absurd (cc)

-- the call of the next number
module _ (index more : ℕ) (z : StateSeen) (o : OpenEntry) (t : Seen) (w : Loop index (suc more) z o t) where
  abbrev n : ℕ
  n = suc index

  pub here : (c : Call) × (numbered t.calls n ≡ Some c)
  here = there_at t.calls index more w.count

  number_is : (m : ℕ) → index + suc more ≡ m → m ≤ 4294967295 → min (number_of index + 1) 4294967295 ≡ suc index
  number_is m e f = omega arith

  pub step_is : closed_at index z ≡ closed ending.Shut n z
  step_is = ap (λ (k : ℕ). closed ending.Shut k z) (number_is (length t.calls) w.count w.few)

  -- it has ended before
  module _ (ended : is_some here.0.end ≡ true) where
    same : closed ending.Shut n z ≡ z
    same =
        unasked (call.closed_by ending.Shut z.book.moment) n z (has z t w.agrees n here.0 here.1 ended).slot (has z t w.agrees n here.0 here.1 ended).there
        (ap (λ (b : Bool). if not b then call.ended_as ending.Shut z.book.moment
        (lent (has z t w.agrees n here.0 here.1 ended).slot.call z.book.ledger (tokens_in z.book.buckets (has z t w.agrees n here.0 here.1 ended).slot.bucket) [])
        else lent (has z t w.agrees n here.0 here.1 ended).slot.call z.book.ledger (tokens_in z.book.buckets (has z t w.agrees n here.0 here.1 ended).slot.bucket) [])
        (ended_too z t w.agrees n here.0 here.1 ended))
        (no_due z t w.agrees n here.0 here.1 ended) (no_deadline z t w.agrees n here.0 here.1 ended) w.agrees.sets.resets

    over_by : (k : ℕ) (d : Call) (b : Bool) → (k == n) ≡ b → k ≤ index + 1 → numbered t.calls k ≡ Some d → is_some d.end ≡ true
    over_by k d true e less there =
        let both : Some here.0 ≡ Some d = sym here.1 ∙ sym (ap (numbered t.calls) (eqb-true k n e)) ∙ there in
        let one : here.0 ≡ d = (cc) in ap (λ (c : Call). is_some c.end) (sym one) ∙ ended
    over_by k d false e less there = w.over k d (below_of k index less e) there

    pub ended_before : Loop (index + 1) more (closed_at index z) o t
    ended_before = subst (λ (x : StateSeen). Loop (index + 1) more x o t) (sym (step_is ∙ same)) (record {
      agrees = w.agrees;
      current = w.current;
      still = w.still;
      unreset = w.unreset;
      shut = w.shut;
      over = λ k d less there. over_by k d (k == n) refl less there;
      count = (let e : index + suc more ≡ length t.calls = w.count in omega (arith, e));
      few = w.few;
    })

  -- or it ends now
  module _ (goes : here.0.end ≡ None) where
    numbers : (k : ℕ) (d : Call) → numbered t.calls k ≡ Some d → d.number ≡ k
    numbers k d there = counted_at (λ (e : Call). e.number) t.calls k d w.agrees.kept.calls there

    passes : is_shut_down t here.0 ≡ true
    passes = ap (λ (q : Option CallEnd). is_none q && t.shut) goes ∙ w.shut

    not_open : (q : Option CallEnd) (b : Bool) → is_some q ≡ true → (is_none q && b) ≡ false
    not_open None b e = absurd (cc)
    not_open (Some k) b e = refl

    none_before : (j : ℕ) (d : Call) → j < index → slice_get t.calls j ≡ Some d → is_shut_down t d ≡ false
    none_before j d less there = not_open d.end t.shut (w.over (suc j) d (omega (arith, less)) there)

    first : option_map (ending_call ending.Shut) (find (is_shut_down t) t.calls) ≡ Some (action.CallEnds n ending.Shut)
    first =
        ap (option_map (ending_call ending.Shut)) (found_at (is_shut_down t) t.calls index here.0 here.1 passes none_before)
        ∙ ap (λ (k : ℕ). Some (action.CallEnds k ending.Shut)) (numbers n here.0 here.1)

    next : following t ≡ Some (action.CallEnds n ending.Shut)
    next =
        first_line_gives line.Shut (action.CallEnds n ending.Shut) o t w.current (λ m before. w.still m (before_shut (is_loss o.event) m before)) first

    ends_next : EndsNext is_late n ending.Shut z o t
    ends_next = record {
      late = λ l e. e;
      current = w.current;
      agrees = w.agrees;
      unreset = w.unreset;
      call = here.0;
      there = here.1;
      going = goes;
      next = next;
      uncut = w.still line.Cut refl;
      unfollowed = w.still line.Transparent refl;
      still = λ l cut early. ended_leaves n ending.Shut o t w.current numbers l o w.current (or_none (is_line l line.Cut) cut) (w.still l early);
    }

    pub end : WholeEnd is_late n ending.Shut z o t
    end = whole_end is_late n ending.Shut z o t ends_next

    other_by : (k : ℕ) (d : Call) (b : Bool) → (k == n) ≡ b → k ≤ index + 1 → numbered end.ended.seen.calls k ≡ Some d → is_some d.end ≡ true
    other_by k d true e less there = end.over d (ap (numbered end.ended.seen.calls) (sym (eqb-true k n e)) ∙ there)
    other_by k d false e less there = w.over k d (below_of k index less e) (sym (others_are_same n t end.ended.seen end.apart k e) ∙ there)

    pub ended_now : Loop (index + 1) more (closed_at index z) o end.ended.seen
    ended_now = subst (λ (x : StateSeen). Loop (index + 1) more x o end.ended.seen) (sym step_is) (record {
      agrees = end.ended.agrees;
      current = end.ended.current;
      still = end.ended.still;
      unreset = end.ended.unreset;
      shut = end.rest.shut ∙ w.shut;
      over = λ k d less there. other_by k d (k == n) refl less there;
      count = (let e : index + suc more ≡ length t.calls = w.count in let f : length end.ended.seen.calls ≡ length t.calls = end.long in omega (arith, e, f));
      few = subst (λ (k : ℕ). k ≤ 4294967295) (sym end.long) w.few;
    })

    pub then_on : (y : StateSeen) → AllOver y o end.ended.seen → AllOver y o t
    then_on y k = record {
      actions = (action.CallEnds n ending.Shut ∷ end.ended.actions) ++ k.actions;
      seen = k.seen;
      does = does_on (action.CallEnds n ending.Shut ∷ end.ended.actions) k.actions t end.ended.seen k.seen end.ended.does k.does;
      posts = none_on (action.CallEnds n ending.Shut ∷ end.ended.actions) k.actions end.ended.posts k.posts;
      rest = rest_on t end.ended.seen k.seen end.rest k.rest;
      current = k.current;
      still = k.still;
      agrees = k.agrees;
      over = k.over;
    }

-- and so on
next_by : (index more : ℕ) (z : StateSeen) (o : OpenEntry) (t : Seen) (w : Loop index (suc more) z o t) (b : Bool) → is_some (here index more z o t w).0.end ≡ b
    → ((u : Seen) → Loop (index + 1) more (closed_at index z) o u → AllOver (calls_closed more (index + 1) (closed_at index z)) o u)
    → AllOver (calls_closed more (index + 1) (closed_at index z)) o t
next_by index more z o t w true e rest = rest t (ended_before index more z o t w e)
next_by index more z o t w false e rest =
    let goes : (here index more z o t w).0.end ≡ None = none_end (here index more z o t w).0.end e in
    then_on index more z o t w goes (calls_closed more (index + 1) (closed_at index z)) (rest (end index more z o t w goes).ended.seen (ended_now index more z o t w goes))

pub all_over : (more index : ℕ) (z : StateSeen) (o : OpenEntry) (t : Seen) → Loop index more z o t → AllOver (calls_closed more index z) o t
all_over zero index z o t w = record {
  actions = [];
  seen = t;
  does = refl;
  posts = refl;
  rest = rest_self t;
  current = w.current;
  still = w.still;
  agrees = w.agrees;
  over = λ k d there. w.over k d (let e : index + 0 ≡ length t.calls = w.count in let f : k ≤ length t.calls = places_below t.calls k d there in omega (arith, e, f)) there;
}
all_over (suc more) index z o t w =
    next_by index more z o t w (is_some (here index more z o t w).0.end) refl (λ u v. all_over more (index + 1) (closed_at index z) o u v)
