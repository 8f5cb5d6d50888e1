-- Deadlines that have come end their calls before the event is applied.
use Rattle.std.proofs.Common.{◌≡◌, ◌∷◌, ◌||◌, ap, refl, ◌∙◌, Bool, true, false, List, [], Option, None, Some, ℕ, zero, suc, cond, filter, if◌then◌else◌, slice_get}
use Rattle.std.proofs.lemmas.Bool.{or_parts}
use Rattle.std.specs.List.{list_any}
use Rattle.std.specs.Option.{option_map, option_or}
use Rattle.session_actions.specs.Actions.{following, of_stage}
use Rattle.session_actions.specs.CallEnds.{ending_call, is_due_before, is_past_deadline}
use Rattle.session_actions.specs.Events.{event_action}
use Rattle.session_actions.specs.Words.{earlier, foremost}
use Rattle.session_actions.specs.declared.action.Action.{Action}
use Rattle.session_actions.specs.declared.call.Call.{Call}
use Rattle.session_actions.specs.declared.entry.OpenEntry.{OpenEntry}
use Rattle.session_actions.specs.declared.seen.Seen.{Seen}
use Rattle.session_order.specs.SessionLaws.Deadlines.{DeadlinesEndCalls, EventsFollowDeadlines}
use Rattle.session_order.proofs.Quiescence.{quiescence_leaves_stage}
use Rattle.session_order.specs.Quiescent.{IsQuiescent}
use Rattle.session_actions.specs.declared.action.Action.TheVariants as action
use Rattle.grpc_base.specs.declared.event.EndCause.TheVariants as ending
use Rattle.session_actions.specs.declared.entry.Stage.TheVariants as stage

-- those that pass
filter_none : {X : Type 0} (test : X → Bool) (xs : List X) → list_any test xs ≡ false → filter test xs ≡ []
filter_none test [] e = refl
filter_none test (z ∷ zs) e =
    let parts : (test z ≡ false) × (list_any test zs ≡ false) = or_parts (test z) (list_any test zs) e in
    ap (λ (b : Bool). cond b (z ∷ filter test zs) (filter test zs)) parts.0 ∙ filter_none test zs parts.1

none_if : {X : Type 0} (test : X → Bool) (z : X) (zs : List X) (b : Bool) → cond b (z ∷ filter test zs) (filter test zs) ≡ []
    → (filter test zs ≡ [] → list_any test zs ≡ false) → (b || list_any test zs) ≡ false
none_if test z zs true e rest = absurd (cc)
none_if test z zs false e rest = rest e

none_left : {X : Type 0} (test : X → Bool) (xs : List X) → filter test xs ≡ [] → list_any test xs ≡ false
none_left test [] e = refl
none_left test (z ∷ zs) e = none_if test z zs (test z) e (none_left test zs)

passes_if : {X : Type 0} (test : X → Bool) (z : X) (zs : List X) (b : Bool) (i : ℕ) (x : X) → test z ≡ b
    → slice_get (cond b (z ∷ filter test zs) (filter test zs)) i ≡ Some x → ((j : ℕ) → slice_get (filter test zs) j ≡ Some x → test x ≡ true) → test x ≡ true
passes_if test z zs true zero x is e rest = (let one : x ≡ z = (cc) in ap test one ∙ is)
passes_if test z zs true (suc i) x is e rest = rest i e
passes_if test z zs false i x is e rest = rest i e

filter_passes : {X : Type 0} (test : X → Bool) (xs : List X) (i : ℕ) (x : X) → slice_get (filter test xs) i ≡ Some x → test x ≡ true
filter_passes test [] i x e = absurd (cc)
filter_passes test (z ∷ zs) i x e = passes_if test z zs (test z) i x refl e (λ j f. filter_passes test zs j x f)

-- the foremost is one of them
earlier_if : {X : Type 0} (test : X → Bool) (z y : X) (b : Bool) → test z ≡ true → test y ≡ true → test (if b then y else z) ≡ true
earlier_if test z y true e f = f
earlier_if test z y false e f = e

earlier_passes : {X : Type 0} (test : X → Bool) (before : X → X → Bool) (z : X) (o : Option X) → test z ≡ true → ((y : X) → o ≡ Some y → test y ≡ true)
    → test (earlier before z o) ≡ true
earlier_passes test before z None e rest = e
earlier_passes test before z (Some y) e rest = earlier_if test z y (before y z) e (rest y refl)

foremost_passes : {X : Type 0} (test : X → Bool) (before : X → X → Bool) (xs : List X) → ((i : ℕ) (x : X) → slice_get xs i ≡ Some x → test x ≡ true)
    → (y : X) → foremost before xs ≡ Some y → test y ≡ true
foremost_passes test before [] all y e = absurd (cc)
foremost_passes test before (z ∷ zs) all y e =
    let one : y ≡ earlier before z (foremost before zs) = (cc) in
    ap test one
    ∙ earlier_passes test before z (foremost before zs) (all 0 z refl) (foremost_passes test before zs (λ i x f. all (suc i) x f))

-- what comes at the event
abbrev at_event : OpenEntry → Seen → List Call → Option Action
at_event o s past =
    option_or (option_map (ending_call ending.Deadline) (foremost (is_due_before s) past)) (option_or (event_action o.event s) None)

comes : (o : OpenEntry) (s : Seen) → s.current ≡ Some o → o.stage ≡ stage.Event → IsQuiescent o s
    → following s ≡ at_event o s (filter (is_past_deadline s) s.calls)
comes o s now at quiescent = quiescence_leaves_stage o s now quiescent ∙ ap (of_stage o s) at

or_none : {X : Type 0} (o : Option X) → option_or o None ≡ o
or_none None = refl
or_none (Some x) = refl

pub events_follow_deadlines : EventsFollowDeadlines
events_follow_deadlines o s now at quiescent none =
    comes o s now at quiescent ∙ ap (at_event o s) (filter_none (is_past_deadline s) s.calls none) ∙ or_none (event_action o.event s)

ends_by : (o : OpenEntry) (s : Seen) (past : List Call) → filter (is_past_deadline s) s.calls ≡ past → list_any (is_past_deadline s) s.calls ≡ true
    → following s ≡ at_event o s past
    → (c : Call) × (is_past_deadline s c ≡ true) × (following s ≡ Some (action.CallEnds c.number ending.Deadline))
ends_by o s [] e some next = (let none : list_any (is_past_deadline s) s.calls ≡ false = none_left (is_past_deadline s) s.calls e in absurd (cc))
ends_by o s (z ∷ zs) e some next =
    let c : Call = earlier (is_due_before s) z (foremost (is_due_before s) zs) in
    let passes : is_past_deadline s c ≡ true =
    foremost_passes (is_past_deadline s) (is_due_before s) (filter (is_past_deadline s) s.calls) (filter_passes (is_past_deadline s) s.calls) c
    (ap (foremost (is_due_before s)) e) in
    (c, passes, next)

pub deadlines_end_calls : DeadlinesEndCalls
deadlines_end_calls o s now at quiescent some =
    ends_by o s (filter (is_past_deadline s) s.calls) refl some (comes o s now at quiescent)
