-- A message is accepted only where nothing else of calls follows: no line of calls gives this action.
use Rattle.std.proofs.Common.{◌≡◌, ◌&&◌, ap, refl, sym, ◌∙◌, Bool, true, false, List, [], ◌∷◌, Option, None, Some, ℕ, if◌then◌else◌}
use Rattle.std.proofs.lemmas.Bool.{both_ways}
use Rattle.std.specs.List.{list_any}
use Rattle.std.specs.Option.{option_and_then, option_map, option_or}
use Rattle.std.specs.Prelude.{find}
use Rattle.session_actions.specs.Actions.{following, following_in, of_calls, of_links, of_policies, of_stage}
use Rattle.session_actions.specs.AttemptEnds.{cut, cut_end, end_of, next_cut}
use Rattle.session_actions.specs.Attempts.{is_outstanding, is_over, wants_follower}
use Rattle.session_actions.specs.CallEnds.{ending_call, has_long_request, has_long_response, is_cancelled, is_over_by_row, next_ended}
use Rattle.session_actions.specs.Commitments.{committing, is_final_end, is_headed, is_inherited, next_final, next_headed, next_inherited, next_overflow, overflow_row}
use Rattle.session_actions.specs.Making.{next_transparent, transparent_retry}
use Rattle.session_actions.specs.Words.{first_of, holds}
use Rattle.session_actions.specs.declared.action.Action.{Action}
use Rattle.session_actions.specs.declared.action.Action.TheVariants as action
use Rattle.session_actions.specs.declared.action.CommitCause.TheVariants as commit
use Rattle.grpc_base.specs.declared.event.EndCause.TheVariants as ending
use Rattle.session_actions.specs.declared.attempt.Attempt.{Attempt}
use Rattle.session_actions.specs.declared.entry.OpenEntry.{OpenEntry}
use Rattle.session_actions.specs.declared.seen.Seen.{Seen}
use Rattle.session_order.proofs.Lines.{lines_are_still}
use Rattle.session_order.specs.Quiescent.{IsStill}
use Rattle.session_order.specs.declared.line.Line.TheVariants as line

-- a message is accepted
abbrev accepts : Action → Bool
accepts (action.MessageAccepted call) = true
accepts _ = false

abbrev Keeps : Option Action → Type 0
Keeps o = holds accepts o ≡ false

map_keeps : {X : Type 0} (f : X → Action) → ((x : X) → accepts (f x) ≡ false) → (o : Option X) → Keeps (option_map f o)
map_keeps f other None = refl
map_keeps f other (Some x) = other x

or_keeps : (o p : Option Action) → Keeps o → Keeps p → Keeps (option_or o p)
or_keeps None p e f = f
or_keeps (Some a) p e f = e

first_keeps : {X : Type 0} (f : X → Option Action) → ((x : X) → Keeps (f x)) → (xs : List X) → Keeps (first_of f xs)
first_keeps f other [] = refl
first_keeps f other (x ∷ xs) = or_keeps (f x) (first_of f xs) (other x) (first_keeps f other xs)

if_keeps : (b : Bool) (o p : Option Action) → Keeps o → Keeps p → Keeps (if b then o else p)
if_keeps true o p e f = e
if_keeps false o p e f = f

found_keeps : {X : Type 0} (f : X → Action) → ((x : X) → accepts (f x) ≡ false) → (test : X → Bool) (xs : List X) → Keeps (option_map f (find test xs))
found_keeps f other test xs = map_keeps f other (find test xs)

calls_keep : (o : OpenEntry) (s : Seen) → Keeps (of_calls o s)
calls_keep o s =
    or_keeps (next_cut s) _ (first_keeps (cut s) (λ a. if_keeps (is_outstanding a && is_over a s) (Some (action.AttemptEnds a.place (end_of a cut_end s))) None refl refl) s.attempts)
    (or_keeps (next_transparent s) _ (found_keeps (transparent_retry s) (λ a. refl) (λ (a : Attempt). wants_follower a s) s.attempts)
    (or_keeps (next_inherited s) _ (found_keeps (committing commit.Inherited) (λ a. refl) (is_inherited s) s.attempts)
    (or_keeps (next_ended ending.Row (is_over_by_row s) s) _ (found_keeps (ending_call ending.Row) (λ c. refl) (is_over_by_row s) s.calls)
    (or_keeps (next_final s) _ (found_keeps (committing commit.Final) (λ a. refl) (is_final_end s) s.attempts)
    (or_keeps (next_ended ending.Cancelled (is_cancelled o) s) _ (found_keeps (ending_call ending.Cancelled) (λ c. refl) (is_cancelled o) s.calls)
    (or_keeps (next_ended ending.Request (has_long_request o s) s) _ (found_keeps (ending_call ending.Request) (λ c. refl) (has_long_request o s) s.calls)
    (or_keeps (next_overflow s) _ (map_keeps (committing commit.Overflow) (λ a. refl) (first_of (overflow_row s) s.calls))
    (or_keeps (next_headed s) _ (found_keeps (committing commit.Head) (λ a. refl) (is_headed s) s.attempts)
    (or_keeps (next_ended ending.Response (has_long_response s) s) None (found_keeps (ending_call ending.Response) (λ c. refl) (has_long_response s) s.calls)
    refl)))))))))

-- so none of them gives anything where one is
none_by : (o p : Option Action) (call : ℕ) → Keeps o → option_or o p ≡ Some (action.MessageAccepted call) → o ≡ None
none_by None p call keeps e = refl
none_by (Some a) p call keeps e =
    let same : a ≡ action.MessageAccepted call = (cc) in
    absurd (both_ways (accepts a) keeps (ap accepts same))

both_none : (o p : Option Action) → option_or o p ≡ None → (o ≡ None) × (p ≡ None)
both_none None p e = (refl, e)
both_none (Some a) p e = absurd (cc)

calls_are_still : (o : OpenEntry) (s : Seen) (call : ℕ) → s.current ≡ Some o → following s ≡ Some (action.MessageAccepted call) → of_calls o s ≡ None
calls_are_still o s call at next =
    none_by (of_calls o s) (option_or (of_links o s) (option_or (of_policies o s) (option_or (of_stage o s o.stage) None))) call (calls_keep o s)
    (sym (ap (option_and_then (following_in s)) at) ∙ next)

overflow_none : (o : OpenEntry) (s : Seen) → of_calls o s ≡ None → next_overflow s ≡ None
overflow_none o s e =
    let one = both_none (next_cut s) _ e in
    let two = both_none (next_transparent s) _ one.1 in
    let three = both_none (next_inherited s) _ two.1 in
    let four = both_none (next_ended ending.Row (is_over_by_row s) s) _ three.1 in
    let five = both_none (next_final s) _ four.1 in
    let six = both_none (next_ended ending.Cancelled (is_cancelled o) s) _ five.1 in
    let seven = both_none (next_ended ending.Request (has_long_request o s) s) _ six.1 in
    (both_none (next_overflow s) _ seven.1).0

pub no_overflow : (o : OpenEntry) (s : Seen) (call : ℕ) → s.current ≡ Some o → following s ≡ Some (action.MessageAccepted call) → IsStill line.Overflow o s
no_overflow o s call at next = (lines_are_still line.Overflow o s).0 (overflow_none o s (calls_are_still o s call at next))
