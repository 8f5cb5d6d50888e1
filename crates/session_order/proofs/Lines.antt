-- A line gives nothing exactly where it is still.
use Rattle.std.proofs.Common.{◌≡◌, ◌&&◌, ◌==◌, refl, sym, ◌∙◌, Bool, true, false, Option, None, Some, ℕ, filter, is_none, is_some, nat_lt, not, ◌↔◌, List, if◌then◌else◌}
use Rattle.std.specs.List.{list_any}
use Rattle.std.specs.Option.{option_and_then, option_map}
use Rattle.std.specs.Prelude.{find}
use Rattle.attempt_ledger.specs.declared.ledger.Ask.{Ask}
use Rattle.grpc_base.specs.declared.address.Address.{Address}
use Rattle.grpc_base.specs.declared.kind.Kind.{Kind}
use Rattle.grpc_base.specs.declared.kind.Pick.{Pick}
use Rattle.session_actions.specs.AttemptEnds.{cut, cut_end, end_of, outcome_of, reset_code_of, next_reset, reset_of, wire_end}
use Rattle.session_actions.specs.Attempts.{is_of, is_outstanding, is_over, wants_follower}
use Rattle.session_actions.specs.CallEnds.{ending_call, has_long_request, has_long_response, is_cancelled, is_over_by_row, is_shut_down}
use Rattle.session_actions.specs.Commitments.{committing, is_final_end, is_free_call, is_further, is_headed, is_inherited, overflow_row}
use Rattle.session_actions.specs.Entries.{entry}
use Rattle.session_actions.specs.Links.{is_stream_before}
use Rattle.session_actions.specs.Making.{transparent_retry}
use Rattle.session_actions.specs.Policies.{begin_if, follow_ask, follow_pick, is_same_kind, is_to_retire, is_unfollowed, listed, live_policies, live_sub, placed_on, wanted_kind, wants_addresses}
use Rattle.session_actions.specs.Subchannels.{is_to_be_ready, is_to_go_down, is_unlisted, link_action}
use Rattle.session_actions.specs.Words.{first_of, foremost, holds, last_of, numbered}
use Rattle.session_actions.specs.Writing.{accepted_bytes}
use Rattle.session_actions.specs.declared.action.Action.{Action}
use Rattle.session_actions.specs.declared.attempt.Attempt.{Attempt}
use Rattle.session_actions.specs.declared.call.Call.{Call}
use Rattle.session_actions.specs.declared.entry.OpenEntry.{OpenEntry}
use Rattle.session_actions.specs.declared.policy.PolicyUse.{PolicyUse}
use Rattle.session_actions.specs.declared.response.Outcome.{Outcome}
use Rattle.session_actions.specs.declared.seen.Seen.{Seen}
use Rattle.session_actions.specs.declared.subchannel.Subchannel.{Subchannel}
use Rattle.session_order.proofs.Lists.{foremost_passes, is_nothing, none_is, some_find, some_first, some_foremost, some_map, some_one, some_then, some_two}
use Rattle.session_order.specs.Quiescent.{IsStill, can_follow, is_link_new, is_overflowing, is_to_cut, is_to_end, is_to_follow_pick, is_to_reset, lacks_kind}
use Rattle.session_order.specs.Lines.{gives}
use Rattle.session_order.specs.declared.line.Line.{Line}
use Rattle.session_actions.specs.declared.action.Action.TheVariants as action
use Rattle.session_order.specs.declared.line.Line.TheVariants as line
use Rattle.session_actions.specs.declared.action.CommitCause.TheVariants as commit
use Rattle.grpc_base.specs.declared.event.EndCause.TheVariants as ending
use Rattle.grpc_base.specs.declared.kind.Pick.TheVariants as pick

-- of what is found first
found : {X : Type 0} (f : X → Action) (test : X → Bool) (xs : List X) → is_some (option_map f (find test xs)) ≡ list_any test xs
found f test xs = some_map f (find test xs) ∙ some_find test xs

if_map : {X : Type 0} (b : Bool) (f : X → Action) (o : Option X) → is_some (if b then option_map f o else None) ≡ (b && is_some o)
if_map true f o = some_map f o
if_map false f o = refl

if_any : (b : Bool) (further : Attempt → Attempt → Bool) (test : Attempt → Bool) (xs : List Attempt)
    → is_some (if b then foremost further (filter test xs) else None) ≡ (b && list_any test xs)
if_any true further test xs = some_foremost further test xs
if_any false further test xs = refl

-- the answer of a pick request
picked : (s : Seen) (ask : Ask) (a : Attempt) (p : Pick) → is_some (follow_pick ask s a p) ≡ can_follow s p
picked s ask a (pick.Place sub) = some_map (λ (b : Subchannel). action.AttemptPlaced a.place (placed_on ask s b)) (numbered s.subs sub)
picked s ask a pick.Fail = refl
picked s ask a pick.Wait = refl

picked_if : (s : Seen) (ask : Ask) (a : Attempt) (b : Bool) → is_some (if b then follow_pick ask s a ask.answer else None) ≡ (b && can_follow s ask.answer)
picked_if s ask a true = picked s ask a ask.answer
picked_if s ask a false = refl

asked_of : (s : Seen) (ask : Ask) (o : Option Attempt)
    → is_some (option_and_then (λ (a : Attempt). if is_unfollowed a && (ask.entry == entry s) then follow_pick ask s a ask.answer else None) o)
    ≡ ((holds is_unfollowed o && (ask.entry == entry s)) && can_follow s ask.answer)
asked_of s ask None = refl
asked_of s ask (Some a) = picked_if s ask a (is_unfollowed a && (ask.entry == entry s))

asked : (s : Seen) (ask : Ask) → is_some (follow_ask s ask) ≡ is_to_follow_pick s ask
asked s ask = asked_of s ask (numbered s.attempts ask.row)

begun : (b : Bool) (k : Kind) → is_some (if b then None else Some (action.PolicyBegins k)) ≡ not b
begun true k = refl
begun false k = refl

reset_is : (s : Seen) (a : Attempt) → is_some (reset_of s a) ≡ is_to_reset s a
reset_is s a = some_map (λ (number : ℕ). action.StreamReset a.place number) (reset_code_of s a)

-- there is something exactly where a test passes
both : {X : Type 0} (o : Option X) (b : Bool) → is_some o ≡ b → (o ≡ None) ↔ (b ≡ false)
both o b e = (λ none. sym e ∙ is_nothing o none, λ h. none_is o (e ∙ h))

cut_is : (s : Seen) (a : Attempt) → is_some (cut s a) ≡ is_to_cut s a
cut_is s a = some_one (is_to_cut s a) (action.AttemptEnds a.place (end_of a cut_end s))

end_is : (s : Seen) (a : Attempt) → is_some (wire_end s a) ≡ is_to_end s a
end_is s a = if_map (is_outstanding a && not (is_over a s)) (λ (t : Outcome). action.AttemptEnds a.place (end_of a t s)) (outcome_of a s)

overflow_is : (s : Seen) (c : Call) → is_some (overflow_row s c) ≡ is_overflowing s c
overflow_is s c = if_any (is_free_call s c && nat_lt 262144 (accepted_bytes c)) (is_further s) (λ (a : Attempt). is_of c a && is_outstanding a) s.attempts

link_is : (s : Seen) (b : Subchannel) → is_some (link_action s b) ≡ is_link_new s b
link_is s b = some_two (is_to_be_ready s b) (is_to_go_down s b) (action.SettingsArrive b.number) (action.LinkDown b.number)

begin_is : (s : Seen) (k : Kind) → is_some (begin_if s k) ≡ lacks_kind s k
begin_is s k = begun (list_any (λ (g : PolicyUse). is_same_kind g.generation.kind k) (live_policies s)) k

reset_first : (s : Seen) → is_some (next_reset s) ≡ list_any (is_to_reset s) s.attempts
reset_first s =
    some_then (reset_of s) (is_to_reset s) (reset_is s) (foremost is_stream_before (filter (is_to_reset s) s.attempts))
    ∙ foremost_passes is_stream_before (is_to_reset s) s.attempts ∙ some_foremost is_stream_before (is_to_reset s) s.attempts

pub lines_are_still : (l : Line) (o : OpenEntry) (s : Seen) → (gives l o s ≡ None) ↔ IsStill l o s
lines_are_still line.Cut o s = both (gives line.Cut o s) (list_any (is_to_cut s) s.attempts) (some_first (cut s) (is_to_cut s) (cut_is s) s.attempts)
lines_are_still line.Transparent o s =
    both (gives line.Transparent o s) (list_any (λ (a : Attempt). wants_follower a s) s.attempts)
    (found (transparent_retry s) (λ (a : Attempt). wants_follower a s) s.attempts)
lines_are_still line.Inherited o s =
    both (gives line.Inherited o s) (list_any (is_inherited s) s.attempts) (found (committing commit.Inherited) (is_inherited s) s.attempts)
lines_are_still line.Row o s =
    both (gives line.Row o s) (list_any (is_over_by_row s) s.calls) (found (ending_call ending.Row) (is_over_by_row s) s.calls)
lines_are_still line.Final o s =
    both (gives line.Final o s) (list_any (is_final_end s) s.attempts) (found (committing commit.Final) (is_final_end s) s.attempts)
lines_are_still line.Cancelled o s =
    both (gives line.Cancelled o s) (list_any (is_cancelled o) s.calls) (found (ending_call ending.Cancelled) (is_cancelled o) s.calls)
lines_are_still line.Request o s =
    both (gives line.Request o s) (list_any (has_long_request o s) s.calls) (found (ending_call ending.Request) (has_long_request o s) s.calls)
lines_are_still line.Overflow o s =
    both (gives line.Overflow o s) (list_any (is_overflowing s) s.calls)
    (some_map (committing commit.Overflow) (first_of (overflow_row s) s.calls) ∙ some_first (overflow_row s) (is_overflowing s) (overflow_is s) s.calls)
lines_are_still line.Head o s =
    both (gives line.Head o s) (list_any (is_headed s) s.attempts) (found (committing commit.Head) (is_headed s) s.attempts)
lines_are_still line.Response o s =
    both (gives line.Response o s) (list_any (has_long_response s) s.calls) (found (ending_call ending.Response) (has_long_response s) s.calls)
lines_are_still line.Pick o s =
    both (gives line.Pick o s) (holds (is_to_follow_pick s) (last_of s.asks)) (some_then (follow_ask s) (is_to_follow_pick s) (asked s) (last_of s.asks))
lines_are_still line.Link o s =
    both (gives line.Link o s) (list_any (is_link_new s) s.subs) (some_first (link_action s) (is_link_new s) (link_is s) s.subs)
lines_are_still line.WireEnd o s =
    both (gives line.WireEnd o s) (list_any (is_to_end s) s.attempts) (some_first (wire_end s) (is_to_end s) (end_is s) s.attempts)
lines_are_still line.Reset o s = both (gives line.Reset o s) (list_any (is_to_reset s) s.attempts) (reset_first s)
lines_are_still line.Shut o s =
    both (gives line.Shut o s) (list_any (is_shut_down s) s.calls) (found (ending_call ending.Shut) (is_shut_down s) s.calls)
lines_are_still line.Retire o s =
    both (gives line.Retire o s) (list_any (is_to_retire o s) s.policies)
    (found (λ (g : PolicyUse). action.PolicyRetired g.number) (is_to_retire o s) s.policies)
lines_are_still line.Begin o s =
    both (gives line.Begin o s) (holds (lacks_kind s) (wanted_kind o s)) (some_then (begin_if s) (lacks_kind s) (begin_is s) (wanted_kind o s))
lines_are_still line.Give o s =
    both (gives line.Give o s) (list_any (wants_addresses o s) s.policies)
    (found (λ (g : PolicyUse). action.AddressesGiven g.number) (wants_addresses o s) s.policies)
lines_are_still line.Drop o s =
    both (gives line.Drop o s) (list_any (is_unlisted s) s.subs) (found (λ (b : Subchannel). action.SubchannelShut b.number) (is_unlisted s) s.subs)
lines_are_still line.Add o s =
    both (gives line.Add o s) (list_any (λ (address : Address). is_none (live_sub s address)) (listed s))
    (found (λ (address : Address). action.SubchannelAdded address) (λ (address : Address). is_none (live_sub s address)) (listed s))
