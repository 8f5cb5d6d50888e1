-- Line by line: what a line gives fits.
use Rattle.channel_actions.proofs.ActionsFit.Held.{are_numbered, have_calls, have_links, idle_unlinked, linked_open}
use Rattle.channel_actions.specs.ActionsFit.Laws.{FitsNow, NextActionsFit}
use Rattle.attempt_ledger.specs.Hedging.{is_hedge}
use Rattle.attempt_ledger.specs.declared.ledger.Ask.{Ask}
use Rattle.grpc_base.specs.declared.address.Address.{Address}
use Rattle.grpc_base.specs.declared.event.EndCause.TheVariants as ending
use Rattle.grpc_base.specs.declared.event.EndCause.{EndCause}
use Rattle.grpc_base.specs.declared.event.Event.TheVariants as event
use Rattle.grpc_base.specs.declared.event.Event.{Event}
use Rattle.grpc_base.specs.declared.event.Refusal.TheVariants as refusal
use Rattle.grpc_base.specs.declared.event.Refusal.{Refusal}
use Rattle.grpc_base.specs.declared.event.Reply.TheVariants as reply
use Rattle.grpc_base.specs.declared.event.Reply.{Reply}
use Rattle.grpc_base.specs.declared.kind.Pick.TheVariants as pick
use Rattle.grpc_base.specs.declared.kind.Pick.{Pick}
use Rattle.channel_actions.proofs.Calls.Kept.Fresh.{frames_are_fresh}
use Rattle.channel_actions.specs.KeptCalls.Early.{IsEarlyKept, is_linked_up}
use Rattle.channel_actions.proofs.KeptSessions.Lists.{all_at, own_number}
use Rattle.channel_actions.specs.KeptSessions.Kept.{IsKept}
use Rattle.lb_policy.specs.Table.{is_ready, pick_of}
use Rattle.session_actions.specs.Actions.{config_action, first_action, following_in, of_calls, of_links, of_policies, of_settling, of_stage}
use Rattle.session_actions.specs.AttemptEnds.{cut, cut_end, end_of, next_cut, next_reset, next_wire_end, outcome_of, reset_code_of, reset_of, wire_end}
use Rattle.session_actions.specs.Attempts.{is_outstanding, is_over, wants_follower}
use Rattle.session_actions.specs.CallEnds.{ending_call, has_long_request, has_long_response, is_after_event, is_cancelled, is_due_before, is_over_by_row, is_past_deadline, is_shut_down, lacks_config, next_deadline, next_ended}
use Rattle.session_actions.specs.Calls.{is_open_call}
use Rattle.session_actions.specs.Commitments.{committing, is_final_end, is_headed, is_inherited, next_final, next_headed, next_inherited, next_overflow, overflow_row}
use Rattle.session_actions.specs.Configs.{is_to_configure, is_too_long}
use Rattle.session_actions.specs.Deliveries.{held_bytes, is_accepted, next_item, send_action, take_action}
use Rattle.session_actions.specs.DueAttempts.{attempts_made, kind_of_next, next_due}
use Rattle.session_actions.specs.Entries.{entry, now}
use Rattle.session_actions.specs.Events.{event_action, event_action_by, event_applied, frame_action, frame_of_event, is_loss}
use Rattle.session_actions.specs.Links.{has_settings, is_stream_before}
use Rattle.session_actions.specs.Making.{due_action, due_attempt, due_if_past, next_due_attempt, next_transparent, transparent_retry}
use Rattle.session_actions.specs.Policies.{addresses_in, asking, begin_if, current_policy, follow_ask, follow_pick, is_after, is_failure, is_queued_before, is_same_kind, is_served, is_to_retire, is_unfollowed, listed, live_policies, live_sub, may_take_over, next_asked, next_begun, next_given, next_of_pass, next_of_pick, next_of_queue, next_retired, next_take_over, pending_policy, placed_on, policy_of, wanted_kind, wants_addresses}
use Rattle.session_actions.specs.Reading.{next_read}
use Rattle.session_actions.specs.Refusals.{dial_refusal, refusal_of, refused_if}
use Rattle.session_actions.specs.Subchannels.{clock_action, dial_action, is_connecting, is_dialable, is_dialling, is_going_down, is_idle, is_rested, is_to_be_ready, is_to_go_down, is_too_late, is_unlisted, is_wished, link_action, link_of_sub, next_added, next_connected, next_of_clock, next_of_links, next_shut}
use Rattle.session_actions.specs.Tokens.{has_tokens}
use Rattle.session_actions.specs.Words.{first_of, foremost, holds, last_of, numbered}
use Rattle.session_actions.specs.Writing.{fits_drain, frame_to_write, next_frame_read, read_action, read_next, sendable}
use Rattle.session_actions.specs.declared.action.Action.TheVariants as action
use Rattle.session_actions.specs.declared.action.Action.{Action}
use Rattle.session_actions.specs.declared.action.CommitCause.TheVariants as commit
use Rattle.session_actions.specs.declared.attempt.Attempt.{Attempt}
use Rattle.session_actions.specs.declared.call.Call.{Call}
use Rattle.session_actions.specs.declared.entry.OpenEntry.{OpenEntry}
use Rattle.session_actions.specs.declared.entry.Stage.TheVariants as stage
use Rattle.session_actions.specs.declared.entry.Stage.{Stage}
use Rattle.session_actions.specs.declared.entry.Turn.{Turn}
use Rattle.session_actions.specs.declared.link.Link.{Link}
use Rattle.session_actions.specs.declared.link.NextRead.TheVariants as nextread
use Rattle.session_actions.specs.declared.link.NextRead.{NextRead}
use Rattle.session_actions.specs.declared.policy.PolicyUse.{PolicyUse}
use Rattle.session_actions.specs.declared.response.Outcome.{Outcome}
use Rattle.session_actions.specs.declared.seen.Seen.{Seen}
use Rattle.session_actions.specs.declared.subchannel.Subchannel.{Subchannel}
use Rattle.session_order.specs.Stirs.{CallsHaveTheirNumbers}
use Rattle.std.proofs.Common.{Bool, List, None, Option, Some, [], ap, cond, false, filter, find, if◌then◌else◌, is_none, is_some, length, nat_le, not, option_and_then, option_map, refl, slice_get, subst, suc, sym, true, zero, ℕ, ◌&&◌, ◌+◌, ◌==◌, ◌||◌, ◌∙◌, ◌∷◌, ◌≡◌}
use Rattle.std.proofs.lemmas.Bool.{and_parts}
use Rattle.std.specs.List.{list_any}
use Rattle.std.specs.Option.{option_map_or, option_or}

-- what a line gives, if it gives anything
abbrev FitsIf : OpenEntry → Seen → Option Action → Type 0
FitsIf o s None = Unit {0}
FitsIf o s (Some a) = FitsNow a o s

abbrev Each : {X : Type 0} → (X → Type 0) → List X → Type 0
Each P [] = Unit {0}
Each P (x ∷ xs) = P x × Each P xs

abbrev HasIf : {X : Type 0} → (X → Type 0) → Option X → Type 0
HasIf P None = Unit {0}
HasIf P (Some x) = P x

each_from : {X : Type 0} (P : X → Type 0) (xs : List X) → ((i : ℕ) (x : X) → slice_get xs i ≡ Some x → P x) → Each P xs
each_from P [] each = tt
each_from P (x ∷ xs) each = (each zero x refl, each_from P xs (λ i y got. each (suc i) y got))

-- the first that passes a test
found_by : {X : Type 0} (P : X → Type 0) (q : X → Bool) (b : Bool) (x : X) (o : Option X) → q x ≡ b → P x → HasIf (λ y. P y × (q y ≡ true)) o
    → HasIf (λ y. P y × (q y ≡ true)) (cond b (Some x) o)
found_by P q true x o e p rest = (p, e)
found_by P q false x o e p rest = rest

found_has : {X : Type 0} (P : X → Type 0) (q : X → Bool) (xs : List X) → Each P xs → HasIf (λ y. P y × (q y ≡ true)) (find q xs)
found_has P q [] e = tt
found_has P q (x ∷ xs) e = found_by P q (q x) x (find q xs) refl e.0 (found_has P q xs e.1)

some_one : {X : Type 0} (o : Option X) (x y : X) → o ≡ Some x → o ≡ Some y → x ≡ y
some_one None x y e f = absurd (cc)
some_one (Some z) x y e f = (cc)

there_then : {X : Type 0} (test : X → Bool) (f : ℕ → Option X) (o : Option ℕ) → holds test (option_and_then f o) ≡ true → (n : ℕ) × (o ≡ Some n)
there_then test f None e = absurd (cc)
there_then test f (Some n) e = (n, refl)

unshut_by : (b : Bool) (z : Option Refusal) → (if b then Some refusal.Shut else z) ≡ None → (b ≡ false) × (z ≡ None)
unshut_by true z e = absurd (cc)
unshut_by false z e = (refl, e)

dialling_if : (b : Subchannel) (d : Bool) → is_dialling b ≡ d → (if not d then Some refusal.NotDialing else None) ≡ None → is_dialling b ≡ true
dialling_if b false e open_ = absurd (cc)
dialling_if b true e open_ = e

dialling_of : (o : Option Subchannel) → dial_refusal o ≡ None → (b : Subchannel) × (o ≡ Some b) × (is_dialling b ≡ true)
dialling_of None e = absurd (cc)
dialling_of (Some b) e = (b, refl, dialling_if b (is_dialling b) refl e)

module _ (o : OpenEntry) (s : Seen) where
  fits_or : (a b : Option Action) → FitsIf o s a → FitsIf o s b → FitsIf o s (option_or a b)
  fits_or None b f g = g
  fits_or (Some a) b f g = f

  fits_map : {X : Type 0} (f : X → Action) → ((x : X) → FitsNow (f x) o s) → (q : Option X) → FitsIf o s (option_map f q)
  fits_map f each None = tt
  fits_map f each (Some x) = each x

  fits_map_if : {X : Type 0} (P : X → Type 0) (f : X → Action) → ((x : X) → P x → FitsNow (f x) o s) → (q : Option X) → HasIf P q → FitsIf o s (option_map f q)
  fits_map_if P f each None has = tt
  fits_map_if P f each (Some x) has = each x has

  fits_then : {X : Type 0} (f : X → Option Action) → ((x : X) → FitsIf o s (f x)) → (q : Option X) → FitsIf o s (option_and_then f q)
  fits_then f each None = tt
  fits_then f each (Some x) = each x

  fits_first : {X : Type 0} (f : X → Option Action) (xs : List X) → ((i : ℕ) (x : X) → slice_get xs i ≡ Some x → FitsIf o s (f x)) → FitsIf o s (first_of f xs)
  fits_first f [] each = tt
  fits_first f (x ∷ xs) each = fits_or (f x) (first_of f xs) (each 0 x refl) (fits_first f xs (λ i y got. each (suc i) y got))

  fits_if : (b : Bool) (p q : Option Action) → FitsIf o s p → FitsIf o s q → FitsIf o s (if b then p else q)
  fits_if true p q f g = f
  fits_if false p q f g = g

  plain_or : (p : Option Action) (rest : List (Option Action)) → FitsIf o s p → FitsIf o s (first_action rest) → FitsIf o s (first_action (p ∷ rest))
  plain_or p rest f g = fits_or p (first_action rest) f g

  module _ (kept : IsKept s) (early : IsEarlyKept s) where
    numbers : CallsHaveTheirNumbers s
    numbers = are_numbered s kept

    own_sub : (i : ℕ) (b : Subchannel) → slice_get s.subs i ≡ Some b → numbered s.subs b.number ≡ Some b
    own_sub i b got = own_number (λ (q : Subchannel). q.number) s.subs i b kept.subs got

    -- calls
    ended_fits : (why : EndCause) (test : Call → Bool) → FitsIf o s (next_ended why test s)
    ended_fits why test = fits_map (ending_call why) (λ c. numbers) (find test s.calls)

    cut_fits : (a : Attempt) → FitsIf o s (cut s a)
    cut_fits a = fits_if (is_outstanding a && is_over a s) (Some (action.AttemptEnds a.place (end_of a cut_end s))) None tt tt

    wire_fits : FitsIf o s (next_wire_end s)
    wire_fits =
        fits_first (wire_end s) s.attempts
        (λ i a got.
        fits_if (is_outstanding a && not (is_over a s)) (option_map (λ (t : Outcome). action.AttemptEnds a.place (end_of a t s)) (outcome_of a s)) None
        (fits_map (λ (t : Outcome). action.AttemptEnds a.place (end_of a t s)) (λ t. tt) (outcome_of a s)) tt)

    abbrev of_messages : List (Option Action)
    of_messages = next_overflow s ∷ next_headed s ∷ next_ended ending.Response (has_long_response s) s ∷ []

    calls_fit : FitsIf o s (of_calls o s)
    calls_fit =
        plain_or (next_cut s) (next_transparent s ∷ next_inherited s ∷ next_ended ending.Row (is_over_by_row s) s ∷ next_final s ∷ next_ended ending.Cancelled (is_cancelled o) s
        ∷ next_ended ending.Request (has_long_request o s) s ∷ of_messages) (fits_first (cut s) s.attempts (λ i a got. cut_fits a))
        (plain_or (next_transparent s) (next_inherited s ∷ next_ended ending.Row (is_over_by_row s) s ∷ next_final s ∷ next_ended ending.Cancelled (is_cancelled o) s
        ∷ next_ended ending.Request (has_long_request o s) s ∷ of_messages) (fits_map (transparent_retry s) (λ a. tt) (find (λ (a : Attempt). wants_follower a s) s.attempts))
        (plain_or (next_inherited s) (next_ended ending.Row (is_over_by_row s) s ∷ next_final s ∷ next_ended ending.Cancelled (is_cancelled o) s
        ∷ next_ended ending.Request (has_long_request o s) s ∷ of_messages) (fits_map (committing commit.Inherited) (λ a. tt) (find (is_inherited s) s.attempts))
        (plain_or (next_ended ending.Row (is_over_by_row s) s) (next_final s ∷ next_ended ending.Cancelled (is_cancelled o) s ∷ next_ended ending.Request (has_long_request o s) s ∷ of_messages)
        (ended_fits ending.Row (is_over_by_row s))
        (plain_or (next_final s) (next_ended ending.Cancelled (is_cancelled o) s ∷ next_ended ending.Request (has_long_request o s) s ∷ of_messages)
        (fits_map (committing commit.Final) (λ a. tt) (find (is_final_end s) s.attempts))
        (plain_or (next_ended ending.Cancelled (is_cancelled o) s) (next_ended ending.Request (has_long_request o s) s ∷ of_messages) (ended_fits ending.Cancelled (is_cancelled o))
        (plain_or (next_ended ending.Request (has_long_request o s) s) of_messages (ended_fits ending.Request (has_long_request o s))
        (plain_or (next_overflow s) (next_headed s ∷ next_ended ending.Response (has_long_response s) s ∷ [])
        (fits_map (committing commit.Overflow) (λ a. tt) (first_of (overflow_row s) s.calls))
        (plain_or (next_headed s) (next_ended ending.Response (has_long_response s) s ∷ []) (fits_map (committing commit.Head) (λ a. tt) (find (is_headed s) s.attempts))
        (plain_or (next_ended ending.Response (has_long_response s) s) [] (ended_fits ending.Response (has_long_response s)) tt)))))))))

    -- links
    pick_fits : (ask : Ask) (a : Attempt) (p : Pick) → FitsIf o s (follow_pick ask s a p)
    pick_fits ask a (pick.Place sub) = fits_map (λ (b : Subchannel). action.AttemptPlaced a.place (placed_on ask s b)) (λ b. tt) (numbered s.subs sub)
    pick_fits ask a pick.Fail = tt
    pick_fits ask a pick.Wait = tt

    ask_fits : (ask : Ask) → FitsIf o s (follow_ask s ask)
    ask_fits ask =
        fits_then (λ (a : Attempt). if is_unfollowed a && (ask.entry == entry s) then follow_pick ask s a ask.answer else None)
        (λ a. fits_if (is_unfollowed a && (ask.entry == entry s)) (follow_pick ask s a ask.answer) None (pick_fits ask a ask.answer) tt) (numbered s.attempts ask.row)

    down_fits : (i : ℕ) (b : Subchannel) → slice_get s.subs i ≡ Some b → is_to_go_down s b ≡ true → FitsNow (action.LinkDown b.number) o s
    down_fits i b got down =
        let link : (n : ℕ) × (b.link ≡ Some n) = there_then is_going_down (numbered s.links) b.link down in
        let up : is_linked_up b ≡ true = all_at is_linked_up s.subs (suc i) b early.boards got in
        (b, own_sub i b got, linked_open b.state (sym (ap (λ (q : Option ℕ). is_none q || is_connecting b.state || is_ready b.state) link.1) ∙ up))

    link_if : (i : ℕ) (b : Subchannel) (r d : Bool) → slice_get s.subs i ≡ Some b → is_to_be_ready s b ≡ r → is_to_go_down s b ≡ d
        → FitsIf o s (if r then Some (action.SettingsArrive b.number) else if d then Some (action.LinkDown b.number) else None)
    link_if i b true d got ready down = (b, own_sub i b got, (and_parts (is_connecting b.state) (holds has_settings (link_of_sub b s)) ready).0)
    link_if i b false true got ready down = down_fits i b got down
    link_if i b false false got ready down = tt

    loss_fits : (b : Bool) → FitsIf o s (if b then None else next_wire_end s)
    loss_fits true = tt
    loss_fits false = wire_fits

    links_fit : FitsIf o s (of_links o s)
    links_fit =
        plain_or (next_of_pick s) (next_of_links s ∷ (if is_loss o.event then None else next_wire_end s) ∷ next_reset s ∷ next_wire_end s ∷ [])
        (fits_then (follow_ask s) ask_fits (last_of s.asks))
        (plain_or (next_of_links s) ((if is_loss o.event then None else next_wire_end s) ∷ next_reset s ∷ next_wire_end s ∷ [])
        (fits_first (link_action s) s.subs (λ i b got. link_if i b (is_to_be_ready s b) (is_to_go_down s b) got refl refl))
        (plain_or (if is_loss o.event then None else next_wire_end s) (next_reset s ∷ next_wire_end s ∷ []) (loss_fits (is_loss o.event))
        (plain_or (next_reset s) (next_wire_end s ∷ [])
        (fits_then (reset_of s) (λ a. fits_map (λ (number : ℕ). action.StreamReset a.place number) (λ number. tt) (reset_code_of s a))
        (foremost is_stream_before (filter (λ (a : Attempt). is_some (reset_code_of s a)) s.attempts)))
        (plain_or (next_wire_end s) [] wire_fits tt))))

    -- policies
    policies_fit : FitsIf o s (of_policies o s)
    policies_fit =
        plain_or (next_ended ending.Shut (is_shut_down s) s) (next_retired o s ∷ next_begun o s ∷ next_given o s ∷ next_shut s ∷ next_added s ∷ []) (ended_fits ending.Shut (is_shut_down s))
        (plain_or (next_retired o s) (next_begun o s ∷ next_given o s ∷ next_shut s ∷ next_added s ∷ [])
        (fits_map (λ (g : PolicyUse). action.PolicyRetired g.number) (λ g. tt) (find (is_to_retire o s) s.policies))
        (plain_or (next_begun o s) (next_given o s ∷ next_shut s ∷ next_added s ∷ [])
        (fits_then (begin_if s) (λ k. fits_if (list_any (λ (g : PolicyUse). is_same_kind g.generation.kind k) (live_policies s)) None (Some (action.PolicyBegins k)) tt tt) (wanted_kind o s))
        (plain_or (next_given o s) (next_shut s ∷ next_added s ∷ []) (fits_map (λ (g : PolicyUse). action.AddressesGiven g.number) (λ g. tt) (find (wants_addresses o s) s.policies))
        (plain_or (next_shut s) (next_added s ∷ []) (fits_map (λ (b : Subchannel). action.SubchannelShut b.number) (λ b. tt) (find (is_unlisted s) s.subs))
        (plain_or (next_added s) []
        (fits_map (λ (address : Address). action.SubchannelAdded address) (λ address. tt) (find (λ (address : Address). is_none (live_sub s address)) (listed s))) tt)))))

    -- what is due
    rest_if : (i : ℕ) (b : Subchannel) (r : Bool) → slice_get s.subs i ≡ Some b → is_rested s b ≡ r → FitsIf o s (if r then Some (action.BackoffEnds b.number) else None)
    rest_if i b true got e = (b, own_sub i b got, (and_parts (is_failure b.state) (holds (λ (t : ℕ). nat_le t (now s)) b.again) e).0)
    rest_if i b false got e = tt

    clock_fits : (i : ℕ) (b : Subchannel) → slice_get s.subs i ≡ Some b → FitsIf o s (clock_action s b)
    clock_fits i b got =
        fits_if (is_too_late s b) (Some (action.ConnectTimesOut b.number)) (if is_rested s b then Some (action.BackoffEnds b.number) else None) tt
        (rest_if i b (is_rested s b) got refl)

    config_fits : (c : Call) → FitsIf o s (config_action s c)
    config_fits c =
        fits_if (is_to_configure s c) (Some (action.CallConfigured c.number (length s.configs))) (if lacks_config s c then Some (action.CallEnds c.number ending.NoConfig) else None) tt
        (fits_if (lacks_config s c) (Some (action.CallEnds c.number ending.NoConfig)) None numbers tt)

    due_by : (c : Call) (d : ℕ) (b : Bool)
        → FitsNow (if b then action.HedgeWithheld c.number else action.AttemptMade c.number (attempts_made c s + 1) (kind_of_next c s) d) o s
    due_by c d true = tt
    due_by c d false = tt

    due_fits : (c : Call) → FitsIf o s (due_action s c)
    due_fits c =
        fits_if (is_open_call c) (option_and_then (due_if_past c s) (next_due c s)) None
        (fits_then (due_if_past c s)
        (λ d. fits_if (nat_le d (now s)) (Some (due_attempt c s d)) None (due_by c d (is_hedge (kind_of_next c s) && not (has_tokens c s))) tt) (next_due c s)) tt

    asked_fits : (test : Attempt → Bool) → FitsIf o s (next_asked test s)
    asked_fits test =
        fits_then (asking s) (λ a. fits_map (λ (g : PolicyUse). action.PickRequested a.place g.number (pick_of (policy_of g s))) (λ g. tt) (current_policy s))
        (foremost is_queued_before (filter (λ (a : Attempt). is_served s a && test a) s.attempts))

    abbrev IsThere : Subchannel → Type 0
    IsThere b = (numbered s.subs b.number ≡ Some b) × (is_linked_up b ≡ true)

    subs_there : Each IsThere s.subs
    subs_there = each_from IsThere s.subs (λ i b got. (own_sub i b got, all_at is_linked_up s.subs (suc i) b early.boards got))

    connect_fits : FitsIf o s (next_connected s)
    connect_fits =
        let test : Subchannel → Bool = λ (b : Subchannel). is_idle b.state && is_wished s b in
        fits_map_if (λ (b : Subchannel). IsThere b × (test b ≡ true)) (λ (b : Subchannel). action.SubchannelConnects b.number)
        (λ b has.
        (let idle : is_idle b.state ≡ true = (and_parts (is_idle b.state) (is_wished s b) has.1).0 in
        (b, has.0.0, idle, idle_unlinked b idle has.0.1)))
        (find test s.subs) (found_has IsThere test s.subs subs_there)

    settling_fits : FitsIf o s (of_settling o s)
    settling_fits =
        plain_or (next_of_clock s) (next_take_over s ∷ next_connected s ∷ first_of (config_action s) s.calls ∷ next_of_pass o s ∷ next_due_attempt s ∷ next_of_queue s ∷ Some action.EntryCloses ∷ [])
        (fits_first (clock_action s) s.subs clock_fits)
        (plain_or (next_take_over s) (next_connected s ∷ first_of (config_action s) s.calls ∷ next_of_pass o s ∷ next_due_attempt s ∷ next_of_queue s ∷ Some action.EntryCloses ∷ [])
        (fits_then (λ (g : PolicyUse). if may_take_over s g then Some (action.PolicyTakesOver g.number) else None)
        (λ g. fits_if (may_take_over s g) (Some (action.PolicyTakesOver g.number)) None tt tt) (pending_policy s))
        (plain_or (next_connected s) (first_of (config_action s) s.calls ∷ next_of_pass o s ∷ next_due_attempt s ∷ next_of_queue s ∷ Some action.EntryCloses ∷ []) connect_fits
        (plain_or (first_of (config_action s) s.calls) (next_of_pass o s ∷ next_due_attempt s ∷ next_of_queue s ∷ Some action.EntryCloses ∷ [])
        (fits_first (config_action s) s.calls (λ i c got. config_fits c))
        (plain_or (next_of_pass o s) (next_due_attempt s ∷ next_of_queue s ∷ Some action.EntryCloses ∷ []) (fits_then (λ (t : Turn). next_asked (is_after t) s) (λ t. asked_fits (is_after t)) o.turn)
        (plain_or (next_due_attempt s) (next_of_queue s ∷ Some action.EntryCloses ∷ []) (fits_first (due_action s) s.calls (λ i c got. due_fits c))
        (plain_or (next_of_queue s) (Some action.EntryCloses ∷ []) (asked_fits (λ (a : Attempt). true)) tt))))))

    -- the event
    send_by : (call : ℕ) (message : List ℕ) (c : Call) (long accepted : Bool) (held : ℕ) → o.event ≡ event.Send call message → numbered s.calls call ≡ Some c
        → is_too_long message c s ≡ long
        → FitsNow (if long then action.EventAnswered reply.Done else if accepted then action.MessageAccepted call else action.EventAnswered (reply.Full held)) o s
    send_by call message c true accepted held is got e = ap addresses_in is
    send_by call message c false true held is got e =
        (message, is, numbers, λ d at. ap (λ (z : Call). is_too_long message z s) (some_one (numbered s.calls call) d c at got) ∙ e)
    send_by call message c false false held is got e = ap addresses_in is

    send_fits : (call : ℕ) (message : List ℕ) (q : Option Call) → o.event ≡ event.Send call message → numbered s.calls call ≡ q → FitsIf o s (option_map (send_action call message s) q)
    send_fits call message None is got = tt
    send_fits call message (Some c) is got = send_by call message c (is_too_long message c s) (is_accepted c message s) (held_bytes c s) is got refl

    take_by : (call : ℕ) (item : Option Reply) → o.event ≡ event.Take call → FitsNow (take_action call item) o s
    take_by call None is = ap addresses_in is
    take_by call (Some item) is = is

    take_fits : (call : ℕ) (q : Option Call) → o.event ≡ event.Take call → FitsIf o s (option_map (λ (c : Call). take_action call (next_item c s)) q)
    take_fits call None is = tt
    take_fits call (Some c) is = take_by call (next_item c s) is

    dial_fits : (q : Option Subchannel) → HasIf (λ (b : Subchannel). IsThere b × (is_dialable b ≡ true)) q → o.event ≡ event.TakeDial
        → FitsNow (option_map_or (dial_action s) q (action.EventAnswered reply.NotYet)) o s
    dial_fits None has is = ap addresses_in is
    dial_fits (Some b) has is = (is, b, has.0.0, refl)

    failed_fits : (sub : ℕ) → o.event ≡ event.DialFailed sub → refused_if s.shut refusal.Shut (dial_refusal (numbered s.subs sub)) ≡ None → FitsNow (action.DialFails sub) o s
    failed_fits sub is open_ =
        let found : (b : Subchannel) × (numbered s.subs sub ≡ Some b) × (is_dialling b ≡ true)
        = dialling_of (numbered s.subs sub) (unshut_by s.shut (dial_refusal (numbered s.subs sub)) open_).1 in
        (is, found.0, found.1, found.2)

    event_fits : (e : Event) → o.event ≡ e → refusal_of e s ≡ None → FitsIf o s (event_applied e s)
    event_fits (event.Begin request) is open_ = (request, is, (unshut_by s.shut None open_).0, have_calls s kept)
    event_fits (event.Send call message) is open_ = send_fits call message (numbered s.calls call) is refl
    event_fits (event.Finish call) is open_ = is
    event_fits (event.Take call) is open_ = take_fits call (numbered s.calls call) is
    event_fits (event.Cancel call) is open_ = ap addresses_in is
    event_fits (event.Resolved addresses config) is open_ = tt
    event_fits event.ResolveFailed is open_ = is
    event_fits event.TakeDial is open_ = dial_fits (find is_dialable s.subs) (found_has IsThere is_dialable s.subs subs_there) is
    event_fits (event.LinkUp sub) is open_ = (is, have_links s kept)
    event_fits (event.DialFailed sub) is open_ = failed_fits sub is open_
    event_fits (event.Arrived link piece) is open_ = (piece, is)
    event_fits (event.LinkLost link) is open_ = is
    event_fits (event.Drain link room) is open_ = ap addresses_in is
    event_fits (event.Ping link word) is open_ = (word, is)
    event_fits event.Tick is open_ = ap addresses_in is
    event_fits event.Shutdown is open_ = is

    event_by : (why : Option Refusal) → refusal_of o.event s ≡ why → FitsIf o s (event_action_by why o.event s)
    event_by None got = event_fits o.event refl got
    event_by (Some why) got = tt

    -- frames
    read_by : (link : ℕ) (n : NextRead) → next_frame_read link s ≡ read_action link n → FitsIf o s (read_action link n)
    read_by link nextread.Nothing e = tt
    read_by link (nextread.Frame r) e = frames_are_fresh s link r kept early e
    read_by link (nextread.Broken number) e = tt

    read_if : (link : ℕ) (b : Bool) (n : NextRead) → next_frame_read link s ≡ (if b then read_action link n else None) → FitsIf o s (if b then read_action link n else None)
    read_if link true n e = read_by link n e
    read_if link false n e = tt

    read_of : (link : ℕ) (q : Option Link) → numbered s.links link ≡ q → FitsIf o s (option_and_then (read_next link s) q)
    read_of link None got = tt
    read_of link (Some l) got = read_if link (is_none l.over) (next_read l s) (ap (option_and_then (read_next link s)) got)

    frame_fits : (e : Event) → FitsIf o s (frame_of_event e o s)
    frame_fits (event.Arrived link piece) = read_of link (numbered s.links link) refl
    frame_fits (event.Drain link most) =
        fits_then (λ (l : Link). option_and_then (frame_to_write link most o s) (sendable l s))
        (λ l. fits_then (frame_to_write link most o s) (λ x. fits_if (fits_drain most o x) (Some (action.FrameWritten link x)) None tt tt) (sendable l s)) (numbered s.links link)
    frame_fits _ = tt

    stage_fits : (g : Stage) → FitsIf o s (of_stage o s g)
    stage_fits stage.Event =
        plain_or (next_deadline s) (event_action o.event s ∷ [])
        (fits_map (ending_call ending.Deadline) (λ c. numbers) (foremost (is_due_before s) (filter (is_past_deadline s) s.calls)))
        (plain_or (event_action o.event s) [] (event_by (refusal_of o.event s) refl) tt)
    stage_fits stage.Replied =
        plain_or (frame_action o s) (Some action.SettlingBegins ∷ []) (fits_if (is_after_event o) (frame_of_event o.event o s) None (frame_fits o.event) tt) tt
    stage_fits stage.Settling = settling_fits

    in_fits : FitsIf o s (following_in s o)
    in_fits =
        plain_or (of_calls o s) (of_links o s ∷ of_policies o s ∷ of_stage o s o.stage ∷ []) calls_fit
        (plain_or (of_links o s) (of_policies o s ∷ of_stage o s o.stage ∷ []) links_fit
        (plain_or (of_policies o s) (of_stage o s o.stage ∷ []) policies_fit (plain_or (of_stage o s o.stage) [] (stage_fits o.stage) tt)))

pub next_actions_fit : NextActionsFit
next_actions_fit o s a kept early at next =
    subst (FitsIf o s) (sym (ap (option_and_then (following_in s)) at) ∙ next) (in_fits o s kept early)
