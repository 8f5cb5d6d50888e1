-- What may follow in an entry whose event was answered: what follows at once, that the channel begins to settle, and, once it settles, what is due.
use Rattle.attempt_ledger.specs.Hedging.{is_hedge}
use Rattle.attempt_ledger.specs.declared.ledger.Ask.{Ask}
use Rattle.grpc_base.specs.declared.address.Address.{Address}
use Rattle.grpc_base.specs.declared.event.EndCause.TheVariants as ending
use Rattle.grpc_base.specs.declared.event.EndCause.{EndCause}
use Rattle.grpc_base.specs.declared.event.Event.TheVariants as event
use Rattle.grpc_base.specs.declared.event.Event.{Event}
use Rattle.grpc_base.specs.declared.kind.Kind.{Kind}
use Rattle.grpc_base.specs.declared.kind.Pick.TheVariants as pick
use Rattle.grpc_base.specs.declared.kind.Pick.{Pick}
use Rattle.event_cases.specs.PassedAtOnce.Passed.{is_at_once}
use Rattle.lb_policy.specs.Table.{pick_of}
use Rattle.session_actions.specs.Actions.{config_action, of_frames, first_action, following, following_in, of_calls, of_links, of_policies, of_settling, of_stage}
use Rattle.session_actions.specs.AttemptEnds.{cut, cut_end, end_of, next_cut, next_reset, next_wire_end, outcome_of, pick_end, reset_code_of, reset_of, wire_end}
use Rattle.session_actions.specs.Attempts.{is_outstanding, is_over, wants_follower}
use Rattle.session_actions.specs.CallEnds.{ending_call, has_long_request, has_long_response, is_after_event, is_cancelled, is_over_by_row, is_shut_down, lacks_config, next_ended}
use Rattle.session_actions.specs.Calls.{is_open_call}
use Rattle.session_actions.specs.Commitments.{committing, is_final_end, is_headed, is_inherited, next_final, next_headed, next_inherited, next_overflow, overflow_row}
use Rattle.session_actions.specs.Configs.{is_to_configure}
use Rattle.session_actions.specs.DueAttempts.{attempts_made, kind_of_next, next_due}
use Rattle.session_actions.specs.Entries.{entry, now}
use Rattle.session_actions.specs.Events.{frame_action, frame_of_event, is_loss}
use Rattle.session_actions.specs.Links.{is_stream_before}
use Rattle.session_actions.specs.Making.{due_action, due_attempt, due_if_past, next_due_attempt, next_transparent, transparent_retry}
use Rattle.session_actions.specs.Policies.{asking, begin_if, current_policy, follow_ask, follow_pick, is_after, is_queued_before, is_same_kind, is_served, is_to_retire, is_unfollowed, listed, live_policies, live_sub, may_take_over, next_asked, next_begun, next_given, next_of_pass, next_of_pick, next_of_queue, next_retired, next_take_over, pending_policy, placed_on, policy_of, wanted_kind, wants_addresses}
use Rattle.session_actions.specs.Subchannels.{clock_action, is_idle, is_rested, is_to_be_ready, is_to_go_down, is_too_late, is_unlisted, is_wished, link_action, next_added, next_connected, next_of_clock, next_of_links, next_shut}
use Rattle.session_actions.specs.Tokens.{has_tokens}
use Rattle.session_actions.specs.Words.{first_of, foremost, last_of, numbered}
use Rattle.session_actions.specs.declared.action.Action.TheVariants as action
use Rattle.session_actions.specs.declared.action.Action.{Action}
use Rattle.session_actions.specs.declared.action.CommitCause.TheVariants as commit
use Rattle.session_actions.specs.declared.action.CommitCause.{CommitCause}
use Rattle.session_actions.specs.declared.attempt.Attempt.{Attempt}
use Rattle.session_actions.specs.declared.call.Call.{Call}
use Rattle.session_actions.specs.declared.entry.OpenEntry.{OpenEntry}
use Rattle.session_actions.specs.declared.entry.Stage.TheVariants as stage
use Rattle.session_actions.specs.declared.entry.Stage.{Stage}
use Rattle.session_actions.specs.declared.entry.Turn.{Turn}
use Rattle.session_actions.specs.declared.policy.PolicyUse.{PolicyUse}
use Rattle.session_actions.specs.declared.response.Outcome.{Outcome}
use Rattle.session_actions.specs.declared.seen.Seen.{Seen}
use Rattle.session_actions.specs.declared.subchannel.Subchannel.{Subchannel}
use Rattle.std.proofs.Common.{Bool, List, None, Option, Some, [], ap, false, filter, find, if◌then◌else◌, is_none, is_some, length, nat_le, not, option_and_then, option_map, refl, subst, sym, true, ℕ, ◌&&◌, ◌+◌, ◌==◌, ◌∙◌, ◌∷◌, ◌≡◌}
use Rattle.std.specs.List.{list_any}
use Rattle.std.specs.Option.{option_or}

-- what is due in a settling, and what follows at once
abbrev pub is_of_settling : Action → Bool
is_of_settling (action.ConnectTimesOut sub) = true
is_of_settling (action.BackoffEnds sub) = true
is_of_settling (action.PolicyTakesOver generation) = true
is_of_settling (action.SubchannelConnects sub) = true
is_of_settling (action.CallConfigured call config) = true
is_of_settling (action.HedgeWithheld call) = true
is_of_settling (action.PickRequested row generation answer) = true
is_of_settling action.EntryCloses = true
is_of_settling a = is_at_once a

abbrev pub is_of_reply : Action → Bool
is_of_reply action.SettlingBegins = true
is_of_reply a = is_at_once a

pub at_once_settles : (a : Action) → is_at_once a ≡ true → is_of_settling a ≡ true
at_once_settles (action.CallEnds call why) e = refl
at_once_settles (action.AttemptMade call number k due) e = refl
at_once_settles (action.AttemptPlaced row at) e = refl
at_once_settles (action.AttemptEnds row end) e = refl
at_once_settles (action.CallCommitted row why) e = refl
at_once_settles (action.StreamReset row number) e = refl
at_once_settles (action.PolicyBegins k) e = refl
at_once_settles (action.AddressesGiven generation) e = refl
at_once_settles (action.PolicyRetired generation) e = refl
at_once_settles (action.SubchannelAdded address) e = refl
at_once_settles (action.SubchannelShut sub) e = refl
at_once_settles (action.SettingsArrive sub) e = refl
at_once_settles (action.LinkDown sub) e = refl
at_once_settles _ e = absurd (cc)

pub at_once_replies : (a : Action) → is_at_once a ≡ true → is_of_reply a ≡ true
at_once_replies (action.CallEnds call why) e = refl
at_once_replies (action.AttemptMade call number k due) e = refl
at_once_replies (action.AttemptPlaced row at) e = refl
at_once_replies (action.AttemptEnds row end) e = refl
at_once_replies (action.CallCommitted row why) e = refl
at_once_replies (action.StreamReset row number) e = refl
at_once_replies (action.PolicyBegins k) e = refl
at_once_replies (action.AddressesGiven generation) e = refl
at_once_replies (action.PolicyRetired generation) e = refl
at_once_replies (action.SubchannelAdded address) e = refl
at_once_replies (action.SubchannelShut sub) e = refl
at_once_replies (action.SettingsArrive sub) e = refl
at_once_replies (action.LinkDown sub) e = refl
at_once_replies _ e = absurd (cc)

-- what a line gives, if it gives anything
abbrev pub AllowsIf : (Action → Bool) → Option Action → Type 0
AllowsIf p None = Unit {0}
AllowsIf p (Some a) = p a ≡ true

module _ (p : Action → Bool) where
  allow_or : (o q : Option Action) → AllowsIf p o → AllowsIf p q → AllowsIf p (option_or o q)
  allow_or None q f g = g
  allow_or (Some a) q f g = f

  allow_map : {X : Type 0} (f : X → Action) → ((x : X) → p (f x) ≡ true) → (o : Option X) → AllowsIf p (option_map f o)
  allow_map f each None = tt
  allow_map f each (Some x) = each x

  allow_then : {X : Type 0} (f : X → Option Action) → ((x : X) → AllowsIf p (f x)) → (o : Option X) → AllowsIf p (option_and_then f o)
  allow_then f each None = tt
  allow_then f each (Some x) = each x

  allow_first : {X : Type 0} (f : X → Option Action) (xs : List X) → ((x : X) → AllowsIf p (f x)) → AllowsIf p (first_of f xs)
  allow_first f [] each = tt
  allow_first f (x ∷ xs) each = allow_or (f x) (first_of f xs) (each x) (allow_first f xs each)

  allow_if : (b : Bool) (o q : Option Action) → AllowsIf p o → AllowsIf p q → AllowsIf p (if b then o else q)
  allow_if true o q f g = f
  allow_if false o q f g = g

module _ (p : Action → Bool) (once : (a : Action) → is_at_once a ≡ true → p a ≡ true) (s : Seen) where
  cut_allowed : (a : Attempt) → AllowsIf p (cut s a)
  cut_allowed a = allow_if p (is_outstanding a && is_over a s) (Some (action.AttemptEnds a.place (end_of a cut_end s))) None (once (action.AttemptEnds a.place (end_of a cut_end s)) refl) tt

  wire_allowed : (a : Attempt) → AllowsIf p (wire_end s a)
  wire_allowed a =
      allow_if p (is_outstanding a && not (is_over a s)) (option_map (λ (t : Outcome). action.AttemptEnds a.place (end_of a t s)) (outcome_of a s)) None
      (allow_map p (λ (t : Outcome). action.AttemptEnds a.place (end_of a t s)) (λ t. once (action.AttemptEnds a.place (end_of a t s)) refl) (outcome_of a s)) tt

  wires_allowed : AllowsIf p (next_wire_end s)
  wires_allowed = allow_first p (wire_end s) s.attempts wire_allowed

  pick_allowed : (ask : Ask) (a : Attempt) (answer : Pick) → AllowsIf p (follow_pick ask s a answer)
  pick_allowed ask a (pick.Place sub) =
      allow_map p (λ (b : Subchannel). action.AttemptPlaced a.place (placed_on ask s b)) (λ b. once (action.AttemptPlaced a.place (placed_on ask s b)) refl) (numbered s.subs sub)
  pick_allowed ask a pick.Fail = once (action.AttemptEnds a.place (end_of a pick_end s)) refl
  pick_allowed ask a pick.Wait = tt

  ask_allowed : (ask : Ask) → AllowsIf p (follow_ask s ask)
  ask_allowed ask =
      allow_then p (λ (a : Attempt). if is_unfollowed a && (ask.entry == entry s) then follow_pick ask s a ask.answer else None)
      (λ a. allow_if p (is_unfollowed a && (ask.entry == entry s)) (follow_pick ask s a ask.answer) None (pick_allowed ask a ask.answer) tt) (numbered s.attempts ask.row)

  ended_allowed : (why : EndCause) (test : Call → Bool) → AllowsIf p (next_ended why test s)
  ended_allowed why test = allow_map p (ending_call why) (λ c. once (ending_call why c) refl) (find test s.calls)

  committed_allowed : (why : CommitCause) (o : Option Attempt) → AllowsIf p (option_map (committing why) o)
  committed_allowed why o = allow_map p (committing why) (λ a. once (committing why a) refl) o

  pub calls_allowed : (o : OpenEntry) → AllowsIf p (of_calls o s)
  calls_allowed o =
      allow_or p (next_cut s) _ (allow_first p (cut s) s.attempts cut_allowed)
      (allow_or p (next_transparent s) _ (allow_map p (transparent_retry s) (λ a. once (transparent_retry s a) refl) (find (λ (a : Attempt). wants_follower a s) s.attempts))
      (allow_or p (next_inherited s) _ (committed_allowed commit.Inherited (find (is_inherited s) s.attempts))
      (allow_or p (next_ended ending.Row (is_over_by_row s) s) _ (ended_allowed ending.Row (is_over_by_row s))
      (allow_or p (next_final s) _ (committed_allowed commit.Final (find (is_final_end s) s.attempts))
      (allow_or p (next_ended ending.Cancelled (is_cancelled o) s) _ (ended_allowed ending.Cancelled (is_cancelled o))
      (allow_or p (next_ended ending.Request (has_long_request o s) s) _ (ended_allowed ending.Request (has_long_request o s))
      (allow_or p (next_overflow s) _ (committed_allowed commit.Overflow (first_of (overflow_row s) s.calls))
      (allow_or p (next_headed s) _ (committed_allowed commit.Head (find (is_headed s) s.attempts))
      (allow_or p (next_ended ending.Response (has_long_response s) s) None (ended_allowed ending.Response (has_long_response s)) tt)))))))))

  link_allowed : (b : Subchannel) → AllowsIf p (link_action s b)
  link_allowed b =
      allow_if p (is_to_be_ready s b) (Some (action.SettingsArrive b.number)) (if is_to_go_down s b then Some (action.LinkDown b.number) else None) (once (action.SettingsArrive b.number) refl)
      (allow_if p (is_to_go_down s b) (Some (action.LinkDown b.number)) None (once (action.LinkDown b.number) refl) tt)

  reset_allowed : (a : Attempt) → AllowsIf p (reset_of s a)
  reset_allowed a = allow_map p (λ (number : ℕ). action.StreamReset a.place number) (λ number. once (action.StreamReset a.place number) refl) (reset_code_of s a)

  pub links_allowed : (o : OpenEntry) → AllowsIf p (of_links o s)
  links_allowed o =
      allow_or p (next_of_pick s) _ (allow_then p (follow_ask s) ask_allowed (last_of s.asks))
      (allow_or p (next_of_links s) _ (allow_first p (link_action s) s.subs link_allowed)
      (allow_or p (if is_loss o.event then None else next_wire_end s) _ (allow_if p (is_loss o.event) None (next_wire_end s) tt wires_allowed)
      (allow_or p (next_reset s) _ (allow_then p (reset_of s) reset_allowed (foremost is_stream_before (filter (λ (a : Attempt). is_some (reset_code_of s a)) s.attempts)))
      (allow_or p (next_wire_end s) None wires_allowed tt))))

  begun_allowed : (k : Kind) → AllowsIf p (begin_if s k)
  begun_allowed k =
      allow_if p (list_any (λ (g : PolicyUse). is_same_kind g.generation.kind k) (live_policies s)) None (Some (action.PolicyBegins k)) tt (once (action.PolicyBegins k) refl)

  pub policies_allowed : (o : OpenEntry) → AllowsIf p (of_policies o s)
  policies_allowed o =
      allow_or p (next_ended ending.Shut (is_shut_down s) s) _ (ended_allowed ending.Shut (is_shut_down s))
      (allow_or p (next_retired o s) _ (allow_map p (λ (g : PolicyUse). action.PolicyRetired g.number) (λ g. once (action.PolicyRetired g.number) refl) (find (is_to_retire o s) s.policies))
      (allow_or p (next_begun o s) _ (allow_then p (begin_if s) begun_allowed (wanted_kind o s))
      (allow_or p (next_given o s) _ (allow_map p (λ (g : PolicyUse). action.AddressesGiven g.number) (λ g. once (action.AddressesGiven g.number) refl) (find (wants_addresses o s) s.policies))
      (allow_or p (next_shut s) _ (allow_map p (λ (b : Subchannel). action.SubchannelShut b.number) (λ b. once (action.SubchannelShut b.number) refl) (find (is_unlisted s) s.subs))
      (allow_or p (next_added s) None
      (allow_map p (λ (address : Address). action.SubchannelAdded address) (λ address. once (action.SubchannelAdded address) refl) (find (λ (address : Address). is_none (live_sub s address)) (listed s))) tt)))))

  pub following_allowed : (o : OpenEntry) → AllowsIf p (of_stage o s o.stage) → AllowsIf p (following_in s o)
  following_allowed o stage_ =
      allow_or p (of_calls o s) _ (calls_allowed o)
      (allow_or p (of_links o s) _ (links_allowed o) (allow_or p (of_policies o s) _ (policies_allowed o) (allow_or p (of_stage o s o.stage) None stage_ tt)))

-- in a settling
module _ (s : Seen) where
  clock_allowed : (b : Subchannel) → AllowsIf is_of_settling (clock_action s b)
  clock_allowed b =
      allow_if is_of_settling (is_too_late s b) (Some (action.ConnectTimesOut b.number)) (if is_rested s b then Some (action.BackoffEnds b.number) else None) refl
      (allow_if is_of_settling (is_rested s b) (Some (action.BackoffEnds b.number)) None refl tt)

  config_allowed : (c : Call) → AllowsIf is_of_settling (config_action s c)
  config_allowed c =
      allow_if is_of_settling (is_to_configure s c) (Some (action.CallConfigured c.number (length s.configs))) (if lacks_config s c then Some (action.CallEnds c.number ending.NoConfig) else None) refl
      (allow_if is_of_settling (lacks_config s c) (Some (action.CallEnds c.number ending.NoConfig)) None refl tt)

  made_allowed : (c : Call) (d : ℕ) (b : Bool) → is_of_settling (if b then action.HedgeWithheld c.number else action.AttemptMade c.number (attempts_made c s + 1) (kind_of_next c s) d) ≡ true
  made_allowed c d true = refl
  made_allowed c d false = refl

  due_allowed : (c : Call) → AllowsIf is_of_settling (due_action s c)
  due_allowed c =
      allow_if is_of_settling (is_open_call c) (option_and_then (due_if_past c s) (next_due c s)) None
      (allow_then is_of_settling (due_if_past c s)
      (λ d. allow_if is_of_settling (nat_le d (now s)) (Some (due_attempt c s d)) None (made_allowed c d (is_hedge (kind_of_next c s) && not (has_tokens c s))) tt) (next_due c s)) tt

  asked_allowed : (test : Attempt → Bool) → AllowsIf is_of_settling (next_asked test s)
  asked_allowed test =
      allow_then is_of_settling (asking s)
      (λ a. allow_map is_of_settling (λ (g : PolicyUse). action.PickRequested a.place g.number (pick_of (policy_of g s))) (λ g. refl) (current_policy s))
      (foremost is_queued_before (filter (λ (a : Attempt). is_served s a && test a) s.attempts))

  settling_allowed : (o : OpenEntry) → AllowsIf is_of_settling (of_settling o s)
  settling_allowed o =
      allow_or is_of_settling (next_of_clock s) _ (allow_first is_of_settling (clock_action s) s.subs clock_allowed)
      (allow_or is_of_settling (next_take_over s) _ (allow_then is_of_settling (λ (g : PolicyUse). if may_take_over s g then Some (action.PolicyTakesOver g.number) else None)
      (λ g. allow_if is_of_settling (may_take_over s g) (Some (action.PolicyTakesOver g.number)) None refl tt) (pending_policy s))
      (allow_or is_of_settling (next_connected s) _ (allow_map is_of_settling (λ (b : Subchannel). action.SubchannelConnects b.number) (λ b. refl) (find (λ (b : Subchannel). is_idle b.state && is_wished s b) s.subs))
      (allow_or is_of_settling (first_of (config_action s) s.calls) _ (allow_first is_of_settling (config_action s) s.calls config_allowed)
      (allow_or is_of_settling (next_of_pass o s) _ (allow_then is_of_settling (λ (t : Turn). next_asked (is_after t) s) (λ t. asked_allowed (is_after t)) o.turn)
      (allow_or is_of_settling (next_due_attempt s) _ (allow_first is_of_settling (due_action s) s.calls due_allowed)
      (allow_or is_of_settling (next_of_queue s) _ (asked_allowed (λ (a : Attempt). true)) refl))))))

  pub settles_by : (o : OpenEntry) (a : Action) → s.current ≡ Some o → o.stage ≡ stage.Settling → following s ≡ Some a → is_of_settling a ≡ true
  settles_by o a current at e =
      subst (AllowsIf is_of_settling) (sym (ap (option_and_then (following_in s)) current) ∙ e)
      (following_allowed is_of_settling at_once_settles s o (subst (λ (g : Stage). AllowsIf is_of_settling (of_stage o s g)) (sym at) (settling_allowed o)))

  -- once a loss was answered
  frames_allowed : (o : OpenEntry) (link : ℕ) → o.event ≡ event.LinkLost link → AllowsIf is_of_reply (of_frames o s)
  frames_allowed o link is =
      allow_or is_of_reply (frame_action o s) _
      (allow_if is_of_reply (is_after_event o) (frame_of_event o.event o s) None (subst (λ (e : Event). AllowsIf is_of_reply (frame_of_event e o s)) (sym is) tt) tt) refl

  pub replies_by : (o : OpenEntry) (link : ℕ) (a : Action) → s.current ≡ Some o → o.stage ≡ stage.Replied → o.event ≡ event.LinkLost link → following s ≡ Some a
      → is_of_reply a ≡ true
  replies_by o link a current at is e =
      subst (AllowsIf is_of_reply) (sym (ap (option_and_then (following_in s)) current) ∙ e)
      (following_allowed is_of_reply at_once_replies s o (subst (λ (g : Stage). AllowsIf is_of_reply (of_stage o s g)) (sym at) (frames_allowed o link is)))
