-- Line by line: a config is read only by an event that brings a result, and is what its text is read as.
use Rattle.attempt_ledger.specs.Hedging.{is_hedge}
use Rattle.attempt_ledger.specs.declared.ledger.Ask.{Ask}
use Rattle.grpc_base.specs.declared.address.Address.{Address}
use Rattle.grpc_base.specs.declared.event.ConfigFault.{ConfigFault}
use Rattle.grpc_base.specs.declared.event.EndCause.TheVariants as ending
use Rattle.grpc_base.specs.declared.event.EndCause.{EndCause}
use Rattle.grpc_base.specs.declared.event.Event.TheVariants as event
use Rattle.grpc_base.specs.declared.event.Event.{Event}
use Rattle.grpc_base.specs.declared.event.Refusal.{Refusal}
use Rattle.grpc_base.specs.declared.event.Reply.TheVariants as reply
use Rattle.grpc_base.specs.declared.event.Reply.{Reply}
use Rattle.grpc_base.specs.declared.kind.Pick.TheVariants as pick
use Rattle.grpc_base.specs.declared.kind.Pick.{Pick}
use Rattle.lb_policy.specs.Table.{pick_of}
use Rattle.service_config.specs.declared.config.Config.{Config}
use Rattle.session_actions.specs.Actions.{config_action, following, following_in, of_calls, of_links, of_policies, of_settling, of_stage}
use Rattle.session_actions.specs.AttemptEnds.{cut, cut_end, end_of, next_cut, next_reset, next_wire_end, outcome_of, reset_code_of, reset_of, wire_end}
use Rattle.session_actions.specs.Attempts.{is_outstanding, is_over, wants_follower}
use Rattle.session_actions.specs.CallEnds.{ending_call, has_long_request, has_long_response, is_after_event, is_cancelled, is_due_before, is_over_by_row, is_past_deadline, is_shut_down, lacks_config, next_deadline, next_ended}
use Rattle.session_actions.specs.Calls.{is_open_call}
use Rattle.session_actions.specs.Commitments.{committing, is_final_end, is_headed, is_inherited, next_final, next_headed, next_inherited, next_overflow, overflow_row}
use Rattle.session_actions.specs.Configs.{is_to_configure, is_too_long, read_config}
use Rattle.session_actions.specs.Deliveries.{held_bytes, is_accepted, next_item, send_action, take_action}
use Rattle.session_actions.specs.DueAttempts.{attempts_made, kind_of_next, next_due}
use Rattle.session_actions.specs.Entries.{entry, now}
use Rattle.session_actions.specs.Events.{event_action, event_action_by, event_applied, frame_action, frame_of_event, is_loss}
use Rattle.session_actions.specs.Links.{has_settings, is_stream_before}
use Rattle.session_actions.specs.Making.{due_action, due_attempt, due_if_past, next_due_attempt, next_transparent, transparent_retry}
use Rattle.session_actions.specs.Policies.{addresses_in, asking, begin_if, current_policy, follow_ask, follow_pick, is_after, is_failure, is_queued_before, is_same_kind, is_served, is_to_retire, is_unfollowed, listed, live_policies, live_sub, may_take_over, next_asked, next_begun, next_given, next_of_pass, next_of_pick, next_of_queue, next_retired, next_take_over, pending_policy, placed_on, policy_of, wanted_kind, wants_addresses}
use Rattle.session_actions.specs.Reading.{next_read}
use Rattle.session_actions.specs.Refusals.{dial_refusal, refusal_of, refused_if}
use Rattle.session_actions.specs.Subchannels.{clock_action, dial_action, is_connecting, is_dialable, is_dialling, is_going_down, is_idle, is_rested, is_to_be_ready, is_to_go_down, is_too_late, is_unlisted, is_wished, link_action, link_of_sub, next_added, next_connected, next_of_clock, next_of_links, next_shut}
use Rattle.session_actions.specs.Tokens.{has_tokens}
use Rattle.session_actions.specs.Words.{first_of, foremost, holds, last_of, numbered}
use Rattle.session_actions.specs.Writing.{fits_drain, frame_to_write, next_frame_read, read_action, read_next, sendable}
use Rattle.session_actions.specs.declared.action.Action.TheVariants as action
use Rattle.session_actions.specs.declared.action.Action.{Action}
use Rattle.session_actions.specs.declared.action.CommitCause.TheVariants as commit
use Rattle.session_actions.specs.declared.attempt.Attempt.{Attempt}
use Rattle.session_actions.specs.declared.call.Call.{Call}
use Rattle.session_actions.specs.declared.entry.OpenEntry.{OpenEntry}
use Rattle.session_actions.specs.declared.entry.Stage.TheVariants as stage
use Rattle.session_actions.specs.declared.entry.Stage.{Stage}
use Rattle.session_actions.specs.declared.entry.Turn.{Turn}
use Rattle.session_actions.specs.declared.link.Link.{Link}
use Rattle.session_actions.specs.declared.link.NextRead.TheVariants as nextread
use Rattle.session_actions.specs.declared.link.NextRead.{NextRead}
use Rattle.session_actions.specs.declared.policy.PolicyUse.{PolicyUse}
use Rattle.session_actions.specs.declared.response.Outcome.{Outcome}
use Rattle.session_actions.specs.declared.seen.Seen.{Seen}
use Rattle.session_actions.specs.declared.subchannel.Subchannel.{Subchannel}
use Rattle.std.proofs.Common.{Bool, List, Result, None, Option, Some, [], ap, cond, false, filter, find, if◌then◌else◌, is_none, is_some, length, nat_le, not, option_and_then, option_map, refl, slice_get, subst, suc, sym, true, zero, ℕ, ◌&&◌, ◌+◌, ◌==◌, ◌||◌, ◌∙◌, ◌∷◌, ◌≡◌}
use Rattle.std.specs.List.{list_any}
use Rattle.std.specs.Option.{option_map_or, option_or}

-- what a line gives is no config that is read, but that of the event
abbrev Says : Seen → Action → Type 0
Says s (action.ConfigRead x) = (text : Option (List ℕ)) × (x ≡ read_config text s)
Says s _ = Unit {0}

abbrev SaysIf : Seen → Option Action → Type 0
SaysIf s None = Unit {0}
SaysIf s (Some a) = Says s a

module _ (o : OpenEntry) (s : Seen) where
  either : (a b : Option Action) → SaysIf s a → SaysIf s b → SaysIf s (option_or a b)
  either None b f g = g
  either (Some a) b f g = f

  by_map : {X : Type 0} (f : X → Action) → ((x : X) → Says s (f x)) → (q : Option X) → SaysIf s (option_map f q)
  by_map f each None = tt
  by_map f each (Some x) = each x

  then_by : {X : Type 0} (f : X → Option Action) → ((x : X) → SaysIf s (f x)) → (q : Option X) → SaysIf s (option_and_then f q)
  then_by f each None = tt
  then_by f each (Some x) = each x

  first_by : {X : Type 0} (f : X → Option Action) → ((x : X) → SaysIf s (f x)) → (xs : List X) → SaysIf s (first_of f xs)
  first_by f each [] = tt
  first_by f each (x ∷ xs) = either (f x) (first_of f xs) (each x) (first_by f each xs)

  if_by : (b : Bool) (p q : Option Action) → SaysIf s p → SaysIf s q → SaysIf s (if b then p else q)
  if_by true p q f g = f
  if_by false p q f g = g

  ended : (why : EndCause) (test : Call → Bool) → SaysIf s (next_ended why test s)
  ended why test = by_map (ending_call why) (λ c. tt) (find test s.calls)

  wire : SaysIf s (next_wire_end s)
  wire =
      first_by (wire_end s)
      (λ a. if_by (is_outstanding a && not (is_over a s)) (option_map (λ (t : Outcome). action.AttemptEnds a.place (end_of a t s)) (outcome_of a s)) None
      (by_map (λ (t : Outcome). action.AttemptEnds a.place (end_of a t s)) (λ t. tt) (outcome_of a s)) tt) s.attempts

  calls_say : SaysIf s (of_calls o s)
  calls_say =
      either (next_cut s) _ (first_by (cut s) (λ a. if_by (is_outstanding a && is_over a s) (Some (action.AttemptEnds a.place (end_of a cut_end s))) None tt tt) s.attempts)
      (either (next_transparent s) _ (by_map (transparent_retry s) (λ a. tt) (find (λ (a : Attempt). wants_follower a s) s.attempts))
      (either (next_inherited s) _ (by_map (committing commit.Inherited) (λ a. tt) (find (is_inherited s) s.attempts))
      (either (next_ended ending.Row (is_over_by_row s) s) _ (ended ending.Row (is_over_by_row s))
      (either (next_final s) _ (by_map (committing commit.Final) (λ a. tt) (find (is_final_end s) s.attempts))
      (either (next_ended ending.Cancelled (is_cancelled o) s) _ (ended ending.Cancelled (is_cancelled o))
      (either (next_ended ending.Request (has_long_request o s) s) _ (ended ending.Request (has_long_request o s))
      (either (next_overflow s) _ (by_map (committing commit.Overflow) (λ a. tt) (first_of (overflow_row s) s.calls))
      (either (next_headed s) _ (by_map (committing commit.Head) (λ a. tt) (find (is_headed s) s.attempts))
      (either (next_ended ending.Response (has_long_response s) s) None (ended ending.Response (has_long_response s)) tt)))))))))

  pick_says : (ask : Ask) (a : Attempt) (p : Pick) → SaysIf s (follow_pick ask s a p)
  pick_says ask a (pick.Place sub) = by_map (λ (b : Subchannel). action.AttemptPlaced a.place (placed_on ask s b)) (λ b. tt) (numbered s.subs sub)
  pick_says ask a pick.Fail = tt
  pick_says ask a pick.Wait = tt

  ask_says : (ask : Ask) → SaysIf s (follow_ask s ask)
  ask_says ask =
      then_by (λ (a : Attempt). if is_unfollowed a && (ask.entry == entry s) then follow_pick ask s a ask.answer else None)
      (λ a. if_by (is_unfollowed a && (ask.entry == entry s)) (follow_pick ask s a ask.answer) None (pick_says ask a ask.answer) tt) (numbered s.attempts ask.row)

  link_says : (b : Subchannel) → SaysIf s (link_action s b)
  link_says b =
      if_by (is_to_be_ready s b) (Some (action.SettingsArrive b.number)) (if is_to_go_down s b then Some (action.LinkDown b.number) else None) tt
      (if_by (is_to_go_down s b) (Some (action.LinkDown b.number)) None tt tt)

  loss_says : (b : Bool) → SaysIf s (if b then None else next_wire_end s)
  loss_says true = tt
  loss_says false = wire

  links_say : SaysIf s (of_links o s)
  links_say =
      either (next_of_pick s) _ (then_by (follow_ask s) ask_says (last_of s.asks))
      (either (next_of_links s) _ (first_by (link_action s) link_says s.subs)
      (either (if is_loss o.event then None else next_wire_end s) _ (loss_says (is_loss o.event))
      (either (next_reset s) _
      (then_by (reset_of s) (λ a. by_map (λ (number : ℕ). action.StreamReset a.place number) (λ number. tt) (reset_code_of s a))
      (foremost is_stream_before (filter (λ (a : Attempt). is_some (reset_code_of s a)) s.attempts)))
      (either (next_wire_end s) None wire tt))))

  policies_say : SaysIf s (of_policies o s)
  policies_say =
      either (next_ended ending.Shut (is_shut_down s) s) _ (ended ending.Shut (is_shut_down s))
      (either (next_retired o s) _ (by_map (λ (g : PolicyUse). action.PolicyRetired g.number) (λ g. tt) (find (is_to_retire o s) s.policies))
      (either (next_begun o s) _
      (then_by (begin_if s) (λ k. if_by (list_any (λ (g : PolicyUse). is_same_kind g.generation.kind k) (live_policies s)) None (Some (action.PolicyBegins k)) tt tt) (wanted_kind o s))
      (either (next_given o s) _ (by_map (λ (g : PolicyUse). action.AddressesGiven g.number) (λ g. tt) (find (wants_addresses o s) s.policies))
      (either (next_shut s) _ (by_map (λ (b : Subchannel). action.SubchannelShut b.number) (λ b. tt) (find (is_unlisted s) s.subs))
      (either (next_added s) None
      (by_map (λ (address : Address). action.SubchannelAdded address) (λ address. tt) (find (λ (address : Address). is_none (live_sub s address)) (listed s))) tt)))))

  clock_says : (b : Subchannel) → SaysIf s (clock_action s b)
  clock_says b =
      if_by (is_too_late s b) (Some (action.ConnectTimesOut b.number)) (if is_rested s b then Some (action.BackoffEnds b.number) else None) tt
      (if_by (is_rested s b) (Some (action.BackoffEnds b.number)) None tt tt)

  config_says : (c : Call) → SaysIf s (config_action s c)
  config_says c =
      if_by (is_to_configure s c) (Some (action.CallConfigured c.number (length s.configs))) (if lacks_config s c then Some (action.CallEnds c.number ending.NoConfig) else None) tt
      (if_by (lacks_config s c) (Some (action.CallEnds c.number ending.NoConfig)) None tt tt)

  due_by : (c : Call) (d : ℕ) (b : Bool) → Says s (if b then action.HedgeWithheld c.number else action.AttemptMade c.number (attempts_made c s + 1) (kind_of_next c s) d)
  due_by c d true = tt
  due_by c d false = tt

  due_says : (c : Call) → SaysIf s (due_action s c)
  due_says c =
      if_by (is_open_call c) (option_and_then (due_if_past c s) (next_due c s)) None
      (then_by (due_if_past c s) (λ d. if_by (nat_le d (now s)) (Some (due_attempt c s d)) None (due_by c d (is_hedge (kind_of_next c s) && not (has_tokens c s))) tt) (next_due c s)) tt

  asked_says : (test : Attempt → Bool) → SaysIf s (next_asked test s)
  asked_says test =
      then_by (asking s) (λ a. by_map (λ (g : PolicyUse). action.PickRequested a.place g.number (pick_of (policy_of g s))) (λ g. tt) (current_policy s))
      (foremost is_queued_before (filter (λ (a : Attempt). is_served s a && test a) s.attempts))

  settling_says : SaysIf s (of_settling o s)
  settling_says =
      either (next_of_clock s) _ (first_by (clock_action s) clock_says s.subs)
      (either (next_take_over s) _
      (then_by (λ (g : PolicyUse). if may_take_over s g then Some (action.PolicyTakesOver g.number) else None)
      (λ g. if_by (may_take_over s g) (Some (action.PolicyTakesOver g.number)) None tt tt) (pending_policy s))
      (either (next_connected s) _ (by_map (λ (b : Subchannel). action.SubchannelConnects b.number) (λ b. tt) (find (λ (b : Subchannel). is_idle b.state && is_wished s b) s.subs))
      (either (first_of (config_action s) s.calls) _ (first_by (config_action s) config_says s.calls)
      (either (next_of_pass o s) _ (then_by (λ (t : Turn). next_asked (is_after t) s) (λ t. asked_says (is_after t)) o.turn)
      (either (next_due_attempt s) _ (first_by (due_action s) due_says s.calls)
      (either (next_of_queue s) _ (asked_says (λ (a : Attempt). true)) tt))))))

  -- the event
  send_by : (call : ℕ) (held : ℕ) (long accepted : Bool)
      → Says s (if long then action.EventAnswered reply.Done else if accepted then action.MessageAccepted call else action.EventAnswered (reply.Full held))
  send_by call held true accepted = tt
  send_by call held false true = tt
  send_by call held false false = tt

  take_by : (call : ℕ) (item : Option Reply) → Says s (take_action call item)
  take_by call None = tt
  take_by call (Some item) = tt

  dial_says : (q : Option Subchannel) → Says s (option_map_or (dial_action s) q (action.EventAnswered reply.NotYet))
  dial_says None = tt
  dial_says (Some b) = tt

  applied_says : (e : Event) → SaysIf s (event_applied e s)
  applied_says (event.Begin request) = tt
  applied_says (event.Send call message) =
      by_map (send_action call message s) (λ c. send_by call (held_bytes c s) (is_too_long message c s) (is_accepted c message s)) (numbered s.calls call)
  applied_says (event.Finish call) = tt
  applied_says (event.Take call) = by_map (λ (c : Call). take_action call (next_item c s)) (λ c. take_by call (next_item c s)) (numbered s.calls call)
  applied_says (event.Cancel call) = tt
  applied_says (event.Resolved addresses config) = (config, refl)
  applied_says event.ResolveFailed = tt
  applied_says event.TakeDial = dial_says (find is_dialable s.subs)
  applied_says (event.LinkUp sub) = tt
  applied_says (event.DialFailed sub) = tt
  applied_says (event.Arrived link piece) = tt
  applied_says (event.LinkLost link) = tt
  applied_says (event.Drain link room) = tt
  applied_says (event.Ping link word) = tt
  applied_says event.Tick = tt
  applied_says event.Shutdown = tt

  event_by : (why : Option Refusal) (e : Event) → SaysIf s (event_action_by why e s)
  event_by None e = applied_says e
  event_by (Some why) e = tt

  -- frames
  read_by : (link : ℕ) (n : NextRead) → SaysIf s (read_action link n)
  read_by link nextread.Nothing = tt
  read_by link (nextread.Frame r) = tt
  read_by link (nextread.Broken number) = tt

  frame_says : (e : Event) → SaysIf s (frame_of_event e o s)
  frame_says (event.Arrived link piece) =
      then_by (read_next link s) (λ l. if_by (is_none l.over) (read_action link (next_read l s)) None (read_by link (next_read l s)) tt) (numbered s.links link)
  frame_says (event.Drain link most) =
      then_by (λ (l : Link). option_and_then (frame_to_write link most o s) (sendable l s))
      (λ l. then_by (frame_to_write link most o s) (λ x. if_by (fits_drain most o x) (Some (action.FrameWritten link x)) None tt tt) (sendable l s)) (numbered s.links link)
  frame_says _ = tt

  stage_says : (g : Stage) → SaysIf s (of_stage o s g)
  stage_says stage.Event =
      either (next_deadline s) _ (by_map (ending_call ending.Deadline) (λ c. tt) (foremost (is_due_before s) (filter (is_past_deadline s) s.calls)))
      (either (event_action o.event s) None (event_by (refusal_of o.event s) o.event) tt)
  stage_says stage.Replied = either (frame_action o s) _ (if_by (is_after_event o) (frame_of_event o.event o s) None (frame_says o.event) tt) tt
  stage_says stage.Settling = settling_says

  in_says : SaysIf s (following_in s o)
  in_says =
      either (of_calls o s) _ calls_say (either (of_links o s) _ links_say (either (of_policies o s) _ policies_say (either (of_stage o s o.stage) None (stage_says o.stage) tt)))

says_by : (s : Seen) (c : Option OpenEntry) → SaysIf s (option_and_then (following_in s) c)
says_by s None = tt
says_by s (Some o) = in_says o s

pub config_is_of_event : (s : Seen) (x : Result Config ConfigFault) → following s ≡ Some (action.ConfigRead x) → (text : Option (List ℕ)) × (x ≡ read_config text s)
config_is_of_event s x e = subst (SaysIf s) e (says_by s s.current)
