-- At which stage of an entry it is answered: what the lines of a session say of that.
use Rattle.attempt_ledger.specs.Hedging.{is_hedge}
use Rattle.attempt_ledger.specs.Journals.{items_in}
use Rattle.attempt_ledger.specs.declared.ledger.Ask.{Ask}
use Rattle.grpc_base.specs.declared.address.Address.{Address}
use Rattle.grpc_base.specs.declared.event.EndCause.{EndCause}
use Rattle.grpc_base.specs.declared.event.Event.{Event}
use Rattle.grpc_base.specs.declared.event.Refusal.{Refusal}
use Rattle.grpc_base.specs.declared.event.Reply.{Reply}
use Rattle.grpc_base.specs.declared.kind.Kind.{Kind}
use Rattle.grpc_base.specs.declared.kind.Pick.{Pick}
use Rattle.lb_policy.specs.Table.{pick_of}
use Rattle.session_actions.specs.Actions.{config_action, first_action, following, following_in, of_calls, of_links, of_policies, of_settling, of_stage}
use Rattle.session_actions.specs.AttemptEnds.{cut, cut_end, end_of, next_cut, next_reset, next_wire_end, outcome_of, reset_code_of, reset_of, wire_end}
use Rattle.session_actions.specs.Attempts.{is_outstanding, is_over, wants_follower}
use Rattle.session_actions.specs.CallEnds.{ending_call, has_long_request, has_long_response, is_after_event, is_cancelled, is_due_before, is_over_by_row, is_past_deadline, is_shut_down, lacks_config, next_deadline, next_ended}
use Rattle.session_actions.specs.Calls.{is_open_call}
use Rattle.session_actions.specs.Commitments.{committing, is_final_end, is_headed, is_inherited, next_final, next_headed, next_inherited, next_overflow, overflow_row}
use Rattle.session_actions.specs.Configs.{is_to_configure, is_too_long}
use Rattle.session_actions.specs.Deliveries.{held_bytes, is_accepted, next_item, send_action, take_action}
use Rattle.session_actions.specs.DueAttempts.{attempts_made, kind_of_next, next_due}
use Rattle.session_actions.specs.Entries.{entry, now}
use Rattle.session_actions.specs.Events.{event_action, event_action_by, event_applied, frame_action, frame_of_event, is_loss}
use Rattle.session_actions.specs.Links.{is_stream_before}
use Rattle.session_actions.specs.Making.{due_action, due_attempt, due_if_past, next_due_attempt, next_transparent, transparent_retry}
use Rattle.session_actions.specs.Policies.{asking, begin_if, current_policy, follow_ask, follow_pick, is_after, is_queued_before, is_same_kind, is_served, is_to_retire, is_unfollowed, listed, live_policies, live_sub, may_take_over, next_asked, next_begun, next_given, next_of_pass, next_of_pick, next_of_queue, next_retired, next_take_over, pending_policy, placed_on, policy_of, wanted_kind, wants_addresses}
use Rattle.session_actions.specs.Reading.{next_read}
use Rattle.session_actions.specs.Refusals.{refusal_of}
use Rattle.session_actions.specs.Subchannels.{clock_action, dial_action, is_dialable, is_idle, is_rested, is_to_be_ready, is_to_go_down, is_too_late, is_unlisted, is_wished, link_action, next_added, next_connected, next_of_clock, next_of_links, next_shut}
use Rattle.session_actions.specs.Tokens.{has_tokens}
use Rattle.session_actions.specs.Words.{first_of, foremost, last_of, numbered}
use Rattle.session_actions.specs.Writing.{fits_drain, frame_to_write, read_action, read_next, sendable}
use Rattle.session_actions.specs.declared.action.Action.{Action}
use Rattle.session_actions.specs.declared.attempt.Attempt.{Attempt}
use Rattle.session_actions.specs.declared.call.Call.{Call}
use Rattle.session_actions.specs.declared.entry.OpenEntry.{OpenEntry}
use Rattle.session_actions.specs.declared.entry.Stage.{Stage}
use Rattle.session_actions.specs.declared.entry.Turn.{Turn}
use Rattle.session_actions.specs.declared.link.Link.{Link}
use Rattle.session_actions.specs.declared.link.NextRead.{NextRead}
use Rattle.session_actions.specs.declared.policy.PolicyUse.{PolicyUse}
use Rattle.session_actions.specs.declared.response.Outcome.{Outcome}
use Rattle.session_actions.specs.declared.seen.Seen.{Seen}
use Rattle.session_actions.specs.declared.subchannel.Subchannel.{Subchannel}
use Rattle.std.proofs.Common.{Bool, List, None, Option, Some, [], ap, false, filter, find, if◌then◌else◌, is_none, is_some, length, nat_le, not, refl, subst, sym, true, ℕ, ◌&&◌, ◌+◌, ◌==◌, ◌∙◌, ◌∷◌, ◌≡◌}
use Rattle.std.specs.List.{list_any}
use Rattle.std.specs.Option.{option_map, option_map_or, option_or}
use Rattle.std.specs.Prelude.{option_and_then}
use Rattle.session_actions.specs.declared.action.Action.TheVariants as action
use Rattle.session_actions.specs.declared.action.CommitCause.TheVariants as commit
use Rattle.grpc_base.specs.declared.event.EndCause.TheVariants as ending
use Rattle.grpc_base.specs.declared.event.Event.TheVariants as event
use Rattle.session_actions.specs.declared.link.NextRead.TheVariants as nextread
use Rattle.grpc_base.specs.declared.kind.Pick.TheVariants as pick
use Rattle.grpc_base.specs.declared.event.Reply.TheVariants as reply
use Rattle.session_actions.specs.declared.entry.Stage.TheVariants as stage

abbrev pub IsReported : Action → OpenEntry → Type 0
IsReported (action.EventRefused why) o = o.stage ≡ stage.Event
IsReported (action.EventAnswered r) o = (o.stage ≡ stage.Event) × (items_in r ≡ [])
IsReported (action.ConfigRead config) o = o.stage ≡ stage.Event
IsReported (action.ItemTaken call item) o = o.stage ≡ stage.Event
IsReported (action.FrameWritten link x) o = (o.stage ≡ stage.Replied) × ((most : ℕ) × (o.event ≡ event.Drain link most))
IsReported _ o = Unit {0}

abbrev ReportsIf : OpenEntry → Option Action → Type 0
ReportsIf o None = Unit {0}
ReportsIf o (Some a) = IsReported a o

report_or : (o : OpenEntry) (p q : Option Action) → ReportsIf o p → ReportsIf o q → ReportsIf o (option_or p q)
report_or o None q f g = g
report_or o (Some a) q f g = f

report_map : {X : Type 0} (o : OpenEntry) (f : X → Action) → ((x : X) → IsReported (f x) o) → (p : Option X) → ReportsIf o (option_map f p)
report_map o f each None = tt
report_map o f each (Some x) = each x

report_then : {X : Type 0} (o : OpenEntry) (f : X → Option Action) → ((x : X) → ReportsIf o (f x)) → (p : Option X) → ReportsIf o (option_and_then f p)
report_then o f each None = tt
report_then o f each (Some x) = each x

report_first : {X : Type 0} (o : OpenEntry) (f : X → Option Action) → ((x : X) → ReportsIf o (f x)) → (xs : List X) → ReportsIf o (first_of f xs)
report_first o f each [] = tt
report_first o f each (x ∷ xs) = report_or o (f x) (first_of f xs) (each x) (report_first o f each xs)

report_if : (o : OpenEntry) (b : Bool) (p q : Option Action) → ReportsIf o p → ReportsIf o q → ReportsIf o (if b then p else q)
report_if o true p q f g = f
report_if o false p q f g = g

next_or : (o : OpenEntry) (p : Option Action) (rest : List (Option Action)) → ReportsIf o p → ReportsIf o (first_action rest) → ReportsIf o (first_action (p ∷ rest))
next_or o p rest f g = report_or o p (first_action rest) f g

module _ (s : Seen) (o : OpenEntry) where
  cut_reports : (a : Attempt) → ReportsIf o (cut s a)
  cut_reports a = report_if o (is_outstanding a && is_over a s) (Some (action.AttemptEnds a.place (end_of a cut_end s))) None tt tt

  wire_reports : (a : Attempt) → ReportsIf o (wire_end s a)
  wire_reports a =
      report_if o (is_outstanding a && not (is_over a s)) (option_map (λ (t : Outcome). action.AttemptEnds a.place (end_of a t s)) (outcome_of a s)) None
      (report_map o (λ (t : Outcome). action.AttemptEnds a.place (end_of a t s)) (λ t. tt) (outcome_of a s)) tt

  pick_reports : (ask : Ask) (a : Attempt) (p : Pick) → ReportsIf o (follow_pick ask s a p)
  pick_reports ask a (pick.Place sub) = report_map o (λ (b : Subchannel). action.AttemptPlaced a.place (placed_on ask s b)) (λ b. tt) (numbered s.subs sub)
  pick_reports ask a pick.Fail = tt
  pick_reports ask a pick.Wait = tt

  ask_reports : (ask : Ask) → ReportsIf o (follow_ask s ask)
  ask_reports ask =
      report_then o (λ (a : Attempt). if is_unfollowed a && (ask.entry == entry s) then follow_pick ask s a ask.answer else None)
      (λ a. report_if o (is_unfollowed a && (ask.entry == entry s)) (follow_pick ask s a ask.answer) None (pick_reports ask a ask.answer) tt) (numbered s.attempts ask.row)

  ended_reports : (why : EndCause) (test : Call → Bool) → ReportsIf o (next_ended why test s)
  ended_reports why test = report_map o (ending_call why) (λ c. tt) (find test s.calls)

  calls_report : ReportsIf o (of_calls o s)
  calls_report =
      next_or o (next_cut s) (next_transparent s ∷ next_inherited s ∷ next_ended ending.Row (is_over_by_row s) s ∷ next_final s ∷ next_ended ending.Cancelled (is_cancelled o) s
      ∷ next_ended ending.Request (has_long_request o s) s ∷ next_overflow s ∷ next_headed s ∷ next_ended ending.Response (has_long_response s) s ∷ []) (report_first o (cut s) cut_reports s.attempts)
      (next_or o (next_transparent s) (next_inherited s ∷ next_ended ending.Row (is_over_by_row s) s ∷ next_final s ∷ next_ended ending.Cancelled (is_cancelled o) s
      ∷ next_ended ending.Request (has_long_request o s) s ∷ next_overflow s ∷ next_headed s ∷ next_ended ending.Response (has_long_response s) s ∷ [])
      (report_map o (transparent_retry s) (λ a. tt) (find (λ (a : Attempt). wants_follower a s) s.attempts))
      (next_or o (next_inherited s) (next_ended ending.Row (is_over_by_row s) s ∷ next_final s ∷ next_ended ending.Cancelled (is_cancelled o) s
      ∷ next_ended ending.Request (has_long_request o s) s ∷ next_overflow s ∷ next_headed s ∷ next_ended ending.Response (has_long_response s) s ∷ [])
      (report_map o (committing commit.Inherited) (λ a. tt) (find (is_inherited s) s.attempts))
      (next_or o (next_ended ending.Row (is_over_by_row s) s) (next_final s ∷ next_ended ending.Cancelled (is_cancelled o) s
      ∷ next_ended ending.Request (has_long_request o s) s ∷ next_overflow s ∷ next_headed s ∷ next_ended ending.Response (has_long_response s) s ∷ [])
      (ended_reports ending.Row (is_over_by_row s))
      (next_or o (next_final s) (next_ended ending.Cancelled (is_cancelled o) s
      ∷ next_ended ending.Request (has_long_request o s) s ∷ next_overflow s ∷ next_headed s ∷ next_ended ending.Response (has_long_response s) s ∷ [])
      (report_map o (committing commit.Final) (λ a. tt) (find (is_final_end s) s.attempts))
      (next_or o (next_ended ending.Cancelled (is_cancelled o) s) (next_ended ending.Request (has_long_request o s) s ∷ next_overflow s ∷ next_headed s
      ∷ next_ended ending.Response (has_long_response s) s ∷ []) (ended_reports ending.Cancelled (is_cancelled o))
      (next_or o (next_ended ending.Request (has_long_request o s) s) (next_overflow s ∷ next_headed s ∷ next_ended ending.Response (has_long_response s) s ∷ [])
      (ended_reports ending.Request (has_long_request o s))
      (next_or o (next_overflow s) (next_headed s ∷ next_ended ending.Response (has_long_response s) s ∷ [])
      (report_map o (committing commit.Overflow) (λ a. tt) (first_of (overflow_row s) s.calls))
      (next_or o (next_headed s) (next_ended ending.Response (has_long_response s) s ∷ [])
      (report_map o (committing commit.Head) (λ a. tt) (find (is_headed s) s.attempts))
      (next_or o (next_ended ending.Response (has_long_response s) s) [] (ended_reports ending.Response (has_long_response s)) tt)))))))))

  link_reports : (b : Subchannel) → ReportsIf o (link_action s b)
  link_reports b =
      report_if o (is_to_be_ready s b) (Some (action.SettingsArrive b.number)) (if is_to_go_down s b then Some (action.LinkDown b.number) else None) tt
      (report_if o (is_to_go_down s b) (Some (action.LinkDown b.number)) None tt tt)

  loss_reports : (b : Bool) → ReportsIf o (if b then None else next_wire_end s)
  loss_reports true = tt
  loss_reports false = report_first o (wire_end s) wire_reports s.attempts

  links_report : ReportsIf o (of_links o s)
  links_report =
      next_or o (next_of_pick s) (next_of_links s ∷ (if is_loss o.event then None else next_wire_end s) ∷ next_reset s ∷ next_wire_end s ∷ [])
      (report_then o (follow_ask s) ask_reports (last_of s.asks))
      (next_or o (next_of_links s) ((if is_loss o.event then None else next_wire_end s) ∷ next_reset s ∷ next_wire_end s ∷ []) (report_first o (link_action s) link_reports s.subs)
      (next_or o (if is_loss o.event then None else next_wire_end s) (next_reset s ∷ next_wire_end s ∷ []) (loss_reports (is_loss o.event))
      (next_or o (next_reset s) (next_wire_end s ∷ [])
      (report_then o (reset_of s) (λ a. report_map o (λ (number : ℕ). action.StreamReset a.place number) (λ number. tt) (reset_code_of s a))
      (foremost is_stream_before (filter (λ (a : Attempt). is_some (reset_code_of s a)) s.attempts)))
      (next_or o (next_wire_end s) [] (report_first o (wire_end s) wire_reports s.attempts) tt))))

  begun_reports : (x : Kind) → ReportsIf o (begin_if s x)
  begun_reports x = report_if o (list_any (λ (g : PolicyUse). is_same_kind g.generation.kind x) (live_policies s)) None (Some (action.PolicyBegins x)) tt tt

  policies_report : ReportsIf o (of_policies o s)
  policies_report =
      next_or o (next_ended ending.Shut (is_shut_down s) s) (next_retired o s ∷ next_begun o s ∷ next_given o s ∷ next_shut s ∷ next_added s ∷ []) (ended_reports ending.Shut (is_shut_down s))
      (next_or o (next_retired o s) (next_begun o s ∷ next_given o s ∷ next_shut s ∷ next_added s ∷ [])
      (report_map o (λ (g : PolicyUse). action.PolicyRetired g.number) (λ g. tt) (find (is_to_retire o s) s.policies))
      (next_or o (next_begun o s) (next_given o s ∷ next_shut s ∷ next_added s ∷ []) (report_then o (begin_if s) begun_reports (wanted_kind o s))
      (next_or o (next_given o s) (next_shut s ∷ next_added s ∷ []) (report_map o (λ (g : PolicyUse). action.AddressesGiven g.number) (λ g. tt) (find (wants_addresses o s) s.policies))
      (next_or o (next_shut s) (next_added s ∷ []) (report_map o (λ (b : Subchannel). action.SubchannelShut b.number) (λ b. tt) (find (is_unlisted s) s.subs))
      (next_or o (next_added s) [] (report_map o (λ (x : Address). action.SubchannelAdded x) (λ x. tt) (find (λ (x : Address). is_none (live_sub s x)) (listed s))) tt)))))

  -- what is due
  clock_reports : (b : Subchannel) → ReportsIf o (clock_action s b)
  clock_reports b =
      report_if o (is_too_late s b) (Some (action.ConnectTimesOut b.number)) (if is_rested s b then Some (action.BackoffEnds b.number) else None) tt
      (report_if o (is_rested s b) (Some (action.BackoffEnds b.number)) None tt tt)

  config_reports : (c : Call) → ReportsIf o (config_action s c)
  config_reports c =
      report_if o (is_to_configure s c) (Some (action.CallConfigured c.number (length s.configs))) (if lacks_config s c then Some (action.CallEnds c.number ending.NoConfig) else None) tt
      (report_if o (lacks_config s c) (Some (action.CallEnds c.number ending.NoConfig)) None tt tt)

  made_reports : (c : Call) (d : ℕ) (b : Bool) → IsReported (if b then action.HedgeWithheld c.number else action.AttemptMade c.number (attempts_made c s + 1) (kind_of_next c s) d) o
  made_reports c d true = tt
  made_reports c d false = tt

  due_reports : (c : Call) → ReportsIf o (due_action s c)
  due_reports c =
      report_if o (is_open_call c) (option_and_then (due_if_past c s) (next_due c s)) None
      (report_then o (due_if_past c s)
      (λ d. report_if o (nat_le d (now s)) (Some (due_attempt c s d)) None (made_reports c d (is_hedge (kind_of_next c s) && not (has_tokens c s))) tt) (next_due c s)) tt

  asked_reports : (test : Attempt → Bool) → ReportsIf o (next_asked test s)
  asked_reports test =
      report_then o (asking s) (λ a. report_map o (λ (g : PolicyUse). action.PickRequested a.place g.number (pick_of (policy_of g s))) (λ g. tt) (current_policy s))
      (foremost is_queued_before (filter (λ (a : Attempt). is_served s a && test a) s.attempts))

  settling_reports : ReportsIf o (of_settling o s)
  settling_reports =
      next_or o (next_of_clock s) (next_take_over s ∷ next_connected s ∷ first_of (config_action s) s.calls ∷ next_of_pass o s ∷ next_due_attempt s ∷ next_of_queue s ∷ Some action.EntryCloses ∷ [])
      (report_first o (clock_action s) clock_reports s.subs)
      (next_or o (next_take_over s) (next_connected s ∷ first_of (config_action s) s.calls ∷ next_of_pass o s ∷ next_due_attempt s ∷ next_of_queue s ∷ Some action.EntryCloses ∷ [])
      (report_then o (λ (g : PolicyUse). if may_take_over s g then Some (action.PolicyTakesOver g.number) else None)
      (λ g. report_if o (may_take_over s g) (Some (action.PolicyTakesOver g.number)) None tt tt) (pending_policy s))
      (next_or o (next_connected s) (first_of (config_action s) s.calls ∷ next_of_pass o s ∷ next_due_attempt s ∷ next_of_queue s ∷ Some action.EntryCloses ∷ [])
      (report_map o (λ (b : Subchannel). action.SubchannelConnects b.number) (λ b. tt) (find (λ (b : Subchannel). is_idle b.state && is_wished s b) s.subs))
      (next_or o (first_of (config_action s) s.calls) (next_of_pass o s ∷ next_due_attempt s ∷ next_of_queue s ∷ Some action.EntryCloses ∷ []) (report_first o (config_action s) config_reports s.calls)
      (next_or o (next_of_pass o s) (next_due_attempt s ∷ next_of_queue s ∷ Some action.EntryCloses ∷ []) (report_then o (λ (t : Turn). next_asked (is_after t) s) (λ t. asked_reports (is_after t)) o.turn)
      (next_or o (next_due_attempt s) (next_of_queue s ∷ Some action.EntryCloses ∷ []) (report_first o (due_action s) due_reports s.calls)
      (next_or o (next_of_queue s) (Some action.EntryCloses ∷ []) (asked_reports (λ (a : Attempt). true)) tt))))))

  -- the event
  module _ (at : o.stage ≡ stage.Event) where
    send_reports : (call : ℕ) (long accepted : Bool) (held : ℕ)
        → IsReported (if long then action.EventAnswered reply.Done else if accepted then action.MessageAccepted call else action.EventAnswered (reply.Full held)) o
    send_reports call true accepted held = (at, refl)
    send_reports call false true held = tt
    send_reports call false false held = (at, refl)

    take_reports : (call : ℕ) (p : Option Reply) → IsReported (take_action call p) o
    take_reports call None = (at, refl)
    take_reports call (Some item) = at

    dial_reports : (p : Option Subchannel) → IsReported (option_map_or (dial_action s) p (action.EventAnswered reply.NotYet)) o
    dial_reports None = (at, refl)
    dial_reports (Some b) = tt

    event_reports : (e : Event) → ReportsIf o (event_applied e s)
    event_reports (event.Send call message) =
        report_map o (send_action call message s) (λ c. send_reports call (is_too_long message c s) (is_accepted c message s) (held_bytes c s)) (numbered s.calls call)
    event_reports (event.Take call) = report_map o (λ (c : Call). take_action call (next_item c s)) (λ c. take_reports call (next_item c s)) (numbered s.calls call)
    event_reports event.TakeDial = dial_reports (find is_dialable s.subs)
    event_reports (event.Cancel call) = (at, refl)
    event_reports (event.Drain link most) = (at, refl)
    event_reports event.Tick = (at, refl)
    event_reports (event.Resolved addresses config) = at
    event_reports _ = tt

    event_by : (p : Option Refusal) (e : Event) → ReportsIf o (event_action_by p e s)
    event_by None e = event_reports e
    event_by (Some why) e = at

  -- frames
  read_reports : (link : ℕ) (n : NextRead) → ReportsIf o (read_action link n)
  read_reports link nextread.Nothing = tt
  read_reports link (nextread.Frame r) = tt
  read_reports link (nextread.Broken number) = tt

  frame_reports : o.stage ≡ stage.Replied → (e : Event) → o.event ≡ e → ReportsIf o (frame_of_event e o s)
  frame_reports at (event.Arrived link piece) is =
      report_then o (read_next link s) (λ l. report_if o (is_none l.over) (read_action link (next_read l s)) None (read_reports link (next_read l s)) tt) (numbered s.links link)
  frame_reports at (event.Drain link most) is =
      report_then o (λ (l : Link). option_and_then (frame_to_write link most o s) (sendable l s))
      (λ l. report_then o (frame_to_write link most o s) (λ x. report_if o (fits_drain most o x) (Some (action.FrameWritten link x)) None (at, (most, is)) tt) (sendable l s)) (numbered s.links link)
  frame_reports at _ is = tt

  stage_reports : (g : Stage) → o.stage ≡ g → ReportsIf o (of_stage o s g)
  stage_reports stage.Event at =
      next_or o (next_deadline s) (event_action o.event s ∷ [])
      (report_map o (ending_call ending.Deadline) (λ c. tt) (foremost (is_due_before s) (filter (is_past_deadline s) s.calls)))
      (next_or o (event_action o.event s) [] (event_by at (refusal_of o.event s) o.event) tt)
  stage_reports stage.Replied at =
      next_or o (frame_action o s) (Some action.SettlingBegins ∷ []) (report_if o (is_after_event o) (frame_of_event o.event o s) None (frame_reports at o.event refl) tt) tt
  stage_reports stage.Settling at = settling_reports

  pub following_reports : ReportsIf o (following_in s o)
  following_reports =
      next_or o (of_calls o s) (of_links o s ∷ of_policies o s ∷ of_stage o s o.stage ∷ []) calls_report
      (next_or o (of_links o s) (of_policies o s ∷ of_stage o s o.stage ∷ []) links_report
      (next_or o (of_policies o s) (of_stage o s o.stage ∷ []) policies_report (next_or o (of_stage o s o.stage) [] (stage_reports o.stage refl) tt)))

pub next_reported : (s : Seen) (a : Action) (o : OpenEntry) → s.current ≡ Some o → following s ≡ Some a → IsReported a o
next_reported s a o current next =
    subst (ReportsIf o) (sym (ap (option_and_then (following_in s)) current) ∙ next) (following_reports s o)
