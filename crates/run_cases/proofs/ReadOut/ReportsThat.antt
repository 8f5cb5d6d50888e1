-- Line by line, what the action of a stage says of its entry: bytes come, and frames are read, of the link of the event. Frames are written where no bytes come; an entry
-- settles once nothing is left to be read; and one that closes has settled.
use Rattle.attempt_ledger.specs.Hedging.{is_hedge}
use Rattle.channel_actions.proofs.Calls.Few.Begins.{is_of_stage, is_stage_next}
use Rattle.grpc_base.specs.declared.event.EndCause.TheVariants as ending
use Rattle.grpc_base.specs.declared.event.Event.TheVariants as event
use Rattle.grpc_base.specs.declared.event.Event.{Event}
use Rattle.grpc_base.specs.declared.event.Refusal.{Refusal}
use Rattle.grpc_base.specs.declared.event.Reply.TheVariants as reply
use Rattle.grpc_base.specs.declared.event.Reply.{Reply}
use Rattle.lb_policy.specs.Table.{pick_of}
use Rattle.session_actions.specs.Actions.{config_action, following, of_settling, of_stage}
use Rattle.session_actions.specs.CallEnds.{ending_call, is_after_event, is_due_before, is_past_deadline, is_refusal, is_replied, lacks_config, next_deadline}
use Rattle.session_actions.specs.Calls.{is_open_call}
use Rattle.session_actions.specs.Configs.{is_to_configure, is_too_long}
use Rattle.session_actions.specs.Deliveries.{held_bytes, is_accepted, next_item, send_action, take_action}
use Rattle.session_actions.specs.DueAttempts.{attempts_made, kind_of_next, next_due}
use Rattle.session_actions.specs.Entries.{now}
use Rattle.session_actions.specs.Events.{event_action, event_action_by, event_applied, frame_action, frame_of_event}
use Rattle.session_actions.specs.Making.{due_action, due_attempt, due_if_past, next_due_attempt}
use Rattle.session_actions.specs.Policies.{asking, current_policy, is_after, is_queued_before, is_served, may_take_over, next_asked, next_of_pass, next_of_queue, next_take_over, pending_policy, policy_of}
use Rattle.session_actions.specs.Reading.{next_read}
use Rattle.session_actions.specs.Refusals.{refusal_of}
use Rattle.session_actions.specs.Subchannels.{clock_action, dial_action, is_dialable, is_idle, is_rested, is_too_late, is_wished, next_connected, next_of_clock}
use Rattle.session_actions.specs.Tokens.{has_tokens}
use Rattle.session_actions.specs.Words.{first_of, foremost, holds, numbered}
use Rattle.session_actions.specs.Writing.{fits_drain, frame_to_write, next_frame_read, read_action, read_next, sendable}
use Rattle.session_actions.specs.declared.action.Action.TheVariants as action
use Rattle.session_actions.specs.declared.action.Action.{Action}
use Rattle.session_actions.specs.declared.attempt.Attempt.{Attempt}
use Rattle.session_actions.specs.declared.call.Call.{Call}
use Rattle.session_actions.specs.declared.entry.OpenEntry.{OpenEntry}
use Rattle.session_actions.specs.declared.entry.Stage.TheVariants as stage
use Rattle.session_actions.specs.declared.entry.Stage.{Stage}
use Rattle.session_actions.specs.declared.entry.Turn.{Turn}
use Rattle.session_actions.specs.declared.link.Link.{Link}
use Rattle.session_actions.specs.declared.link.NextRead.TheVariants as nextread
use Rattle.session_actions.specs.declared.link.NextRead.{NextRead}
use Rattle.session_actions.specs.declared.link.Sent.{Sent}
use Rattle.session_actions.specs.declared.policy.PolicyUse.{PolicyUse}
use Rattle.session_actions.specs.declared.seen.Seen.{Seen}
use Rattle.session_actions.specs.declared.subchannel.Subchannel.{Subchannel}
use Rattle.std.proofs.Common.{Bool, List, None, Option, Some, [], ap, false, filter, find, if◌then◌else◌, is_none, length, nat_le, not, option_and_then, option_map, refl, subst, true, ℕ, ◌&&◌, ◌+◌, ◌==◌, ◌∙◌, ◌∷◌, ◌≡◌}
use Rattle.std.proofs.lemmas.Bool.{eq-eqb}
use Rattle.std.specs.Option.{option_map_or, option_or}

-- the event brings bytes on this link
abbrev pub arrives_on : ℕ → Event → Bool
arrives_on n (event.Arrived link piece) = link == n
arrives_on n _ = false

-- a frame is read next
pub record ReadsNext (e : Event) (o : OpenEntry) (s : Seen) (link : ℕ) (a : Action) : Type 0 where
  pub arrives : arrives_on link e ≡ true
  pub answered : is_after_event o ≡ true
  pub next : next_frame_read link s ≡ Some a

abbrev pub ReportsThat : Event → OpenEntry → Seen → Action → Type 0
ReportsThat e o s (action.BytesArrive link) = arrives_on link e ≡ true
ReportsThat e o s (action.FrameRead link r) = ReadsNext e o s link (action.FrameRead link r)
ReportsThat e o s action.SettlingBegins = frame_action o s ≡ None
ReportsThat e o s action.EntryCloses = is_after_event o ≡ false
ReportsThat e o s _ = Unit {0}

abbrev ReportsIf : Event → OpenEntry → Seen → Option Action → Type 0
ReportsIf e o s None = Unit {0}
ReportsIf e o s (Some a) = ReportsThat e o s a

module _ (e : Event) (o : OpenEntry) (s : Seen) where
  either : (a b : Option Action) → ReportsIf e o s a → ReportsIf e o s b → ReportsIf e o s (option_or a b)
  either None b f g = g
  either (Some a) b f g = f

  by_map : {X : Type 0} (f : X → Action) → ((x : X) → ReportsThat e o s (f x)) → (q : Option X) → ReportsIf e o s (option_map f q)
  by_map f each None = tt
  by_map f each (Some x) = each x

  then_by : {X : Type 0} (f : X → Option Action) → ((x : X) → ReportsIf e o s (f x)) → (q : Option X) → ReportsIf e o s (option_and_then f q)
  then_by f each None = tt
  then_by f each (Some x) = each x

  first_by : {X : Type 0} (f : X → Option Action) → ((x : X) → ReportsIf e o s (f x)) → (xs : List X) → ReportsIf e o s (first_of f xs)
  first_by f each [] = tt
  first_by f each (x ∷ xs) = either (f x) (first_of f xs) (each x) (first_by f each xs)

  if_by : (b : Bool) (p q : Option Action) → ReportsIf e o s p → ReportsIf e o s q → ReportsIf e o s (if b then p else q)
  if_by true p q f g = f
  if_by false p q f g = g

  -- a settling
  clock_reports : (b : Subchannel) → ReportsIf e o s (clock_action s b)
  clock_reports b =
      if_by (is_too_late s b) (Some (action.ConnectTimesOut b.number)) (if is_rested s b then Some (action.BackoffEnds b.number) else None) tt
      (if_by (is_rested s b) (Some (action.BackoffEnds b.number)) None tt tt)

  config_reports : (c : Call) → ReportsIf e o s (config_action s c)
  config_reports c =
      if_by (is_to_configure s c) (Some (action.CallConfigured c.number (length s.configs))) (if lacks_config s c then Some (action.CallEnds c.number ending.NoConfig) else None) tt
      (if_by (lacks_config s c) (Some (action.CallEnds c.number ending.NoConfig)) None tt tt)

  due_by : (c : Call) (d : ℕ) (b : Bool) → ReportsThat e o s (if b then action.HedgeWithheld c.number else action.AttemptMade c.number (attempts_made c s + 1) (kind_of_next c s) d)
  due_by c d true = tt
  due_by c d false = tt

  due_reports : (c : Call) → ReportsIf e o s (due_action s c)
  due_reports c =
      if_by (is_open_call c) (option_and_then (due_if_past c s) (next_due c s)) None
      (then_by (due_if_past c s) (λ d. if_by (nat_le d (now s)) (Some (due_attempt c s d)) None (due_by c d (is_hedge (kind_of_next c s) && not (has_tokens c s))) tt) (next_due c s)) tt

  asked_reports : (test : Attempt → Bool) → ReportsIf e o s (next_asked test s)
  asked_reports test =
      then_by (asking s) (λ a. by_map (λ (g : PolicyUse). action.PickRequested a.place g.number (pick_of (policy_of g s))) (λ g. tt) (current_policy s))
      (foremost is_queued_before (filter (λ (a : Attempt). is_served s a && test a) s.attempts))

  settling_reports : is_after_event o ≡ false → ReportsIf e o s (of_settling o s)
  settling_reports settled =
      either (next_of_clock s) _ (first_by (clock_action s) clock_reports s.subs)
      (either (next_take_over s) _
      (then_by (λ (g : PolicyUse). if may_take_over s g then Some (action.PolicyTakesOver g.number) else None)
      (λ g. if_by (may_take_over s g) (Some (action.PolicyTakesOver g.number)) None tt tt) (pending_policy s))
      (either (next_connected s) _ (by_map (λ (b : Subchannel). action.SubchannelConnects b.number) (λ b. tt) (find (λ (b : Subchannel). is_idle b.state && is_wished s b) s.subs))
      (either (first_of (config_action s) s.calls) _ (first_by (config_action s) config_reports s.calls)
      (either (next_of_pass o s) _ (then_by (λ (t : Turn). next_asked (is_after t) s) (λ t. asked_reports (is_after t)) o.turn)
      (either (next_due_attempt s) _ (first_by (due_action s) due_reports s.calls)
      (either (next_of_queue s) _ (asked_reports (λ (a : Attempt). true)) settled))))))

  send_by : (call held : ℕ) (long accepted : Bool)
      → ReportsThat e o s (if long then action.EventAnswered reply.Done else if accepted then action.MessageAccepted call else action.EventAnswered (reply.Full held))
  send_by call held true accepted = tt
  send_by call held false true = tt
  send_by call held false false = tt

  take_by : (call : ℕ) (item : Option Reply) → ReportsThat e o s (take_action call item)
  take_by call None = tt
  take_by call (Some item) = tt

  dial_reports : (q : Option Subchannel) → ReportsThat e o s (option_map_or (dial_action s) q (action.EventAnswered reply.NotYet))
  dial_reports None = tt
  dial_reports (Some b) = tt

module _ (o : OpenEntry) (s : Seen) where
  -- the event
  applied_reports : (e : Event) → ReportsIf e o s (event_applied e s)
  applied_reports (event.Send call message) =
      by_map (event.Send call message) o s (send_action call message s)
      (λ c. send_by (event.Send call message) o s call (held_bytes c s) (is_too_long message c s) (is_accepted c message s)) (numbered s.calls call)
  applied_reports (event.Take call) =
      by_map (event.Take call) o s (λ (c : Call). take_action call (next_item c s)) (λ c. take_by (event.Take call) o s call (next_item c s)) (numbered s.calls call)
  applied_reports event.TakeDial = dial_reports event.TakeDial o s (find is_dialable s.subs)
  applied_reports (event.Arrived link piece) = eq-eqb link link refl
  applied_reports e = tt

  event_by : (why : Option Refusal) (e : Event) → ReportsIf e o s (event_action_by why e s)
  event_by None e = applied_reports e
  event_by (Some why) e = tt

  -- frames
  read_by : (link : ℕ) (piece : List ℕ) (l : Link) (b : Bool) (n : NextRead) → is_after_event o ≡ true → numbered s.links link ≡ Some l → is_none l.over ≡ b → next_read l s ≡ n
      → ReportsIf (event.Arrived link piece) o s (if b then read_action link n else None)
  read_by link piece l false n answered there over shows = tt
  read_by link piece l true nextread.Nothing answered there over shows = tt
  read_by link piece l true (nextread.Broken number) answered there over shows = tt
  read_by link piece l true (nextread.Frame r) answered there over shows = record {
    arrives = eq-eqb link link refl;
    answered = answered;
    next = ap (λ (q : Option Link). option_and_then (read_next link s) q) there ∙ ap (λ (c : Bool). if c then read_action link (next_read l s) else None) over ∙ ap (read_action link) shows;
  }

  reads_by : (link : ℕ) (piece : List ℕ) (q : Option Link) → is_after_event o ≡ true → numbered s.links link ≡ q → ReportsIf (event.Arrived link piece) o s (option_and_then (read_next link s) q)
  reads_by link piece None answered there = tt
  reads_by link piece (Some l) answered there = read_by link piece l (is_none l.over) (next_read l s) answered there refl refl

  frame_reports : (e : Event) → is_after_event o ≡ true → ReportsIf e o s (frame_of_event e o s)
  frame_reports (event.Arrived link piece) answered = reads_by link piece (numbered s.links link) answered refl
  frame_reports (event.Drain link most) answered =
      then_by (event.Drain link most) o s (λ (l : Link). option_and_then (frame_to_write link most o s) (sendable l s))
      (λ l. then_by (event.Drain link most) o s (frame_to_write link most o s)
      (λ x. if_by (event.Drain link most) o s (fits_drain most o x) (Some (action.FrameWritten link x)) None tt tt) (sendable l s)) (numbered s.links link)
  frame_reports e answered = tt

  frames_by : (b : Bool) → is_after_event o ≡ b → ReportsIf o.event o s (if b then frame_of_event o.event o s else None)
  frames_by true answered = frame_reports o.event answered
  frames_by false answered = tt

  settles_by : (q : Option Action) → frame_action o s ≡ q → ReportsIf o.event o s q → ReportsIf o.event o s (option_or q (Some action.SettlingBegins))
  settles_by None none reports_that = none
  settles_by (Some a) none reports_that = reports_that

  stage_reports : (g : Stage) → o.stage ≡ g → ReportsIf o.event o s (of_stage o s g)
  stage_reports stage.Event is =
      either o.event o s (next_deadline s) _ (by_map o.event o s (ending_call ending.Deadline) (λ c. tt) (foremost (is_due_before s) (filter (is_past_deadline s) s.calls)))
      (either o.event o s (event_action o.event s) None (event_by (refusal_of o.event s) o.event) tt)
  stage_reports stage.Replied is = settles_by (frame_action o s) refl (frames_by (is_after_event o) refl)
  stage_reports stage.Settling is = settling_reports o.event o s (ap (λ (g : Stage). is_replied g && holds (λ (r : Reply). not (is_refusal r)) o.reply) is)

pub reports_next : (s : Seen) (o : OpenEntry) (a : Action) → is_of_stage a ≡ true → s.current ≡ Some o → following s ≡ Some a → ReportsThat o.event o s a
reports_next s o a is at next = subst (ReportsIf o.event o s) (is_stage_next s o a is at next).gives (stage_reports o s o.stage refl)
