-- A pick request that is made is of an attempt that waits, and is answered: its policy is READY or in TRANSIENT_FAILURE, so the answer is never to wait.
use Rattle.attempt_ledger.specs.Hedging.{is_hedge}
use Rattle.channel_actions.proofs.Calls.Few.Begins.{is_stage_next}
use Rattle.channel_actions.proofs.KeptSessions.Lists.{all_each, all_filter, all_foremost, own_number}
use Rattle.channel_actions.specs.KeptSessions.Kept.{IsKept}
use Rattle.grpc_base.specs.declared.event.Conn.TheVariants as conn
use Rattle.grpc_base.specs.declared.event.Conn.{Conn}
use Rattle.grpc_base.specs.declared.event.EndCause.TheVariants as ending
use Rattle.grpc_base.specs.declared.event.Event.TheVariants as event
use Rattle.grpc_base.specs.declared.event.Event.{Event}
use Rattle.grpc_base.specs.declared.event.Refusal.{Refusal}
use Rattle.grpc_base.specs.declared.event.Reply.TheVariants as reply
use Rattle.grpc_base.specs.declared.event.Reply.{Reply}
use Rattle.grpc_base.specs.declared.kind.Pick.TheVariants as pick
use Rattle.grpc_base.specs.declared.kind.Pick.{Pick}
use Rattle.lb_policy.specs.Laws.{FitsState, PicksFollowState}
use Rattle.lb_policy.specs.Table.{pick_of, state_of}
use Rattle.lb_policy.specs.declared.seen.SubSeen.{SubSeen}
use Rattle.session_actions.specs.Actions.{config_action, following, of_settling, of_stage}
use Rattle.session_actions.specs.Attempts.{is_over, is_queued}
use Rattle.session_actions.specs.CallEnds.{ending_call, is_after_event, is_due_before, is_past_deadline, lacks_config, next_deadline}
use Rattle.session_actions.specs.Calls.{is_open_call}
use Rattle.session_actions.specs.Configs.{is_to_configure, is_too_long}
use Rattle.session_actions.specs.Deliveries.{held_bytes, is_accepted, next_item, send_action, take_action}
use Rattle.session_actions.specs.DueAttempts.{attempts_made, kind_of_next, next_due}
use Rattle.session_actions.specs.Entries.{now}
use Rattle.session_actions.specs.Events.{event_action, event_action_by, event_applied, frame_action, frame_of_event}
use Rattle.session_actions.specs.Making.{due_action, due_attempt, due_if_past, next_due_attempt}
use Rattle.session_actions.specs.Policies.{asking, current_policy, is_after, is_queued_before, is_served, is_served_by, is_unfollowed, may_take_over, next_asked, next_of_pass, next_of_queue, next_take_over, pending_policy, policy_of, policy_state}
use Rattle.session_actions.specs.Reading.{next_read}
use Rattle.session_actions.specs.Refusals.{refusal_of}
use Rattle.session_actions.specs.Subchannels.{clock_action, dial_action, is_dialable, is_idle, is_rested, is_too_late, is_wished, next_connected, next_of_clock}
use Rattle.session_actions.specs.Tokens.{has_tokens}
use Rattle.session_actions.specs.Words.{first_of, foremost, holds, numbered}
use Rattle.session_actions.specs.Writing.{fits_drain, frame_to_write, read_action, read_next, sendable}
use Rattle.session_actions.specs.declared.action.Action.TheVariants as action
use Rattle.session_actions.specs.declared.action.Action.{Action}
use Rattle.session_actions.specs.declared.attempt.Attempt.{Attempt}
use Rattle.session_actions.specs.declared.call.Call.{Call}
use Rattle.session_actions.specs.declared.entry.OpenEntry.{OpenEntry}
use Rattle.session_actions.specs.declared.entry.Stage.TheVariants as stage
use Rattle.session_actions.specs.declared.entry.Stage.{Stage}
use Rattle.session_actions.specs.declared.entry.Turn.{Turn}
use Rattle.session_actions.specs.declared.link.Link.{Link}
use Rattle.session_actions.specs.declared.link.NextRead.TheVariants as nextread
use Rattle.session_actions.specs.declared.link.NextRead.{NextRead}
use Rattle.session_actions.specs.declared.policy.PolicyUse.{PolicyUse}
use Rattle.session_actions.specs.declared.seen.Seen.{Seen}
use Rattle.session_actions.specs.declared.subchannel.Subchannel.{Subchannel}
use Rattle.session_order.proofs.Lists.{foremost_passes}
use Rattle.std.proofs.Common.{Bool, List, None, Option, Some, [], ap, false, filter, find, if◌then◌else◌, is_none, is_some, length, nat_le, not, option_and_then, option_map, refl, slice_get, subst, true, ℕ, ◌&&◌, ◌+◌, ◌||◌, ◌∙◌, ◌∷◌, ◌≡◌}
use Rattle.std.proofs.lemmas.Bool.{and_parts}
use Rattle.std.specs.List.{list_all}
use Rattle.std.specs.Option.{option_map_or, option_or}

abbrev pub is_decided : Pick → Bool
is_decided pick.Wait = false
is_decided _ = true

-- in these states a policy answers
pick_by : (c : Conn) (a : Attempt) (s : Seen) (view : List SubSeen) (answer : Pick) → is_served_by c a s ≡ true → FitsState view c answer → is_decided answer ≡ true
pick_by conn.Ready a s view answer e fits = ap is_decided fits.3
pick_by conn.Failure a s view answer e fits = ap is_decided fits
pick_by conn.Idle a s view answer e fits = absurd (let no : false ≡ true = e in (cc))
pick_by conn.Connecting a s view answer e fits = absurd (let no : false ≡ true = e in (cc))
pick_by conn.Shutdown a s view answer e fits = absurd (let no : false ≡ true = e in (cc))

served_answer : PicksFollowState → (g : PolicyUse) (a : Attempt) (s : Seen) → is_served_by (policy_state g s) a s ≡ true → is_decided (pick_of (policy_of g s)) ≡ true
served_answer follow g a s e = pick_by (state_of (policy_of g s)) a s (policy_of g s).view (pick_of (policy_of g s)) e (follow (policy_of g s))

-- what a line gives, if it is a pick request, is of an attempt that waits, and is answered
abbrev pub is_waiting : ℕ → Seen → Bool
is_waiting row s = holds is_unfollowed (numbered s.attempts row)

abbrev Decides : Seen → Action → Type 0
Decides s (action.PickRequested row generation answer) = (is_decided answer ≡ true) × (is_waiting row s ≡ true)
Decides s _ = Unit {0}

abbrev DecidesIf : Seen → Option Action → Type 0
DecidesIf s None = Unit {0}
DecidesIf s (Some a) = Decides s a

module _ (s : Seen) where
  either : (a b : Option Action) → DecidesIf s a → DecidesIf s b → DecidesIf s (option_or a b)
  either None b f g = g
  either (Some a) b f g = f

  by_map : {X : Type 0} (f : X → Action) → ((x : X) → Decides s (f x)) → (q : Option X) → DecidesIf s (option_map f q)
  by_map f each None = tt
  by_map f each (Some x) = each x

  then_by : {X : Type 0} (f : X → Option Action) → ((x : X) → DecidesIf s (f x)) → (q : Option X) → DecidesIf s (option_and_then f q)
  then_by f each None = tt
  then_by f each (Some x) = each x

  first_by : {X : Type 0} (f : X → Option Action) → ((x : X) → DecidesIf s (f x)) → (xs : List X) → DecidesIf s (first_of f xs)
  first_by f each [] = tt
  first_by f each (x ∷ xs) = either (f x) (first_of f xs) (each x) (first_by f each xs)

  if_by : (b : Bool) (p q : Option Action) → DecidesIf s p → DecidesIf s q → DecidesIf s (if b then p else q)
  if_by true p q f g = f
  if_by false p q f g = g

  -- the queue
  module _ (follow : PicksFollowState) (kept : IsKept s) where
    waits_at : (i : ℕ) (a : Attempt) → slice_get s.attempts i ≡ Some a → is_queued a s ≡ true → is_waiting a.place s ≡ true
    waits_at i a got e =
        ap (holds is_unfollowed) (own_number (λ (q : Attempt). q.place) s.attempts i a kept.attempts got) ∙ (and_parts (is_unfollowed a) (not (is_over a s)) e).0

    waits_by : (i : ℕ) (a : Attempt) (b : Bool) → slice_get s.attempts i ≡ Some a → is_queued a s ≡ b → (not b || is_waiting a.place s) ≡ true
    waits_by i a true got e = waits_at i a got e
    waits_by i a false got e = refl

    all_wait : list_all (λ (a : Attempt). not (is_queued a s) || is_waiting a.place s) s.attempts ≡ true
    all_wait = all_each (λ (a : Attempt). not (is_queued a s) || is_waiting a.place s) s.attempts (λ i a got. waits_by i a (is_queued a s) got refl)

    asking_by : (a : Attempt) (o : Option PolicyUse) → holds (λ (g : PolicyUse). is_served_by (policy_state g s) a s) o ≡ true → is_waiting a.place s ≡ true
        → DecidesIf s (option_map (λ (g : PolicyUse). action.PickRequested a.place g.number (pick_of (policy_of g s))) o)
    asking_by a None e waits = tt
    asking_by a (Some g) e waits = (served_answer follow g a s e, waits)

    waiting_of : (b w : Bool) → b ≡ true → (not b || w) ≡ true → w ≡ true
    waiting_of true w e f = f
    waiting_of false w e f = absurd (cc)

    asked_by : (test : Attempt → Bool) (o : Option Attempt) → holds (λ (a : Attempt). is_served s a && test a) o ≡ is_some o
        → option_map_or (λ (a : Attempt). not (is_queued a s) || is_waiting a.place s) o true ≡ true → DecidesIf s (option_and_then (asking s) o)
    asked_by test None e f = tt
    asked_by test (Some a) e f =
        let served : is_served s a ≡ true = (and_parts (is_served s a) (test a) e).0 in
        let both = and_parts (is_queued a s) (holds (λ (g : PolicyUse). is_served_by (policy_state g s) a s) (current_policy s)) served in
        asking_by a (current_policy s) both.1 (waiting_of (is_queued a s) (is_waiting a.place s) both.0 f)

    asked_decides : (test : Attempt → Bool) → DecidesIf s (next_asked test s)
    asked_decides test =
        asked_by test (foremost is_queued_before (filter (λ (a : Attempt). is_served s a && test a) s.attempts))
        (foremost_passes is_queued_before (λ (a : Attempt). is_served s a && test a) s.attempts)
        (all_foremost (λ (a : Attempt). not (is_queued a s) || is_waiting a.place s) is_queued_before (filter (λ (a : Attempt). is_served s a && test a) s.attempts)
        (all_filter (λ (a : Attempt). not (is_queued a s) || is_waiting a.place s) (λ (a : Attempt). is_served s a && test a) s.attempts all_wait))

  -- the rest of a settling
  clock_decides : (b : Subchannel) → DecidesIf s (clock_action s b)
  clock_decides b =
      if_by (is_too_late s b) (Some (action.ConnectTimesOut b.number)) (if is_rested s b then Some (action.BackoffEnds b.number) else None) tt
      (if_by (is_rested s b) (Some (action.BackoffEnds b.number)) None tt tt)

  config_decides : (c : Call) → DecidesIf s (config_action s c)
  config_decides c =
      if_by (is_to_configure s c) (Some (action.CallConfigured c.number (length s.configs))) (if lacks_config s c then Some (action.CallEnds c.number ending.NoConfig) else None) tt
      (if_by (lacks_config s c) (Some (action.CallEnds c.number ending.NoConfig)) None tt tt)

  due_by : (c : Call) (d : ℕ) (b : Bool) → Decides s (if b then action.HedgeWithheld c.number else action.AttemptMade c.number (attempts_made c s + 1) (kind_of_next c s) d)
  due_by c d true = tt
  due_by c d false = tt

  due_decides : (c : Call) → DecidesIf s (due_action s c)
  due_decides c =
      if_by (is_open_call c) (option_and_then (due_if_past c s) (next_due c s)) None
      (then_by (due_if_past c s) (λ d. if_by (nat_le d (now s)) (Some (due_attempt c s d)) None (due_by c d (is_hedge (kind_of_next c s) && not (has_tokens c s))) tt) (next_due c s)) tt

  settling_decides : PicksFollowState → IsKept s → (o : OpenEntry) → DecidesIf s (of_settling o s)
  settling_decides follow kept o =
      either (next_of_clock s) _ (first_by (clock_action s) clock_decides s.subs)
      (either (next_take_over s) _
      (then_by (λ (g : PolicyUse). if may_take_over s g then Some (action.PolicyTakesOver g.number) else None)
      (λ g. if_by (may_take_over s g) (Some (action.PolicyTakesOver g.number)) None tt tt) (pending_policy s))
      (either (next_connected s) _ (by_map (λ (b : Subchannel). action.SubchannelConnects b.number) (λ b. tt) (find (λ (b : Subchannel). is_idle b.state && is_wished s b) s.subs))
      (either (first_of (config_action s) s.calls) _ (first_by (config_action s) config_decides s.calls)
      (either (next_of_pass o s) _ (then_by (λ (t : Turn). next_asked (is_after t) s) (λ t. asked_decides follow kept (is_after t)) o.turn)
      (either (next_due_attempt s) _ (first_by (due_action s) due_decides s.calls)
      (either (next_of_queue s) _ (asked_decides follow kept (λ (a : Attempt). true)) tt))))))

  -- the event
  send_by : (call held : ℕ) (long accepted : Bool)
      → Decides s (if long then action.EventAnswered reply.Done else if accepted then action.MessageAccepted call else action.EventAnswered (reply.Full held))
  send_by call held true accepted = tt
  send_by call held false true = tt
  send_by call held false false = tt

  take_by : (call : ℕ) (item : Option Reply) → Decides s (take_action call item)
  take_by call None = tt
  take_by call (Some item) = tt

  dial_decides : (q : Option Subchannel) → Decides s (option_map_or (dial_action s) q (action.EventAnswered reply.NotYet))
  dial_decides None = tt
  dial_decides (Some b) = tt

  applied_decides : (e : Event) → DecidesIf s (event_applied e s)
  applied_decides (event.Send call message) =
      by_map (send_action call message s) (λ c. send_by call (held_bytes c s) (is_too_long message c s) (is_accepted c message s)) (numbered s.calls call)
  applied_decides (event.Take call) = by_map (λ (c : Call). take_action call (next_item c s)) (λ c. take_by call (next_item c s)) (numbered s.calls call)
  applied_decides event.TakeDial = dial_decides (find is_dialable s.subs)
  applied_decides e = tt

  event_by : (why : Option Refusal) (e : Event) → DecidesIf s (event_action_by why e s)
  event_by None e = applied_decides e
  event_by (Some why) e = tt

  -- frames
  read_by : (link : ℕ) (n : NextRead) → DecidesIf s (read_action link n)
  read_by link nextread.Nothing = tt
  read_by link (nextread.Frame r) = tt
  read_by link (nextread.Broken number) = tt

  frame_decides : (o : OpenEntry) (e : Event) → DecidesIf s (frame_of_event e o s)
  frame_decides o (event.Arrived link piece) =
      then_by (read_next link s) (λ l. if_by (is_none l.over) (read_action link (next_read l s)) None (read_by link (next_read l s)) tt) (numbered s.links link)
  frame_decides o (event.Drain link most) =
      then_by (λ (l : Link). option_and_then (frame_to_write link most o s) (sendable l s))
      (λ l. then_by (frame_to_write link most o s) (λ x. if_by (fits_drain most o x) (Some (action.FrameWritten link x)) None tt tt) (sendable l s)) (numbered s.links link)
  frame_decides o e = tt

  stage_decides : PicksFollowState → IsKept s → (o : OpenEntry) (g : Stage) → DecidesIf s (of_stage o s g)
  stage_decides follow kept o stage.Event =
      either (next_deadline s) _ (by_map (ending_call ending.Deadline) (λ c. tt) (foremost (is_due_before s) (filter (is_past_deadline s) s.calls)))
      (either (event_action o.event s) None (event_by (refusal_of o.event s) o.event) tt)
  stage_decides follow kept o stage.Replied = either (frame_action o s) _ (if_by (is_after_event o) (frame_of_event o.event o s) None (frame_decides o o.event) tt) tt
  stage_decides follow kept o stage.Settling = settling_decides follow kept o

pub picks_decide : PicksFollowState → (s : Seen) (o : OpenEntry) (row generation : ℕ) (answer : Pick) → IsKept s → s.current ≡ Some o → following s ≡ Some (action.PickRequested row generation answer)
    → (is_decided answer ≡ true) × (is_waiting row s ≡ true)
picks_decide follow s o row generation answer kept at next =
    subst (DecidesIf s) (is_stage_next s o (action.PickRequested row generation answer) refl at next).gives (stage_decides s follow kept o o.stage)
