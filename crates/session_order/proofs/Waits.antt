-- An entry ends exactly where nothing is due.
use Rattle.std.proofs.Common.{◌≡◌, ◌∷◌, ◌&&◌, ◌==◌, not, ap, refl, sym, ◌∙◌, Bool, true, false, List, [], Option, None, Some, ℕ, filter, if◌then◌else◌, is_none, is_some, length, nat_le, ◌+◌, ◌↔◌}
use Rattle.std.proofs.lemmas.Bool.{and_left, or_from, or_parts}
use Rattle.std.specs.List.{list_any}
use Rattle.std.specs.Option.{option_and_then, option_map, option_map_or, option_or}
use Rattle.std.specs.Prelude.{find}
use Rattle.attempt_ledger.specs.Hedging.{is_hedge}
use Rattle.attempt_ledger.specs.declared.ledger.Ask.{Ask}
use Rattle.grpc_base.specs.declared.event.Event.{Event}
use Rattle.grpc_base.specs.declared.event.Refusal.{Refusal}
use Rattle.grpc_base.specs.declared.event.Reply.{Reply}
use Rattle.grpc_base.specs.declared.address.Address.{Address}
use Rattle.grpc_base.specs.declared.kind.Pick.{Pick}
use Rattle.lb_policy.specs.Table.{pick_of}
use Rattle.session_actions.specs.Actions.{config_action, following, following_in, of_calls, of_event, of_frames, of_links, of_policies, of_settling, of_stage}
use Rattle.session_actions.specs.AttemptEnds.{cut, cut_end, end_of, next_cut, next_reset, next_wire_end, outcome_of, reset_code_of, reset_of, wire_end}
use Rattle.session_actions.specs.Attempts.{is_outstanding, is_over, is_queued, wants_follower}
use Rattle.session_actions.specs.CallEnds.{ending_call, has_long_request, has_long_response, is_after_event, is_cancelled, is_due_before, is_over_by_row, is_past_deadline, is_shut_down, lacks_config, next_deadline, next_ended}
use Rattle.session_actions.specs.Calls.{is_open_call}
use Rattle.session_actions.specs.Commitments.{committing, is_final_end, is_headed, is_inherited, next_final, next_headed, next_inherited, next_overflow, overflow_row}
use Rattle.session_actions.specs.Configs.{is_to_configure, is_too_long}
use Rattle.session_actions.specs.Deliveries.{held_bytes, is_accepted, next_item, send_action, take_action}
use Rattle.session_actions.specs.DueAttempts.{attempts_made, kind_of_next, next_due}
use Rattle.session_actions.specs.Entries.{entry, now}
use Rattle.session_actions.specs.Events.{event_action, event_action_by, event_applied, frame_action, frame_of_event, is_loss}
use Rattle.session_actions.specs.Links.{is_stream_before}
use Rattle.session_actions.specs.Making.{due_action, due_attempt, due_if_past, next_due_attempt, next_transparent, transparent_retry}
use Rattle.session_actions.specs.Policies.{asking, begin_if, current_policy, follow_ask, follow_pick, is_after, is_queued_before, is_same_kind, is_served, is_served_by, is_to_retire, is_unfollowed, listed, live_policies, live_sub, may_take_over, next_asked, next_begun, next_given, next_of_pass, next_of_pick, next_of_queue, next_retired, next_take_over, pending_policy, placed_on, policy_of, policy_state, wanted_kind, wants_addresses}
use Rattle.session_actions.specs.Reading.{next_read}
use Rattle.session_actions.specs.Refusals.{refusal_of}
use Rattle.session_actions.specs.Subchannels.{clock_action, dial_action, is_dialable, is_idle, is_rested, is_to_be_ready, is_to_go_down, is_too_late, is_unlisted, is_wished, link_action, next_added, next_connected, next_of_clock, next_of_links, next_shut}
use Rattle.session_actions.specs.Tokens.{has_tokens}
use Rattle.session_actions.specs.Words.{first_of, foremost, holds, last_of, numbered}
use Rattle.session_actions.specs.Writing.{fits_drain, frame_to_write, next_written, read_action, read_next, sendable}
use Rattle.session_actions.specs.declared.action.Action.{Action}
use Rattle.session_actions.specs.declared.attempt.Attempt.{Attempt}
use Rattle.session_actions.specs.declared.call.Call.{Call}
use Rattle.session_actions.specs.declared.entry.OpenEntry.{OpenEntry}
use Rattle.session_actions.specs.declared.entry.Stage.{Stage}
use Rattle.session_actions.specs.declared.entry.Turn.{Turn}
use Rattle.session_actions.specs.declared.link.Link.{Link}
use Rattle.session_actions.specs.declared.link.NextRead.{NextRead}
use Rattle.session_actions.specs.declared.policy.PolicyUse.{PolicyUse}
use Rattle.session_actions.specs.declared.response.Outcome.{Outcome}
use Rattle.session_actions.specs.declared.seen.Seen.{Seen}
use Rattle.session_actions.specs.declared.subchannel.Subchannel.{Subchannel}
use Rattle.session_order.proofs.Quiescence.{quiescence_is_exact, quiescence_leaves_stage}
use Rattle.session_order.proofs.Lists.{any_same, foremost_passes, is_nothing, none_is, or_nothing, some_find, some_first, some_foremost, some_map, some_one, some_then, some_two}
use Rattle.session_order.specs.Quiescent.{IsQuiescent}
use Rattle.session_order.specs.Waits.{NothingDueWaits, is_due, is_over_time, is_to_connect, is_unsettled}
use Rattle.session_actions.specs.declared.action.Action.TheVariants as action
use Rattle.session_actions.specs.declared.action.CommitCause.TheVariants as commit
use Rattle.grpc_base.specs.declared.event.EndCause.TheVariants as ending
use Rattle.grpc_base.specs.declared.event.Event.TheVariants as event
use Rattle.session_actions.specs.declared.link.NextRead.TheVariants as nextread
use Rattle.grpc_base.specs.declared.kind.Pick.TheVariants as pick
use Rattle.grpc_base.specs.declared.event.Reply.TheVariants as reply
use Rattle.session_actions.specs.declared.entry.Stage.TheVariants as stage

-- the end of an entry
abbrev closes : Action → Bool
closes action.EntryCloses = true
closes _ = false

abbrev Continues : Option Action → Type 0
Continues o = holds closes o ≡ false

-- no other line gives it
map_goes : {X : Type 0} (f : X → Action) → ((x : X) → closes (f x) ≡ false) → (o : Option X) → Continues (option_map f o)
map_goes f other None = refl
map_goes f other (Some x) = other x

then_goes : {X : Type 0} (f : X → Option Action) → ((x : X) → Continues (f x)) → (o : Option X) → Continues (option_and_then f o)
then_goes f other None = refl
then_goes f other (Some x) = other x

or_goes : (o p : Option Action) → Continues o → Continues p → Continues (option_or o p)
or_goes None p e f = f
or_goes (Some a) p e f = e

first_goes : {X : Type 0} (f : X → Option Action) → ((x : X) → Continues (f x)) → (xs : List X) → Continues (first_of f xs)
first_goes f other [] = refl
first_goes f other (x ∷ xs) = or_goes (f x) (first_of f xs) (other x) (first_goes f other xs)

if_goes : (b : Bool) (o p : Option Action) → Continues o → Continues p → Continues (if b then o else p)
if_goes true o p e f = e
if_goes false o p e f = f

found_goes : {X : Type 0} (f : X → Action) → ((x : X) → closes (f x) ≡ false) → (test : X → Bool) (xs : List X) → Continues (option_map f (find test xs))
found_goes f other test xs = map_goes f other (find test xs)

calls_go : (o : OpenEntry) (s : Seen) → Continues (of_calls o s)
calls_go o s =
    or_goes (next_cut s) _ (first_goes (cut s) (λ a. if_goes (is_outstanding a && is_over a s) (Some (action.AttemptEnds a.place (end_of a cut_end s))) None refl refl) s.attempts)
    (or_goes (next_transparent s) _ (found_goes (transparent_retry s) (λ a. refl) (λ (a : Attempt). wants_follower a s) s.attempts)
    (or_goes (next_inherited s) _ (found_goes (committing commit.Inherited) (λ a. refl) (is_inherited s) s.attempts)
    (or_goes (next_ended ending.Row (is_over_by_row s) s) _ (found_goes (ending_call ending.Row) (λ c. refl) (is_over_by_row s) s.calls)
    (or_goes (next_final s) _ (found_goes (committing commit.Final) (λ a. refl) (is_final_end s) s.attempts)
    (or_goes (next_ended ending.Cancelled (is_cancelled o) s) _ (found_goes (ending_call ending.Cancelled) (λ c. refl) (is_cancelled o) s.calls)
    (or_goes (next_ended ending.Request (has_long_request o s) s) _ (found_goes (ending_call ending.Request) (λ c. refl) (has_long_request o s) s.calls)
    (or_goes (next_overflow s) _ (map_goes (committing commit.Overflow) (λ a. refl) (first_of (overflow_row s) s.calls))
    (or_goes (next_headed s) _ (found_goes (committing commit.Head) (λ a. refl) (is_headed s) s.attempts)
    (or_goes (next_ended ending.Response (has_long_response s) s) None (found_goes (ending_call ending.Response) (λ c. refl) (has_long_response s) s.calls)
    refl)))))))))

pick_goes : (s : Seen) (ask : Ask) (a : Attempt) (p : Pick) → Continues (follow_pick ask s a p)
pick_goes s ask a (pick.Place sub) = map_goes (λ (b : Subchannel). action.AttemptPlaced a.place (placed_on ask s b)) (λ b. refl) (numbered s.subs sub)
pick_goes s ask a pick.Fail = refl
pick_goes s ask a pick.Wait = refl

ask_goes : (s : Seen) (ask : Ask) → Continues (follow_ask s ask)
ask_goes s ask =
    then_goes (λ (a : Attempt). if is_unfollowed a && (ask.entry == entry s) then follow_pick ask s a ask.answer else None)
    (λ a. if_goes (is_unfollowed a && (ask.entry == entry s)) (follow_pick ask s a ask.answer) None (pick_goes s ask a ask.answer) refl)
    (numbered s.attempts ask.row)

link_goes : (s : Seen) (b : Subchannel) → Continues (link_action s b)
link_goes s b =
    if_goes (is_to_be_ready s b) (Some (action.SettingsArrive b.number)) (if is_to_go_down s b then Some (action.LinkDown b.number) else None) refl
    (if_goes (is_to_go_down s b) (Some (action.LinkDown b.number)) None refl refl)

wire_goes : (s : Seen) → Continues (next_wire_end s)
wire_goes s =
    first_goes (wire_end s)
    (λ a. if_goes (is_outstanding a && not (is_over a s)) (option_map (λ (t : Outcome). action.AttemptEnds a.place (end_of a t s)) (outcome_of a s)) None
    (map_goes (λ (t : Outcome). action.AttemptEnds a.place (end_of a t s)) (λ t. refl) (outcome_of a s)) refl) s.attempts

reset_goes : (s : Seen) → Continues (next_reset s)
reset_goes s =
    then_goes (reset_of s) (λ a. map_goes (λ (number : ℕ). action.StreamReset a.place number) (λ n. refl) (reset_code_of s a))
    (foremost is_stream_before (filter (λ (a : Attempt). is_some (reset_code_of s a)) s.attempts))

links_go : (o : OpenEntry) (s : Seen) → Continues (of_links o s)
links_go o s =
    or_goes (next_of_pick s) _ (then_goes (follow_ask s) (ask_goes s) (last_of s.asks))
    (or_goes (next_of_links s) _ (first_goes (link_action s) (link_goes s) s.subs)
    (or_goes (if is_loss o.event then None else next_wire_end s) _ (if_goes (is_loss o.event) None (next_wire_end s) refl (wire_goes s))
    (or_goes (next_reset s) _ (reset_goes s) (or_goes (next_wire_end s) None (wire_goes s) refl))))

policies_go : (o : OpenEntry) (s : Seen) → Continues (of_policies o s)
policies_go o s =
    or_goes (next_ended ending.Shut (is_shut_down s) s) _ (found_goes (ending_call ending.Shut) (λ c. refl) (is_shut_down s) s.calls)
    (or_goes (next_retired o s) _ (found_goes (λ (g : PolicyUse). action.PolicyRetired g.number) (λ g. refl) (is_to_retire o s) s.policies)
    (or_goes (next_begun o s) _
    (then_goes (begin_if s)
    (λ k. if_goes (list_any (λ (g : PolicyUse). is_same_kind g.generation.kind k) (live_policies s)) None (Some (action.PolicyBegins k)) refl refl) (wanted_kind o s))
    (or_goes (next_given o s) _ (found_goes (λ (g : PolicyUse). action.AddressesGiven g.number) (λ g. refl) (wants_addresses o s) s.policies)
    (or_goes (next_shut s) _ (found_goes (λ (b : Subchannel). action.SubchannelShut b.number) (λ b. refl) (is_unlisted s) s.subs)
    (or_goes (next_added s) None
    (found_goes (λ (address : Address). action.SubchannelAdded address) (λ address. refl) (λ (address : Address). is_none (live_sub s address)) (listed s)) refl)))))

-- nor does an event, or a frame
send_goes : (call : ℕ) (message : List ℕ) (s : Seen) (c : Call) (x y : Bool)
    → closes (if x then action.EventAnswered reply.Done else if y then action.MessageAccepted call else action.EventAnswered (reply.Full (held_bytes c s))) ≡ false
send_goes call message s c true y = refl
send_goes call message s c false true = refl
send_goes call message s c false false = refl

take_goes : (call : ℕ) (o : Option Reply) → closes (take_action call o) ≡ false
take_goes call None = refl
take_goes call (Some item) = refl

dial_goes : (s : Seen) (o : Option Subchannel) → closes (option_map_or (dial_action s) o (action.EventAnswered reply.NotYet)) ≡ false
dial_goes s None = refl
dial_goes s (Some b) = refl

applied_goes : (e : Event) (s : Seen) → Continues (event_applied e s)
applied_goes (event.Begin request) s = refl
applied_goes (event.Send call message) s =
    map_goes (send_action call message s) (λ c. send_goes call message s c (is_too_long message c s) (is_accepted c message s)) (numbered s.calls call)
applied_goes (event.Finish call) s = refl
applied_goes (event.Take call) s = map_goes (λ (c : Call). take_action call (next_item c s)) (λ c. take_goes call (next_item c s)) (numbered s.calls call)
applied_goes (event.Cancel call) s = refl
applied_goes (event.Resolved addresses config) s = refl
applied_goes event.ResolveFailed s = refl
applied_goes event.TakeDial s = dial_goes s (find is_dialable s.subs)
applied_goes (event.LinkUp sub) s = refl
applied_goes (event.DialFailed sub) s = refl
applied_goes (event.Arrived link piece) s = refl
applied_goes (event.LinkLost link) s = refl
applied_goes (event.Drain link room) s = refl
applied_goes (event.Ping link word) s = refl
applied_goes event.Tick s = refl
applied_goes event.Shutdown s = refl

event_goes_by : (o : Option Refusal) (e : Event) (s : Seen) → Continues (event_action_by o e s)
event_goes_by (Some why) e s = refl
event_goes_by None e s = applied_goes e s

deadline_goes : (s : Seen) → Continues (next_deadline s)
deadline_goes s = map_goes (ending_call ending.Deadline) (λ c. refl) (foremost (is_due_before s) (filter (is_past_deadline s) s.calls))

event_goes : (o : OpenEntry) (s : Seen) → Continues (of_event o s)
event_goes o s =
    or_goes (next_deadline s) _ (deadline_goes s) (or_goes (event_action o.event s) None (event_goes_by (refusal_of o.event s) o.event s) refl)

read_goes : (link : ℕ) (n : NextRead) → Continues (read_action link n)
read_goes link nextread.Nothing = refl
read_goes link (nextread.Frame r) = refl
read_goes link (nextread.Broken number) = refl

written_goes : (link most : ℕ) (o : OpenEntry) (s : Seen) → Continues (next_written link most o s)
written_goes link most o s =
    then_goes (λ (l : Link). option_and_then (frame_to_write link most o s) (sendable l s))
    (λ l. then_goes (frame_to_write link most o s)
    (λ x. if_goes (fits_drain most o x) (Some (action.FrameWritten link x)) None refl refl) (sendable l s)) (numbered s.links link)

frame_goes_by : (e : Event) (o : OpenEntry) (s : Seen) → Continues (frame_of_event e o s)
frame_goes_by (event.Arrived link piece) o s =
    then_goes (read_next link s)
    (λ l. if_goes (is_none l.over) (read_action link (next_read l s)) None (read_goes link (next_read l s)) refl) (numbered s.links link)
frame_goes_by (event.Drain link most) o s = written_goes link most o s
frame_goes_by e o s = refl

frames_go : (o : OpenEntry) (s : Seen) → Continues (of_frames o s)
frames_go o s =
    or_goes (frame_action o s) (Some action.SettlingBegins)
    (if_goes (is_after_event o) (frame_of_event o.event o s) None (frame_goes_by o.event o s) refl) refl

-- nor does what is due
over_goes : (s : Seen) → Continues (next_take_over s)
over_goes s =
    then_goes (λ (g : PolicyUse). if may_take_over s g then Some (action.PolicyTakesOver g.number) else None)
    (λ g. if_goes (may_take_over s g) (Some (action.PolicyTakesOver g.number)) None refl refl) (pending_policy s)

config_goes : (s : Seen) (c : Call) → Continues (config_action s c)
config_goes s c =
    if_goes (is_to_configure s c) (Some (action.CallConfigured c.number (length s.configs))) (if lacks_config s c then Some (action.CallEnds c.number ending.NoConfig) else None) refl
    (if_goes (lacks_config s c) (Some (action.CallEnds c.number ending.NoConfig)) None refl refl)

asked_goes : (test : Attempt → Bool) (s : Seen) → Continues (next_asked test s)
asked_goes test s =
    then_goes (asking s)
    (λ a. map_goes (λ (g : PolicyUse). action.PickRequested a.place g.number (pick_of (policy_of g s))) (λ g. refl) (current_policy s))
    (foremost is_queued_before (filter (λ (a : Attempt). is_served s a && test a) s.attempts))

due_by_goes : (s : Seen) (c : Call) (due : ℕ) (b : Bool)
    → closes (if b then action.HedgeWithheld c.number else action.AttemptMade c.number (attempts_made c s + 1) (kind_of_next c s) due) ≡ false
due_by_goes s c due true = refl
due_by_goes s c due false = refl

due_goes : (s : Seen) (c : Call) → Continues (due_action s c)
due_goes s c =
    if_goes (is_open_call c) (option_and_then (due_if_past c s) (next_due c s)) None
    (then_goes (due_if_past c s)
    (λ t. if_goes (nat_le t (now s)) (Some (due_attempt c s t)) None (due_by_goes s c t (is_hedge (kind_of_next c s) && not (has_tokens c s))) refl) (next_due c s))
    refl

-- what gives it is the last of what is due
skip : (o p : Option Action) → Continues o → option_or o p ≡ Some action.EntryCloses → (o ≡ None) × (p ≡ Some action.EntryCloses)
skip None p e is = (refl, is)
skip (Some a) p e is =
    let one : a ≡ action.EntryCloses = (cc) in
    let bad : closes a ≡ true = ap closes one in absurd (cc)

unlast : (o : Option Action) → Continues o → option_or o None ≡ Some action.EntryCloses → ⊥
unlast None e is = absurd (cc)
unlast (Some a) e is =
    let one : a ≡ action.EntryCloses = (cc) in
    let bad : closes a ≡ true = ap closes one in absurd (cc)

pub record AllNone (o : OpenEntry) (s : Seen) : Type 0 where
  pub clock : next_of_clock s ≡ None
  pub over : next_take_over s ≡ None
  pub wishes : next_connected s ≡ None
  pub configs : first_of (config_action s) s.calls ≡ None
  pub pass : next_of_pass o s ≡ None
  pub attempts : next_due_attempt s ≡ None
  pub queue : next_of_queue s ≡ None

settled_none : (o : OpenEntry) (s : Seen) → of_settling o s ≡ Some action.EntryCloses → AllNone o s
settled_none o s e =
    let a = skip (next_of_clock s) _
    (first_goes (clock_action s)
    (λ b. if_goes (is_too_late s b) (Some (action.ConnectTimesOut b.number)) (if is_rested s b then Some (action.BackoffEnds b.number) else None) refl
    (if_goes (is_rested s b) (Some (action.BackoffEnds b.number)) None refl refl)) s.subs) e in
    let b = skip (next_take_over s) _ (over_goes s) a.1 in
    let c = skip (next_connected s) _
    (found_goes (λ (b : Subchannel). action.SubchannelConnects b.number) (λ b. refl) (λ (b : Subchannel). is_idle b.state && is_wished s b) s.subs) b.1 in
    let d = skip (first_of (config_action s) s.calls) _ (first_goes (config_action s) (config_goes s) s.calls) c.1 in
    let f = skip (next_of_pass o s) _ (then_goes (λ (t : Turn). next_asked (is_after t) s) (λ t. asked_goes (is_after t) s) o.turn) d.1 in
    let g = skip (next_due_attempt s) _ (first_goes (due_action s) (due_goes s) s.calls) f.1 in
    let h = skip (next_of_queue s) _ (asked_goes (λ (a : Attempt). true) s) g.1 in
    record { clock = a.0; over = b.0; wishes = c.0; configs = d.0; pass = f.0; attempts = g.0; queue = h.0 }

-- and what these give is what is due
some_over : (s : Seen) → is_some (next_take_over s) ≡ holds (may_take_over s) (pending_policy s)
some_over s =
    some_then (λ (g : PolicyUse). if may_take_over s g then Some (action.PolicyTakesOver g.number) else None) (may_take_over s)
    (λ g. some_one (may_take_over s g) (action.PolicyTakesOver g.number)) (pending_policy s)

some_due_by : (s : Seen) (c : Call) (b : Bool)
    → is_some (if b then option_and_then (due_if_past c s) (next_due c s) else None) ≡ (b && holds (λ (t : ℕ). nat_le t (now s)) (next_due c s))
some_due_by s c true =
    some_then (due_if_past c s) (λ (t : ℕ). nat_le t (now s)) (λ t. some_one (nat_le t (now s)) (due_attempt c s t)) (next_due c s)
some_due_by s c false = refl

some_due : (s : Seen) (c : Call) → is_some (due_action s c) ≡ is_due s c
some_due s c = some_due_by s c (is_open_call c)

has_policy : (x y : Bool) (f : PolicyUse → Bool) (o : Option PolicyUse) → ((x && holds f o) && y) ≡ true → is_some o ≡ true
has_policy true y f None e = absurd (cc)
has_policy false y f None e = absurd (cc)
has_policy x y f (Some g) e = refl

some_asked_of : (test : Attempt → Bool) (s : Seen) (o : Option Attempt) → holds (λ (a : Attempt). is_served s a && test a) o ≡ is_some o
    → is_some (option_and_then (asking s) o) ≡ is_some o
some_asked_of test s None e = refl
some_asked_of test s (Some a) e =
    some_map (λ (g : PolicyUse). action.PickRequested a.place g.number (pick_of (policy_of g s))) (current_policy s)
    ∙ has_policy (is_queued a s) (test a) (λ (g : PolicyUse). is_served_by (policy_state g s) a s) (current_policy s) e

some_asked : (test : Attempt → Bool) (s : Seen) → is_some (next_asked test s) ≡ list_any (λ (a : Attempt). is_served s a && test a) s.attempts
some_asked test s =
    some_asked_of test s (foremost is_queued_before (filter (λ (a : Attempt). is_served s a && test a) s.attempts))
    (foremost_passes is_queued_before (λ (a : Attempt). is_served s a && test a) s.attempts)
    ∙ some_foremost is_queued_before (λ (a : Attempt). is_served s a && test a) s.attempts

and_true : (x : Bool) → (x && true) ≡ x
and_true true = refl
and_true false = refl

some_queue : (s : Seen) → is_some (next_of_queue s) ≡ list_any (is_served s) s.attempts
some_queue s =
    some_asked (λ (a : Attempt). true) s ∙ any_same (λ (a : Attempt). is_served s a && true) (is_served s) (λ a. and_true (is_served s a)) s.attempts

none_less : (test wide : Attempt → Bool) → ((x : Attempt) → wide x ≡ false → test x ≡ false) → (xs : List Attempt) → list_any wide xs ≡ false
    → list_any test xs ≡ false
none_less test wide restricted [] e = refl
none_less test wide restricted (x ∷ xs) e =
    let parts : (wide x ≡ false) × (list_any wide xs ≡ false) = or_parts (wide x) (list_any wide xs) e in
    or_from (test x) (list_any test xs) (restricted x parts.0) (none_less test wide restricted xs parts.1)

no_pass : (s : Seen) (t : Option Turn) → list_any (is_served s) s.attempts ≡ false → option_and_then (λ (t : Turn). next_asked (is_after t) s) t ≡ None
no_pass s None e = refl
no_pass s (Some t) e =
    none_is (next_asked (is_after t) s)
    (some_asked (is_after t) s
    ∙ none_less (λ (a : Attempt). is_served s a && is_after t a) (is_served s) (λ a h. and_left (is_served s a) (is_after t a) h) s.attempts e)

from_none : (o : Option Action) (b : Bool) → is_some o ≡ b → o ≡ None → b ≡ false
from_none o b e none = sym e ∙ is_nothing o none

to_none : (o : Option Action) (b : Bool) → is_some o ≡ b → b ≡ false → o ≡ None
to_none o b e none = none_is o (e ∙ none)

some_clock : (s : Seen) → is_some (next_of_clock s) ≡ list_any (is_over_time s) s.subs
some_clock s =
    some_first (clock_action s) (is_over_time s)
    (λ b. some_two (is_too_late s b) (is_rested s b) (action.ConnectTimesOut b.number) (action.BackoffEnds b.number)) s.subs

some_wish : (s : Seen) → is_some (next_connected s) ≡ list_any (is_to_connect s) s.subs
some_wish s =
    some_map (λ (b : Subchannel). action.SubchannelConnects b.number) (find (is_to_connect s) s.subs) ∙ some_find (is_to_connect s) s.subs

some_config : (s : Seen) → is_some (first_of (config_action s) s.calls) ≡ list_any (is_unsettled s) s.calls
some_config s =
    some_first (config_action s) (is_unsettled s)
    (λ c. some_two (is_to_configure s c) (lacks_config s c) (action.CallConfigured c.number (length s.configs)) (action.CallEnds c.number ending.NoConfig)) s.calls

waits_from : (o : OpenEntry) (s : Seen) → IsQuiescent o s → AllNone o s → NothingDueWaits o s
waits_from o s quiescent n = record {
  quiescent = quiescent;
  clock = from_none (next_of_clock s) (list_any (is_over_time s) s.subs) (some_clock s) n.clock;
  over = from_none (next_take_over s) (holds (may_take_over s) (pending_policy s)) (some_over s) n.over;
  wishes = from_none (next_connected s) (list_any (is_to_connect s) s.subs) (some_wish s) n.wishes;
  configs = from_none (first_of (config_action s) s.calls) (list_any (is_unsettled s) s.calls) (some_config s) n.configs;
  attempts = from_none (next_due_attempt s) (list_any (is_due s) s.calls) (some_first (due_action s) (is_due s) (some_due s) s.calls) n.attempts;
  queue = from_none (next_of_queue s) (list_any (is_served s) s.attempts) (some_queue s) n.queue;
}

or_skip : (o p : Option Action) (a : Action) → o ≡ None → p ≡ Some a → option_or o p ≡ Some a
or_skip None p a e f = f
or_skip (Some b) p a e f = absurd (cc)

settles : (o : OpenEntry) (s : Seen) → NothingDueWaits o s → of_settling o s ≡ Some action.EntryCloses
settles o s w =
    or_skip (next_of_clock s) _ action.EntryCloses (to_none (next_of_clock s) (list_any (is_over_time s) s.subs) (some_clock s) w.clock)
    (or_skip (next_take_over s) _ action.EntryCloses (to_none (next_take_over s) (holds (may_take_over s) (pending_policy s)) (some_over s) w.over)
    (or_skip (next_connected s) _ action.EntryCloses (to_none (next_connected s) (list_any (is_to_connect s) s.subs) (some_wish s) w.wishes)
    (or_skip (first_of (config_action s) s.calls) _ action.EntryCloses
    (to_none (first_of (config_action s) s.calls) (list_any (is_unsettled s) s.calls) (some_config s) w.configs)
    (or_skip (next_of_pass o s) _ action.EntryCloses (no_pass s o.turn w.queue)
    (or_skip (next_due_attempt s) _ action.EntryCloses
    (to_none (next_due_attempt s) (list_any (is_due s) s.calls) (some_first (due_action s) (is_due s) (some_due s) s.calls) w.attempts)
    (or_skip (next_of_queue s) _ action.EntryCloses (to_none (next_of_queue s) (list_any (is_served s) s.attempts) (some_queue s) w.queue) refl))))))

-- by its stage
stage_none : (o : OpenEntry) (s : Seen) (st : Stage) → option_or (of_stage o s st) None ≡ Some action.EntryCloses → (st ≡ stage.Settling) × AllNone o s
stage_none o s stage.Event e = absurd (unlast (of_event o s) (event_goes o s) e)
stage_none o s stage.Replied e = absurd (unlast (of_frames o s) (frames_go o s) e)
stage_none o s stage.Settling e = (refl, settled_none o s (sym (or_nothing (of_settling o s)) ∙ e))

pub ends_where_nothing_waits : (o : OpenEntry) (s : Seen) → s.current ≡ Some o
    → (following s ≡ Some action.EntryCloses) ↔ ((o.stage ≡ stage.Settling) × NothingDueWaits o s)
ends_where_nothing_waits o s e = (from, to) where
  from : following s ≡ Some action.EntryCloses → (o.stage ≡ stage.Settling) × NothingDueWaits o s
  from next =
      let here : following_in s o ≡ Some action.EntryCloses = sym (ap (option_and_then (following_in s)) e) ∙ next in
      let a : (of_calls o s ≡ None) × (option_or (of_links o s) (option_or (of_policies o s) (option_or (of_stage o s o.stage) None)) ≡ Some action.EntryCloses)
      = skip (of_calls o s) (option_or (of_links o s) (option_or (of_policies o s) (option_or (of_stage o s o.stage) None))) (calls_go o s) here in
      let b : (of_links o s ≡ None) × (option_or (of_policies o s) (option_or (of_stage o s o.stage) None) ≡ Some action.EntryCloses)
      = skip (of_links o s) (option_or (of_policies o s) (option_or (of_stage o s o.stage) None)) (links_go o s) a.1 in
      let c : (of_policies o s ≡ None) × (option_or (of_stage o s o.stage) None ≡ Some action.EntryCloses)
      = skip (of_policies o s) (option_or (of_stage o s o.stage) None) (policies_go o s) b.1 in
      let d : (o.stage ≡ stage.Settling) × AllNone o s = stage_none o s o.stage c.1 in
      (d.0, waits_from o s ((quiescence_is_exact o s).0 (a.0, b.0, c.0)) d.1)

  to : (o.stage ≡ stage.Settling) × NothingDueWaits o s → following s ≡ Some action.EntryCloses
  to w = quiescence_leaves_stage o s e w.1.quiescent ∙ ap (of_stage o s) w.0 ∙ settles o s w.1
