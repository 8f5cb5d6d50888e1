-- A channel stays shut.
use Rattle.attempt_ledger.specs.Ends.{is_cut}
use Rattle.attempt_ledger.specs.Numbering.{is_transparent}
use Rattle.attempt_ledger.specs.declared.row.RowEnd.{RowEnd}
use Rattle.grpc_base.specs.declared.address.Address.{Address}
use Rattle.grpc_base.specs.declared.event.ConfigFault.{ConfigFault}
use Rattle.grpc_base.specs.declared.event.Event.{Event}
use Rattle.grpc_base.specs.declared.plan.Throttle.{Throttle}
use Rattle.h2_frame.specs.Frames.{FrameSeen}
use Rattle.h2_frame.specs.Numbers.{headers_type}
use Rattle.service_config.specs.declared.config.Config.{Config}
use Rattle.session_actions.specs.Actions.{after, after_if, after_in}
use Rattle.session_actions.specs.AttemptEnds.{attempt_ended_as, stream_reset_of, with_end_in_run}
use Rattle.session_actions.specs.Attempts.{call_of, is_to_follow, with_attempt}
use Rattle.session_actions.specs.Calls.{marked}
use Rattle.session_actions.specs.Commitments.{with_commitment}
use Rattle.session_actions.specs.Configs.{config_of_call, config_read, resolver_answered, run_to_join, with_held, with_throttled}
use Rattle.session_actions.specs.Deliveries.{call_begun_by}
use Rattle.session_actions.specs.Entries.{entry, replied}
use Rattle.session_actions.specs.Links.{link_over, wants_resolution}
use Rattle.session_actions.specs.Making.{new_row, with_row, without_turn_unless}
use Rattle.session_actions.specs.Policies.{addresses_in, current_policy, given_addresses, policy_retired, with_placing, with_policy}
use Rattle.session_actions.specs.Subchannels.{dial_taken_of, gone_down, in_state, link_timed_out, new_link, noted_by_policies, with_dial, with_sub, without_link}
use Rattle.session_actions.specs.Words.{changed, numbered}
use Rattle.session_actions.specs.Writing.{frame_read_on, frame_written_on, stream_opened, stream_opened_by, waiting_on, with_stream}
use Rattle.session_actions.specs.declared.action.Action.{Action}
use Rattle.session_actions.specs.declared.attempt.Attempt.{Attempt}
use Rattle.session_actions.specs.declared.call.Call.{Call}
use Rattle.session_actions.specs.declared.call.MarkKind.{MarkKind}
use Rattle.session_actions.specs.declared.config.HeldConfig.{HeldConfig}
use Rattle.session_actions.specs.declared.config.ThrottleRun.{ThrottleRun}
use Rattle.session_actions.specs.declared.entry.OpenEntry.{OpenEntry}
use Rattle.session_actions.specs.declared.link.Link.{Link}
use Rattle.session_actions.specs.declared.link.ReadFrame.{ReadFrame}
use Rattle.session_actions.specs.declared.link.Sent.{Sent}
use Rattle.session_actions.specs.declared.policy.PolicyUse.{PolicyUse}
use Rattle.session_actions.specs.declared.seen.Seen.{Seen}
use Rattle.session_actions.specs.declared.subchannel.Subchannel.{Subchannel}
use Rattle.session_takes.specs.Shut.{ShutChannelsStay}
use Rattle.std.proofs.Common.{Bool, Err, List, None, Ok, Option, Result, Some, [], ap, false, if◌then◌else◌, length, not, refl, slice_get, true, ℕ, ◌&&◌, ◌++◌, ◌+◌, ◌==◌, ◌∙◌, ◌∷◌, ◌≡◌}
use Rattle.std.specs.Option.{option_map_or}
use Rattle.std.specs.Prelude.{option_and_then}
use Rattle.session_actions.specs.declared.action.Action.TheVariants as action
use Rattle.grpc_base.specs.declared.event.Conn.TheVariants as conn
use Rattle.grpc_base.specs.declared.event.Event.TheVariants as event
use Rattle.session_actions.specs.declared.call.MarkKind.TheVariants as mark
use Rattle.session_actions.specs.declared.link.LinkOver.TheVariants as over
use Rattle.grpc_base.specs.declared.event.Reply.TheVariants as reply
use Rattle.session_actions.specs.declared.link.Sent.TheVariants as sent

shut_if : (b : Bool) (s t : Seen) → s.shut ≡ true → t.shut ≡ true → (if b then s else t).shut ≡ true
shut_if true s t e f = e
shut_if false s t e f = f

-- what changes calls, attempts, links and the like leaves it
begun_so : (e : Event) (s : Seen) → s.shut ≡ true → (call_begun_by e s).shut ≡ true
begun_so (event.Begin request) s e = e
begun_so _ s e = e

throttled_so : (config : Config) (t : Throttle) (run : Option ℕ) (s : Seen) → s.shut ≡ true → (with_throttled config t run s).shut ≡ true
throttled_so config t (Some run) s e = e
throttled_so config t None s e = e

held_so : (config : Config) (t : Option Throttle) (s : Seen) → s.shut ≡ true → (with_held config t s).shut ≡ true
held_so config None s e = e
held_so config (Some t) s e = throttled_so config t (run_to_join t s) s e

read_so : (x : Result Config ConfigFault) (s : Seen) → s.shut ≡ true → (config_read x s).shut ≡ true
read_so (Ok config) s e = held_so config config.throttle (replied reply.Done (resolver_answered s)) e
read_so (Err fault) s e = e

marked_so : (what : MarkKind) (s : Seen) (o : Option Attempt) → s.shut ≡ true → (option_map_or (λ (a : Attempt). marked what a.row.call s) o s).shut ≡ true
marked_so what s None e = e
marked_so what s (Some a) e = e

turned_so : (b : Bool) (s : Seen) → s.shut ≡ true → (without_turn_unless b s).shut ≡ true
turned_so true s e = e
turned_so false s e = e

run_so : (s : Seen) (a : Attempt) (b : Bool) (run : Option ℕ) → s.shut ≡ true
    → (if b then option_map_or (λ (k : ℕ). record s { runs = changed (λ (u : ThrottleRun). record u { ends = u.ends ++ a.place ∷ [] }) k s.runs }) run s else s).shut ≡ true
run_so s a true None e = e
run_so s a true (Some k) e = e
run_so s a false run e = e

counted_so : (s : Seen) (a : Attempt) (end : RowEnd) (o : Option Call) → s.shut ≡ true → (option_map_or (with_end_in_run a end s) o s).shut ≡ true
counted_so s a end None e = e
counted_so s a end (Some c) e =
    run_so s a (not (is_cut end.cause) && not (is_to_follow c end.cause end.unseen s)) (option_and_then (λ (h : HeldConfig). h.run) (config_of_call c s)) e

ended_so : (s : Seen) (end : RowEnd) (o : Option Attempt) → s.shut ≡ true → (option_map_or (attempt_ended_as end s) o s).shut ≡ true
ended_so s end None e = e
ended_so s end (Some a) e = counted_so s a end (call_of a s) e

reset_so : (s : Seen) (number : ℕ) (o : Option Attempt) → s.shut ≡ true → (option_map_or (stream_reset_of number s) o s).shut ≡ true
reset_so s number None e = e
reset_so s number (Some a) e = e

given_so : (g : ℕ) (s : Seen) (o : Option (List Address)) → s.shut ≡ true → (option_map_or (λ (x : List Address). with_policy (given_addresses x s) g s) o s).shut ≡ true
given_so g s None e = e
given_so g s (Some x) e = e

over_so : (s : Seen) (o : Option PolicyUse) → s.shut ≡ true → (option_map_or (λ (g : PolicyUse). policy_retired g.number s) o s).shut ≡ true
over_so s None e = e
over_so s (Some g) e = e

noted_so : (s : Seen) (o : Option Subchannel) → s.shut ≡ true → (option_map_or (λ (b : Subchannel). noted_by_policies b s) o s).shut ≡ true
noted_so s None e = e
noted_so s (Some b) e = e

sub_so : (f : Subchannel → Subchannel) (n : ℕ) (s : Seen) → s.shut ≡ true → (with_sub f n s).shut ≡ true
sub_so f n s e = noted_so (record s { subs = changed f n s.subs }) (numbered (changed f n s.subs) n) e

dialled_so : (again until : ℕ) (s : Seen) (o : Option Subchannel) → s.shut ≡ true → (option_map_or (dial_taken_of again until s) o s).shut ≡ true
dialled_so again until s None e = e
dialled_so again until s (Some b) e = sub_so (with_dial again until) b.number s e

late_by : (s : Seen) (o : Option ℕ) → s.shut ≡ true → (option_map_or (λ (link : ℕ). link_over over.TimedOut link s) o s).shut ≡ true
late_by s None e = e
late_by s (Some link) e = e

late_so : (s : Seen) (o : Option Subchannel) → s.shut ≡ true → (option_map_or (λ (b : Subchannel). link_timed_out b s) o s).shut ≡ true
late_so s None e = e
late_so s (Some b) e = late_by s b.link e

frame_so : (r : ReadFrame) (s : Seen) (o : Option Link) → s.shut ≡ true → (option_map_or (frame_read_on r s) o s).shut ≡ true
frame_so r s None e = e
frame_so r s (Some l) e = e

stream_so : (f : FrameSeen) (s : Seen) (o : Option Attempt) → s.shut ≡ true → (option_map_or (λ (a : Attempt). with_attempt (with_stream f.stream) a.place s) o s).shut ≡ true
stream_so f s None e = e
stream_so f s (Some a) e = e

opened_so : (x : Sent) (l : Link) (s : Seen) → s.shut ≡ true → (stream_opened_by x l s).shut ≡ true
opened_so sent.Preface l s e = e
opened_so (sent.Frame f) l s e = shut_if (f.kind == headers_type) (stream_opened f l s) s (stream_so f s (slice_get (waiting_on l s) 0) e) e

written_so : (x : Sent) (s : Seen) (o : Option Link) → s.shut ≡ true → (option_map_or (frame_written_on x s) o s).shut ≡ true
written_so x s None e = e
written_so x s (Some l) e = opened_so x l s e

act : (o : OpenEntry) (a : Action) (s : Seen) → s.shut ≡ true → (after_in o a s).shut ≡ true
act o action.CallBegins s e = begun_so o.event s e
act o (action.ConfigRead x) s e = read_so x s e
act o (action.AttemptMade call number k due) s e =
    turned_so (is_transparent k) (marked (mark.Made (length s.attempts + 1)) call (with_row (new_row call number k due) s)) e
act o (action.AttemptPlaced row where_to) s e =
    marked_so (mark.Placed row) (with_attempt (with_placing where_to) row s) (numbered (with_attempt (with_placing where_to) row s).attempts row) e
act o (action.AttemptEnds row end) s e = ended_so s end (numbered s.attempts row) e
act o (action.CallCommitted row why) s e =
    marked_so mark.Committed (with_attempt (with_commitment (entry s)) row s) (numbered (with_attempt (with_commitment (entry s)) row s).attempts row) e
act o (action.StreamReset row number) s e = reset_so s number (numbered s.attempts row) e
act o (action.AddressesGiven g) s e = given_so g s (addresses_in o.event) e
act o (action.PolicyTakesOver g) s e = over_so s (current_policy s) e
act o (action.SubchannelShut sub) s e = sub_so (without_link conn.Shutdown) sub s e
act o (action.SubchannelConnects sub) s e = sub_so (in_state conn.Connecting) sub s e
act o (action.DialTaken sub again until) s e = dialled_so again until s (numbered s.subs sub) e
act o (action.DialFails sub) s e = sub_so (without_link conn.Failure) sub (wants_resolution s) e
act o (action.ConnectTimesOut sub) s e =
    sub_so (without_link conn.Failure) sub (wants_resolution (option_map_or (λ (b : Subchannel). link_timed_out b s) (numbered s.subs sub) s)) (late_so s (numbered s.subs sub) e)
act o (action.BackoffEnds sub) s e = sub_so (in_state conn.Idle) sub s e
act o (action.LinkUp sub) s e =
    sub_so (λ (b : Subchannel). record b { link = Some (length s.links + 1) }) sub (record s { links = s.links ++ new_link (length s.links + 1) sub s ∷ [] }) e
act o (action.SettingsArrive sub) s e = sub_so (λ (b : Subchannel). record b { state = conn.Ready; dials = 0; until = None }) sub s e
act o (action.LinkDown sub) s e = sub_so gone_down sub s e
act o (action.FrameRead link r) s e = frame_so r s (numbered s.links link) e
act o (action.FrameWritten link x) s e = written_so x s (numbered s.links link) e
act o action.ChannelShuts s e = refl
act o _ s e = e

act_if : (o : Option OpenEntry) (a : Action) (s : Seen) → s.shut ≡ true → (after_if o a s).shut ≡ true
act_if (Some o) a s e = act o a s e
act_if None (action.EntryOpens posted word x) s e = e
act_if None a s e = e

pub shut_channels_stay : ShutChannelsStay
shut_channels_stay [] s t does e = ap (λ (u : Seen). u.shut) does ∙ e
shut_channels_stay (a ∷ actions) s t does e = shut_channels_stay actions (after a s) t does.1 (act_if s.current a s e)
