-- A session as one list of actions: what each adds, and which one is next. The order is the channel's own, where the standards leave it open. An
-- action is enabled where its line below gives it; its priority is the place of that line. Some actions have several lines: an attempt ends cut off,
-- by the wire, or by its pick; it is made transparently or because it is due; a call ends for each of seven causes.
-- Example: a call begins on a channel that is READY, with a config: EntryOpens, CallBegins, SettlingBegins, CallConfigured, AttemptMade,
-- PickRequested, AttemptPlaced, EntryCloses. Its HEADERS wait for a drain: EntryOpens, EventAnswered, FrameWritten, SettlingBegins, EntryCloses.
use Rattle.std.specs.Prelude.{List, None, Option, Some, [], if◌then◌else◌, length, option_and_then, true, ◌∷◌}
use Rattle.session_actions.specs.AttemptEnds.{attempt_ended, next_cut, next_reset, next_wire_end, stream_reset}
use Rattle.session_actions.specs.CallEnds.{call_ended, has_long_request, has_long_response, is_cancelled, is_over_by_row, is_shut_down, lacks_config, next_deadline, next_ended}
use Rattle.session_actions.specs.Closing.{entry_made}
use Rattle.session_actions.specs.Commitments.{call_committed, next_final, next_inherited, next_headed, next_overflow}
use Rattle.session_actions.specs.Configs.{call_configured, config_read, is_to_configure, resolution_failed}
use Rattle.session_actions.specs.Deliveries.{call_begun_by, item_taken, message_accepted, request_finished}
use Rattle.session_actions.specs.Entries.{opened, replied, settling}
use Rattle.session_actions.specs.Events.{event_action, frame_action, is_loss}
use Rattle.session_actions.specs.Links.{owed, with_link}
use Rattle.session_actions.specs.Making.{attempt_made, hedge_withheld, next_due_attempt, next_transparent}
use Rattle.session_actions.specs.Policies.{addresses_given, attempt_placed, next_begun, next_given, next_of_pass, next_of_pick, next_of_queue, next_retired, next_take_over, pick_requested, policy_begun, policy_retired, policy_took_over}
use Rattle.session_actions.specs.Subchannels.{connect_timed_out, dial_failed, dial_taken, gone_down, in_state, link_up, next_added, next_connected, next_of_clock, next_of_links, next_shut, settings_arrived, sub_added, with_sub, without_link}
use Rattle.session_actions.specs.Words.{first_of}
use Rattle.session_actions.specs.Writing.{frame_read, frame_written, link_broken, link_lost, ping_of, with_piece}
use Rattle.session_actions.specs.declared.action.Action.{Action}
use Rattle.session_actions.specs.declared.call.Call.{Call}
use Rattle.session_actions.specs.declared.entry.OpenEntry.{OpenEntry}
use Rattle.session_actions.specs.declared.entry.Stage.{Stage}
use Rattle.session_actions.specs.declared.seen.Seen.{Seen}
use Rattle.session_actions.specs.declared.action.Action.TheVariants as action
use Rattle.grpc_base.specs.declared.event.Conn.TheVariants as conn
use Rattle.grpc_base.specs.declared.event.EndCause.TheVariants as ending
use Rattle.grpc_base.specs.declared.event.Reply.TheVariants as reply
use Rattle.session_actions.specs.declared.entry.Stage.TheVariants as stage

-- what an action adds to what has happened, while an entry is being made
abbrev pub after_in : OpenEntry → Action → Seen → Seen
-- entry and clock
after_in o (action.EntryOpens posted word e) s = s
after_in o (action.EventRefused why) s = replied (reply.Refused why) s
after_in o (action.EventAnswered r) s = replied r s
after_in o action.SettlingBegins s = settling s
after_in o action.EntryCloses s = entry_made o s
-- applications
after_in o action.CallBegins s = call_begun_by o.event s
after_in o (action.MessageAccepted call) s = message_accepted call o.event s
after_in o (action.RequestFinished call) s = request_finished call s
after_in o (action.ItemTaken call item) s = item_taken call item s
after_in o (action.CallEnds call why) s = call_ended call why s
-- configuration
after_in o (action.ConfigRead config) s = config_read config s
after_in o action.ResolutionFailed s = resolution_failed s
after_in o (action.CallConfigured call config) s = call_configured call config s
-- attempts
after_in o (action.AttemptMade call number k due) s = attempt_made call number k due s
after_in o (action.HedgeWithheld call) s = hedge_withheld call s
after_in o (action.PickRequested row generation answer) s = pick_requested row generation answer s
after_in o (action.AttemptPlaced row at) s = attempt_placed row at s
after_in o (action.AttemptEnds row end) s = attempt_ended row end s
after_in o (action.CallCommitted row why) s = call_committed row s
after_in o (action.StreamReset row number) s = stream_reset row number s
-- policies
after_in o (action.PolicyBegins k) s = policy_begun k s
after_in o (action.AddressesGiven generation) s = addresses_given generation o.event s
after_in o (action.PolicyTakesOver generation) s = policy_took_over generation s
after_in o (action.PolicyRetired generation) s = policy_retired generation s
-- subchannels
after_in o (action.SubchannelAdded address) s = sub_added address s
after_in o (action.SubchannelShut sub) s = with_sub (without_link conn.Shutdown) sub s
after_in o (action.SubchannelConnects sub) s = with_sub (in_state conn.Connecting) sub s
after_in o (action.DialTaken sub again until) s = dial_taken sub again until s
after_in o (action.DialFails sub) s = dial_failed sub s
after_in o (action.ConnectTimesOut sub) s = connect_timed_out sub s
after_in o (action.BackoffEnds sub) s = with_sub (in_state conn.Idle) sub s
after_in o (action.LinkUp sub) s = link_up sub s
after_in o (action.SettingsArrive sub) s = settings_arrived sub s
after_in o (action.LinkDown sub) s = with_sub gone_down sub s
-- the wire
after_in o (action.BytesArrive link) s = replied reply.Done (with_link (with_piece o.event) link s)
after_in o (action.FrameRead link r) s = frame_read link r s
after_in o (action.LinkBreaks link number) s = link_broken link s
after_in o (action.LinkLost link) s = link_lost link s
after_in o (action.PingQueued link) s = replied reply.Done (owed (ping_of o.event) link s)
after_in o (action.FrameWritten link x) s = frame_written link x s
after_in o action.ChannelShuts s = replied reply.Done (record s { shut = true })

abbrev pub after_if : Option OpenEntry → Action → Seen → Seen
after_if (Some o) a s = after_in o a s
after_if None (action.EntryOpens posted word e) s = opened posted word e s
after_if None a s = s

abbrev pub after : Action → Seen → Seen
after a s = after_if s.current a s

-- the first action of these
abbrev pub first_action : List (Option Action) → Option Action
first_action actions = first_of (λ (o : Option Action). o) actions

-- What follows at once from what is, before anything else and whichever stage the entry is at, in this order. Of one kind of action the lowest place
-- of a row, or number of a call or another thing, comes first. But resets go by link and stream, deadlines by moment and then call, pick requests by
-- call and then row. Subchannels are added in the order of the lists of addresses, that of the current policy before that of the pending one.
-- (The lines go over all calls, not call by call. No two calls should have such an action at one time: what makes one possible is an action of one
-- call, and these come before any other. That is not proved here.)
abbrev pub of_calls : OpenEntry → Seen → Option Action
of_calls o s = first_action (
    -- an attempt that is over is cut off; a transparent retry is made, and takes a commitment over; a call ends by its committed attempt
    next_cut s ∷ next_transparent s ∷ next_inherited s ∷ next_ended ending.Row (is_over_by_row s) s
    -- a call is committed by a final end; it is cancelled; a message of its request was too long
    ∷ next_final s ∷ next_ended ending.Cancelled (is_cancelled o) s ∷ next_ended ending.Request (has_long_request o s) s
    -- a call is committed by overflow or a head; a message of its response is too long
    ∷ next_overflow s ∷ next_headed s ∷ next_ended ending.Response (has_long_response s) s ∷ [])

abbrev pub of_links : OpenEntry → Seen → Option Action
of_links o s = first_action (
    -- the answer of a pick request is acted on; a subchannel becomes READY, or loses its link
    next_of_pick s ∷ next_of_links s
    -- attempts end by the wire, all that one frame ends, by place; then their streams are reset, by stream. Where the environment lost the link, the
    -- resets that one end brings (those of a hedged call's other attempts, on other links) are queued before the next end
    ∷ (if is_loss o.event then None else next_wire_end s) ∷ next_reset s ∷ next_wire_end s ∷ [])

abbrev pub of_policies : OpenEntry → Seen → Option Action
of_policies o s = first_action (
    -- calls of a channel that was shut down end; policies are retired, begin and get their addresses, and subchannels with them
    next_ended ending.Shut (is_shut_down s) s ∷ next_retired o s ∷ next_begun o s ∷ next_given o s ∷ next_shut s ∷ next_added s ∷ [])

-- then, by the stage of the entry: deadlines that have come, and the event itself; its frames, one by one. Deadlines are looked at only here: so a
-- call that begins with a timeout of 0, or gets a config whose timeout is over, ends in the next entry
abbrev pub of_event : OpenEntry → Seen → Option Action
of_event o s = first_action (next_deadline s ∷ event_action o.event s ∷ [])

abbrev pub of_frames : OpenEntry → Seen → Option Action
of_frames o s = first_action (frame_action o s ∷ Some action.SettlingBegins ∷ [])

-- and what is due by now: the clock of subchannels; a policy that takes over; connections that are wished; configurations. Then rounds: all attempts
-- that are due are made, by call; then each queued attempt asks once, by call and place; and again, until a round does nothing. An entry is made
-- where none of this is left
abbrev pub config_action : Seen → Call → Option Action
config_action s c =
    if is_to_configure s c then Some (action.CallConfigured c.number (length s.configs))
    else if lacks_config s c then Some (action.CallEnds c.number ending.NoConfig)
    else None

abbrev pub of_settling : OpenEntry → Seen → Option Action
of_settling o s = first_action (
    next_of_clock s ∷ next_take_over s ∷ next_connected s ∷ first_of (config_action s) s.calls ∷ next_of_pass o s
    ∷ next_due_attempt s ∷ next_of_queue s ∷ Some action.EntryCloses ∷ [])

abbrev pub of_stage : OpenEntry → Seen → Stage → Option Action
of_stage o s stage.Event = of_event o s
of_stage o s stage.Replied = of_frames o s
of_stage o s stage.Settling = of_settling o s

abbrev pub following_in : Seen → OpenEntry → Option Action
following_in s o = first_action (of_calls o s ∷ of_links o s ∷ of_policies o s ∷ of_stage o s o.stage ∷ [])

-- the next action while an entry is being made
abbrev pub following : Seen → Option Action
following s = option_and_then (following_in s) s.current
