-- What an action does to the list of attempts: most leave it as it is.
use Rattle.attempt_ledger.specs.Ends.{is_cut}
use Rattle.attempt_ledger.specs.Numbering.{is_transparent}
use Rattle.attempt_ledger.specs.declared.row.Placed.{Placed}
use Rattle.attempt_ledger.specs.declared.row.RowEnd.{RowEnd}
use Rattle.attempt_ledger.specs.declared.row.RowKind.{RowKind}
use Rattle.grpc_base.specs.declared.address.Address.{Address}
use Rattle.grpc_base.specs.declared.event.ConfigFault.{ConfigFault}
use Rattle.grpc_base.specs.declared.event.Event.{Event}
use Rattle.grpc_base.specs.declared.plan.Throttle.{Throttle}
use Rattle.h2_frame.specs.Frames.{FrameSeen}
use Rattle.h2_frame.specs.Numbers.{headers_type}
use Rattle.service_config.specs.declared.config.Config.{Config}
use Rattle.session_actions.specs.Actions.{after, after_if, after_in}
use Rattle.session_actions.specs.AttemptEnds.{attempt_ended_as, stream_reset_of, with_end, with_end_in_run, with_reset_queued}
use Rattle.session_actions.specs.Attempts.{call_of, is_to_follow, with_attempt}
use Rattle.session_actions.specs.Calls.{marked}
use Rattle.session_actions.specs.Commitments.{with_commitment}
use Rattle.session_actions.specs.Configs.{config_of_call, config_read, resolver_answered, run_to_join, with_held, with_throttled}
use Rattle.session_actions.specs.Deliveries.{call_begun_by}
use Rattle.session_actions.specs.Entries.{entry, replied}
use Rattle.session_actions.specs.Links.{link_over, wants_resolution}
use Rattle.session_actions.specs.Making.{new_row, with_row, without_turn_unless}
use Rattle.session_actions.specs.Policies.{addresses_in, current_policy, given_addresses, policy_retired, with_placing, with_policy}
use Rattle.session_actions.specs.Subchannels.{dial_taken_of, gone_down, in_state, link_timed_out, new_link, noted_by_policies, with_dial, with_sub, without_link}
use Rattle.session_actions.specs.Words.{changed, numbered}
use Rattle.session_actions.specs.Writing.{frame_read_on, stream_opened, stream_opened_by, waiting_on, with_stream}
use Rattle.session_actions.specs.declared.action.Action.{Action}
use Rattle.session_actions.specs.declared.action.CommitCause.{CommitCause}
use Rattle.session_actions.specs.declared.attempt.Attempt.{Attempt}
use Rattle.session_actions.specs.declared.call.Call.{Call}
use Rattle.session_actions.specs.declared.call.MarkKind.{MarkKind}
use Rattle.session_actions.specs.declared.config.HeldConfig.{HeldConfig}
use Rattle.session_actions.specs.declared.config.ThrottleRun.{ThrottleRun}
use Rattle.session_actions.specs.declared.entry.OpenEntry.{OpenEntry}
use Rattle.session_actions.specs.declared.link.Link.{Link}
use Rattle.session_actions.specs.declared.link.ReadFrame.{ReadFrame}
use Rattle.session_actions.specs.declared.link.Sent.{Sent}
use Rattle.session_actions.specs.declared.policy.PolicyUse.{PolicyUse}
use Rattle.session_actions.specs.declared.seen.Seen.{Seen}
use Rattle.session_actions.specs.declared.subchannel.Subchannel.{Subchannel}
use Rattle.std.proofs.Common.{Bool, Err, List, None, Ok, Option, Result, Some, [], ap, false, if◌then◌else◌, inl, inr, length, not, refl, slice_get, true, ℕ, ◌&&◌, ◌++◌, ◌+◌, ◌==◌, ◌∙◌, ◌∷◌, ◌≡◌, ◌⊎◌}
use Rattle.std.specs.Option.{option_map_or}
use Rattle.std.specs.Prelude.{option_and_then}
use Rattle.session_actions.specs.declared.action.Action.TheVariants as action
use Rattle.grpc_base.specs.declared.event.Conn.TheVariants as conn
use Rattle.grpc_base.specs.declared.event.Event.TheVariants as event
use Rattle.session_actions.specs.declared.call.MarkKind.TheVariants as mark
use Rattle.session_actions.specs.declared.link.LinkOver.TheVariants as over
use Rattle.grpc_base.specs.declared.event.Reply.TheVariants as reply
use Rattle.session_actions.specs.declared.link.Sent.TheVariants as sent

abbrev pub is_plain : Action → Bool
is_plain (action.AttemptMade call number k due) = false
is_plain (action.AttemptPlaced row where_to) = false
is_plain (action.AttemptEnds row e) = false
is_plain (action.CallCommitted row why) = false
is_plain (action.StreamReset row number) = false
is_plain (action.FrameWritten link x) = false
is_plain _ = true

begun_rows : (e : Event) (s : Seen) → (call_begun_by e s).attempts ≡ s.attempts
begun_rows (event.Begin request) s = refl
begun_rows _ s = refl

throttled_rows : (config : Config) (t : Throttle) (run : Option ℕ) (s : Seen) → (with_throttled config t run s).attempts ≡ s.attempts
throttled_rows config t (Some run) s = refl
throttled_rows config t None s = refl

held_rows : (config : Config) (t : Option Throttle) (s : Seen) → (with_held config t s).attempts ≡ s.attempts
held_rows config None s = refl
held_rows config (Some t) s = throttled_rows config t (run_to_join t s) s

read_rows : (x : Result Config ConfigFault) (s : Seen) → (config_read x s).attempts ≡ s.attempts
read_rows (Ok config) s = held_rows config config.throttle (replied reply.Done (resolver_answered s))
read_rows (Err fault) s = refl

pub marked_rows : (what : MarkKind) (s : Seen) (o : Option Attempt) → (option_map_or (λ (a : Attempt). marked what a.row.call s) o s).attempts ≡ s.attempts
marked_rows what s None = refl
marked_rows what s (Some a) = refl

pub turned_rows : (b : Bool) (s : Seen) → (without_turn_unless b s).attempts ≡ s.attempts
turned_rows true s = refl
turned_rows false s = refl

run_rows : (s : Seen) (a : Attempt) (b : Bool) (run : Option ℕ)
    → (if b then option_map_or (λ (k : ℕ). record s { runs = changed (λ (u : ThrottleRun). record u { ends = u.ends ++ a.place ∷ [] }) k s.runs }) run s else s).attempts ≡ s.attempts
run_rows s a true None = refl
run_rows s a true (Some k) = refl
run_rows s a false run = refl

pub counted_rows : (s : Seen) (a : Attempt) (e : RowEnd) (o : Option Call) → (option_map_or (with_end_in_run a e s) o s).attempts ≡ s.attempts
counted_rows s a e None = refl
counted_rows s a e (Some c) =
    run_rows s a (not (is_cut e.cause) && not (is_to_follow c e.cause e.unseen s)) (option_and_then (λ (h : HeldConfig). h.run) (config_of_call c s))

given_rows : (g : ℕ) (s : Seen) (o : Option (List Address)) → (option_map_or (λ (x : List Address). with_policy (given_addresses x s) g s) o s).attempts ≡ s.attempts
given_rows g s None = refl
given_rows g s (Some x) = refl

over_rows : (s : Seen) (o : Option PolicyUse) → (option_map_or (λ (g : PolicyUse). policy_retired g.number s) o s).attempts ≡ s.attempts
over_rows s None = refl
over_rows s (Some g) = refl

noted_rows : (s : Seen) (o : Option Subchannel) → (option_map_or (λ (b : Subchannel). noted_by_policies b s) o s).attempts ≡ s.attempts
noted_rows s None = refl
noted_rows s (Some b) = refl

sub_rows : (f : Subchannel → Subchannel) (n : ℕ) (s : Seen) → (with_sub f n s).attempts ≡ s.attempts
sub_rows f n s = noted_rows (record s { subs = changed f n s.subs }) (numbered (changed f n s.subs) n)

dialled_rows : (again until : ℕ) (s : Seen) (o : Option Subchannel) → (option_map_or (dial_taken_of again until s) o s).attempts ≡ s.attempts
dialled_rows again until s None = refl
dialled_rows again until s (Some b) = sub_rows (with_dial again until) b.number s

late_by : (s : Seen) (o : Option ℕ) → (option_map_or (λ (link : ℕ). link_over over.TimedOut link s) o s).attempts ≡ s.attempts
late_by s None = refl
late_by s (Some link) = refl

late_rows : (s : Seen) (o : Option Subchannel) → (option_map_or (λ (b : Subchannel). link_timed_out b s) o s).attempts ≡ s.attempts
late_rows s None = refl
late_rows s (Some b) = late_by s b.link

frame_rows : (r : ReadFrame) (s : Seen) (o : Option Link) → (option_map_or (frame_read_on r s) o s).attempts ≡ s.attempts
frame_rows r s None = refl
frame_rows r s (Some l) = refl

act : (o : OpenEntry) (a : Action) (s : Seen) → is_plain a ≡ true → (after_in o a s).attempts ≡ s.attempts
act o (action.AttemptMade call number k due) s e = absurd (cc)
act o (action.AttemptPlaced row where_to) s e = absurd (cc)
act o (action.AttemptEnds row x) s e = absurd (cc)
act o (action.CallCommitted row why) s e = absurd (cc)
act o (action.StreamReset row number) s e = absurd (cc)
act o (action.FrameWritten link x) s e = absurd (cc)
act o action.CallBegins s e = begun_rows o.event s
act o (action.ConfigRead x) s e = read_rows x s
act o (action.AddressesGiven g) s e = given_rows g s (addresses_in o.event)
act o (action.PolicyTakesOver g) s e = over_rows s (current_policy s)
act o (action.SubchannelShut sub) s e = sub_rows (without_link conn.Shutdown) sub s
act o (action.SubchannelConnects sub) s e = sub_rows (in_state conn.Connecting) sub s
act o (action.DialTaken sub again until) s e = dialled_rows again until s (numbered s.subs sub)
act o (action.DialFails sub) s e = sub_rows (without_link conn.Failure) sub (wants_resolution s)
act o (action.ConnectTimesOut sub) s e =
    sub_rows (without_link conn.Failure) sub (wants_resolution (option_map_or (λ (b : Subchannel). link_timed_out b s) (numbered s.subs sub) s)) ∙ late_rows s (numbered s.subs sub)
act o (action.BackoffEnds sub) s e = sub_rows (in_state conn.Idle) sub s
act o (action.LinkUp sub) s e =
    sub_rows (λ (b : Subchannel). record b { link = Some (length s.links + 1) }) sub (record s { links = s.links ++ new_link (length s.links + 1) sub s ∷ [] })
act o (action.SettingsArrive sub) s e = sub_rows (λ (b : Subchannel). record b { state = conn.Ready; dials = 0; until = None }) sub s
act o (action.LinkDown sub) s e = sub_rows gone_down sub s
act o (action.FrameRead link r) s e = frame_rows r s (numbered s.links link)
act o _ s e = refl

act_if : (o : Option OpenEntry) (a : Action) (s : Seen) → is_plain a ≡ true → (after_if o a s).attempts ≡ s.attempts
act_if (Some o) a s e = act o a s e
act_if None (action.EntryOpens posted word x) s e = refl
act_if None a s e = refl

pub plain_rows : (s : Seen) (a : Action) → is_plain a ≡ true → (after a s).attempts ≡ s.attempts
plain_rows s a e = act_if s.current a s e

-- the others change one, or add one
pub placed_rows : (o : OpenEntry) (row : ℕ) (where_to : Placed) (s : Seen) → (after_in o (action.AttemptPlaced row where_to) s).attempts ≡ changed (with_placing where_to) row s.attempts
placed_rows o row where_to s =
    let u : Seen = with_attempt (with_placing where_to) row s in marked_rows (mark.Placed row) u (numbered u.attempts row)

pub committed_rows : (o : OpenEntry) (row : ℕ) (why : CommitCause) (s : Seen) → (after_in o (action.CallCommitted row why) s).attempts ≡ changed (with_commitment (entry s)) row s.attempts
committed_rows o row why s =
    let u : Seen = with_attempt (with_commitment (entry s)) row s in marked_rows mark.Committed u (numbered u.attempts row)

pub ended_rows : (o : OpenEntry) (row : ℕ) (e : RowEnd) (s : Seen) (a : Attempt) → numbered s.attempts row ≡ Some a
    → (after_in o (action.AttemptEnds row e) s).attempts ≡ changed (with_end e) a.place s.attempts
ended_rows o row e s a got =
    ap (λ (p : Option Attempt). (option_map_or (attempt_ended_as e s) p s).attempts) got ∙ ap (changed (with_end e) a.place) (counted_rows s a e (call_of a s))

pub reset_rows : (o : OpenEntry) (row number : ℕ) (s : Seen) (a : Attempt) → numbered s.attempts row ≡ Some a
    → (after_in o (action.StreamReset row number) s).attempts ≡ changed with_reset_queued a.place s.attempts
reset_rows o row number s a got = ap (λ (p : Option Attempt). (option_map_or (stream_reset_of number s) p s).attempts) got

pub reset_none : (o : OpenEntry) (row number : ℕ) (s : Seen) → numbered s.attempts row ≡ None → (after_in o (action.StreamReset row number) s).attempts ≡ s.attempts
reset_none o row number s got = ap (λ (p : Option Attempt). (option_map_or (stream_reset_of number s) p s).attempts) got

pub made_rows : (o : OpenEntry) (call number : ℕ) (k : RowKind) (due : ℕ) (s : Seen)
    → (after_in o (action.AttemptMade call number k due) s).attempts
    ≡ s.attempts ++ record { place = length s.attempts + 1; row = new_row call number k due; made = entry s; reset = false } ∷ []
made_rows o call number k due s = turned_rows (is_transparent k) (marked (mark.Made (length s.attempts + 1)) call (with_row (new_row call number k due) s))

-- the first one that waits gets a stream, or nothing changes
pub record OpensOne (l : Link) (s : Seen) (rows : List Attempt) : Type 0 where
  pub waits : Attempt
  pub first : slice_get (waiting_on l s) 0 ≡ Some waits
  pub number : ℕ
  pub is : rows ≡ changed (with_stream number) waits.place s.attempts

stream_opens : (f : FrameSeen) (l : Link) (s : Seen) (o : Option Attempt) → slice_get (waiting_on l s) 0 ≡ o
    → ((option_map_or (λ (a : Attempt). with_attempt (with_stream f.stream) a.place s) o s).attempts ≡ s.attempts)
    ⊎ OpensOne l s (option_map_or (λ (a : Attempt). with_attempt (with_stream f.stream) a.place s) o s).attempts
stream_opens f l s None got = inl refl
stream_opens f l s (Some a) got = inr (record { waits = a; first = got; number = f.stream; is = refl })

opens_if : (b : Bool) (f : FrameSeen) (l : Link) (s : Seen)
    → ((if b then stream_opened f l s else s).attempts ≡ s.attempts) ⊎ OpensOne l s (if b then stream_opened f l s else s).attempts
opens_if true f l s = stream_opens f l s (slice_get (waiting_on l s) 0) refl
opens_if false f l s = inl refl

pub opened_rows : (x : Sent) (l : Link) (s : Seen) → ((stream_opened_by x l s).attempts ≡ s.attempts) ⊎ OpensOne l s (stream_opened_by x l s).attempts
opened_rows sent.Preface l s = inl refl
opened_rows (sent.Frame f) l s = opens_if (f.kind == headers_type) f l s
