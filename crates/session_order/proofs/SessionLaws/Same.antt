-- What most actions leave as it is: what calls were asked and got, which attempts were made, and the configs.
use Rattle.session_actions.specs.declared.link.ReadFrame.{ReadFrame}
use Rattle.session_actions.specs.declared.config.ThrottleRun.{ThrottleRun}
use Rattle.session_actions.specs.declared.config.HeldConfig.{HeldConfig}
use Rattle.session_actions.specs.declared.call.MarkKind.{MarkKind}
use Rattle.session_actions.specs.Making.{hedge_withheld, new_row, with_row, without_turn_unless}
use Rattle.session_actions.specs.Links.{link_number, link_over, owed, stream_number, wants_resolution, with_link}
use Rattle.session_actions.specs.Commitments.{with_commitment}
use Rattle.session_actions.specs.Calls.{marked, with_call}
use Rattle.h2_frame.specs.Sent.{rst_stream_frame}
use Rattle.h2_frame.specs.Numbers.{headers_type}
use Rattle.h2_frame.specs.Frames.{FrameSeen}
use Rattle.attempt_ledger.specs.Numbering.{is_transparent}
use Rattle.attempt_ledger.specs.Ends.{is_cut}
use Rattle.std.specs.Option.{option_map, option_map_or, option_and_then}
use Rattle.attempt_ledger.specs.declared.row.RowEnd.{RowEnd}
use Rattle.grpc_base.specs.declared.address.Address.{Address}
use Rattle.grpc_base.specs.declared.event.Event.{Event}
use Rattle.session_actions.specs.Actions.{after_if, after_in}
use Rattle.session_actions.specs.AttemptEnds.{attempt_ended_as, stream_reset_of, with_end, with_end_in_run, with_reset_queued}
use Rattle.session_actions.specs.Attempts.{call_of, is_to_follow, with_attempt}
use Rattle.session_actions.specs.Closing.{entry_made}
use Rattle.session_actions.specs.Configs.{config_of_call, resolution_failed}
use Rattle.session_actions.specs.Deliveries.{with_message, is_end, item_taken, message_accepted, request_finished}
use Rattle.session_actions.specs.Entries.{entry, now, opened, replied, settling}
use Rattle.session_actions.specs.Policies.{addresses_in, current_policy, given_addresses, policy_retired, activated_in, pick_requested, retired_in, with_placing, with_policy}
use Rattle.session_actions.specs.Subchannels.{dial_taken_of, link_timed_out, noted_by_policies, with_sub, dial_failed, gone_down, in_state, link_up, new_link, with_dial, without_link}
use Rattle.session_actions.specs.Words.{changed, numbered}
use Rattle.session_actions.specs.Writing.{frame_read_on, frame_written_on, stream_opened, stream_opened_by, waiting_on, with_piece, with_stream, owed_for, ping_of, with_frame_read, with_written_bytes}
use Rattle.session_actions.specs.declared.action.Action.{Action}
use Rattle.session_actions.specs.declared.attempt.Attempt.{Attempt}
use Rattle.session_actions.specs.declared.call.Call.{Call}
use Rattle.session_actions.specs.declared.entry.OpenEntry.{OpenEntry}
use Rattle.session_actions.specs.declared.link.Link.{Link}
use Rattle.session_actions.specs.declared.link.Sent.{Sent}
use Rattle.session_actions.specs.declared.policy.PolicyUse.{PolicyUse}
use Rattle.session_actions.specs.declared.seen.Seen.{Seen}
use Rattle.session_actions.specs.declared.subchannel.Subchannel.{Subchannel}
use Rattle.session_actions.specs.declared.action.Action.TheVariants as action
use Rattle.grpc_base.specs.declared.event.Event.TheVariants as event
use Rattle.session_actions.specs.declared.link.Sent.TheVariants as sent
use Rattle.grpc_base.specs.declared.event.Conn.TheVariants as conn
use Rattle.session_actions.specs.declared.call.MarkKind.TheVariants as mark
use Rattle.session_actions.specs.declared.link.LinkOver.TheVariants as over
use Rattle.grpc_base.specs.declared.event.Reply.TheVariants as reply
use Rattle.session_actions.specs.declared.link.Traffic.TheVariants as traffic
use Rattle.std.proofs.Common.{◌≡◌, ◌+◌, ◌∷◌, ◌++◌, ◌==◌, ap, refl, ◌∙◌, Bool, true, false, List, [], Option, None, Some, ℕ, if◌then◌else◌, length, map, slice_get, not, ◌&&◌, is_some}
use Rattle.std.specs.List.{list_any}
use Rattle.attempt_ledger.specs.declared.row.RowKind.{RowKind}
use Rattle.grpc_base.specs.Requests.{RequestSeen}
use Rattle.session_actions.specs.Policies.{policy_begun}
use Rattle.session_actions.specs.Subchannels.{sub_added}
use Rattle.session_actions.specs.declared.call.Mark.{Mark}
use Rattle.session_order.proofs.Changed.{lookup}
use Rattle.session_order.proofs.SessionLaws.Lists.{any_unmarked, map_changed}
use Rattle.session_actions.specs.Making.{attempt_made}

abbrev pub is_configuration : MarkKind → Bool
is_configuration mark.Configured = true
is_configuration _ = false

-- what is looked at of a call: its request, its config, and whether a mark says that it got one; of an attempt, its call, number and kind
abbrev pub is_configured_by : Mark → Bool
is_configured_by m = is_configuration m.what

abbrev pub CallKey : Type 0
CallKey = RequestSeen × (Option ℕ × Bool)

abbrev pub call_key : Call → CallKey
call_key c = (c.request, (c.config, list_any is_configured_by c.marks))

abbrev pub RowKey : Type 0
RowKey = ℕ × (ℕ × RowKind)

abbrev pub row_key : Attempt → RowKey
row_key a = (a.row.call, (a.row.number, a.row.kind))

pub record Same (s t : Seen) : Type 0 where
  pub calls : (k : ℕ) → option_map call_key (numbered t.calls k) ≡ option_map call_key (numbered s.calls k)
  pub rows : map row_key t.attempts ≡ map row_key s.attempts
  pub configs : t.configs ≡ s.configs

pub same_self : (s : Seen) → Same s s
same_self s = record { calls = λ k. refl; rows = refl; configs = refl }

-- the actions after which it is so
abbrev pub is_quiet : Action → Bool
is_quiet action.CallBegins = false
is_quiet (action.ConfigRead config) = false
is_quiet (action.CallConfigured call config) = false
is_quiet (action.AttemptMade call number k due) = false
is_quiet _ = true

beside : {base : Seen} (s t : Seen) → t.calls ≡ s.calls → t.attempts ≡ s.attempts → t.configs ≡ s.configs → Same base s → Same base t
beside s t a b c h = record {
  calls = λ k. ap (λ (cs : List Call). option_map call_key (numbered cs k)) a ∙ h.calls k;
  rows = ap (map row_key) b ∙ h.rows;
  configs = c ∙ h.configs;
}

entry_now : {base : Seen} (s : Seen) (c : Option OpenEntry) → Same base s → Same base (record s { current = c })
entry_now s c h = beside s (record s { current = c }) refl refl refl h

call_now : {base : Seen} (s : Seen) (f : Call → Call) → ((c : Call) → call_key (f c) ≡ call_key c) → (n : ℕ) → Same base s
    → Same base (record s { calls = changed f n s.calls })
call_now s f same n h = record {
  calls = λ k. lookup (option_map call_key) f (λ c. ap (λ (x : CallKey). Some x) (same c)) n s.calls k ∙ h.calls k;
  rows = h.rows;
  configs = h.configs;
}

attempt_now : {base : Seen} (s : Seen) (f : Attempt → Attempt) → ((a : Attempt) → row_key (f a) ≡ row_key a) → (n : ℕ) → Same base s
    → Same base (record s { attempts = changed f n s.attempts })
attempt_now s f same n h = record { calls = h.calls; rows = map_changed row_key f same n s.attempts ∙ h.rows; configs = h.configs }

policy_now : {base : Seen} (s : Seen) (f : PolicyUse → PolicyUse) (n : ℕ) → Same base s → Same base (record s { policies = changed f n s.policies })
policy_now s f n h = beside s (record s { policies = changed f n s.policies }) refl refl refl h

link_now : {base : Seen} (s : Seen) (f : Link → Link) (n : ℕ) → Same base s → Same base (record s { links = changed f n s.links })
link_now s f n h = beside s (record s { links = changed f n s.links }) refl refl refl h

noted_if : {base : Seen} (u : Seen) (o : Option Subchannel) → Same base u → Same base (option_map_or (λ (b : Subchannel). noted_by_policies b u) o u)
noted_if u None h = h
noted_if u (Some b) h = beside u (noted_by_policies b u) refl refl refl h

sub_now : {base : Seen} (s : Seen) (f : Subchannel → Subchannel) (n : ℕ) → Same base s → Same base (with_sub f n s)
sub_now s f n h =
    noted_if (record s { subs = changed f n s.subs }) (numbered (changed f n s.subs) n)
    (beside s (record s { subs = changed f n s.subs }) refl refl refl h)

-- a mark that is not of a config
marked_key : (what : MarkKind) (moment : ℕ) → is_configuration what ≡ false → (c : Call)
    → call_key (record c { marks = c.marks ++ record { what = what; moment = moment } ∷ [] }) ≡ call_key c
marked_key what moment plain c =
    ap (λ (b : Bool). (c.request, (c.config, b))) (any_unmarked is_configured_by c.marks (record { what = what; moment = moment }) plain)

pub marked_now : {base : Seen} (s : Seen) (what : MarkKind) → is_configuration what ≡ false → (n : ℕ) → Same base s → Same base (marked what n s)
marked_now s what plain n h =
    call_now s (λ (c : Call). record c { marks = c.marks ++ record { what = what; moment = now s } ∷ [] }) (marked_key what (now s) plain) n h

committed_by : {base : Seen} (s : Seen) (what : MarkKind) → is_configuration what ≡ false → (o : Option Attempt) → Same base s
    → Same base (option_map_or (λ (a : Attempt). marked what a.row.call s) o s)
committed_by s what plain None h = h
committed_by s what plain (Some a) h = marked_now s what plain a.row.call h

message_key : (e : Event) (c : Call) → call_key (with_message e c) ≡ call_key c
message_key (event.Send call message) c = refl
message_key e c = refl

made_now : {base : Seen} (keeps : Bool) (s : Seen) → Same base s → Same base (without_turn_unless keeps s)
made_now true s h = h
made_now false s h = entry_now s (option_map (λ (o : OpenEntry). record o { turn = None }) s.current) h

-- an attempt that is made is the last one, and else all is as before
pub made_keeps : (call number : ℕ) (k : RowKind) (due : ℕ) (s : Seen) → Same (with_row (new_row call number k due) s) (attempt_made call number k due s)
made_keeps call number k due s =
    let u : Seen = with_row (new_row call number k due) s in
    made_now (is_transparent k) (marked (mark.Made (length s.attempts + 1)) call u)
    (marked_now u (mark.Made (length s.attempts + 1)) refl call (same_self u))

run_now_by : {base : Seen} (s : Seen) (a : Attempt) (b : Bool) (run : Option ℕ) → Same base s
    → Same base (if b then option_map_or (λ (k : ℕ). record s { runs = changed (λ (u : ThrottleRun). record u { ends = u.ends ++ a.place ∷ [] }) k s.runs }) run s else s)
run_now_by s a true None h = h
run_now_by s a true (Some k) h =
    beside s (record s { runs = changed (λ (u : ThrottleRun). record u { ends = u.ends ++ a.place ∷ [] }) k s.runs }) refl refl refl h
run_now_by s a false run h = h

run_now : {base : Seen} (s : Seen) (a : Attempt) (e : RowEnd) (c : Option Call) → Same base s → Same base (option_map_or (with_end_in_run a e s) c s)
run_now s a e None h = h
run_now s a e (Some c) h =
    run_now_by s a (not (is_cut e.cause) && not (is_to_follow c e.cause e.unseen s)) (option_and_then (λ (x : HeldConfig). x.run) (config_of_call c s)) h

ended_now : {base : Seen} (s : Seen) (e : RowEnd) (o : Option Attempt) → Same base s → Same base (option_map_or (attempt_ended_as e s) o s)
ended_now s e None h = h
ended_now s e (Some a) h =
    let u : Seen = option_map_or (with_end_in_run a e s) (call_of a s) s in
    let v : Seen = record u { attempts = changed (with_end e) a.place u.attempts } in
    let w : Seen = marked (mark.Ended a.place) a.row.call v in
    entry_now w (option_map (λ (x : OpenEntry). record x { drawn = x.drawn + (if is_some e.word then 1 else 0) }) w.current)
    (marked_now v (mark.Ended a.place) refl a.row.call (attempt_now u (with_end e) (λ x. refl) a.place (run_now s a e (call_of a s) h)))

reset_now : {base : Seen} (s : Seen) (number : ℕ) (o : Option Attempt) → Same base s → Same base (option_map_or (stream_reset_of number s) o s)
reset_now s number None h = h
reset_now s number (Some a) h =
    link_now (with_attempt with_reset_queued a.place s) (λ (l : Link). record l { owed = l.owed ++ rst_stream_frame (stream_number a) number ∷ [] })
    (link_number a) (attempt_now s with_reset_queued (λ x. refl) a.place h)

given_now : {base : Seen} (s : Seen) (g : ℕ) (o : Option (List Address)) → Same base s
    → Same base (option_map_or (λ (x : List Address). with_policy (given_addresses x s) g s) o s)
given_now s g None h = h
given_now s g (Some x) h = policy_now s (given_addresses x s) g h

retired_now : {base : Seen} (s : Seen) (g : ℕ) → Same base s → Same base (policy_retired g s)
retired_now s g h = policy_now s (retired_in (entry s)) g h

over_now : {base : Seen} (s : Seen) (o : Option PolicyUse) → Same base s → Same base (option_map_or (λ (g : PolicyUse). policy_retired g.number s) o s)
over_now s None h = h
over_now s (Some g) h = retired_now s g.number h

dialled_now : {base : Seen} (again until : ℕ) (s : Seen) (o : Option Subchannel) → Same base s → Same base (option_map_or (dial_taken_of again until s) o s)
dialled_now again until s None h = h
dialled_now {base = base} again until s (Some b) h =
    let u : Seen = with_sub (with_dial again until) b.number s in
    let p : Same base u = sub_now s (with_dial again until) b.number h in
    beside u (dial_taken_of again until s b) refl refl refl p

timed_out_by : {base : Seen} (s : Seen) (o : Option ℕ) → Same base s → Same base (option_map_or (λ (link : ℕ). link_over over.TimedOut link s) o s)
timed_out_by s None h = h
timed_out_by s (Some link) h = link_now s (λ (l : Link). record l { over = Some over.TimedOut }) link h

timed_out_now : {base : Seen} (s : Seen) (o : Option Subchannel) → Same base s → Same base (option_map_or (λ (b : Subchannel). link_timed_out b s) o s)
timed_out_now s None h = h
timed_out_now s (Some b) h = timed_out_by s b.link h

frame_read_now : {base : Seen} (r : ReadFrame) (s : Seen) (o : Option Link) → Same base s → Same base (option_map_or (frame_read_on r s) o s)
frame_read_now r s None h = h
frame_read_now r s (Some l) h = link_now s (with_frame_read r (owed_for r.frame l s)) l.number h

stream_now : {base : Seen} (f : FrameSeen) (s : Seen) (o : Option Attempt) → Same base s
    → Same base (option_map_or (λ (a : Attempt). with_attempt (with_stream f.stream) a.place s) o s)
stream_now f s None h = h
stream_now f s (Some a) h = attempt_now s (with_stream f.stream) (λ x. refl) a.place h

opened_if : {base : Seen} (b : Bool) (f : FrameSeen) (l : Link) (s : Seen) → Same base s → Same base (if b then stream_opened f l s else s)
opened_if true f l s h = stream_now f s (slice_get (waiting_on l s) 0) h
opened_if false f l s h = h

opened_now : {base : Seen} (x : Sent) (l : Link) (s : Seen) → Same base s → Same base (stream_opened_by x l s)
opened_now sent.Preface l s h = h
opened_now (sent.Frame f) l s h = opened_if (f.kind == headers_type) f l s h

written_now : {base : Seen} (x : Sent) (s : Seen) (o : Option Link) → Same base s → Same base (option_map_or (frame_written_on x s) o s)
written_now x s None h = h
written_now x s (Some l) h =
    let u : Seen = stream_opened_by x l s in
    let v : Seen = record u { links = changed (λ (k : Link). record k { traffic = k.traffic ++ traffic.Written x ∷ [] }) l.number u.links } in
    entry_now v (option_map (with_written_bytes x) v.current)
    (link_now u (λ (k : Link). record k { traffic = k.traffic ++ traffic.Written x ∷ [] }) l.number (opened_now x l s h))

-- each action
same_in : {base : Seen} (o : OpenEntry) (a : Action) (s : Seen) → Same base s → is_quiet a ≡ true → Same base (after_in o a s)
same_in o (action.EntryOpens posted word e) s h quiet = h
same_in o (action.EventRefused why) s h quiet = beside s (replied (reply.Refused why) s) refl refl refl h
same_in o (action.EventAnswered r) s h quiet = beside s (replied r s) refl refl refl h
same_in o action.SettlingBegins s h quiet = beside s (settling s) refl refl refl h
same_in o action.EntryCloses s h quiet = beside s (entry_made o s) refl refl refl h
same_in o action.CallBegins s h quiet = absurd (cc)
same_in o (action.MessageAccepted call) s h quiet =
    entry_now (with_call (with_message o.event) call s) (message_accepted call o.event s).current (call_now s (with_message o.event) (message_key o.event) call h)
same_in o (action.RequestFinished call) s h quiet =
    entry_now (with_call (λ (c : Call). record c { finished = true }) call s) (request_finished call s).current
    (call_now s (λ (c : Call). record c { finished = true }) (λ c. refl) call h)
same_in o (action.ItemTaken call item) s h quiet =
    entry_now (with_call (λ (c : Call). record c { taken = c.taken + 1; end_taken = is_end item }) call s) (item_taken call item s).current
    (call_now s (λ (c : Call). record c { taken = c.taken + 1; end_taken = is_end item }) (λ c. refl) call h)
same_in o (action.CallEnds call why) s h quiet =
    call_now (marked mark.Closed call s) (λ (c : Call). record c { end = Some (record { entry = entry s; moment = now s; cause = why }) }) (λ c. refl) call
    (marked_now s mark.Closed refl call h)
same_in o (action.ConfigRead config) s h quiet = absurd (cc)
same_in o action.ResolutionFailed s h quiet = beside s (resolution_failed s) refl refl refl h
same_in o (action.CallConfigured call config) s h quiet = absurd (cc)
same_in o (action.AttemptMade call number k due) s h quiet = absurd (cc)
same_in o (action.HedgeWithheld call) s h quiet =
    entry_now (marked mark.Withheld call s) (hedge_withheld call s).current (marked_now s mark.Withheld refl call h)
same_in o (action.PickRequested row generation answer) s h quiet = beside s (pick_requested row generation answer s) refl refl refl h
same_in o (action.AttemptPlaced row at) s h quiet =
    let u : Seen = with_attempt (with_placing at) row s in
    committed_by u (mark.Placed row) refl (numbered u.attempts row) (attempt_now s (with_placing at) (λ x. refl) row h)
same_in o (action.AttemptEnds row end) s h quiet = ended_now s end (numbered s.attempts row) h
same_in o (action.CallCommitted row why) s h quiet =
    let u : Seen = with_attempt (with_commitment (entry s)) row s in
    committed_by u mark.Committed refl (numbered u.attempts row) (attempt_now s (with_commitment (entry s)) (λ x. refl) row h)
same_in o (action.StreamReset row number) s h quiet = reset_now s number (numbered s.attempts row) h
same_in o (action.PolicyBegins k) s h quiet = beside s (policy_begun k s) refl refl refl h
same_in o (action.AddressesGiven generation) s h quiet = given_now s generation (addresses_in o.event) h
same_in o (action.PolicyTakesOver generation) s h quiet =
    policy_now (option_map_or (λ (g : PolicyUse). policy_retired g.number s) (current_policy s) s) (activated_in (entry s)) generation
    (over_now s (current_policy s) h)
same_in o (action.PolicyRetired generation) s h quiet = retired_now s generation h
same_in o (action.SubchannelAdded address) s h quiet = beside s (sub_added address s) refl refl refl h
same_in o (action.SubchannelShut sub) s h quiet = sub_now s (without_link conn.Shutdown) sub h
same_in o (action.SubchannelConnects sub) s h quiet = sub_now s (in_state conn.Connecting) sub h
same_in o (action.DialTaken sub again until) s h quiet = dialled_now again until s (numbered s.subs sub) h
same_in o (action.DialFails sub) s h quiet =
    let u : Seen = with_sub (without_link conn.Failure) sub (wants_resolution s) in
    entry_now u (dial_failed sub s).current
    (sub_now (wants_resolution s) (without_link conn.Failure) sub (beside s (wants_resolution s) refl refl refl h))
same_in o (action.ConnectTimesOut sub) s h quiet =
    let u : Seen = option_map_or (λ (b : Subchannel). link_timed_out b s) (numbered s.subs sub) s in
    sub_now (wants_resolution u) (without_link conn.Failure) sub
    (beside u (wants_resolution u) refl refl refl (timed_out_now s (numbered s.subs sub) h))
same_in o (action.BackoffEnds sub) s h quiet = sub_now s (in_state conn.Idle) sub h
same_in o (action.LinkUp sub) s h quiet =
    let n : ℕ = length s.links + 1 in
    let u : Seen = record s { links = s.links ++ new_link n sub s ∷ [] } in
    entry_now (with_sub (λ (b : Subchannel). record b { link = Some n }) sub u) (link_up sub s).current
    (sub_now u (λ (b : Subchannel). record b { link = Some n }) sub (beside s u refl refl refl h))
same_in o (action.SettingsArrive sub) s h quiet = sub_now s (λ (b : Subchannel). record b { state = conn.Ready; dials = 0; until = None }) sub h
same_in o (action.LinkDown sub) s h quiet = sub_now s gone_down sub h
same_in o (action.BytesArrive link) s h quiet =
    entry_now (with_link (with_piece o.event) link s) (replied reply.Done (with_link (with_piece o.event) link s)).current
    (link_now s (with_piece o.event) link h)
same_in o (action.FrameRead link r) s h quiet = frame_read_now r s (numbered s.links link) h
same_in o (action.LinkBreaks link number) s h quiet =
    let u : Seen = link_over over.Broken link s in
    beside u (wants_resolution u) refl refl refl (link_now s (λ (l : Link). record l { over = Some over.Broken }) link h)
same_in o (action.LinkLost link) s h quiet =
    let u : Seen = link_over over.Lost link s in
    beside u (replied reply.Done (wants_resolution u)) refl refl refl
    (link_now s (λ (l : Link). record l { over = Some over.Lost }) link h)
same_in o (action.PingQueued link) s h quiet =
    entry_now (owed (ping_of o.event) link s) (replied reply.Done (owed (ping_of o.event) link s)).current
    (link_now s (λ (l : Link). record l { owed = l.owed ++ ping_of o.event }) link h)
same_in o (action.FrameWritten link x) s h quiet = written_now x s (numbered s.links link) h
same_in o action.ChannelShuts s h quiet = beside s (replied reply.Done (record s { shut = true })) refl refl refl h

pub same_if : {base : Seen} (o : Option OpenEntry) (a : Action) (s : Seen) → Same base s → is_quiet a ≡ true → Same base (after_if o a s)
same_if (Some o) a s h quiet = same_in o a s h quiet
same_if None (action.EntryOpens posted word e) s h quiet = beside s (opened posted word e s) refl refl refl h
same_if None a s h quiet = h
