-- So it is after each of the 41 actions, where its line says of it what it does (`FitsEarly`).
use Rattle.attempt_ledger.specs.Ends.{is_cut}
use Rattle.attempt_ledger.specs.Numbering.{is_transparent}
use Rattle.attempt_ledger.specs.declared.row.Placed.{Placed}
use Rattle.attempt_ledger.specs.declared.row.RowEnd.{RowEnd}
use Rattle.grpc_base.specs.declared.address.Address.{Address}
use Rattle.grpc_base.specs.declared.event.ConfigFault.{ConfigFault}
use Rattle.grpc_base.specs.declared.event.Conn.TheVariants as conn
use Rattle.grpc_base.specs.declared.event.Conn.{Conn}
use Rattle.grpc_base.specs.declared.event.Event.TheVariants as event
use Rattle.grpc_base.specs.declared.event.Event.{Event}
use Rattle.grpc_base.specs.declared.event.Reply.TheVariants as reply
use Rattle.grpc_base.specs.declared.plan.Throttle.{Throttle}
use Rattle.h2_frame.specs.Frames.{FrameSeen}
use Rattle.h2_frame.specs.Numbers.{headers_type}
use Rattle.h2_frame.specs.Sent.{rst_stream_frame}
use Rattle.channel_actions.proofs.Calls.Kept.Fits.{FitsEarly}
use Rattle.channel_actions.proofs.Calls.Kept.Parts.{Early, attempt_now, attempts_more, beside, call_now, calls_now, is_sound_call, link_now, links_mapped, links_more, marked_now, marked_past, past_more, read_at, row_marked, sub_now, subs_more}
use Rattle.channel_actions.specs.KeptCalls.Early.{is_linked_up, is_past}
use Rattle.channel_actions.proofs.KeptSessions.Lists.{all_at, all_more, last_more}
use Rattle.lb_policy.specs.Table.{is_ready}
use Rattle.call_actions.proofs.ReadsInOrder.Order.{links_of_run}
use Rattle.call_actions.specs.ReadsInOrder.Laws.{ReadsOn}
use Rattle.service_config.specs.declared.config.Config.{Config}
use Rattle.session_actions.specs.Actions.{after, after_if, after_in}
use Rattle.session_actions.specs.AttemptEnds.{attempt_ended_as, stream_reset_of, with_end, with_end_in_run, with_reset_queued}
use Rattle.session_actions.specs.Attempts.{call_of, is_to_follow, with_attempt}
use Rattle.session_actions.specs.Calls.{marked, with_call}
use Rattle.session_actions.specs.Closing.{entry_made, noted_gone}
use Rattle.session_actions.specs.Commitments.{with_commitment}
use Rattle.session_actions.specs.Configs.{config_of_call, config_read, resolution_failed, resolver_answered, run_to_join, with_config, with_held, with_run, with_throttled}
use Rattle.session_actions.specs.Deliveries.{begun_call, call_begun_by, is_end, item_taken, message_accepted, request_finished, with_message}
use Rattle.session_actions.specs.Entries.{entry, now, opened, replied, settling}
use Rattle.session_actions.specs.Links.{link_number, link_of, link_over, owed, read_bytes, read_in, stream_number, wants_resolution, with_link}
use Rattle.session_actions.specs.Making.{new_row, with_row, without_turn_unless}
use Rattle.session_actions.specs.Policies.{addresses_in, current_policy, given_addresses, is_failure, pick_requested, policy_begun, policy_retired, policy_took_over, with_placing, with_policy}
use Rattle.session_actions.specs.Refusals.{is_gone}
use Rattle.session_actions.specs.Subchannels.{dial_failed, dial_taken_of, gone_down, in_state, is_connecting, link_timed_out, link_up, new_link, new_sub, noted_by_policies, with_dial, with_sub, without_link}
use Rattle.session_actions.specs.Words.{changed, holds, last_of, numbered}
use Rattle.session_actions.specs.Writing.{frame_read_on, frame_written_on, link_broken, link_lost, owed_for, ping_of, stream_opened, stream_opened_by, waiting_on, with_frame_read, with_piece, with_stream}
use Rattle.session_actions.specs.declared.action.Action.TheVariants as action
use Rattle.session_actions.specs.declared.action.Action.{Action}
use Rattle.session_actions.specs.declared.attempt.Attempt.{Attempt}
use Rattle.session_actions.specs.declared.call.Call.{Call}
use Rattle.session_actions.specs.declared.call.MarkKind.TheVariants as mark
use Rattle.session_actions.specs.declared.config.HeldConfig.{HeldConfig}
use Rattle.session_actions.specs.declared.config.ThrottleRun.{ThrottleRun}
use Rattle.session_actions.specs.declared.entry.OpenEntry.{OpenEntry}
use Rattle.session_actions.specs.declared.link.Link.{Link}
use Rattle.session_actions.specs.declared.link.LinkOver.TheVariants as over
use Rattle.session_actions.specs.declared.link.LinkOver.{LinkOver}
use Rattle.session_actions.specs.declared.link.ReadFrame.{ReadFrame}
use Rattle.session_actions.specs.declared.link.Sent.TheVariants as sent
use Rattle.session_actions.specs.declared.link.Sent.{Sent}
use Rattle.session_actions.specs.declared.link.Traffic.TheVariants as traffic
use Rattle.session_actions.specs.declared.link.Traffic.{Traffic}
use Rattle.session_actions.specs.declared.policy.PolicyUse.{PolicyUse}
use Rattle.session_actions.specs.declared.seen.Seen.{Seen}
use Rattle.session_actions.specs.declared.subchannel.Subchannel.{Subchannel}
use Rattle.std.proofs.Common.{Bool, Err, List, None, Ok, Option, Result, Some, [], ap, arith, false, filter_map, if◌then◌else◌, is_none, is_some, length, map, nat_le, not, option_and_then, refl, slice_get, subst, sym, true, ℕ, ◌&&◌, ◌++◌, ◌+◌, ◌==◌, ◌||◌, ◌∙◌, ◌∷◌, ◌≡◌, ◌≤◌}
use Rattle.std.proofs.lemmas.Bool.Decides.{nat_tests}
use Rattle.std.proofs.lemmas.Bool.{or_left, or_right}
use Rattle.std.proofs.lemmas.List.Elements.{filter_map-append}
use Rattle.std.proofs.lemmas.List.{append-nil}
use Rattle.std.specs.Option.{option_map_or}

same_calls : (s t : Seen) → t.calls ≡ s.calls → t.attempts ≡ s.attempts → t.subs ≡ s.subs → t.links ≡ s.links → Early s → Early t
same_calls s t a b c d h = beside s t a b c d h

one_of : {X : Type 0} (o : Option X) (x y : X) → o ≡ Some x → o ≡ Some y → x ≡ y
one_of None x y e f = absurd (cc)
one_of (Some z) x y e f = (cc)

-- how many bytes were read of a link
less_still : (m n k : ℕ) → nat_le k m ≡ true → m ≤ n → nat_le k n ≡ true
less_still m n k e h = grind (arith, nat_tests, e, h)

abbrev bytes_of : List Traffic → ℕ
bytes_of ts = option_map_or (λ (r : ReadFrame). r.end) (last_of (filter_map read_in ts)) 0

bytes_read : (ts : List Traffic) (r : ReadFrame) → bytes_of (ts ++ traffic.Read r ∷ []) ≡ r.end
bytes_read ts r =
    ap (λ (rs : List ReadFrame). option_map_or (λ (q : ReadFrame). q.end) (last_of rs) 0) (filter_map-append read_in ts (traffic.Read r ∷ []))
    ∙ ap (λ (o : Option ReadFrame). option_map_or (λ (q : ReadFrame). q.end) o 0) (last_more (filter_map read_in ts) r)

bytes_written : (ts : List Traffic) (x : Sent) → bytes_of (ts ++ traffic.Written x ∷ []) ≡ bytes_of ts
bytes_written ts x =
    ap (λ (rs : List ReadFrame). option_map_or (λ (q : ReadFrame). q.end) (last_of rs) 0)
    (filter_map-append read_in ts (traffic.Written x ∷ []) ∙ append-nil (filter_map read_in ts))

piece_read : (e : Event) (l : Link) (m : ℕ) → nat_le m (read_bytes l) ≡ true → nat_le m (read_bytes (with_piece e l)) ≡ true
piece_read (event.Arrived link piece) l m h = h
piece_read _ l m h = h

gone_read : (s : Seen) (b : Bool) (l : Link) → read_bytes (if b then record l { gone = Some (entry s) } else l) ≡ read_bytes l
gone_read s true l = refl
gone_read s false l = refl

over_now : (why : LinkOver) (link : ℕ) (s : Seen) → Early s → Early (link_over why link s)
over_now why link s h = link_now (λ (l : Link). record l { over = Some why }) link s (λ l m at e. e) h

begun_now : (e : Event) (s : Seen) → Early s → Early (call_begun_by e s)
begun_now (event.Begin request) s h =
    let c : Call = begun_call (length s.calls + 1) (entry s) (now s) request in
    let u : Seen = record s { calls = s.calls ++ c ∷ [] } in
    same_calls u (call_begun_by (event.Begin request) s) refl refl refl refl
    (calls_now s (s.calls ++ c ∷ []) (past_more s.calls (c ∷ [])) (all_more is_sound_call s.calls (c ∷ []) h.awaiting_config refl) h)
begun_now _ s h = h

reported : (e : Event) (c : Call) → is_past c ≡ true → is_past (with_message e c) ≡ true
reported (event.Send call message) c h = h
reported _ c h = h

reported_sound : (e : Event) (c : Call) → is_sound_call c ≡ true → is_sound_call (with_message e c) ≡ true
reported_sound (event.Send call message) c h = h
reported_sound _ c h = h

-- configs
throttled_now : (config : Config) (t : Throttle) (run : Option ℕ) (s : Seen) → Early s → Early (with_throttled config t run s)
throttled_now config t (Some run) s h = same_calls s (with_config config (Some run) s) refl refl refl refl h
throttled_now config t None s h = same_calls s (with_config config (Some (length s.runs + 1)) (with_run t s)) refl refl refl refl h

held_now : (config : Config) (t : Option Throttle) (s : Seen) → Early s → Early (with_held config t s)
held_now config None s h = same_calls s (with_config config None s) refl refl refl refl h
held_now config (Some t) s h = throttled_now config t (run_to_join t s) s h

read_now : (x : Result Config ConfigFault) (s : Seen) → Early s → Early (config_read x s)
read_now (Ok config) s h =
    held_now config config.throttle (replied reply.Done (resolver_answered s)) (same_calls s (replied reply.Done (resolver_answered s)) refl refl refl refl h)
read_now (Err fault) s h = same_calls s (replied (reply.BadConfig fault) (resolver_answered s)) refl refl refl refl h

-- attempts
turned_now : (b : Bool) (s : Seen) → Early s → Early (without_turn_unless b s)
turned_now true s h = h
turned_now false s h = same_calls s (without_turn_unless false s) refl refl refl refl h

run_by : (s : Seen) (a : Attempt) (b : Bool) (run : Option ℕ) → Early s
    → Early (if b then option_map_or (λ (k : ℕ). record s { runs = changed (λ (u : ThrottleRun). record u { ends = u.ends ++ a.place ∷ [] }) k s.runs }) run s else s)
run_by s a true None h = h
run_by s a true (Some k) h =
    same_calls s (record s { runs = changed (λ (u : ThrottleRun). record u { ends = u.ends ++ a.place ∷ [] }) k s.runs }) refl refl refl refl h
run_by s a false run h = h

counted_in : (s : Seen) (a : Attempt) (e : RowEnd) (c : Option Call) → Early s → Early (option_map_or (with_end_in_run a e s) c s)
counted_in s a e None h = h
counted_in s a e (Some c) h =
    run_by s a (not (is_cut e.cause) && not (is_to_follow c e.cause e.unseen s)) (option_and_then (λ (x : HeldConfig). x.run) (config_of_call c s)) h

run_calls : (s : Seen) (a : Attempt) (b : Bool) (run : Option ℕ)
    → (if b then option_map_or (λ (k : ℕ). record s { runs = changed (λ (u : ThrottleRun). record u { ends = u.ends ++ a.place ∷ [] }) k s.runs }) run s else s).calls ≡ s.calls
run_calls s a true None = refl
run_calls s a true (Some k) = refl
run_calls s a false run = refl

counted_calls : (s : Seen) (a : Attempt) (e : RowEnd) (c : Option Call) → (option_map_or (with_end_in_run a e s) c s).calls ≡ s.calls
counted_calls s a e None = refl
counted_calls s a e (Some c) =
    run_calls s a (not (is_cut e.cause) && not (is_to_follow c e.cause e.unseen s)) (option_and_then (λ (x : HeldConfig). x.run) (config_of_call c s))

run_attempts : (s : Seen) (a : Attempt) (b : Bool) (run : Option ℕ)
    → (if b then option_map_or (λ (k : ℕ). record s { runs = changed (λ (u : ThrottleRun). record u { ends = u.ends ++ a.place ∷ [] }) k s.runs }) run s else s).attempts ≡ s.attempts
run_attempts s a true None = refl
run_attempts s a true (Some k) = refl
run_attempts s a false run = refl

counted_attempts : (s : Seen) (a : Attempt) (e : RowEnd) (c : Option Call) → (option_map_or (with_end_in_run a e s) c s).attempts ≡ s.attempts
counted_attempts s a e None = refl
counted_attempts s a e (Some c) =
    run_attempts s a (not (is_cut e.cause) && not (is_to_follow c e.cause e.unseen s)) (option_and_then (λ (x : HeldConfig). x.run) (config_of_call c s))

ended_now : (e : RowEnd) (row : ℕ) (s : Seen) (o : Option Attempt) → numbered s.attempts row ≡ o
    → ((a q : Attempt) → numbered s.attempts row ≡ Some a → numbered s.attempts a.place ≡ Some q → nat_le e.seen (option_map_or read_bytes (link_of q s) 0) ≡ true) → Early s
    → Early (option_map_or (attempt_ended_as e s) o s)
ended_now e row s None got less h = h
ended_now e row s (Some a) got less h =
    let u : Seen = option_map_or (with_end_in_run a e s) (call_of a s) s in
    let v : Seen = with_attempt (with_end e) a.place u in
    let w : Seen = marked (mark.Ended a.place) a.row.call v in
    let past : holds is_past (numbered u.calls a.row.call) ≡ true
    = ap (λ (cs : List Call). holds is_past (numbered cs a.row.call)) (counted_calls s a e (call_of a s))
    ∙ all_at (λ (q : Attempt). holds is_past (numbered s.calls q.row.call)) s.attempts row a h.made got in
    same_calls w (attempt_ended_as e s a) refl refl refl refl
    (marked_now (mark.Ended a.place) a.row.call v past
    (attempt_now (with_end e) a.place u (λ q. refl) (λ q at ok. refl)
    (λ q at ok.
    ap (λ (ls : List Link). nat_le e.seen (read_at ls q.row.placed)) (links_of_run s a e (call_of a s))
    ∙ less a q got (sym (ap (λ (rows : List Attempt). numbered rows a.place) (counted_attempts s a e (call_of a s))) ∙ at))
    (counted_in s a e (call_of a s) h)))

reset_now : (number row : ℕ) (s : Seen) (o : Option Attempt) → numbered s.attempts row ≡ o
    → ((a q : Attempt) → numbered s.attempts row ≡ Some a → numbered s.attempts a.place ≡ Some q → is_some q.row.ended ≡ true) → Early s
    → Early (option_map_or (stream_reset_of number s) o s)
reset_now number row s None got ended h = h
reset_now number row s (Some a) got ended h =
    let u : Seen = with_attempt with_reset_queued a.place s in
    link_now (λ (l : Link). record l { owed = l.owed ++ rst_stream_frame (stream_number a) number ∷ [] }) (link_number a) u (λ l m at e. e)
    (attempt_now with_reset_queued a.place s (λ q. refl) (λ q at ok. or_left (is_some q.row.ended) (not true) (ended a q got at)) (λ q at ok. ok) h)

stream_now : (f : FrameSeen) (s : Seen) (o : Option Attempt) → Early s → Early (option_map_or (λ (a : Attempt). with_attempt (with_stream f.stream) a.place s) o s)
stream_now f s None h = h
stream_now f s (Some a) h = attempt_now (with_stream f.stream) a.place s (λ q. refl) (λ q at ok. ok) (λ q at ok. ok) h

opened_if : (f : FrameSeen) (l : Link) (s : Seen) (b : Bool) → Early s → Early (if b then stream_opened f l s else s)
opened_if f l s true h = stream_now f s (slice_get (waiting_on l s) 0) h
opened_if f l s false h = h

opened_now : (x : Sent) (l : Link) (s : Seen) → Early s → Early (stream_opened_by x l s)
opened_now sent.Preface l s h = h
opened_now (sent.Frame f) l s h = opened_if f l s (f.kind == headers_type) h

written_now : (x : Sent) (s : Seen) (o : Option Link) → Early s → Early (option_map_or (frame_written_on x s) o s)
written_now x s None h = h
written_now x s (Some l) h =
    let u : Seen = stream_opened_by x l s in
    let f : Link → Link = λ (k : Link). record k { traffic = k.traffic ++ traffic.Written x ∷ [] } in
    let v : Seen = record u { links = changed f l.number u.links } in
    same_calls v (frame_written_on x s l) refl refl refl refl (link_now f l.number u (λ k m at e. ap (nat_le m) (bytes_written k.traffic x) ∙ e) (opened_now x l s h))

frame_now : (r : ReadFrame) (link : ℕ) (s : Seen) (o : Option Link) → numbered s.links link ≡ o
    → ((l : Link) → numbered s.links link ≡ Some l → (l.number ≡ link) × (read_bytes l ≤ r.end)) → Early s → Early (option_map_or (frame_read_on r s) o s)
frame_now r link s None got on h = h
frame_now r link s (Some l) got on h =
    let both : (l.number ≡ link) × (read_bytes l ≤ r.end) = on l got in
    link_now (with_frame_read r (owed_for r.frame l s)) l.number s
    (λ k m at e.
    (let one : l ≡ k = one_of (numbered s.links l.number) l k (ap (numbered s.links) both.0 ∙ got) at in
    let less : read_bytes k ≤ r.end = subst (λ (z : Link). read_bytes z ≤ r.end) one both.1 in
    ap (nat_le m) (bytes_read k.traffic r) ∙ less_still (read_bytes k) r.end m e less)) h

-- subchannels
noted_now : (s : Seen) (o : Option Subchannel) → Early s → Early (option_map_or (λ (b : Subchannel). noted_by_policies b s) o s)
noted_now s None h = h
noted_now s (Some b) h = same_calls s (noted_by_policies b s) refl refl refl refl h

board_now : (f : Subchannel → Subchannel) (n : ℕ) (s : Seen) → ((b : Subchannel) → numbered s.subs n ≡ Some b → is_linked_up b ≡ true → is_linked_up (f b) ≡ true)
    → Early s → Early (with_sub f n s)
board_now f n s sound h = noted_now (record s { subs = changed f n s.subs }) (numbered (changed f n s.subs) n) (sub_now f n s sound h)

unlinked_now : (c : Conn) (n : ℕ) (s : Seen) → Early s → Early (with_sub (without_link c) n s)
unlinked_now c n s h = board_now (without_link c) n s (λ b got ok. refl) h

or_three : (a c : Bool) → (a || true || c) ≡ true
or_three true c = refl
or_three false c = refl

or_last : (a : Bool) → (a || false || true) ≡ true
or_last true = refl
or_last false = refl

-- one that rests has no link
rested : (a x c : Bool) (state : Conn) → is_failure state ≡ true → (a || is_connecting state || is_ready state) ≡ true → (a || false || false) ≡ true
rested true x c state fails ok = refl
rested false x c conn.Failure fails ok = let no : false ≡ true = ok in absurd (cc)
rested false x c conn.Idle fails ok = let no : false ≡ true = fails in absurd (cc)
rested false x c conn.Connecting fails ok = let no : false ≡ true = fails in absurd (cc)
rested false x c conn.Ready fails ok = let no : false ≡ true = fails in absurd (cc)
rested false x c conn.Shutdown fails ok = let no : false ≡ true = fails in absurd (cc)

dialled_now : (again until : ℕ) (s : Seen) (o : Option Subchannel) → Early s → Early (option_map_or (dial_taken_of again until s) o s)
dialled_now again until s None h = h
dialled_now again until s (Some b) h =
    let u : Seen = with_sub (with_dial again until) b.number s in
    same_calls u (dial_taken_of again until s b) refl refl refl refl (board_now (with_dial again until) b.number s (λ q got ok. ok) h)

late_by : (n : ℕ) (s : Seen) (o : Option ℕ) → Early s
    → Early (with_sub (without_link conn.Failure) n (wants_resolution (option_map_or (λ (link : ℕ). link_over over.TimedOut link s) o s)))
late_by n s None h = unlinked_now conn.Failure n (wants_resolution s) (same_calls s (wants_resolution s) refl refl refl refl h)
late_by n s (Some link) h =
    let u : Seen = link_over over.TimedOut link s in
    unlinked_now conn.Failure n (wants_resolution u) (same_calls u (wants_resolution u) refl refl refl refl (over_now over.TimedOut link s h))

late_now : (n : ℕ) (s : Seen) (o : Option Subchannel) → Early s
    → Early (with_sub (without_link conn.Failure) n (wants_resolution (option_map_or (λ (b : Subchannel). link_timed_out b s) o s)))
late_now n s None h = unlinked_now conn.Failure n (wants_resolution s) (same_calls s (wants_resolution s) refl refl refl refl h)
late_now n s (Some b) h = late_by n s b.link h

up_now : (n : ℕ) (s : Seen) → holds (λ (b : Subchannel). is_connecting b.state) (numbered s.subs n) ≡ true → Early s → Early (link_up n s)
up_now n s connecting h =
    let link : ℕ = length s.links + 1 in
    let u : Seen = record s { links = s.links ++ new_link link n s ∷ [] } in
    let f : Subchannel → Subchannel = λ (b : Subchannel). record b { link = Some link } in
    same_calls (with_sub f n u) (link_up n s) refl refl refl refl
    (board_now f n u
    (λ b got ok.
    or_left (is_connecting b.state) (is_ready b.state) (sym (ap (holds (λ (q : Subchannel). is_connecting q.state)) got) ∙ connecting))
    (links_more (new_link link n s) s h))

given_now : (g : ℕ) (s : Seen) (o : Option (List Address)) → Early s
    → Early (option_map_or (λ (addresses : List Address). with_policy (given_addresses addresses s) g s) o s)
given_now g s None h = h
given_now g s (Some addresses) h = same_calls s (with_policy (given_addresses addresses s) g s) refl refl refl refl h

replaced_now : (s : Seen) (o : Option PolicyUse) → Early s → Early (option_map_or (λ (g : PolicyUse). policy_retired g.number s) o s)
replaced_now s None h = h
replaced_now s (Some g) h = same_calls s (policy_retired g.number s) refl refl refl refl h

unended : (links : List Link) (at : Placed) (o : Option RowEnd) → is_none o ≡ true
    → option_map_or (λ (e : RowEnd). nat_le e.seen (read_at links (Some at))) o true ≡ true
unended links at None e = refl
unended links at (Some end) e = absurd (cc)

module _ (o : OpenEntry) (s : Seen) (h : Early s) where
  abbrev same_as : (t : Seen) → t.calls ≡ s.calls → t.attempts ≡ s.attempts → t.subs ≡ s.subs → t.links ≡ s.links → Early t
  same_as t a b c d = same_calls s t a b c d h

  act : (x : Action) → FitsEarly x s → ReadsOn x s → Early (after_in o x s)
  act (action.EntryOpens posted word e) fits on = h
  act (action.EventRefused why) fits on = same_as (replied (reply.Refused why) s) refl refl refl refl
  act (action.EventAnswered r) fits on = same_as (replied r s) refl refl refl refl
  act action.SettlingBegins fits on = same_as (settling s) refl refl refl refl
  act action.EntryCloses fits on =
      same_calls (record s { links = map (noted_gone s) s.links }) (entry_made o s) refl refl refl refl
      (links_mapped (noted_gone s) s (λ l. gone_read s (is_none l.gone && is_gone l s) l) h)
  act action.CallBegins fits on = begun_now o.event s h
  act (action.MessageAccepted call) fits on =
      same_calls (with_call (with_message o.event) call s) (message_accepted call o.event s) refl refl refl refl
      (call_now (with_message o.event) call s (reported o.event) (λ c got ok. reported_sound o.event c ok) h)
  act (action.RequestFinished call) fits on =
      let f : Call → Call = λ (c : Call). record c { finished = true } in
      same_calls (with_call f call s) (request_finished call s) refl refl refl refl (call_now f call s (λ c e. e) (λ c got ok. ok) h)
  act (action.ItemTaken call item) fits on =
      let f : Call → Call = λ (c : Call). record c { taken = c.taken + 1; end_taken = is_end item } in
      same_calls (with_call f call s) (item_taken call item s) refl refl refl refl (call_now f call s (λ c e. e) (λ c got ok. ok) h)
  act (action.CallEnds call why) fits on =
      marked_past mark.Closed (λ (c : Call). record c { end = Some (record { entry = entry s; moment = now s; cause = why }) }) call s (λ c. refl) h
  act (action.ConfigRead x) fits on = read_now x s h
  act action.ResolutionFailed fits on = same_as (resolution_failed s) refl refl refl refl
  act (action.CallConfigured call config) fits on =
      marked_past mark.Configured (λ (c : Call). record c { config = Some config; configured = Some (entry s) }) call s (λ c. or_right (is_some c.end) true refl) h
  act (action.AttemptMade call number k due) fits on =
      let a : Attempt = record { place = length s.attempts + 1; row = new_row call number k due; made = entry s; reset = false } in
      let u : Seen = with_row (new_row call number k due) s in
      let m : Seen = marked (mark.Made (length s.attempts + 1)) call u in
      turned_now (is_transparent k) m (marked_now (mark.Made (length s.attempts + 1)) call u fits (attempts_more a s refl refl fits h))
  act (action.HedgeWithheld call) fits on = turned_now false (marked mark.Withheld call s) (marked_now mark.Withheld call s fits h)
  act (action.PickRequested row g answer) fits on = same_as (pick_requested row g answer s) refl refl refl refl
  act (action.AttemptPlaced row where_to) fits on =
      let u : Seen = with_attempt (with_placing where_to) row s in
      row_marked (mark.Placed row) row u (numbered u.attempts row) refl
      (attempt_now (with_placing where_to) row s (λ q. refl) (λ q at ok. ok)
      (λ q at ok. unended s.links where_to q.row.ended (sym (ap (holds (λ (z : Attempt). is_none z.row.ended)) at) ∙ fits)) h)
  act (action.AttemptEnds row e) fits on = ended_now e row s (numbered s.attempts row) refl fits h
  act (action.CallCommitted row why) fits on =
      let u : Seen = with_attempt (with_commitment (entry s)) row s in
      row_marked mark.Committed row u (numbered u.attempts row) refl (attempt_now (with_commitment (entry s)) row s (λ q. refl) (λ q at ok. ok) (λ q at ok. ok) h)
  act (action.StreamReset row number) fits on = reset_now number row s (numbered s.attempts row) refl fits h
  act (action.PolicyBegins k) fits on = same_as (policy_begun k s) refl refl refl refl
  act (action.AddressesGiven g) fits on = given_now g s (addresses_in o.event) h
  act (action.PolicyTakesOver g) fits on =
      let u : Seen = option_map_or (λ (p : PolicyUse). policy_retired p.number s) (current_policy s) s in
      same_calls u (policy_took_over g s) refl refl refl refl (replaced_now s (current_policy s) h)
  act (action.PolicyRetired g) fits on = same_as (policy_retired g s) refl refl refl refl
  act (action.SubchannelAdded address) fits on = subs_more (new_sub address (length s.subs + 1)) s refl h
  act (action.SubchannelShut sub) fits on = unlinked_now conn.Shutdown sub s h
  act (action.SubchannelConnects sub) fits on = board_now (in_state conn.Connecting) sub s (λ b got ok. or_three (is_none b.link) false) h
  act (action.DialTaken sub again until) fits on = dialled_now again until s (numbered s.subs sub) h
  act (action.DialFails sub) fits on =
      let u : Seen = with_sub (without_link conn.Failure) sub (wants_resolution s) in
      same_calls u (dial_failed sub s) refl refl refl refl (unlinked_now conn.Failure sub (wants_resolution s) (same_as (wants_resolution s) refl refl refl refl))
  act (action.ConnectTimesOut sub) fits on = late_now sub s (numbered s.subs sub) h
  act (action.BackoffEnds sub) fits on =
      board_now (in_state conn.Idle) sub s
      (λ b got ok. rested (is_none b.link) false false b.state (sym (ap (holds (λ (q : Subchannel). is_failure q.state)) got) ∙ fits) ok) h
  act (action.LinkUp sub) fits on = up_now sub s fits h
  act (action.SettingsArrive sub) fits on =
      board_now (λ (b : Subchannel). record b { state = conn.Ready; dials = 0; until = None }) sub s (λ b got ok. or_last (is_none b.link)) h
  act (action.LinkDown sub) fits on = board_now gone_down sub s (λ b got ok. refl) h
  act (action.BytesArrive link) fits on =
      let u : Seen = with_link (with_piece o.event) link s in
      same_calls u (replied reply.Done u) refl refl refl refl (link_now (with_piece o.event) link s (λ l m at e. piece_read o.event l m e) h)
  act (action.FrameRead link r) fits on = frame_now r link s (numbered s.links link) refl on h
  act (action.LinkBreaks link number) fits on = same_calls (link_over over.Broken link s) (link_broken link s) refl refl refl refl (over_now over.Broken link s h)
  act (action.LinkLost link) fits on = same_calls (link_over over.Lost link s) (link_lost link s) refl refl refl refl (over_now over.Lost link s h)
  act (action.PingQueued link) fits on =
      let u : Seen = owed (ping_of o.event) link s in
      same_calls u (replied reply.Done u) refl refl refl refl (link_now (λ (l : Link). record l { owed = l.owed ++ ping_of o.event }) link s (λ l m at e. e) h)
  act (action.FrameWritten link x) fits on = written_now x s (numbered s.links link) h
  act action.ChannelShuts fits on = same_as (replied reply.Done (record s { shut = true })) refl refl refl refl

act_if : (c : Option OpenEntry) (x : Action) (s : Seen) → FitsEarly x s → ReadsOn x s → Early s → Early (after_if c x s)
act_if (Some o) x s fits on h = act o s h x fits on
act_if None (action.EntryOpens posted word e) s fits on h = same_calls s (opened posted word e s) refl refl refl refl h
act_if None x s fits on h = h

pub early_after : (s : Seen) (x : Action) → FitsEarly x s → ReadsOn x s → Early s → Early (after x s)
early_after s x fits on h = act_if s.current x s fits on h
