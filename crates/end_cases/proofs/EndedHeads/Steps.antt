-- So it is after each action, where its line says of it what it does (`FitsReceived`).
use Rattle.attempt_ledger.specs.Ends.{is_cut}
use Rattle.attempt_ledger.specs.Numbering.{is_transparent}
use Rattle.attempt_ledger.specs.declared.row.RowEnd.{RowEnd}
use Rattle.call_actions.proofs.ReadsInOrder.Order.{links_of_run}
use Rattle.end_cases.proofs.EndedHeads.Parts.{Unreceived, attempt_now, attempts_more, beside, call_now, calls_now, ended_more, heads, is_committed_of, is_ended_call, is_unreceived, link_now, link_same, links_mapped, links_more, marked_now, row_marked, settles}
use Rattle.end_cases.proofs.EndedHeads.Responses.{read_is_later, written_brings_none}
use Rattle.grpc_base.specs.declared.address.Address.{Address}
use Rattle.grpc_base.specs.declared.event.ConfigFault.{ConfigFault}
use Rattle.grpc_base.specs.declared.event.Conn.TheVariants as conn
use Rattle.grpc_base.specs.declared.event.Event.TheVariants as event
use Rattle.grpc_base.specs.declared.event.Event.{Event}
use Rattle.grpc_base.specs.declared.event.Reply.TheVariants as reply
use Rattle.grpc_base.specs.declared.plan.Throttle.{Throttle}
use Rattle.h2_frame.specs.Frames.{FrameSeen}
use Rattle.h2_frame.specs.Numbers.{headers_type}
use Rattle.h2_frame.specs.Sent.{rst_stream_frame}
use Rattle.service_config.specs.declared.config.Config.{Config}
use Rattle.session_actions.specs.Actions.{after, after_if, after_in}
use Rattle.session_actions.specs.AttemptEnds.{attempt_ended_as, stream_reset_of, with_end, with_end_in_run, with_reset_queued}
use Rattle.session_actions.specs.Attempts.{call_of, is_to_follow, with_attempt}
use Rattle.session_actions.specs.Calls.{marked, with_call}
use Rattle.session_actions.specs.Closing.{entry_made, noted_gone}
use Rattle.session_actions.specs.Commitments.{with_commitment}
use Rattle.session_actions.specs.Configs.{config_of_call, config_read, resolution_failed, resolver_answered, run_to_join, with_config, with_held, with_run, with_throttled}
use Rattle.session_actions.specs.Deliveries.{begun_call, call_begun_by, is_end, item_taken, message_accepted, request_finished, with_message}
use Rattle.session_actions.specs.Entries.{entry, now, opened, replied, settling}
use Rattle.session_actions.specs.Links.{link_number, link_over, owed, stream_number, wants_resolution, with_link}
use Rattle.session_actions.specs.Making.{new_row, with_row, without_turn_unless}
use Rattle.session_actions.specs.Policies.{addresses_in, current_policy, given_addresses, pick_requested, policy_begun, policy_retired, policy_took_over, with_placing, with_policy}
use Rattle.session_actions.specs.Refusals.{is_gone}
use Rattle.session_actions.specs.Responses.{is_read_by, response_in}
use Rattle.session_actions.specs.Subchannels.{dial_failed, dial_taken_of, gone_down, in_state, link_timed_out, link_up, new_link, new_sub, noted_by_policies, with_dial, with_sub, without_link}
use Rattle.session_actions.specs.Words.{changed, holds, numbered}
use Rattle.session_actions.specs.Writing.{frame_read_on, frame_written_on, link_broken, link_lost, owed_for, ping_of, stream_opened, stream_opened_by, waiting_on, with_frame_read, with_piece, with_stream}
use Rattle.session_actions.specs.declared.action.Action.TheVariants as action
use Rattle.session_actions.specs.declared.action.Action.{Action}
use Rattle.session_actions.specs.declared.attempt.Attempt.{Attempt}
use Rattle.session_actions.specs.declared.call.Call.{Call}
use Rattle.session_actions.specs.declared.call.MarkKind.TheVariants as mark
use Rattle.session_actions.specs.declared.config.HeldConfig.{HeldConfig}
use Rattle.session_actions.specs.declared.config.ThrottleRun.{ThrottleRun}
use Rattle.session_actions.specs.declared.entry.OpenEntry.{OpenEntry}
use Rattle.session_actions.specs.declared.link.Link.{Link}
use Rattle.session_actions.specs.declared.link.LinkOver.TheVariants as over
use Rattle.session_actions.specs.declared.link.LinkOver.{LinkOver}
use Rattle.session_actions.specs.declared.link.ReadFrame.{ReadFrame}
use Rattle.session_actions.specs.declared.link.Sent.TheVariants as sent
use Rattle.session_actions.specs.declared.link.Sent.{Sent}
use Rattle.session_actions.specs.declared.link.Traffic.TheVariants as traffic
use Rattle.session_actions.specs.declared.link.Traffic.{Traffic}
use Rattle.session_actions.specs.declared.policy.PolicyUse.{PolicyUse}
use Rattle.session_actions.specs.declared.seen.Seen.{Seen}
use Rattle.session_actions.specs.declared.subchannel.Subchannel.{Subchannel}
use Rattle.session_order.specs.Stirs.{SawLess}
use Rattle.std.proofs.Common.{Ok, Err, ◌<◌, Bool, List, None, Option, Result, Some, [], ap, arith, false, if◌then◌else◌, is_none, is_some, length, map, nat_le, not, refl, slice_get, suc, sym, true, ℕ, ◌&&◌, ◌++◌, ◌+◌, ◌==◌, ◌||◌, ◌∙◌, ◌∷◌, ◌≡◌}
use Rattle.std.proofs.lemmas.Bool.Decides.{nat_tests}
use Rattle.std.proofs.lemmas.Bool.{and_parts}
use Rattle.std.specs.Option.{option_map_or}
use Rattle.std.specs.Prelude.{option_and_then}

-- what is asked of the line of an action
abbrev pub FitsReceived : Action → Seen → Type 0
FitsReceived (action.AttemptPlaced row at) s = holds (λ a. is_none a.row.ended) (numbered s.attempts row) ≡ true
FitsReceived (action.AttemptEnds row e) s =
    (a q : Attempt) → numbered s.attempts row ≡ Some a → numbered s.attempts a.place ≡ Some q → is_unreceived s.calls s.attempts s.links (with_end e q) ≡ true
FitsReceived (action.FrameRead link r) s = (l : Link) → numbered s.links link ≡ Some l → SawLess l.number r s
FitsReceived (action.FrameWritten link x) s =
    (l : Link) (a q : Attempt) → numbered s.links link ≡ Some l → slice_get (waiting_on l s) 0 ≡ Some a → numbered s.attempts a.place ≡ Some q → is_none q.row.ended ≡ true
FitsReceived _ s = Unit {0}

-- of an attempt that goes on nothing is asked
unended_by : (o : Option RowEnd) (f : RowEnd → Bool) → is_none o ≡ true → option_map_or f o true ≡ true
unended_by None f e = refl
unended_by (Some end) f e = absurd (cc)

unended : (calls : List Call) (attempts : List Attempt) (links : List Link) (q : Attempt) → is_none q.row.ended ≡ true → is_unreceived calls attempts links q ≡ true
unended calls attempts links q e = unended_by q.row.ended (λ (e : RowEnd). settles calls attempts q.row.call || not (heads links q e)) e

-- links
piece_same : (e : Event) (l : Link) → (with_piece e l).traffic ≡ l.traffic
piece_same (event.Arrived link piece) l = refl
piece_same _ l = refl

gone_same : (s : Seen) (b : Bool) (l : Link) → (if b then record l { gone = Some (entry s) } else l).traffic ≡ l.traffic
gone_same s true l = refl
gone_same s false l = refl

over_now : (why : LinkOver) (link : ℕ) (s : Seen) → Unreceived s → Unreceived (link_over why link s)
over_now why link s h = link_same (λ (l : Link). record l { over = Some why }) link s (λ l. refl) h

later_off : (m n : ℕ) → m < n → nat_le n m ≡ false
later_off m n e = grind (arith, nat_tests, e)

frame_now : (r : ReadFrame) (s : Seen) (o : Option Link) → ((l : Link) → o ≡ Some l → SawLess l.number r s) → Unreceived s → Unreceived (option_map_or (frame_read_on r s) o s)
frame_now r s None saw h = h
frame_now r s (Some l) saw h =
    link_now (with_frame_read r (owed_for r.frame l s)) l.number s
    (λ i a e at k stream there got is here on m.
    (let later : is_read_by e.seen (traffic.Read r) ≡ false = later_off e.seen r.end (saw l refl (suc i) a e at there got is here) in
    sym (ap (λ (ts : List Traffic). is_some (response_in 0 stream ts).head) (read_is_later e.seen (traffic.Read r) k.traffic later)) ∙ m)) h

stream_now : (f : FrameSeen) (s : Seen) (o : Option Attempt) → ((a q : Attempt) → o ≡ Some a → numbered s.attempts a.place ≡ Some q → is_none q.row.ended ≡ true) → Unreceived s
    → Unreceived (option_map_or (λ (a : Attempt). with_attempt (with_stream f.stream) a.place s) o s)
stream_now f s None goes h = h
stream_now f s (Some a) goes h =
    attempt_now (with_stream f.stream) a.place s (λ n q k. k) (λ q at ok. unended s.calls s.attempts s.links (with_stream f.stream q) (goes a q refl at)) h

opened_if : (f : FrameSeen) (l : Link) (s : Seen) (b : Bool)
    → ((a q : Attempt) → slice_get (waiting_on l s) 0 ≡ Some a → numbered s.attempts a.place ≡ Some q → is_none q.row.ended ≡ true) → Unreceived s
    → Unreceived (if b then stream_opened f l s else s)
opened_if f l s true goes h = stream_now f s (slice_get (waiting_on l s) 0) goes h
opened_if f l s false goes h = h

opened_now : (x : Sent) (l : Link) (s : Seen)
    → ((a q : Attempt) → slice_get (waiting_on l s) 0 ≡ Some a → numbered s.attempts a.place ≡ Some q → is_none q.row.ended ≡ true) → Unreceived s
    → Unreceived (stream_opened_by x l s)
opened_now sent.Preface l s goes h = h
opened_now (sent.Frame f) l s goes h = opened_if f l s (f.kind == headers_type) goes h

written_now : (x : Sent) (s : Seen) (o : Option Link)
    → ((l : Link) (a q : Attempt) → o ≡ Some l → slice_get (waiting_on l s) 0 ≡ Some a → numbered s.attempts a.place ≡ Some q → is_none q.row.ended ≡ true) → Unreceived s
    → Unreceived (option_map_or (frame_written_on x s) o s)
written_now x s None goes h = h
written_now x s (Some l) goes h =
    let u : Seen = stream_opened_by x l s in
    let f : Link → Link = λ (k : Link). record k { traffic = k.traffic ++ traffic.Written x ∷ [] } in
    let v : Seen = record u { links = changed f l.number u.links } in
    beside v (frame_written_on x s l) refl refl refl
    (link_now f l.number u (λ i a e at k stream there got is here on m. sym (written_brings_none 0 stream e.seen x k.traffic) ∙ m)
    (opened_now x l s (λ a q waits at. goes l a q refl waits at) h))

-- calls
reported : (e : Event) (c : Call) → is_ended_call c ≡ true → is_ended_call (with_message e c) ≡ true
reported (event.Send call message) c h = h
reported _ c h = h

begun_now : (e : Event) (s : Seen) → Unreceived s → Unreceived (call_begun_by e s)
begun_now (event.Begin request) s h =
    let c : Call = begun_call (length s.calls + 1) (entry s) (now s) request in
    let u : Seen = record s { calls = s.calls ++ c ∷ [] } in
    beside u (call_begun_by (event.Begin request) s) refl refl refl (calls_now s (s.calls ++ c ∷ []) (ended_more s.calls (c ∷ [])) h)
begun_now _ s h = h

-- configs
throttled_now : (config : Config) (t : Throttle) (run : Option ℕ) (s : Seen) → Unreceived s → Unreceived (with_throttled config t run s)
throttled_now config t (Some run) s h = beside s (with_config config (Some run) s) refl refl refl h
throttled_now config t None s h = beside s (with_config config (Some (length s.runs + 1)) (with_run t s)) refl refl refl h

held_now : (config : Config) (t : Option Throttle) (s : Seen) → Unreceived s → Unreceived (with_held config t s)
held_now config None s h = beside s (with_config config None s) refl refl refl h
held_now config (Some t) s h = throttled_now config t (run_to_join t s) s h

read_now : (x : Result Config ConfigFault) (s : Seen) → Unreceived s → Unreceived (config_read x s)
read_now (Ok config) s h =
    held_now config config.throttle (replied reply.Done (resolver_answered s)) (beside s (replied reply.Done (resolver_answered s)) refl refl refl h)
read_now (Err fault) s h = beside s (replied (reply.BadConfig fault) (resolver_answered s)) refl refl refl h

-- attempts
turned_now : (b : Bool) (s : Seen) → Unreceived s → Unreceived (without_turn_unless b s)
turned_now true s h = h
turned_now false s h = beside s (without_turn_unless false s) refl refl refl h

run_by : (s : Seen) (a : Attempt) (b : Bool) (run : Option ℕ) → Unreceived s
    → Unreceived (if b then option_map_or (λ (k : ℕ). record s { runs = changed (λ (u : ThrottleRun). record u { ends = u.ends ++ a.place ∷ [] }) k s.runs }) run s else s)
run_by s a true None h = h
run_by s a true (Some k) h =
    beside s (record s { runs = changed (λ (u : ThrottleRun). record u { ends = u.ends ++ a.place ∷ [] }) k s.runs }) refl refl refl h
run_by s a false run h = h

counted_in : (s : Seen) (a : Attempt) (e : RowEnd) (c : Option Call) → Unreceived s → Unreceived (option_map_or (with_end_in_run a e s) c s)
counted_in s a e None h = h
counted_in s a e (Some c) h =
    run_by s a (not (is_cut e.cause) && not (is_to_follow c e.cause e.unseen s)) (option_and_then (λ (x : HeldConfig). x.run) (config_of_call c s)) h

run_calls : (s : Seen) (a : Attempt) (b : Bool) (run : Option ℕ)
    → (if b then option_map_or (λ (k : ℕ). record s { runs = changed (λ (u : ThrottleRun). record u { ends = u.ends ++ a.place ∷ [] }) k s.runs }) run s else s).calls ≡ s.calls
run_calls s a true None = refl
run_calls s a true (Some k) = refl
run_calls s a false run = refl

counted_calls : (s : Seen) (a : Attempt) (e : RowEnd) (c : Option Call) → (option_map_or (with_end_in_run a e s) c s).calls ≡ s.calls
counted_calls s a e None = refl
counted_calls s a e (Some c) =
    run_calls s a (not (is_cut e.cause) && not (is_to_follow c e.cause e.unseen s)) (option_and_then (λ (x : HeldConfig). x.run) (config_of_call c s))

run_attempts : (s : Seen) (a : Attempt) (b : Bool) (run : Option ℕ)
    → (if b then option_map_or (λ (k : ℕ). record s { runs = changed (λ (u : ThrottleRun). record u { ends = u.ends ++ a.place ∷ [] }) k s.runs }) run s else s).attempts ≡ s.attempts
run_attempts s a true None = refl
run_attempts s a true (Some k) = refl
run_attempts s a false run = refl

counted_attempts : (s : Seen) (a : Attempt) (e : RowEnd) (c : Option Call) → (option_map_or (with_end_in_run a e s) c s).attempts ≡ s.attempts
counted_attempts s a e None = refl
counted_attempts s a e (Some c) =
    run_attempts s a (not (is_cut e.cause) && not (is_to_follow c e.cause e.unseen s)) (option_and_then (λ (x : HeldConfig). x.run) (config_of_call c s))

ended_now : (e : RowEnd) (row : ℕ) (s : Seen) (o : Option Attempt) → numbered s.attempts row ≡ o
    → ((a q : Attempt) → numbered s.attempts row ≡ Some a → numbered s.attempts a.place ≡ Some q → is_unreceived s.calls s.attempts s.links (with_end e q) ≡ true) → Unreceived s
    → Unreceived (option_map_or (attempt_ended_as e s) o s)
ended_now e row s None got less h = h
ended_now e row s (Some a) got less h =
    let u : Seen = option_map_or (with_end_in_run a e s) (call_of a s) s in
    let v : Seen = with_attempt (with_end e) a.place u in
    let w : Seen = marked (mark.Ended a.place) a.row.call v in
    beside w (attempt_ended_as e s a) refl refl refl
    (marked_now (mark.Ended a.place) a.row.call v
    (attempt_now (with_end e) a.place u (λ n q k. k)
    (λ q at ok.
    ap (λ (cs : List Call). is_unreceived cs u.attempts u.links (with_end e q)) (counted_calls s a e (call_of a s))
    ∙ ap (λ (xs : List Attempt). is_unreceived s.calls xs u.links (with_end e q)) (counted_attempts s a e (call_of a s))
    ∙ ap (λ (ls : List Link). is_unreceived s.calls s.attempts ls (with_end e q)) (links_of_run s a e (call_of a s))
    ∙ less a q got (sym (ap (λ (rows : List Attempt). numbered rows a.place) (counted_attempts s a e (call_of a s))) ∙ at))
    (counted_in s a e (call_of a s) h)))

reset_now : (number : ℕ) (s : Seen) (o : Option Attempt) → Unreceived s → Unreceived (option_map_or (stream_reset_of number s) o s)
reset_now number s None h = h
reset_now number s (Some a) h =
    let u : Seen = with_attempt with_reset_queued a.place s in
    link_same (λ (l : Link). record l { owed = l.owed ++ rst_stream_frame (stream_number a) number ∷ [] }) (link_number a) u (λ l. refl)
    (attempt_now with_reset_queued a.place s (λ n q k. k) (λ q at ok. ok) h)

-- subchannels
noted_now : (s : Seen) (o : Option Subchannel) → Unreceived s → Unreceived (option_map_or (λ (b : Subchannel). noted_by_policies b s) o s)
noted_now s None h = h
noted_now s (Some b) h = beside s (noted_by_policies b s) refl refl refl h

board_now : (f : Subchannel → Subchannel) (n : ℕ) (s : Seen) → Unreceived s → Unreceived (with_sub f n s)
board_now f n s h =
    let u : Seen = record s { subs = changed f n s.subs } in
    noted_now u (numbered (changed f n s.subs) n) (beside s u refl refl refl h)

dialled_now : (again until : ℕ) (s : Seen) (o : Option Subchannel) → Unreceived s → Unreceived (option_map_or (dial_taken_of again until s) o s)
dialled_now again until s None h = h
dialled_now again until s (Some b) h =
    let u : Seen = with_sub (with_dial again until) b.number s in
    beside u (dial_taken_of again until s b) refl refl refl (board_now (with_dial again until) b.number s h)

late_by : (n : ℕ) (s : Seen) (o : Option ℕ) → Unreceived s
    → Unreceived (with_sub (without_link conn.Failure) n (wants_resolution (option_map_or (λ (link : ℕ). link_over over.TimedOut link s) o s)))
late_by n s None h = board_now (without_link conn.Failure) n (wants_resolution s) (beside s (wants_resolution s) refl refl refl h)
late_by n s (Some link) h =
    let u : Seen = link_over over.TimedOut link s in
    board_now (without_link conn.Failure) n (wants_resolution u) (beside u (wants_resolution u) refl refl refl (over_now over.TimedOut link s h))

late_now : (n : ℕ) (s : Seen) (o : Option Subchannel) → Unreceived s
    → Unreceived (with_sub (without_link conn.Failure) n (wants_resolution (option_map_or (λ (b : Subchannel). link_timed_out b s) o s)))
late_now n s None h = board_now (without_link conn.Failure) n (wants_resolution s) (beside s (wants_resolution s) refl refl refl h)
late_now n s (Some b) h = late_by n s b.link h

up_now : (n : ℕ) (s : Seen) → Unreceived s → Unreceived (link_up n s)
up_now n s h =
    let link : ℕ = length s.links + 1 in
    let u : Seen = record s { links = s.links ++ new_link link n s ∷ [] } in
    let f : Subchannel → Subchannel = λ (b : Subchannel). record b { link = Some link } in
    beside (with_sub f n u) (link_up n s) refl refl refl (board_now f n u (links_more (new_link link n s) s refl h))

given_now : (g : ℕ) (s : Seen) (o : Option (List Address)) → Unreceived s
    → Unreceived (option_map_or (λ (addresses : List Address). with_policy (given_addresses addresses s) g s) o s)
given_now g s None h = h
given_now g s (Some addresses) h = beside s (with_policy (given_addresses addresses s) g s) refl refl refl h

replaced_now : (s : Seen) (o : Option PolicyUse) → Unreceived s → Unreceived (option_map_or (λ (g : PolicyUse). policy_retired g.number s) o s)
replaced_now s None h = h
replaced_now s (Some g) h = beside s (policy_retired g.number s) refl refl refl h

commits : (n : ℕ) (q : Attempt) (z : ℕ) → is_committed_of n q ≡ true → is_committed_of n (with_commitment z q) ≡ true
commits n q z k = ap (λ (b : Bool). b && true) (and_parts (q.row.call == n) (is_some q.row.committed) k).0

module _ (o : OpenEntry) (s : Seen) (h : Unreceived s) where
  abbrev same_as : (t : Seen) → t.calls ≡ s.calls → t.attempts ≡ s.attempts → t.links ≡ s.links → Unreceived t
  same_as t a b d = beside s t a b d h

  act : (x : Action) → FitsReceived x s → Unreceived (after_in o x s)
  act (action.EntryOpens posted word e) fits = h
  act (action.EventRefused why) fits = same_as (replied (reply.Refused why) s) refl refl refl
  act (action.EventAnswered r) fits = same_as (replied r s) refl refl refl
  act action.SettlingBegins fits = same_as (settling s) refl refl refl
  act action.EntryCloses fits =
      beside (record s { links = map (noted_gone s) s.links }) (entry_made o s) refl refl refl
      (links_mapped (noted_gone s) s (λ l. gone_same s (is_none l.gone && is_gone l s) l) h)
  act action.CallBegins fits = begun_now o.event s h
  act (action.MessageAccepted call) fits =
      beside (with_call (with_message o.event) call s) (message_accepted call o.event s) refl refl refl (call_now (with_message o.event) call s (reported o.event) h)
  act (action.RequestFinished call) fits =
      let f : Call → Call = λ (c : Call). record c { finished = true } in
      beside (with_call f call s) (request_finished call s) refl refl refl (call_now f call s (λ c e. e) h)
  act (action.ItemTaken call item) fits =
      let f : Call → Call = λ (c : Call). record c { taken = c.taken + 1; end_taken = is_end item } in
      beside (with_call f call s) (item_taken call item s) refl refl refl (call_now f call s (λ c e. e) h)
  act (action.CallEnds call why) fits =
      call_now (λ (c : Call). record c { end = Some (record { entry = entry s; moment = now s; cause = why }) }) call (marked mark.Closed call s) (λ c e. refl)
      (marked_now mark.Closed call s h)
  act (action.ConfigRead x) fits = read_now x s h
  act action.ResolutionFailed fits = same_as (resolution_failed s) refl refl refl
  act (action.CallConfigured call config) fits =
      call_now (λ (c : Call). record c { config = Some config; configured = Some (entry s) }) call (marked mark.Configured call s) (λ c e. e)
      (marked_now mark.Configured call s h)
  act (action.AttemptMade call number k due) fits =
      let a : Attempt = record { place = length s.attempts + 1; row = new_row call number k due; made = entry s; reset = false } in
      let u : Seen = with_row (new_row call number k due) s in
      let m : Seen = marked (mark.Made (length s.attempts + 1)) call u in
      turned_now (is_transparent k) m (marked_now (mark.Made (length s.attempts + 1)) call u (attempts_more a s refl h))
  act (action.HedgeWithheld call) fits = turned_now false (marked mark.Withheld call s) (marked_now mark.Withheld call s h)
  act (action.PickRequested row g answer) fits = same_as (pick_requested row g answer s) refl refl refl
  act (action.AttemptPlaced row where_to) fits =
      let u : Seen = with_attempt (with_placing where_to) row s in
      row_marked (mark.Placed row) u (numbered u.attempts row)
      (attempt_now (with_placing where_to) row s (λ n q k. k)
      (λ q at ok. unended s.calls s.attempts s.links (with_placing where_to q) (sym (ap (holds (λ (z : Attempt). is_none z.row.ended)) at) ∙ fits)) h)
  act (action.AttemptEnds row e) fits = ended_now e row s (numbered s.attempts row) refl fits h
  act (action.CallCommitted row why) fits =
      let u : Seen = with_attempt (with_commitment (entry s)) row s in
      row_marked mark.Committed u (numbered u.attempts row)
      (attempt_now (with_commitment (entry s)) row s (λ n q k. commits n q (entry s) k) (λ q at ok. ok) h)
  act (action.StreamReset row number) fits = reset_now number s (numbered s.attempts row) h
  act (action.PolicyBegins k) fits = same_as (policy_begun k s) refl refl refl
  act (action.AddressesGiven g) fits = given_now g s (addresses_in o.event) h
  act (action.PolicyTakesOver g) fits =
      let u : Seen = option_map_or (λ (p : PolicyUse). policy_retired p.number s) (current_policy s) s in
      beside u (policy_took_over g s) refl refl refl (replaced_now s (current_policy s) h)
  act (action.PolicyRetired g) fits = same_as (policy_retired g s) refl refl refl
  act (action.SubchannelAdded address) fits = same_as (record s { subs = s.subs ++ new_sub address (length s.subs + 1) ∷ [] }) refl refl refl
  act (action.SubchannelShut sub) fits = board_now (without_link conn.Shutdown) sub s h
  act (action.SubchannelConnects sub) fits = board_now (in_state conn.Connecting) sub s h
  act (action.DialTaken sub again until) fits = dialled_now again until s (numbered s.subs sub) h
  act (action.DialFails sub) fits =
      let u : Seen = with_sub (without_link conn.Failure) sub (wants_resolution s) in
      beside u (dial_failed sub s) refl refl refl (board_now (without_link conn.Failure) sub (wants_resolution s) (same_as (wants_resolution s) refl refl refl))
  act (action.ConnectTimesOut sub) fits = late_now sub s (numbered s.subs sub) h
  act (action.BackoffEnds sub) fits = board_now (in_state conn.Idle) sub s h
  act (action.LinkUp sub) fits = up_now sub s h
  act (action.SettingsArrive sub) fits = board_now (λ (b : Subchannel). record b { state = conn.Ready; dials = 0; until = None }) sub s h
  act (action.LinkDown sub) fits = board_now gone_down sub s h
  act (action.BytesArrive link) fits =
      let u : Seen = with_link (with_piece o.event) link s in
      beside u (replied reply.Done u) refl refl refl (link_same (with_piece o.event) link s (piece_same o.event) h)
  act (action.FrameRead link r) fits = frame_now r s (numbered s.links link) fits h
  act (action.LinkBreaks link number) fits = beside (link_over over.Broken link s) (link_broken link s) refl refl refl (over_now over.Broken link s h)
  act (action.LinkLost link) fits = beside (link_over over.Lost link s) (link_lost link s) refl refl refl (over_now over.Lost link s h)
  act (action.PingQueued link) fits =
      let u : Seen = owed (ping_of o.event) link s in
      beside u (replied reply.Done u) refl refl refl (link_same (λ (l : Link). record l { owed = l.owed ++ ping_of o.event }) link s (λ l. refl) h)
  act (action.FrameWritten link x) fits = written_now x s (numbered s.links link) fits h
  act action.ChannelShuts fits = same_as (replied reply.Done (record s { shut = true })) refl refl refl

act_if : (c : Option OpenEntry) (x : Action) (s : Seen) → FitsReceived x s → Unreceived s → Unreceived (after_if c x s)
act_if (Some o) x s fits h = act o s h x fits
act_if None (action.EntryOpens posted word e) s fits h = beside s (opened posted word e s) refl refl refl h
act_if None x s fits h = h

pub unreceived_after : (s : Seen) (x : Action) → FitsReceived x s → Unreceived s → Unreceived (after x s)
unreceived_after s x fits h = act_if s.current x s fits h
