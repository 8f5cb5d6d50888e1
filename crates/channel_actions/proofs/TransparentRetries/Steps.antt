-- So it is after each of the 41 actions, where its line says of it what it does.
use Rattle.attempt_ledger.specs.Ends.{is_cut}
use Rattle.attempt_ledger.specs.Numbering.{is_transparent}
use Rattle.attempt_ledger.specs.TransparentRows.{is_unsent}
use Rattle.attempt_ledger.specs.declared.row.Placed.{Placed}
use Rattle.attempt_ledger.specs.declared.row.RowEnd.{RowEnd}
use Rattle.call_actions.specs.CallsApart.Apart.{IsFair}
use Rattle.channel_actions.proofs.KeptSessions.Lists.{counted_places, own_number}
use Rattle.channel_actions.proofs.Streams.Own.Steps.{each_filter, each_from, first_has}
use Rattle.channel_actions.proofs.TransparentRetries.Fits.{FitsRetried, IsUnsentOn, is_taking}
use Rattle.channel_actions.proofs.TransparentRetries.Makes.{made_fits}
use Rattle.channel_actions.proofs.TransparentRetries.Rows.{Moves, Retried, attempt_now, changes_row, link_now, links_mapped, links_more, plain, row_more}
use Rattle.channel_actions.specs.KeptSessions.Kept.{IsKept}
use Rattle.grpc_base.specs.declared.address.Address.{Address}
use Rattle.grpc_base.specs.declared.event.ConfigFault.{ConfigFault}
use Rattle.grpc_base.specs.declared.event.Conn.TheVariants as conn
use Rattle.grpc_base.specs.declared.event.Event.TheVariants as event
use Rattle.grpc_base.specs.declared.event.Event.{Event}
use Rattle.grpc_base.specs.declared.event.Reply.TheVariants as reply
use Rattle.grpc_base.specs.declared.plan.Throttle.{Throttle}
use Rattle.h2_frame.specs.Frames.{FrameSeen}
use Rattle.h2_frame.specs.Numbers.{goaway_type, headers_type}
use Rattle.h2_frame.specs.Sent.{rst_stream_frame}
use Rattle.service_config.specs.declared.config.Config.{Config}
use Rattle.session_actions.specs.Actions.{after, after_if, after_in}
use Rattle.session_actions.specs.AttemptEnds.{attempt_ended_as, stream_reset_of, with_end, with_end_in_run, with_reset_queued}
use Rattle.session_actions.specs.Attempts.{call_of, is_outstanding, is_to_follow, with_attempt}
use Rattle.session_actions.specs.Calls.{marked}
use Rattle.session_actions.specs.Closing.{entry_made, noted_gone}
use Rattle.session_actions.specs.Commitments.{with_commitment}
use Rattle.session_actions.specs.Configs.{config_of_call, config_read, resolution_failed, resolver_answered, run_to_join, with_config, with_held, with_run, with_throttled}
use Rattle.session_actions.specs.Deliveries.{call_begun_by, item_taken, message_accepted, request_finished}
use Rattle.session_actions.specs.Entries.{entry, opened, replied, settling}
use Rattle.session_actions.specs.Links.{is_retiring, link_number, link_over, owed, read_in, stream_number, wants_resolution, with_link}
use Rattle.session_actions.specs.Making.{new_row, with_row, without_turn_unless}
use Rattle.session_actions.specs.Policies.{addresses_in, current_policy, given_addresses, is_unfollowed, pick_requested, policy_begun, policy_retired, policy_took_over, with_placing, with_policy}
use Rattle.session_actions.specs.Reading.{is_outstanding_on, outstanding_on}
use Rattle.session_actions.specs.Refusals.{is_gone}
use Rattle.session_actions.specs.Subchannels.{dial_failed, dial_taken_of, gone_down, in_state, is_going_down, link_timed_out, link_up, new_link, noted_by_policies, with_dial, with_sub, without_link}
use Rattle.session_actions.specs.Words.{changed, holds, numbered}
use Rattle.session_actions.specs.Writing.{frame_read_on, frame_written_on, link_broken, link_lost, owed_for, ping_of, stream_opened, stream_opened_by, waiting_on, with_frame_read, with_piece, with_stream}
use Rattle.session_actions.specs.declared.action.Action.TheVariants as action
use Rattle.session_actions.specs.declared.action.Action.{Action}
use Rattle.session_actions.specs.declared.attempt.Attempt.{Attempt}
use Rattle.session_actions.specs.declared.call.Call.{Call}
use Rattle.session_actions.specs.declared.call.MarkKind.TheVariants as mark
use Rattle.session_actions.specs.declared.call.MarkKind.{MarkKind}
use Rattle.session_actions.specs.declared.config.HeldConfig.{HeldConfig}
use Rattle.session_actions.specs.declared.config.ThrottleRun.{ThrottleRun}
use Rattle.session_actions.specs.declared.entry.OpenEntry.{OpenEntry}
use Rattle.session_actions.specs.declared.link.Link.{Link}
use Rattle.session_actions.specs.declared.link.LinkOver.TheVariants as over
use Rattle.session_actions.specs.declared.link.LinkOver.{LinkOver}
use Rattle.session_actions.specs.declared.link.ReadFrame.{ReadFrame}
use Rattle.session_actions.specs.declared.link.Sent.TheVariants as sent
use Rattle.session_actions.specs.declared.link.Sent.{Sent}
use Rattle.session_actions.specs.declared.link.Traffic.TheVariants as traffic
use Rattle.session_actions.specs.declared.link.Traffic.{Traffic}
use Rattle.session_actions.specs.declared.policy.PolicyUse.{PolicyUse}
use Rattle.session_actions.specs.declared.seen.Seen.{Seen}
use Rattle.session_actions.specs.declared.subchannel.Subchannel.{Subchannel}
use Rattle.session_order.specs.SessionLaws.Attempts.{IsCounted, RetriesRepeat}
use Rattle.std.proofs.Common.{ap, inl, inr, subst, sym, ◌∙◌}
use Rattle.std.proofs.lemmas.Bool.{and_parts}
use Rattle.std.proofs.lemmas.List.Elements.{filter_map-append}
use Rattle.std.proofs.lemmas.List.Folds.{list_any-append}
use Rattle.std.specs.List.{list_any}
use Rattle.std.specs.Option.{option_map_or}
use Rattle.std.specs.Prelude.{Bool, Err, List, None, Ok, Option, Result, Some, [], false, filter_map, if◌then◌else◌, is_none, is_some, length, map, not, option_and_then, refl, slice_get, true, ℕ, ◌&&◌, ◌++◌, ◌+◌, ◌==◌, ◌||◌, ◌∷◌, ◌≡◌}

-- calls, entries and configs
begun_now : (e : Event) (s : Seen) → Retried s → Retried (call_begun_by e s)
begun_now (event.Begin request) s h = plain s (call_begun_by (event.Begin request) s) refl refl h
begun_now _ s h = h

throttled_now : (config : Config) (t : Throttle) (run : Option ℕ) (s : Seen) → Retried s → Retried (with_throttled config t run s)
throttled_now config t (Some run) s h = plain s (with_config config (Some run) s) refl refl h
throttled_now config t None s h = plain s (with_config config (Some (length s.runs + 1)) (with_run t s)) refl refl h

held_now : (config : Config) (t : Option Throttle) (s : Seen) → Retried s → Retried (with_held config t s)
held_now config None s h = plain s (with_config config None s) refl refl h
held_now config (Some t) s h = throttled_now config t (run_to_join t s) s h

read_now : (x : Result Config ConfigFault) (s : Seen) → Retried s → Retried (config_read x s)
read_now (Ok config) s h =
    held_now config config.throttle (replied reply.Done (resolver_answered s)) (plain s (replied reply.Done (resolver_answered s)) refl refl h)
read_now (Err fault) s h = plain s (replied (reply.BadConfig fault) (resolver_answered s)) refl refl h

turned_now : (b : Bool) (s : Seen) → Retried s → Retried (without_turn_unless b s)
turned_now true s h = h
turned_now false s h = plain s (without_turn_unless false s) refl refl h

row_marked : (what : MarkKind) (s : Seen) (o : Option Attempt) → Retried s → Retried (option_map_or (λ (a : Attempt). marked what a.row.call s) o s)
row_marked what s None h = h
row_marked what s (Some a) h = plain s (marked what a.row.call s) refl refl h

-- attempts: one ends
run_by : (s : Seen) (a : Attempt) (b : Bool) (run : Option ℕ) → Retried s
    → Retried (if b then option_map_or (λ (k : ℕ). record s { runs = changed (λ (u : ThrottleRun). record u { ends = u.ends ++ a.place ∷ [] }) k s.runs }) run s else s)
run_by s a true None h = h
run_by s a true (Some k) h = plain s (record s { runs = changed (λ (u : ThrottleRun). record u { ends = u.ends ++ a.place ∷ [] }) k s.runs }) refl refl h
run_by s a false run h = h

counted_in : (s : Seen) (a : Attempt) (e : RowEnd) (c : Option Call) → Retried s → Retried (option_map_or (with_end_in_run a e s) c s)
counted_in s a e None h = h
counted_in s a e (Some c) h =
    run_by s a (not (is_cut e.cause) && not (is_to_follow c e.cause e.unseen s)) (option_and_then (λ (x : HeldConfig). x.run) (config_of_call c s)) h

-- (what it counts in its bucket leaves attempts and links)
run_left : (s : Seen) (a : Attempt) (b : Bool) (run : Option ℕ)
    → ((if b then option_map_or (λ (k : ℕ). record s { runs = changed (λ (u : ThrottleRun). record u { ends = u.ends ++ a.place ∷ [] }) k s.runs }) run s else s).attempts ≡ s.attempts)
    × ((if b then option_map_or (λ (k : ℕ). record s { runs = changed (λ (u : ThrottleRun). record u { ends = u.ends ++ a.place ∷ [] }) k s.runs }) run s else s).links ≡ s.links)
run_left s a true None = (refl, refl)
run_left s a true (Some k) = (refl, refl)
run_left s a false run = (refl, refl)

counted_left : (s : Seen) (a : Attempt) (e : RowEnd) (c : Option Call)
    → ((option_map_or (with_end_in_run a e s) c s).attempts ≡ s.attempts) × ((option_map_or (with_end_in_run a e s) c s).links ≡ s.links)
counted_left s a e None = (refl, refl)
counted_left s a e (Some c) =
    run_left s a (not (is_cut e.cause) && not (is_to_follow c e.cause e.unseen s)) (option_and_then (λ (x : HeldConfig). x.run) (config_of_call c s))

never_some : {X : Type 0} (o : Option X) → is_none o ≡ true → is_some o ≡ true → ⊥
never_some None e f = absurd (cc)
never_some (Some x) e f = absurd (cc)

ends_move : (links : List Link) (e : RowEnd) (a : Attempt) → is_none a.row.ended ≡ true → (is_unsent e.cause ≡ true → IsUnsentOn links a.row.stream a.row.placed)
    → Moves links a (with_end e a)
ends_move links e a none unsent = record {
  call = refl;
  number = refl;
  stays = λ f. absurd (never_some a.row.ended none f);
  unsent = unsent;
  placed = λ to f. inl f;
}

one_of : {X : Type 0} (o : Option X) (x y : X) → o ≡ Some x → o ≡ Some y → x ≡ y
one_of None x y e f = absurd (cc)
one_of (Some z) x y e f = (cc)

ended_now : (row : ℕ) (e : RowEnd) (s : Seen) (o : Option Attempt) → numbered s.attempts row ≡ o → IsKept s
    → ((a : Attempt) → numbered s.attempts row ≡ Some a → is_none a.row.ended ≡ true)
    → ((a : Attempt) → numbered s.attempts row ≡ Some a → is_unsent e.cause ≡ true → IsUnsentOn s.links a.row.stream a.row.placed) → Retried s
    → Retried (option_map_or (attempt_ended_as e s) o s)
ended_now row e s None got kept fair fits h = h
ended_now row e s (Some a) got kept fair fits h =
    let u : Seen = option_map_or (with_end_in_run a e s) (call_of a s) s in
    let left : (u.attempts ≡ s.attempts) × (u.links ≡ s.links) = counted_left s a e (call_of a s) in
    let here : a.place ≡ row = counted_places (λ (z : Attempt). z.place) s.attempts kept.attempts row a got in
    let same : (z : Attempt) → numbered u.attempts a.place ≡ Some z → a ≡ z
    = λ z at. one_of (numbered s.attempts row) a z got (sym (ap (numbered s.attempts) here) ∙ (sym (ap (λ (xs : List Attempt). numbered xs a.place) left.0) ∙ at)) in
    plain (with_attempt (with_end e) a.place u) (attempt_ended_as e s a) refl refl
    (attempt_now (with_end e) a.place u
    (λ z at.
    ends_move u.links e z (subst (λ (y : Attempt). is_none y.row.ended ≡ true) (same z at) (fair a got))
    (λ unsent.
    subst (λ (y : Attempt). IsUnsentOn u.links y.row.stream y.row.placed) (same z at)
    (subst (λ (ls : List Link). IsUnsentOn ls a.row.stream a.row.placed) (sym left.1) (fits a got unsent))))
    (counted_in s a e (call_of a s) h))

-- one is placed
unplaced_moves : (links : List Link) (at : Placed) (a : Attempt) → is_unfollowed a ≡ true → is_taking links at.link ≡ true → Moves links a (with_placing at a)
unplaced_moves links at a waits takes =
    let none : is_none a.row.ended ≡ true = (and_parts (is_none a.row.placed) (is_none a.row.ended) waits).1 in
    record {
      call = refl;
      number = refl;
      stays = λ e. absurd (never_some a.row.ended none e);
      unsent = λ e. absurd (never_unsent a.row.ended none e);
      placed = λ to e. inr (let one : at ≡ to = (cc) in subst (λ (p : Placed). is_taking links p.link ≡ true) one takes);
    }
  where
    never_unsent : (o : Option RowEnd) → is_none o ≡ true → holds (λ (e : RowEnd). is_unsent e.cause) o ≡ true → ⊥
    never_unsent None e f = absurd (cc)
    never_unsent (Some x) e f = absurd (cc)

-- links
line_now : (f : Link → Link) (n : ℕ) (s : Seen) → ((l : Link) → is_going_down (f l) ≡ is_going_down l) → Retried s → Retried (record s { links = changed f n s.links })
line_now f n s same h = link_now f n s (λ l e. same l ∙ e) h

over_now : (why : LinkOver) (link : ℕ) (s : Seen) → Retried s → Retried (link_over why link s)
over_now why link s h = link_now (λ (l : Link). record l { over = Some why }) link s (λ l e. refl) h

reset_now : (number : ℕ) (s : Seen) (o : Option Attempt) → Retried s → Retried (option_map_or (stream_reset_of number s) o s)
reset_now number s None h = h
reset_now number s (Some a) h =
    line_now (λ (l : Link). record l { owed = l.owed ++ rst_stream_frame (stream_number a) number ∷ [] }) (link_number a) (with_attempt with_reset_queued a.place s) (λ l. refl)
    (changes_row with_reset_queued a.place s (λ q. record { call = refl; number = refl; ended = refl; placed = refl; stream = refl }) h)

piece_same : (e : Event) (l : Link) → is_going_down (with_piece e l) ≡ is_going_down l
piece_same (event.Arrived link piece) l = refl
piece_same _ l = refl

gone_same : (s : Seen) (b : Bool) (l : Link) → is_going_down (if b then record l { gone = Some (entry s) } else l) ≡ is_going_down l
gone_same s true l = refl
gone_same s false l = refl

-- what passes on a link
abbrev is_away : ReadFrame → Bool
is_away r = r.frame.kind == goaway_type

or_more : (a b c d : Bool) → d ≡ (b || c) → (a || b) ≡ true → (a || d) ≡ true
or_more true b c d e f = refl
or_more false true c d e f = e
or_more false false c d e f = absurd (cc)

passed_down : (l : Link) (x : Traffic) → is_going_down l ≡ true → (is_some l.over || list_any is_away (filter_map read_in (l.traffic ++ x ∷ []))) ≡ true
passed_down l x e =
    or_more (is_some l.over) (is_retiring l) (list_any is_away (filter_map read_in (x ∷ []))) (list_any is_away (filter_map read_in (l.traffic ++ x ∷ [])))
    (ap (list_any is_away) (filter_map-append read_in l.traffic (x ∷ [])) ∙ list_any-append is_away (filter_map read_in l.traffic) (filter_map read_in (x ∷ []))) e

frame_now : (r : ReadFrame) (s : Seen) (o : Option Link) → Retried s → Retried (option_map_or (frame_read_on r s) o s)
frame_now r s None h = h
frame_now r s (Some l) h = link_now (with_frame_read r (owed_for r.frame l s)) l.number s (λ k e. passed_down k (traffic.Read r) e) h

-- what is written: HEADERS give a stream to the first attempt that waits
streams_move : (links : List Link) (n : ℕ) (a : Attempt) → is_none a.row.ended ≡ true → Moves links a (with_stream n a)
streams_move links n a none = record {
  call = refl;
  number = refl;
  stays = λ e. absurd (never_some a.row.ended none e);
  unsent = λ e. absurd (never_unsent a.row.ended none e);
  placed = λ to e. inl e;
}
  where
    never_unsent : (o : Option RowEnd) → is_none o ≡ true → holds (λ (e : RowEnd). is_unsent e.cause) o ≡ true → ⊥
    never_unsent None e f = absurd (cc)
    never_unsent (Some x) e f = absurd (cc)

module _ (s : Seen) (l : Link) (kept : IsKept s) (h : Retried s) where
  abbrev IsOwn : Attempt → Type 0
  IsOwn a = numbered s.attempts a.place ≡ Some a

  first_waits : (a : Attempt) → slice_get (waiting_on l s) 0 ≡ Some a → IsOwn a × (is_outstanding_on l a ≡ true)
  first_waits a got =
      (first_has (λ (q : Attempt). (IsOwn q × (is_outstanding_on l q ≡ true)) × (is_none q.row.stream ≡ true)) (waiting_on l s) a got
      (each_filter (λ (q : Attempt). IsOwn q × (is_outstanding_on l q ≡ true)) (λ (q : Attempt). is_none q.row.stream) (outstanding_on l s)
      (each_filter IsOwn (is_outstanding_on l) s.attempts
      (each_from IsOwn s.attempts (λ i q at. own_number (λ (z : Attempt). z.place) s.attempts i q kept.attempts at))))).0

  stream_now : (f : FrameSeen) (o : Option Attempt) → slice_get (waiting_on l s) 0 ≡ o → Retried (option_map_or (λ (a : Attempt). with_attempt (with_stream f.stream) a.place s) o s)
  stream_now f None got = h
  stream_now f (Some a) got =
      let waits : IsOwn a × (is_outstanding_on l a ≡ true) = first_waits a got in
      let out : is_outstanding a ≡ true = (and_parts (is_outstanding a) (holds (λ (at : Placed). at.link == l.number) a.row.placed) waits.1).0 in
      let none : is_none a.row.ended ≡ true = (and_parts (is_some a.row.placed) (is_none a.row.ended) out).1 in
      attempt_now (with_stream f.stream) a.place s
      (λ z at.
      streams_move s.links f.stream z
      (subst (λ (y : Attempt). is_none y.row.ended ≡ true) (one_of (numbered s.attempts a.place) a z waits.0 at) none)) h

  opened_if : (f : FrameSeen) (b : Bool) → Retried (if b then stream_opened f l s else s)
  opened_if f true = stream_now f (slice_get (waiting_on l s) 0) refl
  opened_if f false = h

  opened_now : (x : Sent) → Retried (stream_opened_by x l s)
  opened_now sent.Preface = h
  opened_now (sent.Frame f) = opened_if f (f.kind == headers_type)

written_now : (x : Sent) (s : Seen) (o : Option Link) → IsKept s → Retried s → Retried (option_map_or (frame_written_on x s) o s)
written_now x s None kept h = h
written_now x s (Some l) kept h =
    let u : Seen = stream_opened_by x l s in
    let f : Link → Link = λ (k : Link). record k { traffic = k.traffic ++ traffic.Written x ∷ [] } in
    plain (record u { links = changed f l.number u.links }) (frame_written_on x s l) refl refl
    (link_now f l.number u (λ k e. passed_down k (traffic.Written x) e) (opened_now s l kept h x))

-- subchannels and policies
noted_now : (s : Seen) (o : Option Subchannel) → Retried s → Retried (option_map_or (λ (b : Subchannel). noted_by_policies b s) o s)
noted_now s None h = h
noted_now s (Some b) h = plain s (noted_by_policies b s) refl refl h

board_now : (f : Subchannel → Subchannel) (n : ℕ) (s : Seen) → Retried s → Retried (with_sub f n s)
board_now f n s h = noted_now (record s { subs = changed f n s.subs }) (numbered (changed f n s.subs) n) (plain s (record s { subs = changed f n s.subs }) refl refl h)

dialled_now : (again until : ℕ) (s : Seen) (o : Option Subchannel) → Retried s → Retried (option_map_or (dial_taken_of again until s) o s)
dialled_now again until s None h = h
dialled_now again until s (Some b) h =
    plain (with_sub (with_dial again until) b.number s) (dial_taken_of again until s b) refl refl (board_now (with_dial again until) b.number s h)

late_by : (n : ℕ) (s : Seen) (o : Option ℕ) → Retried s
    → Retried (with_sub (without_link conn.Failure) n (wants_resolution (option_map_or (λ (link : ℕ). link_over over.TimedOut link s) o s)))
late_by n s None h = board_now (without_link conn.Failure) n (wants_resolution s) (plain s (wants_resolution s) refl refl h)
late_by n s (Some link) h =
    let u : Seen = link_over over.TimedOut link s in
    board_now (without_link conn.Failure) n (wants_resolution u) (plain u (wants_resolution u) refl refl (over_now over.TimedOut link s h))

late_now : (n : ℕ) (s : Seen) (o : Option Subchannel) → Retried s
    → Retried (with_sub (without_link conn.Failure) n (wants_resolution (option_map_or (λ (b : Subchannel). link_timed_out b s) o s)))
late_now n s None h = board_now (without_link conn.Failure) n (wants_resolution s) (plain s (wants_resolution s) refl refl h)
late_now n s (Some b) h = late_by n s b.link h

given_now : (g : ℕ) (s : Seen) (o : Option (List Address)) → Retried s → Retried (option_map_or (λ (addresses : List Address). with_policy (given_addresses addresses s) g s) o s)
given_now g s None h = h
given_now g s (Some addresses) h = plain s (with_policy (given_addresses addresses s) g s) refl refl h

replaced_now : (s : Seen) (o : Option PolicyUse) → Retried s → Retried (option_map_or (λ (g : PolicyUse). policy_retired g.number s) o s)
replaced_now s None h = h
replaced_now s (Some g) h = plain s (policy_retired g.number s) refl refl h

module _ (o : OpenEntry) (s : Seen) (kept : IsKept s) (counted : IsCounted s) (repeat : RetriesRepeat s) (h : Retried s) where
  abbrev same_as : (t : Seen) → t.attempts ≡ s.attempts → t.links ≡ s.links → Retried t
  same_as t b d = plain s t b d h

  act : (x : Action) → IsFair x s → FitsRetried x s → Retried (after_in o x s)
  act (action.EntryOpens posted word e) fair fits = h
  act (action.EventRefused why) fair fits = same_as (replied (reply.Refused why) s) refl refl
  act (action.EventAnswered r) fair fits = same_as (replied r s) refl refl
  act action.SettlingBegins fair fits = same_as (settling s) refl refl
  act action.EntryCloses fair fits =
      plain (record s { links = map (noted_gone s) s.links }) (entry_made o s) refl refl
      (links_mapped (noted_gone s) s (λ l e. gone_same s (is_none l.gone && is_gone l s) l ∙ e) h)
  act action.CallBegins fair fits = begun_now o.event s h
  act (action.MessageAccepted call) fair fits = same_as (message_accepted call o.event s) refl refl
  act (action.RequestFinished call) fair fits = same_as (request_finished call s) refl refl
  act (action.ItemTaken call item) fair fits = same_as (item_taken call item s) refl refl
  act (action.CallEnds call why) fair fits = same_as (after_in o (action.CallEnds call why) s) refl refl
  act (action.ConfigRead x) fair fits = read_now x s h
  act action.ResolutionFailed fair fits = same_as (resolution_failed s) refl refl
  act (action.CallConfigured call config) fair fits = same_as (after_in o (action.CallConfigured call config) s) refl refl
  act (action.AttemptMade call number k due) fair fits =
      let a : Attempt = record { place = length s.attempts + 1; row = new_row call number k due; made = entry s; reset = false } in
      let u : Seen = with_row (new_row call number k due) s in
      let m : Seen = marked (mark.Made (length s.attempts + 1)) call u in
      turned_now (is_transparent k) m
      (plain u m refl refl (row_more s.links s.attempts a (made_fits s call number k due (length s.attempts + 1) (entry s) kept counted repeat fits h) h))
  act (action.HedgeWithheld call) fair fits = turned_now false (marked mark.Withheld call s) (same_as (marked mark.Withheld call s) refl refl)
  act (action.PickRequested row g answer) fair fits = same_as (pick_requested row g answer s) refl refl
  act (action.AttemptPlaced row at_link) fair fits =
      let u : Seen = with_attempt (with_placing at_link) row s in
      row_marked (mark.Placed row) u (numbered u.attempts row)
      (attempt_now (with_placing at_link) row s (λ a got. unplaced_moves s.links at_link a (fits.1 a got) fits.0) h)
  act (action.AttemptEnds row e) fair fits = ended_now row e s (numbered s.attempts row) refl kept fair fits h
  act (action.CallCommitted row why) fair fits =
      let u : Seen = with_attempt (with_commitment (entry s)) row s in
      row_marked mark.Committed u (numbered u.attempts row)
      (changes_row (with_commitment (entry s)) row s (λ q. record { call = refl; number = refl; ended = refl; placed = refl; stream = refl }) h)
  act (action.StreamReset row number) fair fits = reset_now number s (numbered s.attempts row) h
  act (action.PolicyBegins k) fair fits = same_as (policy_begun k s) refl refl
  act (action.AddressesGiven g) fair fits = given_now g s (addresses_in o.event) h
  act (action.PolicyTakesOver g) fair fits =
      let u : Seen = option_map_or (λ (p : PolicyUse). policy_retired p.number s) (current_policy s) s in
      plain u (policy_took_over g s) refl refl (replaced_now s (current_policy s) h)
  act (action.PolicyRetired g) fair fits = same_as (policy_retired g s) refl refl
  act (action.SubchannelAdded address) fair fits = same_as (after_in o (action.SubchannelAdded address) s) refl refl
  act (action.SubchannelShut sub) fair fits = board_now (without_link conn.Shutdown) sub s h
  act (action.SubchannelConnects sub) fair fits = board_now (in_state conn.Connecting) sub s h
  act (action.DialTaken sub again until) fair fits = dialled_now again until s (numbered s.subs sub) h
  act (action.DialFails sub) fair fits =
      let u : Seen = with_sub (without_link conn.Failure) sub (wants_resolution s) in
      plain u (dial_failed sub s) refl refl (board_now (without_link conn.Failure) sub (wants_resolution s) (same_as (wants_resolution s) refl refl))
  act (action.ConnectTimesOut sub) fair fits = late_now sub s (numbered s.subs sub) h
  act (action.BackoffEnds sub) fair fits = board_now (in_state conn.Idle) sub s h
  act (action.LinkUp sub) fair fits =
      let u : Seen = record s { links = s.links ++ new_link (length s.links + 1) sub s ∷ [] } in
      let f : Subchannel → Subchannel = λ (b : Subchannel). record b { link = Some (length s.links + 1) } in
      plain (with_sub f sub u) (link_up sub s) refl refl (board_now f sub u (links_more (new_link (length s.links + 1) sub s) s h))
  act (action.SettingsArrive sub) fair fits = board_now (λ (b : Subchannel). record b { state = conn.Ready; dials = 0; until = None }) sub s h
  act (action.LinkDown sub) fair fits = board_now gone_down sub s h
  act (action.BytesArrive link) fair fits =
      let u : Seen = with_link (with_piece o.event) link s in
      plain u (replied reply.Done u) refl refl (line_now (with_piece o.event) link s (piece_same o.event) h)
  act (action.FrameRead link r) fair fits = frame_now r s (numbered s.links link) h
  act (action.LinkBreaks link number) fair fits = plain (link_over over.Broken link s) (link_broken link s) refl refl (over_now over.Broken link s h)
  act (action.LinkLost link) fair fits = plain (link_over over.Lost link s) (link_lost link s) refl refl (over_now over.Lost link s h)
  act (action.PingQueued link) fair fits =
      let u : Seen = owed (ping_of o.event) link s in
      plain u (replied reply.Done u) refl refl (line_now (λ (l : Link). record l { owed = l.owed ++ ping_of o.event }) link s (λ l. refl) h)
  act (action.FrameWritten link x) fair fits = written_now x s (numbered s.links link) kept h
  act action.ChannelShuts fair fits = same_as (replied reply.Done (record s { shut = true })) refl refl

act_if : (c : Option OpenEntry) (x : Action) (s : Seen) → IsKept s → IsCounted s → RetriesRepeat s → IsFair x s → FitsRetried x s → Retried s → Retried (after_if c x s)
act_if (Some o) x s kept counted repeat fair fits h = act o s kept counted repeat h x fair fits
act_if None (action.EntryOpens posted word e) s kept counted repeat fair fits h = plain s (opened posted word e s) refl refl h
act_if None x s kept counted repeat fair fits h = h

pub retried_after : (s : Seen) (x : Action) → IsKept s → IsCounted s → RetriesRepeat s → IsFair x s → FitsRetried x s → Retried s → Retried (after x s)
retried_after s x kept counted repeat fair fits h = act_if s.current x s kept counted repeat fair fits h
