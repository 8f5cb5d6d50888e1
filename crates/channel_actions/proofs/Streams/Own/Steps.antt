-- So it is after each of the 41 actions, where its line says of it what it does.
use Rattle.attempt_ledger.specs.Ends.{is_cut}
use Rattle.attempt_ledger.specs.Numbering.{is_transparent}
use Rattle.attempt_ledger.specs.declared.row.Placed.{Placed}
use Rattle.attempt_ledger.specs.declared.row.RowEnd.{RowEnd}
use Rattle.grpc_base.specs.declared.address.Address.{Address}
use Rattle.grpc_base.specs.declared.event.ConfigFault.{ConfigFault}
use Rattle.grpc_base.specs.declared.event.Conn.TheVariants as conn
use Rattle.grpc_base.specs.declared.event.Event.TheVariants as event
use Rattle.grpc_base.specs.declared.event.Event.{Event}
use Rattle.grpc_base.specs.declared.event.Reply.TheVariants as reply
use Rattle.grpc_base.specs.declared.plan.Throttle.{Throttle}
use Rattle.h2_frame.specs.Frames.{FrameSeen}
use Rattle.h2_frame.specs.Numbers.{headers_type}
use Rattle.h2_frame.specs.Sent.{rst_stream_frame}
use Rattle.channel_actions.proofs.KeptSessions.Lists.{all_at, counted_places, own_number}
use Rattle.channel_actions.specs.KeptSessions.Kept.{IsKept}
use Rattle.channel_actions.proofs.Links.Prefaced.Fits.{FitsPrefaced}
use Rattle.channel_actions.proofs.Streams.Own.Frames.{headers_open, opens_next, passed_opens, sent_next}
use Rattle.channel_actions.proofs.Streams.Own.Parts.{Own, OwnOf, attempts_more, changes_row, link_now, links_mapped, links_more, placed_now, plain, streamed_now}
use Rattle.service_config.specs.declared.config.Config.{Config}
use Rattle.session_actions.specs.Actions.{after, after_if, after_in}
use Rattle.session_actions.specs.AttemptEnds.{attempt_ended_as, stream_reset_of, with_end, with_end_in_run, with_reset_queued}
use Rattle.session_actions.specs.Attempts.{call_of, is_outstanding, is_to_follow, with_attempt}
use Rattle.session_actions.specs.Calls.{marked}
use Rattle.session_actions.specs.Closing.{entry_made, noted_gone}
use Rattle.session_actions.specs.Commitments.{with_commitment}
use Rattle.session_actions.specs.Configs.{config_of_call, config_read, resolution_failed, resolver_answered, run_to_join, with_config, with_held, with_run, with_throttled}
use Rattle.session_actions.specs.Deliveries.{call_begun_by, item_taken, message_accepted, request_finished}
use Rattle.session_actions.specs.Entries.{entry, opened, replied, settling}
use Rattle.session_actions.specs.Links.{link_number, link_over, owed, stream_number, wants_resolution, with_link}
use Rattle.session_actions.specs.Making.{new_row, with_row, without_turn_unless}
use Rattle.session_actions.specs.Policies.{addresses_in, current_policy, given_addresses, pick_requested, policy_begun, policy_retired, policy_took_over, with_placing, with_policy}
use Rattle.session_actions.specs.Reading.{is_outstanding_on, outstanding_on}
use Rattle.session_actions.specs.Refusals.{is_gone}
use Rattle.session_actions.specs.Subchannels.{dial_failed, dial_taken_of, gone_down, in_state, link_timed_out, link_up, new_link, noted_by_policies, with_dial, with_sub, without_link}
use Rattle.session_actions.specs.Words.{changed, holds, numbered}
use Rattle.session_actions.specs.Writing.{frame_read_on, frame_written_on, is_control, link_broken, link_lost, next_stream, owed_for, ping_of, sendable, stream_opened, stream_opened_by, waiting_on, with_frame_read, with_piece, with_stream}
use Rattle.session_actions.specs.declared.action.Action.TheVariants as action
use Rattle.session_actions.specs.declared.action.Action.{Action}
use Rattle.session_actions.specs.declared.attempt.Attempt.{Attempt}
use Rattle.session_actions.specs.declared.call.Call.{Call}
use Rattle.session_actions.specs.declared.call.MarkKind.TheVariants as mark
use Rattle.session_actions.specs.declared.call.MarkKind.{MarkKind}
use Rattle.session_actions.specs.declared.config.HeldConfig.{HeldConfig}
use Rattle.session_actions.specs.declared.config.ThrottleRun.{ThrottleRun}
use Rattle.session_actions.specs.declared.entry.OpenEntry.{OpenEntry}
use Rattle.session_actions.specs.declared.link.Link.{Link}
use Rattle.session_actions.specs.declared.link.LinkOver.TheVariants as over
use Rattle.session_actions.specs.declared.link.LinkOver.{LinkOver}
use Rattle.session_actions.specs.declared.link.ReadFrame.{ReadFrame}
use Rattle.session_actions.specs.declared.link.Sent.TheVariants as sent
use Rattle.session_actions.specs.declared.link.Sent.{Sent}
use Rattle.session_actions.specs.declared.link.Traffic.TheVariants as traffic
use Rattle.session_actions.specs.declared.policy.PolicyUse.{PolicyUse}
use Rattle.session_actions.specs.declared.seen.Seen.{Seen}
use Rattle.session_actions.specs.declared.subchannel.Subchannel.{Subchannel}
use Rattle.std.proofs.Common.{Bool, Err, List, None, Ok, Option, Result, Some, [], ap, cond, eqb-true, false, filter, if◌then◌else◌, is_none, length, map, not, option_and_then, refl, slice_get, subst, sym, true, zero, suc, ℕ, ◌&&◌, ◌++◌, ◌+◌, ◌==◌, ◌||◌, ◌∙◌, ◌∷◌, ◌≡◌}
use Rattle.std.proofs.lemmas.Bool.{and_parts}
use Rattle.std.specs.List.{list_all}
use Rattle.std.specs.Option.{option_map_or}
use Rattle.std.specs.Prelude.{nat_lt}

-- the first of those that pass a test
abbrev pub Each : {X : Type 0} → (X → Type 0) → List X → Type 0
Each P [] = Unit {0}
Each P (x ∷ xs) = P x × Each P xs

pub each_from : {X : Type 0} (P : X → Type 0) (xs : List X) → ((i : ℕ) (x : X) → slice_get xs i ≡ Some x → P x) → Each P xs
each_from P [] each = tt
each_from P (x ∷ xs) each = (each zero x refl, each_from P xs (λ i y got. each (suc i) y got))

filter_by : {X : Type 0} (P : X → Type 0) (q : X → Bool) (b : Bool) (x : X) (ys : List X) → q x ≡ b → P x → Each (λ y. P y × (q y ≡ true)) ys
    → Each (λ y. P y × (q y ≡ true)) (cond b (x ∷ ys) ys)
filter_by P q true x ys e p rest = ((p, e), rest)
filter_by P q false x ys e p rest = rest

pub each_filter : {X : Type 0} (P : X → Type 0) (q : X → Bool) (xs : List X) → Each P xs → Each (λ y. P y × (q y ≡ true)) (filter q xs)
each_filter P q [] e = tt
each_filter P q (x ∷ xs) e = filter_by P q (q x) x (filter q xs) refl e.0 (each_filter P q xs e.1)

pub first_has : {X : Type 0} (P : X → Type 0) (xs : List X) (x : X) → slice_get xs 0 ≡ Some x → Each P xs → P x
first_has P [] x got e = absurd (cc)
first_has P (y ∷ xs) x got e = let one : y ≡ x = (cc) in subst P one e.0

-- calls, entries and configs
begun_now : (e : Event) (s : Seen) → Own s → Own (call_begun_by e s)
begun_now (event.Begin request) s h = plain s (call_begun_by (event.Begin request) s) refl refl h
begun_now _ s h = h

throttled_now : (config : Config) (t : Throttle) (run : Option ℕ) (s : Seen) → Own s → Own (with_throttled config t run s)
throttled_now config t (Some run) s h = plain s (with_config config (Some run) s) refl refl h
throttled_now config t None s h = plain s (with_config config (Some (length s.runs + 1)) (with_run t s)) refl refl h

held_now : (config : Config) (t : Option Throttle) (s : Seen) → Own s → Own (with_held config t s)
held_now config None s h = plain s (with_config config None s) refl refl h
held_now config (Some t) s h = throttled_now config t (run_to_join t s) s h

read_now : (x : Result Config ConfigFault) (s : Seen) → Own s → Own (config_read x s)
read_now (Ok config) s h =
    held_now config config.throttle (replied reply.Done (resolver_answered s)) (plain s (replied reply.Done (resolver_answered s)) refl refl h)
read_now (Err fault) s h = plain s (replied (reply.BadConfig fault) (resolver_answered s)) refl refl h

turned_now : (b : Bool) (s : Seen) → Own s → Own (without_turn_unless b s)
turned_now true s h = h
turned_now false s h = plain s (without_turn_unless false s) refl refl h

row_marked : (what : MarkKind) (s : Seen) (o : Option Attempt) → Own s → Own (option_map_or (λ (a : Attempt). marked what a.row.call s) o s)
row_marked what s None h = h
row_marked what s (Some a) h = plain s (marked what a.row.call s) refl refl h

-- attempts
run_by : (s : Seen) (a : Attempt) (b : Bool) (run : Option ℕ) → Own s
    → Own (if b then option_map_or (λ (k : ℕ). record s { runs = changed (λ (u : ThrottleRun). record u { ends = u.ends ++ a.place ∷ [] }) k s.runs }) run s else s)
run_by s a true None h = h
run_by s a true (Some k) h = plain s (record s { runs = changed (λ (u : ThrottleRun). record u { ends = u.ends ++ a.place ∷ [] }) k s.runs }) refl refl h
run_by s a false run h = h

counted_in : (s : Seen) (a : Attempt) (e : RowEnd) (c : Option Call) → Own s → Own (option_map_or (with_end_in_run a e s) c s)
counted_in s a e None h = h
counted_in s a e (Some c) h =
    run_by s a (not (is_cut e.cause) && not (is_to_follow c e.cause e.unseen s)) (option_and_then (λ (x : HeldConfig). x.run) (config_of_call c s)) h

ended_now : (e : RowEnd) (s : Seen) (o : Option Attempt) → Own s → Own (option_map_or (attempt_ended_as e s) o s)
ended_now e s None h = h
ended_now e s (Some a) h =
    let u : Seen = option_map_or (with_end_in_run a e s) (call_of a s) s in
    plain (with_attempt (with_end e) a.place u) (attempt_ended_as e s a) refl refl
    (changes_row u (with_end e) a.place (λ q. refl) (λ q. refl) (counted_in s a e (call_of a s) h))

-- links
line_now : (f : Link → Link) (n : ℕ) (s : Seen) → ((l : Link) → next_stream (f l) ≡ next_stream l) → Own s → Own (record s { links = changed f n s.links })
line_now f n s same h = link_now f n s (λ l m e. ap (nat_lt m) (same l) ∙ e) h

over_now : (why : LinkOver) (link : ℕ) (s : Seen) → Own s → Own (link_over why link s)
over_now why link s h = line_now (λ (l : Link). record l { over = Some why }) link s (λ l. refl) h

reset_now : (number : ℕ) (s : Seen) (o : Option Attempt) → Own s → Own (option_map_or (stream_reset_of number s) o s)
reset_now number s None h = h
reset_now number s (Some a) h =
    line_now (λ (l : Link). record l { owed = l.owed ++ rst_stream_frame (stream_number a) number ∷ [] }) (link_number a) (with_attempt with_reset_queued a.place s) (λ l. refl)
    (changes_row s with_reset_queued a.place (λ q. refl) (λ q. refl) h)

piece_same : (e : Event) (l : Link) → next_stream (with_piece e l) ≡ next_stream l
piece_same (event.Arrived link piece) l = refl
piece_same _ l = refl

gone_same : (s : Seen) (b : Bool) (l : Link) → next_stream (if b then record l { gone = Some (entry s) } else l) ≡ next_stream l
gone_same s true l = refl
gone_same s false l = refl

frame_now : (r : ReadFrame) (s : Seen) (o : Option Link) → Own s → Own (option_map_or (frame_read_on r s) o s)
frame_now r s None h = h
frame_now r s (Some l) h =
    let f : Link → Link = with_frame_read r (owed_for r.frame l s) in link_now f l.number s (λ k m e. passed_opens k (f k) (traffic.Read r) refl m e) h

-- what is written: HEADERS give the next stream to the first attempt that waits
abbrev with_sent : Sent → Link → Link
with_sent x l = record l { traffic = l.traffic ++ traffic.Written x ∷ [] }

sent_opens : (x : Sent) (l : Link) (n : ℕ) → nat_lt n (next_stream l) ≡ true → nat_lt n (next_stream (with_sent x l)) ≡ true
sent_opens x l n e = passed_opens l (with_sent x l) (traffic.Written x) refl n e

placed_by : (l : Link) (p : Option Placed) → holds (λ (at : Placed). at.link == l.number) p ≡ true → (at : Placed) × (p ≡ Some at) × (at.link ≡ l.number)
placed_by l None e = absurd (cc)
placed_by l (Some at) e = (at, refl, eqb-true at.link l.number e)

module _ (s : Seen) (l : Link) (kept : IsKept s) (line : numbered s.links l.number ≡ Some l) (h : Own s) where
  abbrev IsOwn : Attempt → Type 0
  IsOwn a = numbered s.attempts a.place ≡ Some a

  first_waits : (a : Attempt) → slice_get (waiting_on l s) 0 ≡ Some a → IsOwn a × (is_outstanding_on l a ≡ true)
  first_waits a got =
      (first_has (λ (q : Attempt). (IsOwn q × (is_outstanding_on l q ≡ true)) × (is_none q.row.stream ≡ true)) (waiting_on l s) a got
      (each_filter (λ (q : Attempt). IsOwn q × (is_outstanding_on l q ≡ true)) (λ (q : Attempt). is_none q.row.stream) (outstanding_on l s)
      (each_filter IsOwn (is_outstanding_on l) s.attempts
      (each_from IsOwn s.attempts (λ i q at. own_number (λ (z : Attempt). z.place) s.attempts i q kept.attempts at))))).0

  opened_by : (f : FrameSeen) (o : Option Attempt) → slice_get (waiting_on l s) 0 ≡ o → (f.kind == headers_type) ≡ true → f.stream ≡ next_stream l
      → OwnOf (option_map_or (λ (a : Attempt). with_attempt (with_stream f.stream) a.place s) o s).attempts (changed (with_sent (sent.Frame f)) l.number s.links)
  opened_by f None got kind next = link_now (with_sent (sent.Frame f)) l.number s (sent_opens (sent.Frame f)) h
  opened_by f (Some a) got kind next =
      let waits : IsOwn a × (is_outstanding_on l a ≡ true) = first_waits a got in
      let on : (at : Placed) × (a.row.placed ≡ Some at) × (at.link ≡ l.number)
      = placed_by l a.row.placed (and_parts (is_outstanding a) (holds (λ (at : Placed). at.link == l.number) a.row.placed) waits.1).1 in
      streamed_now s (with_sent (sent.Frame f)) l a on.0 f.stream (sent_opens (sent.Frame f)) waits.0 on.1 on.2 line next
      (ap (λ (n : ℕ). nat_lt n (next_stream (with_sent (sent.Frame f) l))) next ∙ headers_open l (with_sent (sent.Frame f) l) f refl kind) h

  opened_if : (f : FrameSeen) (b : Bool) → (f.kind == headers_type) ≡ b → (not b || (f.stream == next_stream l)) ≡ true
      → OwnOf (if b then stream_opened f l s else s).attempts (changed (with_sent (sent.Frame f)) l.number s.links)
  opened_if f true kind next = opened_by f (slice_get (waiting_on l s) 0) refl kind (eqb-true f.stream (next_stream l) next)
  opened_if f false kind next = link_now (with_sent (sent.Frame f)) l.number s (sent_opens (sent.Frame f)) h

  links_if : (f : FrameSeen) (o : Option Attempt) → (option_map_or (λ (a : Attempt). with_attempt (with_stream f.stream) a.place s) o s).links ≡ s.links
  links_if f None = refl
  links_if f (Some a) = refl

  links_by : (f : FrameSeen) (b : Bool) → (if b then stream_opened f l s else s).links ≡ s.links
  links_by f true = links_if f (slice_get (waiting_on l s) 0)
  links_by f false = refl

  sent_now : (x : Sent) → opens_next l x ≡ true → OwnOf (stream_opened_by x l s).attempts (changed (with_sent x) l.number (stream_opened_by x l s).links)
  sent_now sent.Preface next = link_now (with_sent sent.Preface) l.number s (sent_opens sent.Preface) h
  sent_now (sent.Frame f) next =
      subst (λ (ls : List Link). OwnOf (if f.kind == headers_type then stream_opened f l s else s).attempts (changed (with_sent (sent.Frame f)) l.number ls))
      (sym (links_by f (f.kind == headers_type))) (opened_if f (f.kind == headers_type) refl next)

written_now : (x : Sent) (link : ℕ) (s : Seen) (o : Option Link) → IsKept s → numbered s.links link ≡ o → ((l : Link) → numbered s.links link ≡ Some l → sendable l s ≡ Some x)
    → Own s → Own (option_map_or (frame_written_on x s) o s)
written_now x link s None kept got fits h = h
written_now x link s (Some l) kept got fits h =
    let here : l.number ≡ link = counted_places (λ (k : Link). k.number) s.links kept.links link l got in
    let line : numbered s.links l.number ≡ Some l = ap (numbered s.links) here ∙ got in
    sent_now s l kept line h x (sent_next l s x (all_at (λ (k : Link). list_all is_control k.owed) s.links link l kept.queued got) (fits l got))

-- subchannels and policies
noted_now : (s : Seen) (o : Option Subchannel) → Own s → Own (option_map_or (λ (b : Subchannel). noted_by_policies b s) o s)
noted_now s None h = h
noted_now s (Some b) h = plain s (noted_by_policies b s) refl refl h

board_now : (f : Subchannel → Subchannel) (n : ℕ) (s : Seen) → Own s → Own (with_sub f n s)
board_now f n s h = noted_now (record s { subs = changed f n s.subs }) (numbered (changed f n s.subs) n) (plain s (record s { subs = changed f n s.subs }) refl refl h)

dialled_now : (again until : ℕ) (s : Seen) (o : Option Subchannel) → Own s → Own (option_map_or (dial_taken_of again until s) o s)
dialled_now again until s None h = h
dialled_now again until s (Some b) h =
    plain (with_sub (with_dial again until) b.number s) (dial_taken_of again until s b) refl refl (board_now (with_dial again until) b.number s h)

late_by : (n : ℕ) (s : Seen) (o : Option ℕ) → Own s
    → Own (with_sub (without_link conn.Failure) n (wants_resolution (option_map_or (λ (link : ℕ). link_over over.TimedOut link s) o s)))
late_by n s None h = board_now (without_link conn.Failure) n (wants_resolution s) (plain s (wants_resolution s) refl refl h)
late_by n s (Some link) h =
    let u : Seen = link_over over.TimedOut link s in
    board_now (without_link conn.Failure) n (wants_resolution u) (plain u (wants_resolution u) refl refl (over_now over.TimedOut link s h))

late_now : (n : ℕ) (s : Seen) (o : Option Subchannel) → Own s
    → Own (with_sub (without_link conn.Failure) n (wants_resolution (option_map_or (λ (b : Subchannel). link_timed_out b s) o s)))
late_now n s None h = board_now (without_link conn.Failure) n (wants_resolution s) (plain s (wants_resolution s) refl refl h)
late_now n s (Some b) h = late_by n s b.link h

given_now : (g : ℕ) (s : Seen) (o : Option (List Address)) → Own s → Own (option_map_or (λ (addresses : List Address). with_policy (given_addresses addresses s) g s) o s)
given_now g s None h = h
given_now g s (Some addresses) h = plain s (with_policy (given_addresses addresses s) g s) refl refl h

replaced_now : (s : Seen) (o : Option PolicyUse) → Own s → Own (option_map_or (λ (g : PolicyUse). policy_retired g.number s) o s)
replaced_now s None h = h
replaced_now s (Some g) h = plain s (policy_retired g.number s) refl refl h

module _ (o : OpenEntry) (s : Seen) (kept : IsKept s) (h : Own s) where
  abbrev same_as : (t : Seen) → t.attempts ≡ s.attempts → t.links ≡ s.links → Own t
  same_as t b d = plain s t b d h

  act : (x : Action) → FitsPrefaced x s → Own (after_in o x s)
  act (action.EntryOpens posted word e) fits = h
  act (action.EventRefused why) fits = same_as (replied (reply.Refused why) s) refl refl
  act (action.EventAnswered r) fits = same_as (replied r s) refl refl
  act action.SettlingBegins fits = same_as (settling s) refl refl
  act action.EntryCloses fits =
      plain (record s { links = map (noted_gone s) s.links }) (entry_made o s) refl refl
      (links_mapped (noted_gone s) s (λ l m e. ap (nat_lt m) (gone_same s (is_none l.gone && is_gone l s) l) ∙ e) h)
  act action.CallBegins fits = begun_now o.event s h
  act (action.MessageAccepted call) fits = same_as (message_accepted call o.event s) refl refl
  act (action.RequestFinished call) fits = same_as (request_finished call s) refl refl
  act (action.ItemTaken call item) fits = same_as (item_taken call item s) refl refl
  act (action.CallEnds call why) fits = same_as (after_in o (action.CallEnds call why) s) refl refl
  act (action.ConfigRead x) fits = read_now x s h
  act action.ResolutionFailed fits = same_as (resolution_failed s) refl refl
  act (action.CallConfigured call config) fits = same_as (after_in o (action.CallConfigured call config) s) refl refl
  act (action.AttemptMade call number k due) fits =
      let a : Attempt = record { place = length s.attempts + 1; row = new_row call number k due; made = entry s; reset = false } in
      let u : Seen = with_row (new_row call number k due) s in
      let m : Seen = marked (mark.Made (length s.attempts + 1)) call u in
      turned_now (is_transparent k) m (plain u m refl refl (attempts_more a s refl h))
  act (action.HedgeWithheld call) fits = turned_now false (marked mark.Withheld call s) (same_as (marked mark.Withheld call s) refl refl)
  act (action.PickRequested row g answer) fits = same_as (pick_requested row g answer s) refl refl
  act (action.AttemptPlaced row where_to) fits =
      let u : Seen = with_attempt (with_placing where_to) row s in
      row_marked (mark.Placed row) u (numbered u.attempts row) (placed_now s (with_placing where_to) row (λ a. refl) fits.1 h)
  act (action.AttemptEnds row e) fits = ended_now e s (numbered s.attempts row) h
  act (action.CallCommitted row why) fits =
      let u : Seen = with_attempt (with_commitment (entry s)) row s in
      row_marked mark.Committed u (numbered u.attempts row) (changes_row s (with_commitment (entry s)) row (λ q. refl) (λ q. refl) h)
  act (action.StreamReset row number) fits = reset_now number s (numbered s.attempts row) h
  act (action.PolicyBegins k) fits = same_as (policy_begun k s) refl refl
  act (action.AddressesGiven g) fits = given_now g s (addresses_in o.event) h
  act (action.PolicyTakesOver g) fits =
      let u : Seen = option_map_or (λ (p : PolicyUse). policy_retired p.number s) (current_policy s) s in
      plain u (policy_took_over g s) refl refl (replaced_now s (current_policy s) h)
  act (action.PolicyRetired g) fits = same_as (policy_retired g s) refl refl
  act (action.SubchannelAdded address) fits = same_as (after_in o (action.SubchannelAdded address) s) refl refl
  act (action.SubchannelShut sub) fits = board_now (without_link conn.Shutdown) sub s h
  act (action.SubchannelConnects sub) fits = board_now (in_state conn.Connecting) sub s h
  act (action.DialTaken sub again until) fits = dialled_now again until s (numbered s.subs sub) h
  act (action.DialFails sub) fits =
      let u : Seen = with_sub (without_link conn.Failure) sub (wants_resolution s) in
      plain u (dial_failed sub s) refl refl (board_now (without_link conn.Failure) sub (wants_resolution s) (same_as (wants_resolution s) refl refl))
  act (action.ConnectTimesOut sub) fits = late_now sub s (numbered s.subs sub) h
  act (action.BackoffEnds sub) fits = board_now (in_state conn.Idle) sub s h
  act (action.LinkUp sub) fits =
      let u : Seen = record s { links = s.links ++ new_link (length s.links + 1) sub s ∷ [] } in
      let f : Subchannel → Subchannel = λ (b : Subchannel). record b { link = Some (length s.links + 1) } in
      plain (with_sub f sub u) (link_up sub s) refl refl (board_now f sub u (links_more (new_link (length s.links + 1) sub s) s h))
  act (action.SettingsArrive sub) fits = board_now (λ (b : Subchannel). record b { state = conn.Ready; dials = 0; until = None }) sub s h
  act (action.LinkDown sub) fits = board_now gone_down sub s h
  act (action.BytesArrive link) fits =
      let u : Seen = with_link (with_piece o.event) link s in
      plain u (replied reply.Done u) refl refl (line_now (with_piece o.event) link s (piece_same o.event) h)
  act (action.FrameRead link r) fits = frame_now r s (numbered s.links link) h
  act (action.LinkBreaks link number) fits = plain (link_over over.Broken link s) (link_broken link s) refl refl (over_now over.Broken link s h)
  act (action.LinkLost link) fits = plain (link_over over.Lost link s) (link_lost link s) refl refl (over_now over.Lost link s h)
  act (action.PingQueued link) fits =
      let u : Seen = owed (ping_of o.event) link s in
      plain u (replied reply.Done u) refl refl (line_now (λ (l : Link). record l { owed = l.owed ++ ping_of o.event }) link s (λ l. refl) h)
  act (action.FrameWritten link x) fits = written_now x link s (numbered s.links link) kept refl fits h
  act action.ChannelShuts fits = same_as (replied reply.Done (record s { shut = true })) refl refl

act_if : (c : Option OpenEntry) (x : Action) (s : Seen) → IsKept s → FitsPrefaced x s → Own s → Own (after_if c x s)
act_if (Some o) x s kept fits h = act o s kept h x fits
act_if None (action.EntryOpens posted word e) s kept fits h = plain s (opened posted word e s) refl refl h
act_if None x s kept fits h = h

pub own_after : (s : Seen) (x : Action) → IsKept s → FitsPrefaced x s → Own s → Own (after x s)
own_after s x kept fits h = act_if s.current x s kept fits h
