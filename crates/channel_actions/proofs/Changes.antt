-- A relation between sessions that holds of each small change holds of each action that consists of such changes. So what is counted along a session is counted without
-- going through the kinds of action once more.
use Rattle.attempt_ledger.specs.Ends.{is_cut}
use Rattle.attempt_ledger.specs.Numbering.{is_transparent}
use Rattle.attempt_ledger.specs.declared.ledger.Ask.{Ask}
use Rattle.attempt_ledger.specs.declared.row.Placed.{Placed}
use Rattle.attempt_ledger.specs.declared.row.RowEnd.{RowEnd}
use Rattle.attempt_ledger.specs.declared.row.RowKind.{RowKind}
use Rattle.grpc_base.specs.declared.address.Address.{Address}
use Rattle.grpc_base.specs.declared.event.ConfigFault.{ConfigFault}
use Rattle.grpc_base.specs.declared.event.Conn.TheVariants as conn
use Rattle.grpc_base.specs.declared.event.Event.TheVariants as event
use Rattle.grpc_base.specs.declared.event.Event.{Event}
use Rattle.grpc_base.specs.declared.event.Reply.TheVariants as reply
use Rattle.grpc_base.specs.declared.event.Reply.{Reply}
use Rattle.grpc_base.specs.declared.kind.Pick.{Pick}
use Rattle.grpc_base.specs.declared.plan.Throttle.{Throttle}
use Rattle.h2_frame.specs.Frames.{FrameSeen}
use Rattle.h2_frame.specs.Numbers.{headers_type}
use Rattle.h2_frame.specs.Sent.{rst_stream_frame}
use Rattle.service_config.specs.declared.config.Config.{Config}
use Rattle.session_actions.specs.Actions.{after_in}
use Rattle.session_actions.specs.AttemptEnds.{attempt_ended_as, stream_reset_of, with_end, with_end_in_run, with_reset_queued}
use Rattle.session_actions.specs.Attempts.{call_of, is_to_follow, with_attempt}
use Rattle.session_actions.specs.CallEnds.{is_after_event, is_refusal, is_replied}
use Rattle.session_actions.specs.Calls.{marked, with_call}
use Rattle.session_actions.specs.Commitments.{with_commitment}
use Rattle.session_actions.specs.Configs.{config_of_call, config_read, resolver_answered, run_to_join, with_config, with_held, with_run, with_throttled}
use Rattle.session_actions.specs.Deliveries.{is_end, item_taken, with_message}
use Rattle.session_actions.specs.Entries.{entry, now, replied}
use Rattle.session_actions.specs.Links.{link_number, owed, stream_number, wants_resolution, with_link}
use Rattle.session_actions.specs.Making.{new_row, with_row, without_turn_unless}
use Rattle.session_actions.specs.Policies.{activated_in, addresses_in, current_policy, given_addresses, attempt_placed, is_unfollowed, pick_requested, policy_begun, policy_retired, policy_took_over, turn_at, with_placing, with_policy}
use Rattle.session_actions.specs.Subchannels.{gone_down, in_state, link_timed_out, noted_by_policies, sub_added, with_sub, without_link}
use Rattle.session_actions.specs.Words.{changed, holds, numbered}
use Rattle.session_actions.specs.Writing.{frame_read, frame_read_on, frame_written, frame_written_on, owed_for, ping_of, stream_opened, stream_opened_by, waiting_on, with_frame_read, with_stream, with_written_bytes}
use Rattle.session_actions.specs.declared.action.Action.TheVariants as action
use Rattle.session_actions.specs.declared.action.Action.{Action}
use Rattle.session_actions.specs.declared.attempt.Attempt.{Attempt}
use Rattle.session_actions.specs.declared.call.Call.{Call}
use Rattle.session_actions.specs.declared.call.MarkKind.TheVariants as mark
use Rattle.session_actions.specs.declared.call.MarkKind.{MarkKind}
use Rattle.session_actions.specs.declared.config.HeldConfig.{HeldConfig}
use Rattle.session_actions.specs.declared.config.ThrottleRun.{ThrottleRun}
use Rattle.session_actions.specs.declared.entry.OpenEntry.{OpenEntry}
use Rattle.session_actions.specs.declared.entry.Turn.{Turn}
use Rattle.session_actions.specs.declared.link.Link.{Link}
use Rattle.session_actions.specs.declared.link.LinkOver.TheVariants as over
use Rattle.session_actions.specs.declared.link.LinkOver.{LinkOver}
use Rattle.session_actions.specs.declared.link.ReadFrame.{ReadFrame}
use Rattle.session_actions.specs.declared.link.Sent.TheVariants as sent
use Rattle.session_actions.specs.declared.link.Sent.{Sent}
use Rattle.session_actions.specs.declared.link.Traffic.TheVariants as traffic
use Rattle.session_actions.specs.declared.policy.PolicyUse.{PolicyUse}
use Rattle.session_actions.specs.declared.seen.Seen.{Seen}
use Rattle.session_actions.specs.declared.subchannel.Subchannel.{Subchannel}
use Rattle.std.proofs.Common.{Bool, Err, List, None, Ok, Option, Result, Some, [], arith, false, if◌then◌else◌, is_none, is_some, length, not, option_and_then, option_map, refl, slice_get, true, ℕ, ◌&&◌, ◌++◌, ◌+◌, ◌==◌, ◌∷◌, ◌≡◌, ◌≤◌}
use Rattle.std.proofs.lemmas.Bool.{and_from, and_parts}
use Rattle.std.specs.Option.{option_map_or}

-- the small changes: of nothing that is counted; of one call, but not of its request and begin; of one attempt, but not of its place and stream, nor so that it waits
-- again; a new attempt. And those of one link, but not of what passed on it; of one subchannel, but for more dials of it; a new subchannel; and of the open entry, but not of its
-- moment, event and stage, and its answer
pub record Small (R : Seen → Seen → Type 0) : Type 0 where
  pub joined : (s t u : Seen) → R s t → R t u → R s u
  pub beside : (s t : Seen) → t.entries ≡ s.entries → t.current ≡ s.current → t.calls ≡ s.calls → t.attempts ≡ s.attempts → t.asks ≡ s.asks → t.subs ≡ s.subs → t.links ≡ s.links
      → R s t
  pub call : (f : Call → Call) → ((c : Call) → (f c).request ≡ c.request) → ((c : Call) → (f c).begun_at ≡ c.begun_at) → (n : ℕ) (s : Seen) → R s (with_call f n s)
  pub attempt : (f : Attempt → Attempt) → ((a : Attempt) → is_unfollowed (f a) ≡ true → is_unfollowed a ≡ true) → ((a : Attempt) → (f a).row.placed ≡ a.row.placed)
      → ((a : Attempt) → (f a).row.stream ≡ a.row.stream) → (n : ℕ) (s : Seen) → R s (with_attempt f n s)
  pub row : (call number : ℕ) (kind : RowKind) (due : ℕ) (s : Seen) → R s (with_row (new_row call number kind due) s)
  pub link : (f : Link → Link) → ((l : Link) → (f l).received ≡ l.received) → ((l : Link) → (f l).traffic ≡ l.traffic) → ((l : Link) → (f l).over ≡ None → l.over ≡ None) → (n : ℕ)
      (s : Seen) → R s (with_link f n s)
  pub sub : (f : Subchannel → Subchannel) → ((b : Subchannel) → (f b).dials ≤ b.dials) → (n : ℕ) (s : Seen) → R s (record s { subs = changed f n s.subs })
  pub added : (address : Address) (s : Seen) → R s (sub_added address s)
  pub entry : (f : OpenEntry → OpenEntry) → ((o : OpenEntry) → (f o).moment ≡ o.moment) → ((o : OpenEntry) → (f o).event ≡ o.event) → ((o : OpenEntry) → (f o).stage ≡ o.stage)
      → ((o : OpenEntry) → is_after_event o ≡ true → is_after_event (f o) ≡ true) → (s : Seen) → R s (record s { current = option_map f s.current })
  pub replied : (r : Reply) → is_refusal r ≡ false → (s : Seen) → R s (replied r s)

-- the actions that consist of these
abbrev pub is_small : Action → Bool
is_small (action.EventRefused why) = false
is_small (action.EventAnswered r) = false
is_small (action.ItemTaken call item) = false
is_small action.SettlingBegins = false
is_small action.EntryCloses = false
is_small action.CallBegins = false
is_small (action.PickRequested row generation answer) = false
is_small (action.AttemptPlaced row at) = false
is_small (action.DialTaken sub again until) = false
is_small (action.LinkUp sub) = false
is_small (action.BytesArrive link) = false
is_small (action.FrameRead link r) = false
is_small (action.FrameWritten link x) = false
is_small _ = true

-- a message leaves the request and the begin of its call
said_request : (e : Event) (c : Call) → (with_message e c).request ≡ c.request
said_request (event.Send call message) c = refl
said_request e c = refl

said_begin : (e : Event) (c : Call) → (with_message e c).begun_at ≡ c.begun_at
said_begin (event.Send call message) c = refl
said_begin e c = refl

-- an attempt that ended does not wait, and a link that is over is
ended_waits : (b : Bool) → (b && false) ≡ true → ⊥
ended_waits true e = (cc)
ended_waits false e = (cc)

never_over : {why : LinkOver} (l : Link) → Some why ≡ None → l.over ≡ None
never_over l e = absurd (cc)

-- an event that was answered is answered still while a drain writes
written_after : (x : Sent) (o : OpenEntry) → is_after_event o ≡ true → is_after_event (with_written_bytes x o) ≡ true
written_after x o e =
    and_from (is_replied o.stage) true (and_parts (is_replied o.stage) (holds (λ (r : Reply). not (is_refusal r)) o.reply) e).0 refl

module _ (R : Seen → Seen → Type 0) (k : Small R) where
  self : (s : Seen) → R s s
  self s = k.beside s s refl refl refl refl refl refl refl

  then_replied : (r : Reply) → is_refusal r ≡ false → (s t : Seen) → R s t → R s (replied r t)
  then_replied r e s t p = k.joined s t (replied r t) p (k.replied r e t)

  policy_now : (f : PolicyUse → PolicyUse) (n : ℕ) (s : Seen) → R s (with_policy f n s)
  policy_now f n s = k.beside s (with_policy f n s) refl refl refl refl refl refl refl

  marked_now : (what : MarkKind) (n : ℕ) (s : Seen) → R s (marked what n s)
  marked_now what n s = k.call (λ (c : Call). record c { marks = c.marks ++ record { what = what; moment = now s } ∷ [] }) (λ c. refl) (λ c. refl) n s

  row_marked : (what : MarkKind) (s : Seen) (o : Option Attempt) → R s (option_map_or (λ (a : Attempt). marked what a.row.call s) o s)
  row_marked what s None = self s
  row_marked what s (Some a) = marked_now what a.row.call s

  -- subchannels, with what policies note of them
  pub noted_now : (u : Seen) (o : Option Subchannel) → R u (option_map_or (λ (b : Subchannel). noted_by_policies b u) o u)
  noted_now u None = self u
  noted_now u (Some b) = k.beside u (noted_by_policies b u) refl refl refl refl refl refl refl

  pub sub_now : (f : Subchannel → Subchannel) → ((b : Subchannel) → (f b).dials ≤ b.dials) → (n : ℕ) (s : Seen) → R s (with_sub f n s)
  sub_now f less n s = let u : Seen = record s { subs = changed f n s.subs } in
      k.joined s u (with_sub f n s) (k.sub f less n s) (noted_now u (numbered u.subs n))

  then_sub : (f : Subchannel → Subchannel) → ((b : Subchannel) → (f b).dials ≤ b.dials) → (n : ℕ) (s t : Seen) → R s t → R s (with_sub f n t)
  then_sub f less n s t p = k.joined s t (with_sub f n t) p (sub_now f less n t)

  timed_by : (s : Seen) (o : Option ℕ) → R s (option_map_or (λ (link : ℕ). with_link (λ (l : Link). record l { over = Some over.TimedOut }) link s) o s)
  timed_by s None = self s
  timed_by s (Some link) = k.link (λ (l : Link). record l { over = Some over.TimedOut }) (λ l. refl) (λ l. refl) never_over link s

  timed_now : (s : Seen) (o : Option Subchannel) → R s (option_map_or (λ (b : Subchannel). link_timed_out b s) o s)
  timed_now s None = self s
  timed_now s (Some b) = timed_by s b.link

  -- configs
  throttled_now : (config : Config) (t : Throttle) (run : Option ℕ) (s : Seen) → R s (with_throttled config t run s)
  throttled_now config t (Some run) s = k.beside s (with_config config (Some run) s) refl refl refl refl refl refl refl
  throttled_now config t None s = k.beside s (with_config config (Some (length s.runs + 1)) (with_run t s)) refl refl refl refl refl refl refl

  held_now : (config : Config) (t : Option Throttle) (s : Seen) → R s (with_held config t s)
  held_now config None s = k.beside s (with_config config None s) refl refl refl refl refl refl refl
  held_now config (Some t) s = throttled_now config t (run_to_join t s) s

  resolved : (r : Reply) → is_refusal r ≡ false → (s : Seen) → R s (replied r (resolver_answered s))
  resolved r e s = then_replied r e s (resolver_answered s) (k.beside s (resolver_answered s) refl refl refl refl refl refl refl)

  read_now : (config : Result Config ConfigFault) (s : Seen) → R s (config_read config s)
  read_now (Ok config) s =
      let u : Seen = replied reply.Done (resolver_answered s) in k.joined s u (with_held config config.throttle u) (resolved reply.Done refl s) (held_now config config.throttle u)
  read_now (Err fault) s = resolved (reply.BadConfig fault) refl s

  -- attempts that end
  run_by : (s : Seen) (a : Attempt) (b : Bool) (run : Option ℕ)
      → R s (if b then option_map_or (λ (n : ℕ). record s { runs = changed (λ (u : ThrottleRun). record u { ends = u.ends ++ a.place ∷ [] }) n s.runs }) run s else s)
  run_by s a true None = self s
  run_by s a true (Some n) = k.beside s (record s { runs = changed (λ (u : ThrottleRun). record u { ends = u.ends ++ a.place ∷ [] }) n s.runs }) refl refl refl refl refl refl refl
  run_by s a false run = self s

  counted_in : (s : Seen) (a : Attempt) (e : RowEnd) (c : Option Call) → R s (option_map_or (with_end_in_run a e s) c s)
  counted_in s a e None = self s
  counted_in s a e (Some c) =
      run_by s a (not (is_cut e.cause) && not (is_to_follow c e.cause e.unseen s)) (option_and_then (λ (x : HeldConfig). x.run) (config_of_call c s))

  ended_now : (e : RowEnd) (s : Seen) (o : Option Attempt) → R s (option_map_or (attempt_ended_as e s) o s)
  ended_now e s None = self s
  ended_now e s (Some a) =
      let u : Seen = option_map_or (with_end_in_run a e s) (call_of a s) s in
      let v : Seen = with_attempt (with_end e) a.place u in
      let w : Seen = marked (mark.Ended a.place) a.row.call v in
      let draw : OpenEntry → OpenEntry = λ (x : OpenEntry). record x { drawn = x.drawn + (if is_some e.word then 1 else 0) } in
      k.joined s w (record w { current = option_map draw w.current })
      (k.joined s v w (k.joined s u v (counted_in s a e (call_of a s)) (k.attempt (with_end e) (λ b waits. absurd (let no : ⊥ = ended_waits (is_none b.row.placed) waits in no)) (λ b. refl) (λ b. refl) a.place u)) (marked_now (mark.Ended a.place) a.row.call v))
      (k.entry draw (λ x. refl) (λ x. refl) (λ x. refl) (λ x e. e) w)

  owed_now : (frames : List FrameSeen) (link : ℕ) (s : Seen) → R s (owed frames link s)
  owed_now frames link s = k.link (λ (l : Link). record l { owed = l.owed ++ frames }) (λ l. refl) (λ l. refl) (λ l none. none) link s

  reset_now : (number : ℕ) (s : Seen) (o : Option Attempt) → R s (option_map_or (stream_reset_of number s) o s)
  reset_now number s None = self s
  reset_now number s (Some a) =
      let u : Seen = with_attempt with_reset_queued a.place s in
      k.joined s u (stream_reset_of number s a) (k.attempt with_reset_queued (λ b waits. waits) (λ b. refl) (λ b. refl) a.place s) (owed_now (rst_stream_frame (stream_number a) number ∷ []) (link_number a) u)

  -- policies
  given_now : (s : Seen) (g : ℕ) (o : Option (List Address)) → R s (option_map_or (λ (x : List Address). with_policy (given_addresses x s) g s) o s)
  given_now s g None = self s
  given_now s g (Some x) = policy_now (given_addresses x s) g s

  over_now : (s : Seen) (o : Option PolicyUse) → R s (option_map_or (λ (g : PolicyUse). policy_retired g.number s) o s)
  over_now s None = self s
  over_now s (Some g) = k.beside s (policy_retired g.number s) refl refl refl refl refl refl refl

  pub turned_now : (t : Option Turn) (s : Seen) → R s (record s { current = option_map (λ (o : OpenEntry). record o { turn = t }) s.current })
  turned_now t s = k.entry (λ (o : OpenEntry). record o { turn = t }) (λ o. refl) (λ o. refl) (λ o. refl) (λ o e. e) s

  kept_turn : (b : Bool) (s : Seen) → R s (without_turn_unless b s)
  kept_turn true s = self s
  kept_turn false s = turned_now None s

  same_dials : (b : Subchannel) → b.dials ≤ b.dials
  same_dials b = omega arith

  no_dials : (b : Subchannel) → 0 ≤ b.dials
  no_dials b = omega arith

  pub small_in : (o : OpenEntry) (a : Action) (s : Seen) → is_small a ≡ true → R s (after_in o a s)
  small_in o (action.EntryOpens posted word e) s is = self s
  small_in o (action.EventRefused why) s is = absurd (cc)
  small_in o (action.EventAnswered r) s is = absurd (cc)
  small_in o action.SettlingBegins s is = absurd (cc)
  small_in o action.EntryCloses s is = absurd (cc)
  small_in o action.CallBegins s is = absurd (cc)
  small_in o (action.MessageAccepted call) s is = then_replied reply.Done refl s (with_call (with_message o.event) call s)
      (k.call (with_message o.event) (said_request o.event) (said_begin o.event) call s)
  small_in o (action.RequestFinished call) s is =
      then_replied reply.Done refl s (with_call (λ (c : Call). record c { finished = true }) call s) (k.call (λ (c : Call). record c { finished = true }) (λ c. refl) (λ c. refl) call s)
  small_in o (action.ItemTaken call item) s is = absurd (cc)
  small_in o (action.CallEnds call why) s is =
      let u : Seen = marked mark.Closed call s in
      k.joined s u (after_in o (action.CallEnds call why) s) (marked_now mark.Closed call s)
      (k.call (λ (c : Call). record c { end = Some (record { entry = entry s; moment = now s; cause = why }) }) (λ c. refl) (λ c. refl) call u)
  small_in o (action.ConfigRead config) s is = read_now config s
  small_in o action.ResolutionFailed s is = resolved reply.Done refl s
  small_in o (action.CallConfigured call config) s is =
      let u : Seen = marked mark.Configured call s in
      k.joined s u (after_in o (action.CallConfigured call config) s) (marked_now mark.Configured call s)
      (k.call (λ (c : Call). record c { config = Some config; configured = Some (entry s) }) (λ c. refl) (λ c. refl) call u)
  small_in o (action.AttemptMade call number kind due) s is =
      let u : Seen = with_row (new_row call number kind due) s in
      let v : Seen = marked (mark.Made (length s.attempts + 1)) call u in
      k.joined s v (without_turn_unless (is_transparent kind) v)
      (k.joined s u v (k.row call number kind due s) (marked_now (mark.Made (length s.attempts + 1)) call u)) (kept_turn (is_transparent kind) v)
  small_in o (action.HedgeWithheld call) s is =
      let u : Seen = marked mark.Withheld call s in
      k.joined s u (after_in o (action.HedgeWithheld call) s) (marked_now mark.Withheld call s) (turned_now None u)
  small_in o (action.PickRequested row generation answer) s is = absurd (cc)
  small_in o (action.AttemptPlaced row at_link) s is = absurd (cc)
  small_in o (action.AttemptEnds row end) s is = ended_now end s (numbered s.attempts row)
  small_in o (action.CallCommitted row why) s is =
      let u : Seen = with_attempt (with_commitment (entry s)) row s in
      k.joined s u (after_in o (action.CallCommitted row why) s) (k.attempt (with_commitment (entry s)) (λ b waits. waits) (λ b. refl) (λ b. refl) row s) (row_marked mark.Committed u (numbered u.attempts row))
  small_in o (action.StreamReset row number) s is = reset_now number s (numbered s.attempts row)
  small_in o (action.PolicyBegins kind) s is = k.beside s (policy_begun kind s) refl refl refl refl refl refl refl
  small_in o (action.AddressesGiven generation) s is = given_now s generation (addresses_in o.event)
  small_in o (action.PolicyTakesOver generation) s is =
      let u : Seen = option_map_or (λ (g : PolicyUse). policy_retired g.number s) (current_policy s) s in
      k.joined s u (policy_took_over generation s) (over_now s (current_policy s)) (policy_now (activated_in (entry s)) generation u)
  small_in o (action.PolicyRetired generation) s is = k.beside s (policy_retired generation s) refl refl refl refl refl refl refl
  small_in o (action.SubchannelAdded address) s is = k.added address s
  small_in o (action.SubchannelShut sub) s is = sub_now (without_link conn.Shutdown) same_dials sub s
  small_in o (action.SubchannelConnects sub) s is = sub_now (in_state conn.Connecting) same_dials sub s
  small_in o (action.DialTaken sub again until) s is = absurd (cc)
  small_in o (action.DialFails sub) s is =
      let u : Seen = wants_resolution s in
      then_replied reply.Done refl s (with_sub (without_link conn.Failure) sub u)
      (then_sub (without_link conn.Failure) same_dials sub s u (k.beside s u refl refl refl refl refl refl refl))
  small_in o (action.ConnectTimesOut sub) s is =
      let u : Seen = option_map_or (λ (b : Subchannel). link_timed_out b s) (numbered s.subs sub) s in
      let v : Seen = wants_resolution u in
      then_sub (without_link conn.Failure) same_dials sub s v (k.joined s u v (timed_now s (numbered s.subs sub)) (k.beside u v refl refl refl refl refl refl refl))
  small_in o (action.BackoffEnds sub) s is = sub_now (in_state conn.Idle) same_dials sub s
  small_in o (action.LinkUp sub) s is = absurd (cc)
  small_in o (action.SettingsArrive sub) s is = sub_now (λ (b : Subchannel). record b { state = conn.Ready; dials = 0; until = None }) no_dials sub s
  small_in o (action.LinkDown sub) s is = sub_now gone_down same_dials sub s
  small_in o (action.BytesArrive link) s is = absurd (cc)
  small_in o (action.FrameRead link r) s is = absurd (cc)
  small_in o (action.LinkBreaks link number) s is =
      let u : Seen = with_link (λ (l : Link). record l { over = Some over.Broken }) link s in
      k.joined s u (wants_resolution u) (k.link (λ (l : Link). record l { over = Some over.Broken }) (λ l. refl) (λ l. refl) never_over link s) (k.beside u (wants_resolution u) refl refl refl refl refl refl refl)
  small_in o (action.LinkLost link) s is =
      let u : Seen = with_link (λ (l : Link). record l { over = Some over.Lost }) link s in
      then_replied reply.Done refl s (wants_resolution u)
      (k.joined s u (wants_resolution u) (k.link (λ (l : Link). record l { over = Some over.Lost }) (λ l. refl) (λ l. refl) never_over link s) (k.beside u (wants_resolution u) refl refl refl refl refl refl refl))
  small_in o (action.PingQueued link) s is = then_replied reply.Done refl s (owed (ping_of o.event) link s) (owed_now (ping_of o.event) link s)
  small_in o (action.FrameWritten link x) s is = absurd (cc)
  small_in o action.ChannelShuts s is = then_replied reply.Done refl s (record s { shut = true }) (k.beside s (record s { shut = true }) refl refl refl refl refl refl refl)

  -- a pick request, where the relation bears it
  pub asked_in : ((ask : Ask) (v : Seen) → R v (record v { asks = v.asks ++ ask ∷ [] })) → (row generation : ℕ) (answer : Pick) (s : Seen) → R s (pick_requested row generation answer s)
  asked_in asks row generation answer s =
      let ask : Ask = record { entry = entry s; generation = generation; row = row; answer = answer } in
      let u : Seen = record s { asks = s.asks ++ ask ∷ [] } in
      k.joined s u (pick_requested row generation answer s) (asks ask s) (turned_now (turn_at row s) u)

  -- an item is taken, whatever it is
  pub taken_in : ((r : Reply) (v : Seen) → R v (replied r v)) → (call : ℕ) (item : Reply) (s : Seen) → R s (item_taken call item s)
  taken_in replies call item s =
      let u : Seen = with_call (λ (c : Call). record c { taken = c.taken + 1; end_taken = is_end item }) call s in
      k.joined s u (replied item u) (k.call (λ (c : Call). record c { taken = c.taken + 1; end_taken = is_end item }) (λ c. refl) (λ c. refl) call s) (replies item u)

  -- an attempt is placed, and a frame is read, likewise
  pub placed_in : ((at : Placed) (n : ℕ) (v : Seen) → R v (with_attempt (with_placing at) n v)) → (row : ℕ) (at_link : Placed) (s : Seen) → R s (attempt_placed row at_link s)
  placed_in places row at_link s =
      let u : Seen = with_attempt (with_placing at_link) row s in
      k.joined s u (attempt_placed row at_link s) (places at_link row s) (row_marked (mark.Placed row) u (numbered u.attempts row))

  pub read_in : ((r : ReadFrame) (frames : List FrameSeen) (n : ℕ) (v : Seen) → R v (with_link (with_frame_read r frames) n v)) → (link : ℕ) (r : ReadFrame) (s : Seen) → R s (frame_read link r s)
  read_in reads link r s = read_by (numbered s.links link)
    where
      read_by : (o : Option Link) → R s (option_map_or (frame_read_on r s) o s)
      read_by None = self s
      read_by (Some l) = reads r (owed_for r.frame l s) l.number s

  -- and so is a frame that is written, with the stream that it opens
  module _ (streams : (stream n : ℕ) (v : Seen) → R v (with_attempt (with_stream stream) n v))
      (writes : (x : Sent) (n : ℕ) (v : Seen) → R v (with_link (λ l. record l { traffic = l.traffic ++ traffic.Written x ∷ [] }) n v)) where
    stream_now : (f : FrameSeen) (s : Seen) (o : Option Attempt) → R s (option_map_or (λ (a : Attempt). with_attempt (with_stream f.stream) a.place s) o s)
    stream_now f s None = self s
    stream_now f s (Some a) = streams f.stream a.place s

    opened_if : (b : Bool) (f : FrameSeen) (l : Link) (s : Seen) → R s (if b then stream_opened f l s else s)
    opened_if true f l s = stream_now f s (slice_get (waiting_on l s) 0)
    opened_if false f l s = self s

    opened_now : (x : Sent) (l : Link) (s : Seen) → R s (stream_opened_by x l s)
    opened_now sent.Preface l s = self s
    opened_now (sent.Frame f) l s = opened_if (f.kind == headers_type) f l s

    written_now : (x : Sent) (s : Seen) (o : Option Link) → R s (option_map_or (frame_written_on x s) o s)
    written_now x s None = self s
    written_now x s (Some l) =
        let u : Seen = stream_opened_by x l s in
        let v : Seen = with_link (λ (q : Link). record q { traffic = q.traffic ++ traffic.Written x ∷ [] }) l.number u in
        k.joined s v (record v { current = option_map (with_written_bytes x) v.current })
        (k.joined s u v (opened_now x l s) (writes x l.number u))
        (k.entry (with_written_bytes x) (λ o. refl) (λ o. refl) (λ o. refl) (written_after x) v)

    pub written_in : (link : ℕ) (x : Sent) (s : Seen) → R s (frame_written link x s)
    written_in link x s = written_now x s (numbered s.links link)
