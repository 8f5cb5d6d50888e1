-- Each action keeps what is said of attempts, links, subchannels and pick requests, where its line says of it what it does (`IsSound`).
use Rattle.attempt_ledger.specs.Ends.{is_cut}
use Rattle.attempt_ledger.specs.declared.row.Placed.{Placed}
use Rattle.attempt_ledger.specs.declared.row.RowEnd.{RowEnd}
use Rattle.attempt_ledger.specs.declared.row.RowKind.{RowKind}
use Rattle.grpc_base.specs.declared.event.ConfigFault.{ConfigFault}
use Rattle.grpc_base.specs.declared.event.Entry.{Entry}
use Rattle.grpc_base.specs.declared.event.Event.TheVariants as event
use Rattle.grpc_base.specs.declared.event.Event.{Event}
use Rattle.grpc_base.specs.declared.event.Reply.TheVariants as reply
use Rattle.grpc_base.specs.declared.event.Reply.{Reply}
use Rattle.grpc_base.specs.declared.plan.Throttle.{Throttle}
use Rattle.h2_frame.specs.Frames.{FrameSeen, has_flag}
use Rattle.h2_frame.specs.Numbers.{ack_flag, data_type, end_stream_flag, headers_type, ping_type}
use Rattle.h2_frame.specs.Sent.{rst_stream_frame, window_update_frame}
use Rattle.channel_actions.proofs.KeptSessions.Lists.{all_more, more_grows}
use Rattle.channel_actions.proofs.KeptSessions.Sound.{opens_soundly}
use Rattle.channel_actions.proofs.KeptSessions.Whole.{Whole, attempt_now, attempts_more, beside, call_now, calls_now, entered, line_ok, link_now}
use Rattle.service_config.specs.declared.config.Config.{Config}
use Rattle.session_actions.specs.AttemptEnds.{attempt_ended_as, stream_reset_of, with_end, with_end_in_run, with_reset_queued}
use Rattle.session_actions.specs.Attempts.{call_of, is_to_follow, with_attempt}
use Rattle.session_actions.specs.Calls.{marked}
use Rattle.session_actions.specs.Configs.{config_of_call, config_read, resolver_answered, run_to_join, with_config, with_held, with_run, with_throttled}
use Rattle.session_actions.specs.Deliveries.{begun_call, call_begun_by}
use Rattle.session_actions.specs.Entries.{entry, now, replied}
use Rattle.session_actions.specs.Links.{is_settings, link_number, link_over, stream_number, wants_resolution}
use Rattle.session_actions.specs.Making.{new_row, with_row, without_turn_unless}
use Rattle.session_actions.specs.Policies.{with_placing}
use Rattle.session_actions.specs.Reading.{outstanding_on}
use Rattle.session_actions.specs.Words.{changed, is_number, numbered}
use Rattle.session_actions.specs.Writing.{frame_read_on, frame_written_on, is_control, is_going_on, owed_for, ping_of, stream_opened, stream_opened_by, updates_for, waiting_on, with_frame_read, with_piece, with_stream, with_written_bytes}
use Rattle.session_actions.specs.declared.attempt.Attempt.{Attempt}
use Rattle.session_actions.specs.declared.call.Call.{Call}
use Rattle.session_actions.specs.declared.call.MarkKind.TheVariants as mark
use Rattle.session_actions.specs.declared.call.MarkKind.{MarkKind}
use Rattle.session_actions.specs.declared.config.HeldConfig.{HeldConfig}
use Rattle.session_actions.specs.declared.config.ThrottleRun.{ThrottleRun}
use Rattle.session_actions.specs.declared.entry.OpenEntry.{OpenEntry}
use Rattle.session_actions.specs.declared.entry.Stage.TheVariants as stage
use Rattle.session_actions.specs.declared.link.Link.{Link}
use Rattle.session_actions.specs.declared.link.LinkOver.{LinkOver}
use Rattle.session_actions.specs.declared.link.ReadFrame.{ReadFrame}
use Rattle.session_actions.specs.declared.link.Sent.TheVariants as sent
use Rattle.session_actions.specs.declared.link.Sent.{Sent}
use Rattle.session_actions.specs.declared.link.Traffic.TheVariants as traffic
use Rattle.session_actions.specs.declared.seen.Seen.{Seen}
use Rattle.std.proofs.Common.{Bool, Err, List, None, Ok, Option, Result, Some, [], ap, false, if◌then◌else◌, is_none, is_some, length, nat_le, not, option_and_then, refl, slice_get, sym, true, ℕ, ◌&&◌, ◌++◌, ◌+◌, ◌==◌, ◌||◌, ◌∙◌, ◌∷◌, ◌≡◌}
use Rattle.std.proofs.lemmas.Bool.{and_from, and_parts}
use Rattle.std.specs.List.{list_all, list_any}
use Rattle.std.specs.Option.{option_map_or}

-- the entry that is open, changed
pub replied_now : (r : Reply) (s : Seen) → Whole s → Whole (replied r s)
replied_now r s h = entered (λ (o : OpenEntry). record o { stage = stage.Replied; reply = Some r }) s h

pub turned_now : (b : Bool) (s : Seen) → Whole s → Whole (without_turn_unless b s)
turned_now true s h = h
turned_now false s h = entered (λ (o : OpenEntry). record o { turn = None }) s h

pub plain : (s t : Seen) → t.calls ≡ s.calls → t.attempts ≡ s.attempts → t.asks ≡ s.asks → t.subs ≡ s.subs → t.links ≡ s.links → t.current ≡ s.current → t.entries ≡ s.entries
    → Whole s → Whole t
plain s t a b c d e f g h =
    beside s t a b c d e
    (ap (λ (x : Option OpenEntry). length t.entries + (if is_some x then 1 else 0)) f ∙ ap (λ (x : List Entry). length x + (if is_some s.current then 1 else 0)) g) h

-- calls
pub marked_now : (what : MarkKind) (n : ℕ) (s : Seen) → Whole s → Whole (marked what n s)
marked_now what n s h = call_now (λ (c : Call). record c { marks = c.marks ++ record { what = what; moment = now s } ∷ [] }) n s h

pub row_marked : (what : MarkKind) (s : Seen) (o : Option Attempt) → Whole s → Whole (option_map_or (λ (a : Attempt). marked what a.row.call s) o s)
row_marked what s None h = h
row_marked what s (Some a) h = marked_now what a.row.call s h

pub begun_now : (e : Event) (s : Seen) → Whole s → Whole (call_begun_by e s)
begun_now (event.Begin request) s h =
    let c : Call = begun_call (length s.calls + 1) (entry s) (now s) request in
    replied_now (reply.Call (length s.calls + 1)) (record s { calls = s.calls ++ c ∷ [] }) (calls_now s (s.calls ++ c ∷ []) (more_grows s.calls (c ∷ [])) h)
begun_now _ s h = h

-- configs
throttled_now : (config : Config) (t : Throttle) (run : Option ℕ) (s : Seen) → Whole s → Whole (with_throttled config t run s)
throttled_now config t (Some run) s h = plain s (with_config config (Some run) s) refl refl refl refl refl refl refl h
throttled_now config t None s h = plain s (with_config config (Some (length s.runs + 1)) (with_run t s)) refl refl refl refl refl refl refl h

held_now : (config : Config) (t : Option Throttle) (s : Seen) → Whole s → Whole (with_held config t s)
held_now config None s h = plain s (with_config config None s) refl refl refl refl refl refl refl h
held_now config (Some t) s h = throttled_now config t (run_to_join t s) s h

pub answered_now : (r : Reply) (s : Seen) → Whole s → Whole (replied r (resolver_answered s))
answered_now r s h = replied_now r (resolver_answered s) (plain s (resolver_answered s) refl refl refl refl refl refl refl h)

pub read_now : (x : Result Config ConfigFault) (s : Seen) → Whole s → Whole (config_read x s)
read_now (Ok config) s h = held_now config config.throttle (replied reply.Done (resolver_answered s)) (answered_now reply.Done s h)
read_now (Err fault) s h = answered_now (reply.BadConfig fault) s h

-- attempts: what is stamped on one
pub changes_row : (s : Seen) (f : Attempt → Attempt) (place : ℕ) → ((a : Attempt) → (f a).row.call ≡ a.row.call) → ((a : Attempt) → (f a).row.ended ≡ a.row.ended)
    → ((a : Attempt) → (f a).row.placed ≡ a.row.placed) → ((a : Attempt) → (f a).row.stream ≡ a.row.stream) → Whole s → Whole (with_attempt f place s)
changes_row s f place call ended placed stream h =
    attempt_now f place s
    (λ a got r.
    record {
      owned = ap (λ (n : ℕ). is_some (numbered s.calls n)) (call a) ∙ r.owned;
      ends = ap (λ (o : Option RowEnd). option_map_or (λ (e : RowEnd). nat_le e.entry (entry s)) o true) (ended a) ∙ r.ends;
      placed = ap (λ (o : Option Placed). option_map_or (λ (at : Placed). is_some (numbered s.links at.link)) o true) (placed a) ∙ r.placed;
      streams = ap (λ (o : Option ℕ). not (is_number 0 o)) (stream a) ∙ r.streams;
    })
    (λ a got less.
    sym (ap (λ (o : Option Placed). is_none o && is_none (f a).row.ended) (placed a) ∙ ap (λ (o : Option RowEnd). is_none a.row.placed && is_none o) (ended a)) ∙ less) h

pub made_now : (call number : ℕ) (k : RowKind) (due : ℕ) (s : Seen) → is_some (numbered s.calls call) ≡ true → Whole s → Whole (with_row (new_row call number k due) s)
made_now call number k due s sound h =
    attempts_more (record { place = length s.attempts + 1; row = new_row call number k due; made = entry s; reset = false }) s
    (record { owned = sound; ends = refl; placed = refl; streams = refl }) h

pub placed_now : (at : Placed) (place : ℕ) (s : Seen) → is_some (numbered s.links at.link) ≡ true → Whole s → Whole (with_attempt (with_placing at) place s)
placed_now at place s sound h =
    attempt_now (with_placing at) place s (λ a got r. record { owned = r.owned; ends = r.ends; placed = sound; streams = r.streams }) (λ a got less. (let no : false ≡ true = less in absurd (cc))) h

end_less : (b : Bool) → (b && false) ≡ true → ⊥
end_less true e = let no : false ≡ true = e in absurd (cc)
end_less false e = let no : false ≡ true = e in absurd (cc)

run_by : (s : Seen) (a : Attempt) (b : Bool) (run : Option ℕ) → Whole s
    → Whole (if b then option_map_or (λ (k : ℕ). record s { runs = changed (λ (u : ThrottleRun). record u { ends = u.ends ++ a.place ∷ [] }) k s.runs }) run s else s)
run_by s a true None h = h
run_by s a true (Some k) h =
    plain s (record s { runs = changed (λ (u : ThrottleRun). record u { ends = u.ends ++ a.place ∷ [] }) k s.runs }) refl refl refl refl refl refl refl h
run_by s a false run h = h

-- (what an end counts in a run leaves calls, links and the entry)
counted_in : (s : Seen) (a : Attempt) (e : RowEnd) (c : Option Call) → Whole s → Whole (option_map_or (with_end_in_run a e s) c s)
counted_in s a e None h = h
counted_in s a e (Some c) h =
    run_by s a (not (is_cut e.cause) && not (is_to_follow c e.cause e.unseen s)) (option_and_then (λ (x : HeldConfig). x.run) (config_of_call c s)) h

run_entry_by : (s : Seen) (a : Attempt) (b : Bool) (run : Option ℕ)
    → entry (if b then option_map_or (λ (k : ℕ). record s { runs = changed (λ (u : ThrottleRun). record u { ends = u.ends ++ a.place ∷ [] }) k s.runs }) run s else s) ≡ entry s
run_entry_by s a true None = refl
run_entry_by s a true (Some k) = refl
run_entry_by s a false run = refl

run_entry : (s : Seen) (a : Attempt) (e : RowEnd) (c : Option Call) → entry (option_map_or (with_end_in_run a e s) c s) ≡ entry s
run_entry s a e None = refl
run_entry s a e (Some c) =
    run_entry_by s a (not (is_cut e.cause) && not (is_to_follow c e.cause e.unseen s)) (option_and_then (λ (x : HeldConfig). x.run) (config_of_call c s))

pub ended_now : (e : RowEnd) (s : Seen) (o : Option Attempt) → nat_le e.entry (entry s) ≡ true → Whole s → Whole (option_map_or (attempt_ended_as e s) o s)
ended_now e s None sound h = h
ended_now e s (Some a) sound h =
    let u : Seen = option_map_or (with_end_in_run a e s) (call_of a s) s in
    let v : Seen = with_attempt (with_end e) a.place u in
    let w : Seen = marked (mark.Ended a.place) a.row.call v in
    let stamp : nat_le e.entry (entry u) ≡ true = ap (nat_le e.entry) (run_entry s a e (call_of a s)) ∙ sound in
    let one : Whole v =
    attempt_now (with_end e) a.place u (λ q got r. record { owned = r.owned; ends = stamp; placed = r.placed; streams = r.streams })
    (λ q got less. absurd (end_less (is_none q.row.placed) less)) (counted_in s a e (call_of a s) h) in
    entered (λ (x : OpenEntry). record x { drawn = x.drawn + (if is_some e.word then 1 else 0) }) w (marked_now (mark.Ended a.place) a.row.call v one)

-- links
pub line_by : (s : Seen) (f : Link → Link) (n : ℕ) → ((l : Link) → (f l).sub ≡ l.sub) → ((l : Link) → list_all is_control l.owed ≡ true → list_all is_control (f l).owed ≡ true)
    → Whole s → Whole (record s { links = changed f n s.links })
line_by s f n same owed h =
    link_now f n s
    (λ l got ok.
    (let both : (is_some (numbered s.subs l.sub) ≡ true) × (list_all is_control l.owed ≡ true) = and_parts (is_some (numbered s.subs l.sub)) (list_all is_control l.owed) ok in
    and_from (is_some (numbered s.subs (f l).sub)) (list_all is_control (f l).owed) (ap (λ (k : ℕ). is_some (numbered s.subs k)) (same l) ∙ both.0) (owed l both.1)))
    h

pub over_now : (why : LinkOver) (link : ℕ) (s : Seen) → Whole s → Whole (link_over why link s)
over_now why link s h = line_by s (λ (l : Link). record l { over = Some why }) link (λ l. refl) (λ l e. e) h

pub wants_now : (s : Seen) → Whole s → Whole (wants_resolution s)
wants_now s h = plain s (wants_resolution s) refl refl refl refl refl refl refl h

pub owed_now : (frames : List FrameSeen) (link : ℕ) (s : Seen) → list_all is_control frames ≡ true → Whole s
    → Whole (record s { links = changed (λ (l : Link). record l { owed = l.owed ++ frames }) link s.links })
owed_now frames link s e h =
    line_by s (λ (l : Link). record l { owed = l.owed ++ frames }) link (λ l. refl) (λ l ok. all_more is_control l.owed frames ok e) h

pub reset_now : (number : ℕ) (s : Seen) (o : Option Attempt) → Whole s → Whole (option_map_or (stream_reset_of number s) o s)
reset_now number s None h = h
reset_now number s (Some a) h =
    owed_now (rst_stream_frame (stream_number a) number ∷ []) (link_number a) (with_attempt with_reset_queued a.place s) refl
    (changes_row s with_reset_queued a.place (λ q. refl) (λ q. refl) (λ q. refl) (λ q. refl) h)

pub piece_sub : (e : Event) (l : Link) → (with_piece e l).sub ≡ l.sub
piece_sub (event.Arrived link piece) l = refl
piece_sub _ l = refl

pub piece_owed : (e : Event) (l : Link) → list_all is_control l.owed ≡ true → list_all is_control (with_piece e l).owed ≡ true
piece_owed (event.Arrived link piece) l h = h
piece_owed _ l h = h

pub pinged : (e : Event) → list_all is_control (ping_of e) ≡ true
pinged (event.Ping link word) = refl
pinged _ = refl

updates_by : (f : FrameSeen) (b c : Bool)
    → list_all is_control (if b then [] else window_update_frame 0 (length f.payload) ∷ (if c then window_update_frame f.stream (length f.payload) ∷ [] else [])) ≡ true
updates_by f true c = refl
updates_by f false true = refl
updates_by f false false = refl

owed_by : (f : FrameSeen) (rest : List FrameSeen) (a b c : Bool) (ack answer : FrameSeen) → is_control ack ≡ true → is_control answer ≡ true → list_all is_control rest ≡ true
    → list_all is_control (if a then ack ∷ [] else if b then answer ∷ [] else if c then rest else []) ≡ true
owed_by f rest true b c ack answer x y z = and_from (is_control ack) true x refl
owed_by f rest false true c ack answer x y z = and_from (is_control answer) true y refl
owed_by f rest false false true ack answer x y z = z
owed_by f rest false false false ack answer x y z = refl

owed_sound : (f : FrameSeen) (l : Link) (s : Seen) → list_all is_control (owed_for f l s) ≡ true
owed_sound f l s =
    owed_by f (updates_for f l s) (is_settings f) ((f.kind == ping_type) && not (has_flag f.flags ack_flag)) (f.kind == data_type) _ _ refl refl
    (updates_by f (length f.payload == 0) (list_any (is_going_on f.stream s) (outstanding_on l s) && not (has_flag f.flags end_stream_flag)))

pub frame_now : (r : ReadFrame) (s : Seen) (o : Option Link) → Whole s → Whole (option_map_or (frame_read_on r s) o s)
frame_now r s None h = h
frame_now r s (Some l) h =
    line_by s (with_frame_read r (owed_for r.frame l s)) l.number (λ k. refl) (λ k ok. all_more is_control k.owed (owed_for r.frame l s) ok (owed_sound r.frame l s)) h

-- what is written
stream_now : (f : FrameSeen) (s : Seen) (o : Option Attempt) → not (f.stream == 0) ≡ true → Whole s
    → Whole (option_map_or (λ (a : Attempt). with_attempt (with_stream f.stream) a.place s) o s)
stream_now f s None sound h = h
stream_now f s (Some a) sound h =
    attempt_now (with_stream f.stream) a.place s (λ q got r. record { owned = r.owned; ends = r.ends; placed = r.placed; streams = sound }) (λ q got less. less) h

opened_if : (f : FrameSeen) (l : Link) (s : Seen) (b : Bool) → (not b || not (f.stream == 0)) ≡ true → Whole s → Whole (if b then stream_opened f l s else s)
opened_if f l s true sound h = stream_now f s (slice_get (waiting_on l s) 0) sound h
opened_if f l s false sound h = h

opened_now : (x : Sent) (l : Link) (s : Seen) → opens_soundly x ≡ true → Whole s → Whole (stream_opened_by x l s)
opened_now sent.Preface l s sound h = h
opened_now (sent.Frame f) l s sound h = opened_if f l s (f.kind == headers_type) sound h

pub written_now : (x : Sent) (s : Seen) (o : Option Link) → opens_soundly x ≡ true → Whole s → Whole (option_map_or (frame_written_on x s) o s)
written_now x s None sound h = h
written_now x s (Some l) sound h =
    let u : Seen = stream_opened_by x l s in
    let v : Seen = record u { links = changed (λ (k : Link). record k { traffic = k.traffic ++ traffic.Written x ∷ [] }) l.number u.links } in
    entered (with_written_bytes x) v
    (line_by u (λ (k : Link). record k { traffic = k.traffic ++ traffic.Written x ∷ [] }) l.number (λ k. refl) (λ k ok. ok) (opened_now x l s sound h))

pub gone_ok : (s : Seen) (b : Bool) (l : Link) → line_ok s.subs l ≡ true → line_ok s.subs (if b then record l { gone = Some (entry s) } else l) ≡ true
gone_ok s true l ok = ok
gone_ok s false l ok = ok
