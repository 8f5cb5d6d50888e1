-- What the actions are made of leaves it: entries, calls, attempts that end, links that change.
use Rattle.attempt_ledger.specs.Ends.{is_cut}
use Rattle.attempt_ledger.specs.declared.row.Placed.{Placed}
use Rattle.attempt_ledger.specs.declared.row.RowEnd.{RowEnd}
use Rattle.grpc_base.specs.declared.event.ConfigFault.{ConfigFault}
use Rattle.grpc_base.specs.declared.event.Event.TheVariants as event
use Rattle.grpc_base.specs.declared.event.Event.{Event}
use Rattle.grpc_base.specs.declared.event.Reply.TheVariants as reply
use Rattle.grpc_base.specs.declared.event.Reply.{Reply}
use Rattle.grpc_base.specs.declared.plan.Throttle.{Throttle}
use Rattle.h2_frame.specs.Frames.{FrameSeen}
use Rattle.h2_frame.specs.Numbers.{headers_type}
use Rattle.h2_frame.specs.Sent.{rst_stream_frame}
use Rattle.channel_actions.proofs.Links.Prefaced.Parts.{Prefaced, attempt_now, entered, link_now, plain, replied_now}
use Rattle.channel_actions.specs.PrefacedLinks.Prefaced.{has_preface_come}
use Rattle.service_config.specs.declared.config.Config.{Config}
use Rattle.session_actions.specs.AttemptEnds.{attempt_ended_as, stream_reset_of, with_end, with_end_in_run, with_reset_queued}
use Rattle.session_actions.specs.Attempts.{call_of, is_to_follow, with_attempt}
use Rattle.session_actions.specs.Calls.{marked}
use Rattle.session_actions.specs.Configs.{config_of_call, config_read, resolver_answered, run_to_join, with_config, with_held, with_run, with_throttled}
use Rattle.session_actions.specs.Deliveries.{begun_call, call_begun_by}
use Rattle.session_actions.specs.Entries.{entry, now, replied}
use Rattle.session_actions.specs.Links.{has_settings, is_settings, link_number, link_over, read_in, stream_number, wants_resolution}
use Rattle.session_actions.specs.Making.{without_turn_unless}
use Rattle.session_actions.specs.Policies.{is_unfollowed}
use Rattle.session_actions.specs.Words.{changed}
use Rattle.session_actions.specs.Writing.{frame_read_on, frame_written_on, owed_for, stream_opened, stream_opened_by, waiting_on, with_frame_read, with_piece, with_stream, with_written_bytes}
use Rattle.session_actions.specs.declared.attempt.Attempt.{Attempt}
use Rattle.session_actions.specs.declared.call.Call.{Call}
use Rattle.session_actions.specs.declared.call.MarkKind.TheVariants as mark
use Rattle.session_actions.specs.declared.call.MarkKind.{MarkKind}
use Rattle.session_actions.specs.declared.config.HeldConfig.{HeldConfig}
use Rattle.session_actions.specs.declared.config.ThrottleRun.{ThrottleRun}
use Rattle.session_actions.specs.declared.entry.OpenEntry.{OpenEntry}
use Rattle.session_actions.specs.declared.link.Link.{Link}
use Rattle.session_actions.specs.declared.link.LinkOver.{LinkOver}
use Rattle.session_actions.specs.declared.link.ReadFrame.{ReadFrame}
use Rattle.session_actions.specs.declared.link.Sent.TheVariants as sent
use Rattle.session_actions.specs.declared.link.Sent.{Sent}
use Rattle.session_actions.specs.declared.link.Traffic.TheVariants as traffic
use Rattle.session_actions.specs.declared.link.Traffic.{Traffic}
use Rattle.session_actions.specs.declared.seen.Seen.{Seen}
use Rattle.std.proofs.Common.{Bool, Err, List, None, Ok, Option, Result, Some, [], ap, false, filter_map, if◌then◌else◌, is_none, is_some, length, not, option_and_then, refl, slice_get, true, ℕ, ◌&&◌, ◌++◌, ◌+◌, ◌==◌, ◌||◌, ◌∙◌, ◌∷◌, ◌≡◌}
use Rattle.std.proofs.lemmas.List.Elements.{filter_map-append}
use Rattle.std.proofs.lemmas.List.{append-nil}
use Rattle.std.specs.List.{list_any}
use Rattle.std.specs.Option.{option_map_or}

pub turned_now : (b : Bool) (s : Seen) → Prefaced s → Prefaced (without_turn_unless b s)
turned_now true s h = h
turned_now false s h = entered (λ (o : OpenEntry). record o { turn = None }) s h

-- calls
pub marked_now : (what : MarkKind) (n : ℕ) (s : Seen) → Prefaced s → Prefaced (marked what n s)
marked_now what n s h = plain s (marked what n s) refl refl refl refl refl refl h

pub row_marked : (what : MarkKind) (s : Seen) (o : Option Attempt) → Prefaced s → Prefaced (option_map_or (λ (a : Attempt). marked what a.row.call s) o s)
row_marked what s None h = h
row_marked what s (Some a) h = marked_now what a.row.call s h

pub begun_now : (e : Event) (s : Seen) → Prefaced s → Prefaced (call_begun_by e s)
begun_now (event.Begin request) s h =
    let u : Seen = record s { calls = s.calls ++ begun_call (length s.calls + 1) (entry s) (now s) request ∷ [] } in
    replied_now (reply.Call (length s.calls + 1)) u (plain s u refl refl refl refl refl refl h)
begun_now _ s h = h

-- configs
throttled_now : (config : Config) (t : Throttle) (run : Option ℕ) (s : Seen) → Prefaced s → Prefaced (with_throttled config t run s)
throttled_now config t (Some run) s h = plain s (with_config config (Some run) s) refl refl refl refl refl refl h
throttled_now config t None s h = plain s (with_config config (Some (length s.runs + 1)) (with_run t s)) refl refl refl refl refl refl h

held_now : (config : Config) (t : Option Throttle) (s : Seen) → Prefaced s → Prefaced (with_held config t s)
held_now config None s h = plain s (with_config config None s) refl refl refl refl refl refl h
held_now config (Some t) s h = throttled_now config t (run_to_join t s) s h

answered_now : (r : Reply) (s : Seen) → Prefaced s → Prefaced (replied r (resolver_answered s))
answered_now r s h = replied_now r (resolver_answered s) (plain s (resolver_answered s) refl refl refl refl refl refl h)

pub resolved_now : (s : Seen) → Prefaced s → Prefaced (replied reply.Done (resolver_answered s))
resolved_now s h = answered_now reply.Done s h

pub read_now : (x : Result Config ConfigFault) (s : Seen) → Prefaced s → Prefaced (config_read x s)
read_now (Ok config) s h = held_now config config.throttle (replied reply.Done (resolver_answered s)) (answered_now reply.Done s h)
read_now (Err fault) s h = answered_now (reply.BadConfig fault) s h

-- attempts: what is stamped on one
pub changes_row : (s : Seen) (f : Attempt → Attempt) (place : ℕ) → ((a : Attempt) → (f a).row.placed ≡ a.row.placed)
    → ((a : Attempt) → is_unfollowed (f a) ≡ true → is_unfollowed a ≡ true) → Prefaced s → Prefaced (with_attempt f place s)
changes_row s f place placed less h =
    attempt_now f place s (λ a e. ap (λ (o : Option Placed). option_map_or (λ (at : Placed). has_preface_come s.links at.link) o true) (placed a) ∙ e) less h

end_less : (b : Bool) → (b && false) ≡ true → ⊥
end_less true e = let no : false ≡ true = e in absurd (cc)
end_less false e = let no : false ≡ true = e in absurd (cc)

run_by : (s : Seen) (a : Attempt) (b : Bool) (run : Option ℕ) → Prefaced s
    → Prefaced (if b then option_map_or (λ (k : ℕ). record s { runs = changed (λ (u : ThrottleRun). record u { ends = u.ends ++ a.place ∷ [] }) k s.runs }) run s else s)
run_by s a true None h = h
run_by s a true (Some k) h =
    plain s (record s { runs = changed (λ (u : ThrottleRun). record u { ends = u.ends ++ a.place ∷ [] }) k s.runs }) refl refl refl refl refl refl h
run_by s a false run h = h

counted_in : (s : Seen) (a : Attempt) (e : RowEnd) (c : Option Call) → Prefaced s → Prefaced (option_map_or (with_end_in_run a e s) c s)
counted_in s a e None h = h
counted_in s a e (Some c) h =
    run_by s a (not (is_cut e.cause) && not (is_to_follow c e.cause e.unseen s)) (option_and_then (λ (x : HeldConfig). x.run) (config_of_call c s)) h

pub ended_now : (e : RowEnd) (s : Seen) (o : Option Attempt) → Prefaced s → Prefaced (option_map_or (attempt_ended_as e s) o s)
ended_now e s None h = h
ended_now e s (Some a) h =
    let u : Seen = option_map_or (with_end_in_run a e s) (call_of a s) s in
    let v : Seen = with_attempt (with_end e) a.place u in
    let w : Seen = marked (mark.Ended a.place) a.row.call v in
    entered (λ (x : OpenEntry). record x { drawn = x.drawn + (if is_some e.word then 1 else 0) }) w
    (marked_now (mark.Ended a.place) a.row.call v
    (changes_row u (with_end e) a.place (λ q. refl) (λ q less. absurd (end_less (is_none q.row.placed) less)) (counted_in s a e (call_of a s) h)))

-- links
any_by : (p : ReadFrame → Bool) (b : Bool) (xs ys : List ReadFrame) → (list_any p xs ≡ true → list_any p (xs ++ ys) ≡ true) → (b || list_any p xs) ≡ true
    → (b || list_any p (xs ++ ys)) ≡ true
any_by p true xs ys rest e = refl
any_by p false xs ys rest e = rest e

any_more : (p : ReadFrame → Bool) (xs ys : List ReadFrame) → list_any p xs ≡ true → list_any p (xs ++ ys) ≡ true
any_more p [] ys e = absurd (cc)
any_more p (x ∷ xs) ys e = any_by p (p x) xs ys (any_more p xs ys) e

abbrev has_some : List Traffic → Bool
has_some ts = list_any (λ (r : ReadFrame). is_settings r.frame) (filter_map read_in ts)

read_more : (ts : List Traffic) (r : ReadFrame) → has_some ts ≡ true → has_some (ts ++ traffic.Read r ∷ []) ≡ true
read_more ts r e =
    ap (list_any (λ (q : ReadFrame). is_settings q.frame)) (filter_map-append read_in ts (traffic.Read r ∷ []))
    ∙ any_more (λ (q : ReadFrame). is_settings q.frame) (filter_map read_in ts) (r ∷ []) e

written_same : (ts : List Traffic) (x : Sent) → has_some (ts ++ traffic.Written x ∷ []) ≡ has_some ts
written_same ts x =
    ap (list_any (λ (q : ReadFrame). is_settings q.frame)) (filter_map-append read_in ts (traffic.Written x ∷ []) ∙ append-nil (filter_map read_in ts))

pub over_now : (why : LinkOver) (link : ℕ) (s : Seen) → Prefaced s → Prefaced (link_over why link s)
over_now why link s h = link_now (λ (l : Link). record l { over = Some why }) link s (λ l e. e) h

pub wants_now : (s : Seen) → Prefaced s → Prefaced (wants_resolution s)
wants_now s h = plain s (wants_resolution s) refl refl refl refl refl refl h

pub owed_now : (frames : List FrameSeen) (link : ℕ) (s : Seen) → Prefaced s → Prefaced (record s { links = changed (λ (l : Link). record l { owed = l.owed ++ frames }) link s.links })
owed_now frames link s h = link_now (λ (l : Link). record l { owed = l.owed ++ frames }) link s (λ l e. e) h

pub reset_now : (number : ℕ) (s : Seen) (o : Option Attempt) → Prefaced s → Prefaced (option_map_or (stream_reset_of number s) o s)
reset_now number s None h = h
reset_now number s (Some a) h =
    owed_now (rst_stream_frame (stream_number a) number ∷ []) (link_number a) (with_attempt with_reset_queued a.place s)
    (changes_row s with_reset_queued a.place (λ q. refl) (λ q e. e) h)

piece_same : (e : Event) (l : Link) → has_settings l ≡ true → has_settings (with_piece e l) ≡ true
piece_same (event.Arrived link piece) l h = h
piece_same _ l h = h

pub piece_now : (e : Event) (link : ℕ) (s : Seen) → Prefaced s → Prefaced (record s { links = changed (with_piece e) link s.links })
piece_now e link s h = link_now (with_piece e) link s (piece_same e) h

pub gone_same : (s : Seen) (b : Bool) (l : Link) → has_settings l ≡ true → has_settings (if b then record l { gone = Some (entry s) } else l) ≡ true
gone_same s true l e = e
gone_same s false l e = e

pub frame_now : (r : ReadFrame) (s : Seen) (o : Option Link) → Prefaced s → Prefaced (option_map_or (frame_read_on r s) o s)
frame_now r s None h = h
frame_now r s (Some l) h = link_now (with_frame_read r (owed_for r.frame l s)) l.number s (λ k e. read_more k.traffic r e) h

-- what is written
stream_now : (f : FrameSeen) (s : Seen) (o : Option Attempt) → Prefaced s → Prefaced (option_map_or (λ (a : Attempt). with_attempt (with_stream f.stream) a.place s) o s)
stream_now f s None h = h
stream_now f s (Some a) h = changes_row s (with_stream f.stream) a.place (λ q. refl) (λ q e. e) h

opened_if : (f : FrameSeen) (l : Link) (s : Seen) (b : Bool) → Prefaced s → Prefaced (if b then stream_opened f l s else s)
opened_if f l s true h = stream_now f s (slice_get (waiting_on l s) 0) h
opened_if f l s false h = h

opened_now : (x : Sent) (l : Link) (s : Seen) → Prefaced s → Prefaced (stream_opened_by x l s)
opened_now sent.Preface l s h = h
opened_now (sent.Frame f) l s h = opened_if f l s (f.kind == headers_type) h

pub written_now : (x : Sent) (s : Seen) (o : Option Link) → Prefaced s → Prefaced (option_map_or (frame_written_on x s) o s)
written_now x s None h = h
written_now x s (Some l) h =
    let u : Seen = stream_opened_by x l s in
    let f : Link → Link = λ (k : Link). record k { traffic = k.traffic ++ traffic.Written x ∷ [] } in
    entered (with_written_bytes x) (record u { links = changed f l.number u.links }) (link_now f l.number u (λ k e. written_same k.traffic x ∙ e) (opened_now x l s h))
