-- After each action the frames of each link are read in order.
use Rattle.attempt_ledger.specs.Ends.{is_cut}
use Rattle.attempt_ledger.specs.Numbering.{is_transparent}
use Rattle.attempt_ledger.specs.declared.row.RowEnd.{RowEnd}
use Rattle.call_actions.proofs.Ends.Tokens.{more_ends}
use Rattle.grpc_base.specs.declared.address.Address.{Address}
use Rattle.grpc_base.specs.declared.event.ConfigFault.{ConfigFault}
use Rattle.grpc_base.specs.declared.event.Conn.TheVariants as conn
use Rattle.grpc_base.specs.declared.event.Event.TheVariants as event
use Rattle.grpc_base.specs.declared.event.Event.{Event}
use Rattle.grpc_base.specs.declared.event.Reply.TheVariants as reply
use Rattle.grpc_base.specs.declared.plan.Throttle.{Throttle}
use Rattle.h2_frame.specs.Frames.{FrameSeen}
use Rattle.h2_frame.specs.Numbers.{headers_type}
use Rattle.h2_frame.specs.Sent.{rst_stream_frame}
use Rattle.service_config.specs.declared.config.Config.{Config}
use Rattle.session_actions.specs.Actions.{after_if, after_in}
use Rattle.session_actions.specs.AttemptEnds.{attempt_ended, attempt_ended_as, stream_reset_of, with_end_in_run}
use Rattle.session_actions.specs.Attempts.{call_of, is_to_follow, with_attempt}
use Rattle.session_actions.specs.Calls.{marked}
use Rattle.session_actions.specs.Closing.{noted_gone}
use Rattle.session_actions.specs.Commitments.{call_committed, with_commitment}
use Rattle.session_actions.specs.Configs.{config_of_call, config_read, resolver_answered, run_to_join, with_held, with_throttled}
use Rattle.session_actions.specs.Deliveries.{call_begun_by}
use Rattle.session_actions.specs.Entries.{entry, opened, replied}
use Rattle.session_actions.specs.Links.{link_number, link_over, stream_number, wants_resolution}
use Rattle.session_actions.specs.Making.{attempt_made, new_row, with_row, without_turn_unless}
use Rattle.session_actions.specs.Policies.{addresses_given, addresses_in, attempt_placed, current_policy, given_addresses, policy_retired, policy_took_over, with_placing, with_policy}
use Rattle.session_actions.specs.Refusals.{is_gone}
use Rattle.session_actions.specs.Subchannels.{dial_failed, dial_taken, dial_taken_of, gone_down, in_state, link_timed_out, new_link, noted_by_policies, settings_arrived, with_dial, with_sub, without_link}
use Rattle.session_actions.specs.Words.{changed, numbered}
use Rattle.session_actions.specs.Writing.{frame_read_on, frame_written_on, owed_for, ping_of, stream_opened, stream_opened_by, waiting_on, with_frame_read, with_piece, with_stream}
use Rattle.session_actions.specs.declared.action.Action.TheVariants as action
use Rattle.session_actions.specs.declared.action.Action.{Action}
use Rattle.session_actions.specs.declared.attempt.Attempt.{Attempt}
use Rattle.session_actions.specs.declared.call.Call.{Call}
use Rattle.session_actions.specs.declared.call.MarkKind.TheVariants as mark
use Rattle.session_actions.specs.declared.call.MarkKind.{MarkKind}
use Rattle.session_actions.specs.declared.config.HeldConfig.{HeldConfig}
use Rattle.session_actions.specs.declared.entry.OpenEntry.{OpenEntry}
use Rattle.session_actions.specs.declared.link.Link.{Link}
use Rattle.session_actions.specs.declared.link.LinkOver.TheVariants as over
use Rattle.session_actions.specs.declared.link.ReadFrame.{ReadFrame}
use Rattle.session_actions.specs.declared.link.Sent.TheVariants as sent
use Rattle.session_actions.specs.declared.link.Sent.{Sent}
use Rattle.session_actions.specs.declared.link.Traffic.TheVariants as traffic
use Rattle.session_actions.specs.declared.link.Traffic.{Traffic}
use Rattle.session_actions.specs.declared.policy.PolicyUse.{PolicyUse}
use Rattle.session_actions.specs.declared.seen.Seen.{Seen}
use Rattle.session_actions.specs.declared.subchannel.Subchannel.{Subchannel}
use Rattle.call_actions.proofs.Lists.{numbered_last}
use Rattle.call_actions.specs.ReadsInOrder.Laws.{LinksAreReadInOrder, FramesComeAfter, ReadsBegin, ReadsOn, ReadsStay, is_read_in_order}
use Rattle.session_actions.specs.Links.{read_bytes, read_in}
use Rattle.session_actions.specs.Reading.{block_read, block_with, frame_read_by, is_last_of_block, is_long_block, is_of_block, link_error, next_fields, next_read, next_read_by, open_block, part_read, plain_read}
use Rattle.h2_frame.specs.Readings.{Fault, Partial, Reading, Whole, reading_of}
use Rattle.grpc_base.specs.ErrorCodes.{enhance_your_calm}
use Rattle.grpc_base.specs.declared.fields.Field.{Field}
use Rattle.h2_hpack.specs.declared.fault.HpackFault.{HpackFault}
use Rattle.session_actions.specs.declared.link.NextRead.{NextRead}
use Rattle.session_actions.specs.declared.link.NextRead.TheVariants as nextread
use Rattle.session_actions.specs.declared.link.OpenBlock.{OpenBlock}
use Rattle.session_actions.specs.Responses.{is_read_by}
use Rattle.session_actions.specs.Words.{changed_if, last_of}
use Rattle.session_actions.specs.Writing.{read_action, read_next}
use Rattle.std.proofs.Common.{arith, Bool, Err, List, None, Ok, Option, Result, Some, [], drop, false, filter_map, if◌then◌else◌, is_none, length, map, nat_le, not, option_and_then, pred, refl, slice_get, slice_set, suc, sym, true, zero, ℕ, ◌&&◌, ◌++◌, ◌+◌, ◌==◌, ◌∙◌, ◌∷◌, ◌≡◌, ◌≤◌, ap, subst}
use Rattle.std.proofs.lemmas.Bool.{and_from, and_parts}
use Rattle.std.proofs.lemmas.Bool.Decides.{nat_tests}
use Rattle.std.proofs.lemmas.List.{append-nil}
use Rattle.std.proofs.lemmas.List.Elements.{filter_map-append}
use Rattle.std.proofs.lemmas.List.Folds.{list_all-append}
use Rattle.std.specs.List.{list_all}
use Rattle.std.specs.Option.{option_map_or}

-- lists of which one was changed
all_get : {X : Type 0} (p : X → Bool) (xs : List X) (i : ℕ) (x : X) → list_all p xs ≡ true → slice_get xs i ≡ Some x → p x ≡ true
all_get p [] i x e got = absurd (cc)
all_get p (y ∷ xs) zero x e got = let one : y ≡ x = (cc) in ap p (sym one) ∙ (and_parts (p y) (list_all p xs) e).0
all_get p (y ∷ xs) (suc i) x e got = all_get p xs i x (and_parts (p y) (list_all p xs) e).1 got

all_at : {X : Type 0} (p : X → Bool) (xs : List X) (n : ℕ) (x : X) → list_all p xs ≡ true → numbered xs n ≡ Some x → p x ≡ true
all_at p xs zero x e got = absurd (cc)
all_at p xs (suc i) x e got = all_get p xs i x e got

all_set : {X : Type 0} (p : X → Bool) (xs : List X) (i : ℕ) (y : X) → list_all p xs ≡ true → p y ≡ true → list_all p (slice_set xs i y) ≡ true
all_set p [] i y e f = e
all_set p (x ∷ xs) zero y e f = and_from (p y) (list_all p xs) f (and_parts (p x) (list_all p xs) e).1
all_set p (x ∷ xs) (suc i) y e f =
    let both : (p x ≡ true) × (list_all p xs ≡ true) = and_parts (p x) (list_all p xs) e in and_from (p x) (list_all p (slice_set xs i y)) both.0 (all_set p xs i y both.1 f)

all_if : {X : Type 0} (p : X → Bool) (f : X → X) (n : ℕ) (xs : List X) (o : Option X) → list_all p xs ≡ true → ((x : X) → o ≡ Some x → p (f x) ≡ true)
    → list_all p (changed_if f n xs o) ≡ true
all_if p f n xs None e so = e
all_if p f n xs (Some x) e so = all_set p xs (pred n) (f x) e (so x refl)

all_changed : {X : Type 0} (p : X → Bool) (f : X → X) (n : ℕ) (xs : List X) → list_all p xs ≡ true → ((x : X) → numbered xs n ≡ Some x → p (f x) ≡ true) → list_all p (changed f n xs) ≡ true
all_changed p f n xs e so = all_if p f n xs (numbered xs n) e so

all_mapped : {X : Type 0} (p : X → Bool) (f : X → X) → ((x : X) → p (f x) ≡ p x) → (xs : List X) → list_all p xs ≡ true → list_all p (map f xs) ≡ true
all_mapped p f same [] e = e
all_mapped p f same (x ∷ xs) e =
    let both : (p x ≡ true) × (list_all p xs ≡ true) = and_parts (p x) (list_all p xs) e in and_from (p (f x)) (list_all p (map f xs)) (same x ∙ both.0) (all_mapped p f same xs both.1)

-- the traffic of one link
abbrev bytes_of : List Traffic → ℕ
bytes_of ts = option_map_or (λ (r : ReadFrame). r.end) (last_of (filter_map read_in ts)) 0

abbrev ordered : List Traffic → Bool
ordered ts = list_all (is_read_by (bytes_of ts)) ts

less_still : (m n k : ℕ) → nat_le k m ≡ true → m ≤ n → nat_le k n ≡ true
less_still m n k e h = grind (arith, nat_tests, e, h)

still_read : (m n : ℕ) (t : Traffic) → m ≤ n → is_read_by m t ≡ true → is_read_by n t ≡ true
still_read m n (traffic.Read r) h e = less_still m n r.end e h
still_read m n (traffic.Written x) h e = refl

all_still : (m n : ℕ) (ts : List Traffic) → m ≤ n → list_all (is_read_by m) ts ≡ true → list_all (is_read_by n) ts ≡ true
all_still m n [] h e = refl
all_still m n (t ∷ ts) h e =
    let both : (is_read_by m t ≡ true) × (list_all (is_read_by m) ts ≡ true) = and_parts (is_read_by m t) (list_all (is_read_by m) ts) e in
    and_from (is_read_by n t) (list_all (is_read_by n) ts) (still_read m n t h both.0) (all_still m n ts h both.1)

itself : (n : ℕ) → nat_le n n ≡ true
itself n = grind (arith, nat_tests)

longer : (xs : List ReadFrame) (r : ReadFrame) → length (xs ++ r ∷ []) ≡ length xs + 1
longer [] r = refl
longer (x ∷ xs) r = let rest : length (xs ++ r ∷ []) ≡ length xs + 1 = longer xs r in omega (arith, rest)

last_there : (xs : List ReadFrame) (r : ReadFrame) → last_of (xs ++ r ∷ []) ≡ Some r
last_there xs r = ap (numbered (xs ++ r ∷ [])) (longer xs r) ∙ numbered_last xs r

bytes_read : (ts : List Traffic) (r : ReadFrame) → bytes_of (ts ++ traffic.Read r ∷ []) ≡ r.end
bytes_read ts r =
    ap (λ (rs : List ReadFrame). option_map_or (λ (r : ReadFrame). r.end) (last_of rs) 0) (filter_map-append read_in ts (traffic.Read r ∷ []))
    ∙ ap (λ (o : Option ReadFrame). option_map_or (λ (r : ReadFrame). r.end) o 0) (last_there (filter_map read_in ts) r)

bytes_written : (ts : List Traffic) (x : Sent) → bytes_of (ts ++ traffic.Written x ∷ []) ≡ bytes_of ts
bytes_written ts x =
    ap (λ (rs : List ReadFrame). option_map_or (λ (r : ReadFrame). r.end) (last_of rs) 0)
    (filter_map-append read_in ts (traffic.Written x ∷ []) ∙ append-nil (filter_map read_in ts))

more_read : (ts : List Traffic) (r : ReadFrame) → bytes_of ts ≤ r.end → ordered ts ≡ true → ordered (ts ++ traffic.Read r ∷ []) ≡ true
more_read ts r h e =
    ap (λ (n : ℕ). list_all (is_read_by n) (ts ++ traffic.Read r ∷ [])) (bytes_read ts r)
    ∙ list_all-append (is_read_by r.end) ts (traffic.Read r ∷ [])
    ∙ and_from (list_all (is_read_by r.end) ts) (nat_le r.end r.end && true) (all_still (bytes_of ts) r.end ts h e) (ap (λ (b : Bool). b && true) (itself r.end))

more_written : (ts : List Traffic) (x : Sent) → ordered ts ≡ true → ordered (ts ++ traffic.Written x ∷ []) ≡ true
more_written ts x e =
    ap (λ (n : ℕ). list_all (is_read_by n) (ts ++ traffic.Written x ∷ [])) (bytes_written ts x)
    ∙ list_all-append (is_read_by (bytes_of ts)) ts (traffic.Written x ∷ []) ∙ and_from (list_all (is_read_by (bytes_of ts)) ts) true e refl

-- what an action does to links: most leave them as they are
plain_end_run : (s : Seen) (place : ℕ) (b : Bool) (o : Option ℕ)
    → (if b then option_map_or (λ (run : ℕ). record s { runs = changed (more_ends place) run s.runs }) o s else s).links ≡ s.links
plain_end_run s place false o = refl
plain_end_run s place true None = refl
plain_end_run s place true (Some run) = refl

pub links_of_run : (s : Seen) (a : Attempt) (e : RowEnd) (o : Option Call) → (option_map_or (with_end_in_run a e s) o s).links ≡ s.links
links_of_run s a e None = refl
links_of_run s a e (Some d) =
    plain_end_run s a.place (not (is_cut e.cause) && not (is_to_follow d e.cause e.unseen s)) (option_and_then (λ (h : HeldConfig). h.run) (config_of_call d s))

pub links_of_end : (s : Seen) (e : RowEnd) (o : Option Attempt) → (option_map_or (attempt_ended_as e s) o s).links ≡ s.links
links_of_end s e None = refl
links_of_end s e (Some a) = links_of_run s a e (call_of a s)

pub links_of_mark : (s : Seen) (what : MarkKind) (o : Option Attempt) → (option_map_or (λ (a : Attempt). marked what a.row.call s) o s).links ≡ s.links
links_of_mark s what None = refl
links_of_mark s what (Some a) = refl

pub links_of_turn : (b : Bool) (z : Seen) → (without_turn_unless b z).links ≡ z.links
links_of_turn true z = refl
links_of_turn false z = refl

pub links_of_event : (e : Event) (s : Seen) → (call_begun_by e s).links ≡ s.links
links_of_event (event.Begin request) s = refl
links_of_event _ s = refl

pub links_of_throttle : (config : Config) (t : Throttle) (o : Option ℕ) (z : Seen) → (with_throttled config t o z).links ≡ z.links
links_of_throttle config t None z = refl
links_of_throttle config t (Some run) z = refl

pub links_of_held : (config : Config) (o : Option Throttle) (z : Seen) → (with_held config o z).links ≡ z.links
links_of_held config None z = refl
links_of_held config (Some t) z = links_of_throttle config t (run_to_join t z) z

pub links_of_config : (x : Result Config ConfigFault) (s : Seen) → (config_read x s).links ≡ s.links
links_of_config (Ok config) s = links_of_held config config.throttle (replied reply.Done (resolver_answered s))
links_of_config (Err fault) s = refl

pub links_of_note : (z : Seen) (o : Option Subchannel) → (option_map_or (λ (b : Subchannel). noted_by_policies b z) o z).links ≡ z.links
links_of_note z None = refl
links_of_note z (Some b) = refl

pub links_of_sub : (f : Subchannel → Subchannel) (n : ℕ) (z : Seen) → (with_sub f n z).links ≡ z.links
links_of_sub f n z =
    let t : Seen = record z { subs = changed f n z.subs } in links_of_note t (numbered t.subs n)

pub links_of_dial : (again until : ℕ) (s : Seen) (o : Option Subchannel) → (option_map_or (dial_taken_of again until s) o s).links ≡ s.links
links_of_dial again until s None = refl
links_of_dial again until s (Some b) = links_of_sub (with_dial again until) b.number s

pub links_of_addresses : (g : ℕ) (s : Seen) (o : Option (List Address)) → (option_map_or (λ (addresses : List Address). with_policy (given_addresses addresses s) g s) o s).links ≡ s.links
links_of_addresses g s None = refl
links_of_addresses g s (Some addresses) = refl

pub links_of_policy : (s : Seen) (o : Option PolicyUse) → (option_map_or (λ (p : PolicyUse). policy_retired p.number s) o s).links ≡ s.links
links_of_policy s None = refl
links_of_policy s (Some p) = refl

pub links_of_stream : (f : FrameSeen) (s : Seen) (o : Option Attempt) → (option_map_or (λ (a : Attempt). with_attempt (with_stream f.stream) a.place s) o s).links ≡ s.links
links_of_stream f s None = refl
links_of_stream f s (Some a) = refl

pub links_of_opening : (f : FrameSeen) (l : Link) (s : Seen) (b : Bool) → (if b then stream_opened f l s else s).links ≡ s.links
links_of_opening f l s true = links_of_stream f s (slice_get (waiting_on l s) 0)
links_of_opening f l s false = refl

pub links_of_opened : (x : Sent) (l : Link) (s : Seen) → (stream_opened_by x l s).links ≡ s.links
links_of_opened sent.Preface l s = refl
links_of_opened (sent.Frame f) l s = links_of_opening f l s (f.kind == headers_type)

-- links that go over, or have something queued
record Keeps (f : Link → Link) : Type 0 where
  traffic_is : (l : Link) → (f l).traffic ≡ l.traffic

piece_keeps : (e : Event) → Keeps (with_piece e)
piece_keeps (event.Arrived link piece) = record { traffic_is = λ l. refl }
piece_keeps _ = record { traffic_is = λ l. refl }

gone_if : (s : Seen) (l : Link) (b : Bool) → (if b then record l { gone = Some (entry s) } else l).traffic ≡ l.traffic
gone_if s l true = refl
gone_if s l false = refl

module _ (s : Seen) (e : LinksAreReadInOrder s) where
  same_then : (t : Seen) → t.links ≡ s.links → LinksAreReadInOrder t
  same_then t f = ap (list_all is_read_in_order) f ∙ e

  kept_then : (f : Link → Link) → Keeps f → (n : ℕ) → list_all is_read_in_order (changed f n s.links) ≡ true
  kept_then f k n = all_changed is_read_in_order f n s.links e (λ l got. ap ordered (k.traffic_is l) ∙ all_at is_read_in_order s.links n l e got)

  over_by : (o : Option ℕ) → LinksAreReadInOrder (option_map_or (λ (link : ℕ). link_over over.TimedOut link s) o s)
  over_by None = e
  over_by (Some n) = kept_then (λ (l : Link). record l { over = Some over.TimedOut }) (record { traffic_is = λ l. refl }) n

  timed_out_by : (o : Option Subchannel) → LinksAreReadInOrder (option_map_or (λ (b : Subchannel). link_timed_out b s) o s)
  timed_out_by None = e
  timed_out_by (Some b) = over_by b.link

  reset_by : (number : ℕ) (o : Option Attempt) → LinksAreReadInOrder (option_map_or (stream_reset_of number s) o s)
  reset_by number None = e
  reset_by number (Some q) = kept_then (λ (l : Link). record l { owed = l.owed ++ rst_stream_frame (stream_number q) number ∷ [] }) (record { traffic_is = λ l. refl }) (link_number q)

  read_by : (r : ReadFrame) (link : ℕ) (o : Option Link) → numbered s.links link ≡ o → ((l : Link) → o ≡ Some l → (l.number ≡ link) × (read_bytes l ≤ r.end))
      → LinksAreReadInOrder (option_map_or (frame_read_on r s) o s)
  read_by r link None got so = e
  read_by r link (Some l) got so =
      let both : (l.number ≡ link) × (read_bytes l ≤ r.end) = so l refl in
      all_changed is_read_in_order (with_frame_read r (owed_for r.frame l s)) l.number s.links e
      (λ k at.
      (let same : Some l ≡ Some k = sym got ∙ ap (numbered s.links) (sym both.0) ∙ at in
      let one : l ≡ k = (cc) in
      more_read k.traffic r (subst (λ (z : Link). read_bytes z ≤ r.end) one both.1) (all_at is_read_in_order s.links l.number k e at)))

  written_by : (x : Sent) (o : Option Link) → LinksAreReadInOrder (option_map_or (frame_written_on x s) o s)
  written_by x None = e
  written_by x (Some l) =
      ap (λ (ls : List Link). list_all is_read_in_order (changed (λ (k : Link). record k { traffic = k.traffic ++ traffic.Written x ∷ [] }) l.number ls)) (links_of_opened x l s)
      ∙ all_changed is_read_in_order (λ (k : Link). record k { traffic = k.traffic ++ traffic.Written x ∷ [] }) l.number s.links e
      (λ k got. more_written k.traffic x (all_at is_read_in_order s.links l.number k e got))

  act : (o : OpenEntry) (x : Action) → ReadsOn x s → LinksAreReadInOrder (after_in o x s)
  act o action.CallBegins off = same_then (call_begun_by o.event s) (links_of_event o.event s)
  act o (action.ConfigRead x) off = same_then (config_read x s) (links_of_config x s)
  act o (action.AttemptMade n number k due) off = same_then (attempt_made n number k due s) (links_of_turn (is_transparent k) (marked (mark.Made (length s.attempts + 1)) n (with_row (new_row n number k due) s)))
  act o (action.AttemptPlaced row where_to) off =
      same_then (attempt_placed row where_to s) (links_of_mark (with_attempt (with_placing where_to) row s) (mark.Placed row) (numbered (with_attempt (with_placing where_to) row s).attempts row))
  act o (action.AttemptEnds row e) off = same_then (attempt_ended row e s) (links_of_end s e (numbered s.attempts row))
  act o (action.CallCommitted row why) off =
      same_then (call_committed row s) (links_of_mark (with_attempt (with_commitment (entry s)) row s) mark.Committed (numbered (with_attempt (with_commitment (entry s)) row s).attempts row))
  act o (action.StreamReset row number) off = reset_by number (numbered s.attempts row)
  act o action.EntryCloses off = all_mapped is_read_in_order (noted_gone s) (λ l. ap ordered (gone_if s l (is_none l.gone && is_gone l s))) s.links e
  act o (action.AddressesGiven g) off = same_then (addresses_given g o.event s) (links_of_addresses g s (addresses_in o.event))
  act o (action.PolicyTakesOver g) off = same_then (policy_took_over g s) (links_of_policy s (current_policy s))
  act o (action.SubchannelShut sub) off = same_then (after_in o (action.SubchannelShut sub) s) (links_of_sub (without_link conn.Shutdown) sub s)
  act o (action.SubchannelConnects sub) off = same_then (after_in o (action.SubchannelConnects sub) s) (links_of_sub (in_state conn.Connecting) sub s)
  act o (action.DialTaken sub again until) off = same_then (dial_taken sub again until s) (links_of_dial again until s (numbered s.subs sub))
  act o (action.DialFails sub) off = same_then (dial_failed sub s) (links_of_sub (without_link conn.Failure) sub (wants_resolution s))
  act o (action.ConnectTimesOut sub) off =
      ap (list_all is_read_in_order)
      (links_of_sub (without_link conn.Failure) sub (wants_resolution (option_map_or (λ (b : Subchannel). link_timed_out b s) (numbered s.subs sub) s))) ∙ timed_out_by (numbered s.subs sub)
  act o (action.BackoffEnds sub) off = same_then (after_in o (action.BackoffEnds sub) s) (links_of_sub (in_state conn.Idle) sub s)
  act o (action.LinkUp sub) off =
      ap (list_all is_read_in_order)
      (links_of_sub (λ (b : Subchannel). record b { link = Some (length s.links + 1) }) sub (record s { links = s.links ++ new_link (length s.links + 1) sub s ∷ [] }))
      ∙ list_all-append is_read_in_order s.links (new_link (length s.links + 1) sub s ∷ []) ∙ and_from (list_all is_read_in_order s.links) true e refl
  act o (action.SettingsArrive sub) off = same_then (settings_arrived sub s) (links_of_sub (λ (b : Subchannel). record b { state = conn.Ready; dials = 0; until = None }) sub s)
  act o (action.LinkDown sub) off = same_then (after_in o (action.LinkDown sub) s) (links_of_sub gone_down sub s)
  act o (action.BytesArrive link) off = kept_then (with_piece o.event) (piece_keeps o.event) link
  act o (action.FrameRead link r) off = read_by r link (numbered s.links link) refl off
  act o (action.FrameWritten link x) off = written_by x (numbered s.links link)
  act o (action.LinkBreaks link number) off = kept_then (λ (l : Link). record l { over = Some over.Broken }) (record { traffic_is = λ l. refl }) link
  act o (action.LinkLost link) off = kept_then (λ (l : Link). record l { over = Some over.Lost }) (record { traffic_is = λ l. refl }) link
  act o (action.PingQueued link) off = kept_then (λ (l : Link). record l { owed = l.owed ++ ping_of o.event }) (record { traffic_is = λ l. refl }) link
  act o x off = same_then (after_in o x s) refl

  act_if : (o : Option OpenEntry) (x : Action) → ReadsOn x s → LinksAreReadInOrder (after_if o x s)
  act_if (Some o) x on = act o x on
  act_if None (action.EntryOpens posted word e) on = same_then (opened posted word e s) refl
  act_if None x on = same_then s refl

pub reads_stay : ReadsStay
reads_stay s x e on = act_if s e s.current x on

pub reads_begin : ReadsBegin
reads_begin setup = refl

-- the frame that a link shows next
abbrev AtLeast : ℕ → NextRead → Type 0
AtLeast m (nextread.Frame r) = m ≤ r.end
AtLeast m _ = Unit {0}

long_by : (m : ℕ) (b : Bool) (code : ℕ) (n : NextRead) → AtLeast m n → AtLeast m (if b then nextread.Broken code else n)
long_by m true code n h = tt
long_by m false code n h = h

block_by : (m end : ℕ) (f : FrameSeen) (b : OpenBlock) (x : Result (List Field) HpackFault) → m ≤ end → AtLeast m (block_read f end b x)
block_by m end f b (Err fault) h = tt
block_by m end f b (Ok fields) h = long_by m (is_long_block b) enhance_your_calm (nextread.Frame (record { frame = f; end = end; block = Some (record { fields = fields; ends = b.ends }) })) h

part_by : (m end : ℕ) (l : Link) (f : FrameSeen) (b : OpenBlock) (last : Bool) → m ≤ end
    → AtLeast m (if last then block_read f end b (next_fields l b.bytes) else if is_long_block b then nextread.Broken enhance_your_calm else plain_read f end)
part_by m end l f b true h = block_by m end f b (next_fields l b.bytes) h
part_by m end l f b false h = long_by m (is_long_block b) enhance_your_calm (plain_read f end) h

whole_by : (m end : ℕ) (l : Link) (f : FrameSeen) (b : Bool) → m ≤ end → AtLeast m (if b then part_read l f end (block_with (open_block l) f) else plain_read f end)
whole_by m end l f true h = part_by m end l f (block_with (open_block l) f) (is_last_of_block f) h
whole_by m end l f false h = h

frame_by : (m end : ℕ) (o : Option ℕ) (l : Link) (f : FrameSeen) → m ≤ end → AtLeast m (frame_read_by o l f end)
frame_by m end (Some code) l f h = tt
frame_by m end None l f h = whole_by m end l f (is_of_block f) h

next_by : (l : Link) (s : Seen) (x : Reading) → AtLeast (read_bytes l) (next_read_by x l s)
next_by l s Partial = tt
next_by l s (Fault code) = tt
next_by l s (Whole f size) =
    let more : read_bytes l ≤ read_bytes l + size = omega arith in frame_by (read_bytes l) (read_bytes l + size) (link_error l f s) l f more

shown : (m link : ℕ) (r : ReadFrame) (n : NextRead) → AtLeast m n → read_action link n ≡ Some (action.FrameRead link r) → m ≤ r.end
shown m link r nextread.Nothing h e = absurd (cc)
shown m link r (nextread.Frame q) h e = let same : q ≡ r = (cc) in subst (λ (z : ReadFrame). m ≤ z.end) same h
shown m link r (nextread.Broken code) h e = absurd (cc)

shown_if : (m link : ℕ) (r : ReadFrame) (n : NextRead) (b : Bool) → AtLeast m n → (if b then read_action link n else None) ≡ Some (action.FrameRead link r) → m ≤ r.end
shown_if m link r n true h e = shown m link r n h e
shown_if m link r n false h e = absurd (cc)

pub frames_come_after : FramesComeAfter
frames_come_after s link l r got e =
    shown_if (read_bytes l) link r (next_read l s) (is_none l.over) (next_by l s (reading_of (drop (read_bytes l) l.received))) (sym (ap (option_and_then (read_next link s)) got) ∙ e)
