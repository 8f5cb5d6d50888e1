-- A link opened no more streams than attempts have one: each was opened for an attempt, and stays its own.
use Rattle.attempt_ledger.specs.declared.row.Placed.{Placed}
use Rattle.attempt_ledger.specs.declared.row.RowKind.{RowKind}
use Rattle.channel_actions.proofs.Changes.{Small, asked_in, noted_now, placed_in, read_in, small_in, sub_now, taken_in}
use Rattle.channel_actions.proofs.Links.Prefaced.Along.{prefaced_begins, prefaced_stays}
use Rattle.channel_actions.proofs.KeptSessions.Along.{kept_begins, kept_stays}
use Rattle.channel_actions.proofs.KeptSessions.Lists.{all_at, all_changed, all_each, all_filter, all_get, all_mapped, all_more, all_wide, own_number}
use Rattle.channel_actions.proofs.Streams.Own.Along.{frames_are_sendable}
use Rattle.channel_actions.proofs.Streams.Own.Frames.{control_by, counted, is_opening, opening, total}
use Rattle.channel_actions.specs.FewCalls.Laws.{StreamsAreOfAttempts, is_streaming}
use Rattle.channel_actions.specs.PrefacedLinks.Prefaced.{LinksArePrefaced}
use Rattle.channel_actions.specs.KeptSessions.Kept.{IsKept}
use Rattle.grpc_base.specs.declared.address.Address.{Address}
use Rattle.grpc_base.specs.declared.event.Event.TheVariants as event
use Rattle.grpc_base.specs.declared.event.Event.{Event}
use Rattle.grpc_base.specs.declared.event.Reply.TheVariants as reply
use Rattle.grpc_base.specs.declared.event.Reply.{Reply}
use Rattle.grpc_frame.specs.Messages.{framed_all}
use Rattle.h2_frame.specs.Frames.{FrameSeen}
use Rattle.h2_frame.specs.Numbers.{headers_type}
use Rattle.h2_frame.specs.Sent.{data_frame, headers_frame}
use Rattle.session_actions.specs.Actions.{after, after_if, after_in}
use Rattle.session_actions.specs.Attempts.{call_of, is_outstanding, with_attempt}
use Rattle.session_actions.specs.Calls.{with_call}
use Rattle.session_actions.specs.Closing.{entry_made, noted_gone}
use Rattle.session_actions.specs.Deliveries.{begun_call, call_begun_by, item_taken}
use Rattle.session_actions.specs.Entries.{entry, now, opened, replied, settling, with_entry}
use Rattle.session_actions.specs.Links.{has_written_end, is_stream_before, with_link}
use Rattle.session_actions.specs.Making.{new_row, with_row}
use Rattle.session_actions.specs.Policies.{with_placing}
use Rattle.session_actions.specs.Reading.{is_outstanding_on, opened_streams, outstanding_on, used}
use Rattle.session_actions.specs.Refusals.{is_gone}
use Rattle.session_actions.specs.Sessions.{Does, IsNext, new_session}
use Rattle.session_actions.specs.Subchannels.{dial_taken_of, link_up, new_link, sub_added, with_dial, with_sub}
use Rattle.session_actions.specs.Words.{changed, changed_if, foremost, holds, numbered}
use Rattle.session_actions.specs.Writing.{accepted_bytes, controls_written, data_for, data_len, data_of, data_on, frame_written_on, has_begun, headers_for, is_control, may_open_stream, next_control, next_data, next_headers, next_stream, request_block, sendable, stream_opened, stream_opened_by, streaming_on, waiting_on, with_frame_read, with_piece, with_stream, with_written_bytes}
use Rattle.session_actions.specs.declared.action.Action.TheVariants as action
use Rattle.session_actions.specs.declared.action.Action.{Action}
use Rattle.session_actions.specs.declared.attempt.Attempt.{Attempt}
use Rattle.session_actions.specs.declared.call.Call.{Call}
use Rattle.session_actions.specs.declared.entry.OpenEntry.{OpenEntry}
use Rattle.session_actions.specs.declared.entry.Stage.TheVariants as stage
use Rattle.session_actions.specs.declared.link.Link.{Link}
use Rattle.session_actions.specs.declared.link.ReadFrame.{ReadFrame}
use Rattle.session_actions.specs.declared.link.Sent.TheVariants as sent
use Rattle.session_actions.specs.declared.link.Sent.{Sent}
use Rattle.session_actions.specs.declared.link.Traffic.TheVariants as traffic
use Rattle.session_actions.specs.declared.link.Traffic.{Traffic}
use Rattle.session_actions.specs.declared.seen.Seen.{Seen}
use Rattle.session_actions.specs.declared.seen.Setup.{Setup}
use Rattle.session_actions.specs.declared.subchannel.Subchannel.{Subchannel}
use Rattle.std.proofs.Common.{Bool, List, None, Option, Some, [], ap, arith, cond, drop, false, filter, if◌then◌else◌, is_none, is_some, length, nat_le, not, option_and_then, option_map, pred, refl, slice_get, slice_set, subst, suc, sym, take, true, zero, ℕ, ◌&&◌, ◌++◌, ◌+◌, ◌-◌, ◌==◌, ◌||◌, ◌∙◌, ◌∷◌, ◌≡◌, ◌≤◌}
use Rattle.std.proofs.lemmas.Bool.{and_from, and_parts, le-leb, leb-true, or_right}
use Rattle.std.proofs.lemmas.List.Sums.{length-filter}
use Rattle.std.specs.List.{list_all}
use Rattle.std.specs.Option.{option_map_or, option_or}
use Rattle.std.specs.Prelude.{count_by, nat_lt}

-- attempts with a stream
abbrev one_with : Attempt → ℕ
one_with a = if is_some a.row.stream then 1 else 0

abbrev streamed : List Attempt → ℕ
streamed [] = 0
streamed (a ∷ attempts) = one_with a + streamed attempts

abbrev is_open : ℕ → Link → Bool
is_open n l = nat_le (length (opened_streams l)) n

-- what a change keeps, and what holds of every session
record Opens (s t : Seen) : Type 0 where
  links : (n : ℕ) → list_all (is_open n) s.links ≡ true → list_all (is_open n) t.links ≡ true
  more : streamed s.attempts ≤ streamed t.attempts

abbrev AreOpened : Seen → Type 0
AreOpened s = list_all (is_open (streamed s.attempts)) s.links ≡ true

less_on : (a b c : ℕ) → a ≤ b → b ≤ c → a ≤ c
less_on a b c e f = omega (arith, e, f)

itself : (n : ℕ) → n ≤ n
itself n = omega arith

open_more : (n m : ℕ) (links : List Link) → n ≤ m → list_all (is_open n) links ≡ true → list_all (is_open m) links ≡ true
open_more n m links less e =
    all_wide (is_open n) (is_open m) (λ l f. le-leb (length (opened_streams l)) m (less_on (length (opened_streams l)) n m (leb-true (length (opened_streams l)) n f) less)) links e

kept : (s t : Seen) → Opens s t → AreOpened s → AreOpened t
kept s t c k = c.links (streamed t.attempts) (open_more (streamed s.attempts) (streamed t.attempts) s.links c.more k)

joined : (s t u : Seen) → Opens s t → Opens t u → Opens s u
joined s t u c d = record {
  links = λ n e. d.links n (c.links n e);
  more = less_on (streamed s.attempts) (streamed t.attempts) (streamed u.attempts) c.more d.more;
}

aside : (s t : Seen) → t.attempts ≡ s.attempts → t.links ≡ s.links → Opens s t
aside s t attempts links = record {
  links = λ n e. ap (list_all (is_open n)) links ∙ e;
  more = subst (λ (l : List Attempt). streamed s.attempts ≤ streamed l) (sym attempts) (itself (streamed s.attempts));
}

-- one attempt, changed
one_set : (attempts : List Attempt) (i : ℕ) (x y : Attempt) → slice_get attempts i ≡ Some x → streamed (slice_set attempts i y) + one_with x ≡ streamed attempts + one_with y
one_set [] i x y e = absurd (cc)
one_set (a ∷ attempts) zero x y e = first_on (one_with y) (streamed attempts) (one_with x) (one_with a) (let one : a ≡ x = (cc) in ap one_with one)
  where
    first_on : (n m k j : ℕ) → j ≡ k → n + m + k ≡ j + m + n
    first_on n m k j e = omega (arith, e)
one_set (a ∷ attempts) (suc i) x y e = rest_on (one_with a) (streamed (slice_set attempts i y)) (one_with x) (streamed attempts) (one_with y) (one_set attempts i x y e)
  where
    rest_on : (n m k j i : ℕ) → m + k ≡ j + i → n + m + k ≡ n + j + i
    rest_on n m k j i e = omega (arith, e)

more_by : (b c : Bool) → (b ≡ true → c ≡ true) → (p q : ℕ) → p + (if b then 1 else 0) ≡ q + (if c then 1 else 0) → q ≤ p
more_by true true has p q e = omega (arith, e)
more_by true false has p q e = absurd (let bad : false ≡ true = has refl in (cc))
more_by false true has p q e = omega (arith, e)
more_by false false has p q e = omega (arith, e)

module _ (f : Attempt → Attempt) (has : (a : Attempt) → is_some a.row.stream ≡ true → is_some (f a).row.stream ≡ true) where
  more_at : (place : ℕ) (attempts : List Attempt) (o : Option Attempt) → numbered attempts place ≡ o → streamed attempts ≤ streamed (changed_if f place attempts o)
  more_at place attempts None e = itself (streamed attempts)
  more_at zero attempts (Some x) e = absurd (cc)
  more_at (suc i) attempts (Some x) e =
      more_by (is_some x.row.stream) (is_some (f x).row.stream) (has x) (streamed (slice_set attempts i (f x))) (streamed attempts) (one_set attempts i x (f x) e)

  attempt_now : (place : ℕ) (s : Seen) → Opens s (with_attempt f place s)
  attempt_now place s = record { links = λ n e. e; more = more_at place s.attempts (numbered s.attempts place) refl }

more_last : (attempts : List Attempt) (a : Attempt) → streamed attempts ≤ streamed (attempts ++ a ∷ [])
more_last [] a = omega arith
more_last (x ∷ attempts) a = prefix_on (one_with x) (streamed attempts) (streamed (attempts ++ a ∷ [])) (more_last attempts a)
  where
    prefix_on : (n m k : ℕ) → m ≤ k → n + m ≤ n + k
    prefix_on n m k e = omega (arith, e)

-- one link, changed
link_now : (f : Link → Link) → ((l : Link) → length (opened_streams (f l)) ≡ length (opened_streams l)) → (n : ℕ) (s : Seen) → Opens s (with_link f n s)
link_now f same n s = record {
  links = λ m e. all_changed (is_open m) f n s.links e (λ l there g. ap (λ (k : ℕ). nat_le k m) (same l) ∙ g);
  more = itself (streamed s.attempts);
}

same_traffic : (f : Link → Link) → ((l : Link) → (f l).traffic ≡ l.traffic) → (l : Link) → length (opened_streams (f l)) ≡ length (opened_streams l)
same_traffic f same l = counted (f l) ∙ ap (λ (ts : List Traffic). length (opening ts)) (same l) ∙ sym (counted l)

-- (a frame that is read opens nothing)
read_same : (r : ReadFrame) (frames : List FrameSeen) (l : Link) → length (opened_streams (with_frame_read r frames l)) ≡ length (opened_streams l)
read_same r frames l =
    counted (with_frame_read r frames l) ∙ none_on (length (opening (l.traffic ++ traffic.Read r ∷ []))) (length (opening l.traffic)) (total l.traffic (traffic.Read r)) ∙ sym (counted l)
  where
    none_on : (n m : ℕ) → n ≡ m + 0 → n ≡ m
    none_on n m e = omega (arith, e)

replies : (r : Reply) (s : Seen) → Opens s (replied r s)
replies r s = aside s (replied r s) refl refl

small : Small Opens
small = record {
  joined = joined;
  beside = λ s t entries current calls attempts asks subs links. aside s t attempts links;
  call = λ f request begun n s. aside s (with_call f n s) refl refl;
  attempt = λ f waits placed stream n s. attempt_now f (λ a e. ap is_some (stream a) ∙ e) n s;
  row = λ call number kind due s. record {
    links = λ n e. e;
    more = more_last s.attempts (record { place = length s.attempts + 1; row = new_row call number kind due; made = entry s; reset = false });
  };
  link = λ f same passed over n s. link_now f (same_traffic f passed) n s;
  sub = λ f less n s. aside s (record s { subs = changed f n s.subs }) refl refl;
  added = λ address s. aside s (sub_added address s) refl refl;
  entry = λ f moment event_is stage_is after_it s. aside s (record s { current = option_map f s.current }) refl refl;
  replied = λ r e s. replies r s;
}

placed_now : (at : Placed) (n : ℕ) (s : Seen) → Opens s (with_attempt (with_placing at) n s)
placed_now at n s = attempt_now (with_placing at) (λ a e. e) n s

-- what a link sends next: HEADERS only for an attempt that waits
abbrev opens_for : Link → Seen → Sent → Bool
opens_for l s sent.Preface = true
opens_for l s (sent.Frame f) = not (f.kind == headers_type) || is_some (slice_get (waiting_on l s) 0)

abbrev ForIf : Link → Seen → Option Sent → Type 0
ForIf l s None = Unit {0}
ForIf l s (Some x) = opens_for l s x ≡ true

for_or : (l : Link) (s : Seen) (o p : Option Sent) → ForIf l s o → ForIf l s p → ForIf l s (option_or o p)
for_or l s None p f g = g
for_or l s (Some x) p f g = f

for_if : (l : Link) (s : Seen) (b : Bool) (o p : Option Sent) → ForIf l s o → ForIf l s p → ForIf l s (if b then o else p)
for_if l s true o p f g = f
for_if l s false o p f g = g

for_then : {X : Type 0} (l : Link) (s : Seen) (f : X → Option Sent) → ((x : X) → ForIf l s (f x)) → (o : Option X) → ForIf l s (option_and_then f o)
for_then l s f each None = tt
for_then l s f each (Some x) = each x

control_for : (l : Link) (s : Seen) (owed : List FrameSeen) (n : ℕ) (o : Option FrameSeen) → slice_get owed n ≡ o → list_all is_control owed ≡ true
    → ForIf l s (option_map (λ (f : FrameSeen). sent.Frame f) o)
control_for l s owed n None got e = tt
control_for l s owed n (Some f) got e = control_by f.kind (is_some (slice_get (waiting_on l s) 0)) (f.kind == headers_type) refl (all_get is_control owed n f e got)

head_for : (l : Link) (s : Seen) (o : Option Attempt) → slice_get (waiting_on l s) 0 ≡ o → ForIf l s (option_and_then (headers_for l s) o)
head_for l s None e = tt
head_for l s (Some a) e = of_call (call_of a s)
  where
    of_call : (c : Option Call) → ForIf l s (option_map (λ (q : Call). sent.Frame (headers_frame (next_stream l) (request_block q a l s))) c)
    of_call None = tt
    of_call (Some q) = ap is_some e

data_by : (l : Link) (s : Seen) (stream : ℕ) (content : List ℕ) (ends b : Bool) → ForIf l s (if b then Some (sent.Frame (data_frame stream content ends)) else None)
data_by l s stream content ends true = refl
data_by l s stream content ends false = tt

data_on_for : (l : Link) (s : Seen) (stream : ℕ) (c : Call) (b : Bool) (len : ℕ) → ForIf l s (if b then None else data_of c l stream len)
data_on_for l s stream c true len = tt
data_on_for l s stream c false len =
    let done : ℕ = used stream l in
    let ends : Bool = c.finished && (done + len == accepted_bytes c) in data_by l s stream (take len (drop done (framed_all c.messages))) ends (nat_lt 0 len || ends)

data_for_it : (l : Link) (s : Seen) (a : Attempt) → ForIf l s (data_for l s a)
data_for_it l s a =
    for_then l s (λ (stream : ℕ). option_and_then (data_on l stream) (call_of a s))
    (λ stream.
    for_then l s (data_on l stream) (λ c. data_on_for l s stream c (has_written_end stream l) (data_len l stream (accepted_bytes c - used stream l))) (call_of a s))
    a.row.stream

sends_for : (l : Link) (s : Seen) → list_all is_control l.owed ≡ true → ForIf l s (sendable l s)
sends_for l s e =
    for_if l s (not (has_begun l)) (Some sent.Preface) (option_or (next_control l) (option_or (next_headers l s) (next_data l s))) refl
    (for_or l s (next_control l) (option_or (next_headers l s) (next_data l s)) (control_for l s l.owed (controls_written l) (slice_get l.owed (controls_written l)) refl e)
    (for_or l s (next_headers l s) (next_data l s)
    (for_if l s (may_open_stream l s) (option_and_then (headers_for l s) (slice_get (waiting_on l s) 0)) None (head_for l s (slice_get (waiting_on l s) 0) refl) tt)
    (for_then l s (data_for l s) (data_for_it l s) (foremost is_stream_before (filter (λ (a : Attempt). is_some (data_for l s a)) (streaming_on l s))))))

sent_for : (l : Link) (s : Seen) (x : Sent) → list_all is_control l.owed ≡ true → sendable l s ≡ Some x → opens_for l s x ≡ true
sent_for l s x e is = subst (ForIf l s) is (sends_for l s e)

-- an attempt that waits has no stream, and stands at its place
filter_passes : {X : Type 0} (p : X → Bool) (xs : List X) → list_all p (filter p xs) ≡ true
filter_passes p [] = refl
filter_passes p (x ∷ xs) = by (p x) refl (filter_passes p xs)
  where
    by : (b : Bool) → p x ≡ b → list_all p (filter p xs) ≡ true → list_all p (cond b (x ∷ filter p xs) (filter p xs)) ≡ true
    by true e rest = and_from (p x) (list_all p (filter p xs)) e rest
    by false e rest = rest

none_some : {X : Type 0} (o : Option X) → is_none o ≡ true → is_some o ≡ false
none_some None e = refl
none_some (Some x) e = absurd (let no : false ≡ true = e in (cc))

abbrev lacks : Attempt → Bool
lacks a = is_none a.row.stream

either_way : {X : Type 0} (o : Option X) → (is_none o || is_some o) ≡ true
either_way None = refl
either_way (Some x) = refl

second_of : (a b : Bool) → (a || b) ≡ true → b ≡ false → a ≡ true
second_of true b e f = refl
second_of false b e f = absurd (let no : true ≡ false = sym e ∙ f in (cc))

waiting_there : (l : Link) (s : Seen) (a : Attempt) → IsKept s → slice_get (waiting_on l s) 0 ≡ Some a → holds lacks (numbered s.attempts a.place) ≡ true
waiting_there l s a in_order got =
    let test : Attempt → Bool = λ (q : Attempt). holds lacks (numbered s.attempts q.place) || is_some q.row.stream in
    let each : list_all test s.attempts ≡ true
    = all_each test s.attempts
    (λ i q there. ap (λ (o : Option Attempt). holds lacks o || is_some q.row.stream) (own_number (λ (b : Attempt). b.place) s.attempts i q in_order.attempts there) ∙ either_way q.row.stream) in
    let waits : list_all test (waiting_on l s) ≡ true = all_filter test lacks (outstanding_on l s) (all_filter test (is_outstanding_on l) s.attempts each) in
    let none : lacks a ≡ true = all_get lacks (waiting_on l s) 0 a (filter_passes lacks (outstanding_on l s)) got in
    second_of (holds lacks (numbered s.attempts a.place)) (is_some a.row.stream) (all_get test (waiting_on l s) 0 a waits got) (none_some a.row.stream none)

-- so it gets one more
one_more : (n place : ℕ) (attempts : List Attempt) (o : Option Attempt) → numbered attempts place ≡ o → holds lacks o ≡ true → streamed attempts + 1 ≤ streamed (changed_if (with_stream n) place attempts o)
one_more n place attempts None e waits = absurd (let no : false ≡ true = waits in (cc))
one_more n zero attempts (Some x) e waits = absurd (cc)
one_more n (suc i) attempts (Some x) e waits =
    let none : one_with x ≡ 0 = ap (λ (b : Bool). if b then 1 else 0) (none_some x.row.stream waits) in
    more_on (streamed (slice_set attempts i (with_stream n x))) (one_with x) (streamed attempts) (one_set attempts i x (with_stream n x) e) none
  where
    more_on : (p q r : ℕ) → p + q ≡ r + 1 → q ≡ 0 → r + 1 ≤ p
    more_on p q r e f = omega (arith, e, f)

-- a frame is written
abbrev written_on : Sent → Link → Link
written_on x m = record m { traffic = m.traffic ++ traffic.Written x ∷ [] }

opens_more : (x : Sent) (m : Link) → length (opened_streams (written_on x m)) ≡ length (opened_streams m) + length (opening (traffic.Written x ∷ []))
opens_more x m =
    counted (written_on x m) ∙ total m.traffic (traffic.Written x) ∙ ap (λ (k : ℕ). k + length (opening (traffic.Written x ∷ []))) (sym (counted m))

finish : (x : Sent) (n : ℕ) (s : Seen) (attempts : List Attempt) → AreOpened s → streamed s.attempts + length (opening (traffic.Written x ∷ [])) ≤ streamed attempts
    → list_all (is_open (streamed attempts)) (changed (written_on x) n s.links) ≡ true
finish x n s attempts k more =
    all_changed (is_open (streamed attempts)) (written_on x) n s.links
    (open_more (streamed s.attempts) (streamed attempts) s.links (less_of (streamed s.attempts) (length (opening (traffic.Written x ∷ []))) (streamed attempts) more) k)
    (λ m there e. le-leb (length (opened_streams (written_on x m))) (streamed attempts)
    (all_on (length (opened_streams (written_on x m))) (length (opened_streams m)) (length (opening (traffic.Written x ∷ []))) (streamed s.attempts) (streamed attempts) (opens_more x m)
    (leb-true (length (opened_streams m)) (streamed s.attempts) (all_at (is_open (streamed s.attempts)) s.links n m k there)) more))
  where
    less_of : (a b c : ℕ) → a + b ≤ c → a ≤ c
    less_of a b c e = omega (arith, e)

    all_on : (a b c d e : ℕ) → a ≡ b + c → b ≤ d → d + c ≤ e → a ≤ e
    all_on a b c d e f g h = omega (arith, f, g, h)

no_more : (attempts : List Attempt) (n : ℕ) → n ≡ 0 → streamed attempts + n ≤ streamed attempts
no_more attempts n e = omega (arith, e)

opening_if : (f : FrameSeen) (b : Bool) → is_opening f ≡ b → length (opening (traffic.Written (sent.Frame f) ∷ [])) ≡ (if b then 1 else 0)
opening_if f true e = ap (λ (c : Bool). length (cond c (f ∷ []) [])) e
opening_if f false e = ap (λ (c : Bool). length (cond c (f ∷ []) [])) e

module _ (l : Link) (s : Seen) (in_order : IsKept s) (k : AreOpened s) where
  head_written : (f : FrameSeen) (o : Option Attempt) → is_opening f ≡ true → slice_get (waiting_on l s) 0 ≡ o → is_some o ≡ true
      → AreOpened (with_entry (with_written_bytes (sent.Frame f)) (with_link (written_on (sent.Frame f)) l.number (option_map_or (λ (a : Attempt). with_attempt (with_stream f.stream) a.place s) o s)))
  head_written f None head got some = absurd (let no : false ≡ true = some in (cc))
  head_written f (Some a) head got some =
      finish (sent.Frame f) l.number s (changed (with_stream f.stream) a.place s.attempts) k
      (one_on (streamed s.attempts) (length (opening (traffic.Written (sent.Frame f) ∷ []))) (streamed (changed (with_stream f.stream) a.place s.attempts)) (opening_if f true head)
      (one_more f.stream a.place s.attempts (numbered s.attempts a.place) refl (waiting_there l s a in_order got)))
    where
      one_on : (a b c : ℕ) → b ≡ 1 → a + 1 ≤ c → a + b ≤ c
      one_on a b c e f = omega (arith, e, f)

  kind_written : (f : FrameSeen) (b : Bool) → is_opening f ≡ b → (not b || is_some (slice_get (waiting_on l s) 0)) ≡ true
      → AreOpened (with_entry (with_written_bytes (sent.Frame f)) (with_link (written_on (sent.Frame f)) l.number (if b then stream_opened f l s else s)))
  kind_written f true e waits = head_written f (slice_get (waiting_on l s) 0) e refl waits
  kind_written f false e waits = finish (sent.Frame f) l.number s s.attempts k (no_more s.attempts (length (opening (traffic.Written (sent.Frame f) ∷ []))) (opening_if f false e))

  frame_written : (x : Sent) → opens_for l s x ≡ true → AreOpened (frame_written_on x s l)
  frame_written sent.Preface e = finish sent.Preface l.number s s.attempts k (no_more s.attempts 0 refl)
  frame_written (sent.Frame f) e = kind_written f (f.kind == headers_type) refl e

written_by : (link : ℕ) (x : Sent) (s : Seen) → IsKept s → LinksArePrefaced s → IsNext (action.FrameWritten link x) s → AreOpened s → (o : Option Link) → numbered s.links link ≡ o
    → AreOpened (option_map_or (frame_written_on x s) o s)
written_by link x s in_order prefaced next k None got = k
written_by link x s in_order prefaced next k (Some l) got =
    frame_written l s in_order k x (sent_for l s x (all_at (λ (q : Link). list_all is_control q.owed) s.links link l in_order.queued got) (frames_are_sendable s link x l in_order prefaced next got))

-- what events alone do
begun_now : (e : Event) (s : Seen) → Opens s (call_begun_by e s)
begun_now (event.Begin request) s = aside s (call_begun_by (event.Begin request) s) refl refl
begun_now e s = aside s s refl refl

up_now : (sub : ℕ) (s : Seen) → Opens s (link_up sub s)
up_now sub s =
    let n : ℕ = length s.links + 1 in
    let v : Seen = record s { links = s.links ++ new_link n sub s ∷ [] } in
    let f : Subchannel → Subchannel = λ (b : Subchannel). record b { link = Some n } in
    let w : Seen = with_sub f sub v in
    let first : Opens s v = record {
      links = λ m e. all_more (is_open m) s.links (new_link n sub s ∷ []) e (ap (λ (b : Bool). b && true) (le-leb 0 m (omega arith)));
      more = itself (streamed s.attempts);
    } in
    joined s v (replied (reply.Link n) w) first (joined v w (replied (reply.Link n) w) (sub_now Opens small f (λ b. itself b.dials) sub v) (replies (reply.Link n) w))

dial_by : (again until : ℕ) (s : Seen) (q : Option Subchannel) → Opens s (option_map_or (dial_taken_of again until s) q s)
dial_by again until s None = aside s s refl refl
dial_by again until s (Some b) =
    let r : Reply = reply.Dial b.number b.address until in
    let draw : OpenEntry → OpenEntry = λ (x : OpenEntry). record x { drawn = x.drawn + (if not (b.dials == 0) then 1 else 0) } in
    let u : Seen = record s { subs = changed (with_dial again until) b.number s.subs } in
    let v : Seen = with_sub (with_dial again until) b.number s in
    let w : Seen = record v { current = option_map draw v.current } in
    joined s u (replied r w) (aside s u refl refl)
    (joined u v (replied r w) (noted_now Opens small u (numbered u.subs b.number)) (joined v w (replied r w) (aside v w refl refl) (replies r w)))

piece_same : (e : Event) (l : Link) → (with_piece e l).traffic ≡ l.traffic
piece_same (event.Arrived link piece) l = refl
piece_same e l = refl

come_now : (e : Event) (link : ℕ) (s : Seen) → Opens s (replied reply.Done (with_link (with_piece e) link s))
come_now e link s =
    let w : Seen = with_link (with_piece e) link s in
    joined s w (replied reply.Done w) (link_now (with_piece e) (same_traffic (with_piece e) (piece_same e)) link s) (replies reply.Done w)

gone_same : (s : Seen) (l : Link) (b : Bool) (n : ℕ) → (if b then record l { gone = Some n } else l).traffic ≡ l.traffic
gone_same s l true n = refl
gone_same s l false n = refl

closed_now : (o : OpenEntry) (s : Seen) → Opens s (entry_made o s)
closed_now o s = record {
  links = λ m e. all_mapped (is_open m) (noted_gone s)
      (λ l g. ap (λ (k : ℕ). nat_le k m) (same_traffic (noted_gone s) (λ q. gone_same s q (is_none q.gone && is_gone q s) (entry s)) l) ∙ g) s.links e;
  more = itself (streamed s.attempts);
}

-- each action
opened_in : (o : OpenEntry) (a : Action) (s : Seen) → IsKept s → LinksArePrefaced s → IsNext a s → AreOpened s → AreOpened (after_in o a s)
opened_in o action.EntryCloses s in_order prefaced next k = kept s (entry_made o s) (closed_now o s) k
opened_in o action.CallBegins s in_order prefaced next k = kept s (call_begun_by o.event s) (begun_now o.event s) k
opened_in o (action.DialTaken sub again until) s in_order prefaced next k = kept s (after_in o (action.DialTaken sub again until) s) (dial_by again until s (numbered s.subs sub)) k
opened_in o (action.LinkUp sub) s in_order prefaced next k = kept s (link_up sub s) (up_now sub s) k
opened_in o (action.BytesArrive link) s in_order prefaced next k = kept s (after_in o (action.BytesArrive link) s) (come_now o.event link s) k
opened_in o action.SettlingBegins s in_order prefaced next k = k
opened_in o (action.PickRequested row generation answer) s in_order prefaced next k =
    kept s (after_in o (action.PickRequested row generation answer) s) (asked_in Opens small (λ ask v. aside v (record v { asks = v.asks ++ ask ∷ [] }) refl refl) row generation answer s) k
opened_in o (action.AttemptPlaced row on_link) s in_order prefaced next k =
    kept s (after_in o (action.AttemptPlaced row on_link) s) (placed_in Opens small placed_now row on_link s) k
opened_in o (action.FrameRead link r) s in_order prefaced next k =
    kept s (after_in o (action.FrameRead link r) s) (read_in Opens small (λ q frames n v. link_now (with_frame_read q frames) (read_same q frames) n v) link r s) k
opened_in o (action.FrameWritten link x) s in_order prefaced next k = written_by link x s in_order prefaced next k (numbered s.links link) refl
opened_in o (action.EventRefused why) s in_order prefaced next k = kept s (replied (reply.Refused why) s) (replies (reply.Refused why) s) k
opened_in o (action.EventAnswered r) s in_order prefaced next k = kept s (replied r s) (replies r s) k
opened_in o (action.ItemTaken call item) s in_order prefaced next k = kept s (item_taken call item s) (taken_in Opens small replies call item s) k
opened_in o a s in_order prefaced next k = kept s (after_in o a s) (small_in Opens small o a s refl) k

opened_if : (o : Option OpenEntry) (a : Action) (s : Seen) → IsKept s → LinksArePrefaced s → IsNext a s → AreOpened s → AreOpened (after_if o a s)
opened_if (Some o) a s in_order prefaced next k = opened_in o a s in_order prefaced next k
opened_if None (action.EntryOpens posted word e) s in_order prefaced next k = k
opened_if None a s in_order prefaced next k = k

opened_along : (actions : List Action) (s t : Seen) → IsKept s → LinksArePrefaced s → AreOpened s → Does actions s t → AreOpened t
opened_along [] s t in_order prefaced k does = subst AreOpened (sym does) k
opened_along (a ∷ actions) s t in_order prefaced k does =
    opened_along actions (after a s) t (kept_stays s a in_order does.0) (prefaced_stays s a in_order prefaced does.0) (opened_if s.current a s in_order prefaced does.0 k) does.1

-- attempts that wait for a stream have none
sum_one : (o : Option ℕ) → (if is_some o then 1 else 0) + (if is_none o then 1 else 0) ≡ 1
sum_one None = refl
sum_one (Some n) = refl

long_if : (b : Bool) (a : Attempt) (rest : List Attempt) → length (cond b (a ∷ rest) rest) ≡ (if b then 1 else 0) + length rest
long_if true a rest = (let one : length (a ∷ rest) ≡ 1 + length rest = omega arith in one)
long_if false a rest = (let none : length rest ≡ 0 + length rest = omega arith in none)

streaming_if : (b : Bool) (a : Attempt) (rest : List Attempt) → is_streaming a ≡ b → length (cond (is_streaming a) (a ∷ rest) rest) ≡ (if b then 1 else 0) + length rest
streaming_if b a rest e = long_if (is_streaming a) a rest ∙ ap (λ (c : Bool). (if c then 1 else 0) + length rest) e

-- (of one attempt: it has a stream, or goes on, or neither)
one_streams : (l : Link) (a : Attempt) → is_outstanding_on l a ≡ true → is_streaming a ≡ true
one_streams l a e = or_right (is_some a.row.stream) (is_none a.row.ended) (and_parts (is_some a.row.placed) (is_none a.row.ended) (and_parts (is_outstanding a) (holds (λ (at : Placed). at.link == l.number) a.row.placed) e).0).1

with_less : (o : Option ℕ) (d : Bool) → (if is_some o then 1 else 0) ≤ (if is_some o || d then 1 else 0)
with_less None true = omega arith
with_less None false = omega arith
with_less (Some n) d = omega arith

waiting_few : (l : Link) (attempts : List Attempt) → streamed attempts + length (filter lacks (filter (is_outstanding_on l) attempts)) ≤ length (filter is_streaming attempts)
waiting_few l [] = itself 0
waiting_few l (a ∷ attempts) = by (is_outstanding_on l a) refl (waiting_few l attempts)
  where
    some_on : (n m j k i c : ℕ) → n + m ≡ 1 → j + k ≤ i → c ≡ 1 + i → n + j + (m + k) ≤ c
    some_on n m j k i c e f g = omega (arith, e, f, g)

    none_on : (n j k i c d : ℕ) → n ≤ d → j + k ≤ i → c ≡ d + i → n + j + k ≤ c
    none_on n j k i c d e f g = omega (arith, e, f, g)

    by : (b : Bool) → is_outstanding_on l a ≡ b → streamed attempts + length (filter lacks (filter (is_outstanding_on l) attempts)) ≤ length (filter is_streaming attempts)
        → one_with a + streamed attempts + length (filter lacks (cond b (a ∷ filter (is_outstanding_on l) attempts) (filter (is_outstanding_on l) attempts)))
        ≤ length (cond (is_streaming a) (a ∷ filter is_streaming attempts) (filter is_streaming attempts))
    by true is less =
        subst (λ (n : ℕ). one_with a + streamed attempts + n ≤ length (cond (is_streaming a) (a ∷ filter is_streaming attempts) (filter is_streaming attempts)))
        (sym (long_if (lacks a) a (filter lacks (filter (is_outstanding_on l) attempts))))
        (some_on (one_with a) (if lacks a then 1 else 0) (streamed attempts) (length (filter lacks (filter (is_outstanding_on l) attempts))) (length (filter is_streaming attempts))
        (length (cond (is_streaming a) (a ∷ filter is_streaming attempts) (filter is_streaming attempts))) (sum_one a.row.stream) less
        (streaming_if true a (filter is_streaming attempts) (one_streams l a is)))
    by false is less =
        none_on (one_with a) (streamed attempts) (length (filter lacks (filter (is_outstanding_on l) attempts))) (length (filter is_streaming attempts))
        (length (cond (is_streaming a) (a ∷ filter is_streaming attempts) (filter is_streaming attempts))) (if is_streaming a then 1 else 0) (with_less a.row.stream (is_none a.row.ended)) less
        (streaming_if (is_streaming a) a (filter is_streaming attempts) refl)

pub streams_are_of_attempts : StreamsAreOfAttempts
streams_are_of_attempts setup actions s does link l there =
    let k : AreOpened s = opened_along actions (new_session setup) s (kept_begins setup) (prefaced_begins setup) refl does in
    let few : length (opened_streams l) ≤ streamed s.attempts = leb-true (length (opened_streams l)) (streamed s.attempts) (all_at (is_open (streamed s.attempts)) s.links link l k there) in
    all_on (length (opened_streams l)) (streamed s.attempts) (length (waiting_on l s)) (length (filter is_streaming s.attempts)) (count_by is_streaming s.attempts) few
    (waiting_few l s.attempts) (length-filter is_streaming s.attempts)
  where
    all_on : (a b c d e : ℕ) → a ≤ b → b + c ≤ d → d ≡ e → a + c ≤ e
    all_on a b c d e f g h = omega (arith, f, g, h)
