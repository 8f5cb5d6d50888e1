-- A frame of which nothing is reported leaves link and session in agreement, and all responses without anything new.
use Rattle.std.proofs.Common.{◌≡◌, ◌+◌, ◌++◌, ◌&&◌, ◌||◌, ◌==◌, ◌∷◌, ap, arith, refl, subst, sym, ◌∙◌, Bool, true, false, List, [], Option, None, Some, ℕ, suc, drop, if◌then◌else◌, is_none, is_some, length, map, nat_lt, not, slice_get}
use Rattle.std.proofs.lemmas.Bool.Decides.{nat_tests}
use Rattle.std.proofs.lemmas.Bool.{eqb-true}
use Rattle.std.proofs.lemmas.List.{append-nil}
use Rattle.std.specs.List.{AllByRecursion, list_all, list_any}
use Rattle.std.specs.Option.{option_map}
use Rattle.attempt_ledger.specs.declared.news.News.{News}
use Rattle.attempt_ledger.specs.declared.news.News.TheVariants as news
use Rattle.call_cases.proofs.LinkEnds.Cutting.{filter_all}
use Rattle.channel_actions.proofs.Lines.{all_sorted}
use Rattle.frame_cases.specs.QuietFrames.Laws.{HasNothingNew, IsReadQuietly, IsReadStill, QuietFramesLeaveResponses}
use Rattle.grpc_base.specs.declared.fields.Field.{Field}
use Rattle.grpc_frame.specs.Messages.{messages_of}
use Rattle.grpc_frame.specs.declared.next.MessageFault.{MessageFault}
use Rattle.grpc_frame.specs.declared.next.MessageFault.TheVariants as messagefault
use Rattle.grpc_meta.specs.ResponseFields.{shown_of}
use Rattle.grpc_link.specs.Links.{Report as Reported}
use Rattle.grpc_link.specs.Response.{end_gained, head_gained, message_news}
use Rattle.grpc_link.specs.declared.readers.TagReader.{TagReader}
use Rattle.h2_frame.specs.Frames.{FrameSeen, has_flag, is_allowed, is_of_connection, is_overpadded, is_zero_update, keeps_protocol, keeps_sizes, kind_allows_stream}
use Rattle.h2_frame.specs.Numbers.{continuation_type, data_type, end_stream_flag, goaway_type, headers_type, ping_type, rst_stream_type, settings_type, window_update_type}
use Rattle.h2_frame.specs.Payloads.{content_of, increment, last_stream, reset_code}
use Rattle.h2_link.specs.Feeds.{Line}
use Rattle.h2_link.specs.Steps.{reported}
use Rattle.h2_link.specs.Wire.{Wire}
use Rattle.h2_link.specs.declared.live.LiveStream.{LiveStream}
use Rattle.link_actions.proofs.Receiving.{of_settings}
use Rattle.link_actions.proofs.History.{retiring_more, settings_more}
use Rattle.link_actions.proofs.Lists.{if_true, on_if}
use Rattle.link_actions.proofs.LossActions.Over.{all_go}
use Rattle.link_actions.proofs.ResponseActions.Blocks.{blocks_are_reported}
use Rattle.link_actions.proofs.ResponseActions.Kept.{never_there, only_one}
use Rattle.link_actions.proofs.ResponseActions.OwnFrames.{data_is_reported, others_are_reported, parts_are_reported, resets_are_reported}
use Rattle.link_actions.proofs.ResponseActions.Quiet.{quiet_is_reported}
use Rattle.link_actions.proofs.ResponseActions.Updates.{updates_are_reported}
use Rattle.link_actions.proofs.StreamActions.QuietStreams.{quiet_frames_keep_streams}
use Rattle.link_actions.proofs.StreamActions.Responses.{goes_on, response_read}
use Rattle.link_actions.proofs.StreamActions.StreamRead.{read_is}
use Rattle.link_actions.proofs.StreamActions.StreamGoes.{Stands, stands}
use Rattle.link_actions.specs.LossActions.Sees.{IsGoing, end_news}
use Rattle.link_actions.specs.ResponseActions.Gained.{gained, is_done, is_listed_fairly, large_gained}
use Rattle.link_actions.specs.ResponseActions.Laws.{IsFrameReported, frame_reported, seen_at}
use Rattle.link_actions.specs.ResponseActions.Laws as laws
use Rattle.link_actions.specs.ResponseActions.Readers.{SeesReaders}
use Rattle.link_actions.specs.Sees.{AttemptsStandInPlace, StreamsAreLive, IsLive, by_stream}
use Rattle.link_actions.specs.StreamActions.Laws.{Comes, IsOn, read_link}
use Rattle.link_actions.specs.StreamActions.Sees.{SeesStreams, response_of}
use Rattle.session_actions.specs.Links.{has_settings, is_retiring, is_settings}
use Rattle.session_actions.specs.Reading.{largest_window, is_of_block, is_outstanding_on, outstanding_on}
use Rattle.session_actions.specs.Responses.{ended, ended_by_block, http_status, initial_after, is_head, is_interim, limit_of_attempt, response_in, with_block, with_data, with_fault, with_head, with_messages, with_own_frame, with_read, with_reset, with_stream_frame, with_trailers, with_update}
use Rattle.session_actions.specs.Words.{numbered}
use Rattle.session_actions.specs.Writing.{frame_read, owed_for, streaming_on}
use Rattle.session_actions.specs.declared.attempt.Attempt.{Attempt}
use Rattle.session_actions.specs.declared.link.Block.{Block}
use Rattle.session_actions.specs.declared.link.Link.{Link}
use Rattle.session_actions.specs.declared.link.ReadFrame.{ReadFrame}
use Rattle.session_actions.specs.declared.link.Traffic.TheVariants as traffic
use Rattle.session_actions.specs.declared.response.Outcome.{Outcome}
use Rattle.session_actions.specs.declared.response.Response.{Response}
use Rattle.session_actions.specs.declared.seen.Seen.{Seen}

-- a response only grows: its messages stay, and so does its head; and there are messages only after a head
pub record HasGrown (p q : Response) : Type 0 where
  pub more : List (List ℕ)
  pub messages : q.messages ≡ p.messages ++ more
  pub head : is_some p.head ≡ true → q.head ≡ p.head
  pub awaiting_config : is_none p.head ≡ true → more ≡ []

same_grown : (p q : Response) → q.messages ≡ p.messages → q.head ≡ p.head → HasGrown p q
same_grown p q messages head = record { more = []; messages = messages ∙ sym (append-nil p.messages); head = λ e. head; awaiting_config = λ e. refl }

fault_grown : (p q : Response) (o : Option MessageFault) → HasGrown p q → HasGrown p (with_fault o q)
fault_grown p q None is =
    on_if (HasGrown p) q.closes (ended _ q) q (λ e. record { more = is.more; messages = is.messages; head = is.head; awaiting_config = is.awaiting_config }) (λ e. is)
fault_grown p q (Some messagefault.BadFlag) is = record { more = is.more; messages = is.messages; head = is.head; awaiting_config = is.awaiting_config }
fault_grown p q (Some (messagefault.TooLarge len)) is = record { more = is.more; messages = is.messages; head = is.head; awaiting_config = is.awaiting_config }

data_grown : (limit : ℕ) (p : Response) (f : FrameSeen) → HasGrown p (with_data limit p f)
data_grown limit p f =
    on_if (HasGrown p) (is_none p.head) (ended _ p) _ (λ e. same_grown p (ended _ p) refl refl)
    (λ e.
    let m = messages_of limit (p.rest ++ content_of f) in
    fault_grown p (with_messages p m (has_flag f.flags end_stream_flag)) m.fault
    (record { more = m.whole; messages = refl; head = λ h. refl; awaiting_config = λ h. absurd (let bad : true ≡ false = sym h ∙ e in let no : ⊥ = (cc) in no) }))

update_grown : (p : Response) (by : ℕ) → HasGrown p (with_update p by)
update_grown p by =
    on_if (HasGrown p) (by == 0) _ _ (λ e. same_grown p _ refl refl)
    (λ e. on_if (HasGrown p) (nat_lt (largest_window + p.used) (p.initial + p.raised + by)) _ _ (λ h. same_grown p _ refl refl) (λ h. same_grown p _ refl refl))

own_grown : (limit : ℕ) (p : Response) (f : FrameSeen) → HasGrown p (with_own_frame limit p f)
own_grown limit p f =
    on_if (HasGrown p) (f.kind == data_type) (with_data limit p f) _ (λ e. data_grown limit p f)
    (λ e.
    on_if (HasGrown p) (f.kind == rst_stream_type) (with_reset p (reset_code f.payload)) _ (λ h. same_grown p _ refl refl)
    (λ h.
    on_if (HasGrown p) (f.kind == window_update_type) (with_update p (increment f.payload)) p (λ i. update_grown p (increment f.payload)) (λ i. same_grown p p refl refl)))

never_some : {X : Type 0} (o : Option X) (Y : Type 0) → is_some o ≡ false → is_some o ≡ true → Y
never_some o Y e h = absurd (let bad : true ≡ false = sym h ∙ e in let no : ⊥ = (cc) in no)

or_first : (a b : Bool) → (a || b) ≡ false → a ≡ false
or_first true b e = absurd (cc)
or_first false b e = refl

block_grown : (p : Response) (b : Block) → HasGrown p (with_block p b)
block_grown p b =
    on_if (HasGrown p) (is_none p.head && is_interim (http_status b.fields)) _ _
    (λ e. on_if (HasGrown p) b.ends (ended_by_block b p) p (λ h. same_grown p _ refl refl) (λ h. same_grown p p refl refl))
    (λ e.
    on_if (HasGrown p) b.ends (with_trailers p b) _ (λ h. same_grown p _ refl refl)
    (λ h.
    on_if (HasGrown p) (is_some p.head || is_none (http_status b.fields)) (ended_by_block b p) (with_head p b) (λ i. same_grown p _ refl refl)
    (λ i.
    let none : is_some p.head ≡ false = or_first (is_some p.head) (is_none (http_status b.fields)) i in
    on_if (HasGrown p) (is_head b.fields) (record p { head = Some (shown_of b.fields) }) _
    (λ j. record { more = []; messages = sym (append-nil p.messages); head = λ k. never_some p.head _ none k; awaiting_config = λ k. refl })
    (λ j. same_grown p _ refl refl))))

frame_grown : (limit : ℕ) (p : Response) (f : FrameSeen) (o : Option Block) → HasGrown p (with_stream_frame limit p f o)
frame_grown limit p f (Some b) = block_grown p b
frame_grown limit p f None = own_grown limit p f

read_grown : (limit k : ℕ) (p : Response) (r : ReadFrame) → HasGrown p (with_read limit k p r)
read_grown limit k p r =
    on_if (HasGrown p) (is_settings r.frame) (record p { initial = initial_after p.initial r.frame }) _ (λ e. same_grown p _ refl refl)
    (λ e.
    on_if (HasGrown p) ((r.frame.kind == goaway_type) && nat_lt (last_stream r.frame.payload) k) _ _ (λ h. same_grown p _ refl refl)
    (λ h. on_if (HasGrown p) (r.frame.stream == k) (with_stream_frame limit p r.frame r.block) p (λ i. frame_grown limit p r.frame r.block) (λ i. same_grown p p refl refl)))

-- where nothing is reported of it, it gained nothing
four_none : (a b c d : List News) → a ++ b ++ c ++ d ≡ [] → (a ≡ []) × (b ≡ []) × (c ≡ []) × (d ≡ [])
four_none [] [] [] [] e = (refl, refl, refl, refl)
four_none [] [] [] (x ∷ d) e = absurd (cc)
four_none [] [] (x ∷ c) d e = absurd (cc)
four_none [] (x ∷ b) c d e = absurd (cc)
four_none (x ∷ a) b c d e = absurd (cc)

none_mapped : (tag seen : ℕ) (xs : List (List ℕ)) → map (message_news tag seen) xs ≡ [] → xs ≡ []
none_mapped tag seen [] e = refl
none_mapped tag seen (x ∷ xs) e = absurd (let no : ⊥ = (cc) in no)

no_large : (tag seen : ℕ) (b : Bool) → large_gained tag seen b ≡ [] → b ≡ false
no_large tag seen true e = absurd (let no : ⊥ = (cc) in no)
no_large tag seen false e = refl

no_end : (tag seen : ℕ) (o : Option Outcome) → end_gained tag (option_map (λ (x : Outcome). end_news x seen) o) ≡ [] → o ≡ None
no_end tag seen None e = refl
no_end tag seen (Some x) e = absurd (let no : ⊥ = (cc) in no)

pub head_still : (tag seen : ℕ) (before after : Option (List Field)) → head_gained tag seen before after ≡ [] → (is_some before ≡ true → after ≡ before) → after ≡ before
head_still tag seen (Some x) after e still = still refl
head_still tag seen None None e still = refl
head_still tag seen None (Some y) e still = absurd (let no : ⊥ = (cc) in no)

pub dropped_prefix : {X : Type 0} (xs ys : List X) → drop (length xs) (xs ++ ys) ≡ ys
dropped_prefix [] ys = refl
dropped_prefix (x ∷ xs) ys = dropped_prefix xs ys

nothing_new : (tag seen : ℕ) (p q : Response) → p.end ≡ None → p.large ≡ false → HasGrown p q → gained tag seen p q ≡ [] → HasNothingNew p q
nothing_new tag seen p q goes small grown none =
    let parts = four_none (head_gained tag seen p.head q.head) (map (message_news tag seen) (drop (length p.messages) q.messages)) (large_gained tag seen q.large)
    (end_gained tag (option_map (λ (o : Outcome). end_news o seen) q.end)) none in
    let left : drop (length p.messages) q.messages ≡ [] = none_mapped tag seen (drop (length p.messages) q.messages) parts.1 in
    let more : grown.more ≡ [] = sym (dropped_prefix p.messages grown.more) ∙ ap (drop (length p.messages)) (sym grown.messages) ∙ left in
    record {
      head = head_still tag seen p.head q.head parts.0 grown.head;
      messages = grown.messages ∙ ap (λ (ms : List (List ℕ)). p.messages ++ ms) more ∙ append-nil p.messages;
      large = no_large tag seen q.large parts.2 ∙ sym small;
      end = no_end tag seen q.end parts.3 ∙ sym goes;
    }

done_none : (tag seen : ℕ) (p q : Response) → gained tag seen p q ≡ [] → is_done q ≡ false
done_none tag seen p q none =
    let parts = four_none (head_gained tag seen p.head q.head) (map (message_news tag seen) (drop (length p.messages) q.messages)) (large_gained tag seen q.large)
    (end_gained tag (option_map (λ (o : Outcome). end_news o seen) q.end)) none in
    ap (λ (o : Option Outcome). is_some o || q.large) (no_end tag seen q.end parts.3) ∙ no_large tag seen q.large parts.2

-- a frame of another stream
other_new : (limit k : ℕ) (p : Response) (r : ReadFrame) → (r.frame.kind == goaway_type) ≡ false → (r.frame.stream == k) ≡ false → HasNothingNew p (with_read limit k p r)
other_new limit k p r no_goaway other =
    let f : FrameSeen = r.frame in
    on_if (HasNothingNew p) (is_settings f) (record p { initial = initial_after p.initial f }) _ (λ e. record { head = refl; messages = refl; large = refl; end = refl })
    (λ e.
    on_if (HasNothingNew p) ((f.kind == goaway_type) && nat_lt (last_stream f.payload) k) _ _
    (λ h. absurd (let bad : true ≡ false = sym h ∙ ap (λ (b : Bool). b && nat_lt (last_stream f.payload) k) no_goaway in let no : ⊥ = (cc) in no))
    (λ h.
    on_if (HasNothingNew p) (f.stream == k) (with_stream_frame limit p f r.block) p
    (λ i. absurd (let bad : true ≡ false = sym i ∙ other in let no : ⊥ = (cc) in no)) (λ i. record { head = refl; messages = refl; large = refl; end = refl })))

-- the attempt of a stream
pub record HasAttempt (l : Link) (s : Seen) (n : ℕ) : Type 0 where
  pub attempt : Attempt
  pub on : IsOn l s n attempt
  pub some : (n == 0) ≡ false

abbrev IsHere : Link → Seen → Attempt → Type 0
IsHere l s a = (numbered s.attempts a.place ≡ Some a) × (is_outstanding_on l a ≡ true)

attempt_by : (l : Link) (s : Seen) (n : ℕ) (x : LiveStream) (a : Attempt) (b : Bool) (more : Bool) → (x.number == n) ≡ b → (b || more) ≡ true → IsLive l x a → IsHere l s a
    → (more ≡ true → HasAttempt l s n) → HasAttempt l s n
attempt_by l s n x a true more e is live here rest =
    let same : x.number ≡ n = eqb-true x.number n e in
    record {
      attempt = a;
      on = record { there = here.0; out = here.1; stream = live.stream ∙ ap (λ (k : ℕ). Some k) same };
      some = ap (λ (k : ℕ). k == 0) (sym same) ∙ live.some;
    }
attempt_by l s n x a false more e is live here rest = rest is

attempt_in : (l : Link) (s : Seen) (n : ℕ) (xs : List LiveStream) (as_ : List Attempt) → StreamsAreLive l xs as_ → AllByRecursion (IsHere l s) as_
    → list_any (λ (x : LiveStream). x.number == n) xs ≡ true → HasAttempt l s n
attempt_in l s n [] [] live here is = absurd (let no : ⊥ = (cc) in no)
attempt_in l s n (x ∷ xs) (a ∷ as_) live here is =
    attempt_by l s n x a (x.number == n) (list_any (λ (y : LiveStream). y.number == n) xs) refl is live.0 here.0 (λ more. attempt_in l s n xs as_ live.1 here.1 more)
attempt_in l s n [] (a ∷ as_) live here is = absurd live
attempt_in l s n (x ∷ xs) [] live here is = absurd live

abbrev AtPlace : Seen → Attempt → Type 0
AtPlace s a = numbered s.attempts a.place ≡ Some a

all_here : (l : Link) (s : Seen) → AllByRecursion (AtPlace s) s.attempts → AllByRecursion (IsHere l s) (by_stream (streaming_on l s))
all_here l s places =
    all_sorted (IsHere l s) (streaming_on l s)
    (filter_all (IsHere l s) (IsHere l s) (λ (a : Attempt). is_some a.row.stream) (λ a h e. h) (outstanding_on l s)
    (filter_all (AtPlace s) (IsHere l s) (is_outstanding_on l) (λ a h e. (h, e)) s.attempts places))

connection_first : (a b : Bool) → (a && b) ≡ true → a ≡ true
connection_first true b e = refl
connection_first false b e = absurd (cc)

of_stream_zero : (f : FrameSeen) → is_allowed f ≡ true → is_of_connection f.kind ≡ true → (f.stream == 0) ≡ true
of_stream_zero f allowed connection =
    let keeps : keeps_protocol f ≡ true = connection_first (keeps_protocol f) (keeps_sizes f) allowed in
    let streams : kind_allows_stream f.kind f.stream ≡ true = connection_first (kind_allows_stream f.kind f.stream) (not (is_overpadded f.kind f.flags (length f.payload) f.payload))
    (connection_first (kind_allows_stream f.kind f.stream && not (is_overpadded f.kind f.flags (length f.payload) f.payload)) (not (is_zero_update f.kind f.stream f.payload)) keeps) in
    sym (if_true (is_of_connection f.kind) (f.stream == 0) _ connection) ∙ streams

or_none_of : (a b c : Bool) → ((a || b || c) ≡ true → ⊥) → (a ≡ false) × (b ≡ false) × (c ≡ false)
or_none_of false false false e = (refl, refl, refl)
or_none_of true b c e = absurd (e refl)
or_none_of false true c e = absurd (e refl)
or_none_of false false true e = absurd (e refl)

passed_by : (a b c d e f g h : Bool) → a ≡ false → b ≡ false → c ≡ false → d ≡ false → e ≡ false → f ≡ false → g ≡ false → h ≡ false
    → not (a || b || c || d || e || f || g || h) ≡ true
passed_by false false false false false false false false p q r s t u v w = refl
passed_by true b c d e f g h p q r s t u v w = absurd (cc)
passed_by false true c d e f g h p q r s t u v w = absurd (cc)
passed_by false false true d e f g h p q r s t u v w = absurd (cc)
passed_by false false false true e f g h p q r s t u v w = absurd (cc)
passed_by false false false false true f g h p q r s t u v w = absurd (cc)
passed_by false false false false false true g h p q r s t u v w = absurd (cc)
passed_by false false false false false false true h p q r s t u v w = absurd (cc)
passed_by false false false false false false false true p q r s t u v w = absurd (cc)

ready_none : (a b : Bool) → (if a && not b then news.Ready ∷ [] else []) ≡ [] → (b || a) ≡ b
ready_none true true e = refl
ready_none true false e = absurd (let no : ⊥ = (cc) in no)
ready_none false true e = refl
ready_none false false e = refl

pub or_false : (a b : Bool) → b ≡ false → (a || b) ≡ a
or_false true b e = refl
or_false false b e = e

-- attempts that are counted stand at their places
place_all : (all : List Attempt) (n : ℕ) (xs : List Attempt) → ((i : ℕ) → slice_get xs i ≡ slice_get all (n + i)) → AttemptsStandInPlace (n + 1) xs
    → AllByRecursion (λ (a : Attempt). numbered all a.place ≡ Some a) xs
place_all all n [] same placed = tt
place_all all n (a ∷ xs) same placed =
    let next : n + 1 ≡ suc n = omega arith in
    let none : n ≡ n + 0 = omega arith in
    let more : (n + 1) + 1 ≡ suc n + 1 = omega arith in (
      ap (numbered all) (placed.0 ∙ next) ∙ ap (slice_get all) none ∙ sym (same 0),
      place_all all (suc n) xs (λ i. same (suc i) ∙ ap (slice_get all) (let moved : n + suc i ≡ suc n + i = omega arith in moved)) (subst (λ (k : ℕ). AttemptsStandInPlace k xs) more placed.1),
    )

pub all_at_place : (s : Seen) → AttemptsStandInPlace 1 s.attempts → AllByRecursion (AtPlace s) s.attempts
all_at_place s placed = place_all s.attempts 0 s.attempts (λ i. ap (slice_get s.attempts) (let none : i ≡ 0 + i = omega arith in none)) placed

or_two : (a b : Bool) → (a || b) ≡ false → (a ≡ false) × (b ≡ false)
or_two true b e = absurd (cc)
or_two false true e = absurd (cc)
or_two false false e = (refl, refl)

turned : (m n : ℕ) → (m == n) ≡ false → (n == m) ≡ false
turned m n e = grind (arith, nat_tests, e)

-- the law
module _ (l : Link) (s : Seen) (w : Wire) (g : ℕ → Line) (readers : List TagReader) (r : ReadFrame) (is : SeesStreams l s w g) (reads : SeesReaders l s readers) (comes : Comes l w r)
    (unbroken : l.over ≡ None) (fairly : list_all is_listed_fairly l.traffic ≡ true) (no_goaway : (r.frame.kind == goaway_type) ≡ false) where
  abbrev f : FrameSeen
  f = r.frame

  abbrev m : Link
  m = read_link r l s

  abbrev u : Seen
  u = frame_read l.number r s

  abbrev out : Reported
  out = frame_reported w readers f

  abbrev Quiet : Type 0
  Quiet = IsReadQuietly l m s u out.link.link.wire g out.link.readers

  limit_same : (a : Attempt) → limit_of_attempt a u ≡ limit_of_attempt a s
  limit_same a = ap (limit_of_attempt a) (read_is l s r is.sees.at)

  -- the response of an attempt after the frame
  pub read_on : (n : ℕ) (a : Attempt) → IsOn l s n a → response_of m u n a ≡ with_read (limit_of_attempt a s) n (response_of l s n a) r
  read_on n a on =
      let going : IsGoing (response_of l s n a) = all_go l s w g n a is on in
      ap (λ (k : ℕ). response_in k n m.traffic) (limit_same a) ∙ response_read (limit_of_attempt a s) n l r (owed_for f l s)
      ∙ goes_on (limit_of_attempt a s) n (response_of l s n a) (traffic.Read r) going.goes going.small

  pub other_response : (n : ℕ) (a : Attempt) → IsOn l s n a → (f.stream == n) ≡ false → HasNothingNew (response_of l s n a) (response_of m u n a)
  other_response n a on other =
      subst (HasNothingNew (response_of l s n a)) (sym (read_on n a on)) (other_new (limit_of_attempt a s) n (response_of l s n a) r no_goaway other)

  pub retiring_same : is_retiring m ≡ is_retiring l
  retiring_same = retiring_more l r (owed_for f l s) ∙ or_false (is_retiring l) (f.kind == goaway_type) no_goaway

  -- it is of no attempt's stream
  pub apart_still : list_any (λ (x : LiveStream). x.number == f.stream) w.live ≡ false → IsReadStill l m s u out.link.link.wire g out.link.readers
  apart_still off =
      let quiet : laws.IsQuiet l s m u w (reported w f).wire out readers f = quiet_is_reported l s w g readers r is reads comes (no_goaway, off) in
      record {
        streams = subst (λ (v : Wire). SeesStreams m u v g) (sym quiet.wire) (quiet_frames_keep_streams l s w g r is comes (no_goaway, off));
        reads = subst (SeesReaders m u) (sym quiet.same) quiet.sees;
        retiring = retiring_same;
        responses = λ n a on.
            let st : Stands l s w n a = stands l s w g n a is on in
            let no : (st.stream.number == f.stream) ≡ false = never_there (λ (x : LiveStream). x.number == f.stream) st.index w.live st.stream off st.there in
            other_response n a on (turned n f.stream (ap (λ (k : ℕ). k == f.stream) (sym st.number) ∙ no));
      }

  -- it is of the stream of an attempt
  module _ (own : HasAttempt l s f.stream) where
    abbrev a : Attempt
    a = own.attempt

    no_connection : is_of_connection f.kind ≡ true → ⊥
    no_connection is_one =
        let zero_ : (f.stream == 0) ≡ true = of_stream_zero f comes.allowed is_one in
        let bad : true ≡ false = sym zero_ ∙ own.some in
        (cc)

    kinds : ((f.kind == settings_type) ≡ false) × ((f.kind == ping_type) ≡ false) × ((f.kind == goaway_type) ≡ false)
    kinds = or_none_of (f.kind == settings_type) (f.kind == ping_type) (f.kind == goaway_type) no_connection

    pub no_settings : is_settings f ≡ false
    no_settings = of_settings f.kind f.flags kinds.0

    abbrev Own : Type 0
    Own = IsFrameReported l s m u out g f.stream (seen_at r) a

    by_block : (o : Option Block) → r.block ≡ o → is_of_block f ≡ true → Own
    by_block None e block = parts_are_reported l s w g readers r a is reads comes own.on unbroken (block, e)
    by_block (Some b) e block = blocks_are_reported b l s w g readers r a is reads comes own.on unbroken e

    by_update : (c : Bool) → (f.kind == window_update_type) ≡ c → (f.kind == data_type) ≡ false → (f.kind == rst_stream_type) ≡ false → is_of_block f ≡ false → Own
    by_update true e no_data no_reset no_block = updates_are_reported l s w g readers r a is reads comes own.on unbroken (e, fairly)
    by_update false e no_data no_reset no_block =
        let parts = or_two (f.kind == headers_type) (f.kind == continuation_type) no_block in
        others_are_reported l s w g readers r a is reads comes own.on unbroken
        (passed_by (f.kind == data_type) (f.kind == headers_type) (f.kind == rst_stream_type) (f.kind == settings_type) (f.kind == ping_type) (f.kind == goaway_type)
        (f.kind == window_update_type) (f.kind == continuation_type) no_data parts.0 no_reset kinds.0 kinds.1 kinds.2 e parts.1)

    by_reset : (c : Bool) → (f.kind == rst_stream_type) ≡ c → (f.kind == data_type) ≡ false → is_of_block f ≡ false → Own
    by_reset true e no_data no_block = resets_are_reported l s w g readers r a is reads comes own.on unbroken e
    by_reset false e no_data no_block = by_update (f.kind == window_update_type) refl no_data e no_block

    by_data : (c : Bool) → (f.kind == data_type) ≡ c → is_of_block f ≡ false → Own
    by_data true e no_block = data_is_reported l s w g readers r a is reads comes own.on unbroken e
    by_data false e no_block = by_reset (f.kind == rst_stream_type) refl e no_block

    by_kind : (c : Bool) → is_of_block f ≡ c → Own
    by_kind true e = by_block r.block refl e
    by_kind false e = by_data (f.kind == data_type) refl e

    pub own_reported : Own
    own_reported = by_kind (is_of_block f) refl

    pub its_growth : HasGrown (response_of l s f.stream a) (response_of m u f.stream a)
    its_growth =
        subst (HasGrown (response_of l s f.stream a)) (sym (read_on f.stream a own.on)) (read_grown (limit_of_attempt a s) f.stream (response_of l s f.stream a) r)

    pub others_still : HasNothingNew (response_of l s f.stream a) (response_of m u f.stream a) → (n : ℕ) (b : Attempt) → IsOn l s n b → (c : Bool) → (f.stream == n) ≡ c
        → HasNothingNew (response_of l s n b) (response_of m u n b)
    others_still own_new n b on true e =
        let same : f.stream ≡ n = eqb-true f.stream n e in
        let here : IsOn l s f.stream b = subst (λ (k : ℕ). IsOn l s k b) (sym same) on in
        let one : a ≡ b = only_one l s w g f.stream a b is own.on here in
        subst (λ (k : ℕ). HasNothingNew (response_of l s k b) (response_of m u k b)) same
        (subst (λ (z : Attempt). HasNothingNew (response_of l s f.stream z) (response_of m u f.stream z)) one own_new)
    others_still own_new n b on false e = other_response n b on e

    own_quiet : out.news ≡ [] → Quiet
    own_quiet none =
        let p : Response = response_of l s f.stream a in
        let q : Response = response_of m u f.stream a in
        let gained_none : gained a.place (seen_at r) p q ≡ [] = sym own_reported.news ∙ none in
        let both = own_reported.goes (done_none a.place (seen_at r) p q gained_none) in
        let going : IsGoing p = all_go l s w g f.stream a is own.on in
        let own_new : HasNothingNew p q = nothing_new a.place (seen_at r) p q going.goes going.small its_growth gained_none in
        record {
          still = record { streams = both.0; reads = both.1; retiring = retiring_same; responses = λ n b on. others_still own_new n b on (f.stream == n) refl };
          settings = settings_more l r (owed_for f l s) ∙ or_false (has_settings l) (is_settings f) no_settings;
        }

  -- so it is either of these
  pub its_attempt : list_any (λ (x : LiveStream). x.number == f.stream) w.live ≡ true → HasAttempt l s f.stream
  its_attempt e = attempt_in l s f.stream w.live (by_stream (streaming_on l s)) is.sees.sees.live (all_here l s (all_at_place s is.sees.places)) e

  pub apart_news : list_any (λ (x : LiveStream). x.number == f.stream) w.live ≡ false → out.news ≡ (if is_settings f && not (has_settings l) then news.Ready ∷ [] else [])
  apart_news e = (quiet_is_reported l s w g readers r is reads comes (no_goaway, e)).news

  by_stream_ : out.news ≡ [] → (c : Bool) → list_any (λ (x : LiveStream). x.number == f.stream) w.live ≡ c → Quiet
  by_stream_ none false e =
      record { still = apart_still e; settings = settings_more l r (owed_for f l s) ∙ ready_none (is_settings f) (has_settings l) (sym (apart_news e) ∙ none) }
  by_stream_ none true e = own_quiet (its_attempt e) none

pub quiet_frames_leave_responses : QuietFramesLeaveResponses
quiet_frames_leave_responses l s w g readers r is reads comes unbroken fairly no_goaway none =
    by_stream_ l s w g readers r is reads comes unbroken fairly no_goaway none (list_any (λ (x : LiveStream). x.number == r.frame.stream) w.live) refl
