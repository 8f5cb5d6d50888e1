-- The readers of other attempts stay, and so do the responses that they read.
use Rattle.std.proofs.Common.{◌≡◌, ◌∷◌, ◌&&◌, ◌==◌, ap, arith, refl, subst, sym, ◌∙◌, Bool, true, false, List, [], Option, None, Some, ℕ, zero, suc, if◌then◌else◌, is_some, nat_lt, option_and_then, slice_get}
use Rattle.std.specs.List.{list_any}
use Rattle.std.proofs.lemmas.Bool.{eqb-true}
use Rattle.std.proofs.lemmas.Bool.Decides.{nat_tests}
use Rattle.grpc_link.specs.Links.{reader_in}
use Rattle.grpc_link.specs.Readers.{ReaderSeen}
use Rattle.grpc_link.specs.declared.readers.TagReader.{TagReader}
use Rattle.h2_frame.specs.Frames.{FrameSeen}
use Rattle.h2_frame.specs.Numbers.{goaway_type}
use Rattle.h2_frame.specs.Payloads.{last_stream}
use Rattle.h2_link.specs.Feeds.{Line}
use Rattle.h2_link.specs.Wire.{Wire}
use Rattle.h2_link.specs.declared.live.LiveStream.{LiveStream}
use Rattle.link_actions.proofs.Lists.{none_of, on_if}
use Rattle.link_actions.proofs.Without.{place_is}
use Rattle.link_actions.proofs.Written.{changed_here}
use Rattle.link_actions.specs.Sees.{by_stream}
use Rattle.link_actions.proofs.LossActions.Over.{all_go}
use Rattle.link_actions.specs.LossActions.Sees.{IsGoing}
use Rattle.link_actions.specs.ResponseActions.Readers.{IsReader, IsReaderOf, SeesReaders, attempt_on}
use Rattle.session_actions.specs.Links.{is_settings}
use Rattle.session_actions.specs.Reading.{is_outstanding_on}
use Rattle.session_actions.specs.Responses.{initial_after, limit_of_attempt, response, response_by, response_in, with_read, with_stream_frame}
use Rattle.session_actions.specs.Words.{numbered}
use Rattle.session_actions.specs.Writing.{frame_read_on, owed_for, streaming_on, with_frame_read}
use Rattle.session_actions.specs.declared.attempt.Attempt.{Attempt}
use Rattle.session_actions.specs.declared.link.Link.{Link}
use Rattle.session_actions.specs.declared.link.ReadFrame.{ReadFrame}
use Rattle.session_actions.specs.declared.link.Traffic.TheVariants as traffic
use Rattle.session_actions.specs.declared.response.Response.{Response}
use Rattle.session_actions.specs.declared.seen.Seen.{Seen}
use Rattle.link_actions.proofs.StreamActions.Going.{response_is}
use Rattle.link_actions.proofs.StreamActions.Responses.{IsLike, goes_on, like_other, response_read}
use Rattle.link_actions.proofs.StreamActions.StreamGoes.{Stands, stands}
use Rattle.link_actions.specs.StreamActions.Laws.{IsOn, read_link}
use Rattle.link_actions.specs.StreamActions.Sees.{SeesStreams, response_of}

-- the attempt of a row
on_by : (l : Link) (a b : Attempt) (c : Bool) → is_outstanding_on l a ≡ c → (if c then Some a else None) ≡ Some b → (a ≡ b) × (is_outstanding_on l b ≡ true)
on_by l a b true out e =
    let same : a ≡ b = (cc) in (same, ap (is_outstanding_on l) (sym same) ∙ out)
on_by l a b false out e = absurd (let no : ⊥ = (cc) in no)

pub record IsThere (l : Link) (s : Seen) (k : ℕ) (b : Attempt) : Type 0 where
  pub there : numbered s.attempts k ≡ Some b
  pub out : is_outstanding_on l b ≡ true

there_by : (l : Link) (s : Seen) (k : ℕ) (b : Attempt) (o : Option Attempt) → numbered s.attempts k ≡ o → option_and_then (λ a. if is_outstanding_on l a then Some a else None) o ≡ Some b
    → IsThere l s k b
there_by l s k b None at e = absurd (let no : ⊥ = (cc) in no)
there_by l s k b (Some a) at e =
    let two = on_by l a b (is_outstanding_on l a) refl e in
    record { there = at ∙ ap (λ (x : Attempt). Some x) two.0; out = two.1 }

pub is_there : (l : Link) (s : Seen) (k : ℕ) (b : Attempt) → attempt_on l s k ≡ Some b → IsThere l s k b
is_there l s k b e = there_by l s k b (numbered s.attempts k) refl e

pub on_is : (l : Link) (s : Seen) (k : ℕ) (a : Attempt) → numbered s.attempts k ≡ Some a → is_outstanding_on l a ≡ true → attempt_on l s k ≡ Some a
on_is l s k a at out =
    ap (λ (o : Option Attempt). option_and_then (λ a. if is_outstanding_on l a then Some a else None) o) at ∙ ap (λ (b : Bool). if b then Some a else None) out

-- from one session to another
moved_by : (s u : Seen) (o : Option Attempt) (x : Option ReaderSeen) → ((b : Attempt) (y : ReaderSeen) → o ≡ Some b → IsReader s b y → IsReader u b y) → IsReaderOf s o x → IsReaderOf u o x
moved_by s u None None keeps is = tt
moved_by s u (Some b) (Some y) keeps is = keeps b y refl is
moved_by s u None (Some y) keeps is = absurd is
moved_by s u (Some b) None keeps is = absurd is

pub moved : (l m : Link) (s u : Seen) (k : ℕ) (x z : Option ReaderSeen) → attempt_on m u k ≡ attempt_on l s k → z ≡ x
    → ((b : Attempt) (y : ReaderSeen) → IsThere l s k b → IsReader s b y → IsReader u b y) → IsReaderOf s (attempt_on l s k) x → IsReaderOf u (attempt_on m u k) z
moved l m s u k x z same reader keeps is =
    subst (λ (o : Option Attempt). IsReaderOf u o z) (sym same)
    (subst (λ (y : Option ReaderSeen). IsReaderOf u (attempt_on l s k) y) (sym reader)
    (moved_by s u (attempt_on l s k) x (λ b y e i. keeps b y (is_there l s k b e) i) is))

-- a response that is the same
pub same_reader : (s u : Seen) (b : Attempt) (y : ReaderSeen) → is_some (response b u).head ≡ is_some (response b s).head → (response b u).rest ≡ (response b s).rest
    → limit_of_attempt b u ≡ limit_of_attempt b s → IsReader s b y → IsReader u b y
same_reader s u b y head rest limit is = record {
  opened = is.opened;
  head = head ∙ is.head;
  over = is.over;
  limit = limit ∙ is.limit;
  rest = rest ∙ is.rest;
  whole = is.whole;
}

-- a frame of another stream
both_ways : (b : Bool) → b ≡ true → b ≡ false → ⊥
both_ways true e h = (cc)
both_ways false e h = (cc)

read_rest : (limit k : ℕ) (p : Response) (r : ReadFrame) → (r.frame.kind == goaway_type) ≡ false → (r.frame.stream == k) ≡ false → (with_read limit k p r).rest ≡ p.rest
read_rest limit k p r no_goaway other =
    let f : FrameSeen = r.frame in
    let S : Response → Type 0 = λ q. q.rest ≡ p.rest in
    on_if S (is_settings f) (record p { initial = initial_after p.initial f }) _ (λ e. refl)
    (λ e.
    on_if S ((f.kind == goaway_type) && nat_lt (last_stream f.payload) k) _ _
    (λ h. absurd (both_ways ((f.kind == goaway_type) && nat_lt (last_stream f.payload) k) h (ap (λ (b : Bool). b && nat_lt (last_stream f.payload) k) no_goaway)))
    (λ h.
    on_if S (f.stream == k) (with_stream_frame limit p f r.block) p (λ i. absurd (both_ways (f.stream == k) i other)) (λ i. refl)))

rest_other : (limit k : ℕ) (l : Link) (r : ReadFrame) (frames : List FrameSeen) → (response_in limit k l.traffic).end ≡ None → (response_in limit k l.traffic).large ≡ false
    → (r.frame.kind == goaway_type) ≡ false → (r.frame.stream == k) ≡ false → (response_in limit k (with_frame_read r frames l).traffic).rest ≡ (response_in limit k l.traffic).rest
rest_other limit k l r frames goes small no_goaway other =
    let p : Response = response_in limit k l.traffic in
    ap (λ (q : Response). q.rest) (response_read limit k l r frames ∙ goes_on limit k p (traffic.Read r) goes small) ∙ read_rest limit k p r no_goaway other

pub link_here : (l : Link) (s : Seen) (r : ReadFrame) → numbered s.links l.number ≡ Some l → numbered (frame_read_on r s l).links l.number ≡ Some (read_link r l s)
link_here l s r at = changed_here (with_frame_read r (owed_for r.frame l s)) l.number s.links l at

reader_by : (l : Link) (s : Seen) (w : Wire) (g : ℕ → Line) (r : ReadFrame) (k : ℕ) (b : Attempt) (y : ReaderSeen) (o : Option ℕ) → b.row.stream ≡ o → SeesStreams l s w g
    → (r.frame.kind == goaway_type) ≡ false → IsThere l s k b → ((j : ℕ) → o ≡ Some j → (r.frame.stream == j) ≡ false) → IsReader s b y → IsReader (frame_read_on r s l) b y
reader_by l s w g r k b y None stream is no_goaway there other reads =
    let u : Seen = frame_read_on r s l in
    let same : response b u ≡ response b s = ap (response_by b u) stream ∙ sym (ap (response_by b s) stream) in
    same_reader s u b y (ap (λ (p : Response). is_some p.head) same) (ap (λ (p : Response). p.rest) same) refl reads
reader_by l s w g r k b y (Some j) stream is no_goaway there other reads =
    let u : Seen = frame_read_on r s l in
    let m : Link = read_link r l s in
    let limit : ℕ = limit_of_attempt b s in
    let place : b.place ≡ k = place_is k s.attempts b is.sees.places there.there in
    let on : IsOn l s j b = record { there = ap (numbered s.attempts) place ∙ there.there; out = there.out; stream = stream } in
    let going : IsGoing (response_of l s j b) = all_go l s w g j b is on in
    let before : response b s ≡ response_of l s j b = response_is l s j b is.sees.at there.out stream in
    let after : response b u ≡ response_of m u j b = response_is m u j b (link_here l s r is.sees.at) there.out stream in
    let apart : (r.frame.stream == j) ≡ false = other j refl in
    let like : IsLike (response_in limit j l.traffic) (response_in limit j m.traffic) = like_other limit j l r (owed_for r.frame l s) going.goes going.small no_goaway apart in
    same_reader s u b y
    (ap (λ (p : Response). is_some p.head) after ∙ ap (λ x. is_some x) like.head ∙ sym (ap (λ (p : Response). is_some p.head) before))
    (ap (λ (p : Response). p.rest) after ∙ rest_other limit j l r (owed_for r.frame l s) going.goes going.small no_goaway apart ∙ sym (ap (λ (p : Response). p.rest) before)) refl reads

pub other_reader : (l : Link) (s : Seen) (w : Wire) (g : ℕ → Line) (r : ReadFrame) (k : ℕ) (b : Attempt) (y : ReaderSeen) → SeesStreams l s w g
    → (r.frame.kind == goaway_type) ≡ false → IsThere l s k b → ((j : ℕ) → b.row.stream ≡ Some j → (r.frame.stream == j) ≡ false) → IsReader s b y → IsReader (frame_read_on r s l) b y
other_reader l s w g r k b y is no_goaway there other reads = reader_by l s w g r k b y b.row.stream refl is no_goaway there other reads

-- one attempt has a stream
abbrev place_of : Option (ℕ × LiveStream) → ℕ
place_of None = 0
place_of (Some x) = x.0

same_place : (i j : ℕ) (x y : LiveStream) → ◌≡◌ {A = Option (ℕ × LiveStream)} (Some (i, x)) (Some (j, y)) → i ≡ j
same_place i j x y e = ap place_of e

pub only_one : (l : Link) (s : Seen) (w : Wire) (g : ℕ → Line) (n : ℕ) (a b : Attempt) → SeesStreams l s w g → IsOn l s n a → IsOn l s n b → a ≡ b
only_one l s w g n a b is on other =
    let bs : List Attempt = by_stream (streaming_on l s) in
    let st : Stands l s w n a = stands l s w g n a is on in
    let tt_ : Stands l s w n b = stands l s w g n b is other in
    let same : st.index ≡ tt_.index = same_place st.index tt_.index st.stream tt_.stream (sym st.found ∙ tt_.found) in
    let here : Some a ≡ Some b = sym st.here ∙ ap (slice_get bs) same ∙ tt_.here in
    (let one : a ≡ b = (cc) in one)

apart_by : (l : Link) (s : Seen) (w : Wire) (g : ℕ → Line) (n k j : ℕ) (a b : Attempt) (c : Bool) → (n == j) ≡ c → SeesStreams l s w g → IsOn l s n a → IsThere l s k b → (k == a.place) ≡ false
    → b.row.stream ≡ Some j → c ≡ false
apart_by l s w g n k j a b true same is on there other stream =
    let e : n ≡ j = eqb-true n j same in
    let place : b.place ≡ k = place_is k s.attempts b is.sees.places there.there in
    let too : IsOn l s n b = record { there = ap (numbered s.attempts) place ∙ there.there; out = there.out; stream = stream ∙ ap (λ (i : ℕ). Some i) (sym e) } in
    let one : a ≡ b = only_one l s w g n a b is on too in
    let at : k ≡ a.place = sym place ∙ ap (λ (x : Attempt). x.place) (sym one) in
    let yes : (k == a.place) ≡ true = grind (arith, nat_tests, at) in
    absurd (both_ways (k == a.place) yes other)
apart_by l s w g n k j a b false same is on there other stream = refl

-- so after a frame of an attempt's stream all readers but its own are as they were
pub but_own : (l : Link) (s : Seen) (w : Wire) (g : ℕ → Line) (readers left : List TagReader) (r : ReadFrame) (a : Attempt) → SeesStreams l s w g → SeesReaders l s readers
    → IsOn l s r.frame.stream a → (r.frame.kind == goaway_type) ≡ false → ((k : ℕ) → (k == a.place) ≡ false → reader_in k left ≡ reader_in k readers)
    → (k : ℕ) → (k == a.place) ≡ false → IsReaderOf (frame_read_on r s l) (attempt_on (read_link r l s) (frame_read_on r s l) k) (reader_in k left)
but_own l s w g readers left r a is sees on no_goaway others k other =
    moved l (read_link r l s) s (frame_read_on r s l) k (reader_in k readers) (reader_in k left) refl (others k other)
    (λ b y there i. other_reader l s w g r k b y is no_goaway there (λ j stream. apart_by l s w g r.frame.stream k j a b (r.frame.stream == j) refl is on there other stream) i)
    (sees.each k)

-- a stream that is no attempt's
pub never_there : (p : LiveStream → Bool) (i : ℕ) (xs : List LiveStream) (y : LiveStream) → list_any p xs ≡ false → slice_get xs i ≡ Some y → p y ≡ false
never_there p i [] y none e = absurd (let no : ⊥ = (cc) in no)
never_there p zero (x ∷ xs) y none e =
    let parts = none_of (p x) (list_any p xs) none in
    let same : x ≡ y = (cc) in ap p (sym same) ∙ parts.0
never_there p (suc i) (x ∷ xs) y none e = (let parts = none_of (p x) (list_any p xs) none in never_there p i xs y parts.1 e)
