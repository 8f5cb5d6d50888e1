-- After GOAWAY, once the attempts have ended that it ends, and their streams are reset: the readers that are left have what came of their responses.
use Rattle.std.proofs.Common.{◌≡◌, ◌∷◌, ◌++◌, ◌||◌, ◌&&◌, ◌==◌, not, ap, arith, refl, subst, sym, ◌∙◌, Bool, true, false, List, [], Option, None, Some, ℕ, ◌+◌, zero, suc, filter, is_none, length, nat_lt, slice_get, unwrap_or}
use Rattle.std.specs.List.{AllByRecursion}
use Rattle.std.proofs.lemmas.Bool.{eqb-true}
use Rattle.std.proofs.lemmas.Bool.Decides.{nat_tests}
use Rattle.attempt_ledger.specs.declared.row.RowEnd.{RowEnd}
use Rattle.grpc_link.specs.Links.{reader_in}
use Rattle.grpc_link.specs.Links.{Report as Reported}
use Rattle.grpc_link.specs.Readers.{ReaderSeen}
use Rattle.grpc_link.specs.declared.readers.TagReader.{TagReader}
use Rattle.h2_frame.specs.Frames.{FrameSeen, is_allowed, is_overpadded, is_zero_update, keeps_sizes, kind_allows_stream}
use Rattle.h2_frame.specs.Numbers.{goaway_type, settings_type}
use Rattle.h2_frame.specs.Payloads.{last_stream}
use Rattle.h2_link.specs.Feeds.{Line}
use Rattle.h2_link.specs.Steps.{reported}
use Rattle.h2_link.specs.Wire.{Wire}
use Rattle.lb_policy.specs.Table.{is_one_of}
use Rattle.link_actions.proofs.Receiving.{not_kind, of_settings}
use Rattle.link_actions.proofs.Lists.{if_false, if_true, none_of, on_if}
use Rattle.link_actions.proofs.Without.{place_is}
use Rattle.link_actions.specs.Laws.{with_owed}
use Rattle.link_actions.proofs.LossActions.Over.{all_go}
use Rattle.link_actions.specs.LossActions.Sees.{IsGoing}
use Rattle.link_actions.proofs.ReaderActions.Alike.{gone_on, limit_reset, reader_alike, response_alike, still_on}
use Rattle.link_actions.proofs.ReaderActions.Ended.{AreEnded, AreReset, IsOver, IsSameRow, IsSameTraffic, all_are_ended, all_are_reset, ends_of, traffic_itself}
use Rattle.link_actions.specs.ReaderActions.Laws.{GoawaysKeepReaders, GoawaysLeaveReaders}
use Rattle.link_actions.specs.ResetActions.Laws.{AttemptsAreEndedAt, IsEndedIf}
use Rattle.link_actions.proofs.ResponseActions.Goaways.{goaways_are_reported}
use Rattle.link_actions.proofs.ResetActions.Goaways.{rows_placed}
use Rattle.link_actions.proofs.ResponseActions.Kept.{IsThere, is_there, link_here}
use Rattle.link_actions.specs.ResponseActions.Laws.{IsRetired, places_of, frame_reported, seen_at}
use Rattle.link_actions.specs.ResponseActions.Readers.{IsReaderOf, SeesReaders, attempt_on}
use Rattle.session_actions.specs.Links.{is_settings}
use Rattle.session_actions.specs.Reading.{is_outstanding_on, outstanding_on}
use Rattle.session_actions.specs.Responses.{initial_after, limit_of_attempt, response, response_in, with_read, with_stream_frame}
use Rattle.session_actions.specs.Words.{numbered}
use Rattle.session_actions.specs.Writing.{frame_read_on, owed_for, streaming_on, waiting_on}
use Rattle.session_actions.specs.declared.attempt.Attempt.{Attempt}
use Rattle.session_actions.specs.declared.link.Link.{Link}
use Rattle.session_actions.specs.declared.link.ReadFrame.{ReadFrame}
use Rattle.session_actions.specs.declared.link.Traffic.TheVariants as traffic
use Rattle.session_actions.specs.declared.response.Response.{Response}
use Rattle.session_actions.specs.declared.seen.Seen.{Seen}
use Rattle.link_actions.proofs.StreamActions.Found.{IsIn, streaming_in}
use Rattle.link_actions.proofs.StreamActions.Going.{response_is}
use Rattle.link_actions.proofs.StreamActions.Responses.{goes_on, response_read}
use Rattle.link_actions.proofs.StreamActions.StreamRead.{read_is}
use Rattle.link_actions.proofs.StreamActions.StreamGoes.{Stands, stands}
use Rattle.link_actions.specs.StreamActions.Laws.{AreAllOf, Comes, IsOn, IsSomewhere, ended_all, is_left_out, left_out, left_resets, read_link, reset_all}
use Rattle.link_actions.specs.StreamActions.Sees.{SeesStreams, response_of}
use Rattle.link_actions.specs.Sees.{AttemptsStandInPlace, by_stream}

both_ways : (b : Bool) → b ≡ true → b ≡ false → ⊥
both_ways true e h = (cc)
both_ways false e h = (cc)

-- places of attempts
in_places : (xs : List Attempt) (i k : ℕ) (b : Attempt) → slice_get xs i ≡ Some b → b.place ≡ k → is_one_of (places_of xs) k ≡ true
in_places [] i k b e at = absurd (let no : ⊥ = (cc) in no)
in_places (x ∷ xs) zero k b e at =
    let same : x ≡ b = (cc) in
    let place : x.place ≡ k = ap (λ (y : Attempt). y.place) same ∙ at in
    let yes : (x.place == k) ≡ true = grind (arith, nat_tests, place) in
    ap (λ (c : Bool). c || is_one_of (places_of xs) k) yes
in_places (x ∷ xs) (suc i) k b e at = later (x.place == k) (in_places xs i k b e at)
  where
    later : (c : Bool) → is_one_of (places_of xs) k ≡ true → (c || is_one_of (places_of xs) k) ≡ true
    later true h = refl
    later false h = h

in_filter : (p : Attempt → Bool) (xs : List Attempt) (i : ℕ) (a : Attempt) → slice_get xs i ≡ Some a → p a ≡ true → IsIn (filter p xs) a
in_filter p [] i a e pass = absurd (let no : ⊥ = (cc) in no)
in_filter p (x ∷ xs) zero a e pass =
    let same : a ≡ x = (cc) in
    subst (λ (ys : List Attempt). IsIn ys a) (sym (if_true (p x) (x ∷ filter p xs) (filter p xs) (sym (ap p same) ∙ pass)))
    (record { index = 0; there = ap (λ (y : Attempt). Some y) (sym same) })
in_filter p (x ∷ xs) (suc i) a e pass =
    let rest : IsIn (filter p xs) a = in_filter p xs i a e pass in
    on_if (λ (ys : List Attempt). IsIn ys a) (p x) (x ∷ filter p xs) (filter p xs) (λ h. record { index = suc rest.index; there = rest.there }) (λ h. rest)

all_at : (P : Attempt → Type 0) (xs : List Attempt) (i : ℕ) (a : Attempt) → slice_get xs i ≡ Some a → AllByRecursion P xs → P a
all_at P [] i a e all = absurd (let no : ⊥ = (cc) in no)
all_at P (x ∷ xs) zero a e all = (let same : x ≡ a = (cc) in subst P same all.0)
all_at P (x ∷ xs) (suc i) a e all = all_at P xs i a e all.1

one_app : (xs ys : List ℕ) (k : ℕ) (b c : Bool) → is_one_of xs k ≡ b → is_one_of ys k ≡ c → is_one_of (xs ++ ys) k ≡ (b || c)
one_app [] ys k b c e h = h ∙ ap (λ (x : Bool). x || c) e
one_app (x ∷ xs) ys k b c e h =
    ap (λ (y : Bool). (x == k) || y) (one_app xs ys k (is_one_of xs k) c refl h) ∙ assoc (x == k) (is_one_of xs k) c ∙ ap (λ (y : Bool). y || c) e
  where
    assoc : (a b c : Bool) → (a || (b || c)) ≡ ((a || b) || c)
    assoc true b c = refl
    assoc false b c = refl

among_by : (ts ns : List ℕ) (k n : ℕ) (c : Bool) → (n == k) ≡ c → is_one_of ts n ≡ true → (is_one_of ns k ≡ true → is_one_of ts k ≡ true) → (c || is_one_of ns k) ≡ true → is_one_of ts k ≡ true
among_by ts ns k n true same here next e = ap (is_one_of ts) (sym (eqb-true n k same)) ∙ here
among_by ts ns k n false off here next e = next e

among : (ts : List ℕ) (k : ℕ) (xs : List Attempt) → AllByRecursion (λ a. is_one_of ts a.place ≡ true) xs → is_one_of (places_of xs) k ≡ true → is_one_of ts k ≡ true
among ts k [] all e = absurd (let no : ⊥ = (cc) in no)
among ts k (x ∷ xs) all e = among_by ts (places_of xs) k x.place (x.place == k) refl all.0 (λ h. among ts k xs all.1 h) e

left_all : (ts : List ℕ) (last : ℕ) (xs : List Attempt) → AllByRecursion (λ a. is_one_of ts a.place ≡ is_left_out last a) xs
    → AllByRecursion (λ a. is_one_of ts a.place ≡ true) (filter (is_left_out last) xs)
left_all ts last [] all = tt
left_all ts last (x ∷ xs) all =
    let rest = left_all ts last xs all.1 in
    on_if (AllByRecursion (λ (a : Attempt). is_one_of ts a.place ≡ true)) (is_left_out last x) (x ∷ filter (is_left_out last) xs) (filter (is_left_out last) xs)
    (λ e. (all.0 ∙ e, rest)) (λ e. rest)

-- GOAWAY leaves the responses on streams up to its last
first_of_all : (a b c d : Bool) → ((a && b && c) && d) ≡ true → a ≡ true
first_of_all true b c d e = refl
first_of_all false b c d e = absurd (let no : ⊥ = (cc) in no)

on_no_stream : (f : FrameSeen) → is_allowed f ≡ true → f.kind ≡ goaway_type → f.stream ≡ 0
on_no_stream f allowed kind =
    let first : kind_allows_stream f.kind f.stream ≡ true
    = first_of_all (kind_allows_stream f.kind f.stream) (not (is_overpadded f.kind f.flags (length f.payload) f.payload)) (not (is_zero_update f.kind f.stream f.payload)) (keeps_sizes f) allowed in
    eqb-true f.stream 0 (sym (ap (λ (k : ℕ). kind_allows_stream k f.stream) kind) ∙ first)

last_false : (a b : Bool) → b ≡ false → (a && b) ≡ false
last_false true b e = e
last_false false b e = refl

zero_apart : (k : ℕ) → (k == 0) ≡ false → (0 == k) ≡ false
zero_apart k h = grind (arith, nat_tests, h)

goaway_passes : (limit k : ℕ) (p : Response) (r : ReadFrame) → is_settings r.frame ≡ false → nat_lt (last_stream r.frame.payload) k ≡ false → (r.frame.stream == k) ≡ false
    → with_read limit k p r ≡ p
goaway_passes limit k p r no_settings_ low other =
    let f : FrameSeen = r.frame in
    if_false (is_settings f) (record p { initial = initial_after p.initial f }) _ no_settings_
    ∙ if_false ((f.kind == goaway_type) && nat_lt (last_stream f.payload) k) _ _ (last_false (f.kind == goaway_type) (nat_lt (last_stream f.payload) k) low)
    ∙ if_false (f.stream == k) (with_stream_frame limit p f r.block) p other

on_of : (l : Link) (s : Seen) (w : Wire) (g : ℕ → Line) (k j : ℕ) (b : Attempt) → SeesStreams l s w g → IsThere l s k b → b.row.stream ≡ Some j → IsOn l s j b
on_of l s w g k j b is there stream =
    let place : b.place ≡ k = place_is k s.attempts b is.sees.places there.there in
    record { there = ap (numbered s.attempts) place ∙ there.there; out = there.out; stream = stream }

pub goaway_leaves : (l : Link) (s : Seen) (w : Wire) (g : ℕ → Line) (r : ReadFrame) (n : ℕ) (a : Attempt) → SeesStreams l s w g → Comes l w r → r.frame.kind ≡ goaway_type → IsOn l s n a
    → nat_lt (last_stream r.frame.payload) n ≡ false → response_of (read_link r l s) (frame_read_on r s l) n a ≡ response_of l s n a
goaway_leaves l s w g r n a is comes kind on low =
    let f : FrameSeen = r.frame in
    let limit : ℕ = limit_of_attempt a s in
    let st : Stands l s w n a = stands l s w g n a is on in
    let going : IsGoing (response_of l s n a) = all_go l s w g n a is on in
    let p : Response = response_in limit n l.traffic in
    let some : (n == 0) ≡ false = ap (λ (k : ℕ). k == 0) (sym st.number) ∙ st.live.some in
    let apart : (f.stream == n) ≡ false = ap (λ (k : ℕ). k == n) (on_no_stream f comes.allowed kind) ∙ zero_apart n some in
    let no_settings_ : is_settings f ≡ false = of_settings f.kind f.flags (not_kind f.kind goaway_type settings_type false kind refl) in
    response_read limit n l r (owed_for f l s) ∙ goes_on limit n p (traffic.Read r) going.goes going.small ∙ goaway_passes limit n p r no_settings_ low apart

passed : (l : Link) (s : Seen) (w : Wire) (g : ℕ → Line) (r : ReadFrame) (k j : ℕ) (b : Attempt) → SeesStreams l s w g → Comes l w r → r.frame.kind ≡ goaway_type → IsThere l s k b
    → b.row.stream ≡ Some j → nat_lt (last_stream r.frame.payload) j ≡ false → response b (frame_read_on r s l) ≡ response b s
passed l s w g r k j b is comes kind there stream low =
    let v : Seen = frame_read_on r s l in
    let m : Link = read_link r l s in
    let on : IsOn l s j b = on_of l s w g k j b is there stream in
    response_is m v j b (link_here l s r is.sees.at) there.out stream
    ∙ goaway_leaves l s w g r j b is comes kind on low
    ∙ sym (response_is l s j b is.sees.at there.out stream)

same_traffic : (s u : Seen) (j : ℕ) → u.links ≡ s.links → IsSameTraffic (numbered s.links j) (numbered u.links j)
same_traffic s u j same = subst (λ (ls : List Link). IsSameTraffic (numbered s.links j) (numbered ls j)) (sym same) (traffic_itself (numbered s.links j))

-- which attempts GOAWAY ends
abbrev ends_places : Link → Seen → ℕ → List ℕ
ends_places l s last = places_of (left_out l s last) ++ places_of (waiting_on l s)

all_among : (l : Link) (s : Seen) (last k : ℕ) (ends : List (ℕ × RowEnd)) → AreAllOf l s last ends → is_one_of (ends_places l s last) k ≡ true → is_one_of (ends_of ends) k ≡ true
all_among l s last k ends all e = either_by (is_one_of (places_of (left_out l s last)) k) refl
  where
    either_by : (b : Bool) → is_one_of (places_of (left_out l s last)) k ≡ b → is_one_of (ends_of ends) k ≡ true
    either_by true h = among (ends_of ends) k (left_out l s last) (left_all (ends_of ends) last (by_stream (streaming_on l s)) all.streams) h
    either_by false h = among (ends_of ends) k (waiting_on l s) all.waits (sym (one_app (places_of (left_out l s last)) (places_of (waiting_on l s)) k false (is_one_of (places_of (waiting_on l s)) k) h refl) ∙ e)

slice_of : (xs : List Attempt) (k : ℕ) (b : Attempt) → numbered xs k ≡ Some b → IsIn xs b
slice_of xs zero b e = absurd (let no : ⊥ = (cc) in no)
slice_of xs (suc i) b e = record { index = i; there = e }

waiting_in : (l : Link) (s : Seen) (k : ℕ) (b : Attempt) → IsThere l s k b → b.row.stream ≡ None → IsIn (waiting_on l s) b
waiting_in l s k b there none =
    let i : IsIn s.attempts b = slice_of s.attempts k b there.there in
    let o : IsIn (outstanding_on l s) b = in_filter (is_outstanding_on l) s.attempts i.index b i.there there.out in
    in_filter (λ (a : Attempt). is_none a.row.stream) (outstanding_on l s) o.index b o.there (ap (λ (x : Option ℕ). is_none x) none)

-- an attempt that is on the link and is not among them goes on; one that is among them is one of the ends
pub data Fate (l : Link) (s : Seen) (last k : ℕ) (ends : List (ℕ × RowEnd)) (b : Attempt) : Type 0 where
  Ended : is_one_of (ends_places l s last) k ≡ true → Fate l s last k ends b
  Continues : (j : ℕ) → b.row.stream ≡ Some j → nat_lt last j ≡ false → is_one_of (ends_of ends) k ≡ false → Fate l s last k ends b

fate_waits : (l : Link) (s : Seen) (w : Wire) (g : ℕ → Line) (last k : ℕ) (ends : List (ℕ × RowEnd)) (b : Attempt) → SeesStreams l s w g → IsThere l s k b → b.row.stream ≡ None
    → Fate l s last k ends b
fate_waits l s w g last k ends b is there none =
    let i : IsIn (waiting_on l s) b = waiting_in l s k b there none in
    let place : b.place ≡ k = place_is k s.attempts b is.sees.places there.there in
    let prefix : Bool = is_one_of (places_of (left_out l s last)) k in
    Ended (one_app (places_of (left_out l s last)) (places_of (waiting_on l s)) k prefix true refl (in_places (waiting_on l s) i.index k b i.there place) ∙ or_true prefix)
  where
    or_true : (c : Bool) → (c || true) ≡ true
    or_true true = refl
    or_true false = refl

fate_streams : (l : Link) (s : Seen) (w : Wire) (g : ℕ → Line) (last k j : ℕ) (ends : List (ℕ × RowEnd)) (b : Attempt) (c : Bool) → nat_lt last j ≡ c → SeesStreams l s w g
    → AreAllOf l s last ends → IsThere l s k b → b.row.stream ≡ Some j → Fate l s last k ends b
fate_streams l s w g last k j ends b true high is all there stream =
    let bs : List Attempt = by_stream (streaming_on l s) in
    let place : b.place ≡ k = place_is k s.attempts b is.sees.places there.there in
    let i : IsIn bs b = streaming_in l s j b (on_of l s w g k j b is there stream) in
    let out : is_left_out last b ≡ true = ap (λ (o : Option ℕ). nat_lt last (unwrap_or o 0)) stream ∙ high in
    let x : IsIn (left_out l s last) b = in_filter (is_left_out last) bs i.index b i.there out in
    Ended (one_app (places_of (left_out l s last)) (places_of (waiting_on l s)) k true (is_one_of (places_of (waiting_on l s)) k) (in_places (left_out l s last) x.index k b x.there place) refl)
fate_streams l s w g last k j ends b false low is all there stream =
    let bs : List Attempt = by_stream (streaming_on l s) in
    let place : b.place ≡ k = place_is k s.attempts b is.sees.places there.there in
    let i : IsIn bs b = streaming_in l s j b (on_of l s w g k j b is there stream) in
    let at : is_one_of (ends_of ends) b.place ≡ is_left_out last b = all_at (λ (a : Attempt). is_one_of (ends_of ends) a.place ≡ is_left_out last a) bs i.index b i.there all.streams in
    Continues j stream low (ap (is_one_of (ends_of ends)) (sym place) ∙ at ∙ ap (λ (o : Option ℕ). nat_lt last (unwrap_or o 0)) stream ∙ low)

fate_by : (l : Link) (s : Seen) (w : Wire) (g : ℕ → Line) (last k : ℕ) (ends : List (ℕ × RowEnd)) (b : Attempt) (o : Option ℕ) → b.row.stream ≡ o → SeesStreams l s w g
    → AreAllOf l s last ends → IsThere l s k b → Fate l s last k ends b
fate_by l s w g last k ends b None stream is all there = fate_waits l s w g last k ends b is there stream
fate_by l s w g last k ends b (Some j) stream is all there = fate_streams l s w g last k j ends b (nat_lt last j) refl is all there stream

-- the readers
no_reader : (s : Seen) (x : Option ReaderSeen) → IsReaderOf s None x → x ≡ None
no_reader s None is = refl
no_reader s (Some y) is = absurd is

reader_gone : (l : Link) (s : Seen) (w v : Wire) (g : ℕ → Line) (t : Reported) (readers : List TagReader) (last seen k : ℕ) (ends : List (ℕ × RowEnd)) (o : Option Attempt) (q : Bool)
    → attempt_on l s k ≡ o → is_one_of (ends_places l s last) k ≡ q → SeesStreams l s w g → SeesReaders l s readers → AreAllOf l s last ends → IsRetired l s w v t readers last seen
    → is_one_of (ends_of ends) k ≡ true → reader_in k t.link.readers ≡ None
reader_gone l s w v g t readers last seen k ends o true at one is sees all retired on = retired.gone k one
reader_gone l s w v g t readers last seen k ends None false at none is sees all retired on =
    retired.kept k none ∙ no_reader s (reader_in k readers) (subst (λ (x : Option Attempt). IsReaderOf s x (reader_in k readers)) at (sees.each k))
reader_gone l s w v g t readers last seen k ends (Some b) false at none is sees all retired on =
    fate_out (fate_by l s w g last k ends b b.row.stream refl is all (is_there l s k b at))
  where
    fate_out : Fate l s last k ends b → reader_in k t.link.readers ≡ None
    fate_out (Ended one) = absurd (both_ways (is_one_of (ends_places l s last) k) one none)
    fate_out (Continues j stream low off) = absurd (both_ways (is_one_of (ends_of ends) k) on off)

reader_kept : (l m : Link) (s v u z : Seen) (w x : Wire) (g : ℕ → Line) (t : Reported) (readers : List TagReader) (r : ReadFrame) (seen k : ℕ) (ends : List (ℕ × RowEnd)) (q : Bool) (o p : Option Attempt)
    → attempt_on l s k ≡ o → is_one_of (ends_places l s (last_stream r.frame.payload)) k ≡ q → SeesStreams l s w g → Comes l w r → r.frame.kind ≡ goaway_type → SeesReaders l s readers
    → AreAllOf l s (last_stream r.frame.payload) ends → IsRetired l s w x t readers (last_stream r.frame.payload) seen → v ≡ frame_read_on r s l → AreEnded (ends_of ends) v u → AreReset u z
    → is_one_of (ends_of ends) k ≡ false → IsSameRow o p → IsReaderOf z p (reader_in k t.link.readers)
reader_kept l m s v u z w x g t readers r seen k ends true o p at one is comes kind sees all retired read ended_ reset_ off same =
    absurd (both_ways (is_one_of (ends_of ends) k) (all_among l s (last_stream r.frame.payload) k ends all one) off)
reader_kept l m s v u z w x g t readers r seen k ends false None None at none is comes kind sees all retired read ended_ reset_ off same =
    let empty : Option Attempt = None in
    let gone : reader_in k t.link.readers ≡ None
    = retired.kept k none ∙ no_reader s (reader_in k readers) (subst (λ (y : Option Attempt). IsReaderOf s y (reader_in k readers)) at (sees.each k)) in
    subst (λ (y : Option ReaderSeen). IsReaderOf z empty y) (sym gone) tt
reader_kept l m s v u z w x g t readers r seen k ends false (Some b) (Some c) at none is comes kind sees all retired read ended_ reset_ off same =
    let there : IsThere l s k b = is_there l s k b at in
    subst (λ (y : Option ReaderSeen). IsReaderOf z (Some c) y) (sym (retired.kept k none))
    (with_fate (fate_by l s w g (last_stream r.frame.payload) k ends b b.row.stream refl is all there) (reader_in k readers)
    (subst (λ (y : Option Attempt). IsReaderOf s y (reader_in k readers)) at (sees.each k)))
  where
    with_fate : Fate l s (last_stream r.frame.payload) k ends b → (y : Option ReaderSeen) → IsReaderOf s (Some b) y → IsReaderOf z (Some c) y
    with_fate (Ended one) y reads = absurd (both_ways (is_one_of (ends_places l s (last_stream r.frame.payload)) k) one none)
    with_fate (Continues j stream low still) None reads = absurd reads
    with_fate (Continues j stream low still) (Some y) reads =
        let there : IsThere l s k b = is_there l s k b at in
        let first : response b v ≡ response b s = ap (response b) read ∙ passed l s w g r k j b is comes kind there stream low in
        let limit0 : limit_of_attempt b v ≡ limit_of_attempt b s = ap (limit_of_attempt b) read in
        let limit1 : limit_of_attempt b u ≡ limit_of_attempt b v = ended_.limits b in
        let second : response b u ≡ response b v = response_alike v u b b refl limit1 (λ i. same_traffic v u i ended_.links) in
        let limit2 : limit_of_attempt c z ≡ limit_of_attempt b u = limit_reset u z b c reset_ same in
        let third : response c z ≡ response b u = response_alike u z b c same limit2 reset_.links in
        reader_alike s z b c y same (limit2 ∙ limit1 ∙ limit0) (third ∙ second ∙ first) reads
reader_kept l m s v u z w x g t readers r seen k ends false None (Some c) at none is comes kind sees all retired read ended_ reset_ off same = absurd same
reader_kept l m s v u z w x g t readers r seen k ends false (Some b) None at none is comes kind sees all retired read ended_ reset_ off same = absurd same

-- they are somewhere once the frame is read
still_there : (l : Link) (s : Seen) (r : ReadFrame) (ends : List (ℕ × RowEnd)) → AllByRecursion (λ (x : ℕ × RowEnd). IsSomewhere s x.0) ends
    → AllByRecursion (λ (x : ℕ × RowEnd). IsSomewhere (frame_read_on r s l) x.0) ends
still_there l s r [] all = tt
still_there l s r (x ∷ ends) all = (record { attempt = all.0.attempt; there = all.0.there }, still_there l s r ends all.1)

row_by : (l m : Link) (s v u z : Seen) (w x : Wire) (g : ℕ → Line) (t : Reported) (readers : List TagReader) (r : ReadFrame) (seen k : ℕ) (ends : List (ℕ × RowEnd)) (c : Bool)
    → is_one_of (ends_of ends) k ≡ c → m.number ≡ l.number → SeesStreams l s w g → Comes l w r → r.frame.kind ≡ goaway_type → SeesReaders l s readers
    → AreAllOf l s (last_stream r.frame.payload) ends → IsRetired l s w x t readers (last_stream r.frame.payload) seen → v ≡ frame_read_on r s l → AreEnded (ends_of ends) v u → AreReset u z
    → IsReaderOf z (attempt_on m z k) (reader_in k t.link.readers)
row_by l m s v u z w x g t readers r seen k ends true on number is comes kind sees all retired read ended_ reset_ =
    let none : Option Attempt = None in
    let gone : attempt_on m z k ≡ None = gone_on m (numbered u.attempts k) (numbered z.attempts k) (ended_.over k on) (reset_.each k) in
    let reader : reader_in k t.link.readers ≡ None
    = reader_gone l s w x g t readers (last_stream r.frame.payload) seen k ends (attempt_on l s k) (is_one_of (ends_places l s (last_stream r.frame.payload)) k) refl refl is sees all retired on in
    subst (λ (o : Option Attempt). IsReaderOf z o (reader_in k t.link.readers)) (sym gone)
    (subst (λ (y : Option ReaderSeen). IsReaderOf z none y) (sym reader) tt)
row_by l m s v u z w x g t readers r seen k ends false off number is comes kind sees all retired read ended_ reset_ =
    let same : IsSameRow (numbered s.attempts k) (numbered z.attempts k)
    = subst (λ (o : Option Attempt). IsSameRow o (numbered z.attempts k)) (ended_.others k off ∙ ap (λ (y : Seen). numbered y.attempts k) read) (reset_.each k) in
    reader_kept l m s v u z w x g t readers r seen k ends (is_one_of (ends_places l s (last_stream r.frame.payload)) k) (attempt_on l s k) (attempt_on m z k) refl refl is comes kind sees all retired read
    ended_ reset_ off (still_on l m (numbered s.attempts k) (numbered z.attempts k) number same)

pub goaways_keep_readers : GoawaysKeepReaders
goaways_keep_readers l s w g readers r ends is sees comes kind_ all =
    let f : FrameSeen = r.frame in
    let kind : f.kind ≡ goaway_type = eqb-true f.kind goaway_type kind_ in
    let last : ℕ = last_stream f.payload in
    let xs : List Attempt = left_out l s last in
    let m : Link = with_owed (left_resets xs) (read_link r l s) in
    let t : Reported = frame_reported w readers f in
    let retired : IsRetired l s w (reported w f).wire t readers last (seen_at r) = goaways_are_reported l s w g readers r is sees comes kind_ in
    let v : Seen = frame_read_on r s l in
    let u : Seen = ended_all ends v in
    let z : Seen = reset_all xs u in
    let ended_ : AreEnded (ends_of ends) v u = all_are_ended ends v is.sees.places (still_there l s r ends all.somewhere) in
    let reset_ : AreReset u z = all_are_reset xs u in
    subst (λ (y : Seen). SeesReaders m (reset_all xs (ended_all ends y)) t.link.readers) (sym (read_is l s r is.sees.at))
    (record {
      each = λ k. row_by l m s v u z w (reported w f).wire g t readers r (seen_at r) k ends (is_one_of (ends_of ends) k) refl refl is comes kind sees all retired refl ended_ reset_;
      distinct = retired.distinct;
    })

-- before the streams are reset: the attempts that ended, by their places
same_by : (c : Bool) (a b : Attempt) → c ≡ false → IsEndedIf c a b → b ≡ a
same_by true a b off ended = absurd (let no : ⊥ = (cc) in no)
same_by false a b off same = same

over_by : (c : Bool) (a b : Attempt) → c ≡ true → IsEndedIf c a b → is_none b.row.ended ≡ false
over_by true a b on ended = ap (λ (x : Attempt). is_none x.row.ended) ended.1
over_by false a b on same = absurd (let no : ⊥ = (cc) in no)

others_from : (ts : List ℕ) (n i k : ℕ) (as_ bs : List Attempt) → AttemptsStandInPlace n as_ → AttemptsAreEndedAt ts as_ bs → k ≡ n + i → is_one_of ts k ≡ false → slice_get bs i ≡ slice_get as_ i
others_from ts n i k [] [] places are at off = refl
others_from ts n zero k (a ∷ as_) (b ∷ bs) places are at off =
    let place : a.place ≡ n = places.0 in
    let same : k ≡ a.place = omega (arith, place, at) in
    ap (λ (x : Attempt). Some x) (same_by (is_one_of ts a.place) a b (sym (ap (is_one_of ts) same) ∙ off) are.0)
others_from ts n (suc i) k (a ∷ as_) (b ∷ bs) places are at off =
    let next : k ≡ n + 1 + i = omega (arith, at) in
    others_from ts (n + 1) i k as_ bs places.1 are.1 next off
others_from ts n i k [] (b ∷ bs) places are at off = absurd are
others_from ts n i k (a ∷ as_) [] places are at off = absurd are

over_from : (ts : List ℕ) (n i k : ℕ) (as_ bs : List Attempt) → AttemptsStandInPlace n as_ → AttemptsAreEndedAt ts as_ bs → k ≡ n + i → is_one_of ts k ≡ true → IsOver (slice_get bs i)
over_from ts n i k [] [] places are at on = tt
over_from ts n zero k (a ∷ as_) (b ∷ bs) places are at on =
    let place : a.place ≡ n = places.0 in
    let same : k ≡ a.place = omega (arith, place, at) in
    over_by (is_one_of ts a.place) a b (sym (ap (is_one_of ts) same) ∙ on) are.0
over_from ts n (suc i) k (a ∷ as_) (b ∷ bs) places are at on =
    let next : k ≡ n + 1 + i = omega (arith, at) in
    over_from ts (n + 1) i k as_ bs places.1 are.1 next on
over_from ts n i k [] (b ∷ bs) places are at on = absurd are
over_from ts n i k (a ∷ as_) [] places are at on = absurd are

others_at : (ts : List ℕ) (k : ℕ) (as_ bs : List Attempt) → AttemptsStandInPlace 1 as_ → AttemptsAreEndedAt ts as_ bs → is_one_of ts k ≡ false → numbered bs k ≡ numbered as_ k
others_at ts zero as_ bs places are off = refl
others_at ts (suc i) as_ bs places are off = (let at : suc i ≡ 1 + i = omega arith in others_from ts 1 i (suc i) as_ bs places are at off)

over_at : (ts : List ℕ) (k : ℕ) (as_ bs : List Attempt) → AttemptsStandInPlace 1 as_ → AttemptsAreEndedAt ts as_ bs → is_one_of ts k ≡ true → IsOver (numbered bs k)
over_at ts zero as_ bs places are on = tt
over_at ts (suc i) as_ bs places are on = (let at : suc i ≡ 1 + i = omega arith in over_from ts 1 i (suc i) as_ bs places are at on)

pub goaways_leave_readers : GoawaysLeaveReaders
goaways_leave_readers l s w g readers r ends rows is sees comes kind_ all are =
    let f : FrameSeen = r.frame in
    let kind : f.kind ≡ goaway_type = eqb-true f.kind goaway_type kind_ in
    let last : ℕ = last_stream f.payload in
    let m : Link = read_link r l s in
    let ts : List ℕ = ends_of ends in
    let t : Reported = frame_reported w readers f in
    let retired : IsRetired l s w (reported w f).wire t readers last (seen_at r) = goaways_are_reported l s w g readers r is sees comes kind_ in
    let v : Seen = frame_read_on r s l in
    let u : Seen = record v { attempts = rows } in
    let none : List Attempt = [] in
    let ended_ : AreEnded ts v u = record {
      links = refl;
      limits = λ b. refl;
      places = rows_placed ts 1 s.attempts rows is.sees.places are;
      others = λ k off. others_at ts k s.attempts rows is.sees.places are off;
      over = λ k on. over_at ts k s.attempts rows is.sees.places are on;
    } in
    let reset_ : AreReset u u = all_are_reset none u in
    subst (λ (y : Seen). SeesReaders m (record y { attempts = rows }) t.link.readers) (sym (read_is l s r is.sees.at))
    (record {
      each = λ k. row_by l m s v u u w (reported w f).wire g t readers r (seen_at r) k ends (is_one_of ts k) refl refl is comes kind sees all retired refl ended_ reset_;
      distinct = retired.distinct;
    })
