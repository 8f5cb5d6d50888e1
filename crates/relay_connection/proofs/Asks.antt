-- Whose the asks are that something makes a stream ask.
use Rattle.std.proofs.Common.{◌≡◌, ℕ, Bool, true, false, List, [], ◌∷◌, ◌++◌, refl, ◌∙◌, ap, subst, Some, None, append_assoc}
use Rattle.std.specs.Prelude.{Option, ◌==◌, ◌&&◌, not, if◌then◌else◌, map}
use Rattle.std.proofs.lemmas.Bool.{eq-eqb}
use Rattle.grpc_base.specs.declared.fields.Field.{Field}
use Rattle.grpc_frame.specs.declared.next.MessageFault.{MessageFault}
use Rattle.grpc_frame.specs.Reader.{ReaderSeen, given}
use Rattle.relay_asks.specs.declared.ask.RelayAsk.{RelayAsk}
use Rattle.relay_asks.specs.declared.ask.RelayAsk.TheVariants as ask
use Rattle.relay_asks.specs.Asking.{Asking, begun, begun_by, data_reported, fed, judged, sent, unchanged}
use Rattle.relay_asks.specs.Laws.{Moment, Came, Ended, Answered, Broke}
use Rattle.relay_asks.specs.Laws as asking
use Rattle.relay_asks.proofs.Asked.{nothing_asked}
use Rattle.relay_request.specs.Incoming.{incoming}
use Rattle.relay_request.specs.declared.incoming.Incoming.{Incoming}
use Rattle.relay_request.specs.declared.incoming.Incoming.TheVariants.{Begins, Refused}
use Rattle.relay_answer.specs.Answering.{fresh, is_sent}
use Rattle.relay_connection.specs.declared.stream.RelayStream.{RelayStream}
use Rattle.relay_connection.specs.declared.stream.StreamNews.{StreamNews}
use Rattle.relay_connection.specs.declared.stream.StreamNews.TheVariants as news
use Rattle.relay_connection.specs.Laws.{asks_for, ended_by}
use Rattle.relay_asks.specs.Asking.{stream_of}
use Rattle.relay_connection.specs.Streams.{begun_as, ended_if, is_over, stream_begun, stream_reported, with_status}
use Rattle.relay_connection.proofs.Rising.{number_of}

-- all of them are of this stream
abbrev pub AreFor : ℕ → List RelayAsk → Type 0
AreFor n [] = Unit {0}
AreFor n (a ∷ asks) = (stream_of a ≡ n) × AreFor n asks

pub for_own : (n : ℕ) (asks : List RelayAsk) → AreFor n asks → asks_for n asks ≡ asks
for_own n [] h = refl
for_own n (a ∷ asks) h =
    let test : (stream_of a == n) ≡ true = eq-eqb (stream_of a) n h.0 in
    rw test (ap (λ (l : List RelayAsk). a ∷ l) (for_own n asks h.1))

pub for_other : (n m : ℕ) (asks : List RelayAsk) → AreFor m asks → (m == n) ≡ false → asks_for n asks ≡ []
for_other n m [] h d = refl
for_other n m (a ∷ asks) h d =
    let test : (stream_of a == n) ≡ false = ap (λ (k : ℕ). k == n) h.0 ∙ d in
    rw test (for_other n m asks h.1 d)

are_both : (n : ℕ) (xs ys : List RelayAsk) → AreFor n xs → AreFor n ys → AreFor n (xs ++ ys)
are_both n [] ys h k = k
are_both n (x ∷ xs) ys h k = (h.0, are_both n xs ys h.1 k)

are_sent : (n : ℕ) (messages : List (List ℕ)) → AreFor n (map (sent n) messages)
are_sent n [] = tt
are_sent n (m ∷ messages) = (refl, are_sent n messages)

are_cancel : (n : ℕ) (b : Bool) → AreFor n (if b then ask.Cancel n ∷ [] else [])
are_cancel n true = (refl, tt)
are_cancel n false = tt

are_finish : (n : ℕ) (b : Bool) → AreFor n (if b then ask.Finish n ∷ [] else [])
are_finish n true = (refl, tt)
are_finish n false = tt

are_judged : (a : Asking) (f : Option MessageFault) → AreFor a.number (judged a f).asks
are_judged a None = tt
are_judged a (Some f) = are_cancel a.number a.is_open

are_data : (a : Asking) (octets : List ℕ) (b : Bool) → AreFor a.number (if b then fed a (given a.reader octets) else unchanged a).asks
are_data a octets true =
    let g = given a.reader octets in
    are_both a.number (map (sent a.number) g.messages) (judged (record a { reader = g.reader }) g.fault).asks (are_sent a.number g.messages) (are_judged (record a { reader = g.reader }) g.fault)
are_data a octets false = tt

judged_number : (a : Asking) (f : Option MessageFault) → (judged a f).stream.number ≡ a.number
judged_number a None = refl
judged_number a (Some f) = refl

data_number : (a : Asking) (octets : List ℕ) (b : Bool) → (if b then fed a (given a.reader octets) else unchanged a).stream.number ≡ a.number
data_number a octets true =
    judged_number (record a { reader = (given a.reader octets).reader }) (given a.reader octets).fault
data_number a octets false = refl

end_number : (end : Bool) (s : RelayStream) → number_of (ended_if end s).stream ≡ number_of s
end_number true s = refl
end_number false s = refl

are_end : (end : Bool) (s : RelayStream) → AreFor (number_of s) (ended_if end s).asks
are_end true s = are_finish (number_of s) s.asking.asking
are_end false s = tt

-- a stream after DATA, and one after its header list
abbrev data_stream : RelayStream → List ℕ → RelayStream
data_stream s octets =
    record { asking = (data_reported s.asking octets).stream; answer = with_status s.answer (data_reported s.asking octets).status }

abbrev begun_stream : ℕ → List Field → RelayStream
begun_stream n fields = record { asking = (begun n fields).stream; answer = with_status fresh (begun n fields).status }

-- what news make a stream ask is its own
pub reported_number : (s : RelayStream) (n : StreamNews) → number_of (stream_reported s n).stream ≡ number_of s
reported_number s (news.Data octets end) =
    end_number end (data_stream s octets) ∙ data_number s.asking octets s.asking.asking
reported_number s (news.Trailers end) = end_number end s
reported_number s news.Breaks = refl

pub reported_for : (s : RelayStream) (n : StreamNews) → AreFor (number_of s) (stream_reported s n).asks
reported_for s (news.Data octets end) =
    let t = data_stream s octets in
    let own : AreFor (number_of s) (ended_if end t).asks =
    subst (λ (k : ℕ). AreFor k (ended_if end t).asks) (data_number s.asking octets s.asking.asking) (are_end end t) in
    are_both (number_of s) (data_reported s.asking octets).asks (ended_if end t).asks (are_data s.asking octets s.asking.asking) own
reported_for s (news.Trailers end) = are_end end s
reported_for s news.Breaks = are_cancel (number_of s) s.asking.is_open

-- and the same as the moments that they are for it
abbrev pub moments_of : StreamNews → List Moment
moments_of (news.Data octets end) = Came octets ∷ ended_by end
moments_of (news.Trailers end) = ended_by end
moments_of news.Breaks = Broke ∷ []

end_known : (end : Bool) (s : RelayStream) (ms : List Moment) → (ended_if end s).asks ++ asking.asks_from (ended_if end s).stream.asking ms ≡ asking.asks_from s.asking (ended_by end ++ ms)
end_known true s ms = refl
end_known false s ms = refl

pub reported_known : (s : RelayStream) (n : StreamNews) (ms : List Moment) → (stream_reported s n).asks ++ asking.asks_from (stream_reported s n).stream.asking ms ≡ asking.asks_from s.asking (moments_of n ++ ms)
reported_known s (news.Data octets end) ms =
    let d = data_reported s.asking octets in
    let t = data_stream s octets in
    append_assoc d.asks (ended_if end t).asks (asking.asks_from (ended_if end t).stream.asking ms)
    ∙ ap (λ (l : List RelayAsk). d.asks ++ l) (end_known end t ms)
reported_known s (news.Trailers end) ms = end_known end s ms
reported_known s news.Breaks ms = refl

-- a stream that is over asks nothing more
over_by : (n : ℕ) (a o sent : Bool) (r : ReaderSeen) (ms : List Moment) → (not a && not o && sent) ≡ true → asking.asks_from (record { number = n; asking = a; is_open = o; reader = r }) ms ≡ []
over_by n true o sent r ms e = absurd (cc)
over_by n false true sent r ms e = absurd (cc)
over_by n false false sent r ms e = nothing_asked n r ms

pub over_asks : (s : RelayStream) (ms : List Moment) → is_over s ≡ true → asking.asks_from s.asking ms ≡ []
over_asks s ms e =
    over_by s.asking.number s.asking.asking s.asking.is_open (is_sent s.answer) s.asking.reader ms e

-- a stream that begins
begun_number : (n : ℕ) (i : Incoming) → (begun_by n i).stream.number ≡ n
begun_number n (Begins request) = refl
begun_number n (Refused code) = refl

begun_for : (n : ℕ) (i : Incoming) → AreFor n (begun_by n i).asks
begun_for n (Begins request) = (refl, tt)
begun_for n (Refused code) = tt

pub opened_number : (n : ℕ) (fields : List Field) (end : Bool) → number_of (stream_begun n fields end).stream ≡ n
opened_number n fields end = end_number end (begun_stream n fields) ∙ begun_number n (incoming fields)

pub opened_for : (n : ℕ) (fields : List Field) (end : Bool) → AreFor n (stream_begun n fields end).asks
opened_for n fields end =
    let b = begun n fields in
    let t = begun_as b.stream b.status end in
    are_both n b.asks t.asks (begun_for n (incoming fields)) (subst (λ (k : ℕ). AreFor k t.asks) (begun_number n (incoming fields)) (are_end end (begun_stream n fields)))

pub opened_known : (n : ℕ) (fields : List Field) (end : Bool) (ms : List Moment) → (stream_begun n fields end).asks ++ asking.asks_from (stream_begun n fields end).stream.asking ms ≡ (begun n fields).asks ++ asking.asks_from (begun n fields).stream (ended_by end ++ ms)
opened_known n fields end ms =
    let b = begun n fields in
    let t = begun_as b.stream b.status end in
    append_assoc b.asks t.asks (asking.asks_from t.stream.asking ms)
    ∙ ap (λ (l : List RelayAsk). b.asks ++ l) (end_known end (begun_stream n fields) ms)
