-- What a connection asks for one stream is what that stream asks of what happens to it.
use Rattle.std.proofs.Common.{◌≡◌, ℕ, ◌<◌, ◌≤◌, Bool, true, false, List, [], ◌∷◌, ◌++◌, refl, sym, ◌∙◌, ap, ap₂, subst, Some, None, arith, append-nil}
use Rattle.std.specs.Prelude.{Option, ◌==◌, nat_lt, if◌then◌else◌, position, slice_get, slice_set}
use Rattle.std.proofs.lemmas.Bool.{eqb-true, ne_eqb, ltb-true, lt-ltb}
use Rattle.std.proofs.lemmas.List.Elements.{filter-append}
use Rattle.grpc_base.specs.declared.event.Reply.{Reply}
use Rattle.grpc_base.specs.declared.event.Reply.TheVariants as reply
use Rattle.grpc_base.specs.declared.fields.Field.{Field}
use Rattle.h2_server.specs.Received.{Receiving}
use Rattle.h2_server.specs.Sends as sends
use Rattle.h2_server.specs.Sends.{next_control}
use Rattle.h2_server.specs.Wire.{Seen}
use Rattle.h2_server.specs.declared.news.RequestNews.{RequestNews}
use Rattle.h2_server.specs.declared.news.RequestNews.TheVariants as news
use Rattle.relay_answer.specs.Answering.{room_of}
use Rattle.relay_asks.specs.declared.ask.RelayAsk.{RelayAsk}
use Rattle.relay_asks.specs.Asking.{Asking, answered, begun, given_up}
use Rattle.relay_asks.specs.Laws.{Moment, Came, Ended, Answered, Broke}
use Rattle.relay_asks.specs.Laws as asking
use Rattle.relay_asks.proofs.Asked.{nothing_asked}
use Rattle.relay_connection.specs.declared.stream.RelayStream.{RelayStream}
use Rattle.relay_connection.specs.declared.stream.StreamNews.{StreamNews}
use Rattle.relay_connection.specs.declared.stream.StreamNews.TheVariants as stream
use Rattle.relay_connection.specs.Draining.{next_by, step_as, step_at, stream_step}
use Rattle.relay_connection.specs.Laws.{Event, Receives, Gives, Sends, after, asks_for, asks_from, ended_by, event_for, happened, if_own, item_moments, moments_for, news_for, Rises, stepped_relay}
use Rattle.relay_asks.specs.Asking.{stream_of}
use Rattle.relay_connection.specs.Relay.{Relay, Report, fresh_relay, given, given_at, given_by, on_stream, silent, stream_opened, reported, reported_at, reported_by}
use Rattle.relay_connection.specs.Streams.{cancels, is_over, item_given, may_send, put, sent, stream_begun, stream_reported}
use Rattle.relay_connection.proofs.Asks.{AreFor, for_other, for_own, moments_of, opened_for, opened_known, opened_number, over_asks, reported_for, reported_known, reported_number}
use Rattle.relay_connection.proofs.Rising.{is_at, is_nowhere, none_above, number_of, own, own_at, push_other, push_own, put_other, put_own, rises_most, rises_push, rises_put, rises_written, written_other, written_own}

-- what is asked of the moments of a stream that is there
abbrev known : Option RelayStream → List Moment → List RelayAsk
known None ms = []
known (Some s) ms = asking.asks_from s.asking ms

over_known : (u : RelayStream) (ms : List Moment) (b : Bool) → is_over u ≡ b → known (if b then None else Some u) ms ≡ asking.asks_from u.asking ms
over_known u ms true e = sym (over_asks u ms e)
over_known u ms false e = refl

-- what something does, for the stream of a number
record Keeps (n : ℕ) (r : Relay) (t : Report) (ms : List Moment) : Type 0 where
  rises : Rises 0 t.relay.streams t.relay.last
  last : r.last ≤ t.relay.last
  asks : (rest : List Moment) → asks_for n t.asks ++ known (own n t.relay.streams) rest ≡ known (own n r.streams) (ms ++ rest)

keeps_still : (n : ℕ) (r : Relay) (l : Seen) → Rises 0 r.streams r.last → Keeps n r (silent (record r { link = l })) []
keeps_still n r l h = record { rises = h; last = omega arith; asks = λ rest. refl }

-- a stream that changes at its place
changed_by : (n m : ℕ) (r : Relay) (l : Seen) (place : ℕ) (s u : RelayStream) (asks : List RelayAsk) (ms : List Moment) (b : Bool) → (m == n) ≡ b → Rises 0 r.streams r.last → slice_get r.streams place ≡ Some s → number_of s ≡ m → number_of u ≡ number_of s → AreFor m asks → ((rest : List Moment) → asks ++ asking.asks_from u.asking rest ≡ asking.asks_from s.asking (ms ++ rest))
    → (rest : List Moment) → asks_for n asks ++ known (own n (put r.streams place u)) rest ≡ known (own n r.streams) ((if b then ms else []) ++ rest)
changed_by n m r l place s u asks ms true t h there number same own_asks step rest =
    let mn : m ≡ n = eqb-true m n t in
    let all : asks_for n asks ≡ asks = for_own n asks (subst (λ (k : ℕ). AreFor k asks) mn own_asks) in
    let after_is : known (own n (put r.streams place u)) rest ≡ asking.asks_from u.asking rest =
    ap (λ (o : Option RelayStream). known o rest) (put_own n 0 r.last r.streams place s u there same (number ∙ mn) h) ∙ over_known u rest (is_over u) refl in
    let before_is : own n r.streams ≡ Some s = own_at n 0 r.last r.streams place s there (number ∙ mn) h in
    ap₂ (λ (x y : List RelayAsk). x ++ y) all after_is ∙ (step rest ∙ sym (ap (λ (o : Option RelayStream). known o (ms ++ rest)) before_is))
changed_by n m r l place s u asks ms false t h there number same own_asks step rest =
    let none : asks_for n asks ≡ [] = for_other n m asks own_asks t in
    let other : own n (put r.streams place u) ≡ own n r.streams =
    put_other n r.streams place s u there same (ap (λ (k : ℕ). k == n) number ∙ t) in
    ap₂ (λ (x : List RelayAsk) (o : Option RelayStream). x ++ known o rest) none other

changed : (n m : ℕ) (r : Relay) (l : Seen) (place : ℕ) (s u : RelayStream) (asks : List RelayAsk) (ms : List Moment) → Rises 0 r.streams r.last → slice_get r.streams place ≡ Some s → number_of s ≡ m → number_of u ≡ number_of s → AreFor m asks → ((rest : List Moment) → asks ++ asking.asks_from u.asking rest ≡ asking.asks_from s.asking (ms ++ rest)) → Keeps n r (record { relay = record r { link = l; streams = put r.streams place u }; asks = asks }) (if_own n m ms)
changed n m r l place s u asks ms h there number same own_asks step = record {
  rises = rises_put 0 r.last r.streams place s u there same h;
  last = omega arith;
  asks = changed_by n m r l place s u asks ms (m == n) refl h there number same own_asks step;
}

-- news of a stream that is not there
missing_by : (n m : ℕ) (r : Relay) (ms : List Moment) (b : Bool) → (m == n) ≡ b → own m r.streams ≡ None → (rest : List Moment) → known (own n r.streams) rest ≡ known (own n r.streams) ((if b then ms else []) ++ rest)
missing_by n m r ms false t none rest = refl
missing_by n m r ms true t none rest =
    let none_too : own n r.streams ≡ None = subst (λ (k : ℕ). own k r.streams ≡ None) (eqb-true m n t) none in
    ap (λ (o : Option RelayStream). known o rest) none_too ∙ sym (ap (λ (o : Option RelayStream). known o (ms ++ rest)) none_too)

missing : (n m : ℕ) (r : Relay) (l : Seen) (ms : List Moment) → Rises 0 r.streams r.last → own m r.streams ≡ None → Keeps n r (silent (record r { link = l })) (if_own n m ms)
missing n m r l ms h none =
    record { rises = h; last = omega arith; asks = missing_by n m r ms (m == n) refl none }

stream_by : (n m : ℕ) (r : Relay) (l : Seen) (nw : StreamNews) (o : Option RelayStream) → own m r.streams ≡ o → Rises 0 r.streams r.last → Keeps n r (on_stream (record r { link = l }) m nw) (if_own n m (moments_of nw))
stream_by n m r l nw None e h =
    subst (λ (v : Report). Keeps n r v (if_own n m (moments_of nw))) (sym (ap (reported_by (record r { link = l }) nw) (is_nowhere m r.streams e))) (missing n m r l (moments_of nw) h e)
stream_by n m r l nw (Some s) e h =
    let p = is_at m r.streams s e in
    let whole : on_stream (record r { link = l }) m nw ≡ reported_at (record r { link = l }) p.place nw (Some s) =
    ap (reported_by (record r { link = l }) nw) p.position_is ∙ ap (reported_at (record r { link = l }) p.place nw) p.there in
    subst (λ (v : Report). Keeps n r v (if_own n m (moments_of nw))) (sym whole)
    (changed n m r l p.place s (stream_reported s nw).stream (stream_reported s nw).asks (moments_of nw) h p.there p.number_is (reported_number s nw) (subst (λ (k : ℕ). AreFor k (stream_reported s nw).asks) p.number_is (reported_for s nw)) (reported_known s nw))

stream_keeps : (n m : ℕ) (r : Relay) (l : Seen) (nw : StreamNews) → Rises 0 r.streams r.last → Keeps n r (on_stream (record r { link = l }) m nw) (if_own n m (moments_of nw))
stream_keeps n m r l nw h = stream_by n m r l nw (own m r.streams) refl h

-- another stream begins
opened_keeps : (n m : ℕ) (r : Relay) (l : Seen) (fields : List Field) (end : Bool) → Rises 0 r.streams r.last → n ≤ r.last → r.last < m → Keeps n r (stream_opened (record r { link = l }) m fields end) (if_own n m (ended_by end))
opened_keeps n m r l fields end h le lt =
    let b = stream_begun m fields end in
    let d : (m == n) ≡ false = ne_eqb m n (λ e. absurd (omega (arith, e, le, lt))) in
    let number = opened_number m fields end in
    let none : asks_for n b.asks ≡ [] = for_other n m b.asks (opened_for m fields end) d in
    let other : own n (r.streams ++ b.stream ∷ []) ≡ own n r.streams =
    push_other n r.streams b.stream (ap (λ (k : ℕ). k == n) number ∙ d) in
    record {
      rises = rises_push 0 r.last m r.streams b.stream h lt number;
      last = omega (arith, lt);
      asks = λ (rest : List Moment).
          ap₂ (λ (x : List RelayAsk) (o : Option RelayStream). x ++ known o rest) none other
          ∙ ap (λ (v : Bool). known (own n r.streams) ((if v then ended_by end else []) ++ rest)) (sym d);
    }

fields_by : (n m : ℕ) (r : Relay) (l : Seen) (fields : List Field) (end b : Bool) → nat_lt r.last m ≡ b → Rises 0 r.streams r.last → n ≤ r.last → Keeps n r (if b then stream_opened (record r { link = l }) m fields end else on_stream (record r { link = l }) m (stream.Trailers end)) (if_own n m (ended_by end))
fields_by n m r l fields end true t h le = opened_keeps n m r l fields end h le (ltb-true r.last m t)
fields_by n m r l fields end false t h le = stream_keeps n m r l (stream.Trailers end) h

-- the link is broken
cancels_by : (n : ℕ) (x : RelayStream) (xs : List RelayStream) (high : ℕ) (rest : List Moment) (b : Bool) → (number_of x == n) ≡ b → Rises (number_of x) xs high → asks_for n (cancels xs) ≡ known (own n xs) (Broke ∷ rest) → asks_for n (given_up x.asking).asks ++ asks_for n (cancels xs) ≡ known (if b then Some x else own n xs) (Broke ∷ rest)
cancels_by n x xs high rest true t h afterwards =
    let own_is : number_of x ≡ n = eqb-true (number_of x) n t in
    let all : asks_for n (given_up x.asking).asks ≡ (given_up x.asking).asks =
    for_own n (given_up x.asking).asks (subst (λ (k : ℕ). AreFor k (given_up x.asking).asks) own_is (reported_for x stream.Breaks)) in
    let none : own n xs ≡ None = none_above n (number_of x) high xs h (omega (arith, own_is)) in
    let others : asks_for n (cancels xs) ≡ [] = afterwards ∙ ap (λ (o : Option RelayStream). known o (Broke ∷ rest)) none in
    ap₂ (λ (v w : List RelayAsk). v ++ w) all others
    ∙ ap (λ (w : List RelayAsk). (given_up x.asking).asks ++ w) (sym (nothing_asked x.asking.number x.asking.reader rest))
cancels_by n x xs high rest false t h afterwards =
    let none : asks_for n (given_up x.asking).asks ≡ [] = for_other n (number_of x) (given_up x.asking).asks (reported_for x stream.Breaks) t in
    ap (λ (v : List RelayAsk). v ++ asks_for n (cancels xs)) none ∙ afterwards

cancels_known : (n low high : ℕ) (xs : List RelayStream) (rest : List Moment) → Rises low xs high → asks_for n (cancels xs) ≡ known (own n xs) (Broke ∷ rest)
cancels_known n low high [] rest h = refl
cancels_known n low high (x ∷ xs) rest h =
    filter-append (λ a. stream_of a == n) (given_up x.asking).asks (cancels xs)
    ∙ cancels_by n x xs high rest (number_of x == n) refl h.1 (cancels_known n (number_of x) high xs rest h.1)

broken_keeps : (n : ℕ) (r : Relay) (l : Seen) → Rises 0 r.streams r.last → Keeps n r (record { relay = record r { link = l; streams = [] }; asks = cancels r.streams }) (Broke ∷ [])
broken_keeps n r l h = record {
  rises = omega arith;
  last = omega arith;
  asks = λ (rest : List Moment). append-nil (asks_for n (cancels r.streams)) ∙ cancels_known n 0 r.last r.streams rest h;
}

received_keeps : (n : ℕ) (r : Relay) (l : Seen) (o : Option RequestNews) → Rises 0 r.streams r.last → n ≤ r.last → Keeps n r (reported (record r { link = l }) o) (news_for n o)
received_keeps n r l None h le = keeps_still n r l h
received_keeps n r l (Some (news.Fields m fields end)) h le = fields_by n m r l fields end (nat_lt r.last m) refl h le
received_keeps n r l (Some (news.Data m octets end)) h le = stream_keeps n m r l (stream.Data octets end) h
received_keeps n r l (Some (news.Reset m code)) h le = stream_keeps n m r l stream.Breaks h
received_keeps n r l (Some (news.Fault m code)) h le = stream_keeps n m r l stream.Breaks h
received_keeps n r l (Some (news.Broken code)) h le = broken_keeps n r l h

-- an item is given
item_number : (s : RelayStream) (item : Reply) → number_of (item_given s item) ≡ number_of s
item_number s (reply.Head meta) = refl
item_number s (reply.Message octets) = refl
item_number s (reply.End code text meta cause) = refl
item_number s _ = refl

item_known : (s : RelayStream) (item : Reply) (rest : List Moment) → asking.asks_from (item_given s item).asking rest ≡ asking.asks_from s.asking (item_moments item ++ rest)
item_known s (reply.Head meta) rest = refl
item_known s (reply.Message octets) rest = refl
item_known s (reply.End code text meta cause) rest = refl
item_known s _ rest = refl

same_answered : (a : Asking) (rest : List Moment) → a.is_open ≡ false → asking.asks_from a rest ≡ asking.asks_from (answered a) rest
same_answered a rest e = ap (λ (o : Bool). asking.asks_from (record a { is_open = o }) rest) e

closed_known : (s : RelayStream) (item : Reply) (rest : List Moment) → s.asking.is_open ≡ false → asking.asks_from s.asking rest ≡ asking.asks_from s.asking (item_moments item ++ rest)
closed_known s (reply.Head meta) rest e = refl
closed_known s (reply.Message octets) rest e = refl
closed_known s (reply.End code text meta cause) rest e = same_answered s.asking rest e
closed_known s _ rest e = refl

item_open : (n m : ℕ) (r : Relay) (place : ℕ) (s : RelayStream) (item : Reply) (b : Bool) → (m == n) ≡ b → Rises 0 r.streams r.last → slice_get r.streams place ≡ Some s → number_of s ≡ m → (rest : List Moment) → known (own n (slice_set r.streams place (item_given s item))) rest ≡ known (own n r.streams) ((if b then item_moments item else []) ++ rest)
item_open n m r place s item true t h there number rest =
    let own_is : number_of s ≡ n = number ∙ eqb-true m n t in
    ap (λ (o : Option RelayStream). known o rest) (written_own n 0 r.last r.streams place s (item_given s item) there (item_number s item) own_is h)
    ∙ (item_known s item rest ∙ sym (ap (λ (o : Option RelayStream). known o (item_moments item ++ rest)) (own_at n 0 r.last r.streams place s there own_is h)))
item_open n m r place s item false t h there number rest =
    ap (λ (o : Option RelayStream). known o rest) (written_other n r.streams place s (item_given s item) there (item_number s item) (ap (λ (k : ℕ). k == n) number ∙ t))

item_closed : (n m : ℕ) (r : Relay) (place : ℕ) (s : RelayStream) (item : Reply) (b : Bool) → (m == n) ≡ b → s.asking.is_open ≡ false → Rises 0 r.streams r.last → slice_get r.streams place ≡ Some s → number_of s ≡ m → (rest : List Moment) → known (own n r.streams) rest ≡ known (own n r.streams) ((if b then item_moments item else []) ++ rest)
item_closed n m r place s item true t e h there number rest =
    let before_is : own n r.streams ≡ Some s = own_at n 0 r.last r.streams place s there (number ∙ eqb-true m n t) h in
    ap (λ (o : Option RelayStream). known o rest) before_is
    ∙ (closed_known s item rest e ∙ sym (ap (λ (o : Option RelayStream). known o (item_moments item ++ rest)) before_is))
item_closed n m r place s item false t e h there number rest = refl

item_by : (n m : ℕ) (r : Relay) (place : ℕ) (s : RelayStream) (item : Reply) (b : Bool) → s.asking.is_open ≡ b → Rises 0 r.streams r.last → slice_get r.streams place ≡ Some s → number_of s ≡ m → Keeps n r (silent (record r { streams = if b then slice_set r.streams place (item_given s item) else r.streams })) (if_own n m (item_moments item))
item_by n m r place s item true e h there number = record {
  rises = rises_written 0 r.last r.streams place s (item_given s item) there (item_number s item) h;
  last = omega arith;
  asks = item_open n m r place s item (m == n) refl h there number;
}
item_by n m r place s item false e h there number = record {
  rises = h;
  last = omega arith;
  asks = item_closed n m r place s item (m == n) refl e h there number;
}

given_as : (n m : ℕ) (r : Relay) (item : Reply) (o : Option RelayStream) → own m r.streams ≡ o → Rises 0 r.streams r.last → Keeps n r (silent (given r m item)) (if_own n m (item_moments item))
given_as n m r item None e h =
    subst (λ (v : Relay). Keeps n r (silent v) (if_own n m (item_moments item))) (sym (ap (given_by r item) (is_nowhere m r.streams e))) (missing n m r r.link (item_moments item) h e)
given_as n m r item (Some s) e h =
    let p = is_at m r.streams s e in
    let whole : given r m item ≡ given_at r p.place item (Some s) = ap (given_by r item) p.position_is ∙ ap (given_at r p.place item) p.there in
    subst (λ (v : Relay). Keeps n r (silent v) (if_own n m (item_moments item))) (sym whole) (item_by n m r p.place s item s.asking.is_open refl h p.there p.number_is)

-- a frame is sent
none_own : (n m : ℕ) (o : Option RelayStream) (rest : List Moment) (b : Bool) → known o ((if b then [] else []) ++ rest) ≡ known o rest
none_own n m o rest true = refl
none_own n m o rest false = refl

sent_as : (n : ℕ) (r : Relay) (place : ℕ) (s : RelayStream) (o : Option ℕ) → Rises 0 r.streams r.last → slice_get r.streams place ≡ Some s → Keeps n r (silent (stepped_relay r (step_as r place s o))) []
sent_as n r place s None h there = keeps_still n r r.link h
sent_as n r place s (Some room) h there =
    let x = sent r.link.wire s in
    let k = changed n (number_of s) r (record r.link { wire = x.wire }) place s x.stream [] [] h there refl refl tt (λ (rest : List Moment). refl) in
    record { rises = k.rises; last = k.last; asks = λ (rest : List Moment). k.asks rest ∙ none_own n (number_of s) (own n r.streams) rest (number_of s == n) }

sent_at : (n : ℕ) (r : Relay) (place : ℕ) (o : Option RelayStream) → slice_get r.streams place ≡ o → Rises 0 r.streams r.last → Keeps n r (silent (stepped_relay r (step_at r place o))) []
sent_at n r place None e h = keeps_still n r r.link h
sent_at n r place (Some s) e h = sent_as n r place s (room_of r.link.wire s.asking.number s.answer) h e

sent_stream : (n : ℕ) (r : Relay) (o : Option ℕ) → Rises 0 r.streams r.last → Keeps n r (silent (stepped_relay r (stream_step r o))) []
sent_stream n r None h = keeps_still n r r.link h
sent_stream n r (Some place) h = sent_at n r place (slice_get r.streams place) refl h

sent_next : (n : ℕ) (r : Relay) (o : Option sends.Sent) → Rises 0 r.streams r.last → Keeps n r (silent (stepped_relay r (next_by r o))) []
sent_next n r None h = sent_stream n r (position (may_send r.link.wire) r.streams) h
sent_next n r (Some s) h = keeps_still n r (record r.link { wire = s.wire }) h

event_keeps : (n : ℕ) (r : Relay) (e : Event) → Rises 0 r.streams r.last → n ≤ r.last → Keeps n r (happened r e) (event_for n e)
event_keeps n r (Receives h) rises le = received_keeps n r h.link h.news rises le
event_keeps n r (Gives m item) rises le = given_as n m r item (own m r.streams) refl rises
event_keeps n r Sends rises le = sent_next n r (next_control r.link.wire) rises

nothing_known : (o : Option RelayStream) → [] ≡ known o []
nothing_known None = refl
nothing_known (Some s) = refl

-- all that happens
all_known : (n : ℕ) (es : List Event) (r : Relay) → Rises 0 r.streams r.last → n ≤ r.last → asks_for n (asks_from r es) ≡ known (own n r.streams) (moments_for n es)
all_known n [] r h le = nothing_known (own n r.streams)
all_known n (e ∷ es) r h le =
    let t = happened r e in
    let k = event_keeps n r e h le in
    let last = k.last in
    filter-append (λ a. stream_of a == n) t.asks (asks_from t.relay es)
    ∙ (ap (λ (l : List RelayAsk). asks_for n t.asks ++ l) (all_known n es t.relay k.rises (omega (arith, le, last)))
    ∙ k.asks (moments_for n es))

all_rises : (es : List Event) (r : Relay) → Rises 0 r.streams r.last → Rises 0 (after r es).streams (after r es).last
all_rises [] r h = h
all_rises (e ∷ es) r h = let k = event_keeps 0 r e h (omega arith) in all_rises es (happened r e).relay k.rises

none_in : (n low high : ℕ) (xs : List RelayStream) → Rises low xs high → high < n → own n xs ≡ None
none_in n low high [] h lt = refl
none_in n low high (x ∷ xs) h lt =
    let most = rises_most (number_of x) high xs h.1 in
    let test : (number_of x == n) ≡ false = ne_eqb (number_of x) n (λ e. absurd (omega (arith, e, most, lt))) in
    rw test (none_in n (number_of x) high xs h.1 lt)

pub rising : (before : List Event) → Rises 0 (after fresh_relay before).streams (after fresh_relay before).last
rising before = all_rises before fresh_relay (omega arith)

-- of a stream that begins
pub apart : (before events : List Event) (h : Receiving) (n : ℕ) (fields : List Field) (end : Bool) → (after fresh_relay before).last < n → h.news ≡ Some (news.Fields n fields end) → asks_for n (asks_from (after fresh_relay before) (Receives h ∷ events)) ≡ (begun n fields).asks ++ asking.asks_from (begun n fields).stream (ended_by end ++ moments_for n events)
apart before events h n fields end lt e =
    let r = after fresh_relay before in
    let rises = rising before in
    let q : Relay = record r { link = h.link } in
    let b = stream_begun n fields end in
    let t = stream_opened q n fields end in
    let test : nat_lt r.last n ≡ true = lt-ltb r.last n lt in
    let whole : reported q h.news ≡ t = ap (reported q) e ∙ ap (λ (v : Bool). if v then t else on_stream q n (stream.Trailers end)) test in
    let number = opened_number n fields end in
    let none : own n r.streams ≡ None = none_in n 0 r.last r.streams rises lt in
    let own_is : own n t.relay.streams ≡ Some b.stream = push_own n r.streams b.stream none number in
    let rest = all_known n events t.relay (rises_push 0 r.last n r.streams b.stream rises lt number) (omega arith) in
    let all : asks_for n b.asks ≡ b.asks = for_own n b.asks (opened_for n fields end) in
    ap (λ (v : Report). asks_for n (v.asks ++ asks_from v.relay events)) whole
    ∙ (filter-append (λ a. stream_of a == n) b.asks (asks_from t.relay events)
    ∙ (ap₂ (λ (x y : List RelayAsk). x ++ y) all (rest ∙ ap (λ (o : Option RelayStream). known o (moments_for n events)) own_is)
    ∙ opened_known n fields end (moments_for n events)))
