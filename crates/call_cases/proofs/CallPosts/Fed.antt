-- What links are fed with, once an application posted something to a call: each attempt on a link has the line that its call has then; and the responses are the same.
use Rattle.call_actions.proofs.Lists.{changed_away, changed_map}
use Rattle.call_cases.proofs.CallPosts.Report.{f, p, s, t}
use Rattle.channel_actions.proofs.Lines.{AtPlace, all_at_places, all_filter, all_sorted}
use Rattle.channel_actions.specs.Links.{HasLink, IsGoing, line_of, lines_in, no_line}
use Rattle.channel_actions.specs.Readers.{IsReaderOf, attempt_on}
use Rattle.channel_core.specs.States.{StateSeen}
use Rattle.grpc_base.specs.declared.event.Reply.{Reply}
use Rattle.grpc_link.specs.Links.{reader_in}
use Rattle.grpc_link.specs.Readers.{ReaderSeen}
use Rattle.h2_link.specs.Feeds.{Line}
use Rattle.h2_link.specs.Wire.{Wire}
use Rattle.h2_link.specs.declared.live.LiveStream.{LiveStream}
use Rattle.channel_actions.specs.KeptSessions.Kept.{NumbersCountUp}
use Rattle.link_actions.specs.Sees.{StreamsAreFed, StreamsAreLive, IsFed, SeesLink, WaitFed, by_stream, written_for}
use Rattle.session_actions.specs.Attempts.{call_of}
use Rattle.session_actions.specs.Responses.{limit_of_attempt, response, response_in}
use Rattle.session_actions.specs.Words.{changed, numbered}
use Rattle.session_actions.specs.Writing.{accepted_bytes, streaming_on, waiting_on}
use Rattle.session_actions.specs.declared.attempt.Attempt.{Attempt}
use Rattle.session_actions.specs.declared.call.Call.{Call}
use Rattle.session_actions.specs.declared.entry.OpenEntry.{OpenEntry}
use Rattle.session_actions.specs.declared.link.Link.{Link}
use Rattle.session_actions.specs.declared.response.Response.{Response}
use Rattle.session_actions.specs.declared.seen.Seen.{Seen}
use Rattle.channel_core.specs.declared.state.links.LinkSlot.{LinkSlot}
use Rattle.std.proofs.Common.{Bool, List, None, Option, Some, [], ap, arith, eqb-true, false, is_some, map, option_map, refl, subst, sym, true, ℕ, ◌==◌, ◌∙◌, ◌∷◌, ◌≡◌, ◌≤◌}
use Rattle.std.proofs.lemmas.Bool.{eqb-false}
use Rattle.std.specs.List.{AllByRecursion}
use Rattle.std.specs.Option.{option_map_or}
use Rattle.link_actions.specs.StreamActions.Sees.{ResponsesAreReceived, IsReceived, SeesStreams}
use Rattle.call_actions.proofs.TakeActions.Retold as before

-- the call of an attempt, that one or another
pub record HasCall (f : Call → Call) (calls : List Call) (k : ℕ) (c : Call) : Type 0 where
  pub call : Call
  pub at : numbered calls k ≡ Some call
  pub more : accepted_bytes c ≤ accepted_bytes call

reported_by : (f : Call → Call) → ((c : Call) → accepted_bytes c ≤ accepted_bytes (f c)) → (n k : ℕ) (calls : List Call) (c : Call) (b : Bool) → (k == n) ≡ b
    → numbered calls k ≡ Some c → HasCall f (changed f n calls) k c
reported_by f grows n k calls c true e got =
    let same : k ≡ n = eqb-true k n e in
    record {
      call = f c;
      at = ap (numbered (changed f n calls)) same ∙ changed_map f n calls ∙ ap (λ (j : ℕ). option_map f (numbered calls j)) (sym same) ∙ ap (option_map f) got;
      more = grows c;
    }
reported_by f grows n k calls c false e got = record {
  call = c;
  at = changed_away f n k calls (eqb-false k n e) ∙ got;
  more = omega arith;
}

less_on : (a b c : ℕ) → a ≤ b → b ≤ c → a ≤ c
less_on a b c p q = omega (arith, p, q)

module _ (s0 : Seen) (o : OpenEntry) (r : Reply) (c : Call) (messages : Call → List (List ℕ)) (finished : Call → Bool) (taken : Call → ℕ) (end_taken : Call → Bool)
    (grows : (d : Call) → accepted_bytes d ≤ accepted_bytes (f s0 o r c messages finished taken end_taken d)) where
  abbrev g : Call → Call
  g d = f s0 o r c messages finished taken end_taken d

  abbrev u : Seen
  u = s s0 o r c messages finished taken end_taken

  abbrev v : Seen
  v = t s0 o r c messages finished taken end_taken

  -- the limits and the responses
  limit_reported : (a : Attempt) → limit_of_attempt a v ≡ limit_of_attempt a u
  limit_reported a = before.limit_same u c messages finished taken end_taken (Some (p s0 o r c messages finished taken end_taken)) a

  pub response_reported : (a : Attempt) → response a v ≡ response a u
  response_reported a = before.response_same u c messages finished taken end_taken (Some (p s0 o r c messages finished taken end_taken)) a

  -- readers
  pub reader_reported : (a : Option Attempt) (k : Option ReaderSeen) → IsReaderOf u a k → IsReaderOf v a k
  reader_reported None None h = tt
  reader_reported (Some a) (Some k) h = record {
    opened = h.opened;
    head = ap (λ (q : Response). is_some q.head) (response_reported a) ∙ h.head;
    over = h.over;
    limit = limit_reported a ∙ h.limit;
    rest = ap (λ (q : Response). q.rest) (response_reported a) ∙ h.rest;
    whole = h.whole;
  }
  reader_reported None (Some k) h = absurd h
  reader_reported (Some a) None h = absurd h

  module _ (l : Link) where
    -- what each attempt is fed with
    line_at : (a : Attempt) (d : Call) (row : ℕ) → row ≡ a.place → AtPlace s0.attempts a → numbered v.calls a.row.call ≡ Some d → lines_in l v row ≡ line_of l v a d
    line_at a d row e at of =
        ap (λ (z : Option Attempt). option_map_or (λ (q : Attempt). option_map_or (line_of l v q) (call_of q v) no_line) z no_line) (ap (numbered s0.attempts) e ∙ at)
        ∙ ap (λ (z : Option Call). option_map_or (line_of l v a) z no_line) of

    fed_one : (a : Attempt) (row : ℕ) (line : Line) → row ≡ a.place → AtPlace s0.attempts a → IsFed l u a line → IsFed l v a (lines_in l v row)
    fed_one a row line e at h =
        let k : HasCall g v.calls a.row.call h.call = reported_by g grows c.number a.row.call s0.calls h.call (a.row.call == c.number) refl h.call_is in
        let own : IsFed l v a (line_of l v a k.call)
        = record { call = k.call; call_is = k.at; fields = refl; written = less_on (written_for l a) (accepted_bytes h.call) (accepted_bytes k.call) h.written k.more; left = refl; finished = refl } in
        subst (IsFed l v a) (sym (line_at a k.call row e at k.at)) own

    fed_all : (feed : ℕ → Line) (xs : List LiveStream) (as_ : List Attempt) → StreamsAreLive l xs as_ → AllByRecursion (AtPlace s0.attempts) as_ → StreamsAreFed l u feed xs as_
        → StreamsAreFed l v (lines_in l v) xs as_
    fed_all feed [] [] live at fed = tt
    fed_all feed (x ∷ xs) (a ∷ as_) live at fed = (fed_one a x.tag (feed x.tag) live.0.tag at.0 fed.0, fed_all feed xs as_ live.1 at.1 fed.1)
    fed_all feed [] (a ∷ as_) live at fed = absurd fed
    fed_all feed (x ∷ xs) [] live at fed = absurd fed

    wait_all : (feed : ℕ → Line) (as_ : List Attempt) → AllByRecursion (AtPlace s0.attempts) as_ → WaitFed l u feed as_ → WaitFed l v (lines_in l v) as_
    wait_all feed [] at fed = tt
    wait_all feed (a ∷ as_) at fed = (fed_one a a.place (feed a.place) refl at.0 fed.0, wait_all feed as_ at.1 fed.1)

    -- what came on each stream
    received_one : (x : LiveStream) (a : Attempt) → IsReceived l u x a → IsReceived l v x a
    received_one x a h =
        let same : response_in (limit_of_attempt a v) x.number l.traffic ≡ response_in (limit_of_attempt a u) x.number l.traffic
        = ap (λ (limit : ℕ). response_in limit x.number l.traffic) (limit_reported a) in
        record {
          head = h.head ∙ sym (ap (λ (q : Response). is_some q.head) same);
          goes = ap (λ (q : Response). q.end) same ∙ h.goes;
          small = ap (λ (q : Response). q.large) same ∙ h.small;
        }

    received_all : (xs : List LiveStream) (as_ : List Attempt) → ResponsesAreReceived l u xs as_ → ResponsesAreReceived l v xs as_
    received_all [] [] h = tt
    received_all (x ∷ xs) (a ∷ as_) h = (received_one x a h.0, received_all xs as_ h.1)
    received_all [] (a ∷ as_) h = absurd h
    received_all (x ∷ xs) [] h = absurd h

    pub streams_reported : (w : Wire) → NumbersCountUp 1 (map (λ (a : Attempt). a.place) s0.attempts) → SeesStreams l u w (lines_in l u) → SeesStreams l v w (lines_in l v)
    streams_reported w counted h =
        let k = h.sees in
        let at : AllByRecursion (AtPlace s0.attempts) s0.attempts = all_at_places s0.attempts counted in
        let streaming : AllByRecursion (AtPlace s0.attempts) (by_stream (streaming_on l u)) = all_sorted (AtPlace s0.attempts) (streaming_on l u) (all_filter (AtPlace s0.attempts) _ _ (all_filter (AtPlace s0.attempts) _ s0.attempts at)) in
        let waiting : AllByRecursion (AtPlace s0.attempts) (waiting_on l u) = all_filter (AtPlace s0.attempts) _ _ (all_filter (AtPlace s0.attempts) _ s0.attempts at) in
        let moved : SeesLink l v w (lines_in l v) = record {
          at = k.at;
          sees = record { reads = k.sees.reads; live = k.sees.live };
          owes = k.owes;
          waits = k.waits;
          fed = fed_all (lines_in l u) w.live (by_stream (streaming_on l u)) k.sees.live streaming k.fed;
          wait_fed = wait_all (lines_in l u) (waiting_on l u) waiting k.wait_fed;
          opened = k.opened;
          fresh = k.fresh;
          tags = k.tags;
          places = k.places;
        } in
        record { sees = moved; handled = received_all w.live (by_stream (streaming_on l u)) h.handled; unreceived = h.unreceived; begun = h.begun }

  -- so the link of a number agrees, where the channel left it
  pub link_reported : (x y : StateSeen) (k : ℕ) (l : Link) → y.links ≡ x.links → NumbersCountUp 1 (map (λ (a : Attempt). a.place) s0.attempts) → HasLink x u l k → HasLink y v l k
  link_reported x y k l same counted h = record {
    slot = h.slot;
    there = ap (λ (ls : List LinkSlot). numbered ls k) same ∙ h.there;
    sees = record {
      over = h.sees.over;
      retiring = h.sees.retiring;
      going = λ goes. let q : IsGoing l u h.slot = h.sees.going goes in record {
        streams = streams_reported l h.slot.link.link.wire counted q.streams;
        readers = record { each = λ row. reader_reported (attempt_on l u row) (reader_in row h.slot.link.readers) (q.readers.each row); distinct = q.readers.distinct };
        rest = q.rest;
        closed = q.closed;
      };
    };
  }
