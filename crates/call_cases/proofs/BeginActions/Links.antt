-- A call that begins is of no attempt: each link of the channel agrees as before, with its streams, its readers and what attempts are fed with.
use Rattle.call_cases.proofs.BeginActions.New.{before, later, new_call}
use Rattle.channel_actions.specs.Links.{HasLink, IsGoing, SeesLinks, line_of, lines_in, no_line}
use Rattle.channel_actions.specs.Readers.{IsReaderOf, attempt_on}
use Rattle.channel_core.specs.States.{StateSeen}
use Rattle.channel_core.specs.declared.state.links.LinkSlot.{LinkSlot}
use Rattle.grpc_base.specs.Limits.{message_limit}
use Rattle.grpc_base.specs.Requests.{RequestSeen}
use Rattle.grpc_link.specs.Links.{reader_in}
use Rattle.grpc_link.specs.Readers.{ReaderSeen}
use Rattle.h2_link.specs.Feeds.{Line}
use Rattle.h2_link.specs.Wire.{Wire}
use Rattle.h2_link.specs.declared.live.LiveStream.{LiveStream}
use Rattle.channel_actions.proofs.KeptSessions.Lists.{all_at, get_more}
use Rattle.link_actions.specs.Sees.{StreamsAreFed, IsFed, SeesLink, by_stream}
use Rattle.session_actions.specs.Attempts.{call_of}
use Rattle.session_actions.specs.Configs.{chosen_of}
use Rattle.session_actions.specs.Links.{link_of}
use Rattle.session_actions.specs.Reading.{is_outstanding_on}
use Rattle.session_actions.specs.Responses.{limit_of_attempt, no_response, response, response_by, response_in, traffic_of}
use Rattle.session_actions.specs.Words.{numbered}
use Rattle.session_actions.specs.Writing.{streaming_on, waiting_on}
use Rattle.session_actions.specs.declared.attempt.Attempt.{Attempt}
use Rattle.session_actions.specs.declared.call.Call.{Call}
use Rattle.session_actions.specs.declared.entry.OpenEntry.{OpenEntry}
use Rattle.session_actions.specs.declared.link.Link.{Link}
use Rattle.session_actions.specs.declared.response.Response.{Response}
use Rattle.session_actions.specs.declared.seen.Seen.{Seen}
use Rattle.std.proofs.Common.{Bool, List, None, Option, Some, [], ap, false, if◌then◌else◌, is_some, length, option_and_then, refl, subst, suc, sym, true, zero, ℕ, ◌++◌, ◌∙◌, ◌∷◌, ◌≡◌}
use Rattle.std.proofs.Math.Path.{fun_ext}
use Rattle.std.specs.List.{AllByRecursion, list_all}
use Rattle.std.specs.Option.{option_map_or}
use Rattle.link_actions.specs.StreamActions.Sees.{ResponsesAreReceived, IsReceived, SeesStreams, response_of}

more_calls : {X : Type 0} (xs : List X) (y x : X) (k : ℕ) → numbered xs k ≡ Some x → numbered (xs ++ y ∷ []) k ≡ Some x
more_calls xs y x zero e = absurd (cc)
more_calls xs y x (suc i) e = get_more xs (y ∷ []) i x e

all_map : {X : Type 0} (P Q : X → Type 0) → ((x : X) → P x → Q x) → (xs : List X) → AllByRecursion P xs → AllByRecursion Q xs
all_map P Q f [] h = tt
all_map P Q f (x ∷ xs) h = (f x h.0, all_map P Q f xs h.1)

module _ (o : OpenEntry) (z : Seen) (request : RequestSeen) (owned : list_all (λ (a : Attempt). is_some (call_of a (before o z request))) z.attempts ≡ true) where
  abbrev s : Seen
  s = before o z request

  abbrev t : Seen
  t = later o z request

  abbrev c : Call
  c = new_call o z request

  call_by : (k : ℕ) (q : Option Call) → numbered z.calls k ≡ q → is_some q ≡ true → numbered (z.calls ++ c ∷ []) k ≡ numbered z.calls k
  call_by k None got there = absurd (cc)
  call_by k (Some d) got there = more_calls z.calls c d k got ∙ sym got

  call_same : (a : Attempt) → is_some (call_of a s) ≡ true → call_of a t ≡ call_of a s
  call_same a there = call_by a.row.call (numbered z.calls a.row.call) refl there

  limit_same : (a : Attempt) → is_some (call_of a s) ≡ true → limit_of_attempt a t ≡ limit_of_attempt a s
  limit_same a there = ap (λ (q : Option Call). option_map_or (λ (d : Call). (chosen_of d s).response) q message_limit) (call_same a there)

  -- one link
  module _ (l : Link) where
    response_same : (stream : ℕ) (a : Attempt) → is_some (call_of a s) ≡ true → response_of l t stream a ≡ response_of l s stream a
    response_same stream a there = ap (λ (m : ℕ). response_in m stream l.traffic) (limit_same a there)

    fed_one : (a : Attempt) (line : Line) → IsFed l s a line → IsFed l t a line
    fed_one a line q = record {
      call = q.call;
      call_is = more_calls z.calls c q.call a.row.call q.call_is;
      fields = q.fields;
      written = q.written;
      left = q.left;
      finished = q.finished;
    }

    fed_all : (f : ℕ → Line) (xs : List LiveStream) (as_ : List Attempt) → StreamsAreFed l s f xs as_ → StreamsAreFed l t f xs as_
    fed_all f [] [] q = tt
    fed_all f (x ∷ xs) (a ∷ as_) q = (fed_one a (f x.tag) q.0, fed_all f xs as_ q.1)
    fed_all f [] (a ∷ as_) q = absurd q
    fed_all f (x ∷ xs) [] q = absurd q

    received_one : (x : LiveStream) (a : Attempt) → is_some (call_of a s) ≡ true → IsReceived l s x a → IsReceived l t x a
    received_one x a there q = record {
      head = q.head ∙ sym (ap (λ (p : Response). is_some p.head) (response_same x.number a there));
      goes = ap (λ (p : Response). p.end) (response_same x.number a there) ∙ q.goes;
      small = ap (λ (p : Response). p.large) (response_same x.number a there) ∙ q.small;
    }

    received_all : (f : ℕ → Line) (xs : List LiveStream) (as_ : List Attempt) → StreamsAreFed l s f xs as_ → ResponsesAreReceived l s xs as_ → ResponsesAreReceived l t xs as_
    received_all f [] [] fed q = tt
    received_all f (x ∷ xs) (a ∷ as_) fed q = (received_one x a (ap (λ (d : Option Call). is_some d) fed.0.call_is) q.0, received_all f xs as_ fed.1 q.1)
    received_all f [] (a ∷ as_) fed q = absurd q
    received_all f (x ∷ xs) [] fed q = absurd q

    streams_still : (v : Wire) (f : ℕ → Line) → SeesStreams l s v f → SeesStreams l t v f
    streams_still v f q =
        let old = q.sees in
        let new : SeesLink l t v f = record {
          at = old.at;
          sees = record { reads = old.sees.reads; live = old.sees.live };
          owes = old.owes;
          waits = old.waits;
          fed = fed_all f v.live (by_stream (streaming_on l s)) old.fed;
          wait_fed = all_map (λ (a : Attempt). IsFed l s a (f a.place)) (λ (a : Attempt). IsFed l t a (f a.place)) (λ a e. fed_one a (f a.place) e) (waiting_on l s) old.wait_fed;
          opened = old.opened;
          fresh = old.fresh;
          tags = old.tags;
          places = old.places;
        } in
        record { sees = new; handled = received_all f v.live (by_stream (streaming_on l s)) old.fed q.handled; unreceived = q.unreceived; begun = q.begun }

    -- what attempts are fed with
    line_by : (q : Option Attempt) → ((a : Attempt) → q ≡ Some a → is_some (call_of a s) ≡ true)
        → option_map_or (λ (a : Attempt). option_map_or (line_of l t a) (call_of a t) no_line) q no_line
        ≡ option_map_or (λ (a : Attempt). option_map_or (line_of l s a) (call_of a s) no_line) q no_line
    line_by None there = refl
    line_by (Some a) there = ap (λ (d : Option Call). option_map_or (line_of l s a) d no_line) (call_same a (there a refl))

    line_same : (row : ℕ) → lines_in l s row ≡ lines_in l t row
    line_same row = sym (line_by (numbered z.attempts row) (λ a got. all_at (λ (q : Attempt). is_some (call_of q s)) z.attempts row a owned got))

    -- the readers
    reader_by : (a : Attempt) → is_some (call_of a s) ≡ true → (stream : Option ℕ) → response_by a t stream ≡ response_by a s stream
    reader_by a there None = refl
    reader_by a there (Some stream) =
        ap (λ (m : ℕ). option_map_or (λ (k : Link). response_in m stream (traffic_of a k.traffic)) (link_of a s) no_response) (limit_same a there)

    reader_same : (a : Attempt) → is_some (call_of a s) ≡ true → response a t ≡ response a s
    reader_same a there = reader_by a there a.row.stream

    reader_one : (q : Option Attempt) → ((a : Attempt) → q ≡ Some a → is_some (call_of a s) ≡ true) → (r : Option ReaderSeen) → IsReaderOf s q r → IsReaderOf t q r
    reader_one None there None k = tt
    reader_one (Some a) there (Some r) k =
        let same : response a t ≡ response a s = reader_same a (there a refl) in
        record {
          opened = k.opened;
          head = ap (λ (p : Response). is_some p.head) same ∙ k.head;
          over = k.over;
          limit = limit_same a (there a refl) ∙ k.limit;
          rest = ap (λ (p : Response). p.rest) same ∙ k.rest;
          whole = k.whole;
        }
    reader_one None there (Some r) k = absurd k
    reader_one (Some a) there None k = absurd k

    on_if : (b a : Attempt) (on : Bool) → is_some (call_of b s) ≡ true → (if on then Some b else None) ≡ Some a → is_some (call_of a s) ≡ true
    on_if b a false there got = absurd (cc)
    on_if b a true there got = let one : b ≡ a = (cc) in ap (λ (v : Attempt). is_some (call_of v s)) (sym one) ∙ there

    on_by : (q : Option Attempt) (a : Attempt) → ((b : Attempt) → q ≡ Some b → is_some (call_of b s) ≡ true)
        → option_and_then (λ (b : Attempt). if is_outstanding_on l b then Some b else None) q ≡ Some a → is_some (call_of a s) ≡ true
    on_by None a there got = absurd (cc)
    on_by (Some b) a there got = on_if b a (is_outstanding_on l b) (there b refl) got

    going : (slot : LinkSlot) → IsGoing l s slot → IsGoing l t slot
    going slot g = record {
      streams = subst (SeesStreams l t slot.link.link.wire) (fun_ext line_same) (streams_still slot.link.link.wire (lines_in l s) g.streams);
      readers = record {
        each = λ row.
            reader_one (attempt_on l s row) (λ a got. on_by (numbered z.attempts row) a (λ b at. all_at (λ (q : Attempt). is_some (call_of q s)) z.attempts row b owned at) got)
            (reader_in row slot.link.readers) (g.readers.each row);
        distinct = g.readers.distinct;
      };
      rest = g.rest;
      closed = g.closed;
    }

    pub link_still : (x y : StateSeen) (number : ℕ) → y.links ≡ x.links → HasLink x s l number → HasLink y t l number
    link_still x y number same k = record {
      slot = k.slot;
      there = ap (λ (ls : List LinkSlot). numbered ls number) same ∙ k.there;
      sees = record { over = k.sees.over; retiring = k.sees.retiring; going = λ goes. going k.slot (k.sees.going goes) };
    }

  pub links_still : (x y : StateSeen) → y.links ≡ x.links → SeesLinks x s → SeesLinks y t
  links_still x y same h = record {
    count = h.count ∙ sym (ap (λ (ls : List LinkSlot). length ls) same);
    each = λ number l got. link_still l x y number same (h.each number l got);
  }
