-- A link that sees no difference agrees with the session as before: its streams, and what they are fed with.
use Rattle.std.proofs.Common.{◌≡◌, ◌∷◌, ap, refl, subst, sym, ◌∙◌, true, false, List, [], Some, ℕ, filter, is_none, is_some}
use Rattle.std.specs.List.{AllByRecursion, list_all}
use Rattle.channel_actions.specs.Links.{lines_in}
use Rattle.h2_frame.specs.Frames.{FrameSeen}
use Rattle.h2_link.specs.Feeds.{Line}
use Rattle.h2_link.specs.Wire.{Wire}
use Rattle.h2_link.specs.declared.live.LiveStream.{LiveStream}
use Rattle.link_actions.specs.Sees.{StreamsAreFed, StreamsAreLive, AttemptsStandInPlace, IsFed, SeesLink, SeesOwed, SeesRead, by_stream}
use Rattle.channel_actions.proofs.Links.Frames.Pairs.{AtPlace, InStep, IsPair, on_step, pair_fed, pair_place, pair_stream}
use Rattle.channel_actions.proofs.Links.Frames.Steps as step
use Rattle.channel_actions.specs.LinkFrames.Alike.{AttemptsAreAlike, Numbers, is_on}
use Rattle.session_actions.specs.Attempts.{call_of}
use Rattle.session_actions.specs.Responses.{response_in}
use Rattle.session_actions.specs.Words.{numbered}
use Rattle.session_actions.specs.Writing.{streaming_on, waiting_on}
use Rattle.session_actions.specs.declared.attempt.Attempt.{Attempt}
use Rattle.session_actions.specs.declared.link.Link.{Link}
use Rattle.session_actions.specs.declared.link.Traffic.{Traffic}
use Rattle.session_actions.specs.declared.response.Response.{Response}
use Rattle.session_actions.specs.declared.seen.Seen.{Seen}
use Rattle.link_actions.specs.SteadyLinks.Same.{IsSameLink}
use Rattle.link_actions.specs.StreamActions.Sees.{ResponsesAreReceived, IsReceived, SeesStreams, response_of}

-- the link with what may differ from the other
abbrev like : Link → Link → Link
like l m = record l { sub = m.sub; up = m.up; received = m.received; over = m.over; gone = m.gone }

is_like : (l m : Link) → IsSameLink l m → m ≡ like l m
is_like l m is =
    ap (λ (n : ℕ). record m { number = n }) is.number
    ∙ ap (λ (ts : List Traffic). record m { number = l.number; traffic = ts }) is.traffic_
    ∙ ap (λ (fs : List FrameSeen). record m { number = l.number; traffic = l.traffic; owed = fs }) is.owed

module _ (l m : Link) (s t : Seen) where
  abbrev n : Link
  n = like l m

  -- what was read and what is owed
  reads_still : (w : Wire) → SeesRead l w → SeesRead n w
  reads_still w is = record {
    whole = is.whole;
    read = is.read;
    ready = is.ready;
    retiring = is.retiring;
    limit = is.limit;
    initial = is.initial;
    window = is.window;
    opened = is.opened;
    block = is.block;
    table = is.table;
  }

  owes_still : (w : Wire) → SeesOwed l w → SeesOwed n w
  owes_still w is = record { queue = is.queue; names = is.names; resizes = is.resizes; written = is.written; answered = is.answered }

  -- streams
  live_still : (xs : List LiveStream) (as_ bs : List Attempt) → InStep s t as_ bs → StreamsAreLive l xs as_ → StreamsAreLive n xs bs
  live_still [] [] [] step are = tt
  live_still (x ∷ xs) (a ∷ as_) (b ∷ bs) step are = (
    record {
      stream = step.0.stream ∙ are.0.stream;
      some = are.0.some;
      tag = are.0.tag ∙ sym step.0.place;
      finished = are.0.finished;
      credit = are.0.credit;
    },
    live_still xs as_ bs step.1 are.1,
  )
  live_still [] [] (b ∷ bs) step are = absurd step
  live_still [] (a ∷ as_) bs step are = absurd are
  live_still (x ∷ xs) [] bs step are = absurd are
  live_still (x ∷ xs) (a ∷ as_) [] step are = absurd step

  fed_still : (g : ℕ → Line) (xs : List LiveStream) (as_ bs : List Attempt) → InStep s t as_ bs → StreamsAreLive l xs as_ → StreamsAreFed l s g xs as_ → StreamsAreFed n t (lines_in n t) xs bs
  fed_still g [] [] [] step are fed = tt
  fed_still g (x ∷ xs) (a ∷ as_) (b ∷ bs) step are fed = (
    subst (λ (k : ℕ). IsFed n t b (lines_in n t k)) (step.0.place ∙ sym are.0.tag) (pair_fed l n s t a b (g x.tag) refl step.0 fed.0),
    fed_still g xs as_ bs step.1 are.1 fed.1,
  )
  fed_still g [] [] (b ∷ bs) step are fed = absurd step
  fed_still g [] (a ∷ as_) bs step are fed = absurd are
  fed_still g (x ∷ xs) [] bs step are fed = absurd are
  fed_still g (x ∷ xs) (a ∷ as_) [] step are fed = absurd step

  wait_still : (g : ℕ → Line) (as_ bs : List Attempt) → InStep s t as_ bs → AllByRecursion (λ (a : Attempt). IsFed l s a (g a.place)) as_
      → AllByRecursion (λ (b : Attempt). IsFed n t b (lines_in n t b.place)) bs
  wait_still g [] [] step fed = tt
  wait_still g (a ∷ as_) (b ∷ bs) step fed = (pair_fed l n s t a b (g a.place) refl step.0 fed.0, wait_still g as_ bs step.1 fed.1)
  wait_still g [] (b ∷ bs) step fed = absurd step
  wait_still g (a ∷ as_) [] step fed = absurd step

  one_received : (x : LiveStream) (a b : Attempt) → response_of n t x.number b ≡ response_of l s x.number a → IsReceived l s x a → IsReceived n t x b
  one_received x a b same is = record {
    head = is.head ∙ ap (λ (p : Response). is_some p.head) (sym same);
    goes = ap (λ (p : Response). p.end) same ∙ is.goes;
    small = ap (λ (p : Response). p.large) same ∙ is.small;
  }

  received_still : (xs : List LiveStream) (as_ bs : List Attempt) → InStep s t as_ bs → ResponsesAreReceived l s xs as_ → ResponsesAreReceived n t xs bs
  received_still [] [] [] step are = tt
  received_still (x ∷ xs) (a ∷ as_) (b ∷ bs) step are = (
    one_received x a b (ap (λ (k : ℕ). response_in k x.number l.traffic) step.0.limit) are.0,
    received_still xs as_ bs step.1 are.1,
  )
  received_still [] [] (b ∷ bs) step are = absurd step
  received_still [] (a ∷ as_) bs step are = absurd are
  received_still (x ∷ xs) [] bs step are = absurd are
  received_still (x ∷ xs) (a ∷ as_) [] step are = absurd step

  -- the link
  module _ (touched : Numbers) (apart : touched l.number ≡ false) (owned : list_all (λ (a : Attempt). is_some (call_of a s)) s.attempts ≡ true)
      (places : AllByRecursion (AtPlace t) t.attempts) (alike : AttemptsAreAlike touched s t s.attempts t.attempts) where
    out : InStep s t (filter (is_on l.number) s.attempts) (filter (is_on l.number) t.attempts)
    out = on_step touched s t l.number apart s.attempts t.attempts owned places alike

    streaming_ : InStep s t (streaming_on l s) (streaming_on n t)
    streaming_ =
        step.chosen_step (IsPair s t) (pair_place s t) (pair_stream s t) (λ o. is_some o) (filter (is_on l.number) s.attempts) (filter (is_on l.number) t.attempts) out

    waiting_ : InStep s t (waiting_on l s) (waiting_on n t)
    waiting_ =
        step.chosen_step (IsPair s t) (pair_place s t) (pair_stream s t) (λ o. is_none o) (filter (is_on l.number) s.attempts) (filter (is_on l.number) t.attempts) out

    sorted_ : InStep s t (by_stream (streaming_on l s)) (by_stream (streaming_on n t))
    sorted_ = step.sorted_step (IsPair s t) (pair_place s t) (pair_stream s t) (streaming_on l s) (streaming_on n t) streaming_

    link_still : (w : Wire) (g : ℕ → Line) → SeesLink l s w g → numbered t.links l.number ≡ Some n → AttemptsStandInPlace 1 t.attempts → SeesLink n t w (lines_in n t)
    link_still w g is at placed = record {
      at = at;
      sees = record {
        reads = reads_still w is.sees.reads;
        live = live_still w.live (by_stream (streaming_on l s)) (by_stream (streaming_on n t)) sorted_ is.sees.live;
      };
      owes = owes_still w is.owes;
      waits = is.waits ∙ sym (step.same_places (IsPair s t) (pair_place s t) (pair_stream s t) (waiting_on l s) (waiting_on n t) waiting_);
      fed = fed_still g w.live (by_stream (streaming_on l s)) (by_stream (streaming_on n t)) sorted_ is.sees.live is.fed;
      wait_fed = wait_still g (waiting_on l s) (waiting_on n t) waiting_ is.wait_fed;
      opened = is.opened;
      fresh = is.fresh;
      tags = is.tags;
      places = placed;
    }

    streams_like : (w : Wire) (g : ℕ → Line) → SeesStreams l s w g → numbered t.links l.number ≡ Some n → AttemptsStandInPlace 1 t.attempts → SeesStreams n t w (lines_in n t)
    streams_like w g is at placed = record {
      sees = link_still w g is.sees at placed;
      handled = received_still w.live (by_stream (streaming_on l s)) (by_stream (streaming_on n t)) sorted_ is.handled;
      unreceived = is.unreceived;
      begun = is.begun;
    }

    pub streams_still : (w : Wire) (g : ℕ → Line) → IsSameLink l m → SeesStreams l s w g → numbered t.links m.number ≡ Some m → AttemptsStandInPlace 1 t.attempts
        → SeesStreams m t w (lines_in m t)
    streams_still w g same is at placed =
        let e : m ≡ n = is_like l m same in
        let there : numbered t.links l.number ≡ Some n = ap (numbered t.links) (sym same.number) ∙ at ∙ ap (λ (x : Link). Some x) e in
        subst (λ (x : Link). SeesStreams x t w (lines_in x t)) (sym e) (streams_like w g is there placed)
