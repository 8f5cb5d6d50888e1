-- A link agrees with a session that it cannot distinguish from one with which it agrees.
use Rattle.std.proofs.Common.{◌≡◌, ◌∷◌, ap, refl, subst, sym, ◌∙◌, List, [], Some, ℕ, is_none, is_some}
use Rattle.h2_frame.specs.Frames.{FrameSeen}
use Rattle.h2_link.specs.Feeds.{Line}
use Rattle.h2_link.specs.Wire.{Wire}
use Rattle.h2_link.specs.declared.live.LiveStream.{LiveStream}
use Rattle.link_actions.specs.Sees.{StreamsAreFed, StreamsAreLive, AttemptsStandInPlace, IsFed, SeesLink, SeesOwed, SeesRead, by_stream}
use Rattle.session_actions.specs.Reading.{outstanding_on}
use Rattle.session_actions.specs.Responses.{response_in}
use Rattle.session_actions.specs.Words.{numbered}
use Rattle.session_actions.specs.Writing.{streaming_on, waiting_on}
use Rattle.session_actions.specs.declared.attempt.Attempt.{Attempt}
use Rattle.session_actions.specs.declared.link.Link.{Link}
use Rattle.session_actions.specs.declared.link.Traffic.{Traffic}
use Rattle.session_actions.specs.declared.response.Response.{Response}
use Rattle.session_actions.specs.declared.seen.Seen.{Seen}
use Rattle.link_actions.proofs.SteadyLinks.Steps.{InStep, all_fed, chosen_step, out_step, same_places, sorted_step}
use Rattle.link_actions.specs.SteadyLinks.Laws.{LinksAreLeft, LinksAreLeftBut}
use Rattle.link_actions.specs.SteadyLinks.Same.{LinesAreSameOn, IsSameLink}
use Rattle.link_actions.specs.StreamActions.Sees.{ResponsesAreReceived, ResponsesAreReceivedBut, IsReceived, SeesBut, SeesStreams, response_of}

-- the link with what may differ from the other
abbrev like : Link → Link → Link
like l m = record l { sub = m.sub; up = m.up; received = m.received; over = m.over; gone = m.gone }

is_like : (l m : Link) → IsSameLink l m → m ≡ like l m
is_like l m is =
    ap (λ (n : ℕ). record m { number = n }) is.number
    ∙ ap (λ (ts : List Traffic). record m { number = l.number; traffic = ts }) is.traffic_
    ∙ ap (λ (fs : List FrameSeen). record m { number = l.number; traffic = l.traffic; owed = fs }) is.owed

-- what was read and what is owed
reads_left : (l m : Link) (w : Wire) → SeesRead l w → SeesRead (like l m) w
reads_left l m w is = record {
  whole = is.whole;
  read = is.read;
  ready = is.ready;
  retiring = is.retiring;
  limit = is.limit;
  initial = is.initial;
  window = is.window;
  opened = is.opened;
  block = is.block;
  table = is.table;
}

owes_left : (l m : Link) (w : Wire) → SeesOwed l w → SeesOwed (like l m) w
owes_left l m w is = record { queue = is.queue; names = is.names; resizes = is.resizes; written = is.written; answered = is.answered }

-- streams
live_left : (l m : Link) (s t : Seen) (h : ℕ → Line) (xs : List LiveStream) (as_ bs : List Attempt) → InStep l (like l m) s t h as_ bs → StreamsAreLive l xs as_ → StreamsAreLive (like l m) xs bs
live_left l m s t h [] [] [] step are = tt
live_left l m s t h (x ∷ xs) (a ∷ as_) (b ∷ bs) step are = (
  record {
    stream = step.0.stream ∙ are.0.stream;
    some = are.0.some;
    tag = are.0.tag ∙ sym step.0.place;
    finished = are.0.finished;
    credit = are.0.credit;
  },
  live_left l m s t h xs as_ bs step.1 are.1,
)
live_left l m s t h [] [] (b ∷ bs) step are = absurd step
live_left l m s t h [] (a ∷ as_) bs step are = absurd are
live_left l m s t h (x ∷ xs) [] bs step are = absurd are
live_left l m s t h (x ∷ xs) (a ∷ as_) [] step are = absurd step

fed_left : (l m : Link) (s t : Seen) (h : ℕ → Line) (xs : List LiveStream) (as_ bs : List Attempt) → InStep l (like l m) s t h as_ bs → StreamsAreLive l xs as_ → StreamsAreFed (like l m) t h xs bs
fed_left l m s t h [] [] [] step are = tt
fed_left l m s t h (x ∷ xs) (a ∷ as_) (b ∷ bs) step are = (
  subst (λ (n : ℕ). IsFed (like l m) t b (h n)) (step.0.place ∙ sym are.0.tag) step.0.fed,
  fed_left l m s t h xs as_ bs step.1 are.1,
)
fed_left l m s t h [] [] (b ∷ bs) step are = absurd step
fed_left l m s t h [] (a ∷ as_) bs step are = absurd are
fed_left l m s t h (x ∷ xs) [] bs step are = absurd are
fed_left l m s t h (x ∷ xs) (a ∷ as_) [] step are = absurd step

one_left : (l m : Link) (s t : Seen) (x : LiveStream) (a b : Attempt) → response_of (like l m) t x.number b ≡ response_of l s x.number a → IsReceived l s x a → IsReceived (like l m) t x b
one_left l m s t x a b same is = record {
  head = is.head ∙ ap (λ (p : Response). is_some p.head) (sym same);
  goes = ap (λ (p : Response). p.end) same ∙ is.goes;
  small = ap (λ (p : Response). p.large) same ∙ is.small;
}

received_left : (l m : Link) (s t : Seen) (h : ℕ → Line) (xs : List LiveStream) (as_ bs : List Attempt) → InStep l (like l m) s t h as_ bs → ResponsesAreReceived l s xs as_ → ResponsesAreReceived (like l m) t xs bs
received_left l m s t h [] [] [] step are = tt
received_left l m s t h (x ∷ xs) (a ∷ as_) (b ∷ bs) step are = (
  one_left l m s t x a b (ap (λ (n : ℕ). response_in n x.number l.traffic) step.0.limit) are.0,
  received_left l m s t h xs as_ bs step.1 are.1,
)
received_left l m s t h [] [] (b ∷ bs) step are = absurd step
received_left l m s t h [] (a ∷ as_) bs step are = absurd are
received_left l m s t h (x ∷ xs) [] bs step are = absurd are
received_left l m s t h (x ∷ xs) (a ∷ as_) [] step are = absurd step

but_left : (k : ℕ) (l m : Link) (s t : Seen) (h : ℕ → Line) (xs : List LiveStream) (as_ bs : List Attempt) → InStep l (like l m) s t h as_ bs → ResponsesAreReceivedBut k l s xs as_
    → ResponsesAreReceivedBut k (like l m) t xs bs
but_left k l m s t h [] [] [] step are = tt
but_left k l m s t h (x ∷ xs) (a ∷ as_) (b ∷ bs) step are = (
  λ off. one_left l m s t x a b (ap (λ (n : ℕ). response_in n x.number l.traffic) step.0.limit) (are.0 off),
  but_left k l m s t h xs as_ bs step.1 are.1,
)
but_left k l m s t h [] [] (b ∷ bs) step are = absurd step
but_left k l m s t h [] (a ∷ as_) bs step are = absurd are
but_left k l m s t h (x ∷ xs) [] bs step are = absurd are
but_left k l m s t h (x ∷ xs) (a ∷ as_) [] step are = absurd step

-- the link
link_left : (l m : Link) (s t : Seen) (w : Wire) (g h : ℕ → Line) → SeesLink l s w g → numbered t.links l.number ≡ Some (like l m) → LinesAreSameOn l (like l m) s t h s.attempts t.attempts
    → AttemptsStandInPlace 1 t.attempts → SeesLink (like l m) t w h
link_left l m s t w g h is at same places =
    let n : Link = like l m in
    let out : InStep l n s t h (outstanding_on l s) (outstanding_on n t) = out_step l n s t h s.attempts t.attempts refl same in
    let streams_ : InStep l n s t h (streaming_on l s) (streaming_on n t) = chosen_step l n s t h (λ o. is_some o) (outstanding_on l s) (outstanding_on n t) out in
    let waits_ : InStep l n s t h (waiting_on l s) (waiting_on n t) = chosen_step l n s t h (λ o. is_none o) (outstanding_on l s) (outstanding_on n t) out in
    let sorted_ : InStep l n s t h (by_stream (streaming_on l s)) (by_stream (streaming_on n t)) = sorted_step l n s t h (streaming_on l s) (streaming_on n t) streams_ in
    record {
      at = at;
      sees = record {
        reads = reads_left l m w is.sees.reads;
        live = live_left l m s t h w.live (by_stream (streaming_on l s)) (by_stream (streaming_on n t)) sorted_ is.sees.live;
      };
      owes = owes_left l m w is.owes;
      waits = is.waits ∙ sym (same_places l n s t h (waiting_on l s) (waiting_on n t) waits_);
      fed = fed_left l m s t h w.live (by_stream (streaming_on l s)) (by_stream (streaming_on n t)) sorted_ is.sees.live;
      wait_fed = all_fed l n s t h (waiting_on l s) (waiting_on n t) waits_;
      opened = is.opened;
      fresh = is.fresh;
      tags = is.tags;
      places = places;
    }

sorted_of : (l m : Link) (s t : Seen) (h : ℕ → Line) → LinesAreSameOn l (like l m) s t h s.attempts t.attempts
    → InStep l (like l m) s t h (by_stream (streaming_on l s)) (by_stream (streaming_on (like l m) t))
sorted_of l m s t h same =
    let n : Link = like l m in
    let out : InStep l n s t h (outstanding_on l s) (outstanding_on n t) = out_step l n s t h s.attempts t.attempts refl same in
    sorted_step l n s t h (streaming_on l s) (streaming_on n t) (chosen_step l n s t h (λ o. is_some o) (outstanding_on l s) (outstanding_on n t) out)

streams_left : (l m : Link) (s t : Seen) (w : Wire) (g h : ℕ → Line) → SeesStreams l s w g → numbered t.links l.number ≡ Some (like l m) → LinesAreSameOn l (like l m) s t h s.attempts t.attempts
    → AttemptsStandInPlace 1 t.attempts → SeesStreams (like l m) t w h
streams_left l m s t w g h is at same places = record {
  sees = link_left l m s t w g h is.sees at same places;
  handled = received_left l m s t h w.live (by_stream (streaming_on l s)) (by_stream (streaming_on (like l m) t)) (sorted_of l m s t h same) is.handled;
  unreceived = is.unreceived;
  begun = is.begun;
}

buts_left : (k : ℕ) (l m : Link) (s t : Seen) (w : Wire) (g h : ℕ → Line) → SeesBut k l s w g → numbered t.links l.number ≡ Some (like l m) → LinesAreSameOn l (like l m) s t h s.attempts t.attempts
    → AttemptsStandInPlace 1 t.attempts → SeesBut k (like l m) t w h
buts_left k l m s t w g h is at same places = record {
  sees = link_left l m s t w g h is.sees at same places;
  handled = but_left k l m s t h w.live (by_stream (streaming_on l s)) (by_stream (streaming_on (like l m) t)) (sorted_of l m s t h same) is.handled;
  unreceived = is.unreceived;
  begun = is.begun;
}

pub links_are_left : LinksAreLeft
links_are_left l m s t w g h is link at same places =
    let e : m ≡ like l m = is_like l m link in
    let at_ : numbered t.links l.number ≡ Some (like l m) = ap (numbered t.links) (sym link.number) ∙ at ∙ ap (λ (x : Link). Some x) e in
    subst (λ (x : Link). SeesStreams x t w h) (sym e)
    (streams_left l m s t w g h is at_ (subst (λ (x : Link). LinesAreSameOn l x s t h s.attempts t.attempts) e same) places)

pub links_are_left_but : LinksAreLeftBut
links_are_left_but k l m s t w g h is link at same places =
    let e : m ≡ like l m = is_like l m link in
    let at_ : numbered t.links l.number ≡ Some (like l m) = ap (numbered t.links) (sym link.number) ∙ at ∙ ap (λ (x : Link). Some x) e in
    subst (λ (x : Link). SeesBut k x t w h) (sym e)
    (buts_left k l m s t w g h is at_ (subst (λ (x : Link). LinesAreSameOn l x s t h s.attempts t.attempts) e same) places)
