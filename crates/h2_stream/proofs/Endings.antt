-- What a stream takes no more once a side has ended it.
use Rattle.std.proofs.Common.{◌≡◌, ◌+◌, pos, ◌+ℤ◌, ◌-ℤ◌, Bool, true, false, ◌&&◌, List, [], ◌∷◌, refl, arith, if◌then◌else◌, ◌∙◌}
use Rattle.std.proofs.lemmas.Int.{ints}
use Rattle.std.proofs.lemmas.List.Sums.{sum_by-cons}
use Rattle.std.specs.List.{list_any}
use Rattle.h2_stream.specs.declared.state.StreamState.{StreamState}
use Rattle.h2_stream.specs.declared.state.StreamState.TheVariants.{Open, HalfClosedLocal, HalfClosedRemote, Closed}
use Rattle.h2_stream.specs.Steps.{after_sent}
use Rattle.h2_stream.specs.State.{is_closed, is_closed_remotely}
use Rattle.h2_stream.specs.Stream.{StreamView}
use Rattle.h2_stream.specs.Runs.{Event, Headers, Data, WindowUpdate, Shift, Sent, Granted, Reset, after, is_taken, taken, is_content, is_from_peer, granted_by, granted_in, sent_by, sent_in, TakesNoContent, TakesNothing}
use Rattle.h2_stream.proofs.Choices.{if_same}

-- one call on a stream that the peer has ended
record KeepsEnd (s : StreamView) (e : Event) : Type 0 where
  taken_is : (is_taken s e && is_content e) ≡ false
  state : is_closed_remotely (after s e).state ≡ true
  head : (after s e).head ≡ s.head
  receive : (after s e).receive ≡ s.receive +ℤ pos (granted_by e)

no_content : (taken : Bool) → (taken && false) ≡ false
no_content true = refl
no_content false = refl

keeps_end : (s : StreamView) (e : Event) → is_closed_remotely s.state ≡ true → KeepsEnd s e
keeps_end s (Headers end) h = grind (arith, ints)
keeps_end s (Data len end) h = grind (arith, ints)
keeps_end s (WindowUpdate by) h = grind (arith, ints)
keeps_end s (Shift by) h = grind (arith, ints)
keeps_end s (Sent len end) h = grind (arith, ints)
keeps_end s (Granted by) h = grind (arith, ints)
keeps_end s Reset h = record { taken_is = no_content (is_taken s Reset); state = refl; head = refl; receive = omega (arith, ints) }

list_any-if : (p : Event → Bool) (c : Bool) (e : Event) (rest : List Event) → (c && p e) ≡ false → list_any p rest ≡ false → list_any p (if c then e ∷ rest else rest) ≡ false
list_any-if p true e rest here later = rw here later
list_any-if p false e rest here later = later

pub takes_no_content : (s : StreamView) (es : List Event) → is_closed_remotely s.state ≡ true → TakesNoContent s es
takes_no_content s [] h = record { taken_is = refl; state = h; head = refl; receive = omega (arith, ints) }
takes_no_content s (e ∷ es) h =
    let now = keeps_end s e h in
    let later = takes_no_content (after s e) es now.state in
    let sums : granted_in (e ∷ es) ≡ granted_by e + granted_in es = sum_by-cons granted_by e es in
    record {
      taken_is = list_any-if is_content (is_taken s e) e (taken (after s e) es) now.taken_is later.taken_is;
      state = later.state;
      head = later.head ∙ now.head;
      receive = rw (later.receive, now.receive, sums) (omega (arith, ints));
    }

-- one call on a stream that both sides have ended
record KeepsClosed (s : StreamView) (e : Event) : Type 0 where
  taken_is : (is_taken s e && is_from_peer e) ≡ false
  state : (after s e).state ≡ s.state
  send : (after s e).send ≡ s.send -ℤ pos (sent_by e)

is_closed_remotely-closed : (state : StreamState) → is_closed state ≡ true → is_closed_remotely state ≡ true
is_closed_remotely-closed Open h = h
is_closed_remotely-closed HalfClosedLocal h = h
is_closed_remotely-closed HalfClosedRemote h = refl
is_closed_remotely-closed Closed h = refl

after_sent-closed : (state : StreamState) (end : Bool) → is_closed state ≡ true → after_sent end state ≡ state
after_sent-closed Open end h = absurd (cc)
after_sent-closed HalfClosedLocal end h = absurd (cc)
after_sent-closed HalfClosedRemote end h = absurd (cc)
after_sent-closed Closed end h = if_same Closed end

closed_is : (state : StreamState) → is_closed state ≡ true → Closed ≡ state
closed_is Open h = absurd (cc)
closed_is HalfClosedLocal h = absurd (cc)
closed_is HalfClosedRemote h = absurd (cc)
closed_is Closed h = refl

keeps_closed : (s : StreamView) (e : Event) → is_closed s.state ≡ true → is_closed_remotely s.state ≡ true → KeepsClosed s e
keeps_closed s (Headers end) h k = grind (arith, ints)
keeps_closed s (Data len end) h k = grind (arith, ints)
keeps_closed s (WindowUpdate by) h k = grind (arith, ints)
keeps_closed s (Shift by) h k = grind (arith, ints)
keeps_closed s (Sent len end) h k = record { taken_is = refl; state = after_sent-closed s.state end h; send = refl }
keeps_closed s (Granted by) h k = grind (arith, ints)
keeps_closed s Reset h k = record { taken_is = rw h refl; state = closed_is s.state h; send = omega (arith, ints) }

pub takes_nothing : (s : StreamView) (es : List Event) → is_closed s.state ≡ true → TakesNothing s es
takes_nothing s [] h = record { taken_is = refl; state = refl; send = omega (arith, ints) }
takes_nothing s (e ∷ es) h =
    let now = keeps_closed s e h (is_closed_remotely-closed s.state h) in
    let later = takes_nothing (after s e) es (rw now.state h) in
    let sums : sent_in (e ∷ es) ≡ sent_by e + sent_in es = sum_by-cons sent_by e es in
    record {
      taken_is = list_any-if is_from_peer (is_taken s e) e (taken (after s e) es) now.taken_is later.taken_is;
      state = later.state ∙ now.state;
      send = rw (later.send, now.send, sums) (omega (arith, ints));
    }
