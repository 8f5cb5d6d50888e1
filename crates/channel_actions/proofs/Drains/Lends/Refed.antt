-- A link that is fed with other lines: each attempt on it, with the line of its place.
use Rattle.std.proofs.Common.{◌≡◌, ◌∷◌, refl, subst, sym, Bool, true, false, List, [], Some, ℕ, cond, filter, is_none, is_some, map}
use Rattle.std.specs.List.{AllByRecursion}
use Rattle.channel_actions.proofs.Lines.{all_at_places, all_filter, all_sorted}
use Rattle.h2_link.specs.Feeds.{Line}
use Rattle.h2_link.specs.Wire.{Wire}
use Rattle.h2_link.specs.declared.live.LiveStream.{LiveStream}
use Rattle.channel_actions.specs.KeptSessions.Kept.{NumbersCountUp}
use Rattle.link_actions.specs.Sees.{StreamsAreFed, StreamsAreLive, IsFed, SeesLink, WaitFed, by_stream}
use Rattle.session_actions.specs.Reading.{is_outstanding_on, outstanding_on}
use Rattle.session_actions.specs.Words.{numbered}
use Rattle.session_actions.specs.Writing.{streaming_on, waiting_on}
use Rattle.session_actions.specs.declared.attempt.Attempt.{Attempt}
use Rattle.session_actions.specs.declared.link.Link.{Link}
use Rattle.session_actions.specs.declared.seen.Seen.{Seen}
use Rattle.link_actions.specs.StreamActions.Sees.{SeesStreams}

-- an attempt that is on the link, at its place
pub record IsOf (l : Link) (s : Seen) (a : Attempt) : Type 0 where
  pub at : numbered s.attempts a.place ≡ Some a
  pub out : is_outstanding_on l a ≡ true

out_by : (l : Link) (s : Seen) (a : Attempt) (xs : List Attempt) (b : Bool) → is_outstanding_on l a ≡ b → numbered s.attempts a.place ≡ Some a
    → AllByRecursion (IsOf l s) (filter (is_outstanding_on l) xs) → AllByRecursion (IsOf l s) (cond b (a ∷ filter (is_outstanding_on l) xs) (filter (is_outstanding_on l) xs))
out_by l s a xs true e at rest = (record { at = at; out = e }, rest)
out_by l s a xs false e at rest = rest

all_out : (l : Link) (s : Seen) (xs : List Attempt) → AllByRecursion (λ (a : Attempt). numbered s.attempts a.place ≡ Some a) xs
    → AllByRecursion (IsOf l s) (filter (is_outstanding_on l) xs)
all_out l s [] at = tt
all_out l s (a ∷ xs) at = out_by l s a xs (is_outstanding_on l a) refl at.0 (all_out l s xs at.1)

module _ (l : Link) (s : Seen) (h : ℕ → Line) (feeds : (a : Attempt) (line : Line) → IsOf l s a → IsFed l s a line → IsFed l s a (h a.place)) where
  fed_all : (g : ℕ → Line) (xs : List LiveStream) (as_ : List Attempt) → StreamsAreLive l xs as_ → AllByRecursion (IsOf l s) as_ → StreamsAreFed l s g xs as_ → StreamsAreFed l s h xs as_
  fed_all g [] [] live of fed = tt
  fed_all g (x ∷ xs) (a ∷ as_) live of fed =
      (subst (λ (n : ℕ). IsFed l s a (h n)) (sym live.0.tag) (feeds a (g x.tag) of.0 fed.0), fed_all g xs as_ live.1 of.1 fed.1)
  fed_all g [] (a ∷ as_) live of fed = absurd fed
  fed_all g (x ∷ xs) [] live of fed = absurd fed

  wait_all : (g : ℕ → Line) (as_ : List Attempt) → AllByRecursion (IsOf l s) as_ → WaitFed l s g as_ → WaitFed l s h as_
  wait_all g [] of fed = tt
  wait_all g (a ∷ as_) of fed = (feeds a (g a.place) of.0 fed.0, wait_all g as_ of.1 fed.1)

  pub refed : (w : Wire) (g : ℕ → Line) → NumbersCountUp 1 (map (λ (a : Attempt). a.place) s.attempts) → SeesStreams l s w g → SeesStreams l s w h
  refed w g counted is =
      let k = is.sees in
      let out : AllByRecursion (IsOf l s) (outstanding_on l s) = all_out l s s.attempts (all_at_places s.attempts counted) in
      let streaming : AllByRecursion (IsOf l s) (by_stream (streaming_on l s)) = all_sorted (IsOf l s) (streaming_on l s) (all_filter (IsOf l s) (λ (a : Attempt). is_some a.row.stream) (outstanding_on l s) out) in
      let waiting : AllByRecursion (IsOf l s) (waiting_on l s) = all_filter (IsOf l s) (λ (a : Attempt). is_none a.row.stream) (outstanding_on l s) out in
      let new : SeesLink l s w h = record {
        at = k.at;
        sees = k.sees;
        owes = k.owes;
        waits = k.waits;
        fed = fed_all g w.live (by_stream (streaming_on l s)) k.sees.live streaming k.fed;
        wait_fed = wait_all g (waiting_on l s) waiting k.wait_fed;
        opened = k.opened;
        fresh = k.fresh;
        tags = k.tags;
        places = k.places;
      } in
      record { sees = new; handled = is.handled; unreceived = is.unreceived; begun = is.begun }
