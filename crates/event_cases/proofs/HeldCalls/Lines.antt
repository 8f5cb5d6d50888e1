-- What is left of the attempts that go on on a link is what the session did not write.
use Rattle.h2_link.specs.Feeds.{Line}
use Rattle.h2_link.specs.Wire.{Wire}
use Rattle.h2_link.specs.declared.live.LiveStream.{LiveStream}
use Rattle.attempt_ledger.specs.declared.row.Placed.{Placed}
use Rattle.channel_actions.specs.OwnStreams.Laws.{goes_on_at}
use Rattle.link_actions.proofs.Opened.{unsorted}
use Rattle.link_actions.specs.Sees.{StreamsAreFed, StreamsAreLive, IsFed, SeesLink, by_stream, written_for}
use Rattle.session_actions.specs.Attempts.{is_outstanding}
use Rattle.session_actions.specs.Links.{link_of}
use Rattle.session_actions.specs.Reading.{is_outstanding_on, outstanding_on, used}
use Rattle.session_actions.specs.Words.{holds, numbered}
use Rattle.session_actions.specs.Writing.{drained, streaming_on, waiting_on}
use Rattle.session_actions.specs.declared.attempt.Attempt.{Attempt}
use Rattle.session_actions.specs.declared.link.Link.{Link}
use Rattle.session_actions.specs.declared.seen.Seen.{Seen}
use Rattle.std.proofs.Common.{Bool, List, None, Option, Some, [], ap, cond, eqb-true, false, filter, is_none, is_some, option_and_then, refl, slice_get, subst, suc, true, zero, ℕ, ◌==◌, ◌∙◌, ◌∷◌, ◌≡◌}
use Rattle.std.proofs.lemmas.Bool.{and_parts}
use Rattle.std.specs.List.{AllByRecursion}
use Rattle.std.specs.Option.{option_map_or}

-- of all that pass a test
kept_by : {X : Type 0} (P : X → Type 0) (b c : Bool) (x : X) (ys : List X) → b ≡ c → AllByRecursion P (cond b (x ∷ ys) ys) → AllByRecursion P (cond c (x ∷ ys) ys)
kept_by P b c x ys e all = subst (λ (d : Bool). AllByRecursion P (cond d (x ∷ ys) ys)) e all

rest_by : {X : Type 0} (P : X → Type 0) (b : Bool) (x : X) (ys : List X) → AllByRecursion P (cond b (x ∷ ys) ys) → AllByRecursion P ys
rest_by P true x ys all = all.1
rest_by P false x ys all = all

pub unfilter : {X : Type 0} (P : X → Type 0) (q : X → Bool) (xs : List X) (i : ℕ) (x : X) → AllByRecursion P (filter q xs) → slice_get xs i ≡ Some x → q x ≡ true → P x
unfilter P q [] i x all got e = absurd (cc)
unfilter P q (y ∷ xs) zero x all got e =
    let same : y ≡ x = (cc) in
    subst P same (kept_by P (q y) true y (filter q xs) (ap q same ∙ e) all).0
unfilter P q (y ∷ xs) (suc i) x all got e = unfilter P q xs i x (rest_by P (q y) y (filter q xs) all) got e

unfilter_all : {X : Type 0} (P : X → Type 0) (q : X → Bool) (xs : List X) → AllByRecursion P (filter q xs) → AllByRecursion (λ (x : X). q x ≡ true → P x) xs
unfilter_all P q [] all = tt
unfilter_all P q (x ∷ xs) all =
    (λ e. (kept_by P (q x) true x (filter q xs) e all).0, unfilter_all P q xs (rest_by P (q x) x (filter q xs) all))

module _ (l : Link) (s : Seen) (w : Wire) (g : ℕ → Line) (sees : SeesLink l s w g) where
  abbrev P : Attempt → Type 0
  P b = IsFed l s b (g b.place)

  zip_fed : (xs : List LiveStream) (bs : List Attempt) → StreamsAreLive l xs bs → StreamsAreFed l s g xs bs → AllByRecursion P bs
  zip_fed [] [] live fed = tt
  zip_fed (x ∷ xs) (b ∷ bs) live fed = (subst (λ (t : ℕ). IsFed l s b (g t)) live.0.tag fed.0, zip_fed xs bs live.1 fed.1)
  zip_fed [] (b ∷ bs) live fed = absurd live
  zip_fed (x ∷ xs) [] live fed = absurd live

  streams_fed : AllByRecursion P (streaming_on l s)
  streams_fed = unsorted P (streaming_on l s) (zip_fed w.live (by_stream (streaming_on l s)) sees.sees.live sees.fed)

  waits_fed : AllByRecursion P (waiting_on l s)
  waits_fed = sees.wait_fed

  by_row : (i : ℕ) (a : Attempt) (q : Option ℕ) → slice_get s.attempts i ≡ Some a → is_outstanding_on l a ≡ true → a.row.stream ≡ q → P a
  by_row i a None got on has =
      unfilter (λ (b : Attempt). is_none b.row.stream ≡ true → P b) (is_outstanding_on l) s.attempts i a
      (unfilter_all P (λ (b : Attempt). is_none b.row.stream) (outstanding_on l s) waits_fed) got on (ap is_none has)
  by_row i a (Some n) got on has =
      unfilter (λ (b : Attempt). is_some b.row.stream ≡ true → P b) (is_outstanding_on l) s.attempts i a
      (unfilter_all P (λ (b : Attempt). is_some b.row.stream) (outstanding_on l s) streams_fed) got on (ap is_some has)

  pub row_fed : (i : ℕ) (a : Attempt) → slice_get s.attempts i ≡ Some a → goes_on_at l.number a ≡ true → IsFed l s a (g a.place)
  row_fed i a got on = by_row i a a.row.stream got on refl

  placed_by : (p : Option Placed) → holds (λ (at : Placed). at.link == l.number) p ≡ true → (at : Placed) × (p ≡ Some at) × (at.link ≡ l.number)
  placed_by None e = absurd (cc)
  placed_by (Some at) e = (at, refl, eqb-true at.link l.number e)

  written_by : (a : Attempt) (q : Option ℕ) → link_of a s ≡ Some l
      → option_map_or (λ (n : ℕ). option_map_or (used n) (link_of a s) 0) q 0 ≡ option_map_or (λ (n : ℕ). used n l) q 0
  written_by a None on = refl
  written_by a (Some n) on = ap (λ (o : Option Link). option_map_or (used n) o 0) on

  pub drained_is : (a : Attempt) → goes_on_at l.number a ≡ true → drained a s ≡ written_for l a
  drained_is a on =
      let at : (p : Placed) × (a.row.placed ≡ Some p) × (p.link ≡ l.number)
      = placed_by a.row.placed (and_parts (is_outstanding a) (holds (λ (p : Placed). p.link == l.number) a.row.placed) on).1 in
      written_by a a.row.stream
      (ap (option_and_then (λ (p : Placed). numbered s.links p.link)) at.1 ∙ ap (numbered s.links) at.2 ∙ sees.at)
