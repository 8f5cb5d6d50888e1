-- What a link is notified of a piece, by what is at the start of its rest and as much of the piece as the longest frame needs.
use Rattle.std.proofs.Common.{◌≡◌, ℕ, ◌≤◌, ◌-◌, List, [], ◌++◌, length, take, refl, sym, ◌∙◌, ap, ap₂, Some, None, arith, length-append}
use Rattle.std.specs.Prelude.{Option, min}
use Rattle.std.proofs.lemmas.List.{take_all, length-take-le}
use Rattle.h2_frame.specs.Readings.{Partial, reading_of}
use Rattle.h2_link.specs.declared.news.LinkNews.{LinkNews}
use Rattle.h2_link.specs.Received.{Receiving, handled, received_with, prefix_of}
use Rattle.h2_link.specs.Outcomes.{prefix_reported}
use Rattle.h2_link.specs.Wire.{Wire, Report, Seen}
use Rattle.h2_link.proofs.Prefixes.{enough, partial_size, none_is_partial, within, afterwards}

-- the bytes that were joined, and what is at their prefix
pub record IsJoined (l : Seen) (piece joined : List ℕ) (held m : ℕ) : Type 0 where
  pub part : reading_of l.rest ≡ Partial
  pub held_is : held ≡ length l.rest
  pub more : m ≡ min (length piece) (16393 - length l.rest)
  pub joined_is : joined ≡ l.rest ++ take m piece

pub is_joined : (w : Wire) (rest old piece joined : List ℕ) (held m : ℕ) → reading_of rest ≡ Partial → old ≡ rest → held ≡ length old → m ≡ min (length piece) (16393 - held) → joined ≡ old ++ take m piece → IsJoined (record { wire = w; rest = rest }) piece joined held m
is_joined w rest old piece joined held m p o h e j =
    let same : held ≡ length rest = h ∙ ap length o in record {
      part = p;
      held_is = same;
      more = e ∙ ap (λ (n : ℕ). min (length piece) (16393 - n)) same;
      joined_is = j ∙ ap (λ (t : List ℕ). t ++ take m piece) o;
    }

prefix_is : (l : Seen) (piece joined : List ℕ) (held m : ℕ) → IsJoined l piece joined held m → (o : Option (ℕ × Report)) → prefix_of l.wire joined ≡ o → prefix_of l.wire (l.rest ++ piece) ≡ o
prefix_is l piece joined held m j o h =
    sym (enough l.wire l.rest piece m (partial_size l.rest j.part) j.more)
    ∙ (sym (ap (λ (t : List ℕ). prefix_of l.wire t) j.joined_is) ∙ h)

pub received_some : (l : Seen) (piece joined none : List ℕ) (held m x : ℕ) (w : Wire) (news : List LinkNews) → IsJoined l piece joined held m → none ≡ [] → prefix_reported (Some (x, news)) w ≡ prefix_of l.wire joined → ◌≡◌ {A = Receiving} (record { taken = x - held; link = record { wire = w; rest = none }; news = news }) (handled l piece)
received_some l piece joined none held m x w news j e h =
    let all = prefix_is l piece joined held m j (Some (x, record { wire = w; news = news })) (sym h) in
    let plain : ◌≡◌ {A = Receiving} (record { taken = x - length l.rest; link = record { wire = w; rest = [] }; news = news }) (handled l piece) = sym (ap (received_with l piece) all) in
    ap₂ (λ (n : ℕ) (t : List ℕ). record { taken = x - n; link = record { wire = w; rest = t }; news = news }) j.held_is e ∙ plain

pub some_bounds : (l : Seen) (piece joined : List ℕ) (held m x : ℕ) (w : Wire) (news : List LinkNews) → IsJoined l piece joined held m → prefix_reported (Some (x, news)) w ≡ prefix_of l.wire joined → (held ≤ x) × (1 ≤ x - held) × (x - held ≤ length piece)
some_bounds l piece joined held m x w news j h =
    let all = prefix_is l piece joined held m j (Some (x, record { wire = w; news = news })) (sym h) in
    let low = afterwards l.wire l.rest piece (x, record { wire = w; news = news }) j.part all in
    let high = within l.wire (l.rest ++ piece) (x, record { wire = w; news = news }) all in
    let sum = length-append l.rest piece in
    let same = j.held_is in
    (omega (arith, low, same), omega (arith, low, same), omega (arith, high, sum, same))

pub received_none : (l : Seen) (piece joined : List ℕ) (held m : ℕ) (w : Wire) → IsJoined l piece joined held m → w ≡ l.wire → prefix_reported None w ≡ prefix_of l.wire joined → ◌≡◌ {A = Receiving} (record { taken = length piece; link = record { wire = w; rest = joined }; news = [] }) (handled l piece)
received_none l piece joined held m w j e h =
    let all = prefix_is l piece joined held m j None (sym h) in
    let size : length joined ≤ 16392 = partial_size joined (none_is_partial l.wire joined (sym h)) in
    let le : m ≤ length piece = omega (arith, j.more) in
    let enough_all : length piece ≤ m = omega (arith, size, ap length j.joined_is, length-append l.rest (take m piece), length-take-le m piece le, j.more, partial_size l.rest j.part) in
    let rest_is : joined ≡ l.rest ++ piece = j.joined_is ∙ ap (λ (t : List ℕ). l.rest ++ t) (take_all m piece enough_all) in
    ap₂ (λ (v : Wire) (t : List ℕ). record { taken = length piece; link = record { wire = v; rest = t }; news = [] }) e rest_is
    ∙ sym (ap (received_with l piece) all)

-- a prefix after nothing
pub some_prefix : (w w2 : Wire) (piece : List ℕ) (x : ℕ × List LinkNews) → prefix_reported (Some x) w2 ≡ prefix_of w piece → (1 ≤ x.0) × (x.0 ≤ length piece)
some_prefix w w2 piece x h =
    (afterwards w [] piece (x.0, record { wire = w2; news = x.1 }) refl (sym h), within w piece (x.0, record { wire = w2; news = x.1 }) (sym h))
