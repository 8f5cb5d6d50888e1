-- What a link is notified of a piece, by what is at the start of its rest and as much of the piece as the longest frame needs.
use Rattle.std.proofs.Common.{◌≡◌, ℕ, ◌≤◌, ◌-◌, Bool, true, List, [], ◌++◌, length, take, refl, sym, ◌∙◌, ap, ap₂, subst, Some, None, arith, length-append}
use Rattle.std.specs.Prelude.{Option, min}
use Rattle.std.proofs.lemmas.List.{take_all, length-take-le}
use Rattle.h2_server.specs.declared.news.RequestNews.{RequestNews}
use Rattle.h2_server.specs.Received.{Receiving, handled, received_with, prefix_of, IsPart}
use Rattle.h2_server.specs.Outcomes.{prefix_reported}
use Rattle.h2_server.specs.Wire.{Wire, Report, Seen}
use Rattle.h2_server.proofs.Prefixes.{enough, none_size, none_is_part, part_is_none, nothing_is_part, part_size, within, afterwards}

-- the bytes that were joined, and what is at their prefix
pub record IsJoined (l : Seen) (piece joined : List ℕ) (held m : ℕ) : Type 0 where
  pub part : IsPart l.prefaced l.rest
  pub held_is : held ≡ length l.rest
  pub more : m ≡ min (length piece) (16393 - length l.rest)
  pub joined_is : joined ≡ l.rest ++ take m piece

pub is_joined : (g : Bool) (w : Wire) (rest old piece joined : List ℕ) (held m : ℕ) → IsPart g rest → old ≡ rest → held ≡ length old → m ≡ min (length piece) (16393 - held) → joined ≡ old ++ take m piece → IsJoined (record { prefaced = g; wire = w; rest = rest }) piece joined held m
is_joined g w rest old piece joined held m p o h e j =
    let same : held ≡ length rest = h ∙ ap length o in record {
      part = p;
      held_is = same;
      more = e ∙ ap (λ (n : ℕ). min (length piece) (16393 - n)) same;
      joined_is = j ∙ ap (λ (t : List ℕ). t ++ take m piece) o;
    }

prefix_is : (l : Seen) (piece joined : List ℕ) (held m : ℕ) → IsJoined l piece joined held m → (o : Option (ℕ × Report)) → prefix_of l.prefaced l.wire joined ≡ o → prefix_of l.prefaced l.wire (l.rest ++ piece) ≡ o
prefix_is l piece joined held m j o h =
    sym (enough l.prefaced l.wire l.rest piece m (part_size l.prefaced l.wire l.rest j.part) j.more)
    ∙ (sym (ap (λ (t : List ℕ). prefix_of l.prefaced l.wire t) j.joined_is) ∙ h)

pub received_some : (l : Seen) (piece joined none : List ℕ) (held m x : ℕ) (w : Wire) (news : Option RequestNews) → IsJoined l piece joined held m → none ≡ [] → prefix_reported (Some (x, news)) w ≡ prefix_of l.prefaced l.wire joined → ◌≡◌ {A = Receiving} (record { taken = x - held; link = record { prefaced = true; wire = w; rest = none }; news = news }) (handled l piece)
received_some l piece joined none held m x w news j e h =
    let all = prefix_is l piece joined held m j (Some (x, record { wire = w; news = news })) (sym h) in
    let plain : ◌≡◌ {A = Receiving} (record { taken = x - length l.rest; link = record { prefaced = true; wire = w; rest = [] }; news = news }) (handled l piece) = sym (ap (received_with l piece) all) in
    ap₂ (λ (n : ℕ) (t : List ℕ). record { taken = x - n; link = record { prefaced = true; wire = w; rest = t }; news = news }) j.held_is e ∙ plain

pub some_bounds : (l : Seen) (piece joined : List ℕ) (held m x : ℕ) (w : Wire) (news : Option RequestNews) → IsJoined l piece joined held m → prefix_reported (Some (x, news)) w ≡ prefix_of l.prefaced l.wire joined → (held ≤ x) × (1 ≤ x - held) × (x - held ≤ length piece)
some_bounds l piece joined held m x w news j h =
    let all = prefix_is l piece joined held m j (Some (x, record { wire = w; news = news })) (sym h) in
    let low = afterwards l.prefaced l.wire l.rest piece (x, record { wire = w; news = news }) (part_is_none l.prefaced l.wire l.rest j.part) all in
    let high = within l.prefaced l.wire (l.rest ++ piece) (x, record { wire = w; news = news }) all in
    let sum = length-append l.rest piece in
    let same = j.held_is in
    (omega (arith, low, same), omega (arith, low, same), omega (arith, high, sum, same))

pub received_none : (l : Seen) (piece joined : List ℕ) (held m : ℕ) (w : Wire) → IsJoined l piece joined held m → w ≡ l.wire → prefix_reported None w ≡ prefix_of l.prefaced l.wire joined → ◌≡◌ {A = Receiving} (record { taken = length piece; link = record { prefaced = l.prefaced; wire = w; rest = joined }; news = None }) (handled l piece)
received_none l piece joined held m w j e h =
    let all = prefix_is l piece joined held m j None (sym h) in
    let size : length joined ≤ 16392 = none_size l.prefaced l.wire joined (sym h) in
    let le : m ≤ length piece = omega (arith, j.more) in
    let enough_all : length piece ≤ m = omega (arith, size, ap length j.joined_is, length-append l.rest (take m piece), length-take-le m piece le, j.more, part_size l.prefaced l.wire l.rest j.part) in
    let rest_is : joined ≡ l.rest ++ piece = j.joined_is ∙ ap (λ (t : List ℕ). l.rest ++ t) (take_all m piece enough_all) in
    ap₂ (λ (v : Wire) (t : List ℕ). record { taken = length piece; link = record { prefaced = l.prefaced; wire = v; rest = t }; news = None }) e rest_is
    ∙ sym (ap (received_with l piece) all)

-- a prefix after nothing
pub some_prefix : (g : Bool) (w w2 : Wire) (piece : List ℕ) (x : ℕ × Option RequestNews) → prefix_reported (Some x) w2 ≡ prefix_of g w piece → (1 ≤ x.0) × (x.0 ≤ length piece)
some_prefix g w w2 piece x h =
    (afterwards g w [] piece (x.0, record { wire = w2; news = x.1 }) (part_is_none g w [] (nothing_is_part g)) (sym h), within g w piece (x.0, record { wire = w2; news = x.1 }) (sym h))

-- what is kept shows nothing yet
pub kept_part : (g : Bool) (w w2 : Wire) (bytes : List ℕ) → prefix_reported None w2 ≡ prefix_of g w bytes → IsPart g bytes
kept_part g w w2 bytes h = none_is_part g w bytes (sym h)

-- a piece that is kept after nothing
pub first_part : (g : Bool) (w w2 : Wire) (piece rest kept : List ℕ) → prefix_reported None w2 ≡ prefix_of g w piece → rest ≡ [] → kept ≡ rest ++ piece → IsPart g kept
first_part g w w2 piece rest kept h e k =
    let same : kept ≡ piece = k ∙ ap (λ (t : List ℕ). t ++ piece) e in
    let P : List ℕ → Type 0 = λ t. IsPart g t in
    subst P (sym same) (kept_part g w w2 piece h)
