-- One frame is handled alike, whatever comes after it in its piece.
use Rattle.std.proofs.Common.{◌≡◌, ◌≢◌, ◌+◌, ◌-◌, ◌++◌, ◌∷◌, ◌≤◌, ◌<◌, ap, arith, refl, subst, sym, ◌∙◌, Bool, true, false, List, [], Option, None, Some, ℕ, suc, zero, append_assoc, drop, if◌then◌else◌, length, nat_lt, slice_get, take}
use Rattle.std.proofs.lemmas.List.{length-append, length-take-le, take-append-drop}
use Rattle.std.specs.Option.{option_map_or}
use Rattle.channel_core.specs.Arrivals.{frame_received, frames_after, frames_from, piece_arrived}
use Rattle.channel_core.specs.States.{StateSeen}
use Rattle.channel_core.specs.Tables.{Received, received_by, received_in, received_link, with_link}
use Rattle.channel_core.specs.declared.state.links.LinkSlot.{LinkSlot}
use Rattle.frame_cases.proofs.PieceWalks.Walk.{past}
use Rattle.grpc_link.specs.Links.{reported_all}
use Rattle.h2_frame.specs.Readings.{Partial, reading_of}
use Rattle.h2_link.proofs.Cuts.{received_stays}
use Rattle.h2_link.proofs.Prefixes.{afterwards, within}
use Rattle.h2_link.specs.Received.{Receiving, prefix_of, handled, received_with}
use Rattle.h2_link.specs.Wire.{Report, Wire}
use Rattle.ledger_stamps.specs.Steps as ledger
use Rattle.ledger_stamps.specs.Steps.{changed_at}
use Rattle.session_actions.specs.Words.{numbered}

-- two changes of one thing that do the same to it
same_in : {X : Type 0} (f g : X → X) (i : ℕ) (xs : List X) → ((x : X) → slice_get xs i ≡ Some x → f x ≡ g x) → ledger.changed f xs i ≡ ledger.changed g xs i
same_in f g i [] same = refl
same_in f g zero (x ∷ xs) same = ap (λ (y : _). y ∷ xs) (same x refl)
same_in f g (suc i) (x ∷ xs) same = ap (λ (ys : List _). x ∷ ys) (same_in f g i xs same)

same_if : {X : Type 0} (f g : X → X) (i : ℕ) (xs : List X) (b : Bool) → ((x : X) → slice_get xs i ≡ Some x → f x ≡ g x)
    → option_map_or (λ (k : ℕ). ledger.changed f xs k) (if b then Some i else None) xs ≡ option_map_or (λ (k : ℕ). ledger.changed g xs k) (if b then Some i else None) xs
same_if f g i xs true same = same_in f g i xs same
same_if f g i xs false same = refl

same_at : {X : Type 0} (f g : X → X) (n : ℕ) (xs : List X) → ((x : X) → numbered xs n ≡ Some x → f x ≡ g x) → changed_at f xs n ≡ changed_at g xs n
same_at f g zero xs same = refl
same_at f g (suc i) xs same = same_if f g i xs (nat_lt i (length xs)) same

-- a piece of which all shows one frame
one_frame : (link : ℕ) (piece : List ℕ) (x : StateSeen) (h : Received) → 1 ≤ length piece → received_in link piece x.links ≡ Some h → h.taken ≡ length piece
    → piece_arrived link piece x ≡ frame_received link h x
one_frame link [] x h some receives all = absurd (let no : ⊥ = omega (arith, some) in no)
one_frame link (b ∷ piece) x h some receives all =
    ap (λ (o : Option Received). frames_from (frames_after link piece) link o x) receives
    ∙ past link piece (h.taken - 1) (frame_received link h x) (let long : length (b ∷ piece) ≡ suc (length piece) = refl in omega (arith, all, long))

module _ (link : ℕ) (piece : List ℕ) (x : StateSeen) (slot : LinkSlot) (there : numbered x.links link ≡ Some slot) (receives : received_in link piece x.links ≡ Some (received_by slot link piece x.links))
    (receiving : (q : List ℕ) → received_in link q x.links ≡ Some (received_by slot link q x.links)) (part : reading_of slot.link.link.rest ≡ Partial) (v : ℕ × Report)
    (prefix : prefix_of slot.link.link.wire (slot.link.link.rest ++ piece) ≡ Some v) where
  abbrev h : Received
  h = received_by slot link piece x.links

  abbrev w : Wire
  w = slot.link.link.wire

  abbrev rest : List ℕ
  rest = slot.link.link.rest

  taken_is : h.taken ≡ v.0 - length rest
  taken_is = ap (λ (f : Option (ℕ × Report)). (received_with slot.link.link piece f).taken) prefix

  longer : length rest < v.0
  longer = afterwards w rest piece v part prefix

  inside : v.0 ≤ length rest + length piece
  inside = subst (λ (n : ℕ). v.0 ≤ n) (length-append rest piece) (within w (rest ++ piece) v prefix)

  fits : h.taken ≤ length piece
  fits = omega (arith, taken_is, inside, longer)

  some : 1 ≤ h.taken
  some = omega (arith, taken_is, longer)

  abbrev own : List ℕ
  own = take h.taken piece

  own_long : length own ≡ h.taken
  own_long = length-take-le h.taken piece fits

  whole : own ++ drop h.taken piece ≡ piece
  whole = take-append-drop h.taken piece

  shown : reading_of (rest ++ own) ≢ Partial
  shown p =
      let all : prefix_of w ((rest ++ own) ++ drop h.taken piece) ≡ Some v
      = ap (prefix_of w) (append_assoc rest own (drop h.taken piece) ∙ ap (λ (q : List ℕ). rest ++ q) whole) ∙ prefix in
      let less : length (rest ++ own) < v.0 = afterwards w (rest ++ own) (drop h.taken piece) v p all in
      let long : length (rest ++ own) ≡ length rest + h.taken = length-append rest own ∙ ap (λ (n : ℕ). length rest + n) own_long in
      omega (arith, less, long, taken_is, longer)

  same : handled slot.link.link piece ≡ handled slot.link.link own
  same = ap (handled slot.link.link) (sym whole) ∙ received_stays slot.link.link own (drop h.taken piece) shown

  links_same : changed_at (with_link (received_link piece)) x.links link ≡ changed_at (with_link (received_link own)) x.links link
  links_same =
      same_at (with_link (received_link piece)) (with_link (received_link own)) link x.links
      (λ k got.
      let both : Some slot ≡ Some k = sym there ∙ got in
      let one : slot ≡ k = (cc) in
      subst (λ (q : LinkSlot). with_link (received_link piece) q ≡ with_link (received_link own) q) one
      (ap (λ (q : Receiving). record slot { link = (reported_all (record { link = q.link; readers = slot.link.readers }) q.news).link }) same))

  received_same : h ≡ received_by slot link own x.links
  received_same =
      ap
      (λ (q : Receiving). record {
        links = changed_at (with_link (received_link piece)) x.links link;
        taken = q.taken;
        read = q.link.wire.read;
        news = (reported_all (record { link = q.link; readers = slot.link.readers }) q.news).news;
      }) same
      ∙ ap (λ (ls : List LinkSlot). record { links = ls; taken = (handled slot.link.link own).taken; read = (handled slot.link.link own).link.wire.read; news = (received_by slot link own x.links).news })
      links_same

  pub is_piece : piece_arrived link own x ≡ frame_received link h x
  is_piece =
      one_frame link own x h (subst (λ (n : ℕ). 1 ≤ n) (sym own_long) some) (receiving own ∙ ap (λ (q : Received). Some q) (sym received_same)) (sym own_long)
