-- A new link on which the session has no attempt is what the session says of it.
use Rattle.std.proofs.Common.{◌≡◌, ap, arith, refl, subst, sym, List, [], filter, map}
use Rattle.h2_link.specs.Wire.{Wire, fresh_wire}
use Rattle.link_actions.proofs.Opened.{streams, waits}
use Rattle.link_actions.proofs.Reading.{new_ones_agree}
use Rattle.link_actions.specs.Sees.{StreamsAreFed, StreamsAreLive, SeesLink, SeesOwed, WaitFed, acknowledged, by_stream}
use Rattle.session_actions.specs.Subchannels.{new_link}
use Rattle.session_actions.specs.Writing.{controls_written, streaming_on, waiting_on}
use Rattle.session_actions.specs.declared.attempt.Attempt.{Attempt}
use Rattle.session_actions.specs.declared.link.Link.{Link}
use Rattle.link_actions.specs.StreamActions.Laws.{NewLinksAgree}
use Rattle.link_actions.specs.StreamActions.Sees.{ResponsesAreReceived}

pub new_links_agree : NewLinksAgree
new_links_agree number sub t s g at none places =
    let l : Link = new_link number sub t in
    let w : Wire = fresh_wire in
    let no_streams : by_stream (streaming_on l s) ≡ [] = ap by_stream (ap (filter streams) none) in
    let none_waits : waiting_on l s ≡ [] = ap (filter waits) none in
    let written : controls_written l ≡ 0 = refl in
    let answered : acknowledged l ≡ 0 = refl in
    let owes : SeesOwed l w = record {
      queue = refl;
      names = refl;
      resizes = refl;
      written = (omega (arith, written));
      answered = (omega (arith, answered));
    } in
    let link_ : SeesLink l s w g = record {
      at = at;
      sees = record { reads = new_ones_agree number sub t; live = subst (λ (xs : List Attempt). StreamsAreLive l [] xs) (sym no_streams) tt };
      owes = owes;
      waits = ap (map (λ (a : Attempt). a.place)) (sym none_waits);
      fed = subst (λ (xs : List Attempt). StreamsAreFed l s g [] xs) (sym no_streams) tt;
      wait_fed = subst (WaitFed l s g) (sym none_waits) tt;
      opened = tt;
      fresh = λ k above. (refl, refl, refl);
      tags = tt;
      places = places;
    } in
    record {
      sees = link_;
      handled = subst (λ (xs : List Attempt). ResponsesAreReceived l s [] xs) (sym no_streams) tt;
      unreceived = λ limit k above going. record { head = refl; goes = refl; small = refl };
      begun = tt;
    }
