-- All links but those that are touched.
use Rattle.std.proofs.Common.{◌≡◌, ◌+◌, ◌∷◌, ap, arith, refl, subst, sym, ◌∙◌, Bool, true, false, List, [], Option, Some, ℕ, suc, drop, is_some, map}
use Rattle.channel_actions.proofs.Lines.{all_at_places}
use Rattle.channel_actions.proofs.Stamps.{counted_at}
use Rattle.channel_actions.specs.Links.{HasLink, IsGoing, SeesLinkOf}
use Rattle.channel_core.specs.States.{StateSeen}
use Rattle.channel_core.specs.declared.state.links.LinkSlot.{LinkSlot}
use Rattle.channel_actions.specs.KeptSessions.Kept.{NumbersCountUp, IsKept}
use Rattle.link_actions.specs.Sees.{AttemptsStandInPlace}
use Rattle.channel_actions.proofs.Links.Frames.Readers.{readers_still}
use Rattle.channel_actions.proofs.Links.Frames.Streams.{streams_still}
use Rattle.channel_actions.specs.LinkFrames.Alike.{SeesNoDifference, IsLinkStill, Numbers}
use Rattle.channel_actions.specs.LinkFrames.Laws.{LinksStay, OthersAgree}
use Rattle.session_actions.specs.Links.{is_retiring, read_bytes}
use Rattle.session_actions.specs.Words.{numbered}
use Rattle.session_actions.specs.declared.attempt.Attempt.{Attempt}
use Rattle.session_actions.specs.declared.link.Link.{Link}
use Rattle.session_actions.specs.declared.link.LinkOver.{LinkOver}
use Rattle.session_actions.specs.declared.link.Traffic.{Traffic}
use Rattle.session_actions.specs.declared.seen.Seen.{Seen}

-- attempts that are counted stand at their places
placed_from : (n : ℕ) (xs : List Attempt) → NumbersCountUp n (map (λ (a : Attempt). a.place) xs) → AttemptsStandInPlace n xs
placed_from n [] h = tt
placed_from n (a ∷ xs) h = (h.0, subst (λ (k : ℕ). AttemptsStandInPlace k xs) (let e : suc n ≡ n + 1 = omega arith in e) (placed_from (suc n) xs h.1))

module _ (touched : Numbers) (s t : Seen) (kept : IsKept s) (kept_t : IsKept t) (cannot : SeesNoDifference touched s t) (link : ℕ) (apart : touched link ≡ false)
    (l m : Link) (own : l.number ≡ link) (before : numbered s.links link ≡ Some l) (after : numbered t.links link ≡ Some m) (still : IsLinkStill l m) (slot : LinkSlot) where
  number_m : m.number ≡ link
  number_m = still.same.number ∙ own

  here : numbered s.links l.number ≡ Some l
  here = ap (numbered s.links) own ∙ before

  there : numbered t.links m.number ≡ Some m
  there = ap (numbered t.links) number_m ∙ after

  apart_l : touched l.number ≡ false
  apart_l = ap touched own ∙ apart

  bytes_same : read_bytes m ≡ read_bytes l
  bytes_same = ap (λ (ts : List Traffic). read_bytes (record l { traffic = ts })) still.same.traffic_

  going_still : IsGoing l s slot → IsGoing m t slot
  going_still g = record {
    streams = streams_still l m s t touched apart_l kept.owned (all_at_places t.attempts kept_t.attempts) cannot.attempts slot.link.link.wire _ still.same g.streams there
        (placed_from 1 t.attempts kept_t.attempts);
    readers = readers_still touched l m s t still.same.number still.same.traffic_ here there apart_l slot.link.readers kept.owned cannot.attempts g.readers;
    rest = ap (λ (n : ℕ). drop n m.received) bytes_same ∙ ap (drop (read_bytes l)) still.received ∙ g.rest;
    closed = g.closed;
  }

  slot_still : SeesLinkOf l s slot → SeesLinkOf m t slot
  slot_still h = record {
    over = ap (λ (o : Option LinkOver). is_some o) still.over ∙ h.over;
    retiring = ap (λ (ts : List Traffic). is_retiring (record l { traffic = ts })) still.same.traffic_ ∙ h.retiring;
    going = λ goes. going_still (h.going (sym still.over ∙ goes));
  }

pub others_agree : OthersAgree
others_agree touched x y s t link m sees kept kept_t slots cannot apart after =
    let one = cannot.links link m apart after in
    let had = sees.each link one.0 one.1 in
    record {
      slot = had.slot;
      there = slots link apart ∙ had.there;
      sees = slot_still touched s t kept kept_t cannot link apart one.0 m (counted_at (λ (q : Link). q.number) s.links link one.0 kept.links one.1) one.1 after one.2 had.slot had.sees;
    }

all_by : (touched : Numbers) (y : StateSeen) (t : Seen) (link : ℕ) (m : Link) → (touched link ≡ true → HasLink y t m link) → (touched link ≡ false → HasLink y t m link) → (b : Bool)
    → touched link ≡ b → HasLink y t m link
all_by touched y t link m on off true e = on e
all_by touched y t link m on off false e = off e

pub links_stay : LinksStay
links_stay touched x y s t sees kept kept_t slots cannot count these = record {
  count = count;
  each = λ link m after. all_by touched y t link m (λ e. these link m e after)
      (λ e. others_agree touched x y s t link m sees kept kept_t slots cannot e after) (touched link) refl;
}
