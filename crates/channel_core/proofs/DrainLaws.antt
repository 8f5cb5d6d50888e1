-- What a drain leaves and gives: nothing where the link does not drain or has nothing to send, and else some bytes.
use Rattle.std.proofs.Common.{◌≡◌, ◌∙◌, ◌<◌, ◌≤◌, ℕ, ◌+◌, Bool, true, false, not, ◌&&◌, nat_le, is_some, List, [], ◌∷◌, length, flat_map, sym, ap, refl, subst, arith, length-append, Option, Some, None}
use Rattle.std.specs.Option.{is_none}
use Rattle.std.proofs.lemmas.List.Concat.{flat_map-cons}
use Rattle.grpc_base.specs.declared.event.Reply.{Reply}
use Rattle.grpc_base.specs.declared.event.Reply.TheVariants as reply
use Rattle.h2_link.specs.Drains.{Outgoing, Opening, AFrame, Sends, Sent, next, octets_of}
use Rattle.h2_link.specs.Feeds.{Line}
use Rattle.h2_link.specs.Wire.{Wire}
use Rattle.h2_link.specs.declared.news.Drained.{Drained}
use Rattle.channel_core.specs.declared.state.book.Book.{Book}
use Rattle.channel_core.specs.Books.{lines_of}
use Rattle.channel_core.specs.Draining.{DrainLeaves, octets_by, opened_by, with_streams}
use Rattle.channel_core.specs.Feeding.{IsFed}
use Rattle.channel_core.specs.States.{StateSeen}
use Rattle.channel_core.specs.Tables.{DrainGives, can_drain_at, drains_at, numbered}
use Rattle.channel_core.specs.declared.state.links.LinkSlot.{LinkSlot}

drained_none : (link room : ℕ) (s t : StateSeen) (drained : Option Drained) (fed : Book) (octets : List ℕ) → drained ≡ None → IsFed s.book fed
    → DrainGives room s.links link (lines_of s.book) drained t.links (lines_of fed) → octets ≡ [] → t ≡ record s { links = t.links; book = fed }
    → DrainLeaves link room s (reply.Octets octets) t
drained_none link room s t drained fed octets is feeds gives empty new = record {
  drained = drained;
  fed = fed;
  feeds = feeds;
  gives = gives;
  reply_is = ap (λ o. reply.Octets o) (empty ∙ sym (ap octets_by is));
  state_is = new ∙ ap (λ d. record s { links = t.links; book = with_streams (opened_by d) fed }) (sym is);
}

pub drains_none : (link room : ℕ) (v s t : StateSeen) (drained : Option Drained) (fed : Book) (octets : List ℕ) → v ≡ s → drained ≡ None → IsFed v.book fed
    → DrainGives room v.links link (lines_of v.book) drained t.links (lines_of fed) → octets ≡ [] → t ≡ record v { links = t.links; book = fed }
    → DrainLeaves link room s (reply.Octets octets) t
drains_none link room v s t drained fed octets same is feeds gives empty new =
    let P : StateSeen → Type 0 = λ u. DrainLeaves link room u (reply.Octets octets) t in
    subst P same (drained_none link room v t drained fed octets is feeds gives empty new)

-- where nothing stands next to be sent, nothing is
nothing_sent : (w : Wire) (g : ℕ → Line) (frames : List Outgoing) (w2 : Wire) (g2 : ℕ → Line) → next w g ≡ None → Sends w g frames w2 g2 → flat_map octets_of frames ≡ []
nothing_sent w g [] w2 g2 none sends = refl
nothing_sent w g (f ∷ frames) w2 g2 none sends = let is : next w g ≡ Some sends.0 = sends.1 in absurd (let no : ⊥ = (cc) in no)

nothing_next : {X Y : Type 0} (room : ℕ) (broken : Option X) (n : Option Y) → (not (is_some broken) && nat_le 16393 room) ≡ true → (is_none broken && is_some n) ≡ false → n ≡ None
nothing_next room (Some b) n may cannot = absurd (let no : ⊥ = (cc) in no)
nothing_next room None None may cannot = refl
nothing_next room None (Some x) may cannot = absurd (let no : ⊥ = (cc) in no)

nothing_given : (room : ℕ) (links : List LinkSlot) (link : ℕ) (lines : ℕ → Line) (drained : Option Drained) (after : List LinkSlot) (lines_after : ℕ → Line) → can_drain_at lines (numbered links link) ≡ false
    → DrainGives room links link lines drained after lines_after → octets_by drained ≡ []
nothing_given room links link lines None after lines_after cannot gives = refl
nothing_given room links link lines (Some d) after lines_after cannot gives =
    let wire : Wire = gives.before.link.link.wire in
    let none : next wire lines ≡ None = nothing_next room wire.broken (next wire lines) gives.drains.may (sym (ap (can_drain_at lines) gives.was) ∙ cannot) in
    gives.drains.sends.whole ∙ nothing_sent wire lines gives.drains.sends.frames gives.after.link.link.wire lines_after none gives.drains.sends.sends

-- a drain gives nothing of a link of which a look shows that it cannot be drained
pub gives_nothing : (link room : ℕ) (s t : StateSeen) (r : Reply) → can_drain_at (lines_of s.book) (numbered s.links link) ≡ false → DrainLeaves link room s r t → r ≡ reply.Octets []
gives_nothing link room s t r cannot leaves =
    leaves.reply_is ∙ ap (λ o. reply.Octets o) (nothing_given room s.links link (lines_of s.book) leaves.drained t.links (lines_of leaves.fed) cannot leaves.gives)
