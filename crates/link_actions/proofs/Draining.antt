-- A drain of a link is what a session writes, frame after frame.
use Rattle.std.proofs.Common.{◌≡◌, ◌<◌, ◌≤◌, ◌∷◌, ◌++◌, ◌^◌, ap, arith, refl, subst, sym, ◌∙◌, List, [], Option, None, Some, ℕ, ◌+◌, flat_map, length, option_map}
use Rattle.h2_link.specs.Drains.{Outgoing, Sends, next, next_control, next_data, next_head, octets_of, opens, sender, sent_control, sent_head}
use Rattle.h2_link.specs.Drains.{Sent as Sending}
use Rattle.h2_link.specs.Feeds.{Line}
use Rattle.h2_link.specs.Wire.{Wire}
use Rattle.h2_link.specs.declared.control.Control.{Control}
use Rattle.link_actions.proofs.DataSent.{IsShare, share_found}
use Rattle.link_actions.proofs.Keeping.{writes_keep}
use Rattle.link_actions.proofs.Next.{writes_are_same}
use Rattle.link_actions.specs.Laws.{DrainsAreWritten, IsWritten, Writes, with_written}
use Rattle.link_actions.specs.Sees.{SeesLink, outgoing_of}
use Rattle.session_actions.specs.Writing.{bytes_of, frame_written, sendable}
use Rattle.session_actions.specs.declared.link.Link.{Link}
use Rattle.session_actions.specs.declared.link.Sent.{Sent}
use Rattle.session_actions.specs.declared.link.Sent.TheVariants as sent
use Rattle.session_actions.specs.declared.seen.Seen.{Seen}

-- the count of streams only grows
data_opened : (w : Wire) (g : ℕ → Line) (x : Sending) → next_data w g (sender w.window w.initial g 0 w.live) ≡ Some x → w.opened ≤ x.wire.opened
data_opened w g x e =
    let is : IsShare w g 0 w.live x = share_found w g 0 w.live x e in
    let same : x.wire.opened ≡ w.opened = ap (λ (v : Wire). v.opened) is.wire in omega (arith, same)

head_opened : (w : Wire) (g : ℕ → Line) (x : Sending) (o : Option ℕ) → next_head w g o ≡ Some x → w.opened ≤ x.wire.opened
head_opened w g x None e = data_opened w g x e
head_opened w g x (Some tag) e =
    let same : sent_head w g tag ≡ x = (cc) in
    let more : w.opened + 1 ≡ x.wire.opened = ap (λ (y : Sending). y.wire.opened) same in omega (arith, more)

control_opened : (w : Wire) (g : ℕ → Line) (x : Sending) (o : Option Control) → next_control w g o ≡ Some x → w.opened ≤ x.wire.opened
control_opened w g x None e = head_opened w g x (opens w) e
control_opened w g x (Some c) e =
    let same : sent_control w g c ≡ x = (cc) in
    let more : w.opened ≡ x.wire.opened = ap (λ (y : Sending). y.wire.opened) same in omega (arith, more)

next_opened : (w : Wire) (g : ℕ → Line) (x : Sending) → next w g ≡ Some x → w.opened ≤ x.wire.opened
next_opened w g x e = control_opened w g x _ e

sends_opened : (w : Wire) (g : ℕ → Line) (fs : List Outgoing) (w2 : Wire) (g2 : ℕ → Line) → Sends w g fs w2 g2 → w.opened ≤ w2.opened
sends_opened w g [] w2 g2 h = (let same : w2.opened ≡ w.opened = ap (λ (v : Wire). v.opened) h.0 in omega (arith, same))
sends_opened w g (f ∷ fs) w2 g2 h =
    let first : w.opened ≤ h.0.wire.opened = next_opened w g h.0 h.1 in
    let rest : h.0.wire.opened ≤ w2.opened = sends_opened h.0.wire h.0.lines fs w2 g2 h.3 in omega (arith, first, rest)

-- the bytes of what is written
same_bytes : (x : Sent) → bytes_of x ≡ octets_of (outgoing_of x)
same_bytes sent.Preface = refl
same_bytes (sent.Frame f) = refl

-- frame after frame
pub record AreWritten (l : Link) (s : Seen) (fs : List Outgoing) (w : Wire) (g : ℕ → Line) : Type 0 where
  pub sent : List Sent
  pub link : Link
  pub seen : Seen
  pub writes : Writes l s sent link seen
  pub bytes : flat_map bytes_of sent ≡ flat_map octets_of fs
  pub sees : SeesLink link seen w g

written_all : (l : Link) (s : Seen) (w : Wire) (g : ℕ → Line) (fs : List Outgoing) (w2 : Wire) (g2 : ℕ → Line) → SeesLink l s w g → w2.opened < 2 ^ 30 → Sends w g fs w2 g2
    → AreWritten l s fs w2 g2
written_all l s w g [] w2 g2 is less h =
    let S : Wire → Type 0 = λ v. SeesLink l s v g2 in
    let G : (ℕ → Line) → Type 0 = λ k. SeesLink l s w k in
    record { sent = []; link = l; seen = s; writes = (refl, refl); bytes = refl; sees = subst S (sym h.0) (subst G (sym h.1) is) }
written_all l s w g (f ∷ fs) w2 g2 is less h =
    let x : Sending = h.0 in
    let here : w.opened ≤ w2.opened = sends_opened w g (f ∷ fs) w2 g2 h in
    let few : w.opened < 2 ^ 30 = omega (arith, here, less) in
    let one : IsWritten l s x = writes_keep l s w g x is few h.1 in
    let rest : AreWritten (with_written one.sent l) (frame_written l.number one.sent s) fs w2 g2
    = written_all (with_written one.sent l) (frame_written l.number one.sent s) x.wire x.lines fs w2 g2 one.sees less h.3 in
    record {
      sent = one.sent ∷ rest.sent;
      link = rest.link;
      seen = rest.seen;
      writes = (one.next, rest.writes);
      bytes = ap (λ (bs : List ℕ). bs ++ flat_map bytes_of rest.sent) (same_bytes one.sent ∙ ap octets_of (one.same ∙ sym h.2)) ∙ ap (λ (bs : List ℕ). octets_of f ++ bs) rest.bytes;
      sees = rest.sees;
    }

-- and where it stops
next_by : (l : Link) (s : Seen) (o : Option Sending) (x : Sent) → sendable l s ≡ Some x → option_map outgoing_of (sendable l s) ≡ option_map (λ y. y.frame) o
    → (room_ more : ℕ) → ((y : Sending) → o ≡ Some y → room_ < more + length (octets_of y.frame)) → room_ < more + length (bytes_of x)
next_by l s None x e same room_ more stops = absurd (let never : Some (outgoing_of x) ≡ None = sym (ap (option_map outgoing_of) e) ∙ same in (let no_ : ⊥ = (cc) in no_))
next_by l s (Some y) x e same room_ more stops =
    let both : Some (outgoing_of x) ≡ Some y.frame = sym (ap (option_map outgoing_of) e) ∙ same in
    let frame : outgoing_of x ≡ y.frame = (cc) in
    subst (λ (bs : List ℕ). room_ < more + length bs) (sym (same_bytes x ∙ ap octets_of frame)) (stops y refl)

pub drains_are_written : DrainsAreWritten
drains_are_written room_ l s w w2 g g2 octets is less drains =
    let all : AreWritten l s drains.frames w2 g2 = written_all l s w g drains.frames w2 g2 is less drains.sends in
    record {
      sent = all.sent;
      link = all.link;
      seen = all.seen;
      writes = all.writes;
      bytes = drains.whole ∙ sym all.bytes;
      fits = drains.fits;
      stops = λ x e. next_by all.link all.seen (next w2 g2) x e (writes_are_same all.link all.seen w2 g2 all.sees less) room_ (length octets) drains.stops;
      sees = all.sees;
    }
