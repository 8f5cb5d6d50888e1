-- While a link writes, the count of its streams only grows.
use Rattle.std.proofs.Common.{◌≡◌, ◌+◌, ◌≤◌, ◌∷◌, ap, arith, List, [], Option, None, Some, ℕ, slice_get}
use Rattle.h2_link.specs.Drains.{Outgoing, Sends, next, next_control, next_data, next_head, opens, sender, sent_control, sent_head}
use Rattle.h2_link.specs.Drains.{Sent as Sending}
use Rattle.h2_link.specs.Feeds.{Line}
use Rattle.h2_link.specs.Wire.{Wire}
use Rattle.h2_link.specs.declared.control.Control.{Control}
use Rattle.link_actions.proofs.DataSent.{IsShare, share_found}

data_opened : (w : Wire) (g : ℕ → Line) (x : Sending) → next_data w g (sender w.window w.initial g 0 w.live) ≡ Some x → w.opened ≤ x.wire.opened
data_opened w g x e =
    let is : IsShare w g 0 w.live x = share_found w g 0 w.live x e in
    let same : x.wire.opened ≡ w.opened = ap (λ (v : Wire). v.opened) is.wire in omega (arith, same)

head_opened : (w : Wire) (g : ℕ → Line) (x : Sending) (o : Option ℕ) → next_head w g o ≡ Some x → w.opened ≤ x.wire.opened
head_opened w g x None e = data_opened w g x e
head_opened w g x (Some tag) e =
    let same : sent_head w g tag ≡ x = (cc) in
    let more : w.opened + 1 ≡ x.wire.opened = ap (λ (y : Sending). y.wire.opened) same in omega (arith, more)

control_opened : (w : Wire) (g : ℕ → Line) (x : Sending) (o : Option Control) → next_control w g o ≡ Some x → w.opened ≤ x.wire.opened
control_opened w g x None e = head_opened w g x (opens w) e
control_opened w g x (Some c) e =
    let same : sent_control w g c ≡ x = (cc) in
    let more : w.opened ≡ x.wire.opened = ap (λ (y : Sending). y.wire.opened) same in omega (arith, more)

next_opened : (w : Wire) (g : ℕ → Line) (x : Sending) → next w g ≡ Some x → w.opened ≤ x.wire.opened
next_opened w g x e = control_opened w g x (slice_get w.queue.items 0) e

pub sends_opened : (w : Wire) (g : ℕ → Line) (fs : List Outgoing) (w2 : Wire) (g2 : ℕ → Line) → Sends w g fs w2 g2 → w.opened ≤ w2.opened
sends_opened w g [] w2 g2 h = (let same : w2.opened ≡ w.opened = ap (λ (v : Wire). v.opened) h.0 in omega (arith, same))
sends_opened w g (f ∷ fs) w2 g2 h =
    let first : w.opened ≤ h.0.wire.opened = next_opened w g h.0 h.1 in
    let rest : h.0.wire.opened ≤ w2.opened = sends_opened h.0.wire h.0.lines fs w2 g2 h.3 in omega (arith, first, rest)
