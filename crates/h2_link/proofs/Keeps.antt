-- What sending leaves as it was, and that DATA keeps both windows.
use Rattle.std.proofs.Common.{◌≡◌, ℕ, ◌+◌, Bool, true, false, List, [], ◌∷◌, length, refl, sym, ◌∙◌, subst, Some, None, arith}
use Rattle.std.specs.Prelude.{Option, slice_get, nat_lt, ◌||◌, ◌&&◌, ◌==◌, if◌then◌else◌}
use Rattle.h2_link.specs.declared.control.Control.{Control}
use Rattle.h2_link.specs.declared.live.LiveStream.{LiveStream}
use Rattle.h2_link.specs.declared.send.Share.{Share}
use Rattle.h2_link.specs.Drains.{Outgoing, Sent, Sends, next, next_control, next_head, next_data, opens, sender, share_as, share_of, share_or, least_of, sent_control, sent_head, sent_data}
use Rattle.h2_link.specs.Feeds.{Line}
use Rattle.h2_link.specs.Laws.{KeepsReceived, KeepsWindows}
use Rattle.h2_link.specs.Wire.{Wire}

self_kept : (w : Wire) → KeepsReceived w w
self_kept w = record { read = refl; broken = refl; ready = refl; retiring = refl; settings = (refl, refl); block = refl; table = refl }

kept_on : (a b c : Wire) → KeepsReceived a b → KeepsReceived b c → KeepsReceived a c
kept_on a b c h k = record {
  read = k.read ∙ h.read;
  broken = k.broken ∙ h.broken;
  ready = k.ready ∙ h.ready;
  retiring = k.retiring ∙ h.retiring;
  settings = (k.settings.0 ∙ h.settings.0, k.settings.1 ∙ h.settings.1);
  block = k.block ∙ h.block;
  table = k.table ∙ h.table;
}

data_keeps : (w : Wire) (g : ℕ → Line) (s : Sent) (o : Option Share) → next_data w g o ≡ Some s → KeepsReceived w s.wire
data_keeps w g s None n = absurd (cc)
data_keeps w g s (Some x) n =
    let same : sent_data w g x ≡ s = cc in
    let P : Sent → Type 0 = λ v. KeepsReceived w v.wire in
    let made : KeepsReceived w (sent_data w g x).wire = record { read = refl; broken = refl; ready = refl; retiring = refl; settings = (refl, refl); block = refl; table = refl } in
    subst P same made

head_keeps : (w : Wire) (g : ℕ → Line) (s : Sent) (o : Option ℕ) → next_head w g o ≡ Some s → KeepsReceived w s.wire
head_keeps w g s None n = data_keeps w g s (sender w.window w.initial g 0 w.live) n
head_keeps w g s (Some tag) n =
    let same : sent_head w g tag ≡ s = cc in
    let P : Sent → Type 0 = λ v. KeepsReceived w v.wire in
    let made : KeepsReceived w (sent_head w g tag).wire = record { read = refl; broken = refl; ready = refl; retiring = refl; settings = (refl, refl); block = refl; table = refl } in
    subst P same made

control_keeps : (w : Wire) (g : ℕ → Line) (s : Sent) (o : Option Control) → next_control w g o ≡ Some s → KeepsReceived w s.wire
control_keeps w g s None n = head_keeps w g s (opens w) n
control_keeps w g s (Some c) n =
    let same : sent_control w g c ≡ s = cc in
    let P : Sent → Type 0 = λ v. KeepsReceived w v.wire in
    let made : KeepsReceived w (sent_control w g c).wire = record { read = refl; broken = refl; ready = refl; retiring = refl; settings = (refl, refl); block = refl; table = refl } in
    subst P same made

pub next_keeps : (w : Wire) (g : ℕ → Line) (s : Sent) → next w g ≡ Some s → KeepsReceived w s.wire
next_keeps w g s n = control_keeps w g s (slice_get w.queue.items 0) n

pub sends_keep : (w : Wire) (g : ℕ → Line) (fs : List Outgoing) (w2 : Wire) (g2 : ℕ → Line) → Sends w g fs w2 g2 → KeepsReceived w w2
sends_keep w g [] w2 g2 h =
    let P : Wire → Type 0 = λ v. KeepsReceived w v in subst P (sym h.0) (self_kept w)
sends_keep w g (f ∷ fs) w2 g2 h =
    kept_on w h.0.wire w2 (next_keeps w g h.0 h.1) (sends_keep h.0.wire h.0.lines fs w2 g2 h.3)

share_len : (len left : ℕ) (finished : Bool) (y : ℕ × Bool) (b : Bool) → (if b then Some (len, finished && (len == left)) else None) ≡ Some y → len ≡ y.0
share_len len left finished y true e = cc
share_len len left finished y false e = absurd (cc)

share_least : (window initial : ℕ) (s : LiveStream) (left : ℕ) (finished done : Bool) (y : ℕ × Bool) → (if done then None else share_as (least_of window initial s left) left finished) ≡ Some y → least_of window initial s left ≡ y.0
share_least window initial s left finished true y e = absurd (cc)
share_least window initial s left finished false y e =
    share_len (least_of window initial s left) left finished y (nat_lt 0 (least_of window initial s left) || (finished && (least_of window initial s left == left))) e

share_keeps : (window initial : ℕ) (s : LiveStream) (left : ℕ) (finished : Bool) (y : ℕ × Bool) → share_of window initial s left finished ≡ Some y → KeepsWindows window initial s y.0
share_keeps window initial s left finished y e =
    let same = share_least window initial s left finished s.finished y e in record {
      size = omega (arith, same);
      of_link = omega (arith, same);
      of_stream = omega (arith, same);
    }

share_or_keeps : (window initial place : ℕ) (s : LiveStream) (o : Option (ℕ × Bool)) (other : Option Share) (x : Share) → ((y : ℕ × Bool) → o ≡ Some y → KeepsWindows window initial s y.0) → (other ≡ Some x → KeepsWindows window initial x.stream x.len) → share_or place s o other ≡ Some x → KeepsWindows window initial x.stream x.len
share_or_keeps window initial place s None other x p q e = q e
share_or_keeps window initial place s (Some y) other x p q e =
    let made = p y refl in
    let one : s ≡ x.stream = cc in
    let two : y.0 ≡ x.len = cc in
    let P : LiveStream → Type 0 = λ v. KeepsWindows window initial v y.0 in
    let Q : ℕ → Type 0 = λ v. KeepsWindows window initial x.stream v in
    subst Q two (subst P one made)

pub sender_keeps : (window initial : ℕ) (g : ℕ → Line) (place : ℕ) (ss : List LiveStream) (x : Share) → sender window initial g place ss ≡ Some x → KeepsWindows window initial x.stream x.len
sender_keeps window initial g place [] x e = absurd (cc)
sender_keeps window initial g place (s ∷ ss) x e =
    share_or_keeps window initial place s (share_of window initial s (length (g s.tag).left) (g s.tag).finished) (sender window initial g (place + 1) ss) x
    (λ y k. share_keeps window initial s (length (g s.tag).left) (g s.tag).finished y k)
    (λ k. sender_keeps window initial g (place + 1) ss x k) e
