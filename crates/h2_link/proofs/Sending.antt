-- A drain, one frame after the other.
use Rattle.std.proofs.Common.{◌≡◌, ℕ, zero, suc, ◌<◌, ◌≤◌, ◌+◌, ◌-◌, Bool, true, false, List, [], ◌∷◌, ◌++◌, length, drop, refl, sym, ◌∙◌, ap, subst, Some, None, arith, length-append, append-nil}
use Rattle.std.specs.Prelude.{Option, flat_map, slice_get, slice_set, ◌==◌, if◌then◌else◌}
use Rattle.std.specs.List.{AllByRecursion}
use Rattle.std.proofs.lemmas.Grind.{flat_map-append}
use Rattle.h2_link.specs.declared.control.Control.{Control}
use Rattle.h2_link.specs.declared.live.LiveStream.{LiveStream}
use Rattle.h2_link.specs.declared.send.Share.{Share}
use Rattle.h2_link.specs.Drains.{Outgoing, Opening, AFrame, Sent, Sends, Drains, octets_of, next, next_control, next_head, next_data, opens, may_open, sender, share_of, share_or, sent_control, sent_head, sent_data, stream_opened}
use Rattle.h2_link.specs.Feeds.{Line, Holds, fed}
use Rattle.h2_link.specs.Outcomes.{WentAs}
use Rattle.h2_link.specs.Wire.{Wire}

pub sends_more : (w : Wire) (g : ℕ → Line) (fs : List Outgoing) (w2 : Wire) (g2 : ℕ → Line) (s : Sent) → Sends w g fs w2 g2 → next w2 g2 ≡ Some s → Sends w g (fs ++ s.frame ∷ []) s.wire s.lines
sends_more w g [] w2 g2 s h n =
    let P : Wire → Type 0 = λ v. next v g ≡ Some s in
    let Q : (ℕ → Line) → Type 0 = λ v. next w2 v ≡ Some s in
    (s, subst P h.0 (subst Q h.1 n), refl, (refl, refl))
sends_more w g (f ∷ fs) w2 g2 s h n = (h.0, h.1, h.2, sends_more h.0.wire h.0.lines fs w2 g2 s h.3 n)

-- what is held stays so
fed_as : (g : ℕ → Line) (n t : ℕ) (b : Bool) → (if b then record (g t) { left = drop n (g t).left } else g t).held ≡ (g t).held
fed_as g n t true = refl
fed_as g n t false = refl

fed_held : (g : ℕ → Line) (tag n t : ℕ) → (fed g tag n t).held ≡ (g t).held
fed_held g tag n t = fed_as g n t (t == tag)

tags_fed : (g : ℕ → Line) (tag n : ℕ) (ts : List ℕ) → AllByRecursion (λ t. (g t).held ≡ true) ts → AllByRecursion (λ t. (fed g tag n t).held ≡ true) ts
tags_fed g tag n [] h = tt
tags_fed g tag n (t ∷ ts) h = (fed_held g tag n t ∙ h.0, tags_fed g tag n ts h.1)

streams_fed : (g : ℕ → Line) (tag n : ℕ) (ss : List LiveStream) → AllByRecursion (λ (s : LiveStream). (g s.tag).held ≡ true) ss → AllByRecursion (λ (s : LiveStream). (fed g tag n s.tag).held ≡ true) ss
streams_fed g tag n [] h = tt
streams_fed g tag n (s ∷ ss) h = (fed_held g tag n s.tag ∙ h.0, streams_fed g tag n ss h.1)

streams_set : (P : LiveStream → Type 0) (ss : List LiveStream) (i : ℕ) (s : LiveStream) → P s → AllByRecursion P ss → AllByRecursion P (slice_set ss i s)
streams_set P [] i s p h = tt
streams_set P (x ∷ ss) zero s p h = (p, h.1)
streams_set P (x ∷ ss) (suc i) s p h = (h.0, streams_set P ss i s p h.1)

streams_snoc : (P : LiveStream → Type 0) (ss : List LiveStream) (s : LiveStream) → P s → AllByRecursion P ss → AllByRecursion P (ss ++ s ∷ [])
streams_snoc P [] s p h = (p, tt)
streams_snoc P (x ∷ ss) s p h = (h.0, streams_snoc P ss s p h.1)

tags_rest : (P : ℕ → Type 0) (ts : List ℕ) → AllByRecursion P ts → AllByRecursion P (drop 1 ts)
tags_rest P [] h = tt
tags_rest P (t ∷ ts) h = h.1

tags_first : (P : ℕ → Type 0) (ts : List ℕ) (t : ℕ) → AllByRecursion P ts → slice_get ts 0 ≡ Some t → P t
tags_first P [] t h e = absurd (cc)
tags_first P (x ∷ ts) t h e = let same : x ≡ t = cc in subst P same h.0

share_held : (P : LiveStream → Type 0) (place : ℕ) (s : LiveStream) (o : Option (ℕ × Bool)) (other : Option Share) (x : Share) → P s → (other ≡ Some x → P x.stream) → share_or place s o other ≡ Some x → P x.stream
share_held P place s None other x p q e = q e
share_held P place s (Some y) other x p q e = let same : s ≡ x.stream = cc in subst P same p

sender_held : (P : LiveStream → Type 0) (window initial : ℕ) (g : ℕ → Line) (place : ℕ) (ss : List LiveStream) (x : Share) → AllByRecursion P ss → sender window initial g place ss ≡ Some x → P x.stream
sender_held P window initial g place [] x h e = absurd (cc)
sender_held P window initial g place (s ∷ ss) x h e =
    share_held P place s (share_of window initial s (length (g s.tag).left) (g s.tag).finished) (sender window initial g (place + 1) ss) x h.0 (λ k. sender_held P window initial g (place + 1) ss x h.1 k) e

holds_data : (w : Wire) (g : ℕ → Line) (s : Sent) (o : Option Share) → Holds w g → sender w.window w.initial g 0 w.live ≡ o → next_data w g o ≡ Some s → Holds s.wire s.lines
holds_data w g s None h e n = absurd (cc)
holds_data w g s (Some x) h e n =
    let held : (g x.stream.tag).held ≡ true = sender_held (λ (v : LiveStream). (g v.tag).held ≡ true) w.window w.initial g 0 w.live x h.live e in
    let same : sent_data w g x ≡ s = cc in
    let P : Sent → Type 0 = λ v. Holds v.wire v.lines in
    let made : Holds (sent_data w g x).wire (sent_data w g x).lines = record {
      waiting = tags_fed g x.stream.tag x.len w.waiting h.waiting;
      live = streams_set (λ (v : LiveStream). (fed g x.stream.tag x.len v.tag).held ≡ true) w.live x.place _ (fed_held g x.stream.tag x.len x.stream.tag ∙ held) (streams_fed g x.stream.tag x.len w.live h.live);
    } in subst P same made

opens_first : (w : Wire) (b : Bool) (tag : ℕ) → (if b then slice_get w.waiting 0 else None) ≡ Some tag → slice_get w.waiting 0 ≡ Some tag
opens_first w true tag e = e
opens_first w false tag e = absurd (cc)

holds_head : (w : Wire) (g : ℕ → Line) (s : Sent) (o : Option ℕ) → Holds w g → opens w ≡ o → next_head w g o ≡ Some s → Holds s.wire s.lines
holds_head w g s None h e n = holds_data w g s (sender w.window w.initial g 0 w.live) h refl n
holds_head w g s (Some tag) h e n =
    let first : slice_get w.waiting 0 ≡ Some tag = opens_first w (may_open w) tag e in
    let held : (g tag).held ≡ true = tags_first (λ t. (g t).held ≡ true) w.waiting tag h.waiting first in
    let same : sent_head w g tag ≡ s = cc in
    let P : Sent → Type 0 = λ v. Holds v.wire v.lines in
    let made : Holds (sent_head w g tag).wire (sent_head w g tag).lines = record {
      waiting = tags_rest (λ t. (g t).held ≡ true) w.waiting h.waiting;
      live = streams_snoc (λ (v : LiveStream). (g v.tag).held ≡ true) w.live (stream_opened w tag) held h.live;
    } in subst P same made

holds_control : (w : Wire) (g : ℕ → Line) (s : Sent) (o : Option Control) → Holds w g → next_control w g o ≡ Some s → Holds s.wire s.lines
holds_control w g s None h n = holds_head w g s (opens w) h refl n
holds_control w g s (Some c) h n =
    let same : sent_control w g c ≡ s = cc in
    let P : Sent → Type 0 = λ v. Holds v.wire v.lines in
    let made : Holds (sent_control w g c).wire (sent_control w g c).lines = record { waiting = h.waiting; live = h.live } in subst P same made

-- what a drain asks of its feed stays while it drains
pub holds_next : (w : Wire) (g : ℕ → Line) (s : Sent) → Holds w g → next w g ≡ Some s → Holds s.wire s.lines
holds_next w g s h n = holds_control w g s (slice_get w.queue.items 0) h n

pub some_bytes : (f : Outgoing) → 1 ≤ length (octets_of f)
some_bytes Opening = omega arith
some_bytes (AFrame f) = omega arith

-- a drain that goes on
pub record SoFar (room : ℕ) (w : Wire) (g : ℕ → Line) (out : List ℕ) (w2 : Wire) (g2 : ℕ → Line) : Type 0 where
  pub frames : List Outgoing
  pub sends : Sends w g frames w2 g2
  pub whole : out ≡ flat_map octets_of frames
  pub fits : length out ≤ room
  pub holds : Holds w2 g2

pub record GoesOn (room : ℕ) (w : Wire) (g : ℕ → Line) (out out2 : List ℕ) (w2 : Wire) (g2 : ℕ → Line) : Type 0 where
  pub so_far : SoFar room w g out2 w2 g2
  pub smaller : room - length out2 < room - length out

more_as : (room left : ℕ) (w : Wire) (g : ℕ → Line) (out : List ℕ) (w2 : Wire) (g2 : ℕ → Line) (w3 : Wire) (g3 : ℕ → Line) (out3 : List ℕ) (o : Option Sent) → SoFar room w g out w2 g2 → left ≡ room - length out → next w2 g2 ≡ o → WentAs true left w2 g2 out o w3 g3 out3 → GoesOn room w g out out3 w3 g3
more_as room left w g out w2 g2 w3 g3 out3 None f l n h = absurd h
more_as room left w g out w2 g2 w3 g3 out3 (Some s) f l n h =
    let size : length out3 ≡ length out + length (octets_of s.frame) = ap length h.2 ∙ length-append out (octets_of s.frame) in
    let some = some_bytes s.frame in
    let fit = h.3 in
    let room_is = f.fits in
    let P : Wire → Type 0 = λ v. Sends w g (f.frames ++ s.frame ∷ []) v g3 in
    let Q : (ℕ → Line) → Type 0 = λ v. Sends w g (f.frames ++ s.frame ∷ []) s.wire v in
    let R : Wire → Type 0 = λ v. Holds v g3 in
    let S : (ℕ → Line) → Type 0 = λ v. Holds s.wire v in
    record {
      so_far = record {
        frames = f.frames ++ s.frame ∷ [];
        sends = subst P (sym h.0) (subst Q (sym h.1) (sends_more w g f.frames w2 g2 s f.sends n));
        whole = h.2 ∙ (ap (λ (t : List ℕ). t ++ octets_of s.frame) f.whole ∙ (ap (λ (t : List ℕ). flat_map octets_of f.frames ++ t) (sym (append-nil (octets_of s.frame))) ∙ sym (flat_map-append octets_of f.frames (s.frame ∷ []))));
        fits = omega (arith, size, fit, l, room_is);
        holds = subst R (sym h.0) (subst S (sym h.1) (holds_next w2 g2 s f.holds n));
      };
      smaller = omega (arith, size, fit, l, room_is, some);
    }

pub more : (room left : ℕ) (w : Wire) (g : ℕ → Line) (out : List ℕ) (w2 : Wire) (g2 : ℕ → Line) (w3 : Wire) (g3 : ℕ → Line) (out3 : List ℕ) → SoFar room w g out w2 g2 → left ≡ room - length out → WentAs true left w2 g2 out (next w2 g2) w3 g3 out3 → GoesOn room w g out out3 w3 g3
more room left w g out w2 g2 w3 g3 out3 f l h = more_as room left w g out w2 g2 w3 g3 out3 (next w2 g2) f l refl h
