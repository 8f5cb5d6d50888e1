-- HEADERS that are written next open a stream of a number that was not opened, on a link that takes one.
use Rattle.std.proofs.Common.{◌≡◌, ◌+◌, ◌*◌, ◌==◌, ◌&&◌, ◌^◌, not, ap, refl, sym, ◌∙◌, Bool, true, false, List, Option, None, Some, ℕ, if◌then◌else◌, length, nat_lt, slice_get, take}
use Rattle.h2_frame.specs.Frames.{FrameSeen}
use Rattle.h2_frame.specs.Numbers.{headers_type}
use Rattle.h2_frame.specs.Sent.{data_frame, headers_frame}
use Rattle.h2_link.specs.Drains.{AFrame, Sent, head_block, is_below, next, next_control, next_data, next_head, opens, outgoing, sender, sent_control, sent_head}
use Rattle.h2_link.specs.Feeds.{Line}
use Rattle.h2_link.specs.Wire.{Wire}
use Rattle.h2_link.specs.declared.control.Control.{Control}
use Rattle.link_actions.proofs.DataSent.{IsShare, share_found}
use Rattle.link_actions.proofs.Owed.{is_frame}

pub record IsFreshHead (w : Wire) (f : FrameSeen) : Type 0 where
  pub stream : f.stream ≡ 2 * w.opened + 1
  pub takes : w.retiring ≡ false

takes_by : (a b c : Bool) (t : Option ℕ) (tag : ℕ) → (if not a && b && c then t else None) ≡ Some tag → a ≡ false
takes_by false b c t tag e = refl
takes_by true b c t tag e = absurd (cc)

head_of : (w : Wire) (g : ℕ → Line) (x : Sent) (f : FrameSeen) (tag : ℕ) → opens w ≡ Some tag → sent_head w g tag ≡ x → x.frame ≡ AFrame f → IsFreshHead w f
head_of w g x f tag opens_ same frame =
    let h : FrameSeen = headers_frame (2 * w.opened + 1) (head_block w.resizes (g tag).fields) in
    let is : AFrame h ≡ AFrame f = ap (λ (y : Sent). y.frame) same ∙ frame in
    let one : h ≡ f = (cc) in
    record {
      stream = ap (λ (k : FrameSeen). k.stream) (sym one);
      takes = takes_by w.retiring (is_below (length w.live) w.limit) (nat_lt w.opened (2 ^ 30)) (slice_get w.waiting 0) tag opens_;
    }

never : (b : Bool) → b ≡ true → b ≡ false → ⊥
never true e f = (cc)
never false e f = (cc)

data_kind : (stream : ℕ) (content : List ℕ) (ends : Bool) (f : FrameSeen) → AFrame (data_frame stream content ends) ≡ AFrame f → (f.kind == headers_type) ≡ false
data_kind stream content ends f e =
    let one : data_frame stream content ends ≡ f = (cc) in ap (λ (k : FrameSeen). k.kind == headers_type) (sym one)

data_of : (w : Wire) (g : ℕ → Line) (x : Sent) (f : FrameSeen) → next_data w g (sender w.window w.initial g 0 w.live) ≡ Some x → x.frame ≡ AFrame f → (f.kind == headers_type) ≡ true
    → IsFreshHead w f
data_of w g x f found frame kind =
    let is : IsShare w g 0 w.live x = share_found w g 0 w.live x found in
    absurd (never (f.kind == headers_type) kind
    (data_kind is.stream.number (take is.share.0 (g is.stream.tag).left) is.share.1 f (sym is.frame ∙ frame)))

by_opens : (w : Wire) (g : ℕ → Line) (x : Sent) (f : FrameSeen) (o : Option ℕ) → opens w ≡ o → next_head w g o ≡ Some x → x.frame ≡ AFrame f → (f.kind == headers_type) ≡ true
    → IsFreshHead w f
by_opens w g x f (Some tag) e found frame kind =
    let same : sent_head w g tag ≡ x = (cc) in head_of w g x f tag e same frame
by_opens w g x f None e found frame kind = data_of w g x f found frame kind

by_queue : (w : Wire) (g : ℕ → Line) (x : Sent) (f : FrameSeen) (o : Option Control) → next_control w g o ≡ Some x → x.frame ≡ AFrame f → (f.kind == headers_type) ≡ true
    → IsFreshHead w f
by_queue w g x f (Some c) found frame kind =
    let same : sent_control w g c ≡ x = (cc) in
    let is : outgoing c ≡ AFrame f = ap (λ (y : Sent). y.frame) same ∙ frame in
    absurd (never (f.kind == headers_type) kind (is_frame c f is).headers)
by_queue w g x f None found frame kind = by_opens w g x f (opens w) refl found frame kind

pub fresh_head : (w : Wire) (g : ℕ → Line) (x : Sent) (f : FrameSeen) → next w g ≡ Some x → x.frame ≡ AFrame f → (f.kind == headers_type) ≡ true → IsFreshHead w f
fresh_head w g x f found frame kind = by_queue w g x f (slice_get w.queue.items 0) found frame kind
