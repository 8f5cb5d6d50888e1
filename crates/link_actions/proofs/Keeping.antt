-- After whatever is written next a link and its session still agree.
use Rattle.std.proofs.Common.{◌≡◌, ◌∷◌, ◌++◌, ap, refl, subst, sym, ◌∙◌, Bool, true, false, List, [], Option, None, Some, ℕ, ◌+◌, ◌*◌, drop, if◌then◌else◌, map, slice_get}
use Rattle.std.specs.Option.{option_map_or}
use Rattle.h2_frame.specs.Frames.{FrameSeen}
use Rattle.h2_frame.specs.Sent.{headers_frame}
use Rattle.h2_link.specs.Drains.{head_block, may_open, next_control, next_head, opens, sent_control, sent_head, stream_opened}
use Rattle.h2_link.specs.Drains.{Sent as Sending}
use Rattle.h2_link.specs.Feeds.{Line}
use Rattle.h2_link.specs.Wire.{Wire}
use Rattle.h2_link.specs.declared.control.Control.{Control}
use Rattle.link_actions.proofs.DataSent.{share_found}
use Rattle.link_actions.proofs.HeadSent.{head_keeps_, with_attempts}
use Rattle.link_actions.proofs.Kept.{IsSending, control_keeps_, data_written, frame_of_by, sending}
use Rattle.link_actions.proofs.Opened.{IsFirst, changed_first, first_is, opened_first}
use Rattle.link_actions.proofs.Written.{is_noted, noted}
use Rattle.link_actions.specs.Laws.{IsWritten, WritesKeep, with_written}
use Rattle.link_actions.specs.Sees.{SeesLink}
use Rattle.session_actions.specs.Attempts.{with_attempt}
use Rattle.session_actions.specs.Writing.{frame_written, stream_opened_by, waiting_on, with_stream}
use Rattle.session_actions.specs.declared.attempt.Attempt.{Attempt}
use Rattle.session_actions.specs.declared.link.Link.{Link}
use Rattle.session_actions.specs.declared.link.Sent.{Sent}
use Rattle.session_actions.specs.declared.link.Sent.TheVariants as sent
use Rattle.session_actions.specs.declared.seen.Seen.{Seen}

-- the attempt of the tag that is opened
pub record IsOpening (l : Link) (s : Seen) (tag : ℕ) : Type 0 where
  pub attempt : Attempt
  pub first : slice_get (waiting_on l s) 0 ≡ Some attempt
  pub place : attempt.place ≡ tag

opening_by : (l : Link) (s : Seen) (tag : ℕ) (xs : List Attempt) → waiting_on l s ≡ xs → slice_get (map (λ (a : Attempt). a.place) xs) 0 ≡ Some tag → IsOpening l s tag
opening_by l s tag [] e is = absurd (cc)
opening_by l s tag (a ∷ xs) e is = record { attempt = a; first = ap (λ (ys : List Attempt). slice_get ys 0) e; place = (cc) }

pub opens_by : (b : Bool) (o : Option ℕ) (tag : ℕ) → (if b then o else None) ≡ Some tag → o ≡ Some tag
opens_by true o tag e = e
opens_by false o tag e = absurd (cc)

pub opening : (l : Link) (s : Seen) (w : Wire) (g : ℕ → Line) (tag : ℕ) → SeesLink l s w g → opens w ≡ Some tag → IsOpening l s tag
opening l s w g tag is e =
    opening_by l s tag (waiting_on l s) refl
    (sym (ap (λ (ns : List ℕ). slice_get ns 0) is.waits) ∙ opens_by (may_open w) (slice_get w.waiting 0) tag e)

head_written : (l : Link) (s : Seen) (w : Wire) (g : ℕ → Line) (tag : ℕ) → SeesLink l s w g → IsOpening l s tag → IsSending l s (sent_head w g tag).frame
    → IsWritten l s (sent_head w g tag)
head_written l s w g tag is at sends =
    let a : Attempt = at.attempt in
    let n : ℕ = 2 * w.opened + 1 in
    let f : FrameSeen = headers_frame n (head_block w.resizes (g tag).fields) in
    let sent_is : sends.sent ≡ sent.Frame f = frame_of_by sends.sent f sends.same in
    let place : IsFirst l n 1 s.attempts a = first_is l n 1 s.attempts a is.places at.first in
    let changed_ : stream_opened_by (sent.Frame f) l s ≡ with_attempts (opened_first l n s.attempts) s
    = ap (λ (o : Option Attempt). option_map_or (λ b. with_attempt (with_stream n) b.place s) o s) at.first
    ∙ ap (λ (ys : List Attempt). with_attempts ys s) (changed_first l n s.attempts a place) in
    let kept = head_keeps_ l s w g a (head_block w.resizes (g tag).fields) is at.first in
    let X : Sent → Type 0 = λ u. SeesLink (with_written u l) (frame_written l.number u s) (sent_head w g tag).wire g in
    let S : Seen → Type 0 = λ t. SeesLink (with_written (sent.Frame f) l) t (sent_head w g tag).wire g in
    let T : ℕ → Type 0 = λ k. SeesLink (with_written (sent.Frame f) l) (noted (sent.Frame f) l (with_attempts (opened_first l n s.attempts) s))
    (record w { waiting = drop 1 w.waiting; live = w.live ++ stream_opened w k ∷ []; opened = w.opened + 1; resizes = false }) g in
    record {
      sent = sends.sent;
      next = sends.next;
      same = sends.same;
      sees = subst X (sym sent_is) (subst S (sym (is_noted l s (sent.Frame f) is.at ∙ ap (noted (sent.Frame f) l) changed_)) (subst T at.place kept));
    }

by_opens : (l : Link) (s : Seen) (w : Wire) (g : ℕ → Line) (x : Sending) (o : Option ℕ) → opens w ≡ o → SeesLink l s w g → IsSending l s x.frame → next_head w g o ≡ Some x → IsWritten l s x
by_opens l s w g x (Some tag) e is sends found =
    let same : sent_head w g tag ≡ x = (cc) in
    let S : Sending → Type 0 = λ y. IsSending l s y.frame in
    let R : Sending → Type 0 = λ y. IsWritten l s y in
    subst R same (head_written l s w g tag is (opening l s w g tag is e) (subst S (sym same) sends))
by_opens l s w g x None e is sends found = data_written l s w g x is sends (share_found w g 0 w.live x found)

by_queue : (l : Link) (s : Seen) (w : Wire) (g : ℕ → Line) (x : Sending) (o : Option Control) → slice_get w.queue.items 0 ≡ o → SeesLink l s w g → IsSending l s x.frame
    → next_control w g o ≡ Some x → IsWritten l s x
by_queue l s w g x (Some c) e is sends found =
    let same : sent_control w g c ≡ x = (cc) in
    let R : Sending → Type 0 = λ y. IsWritten l s y in
    subst R same (control_keeps_ l s w g c is e)
by_queue l s w g x None e is sends found = by_opens l s w g x (opens w) refl is sends found

pub writes_keep : WritesKeep
writes_keep l s w g x is less found = by_queue l s w g x (slice_get w.queue.items 0) refl is (sending l s w g x is less found) found
