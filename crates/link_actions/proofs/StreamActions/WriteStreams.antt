-- What is written leaves all responses as they are; a stream that is opened has none yet.
use Rattle.std.proofs.Common.{◌≡◌, ◌<◌, ◌≤◌, ◌∷◌, ◌++◌, ◌&&◌, ◌==◌, not, ap, arith, refl, subst, sym, ◌∙◌, Bool, true, false, List, [], Option, None, Some, ℕ, pos, ◌-ℤ◌, ◌+◌, ◌*◌, zero, suc, if◌then◌else◌, is_some, slice_get, slice_set, take}
use Rattle.std.specs.List.{list_any}
use Rattle.std.specs.Option.{option_map_or}
use Rattle.h2_frame.specs.Frames.{FrameSeen}
use Rattle.h2_frame.specs.Numbers.{goaway_type}
use Rattle.h2_frame.specs.Sent.{data_frame, headers_frame}
use Rattle.h2_link.specs.Drains.{head_block, may_open, next_control, next_head, opens, sent_control, sent_head, stream_opened}
use Rattle.h2_link.specs.Drains.{Sent as Sending}
use Rattle.h2_link.specs.Feeds.{Line}
use Rattle.h2_link.specs.Wire.{Block, Wire}
use Rattle.h2_link.specs.declared.control.Control.{Control}
use Rattle.h2_link.specs.declared.live.LiveStream.{LiveStream}
use Rattle.link_actions.proofs.DataSent.{IsShare, share_found}
use Rattle.link_actions.proofs.HeadSent.{below_all, with_attempts}
use Rattle.link_actions.proofs.Keeping.{IsOpening, opening, writes_keep}
use Rattle.link_actions.proofs.Kept.{IsPlain, frame_of_by, is_plain}
use Rattle.link_actions.proofs.Opened.{AreBelow, IsFirst, changed_first, first_is, one_more_stream, opened_first, streaming, unsorted}
use Rattle.link_actions.proofs.Owed.{read_same}
use Rattle.link_actions.proofs.Written.{is_noted, noted}
use Rattle.link_actions.specs.Laws.{IsWritten, with_written}
use Rattle.link_actions.specs.Sees.{by_stream}
use Rattle.session_actions.specs.Attempts.{with_attempt}
use Rattle.session_actions.specs.Links.{is_retiring, stream_number}
use Rattle.session_actions.specs.Responses.{limit_of_attempt, response_in}
use Rattle.session_actions.specs.Writing.{frame_written, stream_opened_by, streaming_on, with_stream}
use Rattle.session_actions.specs.declared.attempt.Attempt.{Attempt}
use Rattle.session_actions.specs.declared.link.Link.{Link}
use Rattle.session_actions.specs.declared.link.ReadFrame.{ReadFrame}
use Rattle.session_actions.specs.declared.link.Sent.{Sent}
use Rattle.session_actions.specs.declared.link.Sent.TheVariants as sent
use Rattle.session_actions.specs.declared.response.Response.{Response}
use Rattle.session_actions.specs.declared.seen.Seen.{Seen}
use Rattle.link_actions.proofs.StreamActions.Responses.{IsLike, received_like, like_written}
use Rattle.link_actions.specs.StreamActions.Laws.{IsWrittenOn, WritesKeepStreams}
use Rattle.link_actions.specs.StreamActions.Sees.{ResponsesAreReceived, NewStreamsAreUnreceived, IsBegun, IsReceived, IsUnreceived, SeesStreams, response_of}

-- each stream that was there
received_wrote : (l : Link) (s u : Seen) (z : Sent) (x : LiveStream) (a : Attempt) → limit_of_attempt a u ≡ limit_of_attempt a s → IsReceived l s x a → IsReceived (with_written z l) u x a
received_wrote l s u z x a same is =
    let p : Response = response_of l s x.number a in
    let like : IsLike p (response_in (limit_of_attempt a s) x.number (with_written z l).traffic) = like_written (limit_of_attempt a s) x.number l z is.goes is.small in
    received_like l (with_written z l) s u x x a refl (subst (λ (n : ℕ). IsLike p (response_in n x.number (with_written z l).traffic)) (sym same) like) is

all_wrote : (l : Link) (s : Seen) (z : Sent) (xs : List LiveStream) (others : List Attempt) → ResponsesAreReceived l s xs others → ResponsesAreReceived (with_written z l) (noted z l s) xs others
all_wrote l s z [] [] are = tt
all_wrote l s z (x ∷ xs) (a ∷ others) are = (received_wrote l s (noted z l s) z x a refl are.0, all_wrote l s z xs others are.1)
all_wrote l s z [] (a ∷ others) are = absurd are
all_wrote l s z (x ∷ xs) [] are = absurd are

-- a stream that has sent more
received_put : (m : Link) (u : Seen) (i : ℕ) (xs : List LiveStream) (others : List Attempt) (y v : LiveStream) → slice_get xs i ≡ Some y → v.head ≡ y.head → v.number ≡ y.number
    → ResponsesAreReceived m u xs others → ResponsesAreReceived m u (slice_set xs i v) others
received_put m u i [] [] y v e head number are = absurd (cc)
received_put m u zero (x ∷ xs) (a ∷ others) y v e head number are =
    let same : x ≡ y = (cc) in
    let is : IsReceived m u y a = subst (λ (z : LiveStream). IsReceived m u z a) same are.0 in (
      record {
        head = head ∙ is.head ∙ ap (λ (n : ℕ). is_some (response_of m u n a).head) (sym number);
        goes = ap (λ (n : ℕ). (response_of m u n a).end) number ∙ is.goes;
        small = ap (λ (n : ℕ). (response_of m u n a).large) number ∙ is.small;
      },
      are.1,
    )
received_put m u (suc i) (x ∷ xs) (a ∷ others) y v e head number are = (are.0, received_put m u i xs others y v e head number are.1)
received_put m u i [] (a ∷ others) y v e head number are = absurd are
received_put m u i (x ∷ xs) [] y v e head number are = absurd are

-- streams that are still to be opened
retiring_same : (l : Link) (z : Sent) → is_retiring (with_written z l) ≡ is_retiring l
retiring_same l z = ap (λ (rs : List ReadFrame). list_any (λ r. r.frame.kind == goaway_type) rs) (read_same l z)

unreceived_wrote : (l : Link) (z : Sent) (limit k : ℕ) → IsUnreceived (response_in limit k l.traffic) → IsUnreceived (response_in limit k (with_written z l).traffic)
unreceived_wrote l z limit k is =
    let like : IsLike (response_in limit k l.traffic) (response_in limit k (with_written z l).traffic) = like_written limit k l z is.goes is.small in
    record { head = like.head ∙ is.head; goes = like.end ∙ is.goes; small = like.large ∙ is.small }

all_unreceived : (l : Link) (z : Sent) (opened : ℕ) → NewStreamsAreUnreceived l opened → NewStreamsAreUnreceived (with_written z l) opened
all_unreceived l z opened un limit k above going = unreceived_wrote l z limit k (un limit k above (sym (retiring_same l z) ∙ going))

-- a control frame
control_keeps : (l : Link) (s : Seen) (w : Wire) (g : ℕ → Line) (c : Control) → SeesStreams l s w g → IsWritten l s (sent_control w g c) → IsWrittenOn l s (sent_control w g c)
control_keeps l s w g c is k =
    let z : Sent = k.sent in
    let m : Link = with_written z l in
    let plain : IsPlain z l = is_plain z l c k.same in
    let u_is : frame_written l.number z s ≡ noted z l s = is_noted l s z is.sees.at ∙ ap (noted z l) (plain.stays s) in
    let H : Seen → Type 0 = λ u. ResponsesAreReceived m u w.live (by_stream (streaming_on m u)) in
    record {
      sent = z;
      next = k.next;
      same = k.same;
      sees = record {
        sees = k.sees;
        handled = subst H (sym u_is) (all_wrote l s z w.live (by_stream (streaming_on l s)) is.handled);
        unreceived = all_unreceived l z w.opened is.unreceived;
        begun = is.begun;
      };
    }

-- DATA
data_keeps : (l : Link) (s : Seen) (w : Wire) (g : ℕ → Line) (x : Sending) → SeesStreams l s w g → IsShare w g 0 w.live x → IsWritten l s x → IsWrittenOn l s x
data_keeps l s w g x is share k =
    let y : LiveStream = share.stream in
    let z : ℕ × Bool = share.share in
    let f : FrameSeen = data_frame y.number (take z.0 (g y.tag).left) z.1 in
    let sent_is : k.sent ≡ sent.Frame f = frame_of_by k.sent f (k.same ∙ share.frame) in
    let m : Link = with_written (sent.Frame f) l in
    let v : LiveStream = record y { finished = z.1; credit = y.credit -ℤ pos z.0 } in
    let bs : List Attempt = by_stream (streaming_on l s) in
    let index : share.index ≡ share.at = (let at : share.at ≡ 0 + share.index = share.at_is in omega (arith, at)) in
    let there : slice_get w.live share.at ≡ Some y = ap (λ (n : ℕ). slice_get w.live n) (sym index) ∙ share.there in
    let handled : ResponsesAreReceived m (noted (sent.Frame f) l s) (slice_set w.live share.at v) bs
    = received_put m (noted (sent.Frame f) l s) share.at w.live bs y v there refl refl (all_wrote l s (sent.Frame f) w.live bs is.handled) in
    let H : Seen → Type 0 = λ u. ResponsesAreReceived m u (slice_set w.live share.at v) (by_stream (streaming_on m u)) in
    let L : List LiveStream → Type 0 = λ xs. ResponsesAreReceived m (frame_written l.number (sent.Frame f) s) xs (by_stream (streaming_on m (frame_written l.number (sent.Frame f) s))) in
    let F : Sent → Type 0 = λ q. ResponsesAreReceived (with_written q l) (frame_written l.number q s) x.wire.live (by_stream (streaming_on (with_written q l) (frame_written l.number q s))) in
    let opened_is : x.wire.opened ≡ w.opened = ap (λ (n : Wire). n.opened) share.wire in
    let block_is : x.wire.block ≡ w.block = ap (λ (n : Wire). n.block) share.wire in
    record {
      sent = k.sent;
      next = k.next;
      same = k.same;
      sees = record {
        sees = k.sees;
        handled = subst F (sym sent_is) (subst L (sym (ap (λ (n : Wire). n.live) share.wire)) (subst H (sym (is_noted l s (sent.Frame f) is.sees.at)) handled));
        unreceived = subst (NewStreamsAreUnreceived (with_written k.sent l)) (sym opened_is) (all_unreceived l k.sent w.opened is.unreceived);
        begun = subst (λ (o : Option Block). IsBegun o x.wire.opened) (sym block_is) (subst (IsBegun w.block) (sym opened_is) is.begun);
      };
    }

-- HEADERS
received_more : (m : Link) (u : Seen) (xs : List LiveStream) (others : List Attempt) (x : LiveStream) (a : Attempt) → ResponsesAreReceived m u xs others → IsReceived m u x a
    → ResponsesAreReceived m u (xs ++ x ∷ []) (others ++ a ∷ [])
received_more m u [] [] x a are is = (is, tt)
received_more m u (y ∷ xs) (b ∷ others) x a are is = (are.0, received_more m u xs others x a are.1 is)
received_more m u [] (b ∷ others) x a are is = absurd are
received_more m u (y ∷ xs) [] x a are is = absurd are

all_changed : (m : Link) (s u : Seen) (xs : List LiveStream) (others : List Attempt) → ((a : Attempt) → limit_of_attempt a u ≡ limit_of_attempt a s) → ResponsesAreReceived m s xs others → ResponsesAreReceived m u xs others
all_changed m s u [] [] same are = tt
all_changed m s u (x ∷ xs) (a ∷ others) same are =
    let p : response_of m u x.number a ≡ response_of m s x.number a = ap (λ (n : ℕ). response_in n x.number m.traffic) (same a) in (
      record {
        head = are.0.head ∙ ap (λ (q : Response). is_some q.head) (sym p);
        goes = ap (λ (q : Response). q.end) p ∙ are.0.goes;
        small = ap (λ (q : Response). q.large) p ∙ are.0.small;
      },
      all_changed m s u xs others same are.1,
    )
all_changed m s u [] (a ∷ others) same are = absurd are
all_changed m s u (x ∷ xs) [] same are = absurd are

not_retiring : (a b c : Bool) → (not a && b && c) ≡ true → a ≡ false
not_retiring false b c e = refl
not_retiring true b c e = absurd (cc)

opens_open : (b : Bool) (o : Option ℕ) (tag : ℕ) → (if b then o else None) ≡ Some tag → b ≡ true
opens_open true o tag e = refl
opens_open false o tag e = absurd (cc)

begun_wider : (k : Option Block) (opened : ℕ) → IsBegun k opened → IsBegun k (opened + 1)
begun_wider None opened begun = tt
begun_wider (Some b) opened begun = (let low : b.number ≤ 2 * opened = begun in omega (arith, low))

head_keeps : (l : Link) (s : Seen) (w : Wire) (g : ℕ → Line) (tag : ℕ) → SeesStreams l s w g → opens w ≡ Some tag → IsWritten l s (sent_head w g tag) → IsWrittenOn l s (sent_head w g tag)
head_keeps l s w g tag is e k =
    let at : IsOpening l s tag = opening l s w g tag is.sees e in
    let a : Attempt = at.attempt in
    let n : ℕ = 2 * w.opened + 1 in
    let f : FrameSeen = headers_frame n (head_block w.resizes (g tag).fields) in
    let z : Sent = sent.Frame f in
    let sent_is : k.sent ≡ z = frame_of_by k.sent f k.same in
    let m : Link = with_written z l in
    let bs : List Attempt = by_stream (streaming_on l s) in
    let ys : List Attempt = opened_first l n s.attempts in
    let place : IsFirst l n 1 s.attempts a = first_is l n 1 s.attempts a is.sees.places at.first in
    let opened_ : stream_opened_by z l s ≡ with_attempts ys s
    = ap (λ (o : Option Attempt). option_map_or (λ b. with_attempt (with_stream n) b.place s) o s) at.first
    ∙ ap (λ (xs : List Attempt). with_attempts xs s) (changed_first l n s.attempts a place) in
    let u : Seen = noted z l (with_attempts ys s) in
    let u_is : frame_written l.number z s ≡ u = is_noted l s z is.sees.at ∙ ap (noted z l) opened_ in
    let below : AreBelow n (streaming l s.attempts) = unsorted (λ b. stream_number b < n) (streaming l s.attempts) (below_all l 1 n w.live bs is.sees.opened is.sees.sees.live) in
    let streams_ : by_stream (streaming l ys) ≡ bs ++ with_stream n a ∷ [] = one_more_stream l n s.attempts a at.first below in
    let going : is_retiring l ≡ false
    = sym is.sees.sees.reads.retiring ∙ not_retiring w.retiring _ _ (opens_open (may_open w) (slice_get w.waiting 0) tag e) in
    let above : 2 * w.opened < n = omega arith in
    let none : IsUnreceived (response_in (limit_of_attempt a s) n m.traffic) = unreceived_wrote l z (limit_of_attempt a s) n (is.unreceived (limit_of_attempt a s) n above going) in
    let x : LiveStream = stream_opened w tag in
    let new : IsReceived m u x (with_stream n a) = record { head = ap (λ o. is_some o) (sym none.head); goes = none.goes; small = none.small } in
    let old : ResponsesAreReceived m u w.live bs = all_changed m (noted z l s) u w.live bs (λ b. refl) (all_wrote l s z w.live bs is.handled) in
    let H : Seen → Type 0 = λ v. ResponsesAreReceived m v (w.live ++ x ∷ []) (by_stream (streaming_on m v)) in
    let F : Sent → Type 0 = λ q. ResponsesAreReceived (with_written q l) (frame_written l.number q s) (w.live ++ x ∷ []) (by_stream (streaming_on (with_written q l) (frame_written l.number q s))) in
    record {
      sent = k.sent;
      next = k.next;
      same = k.same;
      sees = record {
        sees = k.sees;
        handled = subst F (sym sent_is) (subst H (sym u_is) (subst (ResponsesAreReceived m u (w.live ++ x ∷ [])) (sym streams_) (received_more m u w.live bs x (with_stream n a) old new)));
        unreceived = λ limit j higher going_. all_unreceived l k.sent w.opened is.unreceived limit j (let high : 2 * (w.opened + 1) < j = higher in omega (arith, high)) going_;
        begun = begun_wider w.block w.opened is.begun;
      };
    }

-- whichever it is
by_opens : (l : Link) (s : Seen) (w : Wire) (g : ℕ → Line) (x : Sending) (o : Option ℕ) → opens w ≡ o → SeesStreams l s w g → IsWritten l s x → next_head w g o ≡ Some x → IsWrittenOn l s x
by_opens l s w g x (Some tag) e is k found =
    let same : sent_head w g tag ≡ x = (cc) in
    let K : Sending → Type 0 = λ y. IsWritten l s y in
    let R : Sending → Type 0 = λ y. IsWrittenOn l s y in
    subst R same (head_keeps l s w g tag is e (subst K (sym same) k))
by_opens l s w g x None e is k found = data_keeps l s w g x is (share_found w g 0 w.live x found) k

by_queue : (l : Link) (s : Seen) (w : Wire) (g : ℕ → Line) (x : Sending) (o : Option Control) → slice_get w.queue.items 0 ≡ o → SeesStreams l s w g → IsWritten l s x
    → next_control w g o ≡ Some x → IsWrittenOn l s x
by_queue l s w g x (Some c) e is k found =
    let same : sent_control w g c ≡ x = (cc) in
    let K : Sending → Type 0 = λ y. IsWritten l s y in
    let R : Sending → Type 0 = λ y. IsWrittenOn l s y in
    subst R same (control_keeps l s w g c is (subst K (sym same) k))
by_queue l s w g x None e is k found = by_opens l s w g x (opens w) refl is k found

pub writes_keep_streams : WritesKeepStreams
writes_keep_streams l s w g x is few found =
    by_queue l s w g x (slice_get w.queue.items 0) refl is (writes_keep l s w g x is.sees few found) found
