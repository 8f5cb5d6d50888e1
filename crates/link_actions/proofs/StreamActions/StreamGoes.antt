-- A frame of an attempt's stream: what link and session have after it, before any end is acted on; and where the attempt goes on.
use Rattle.std.proofs.Common.{◌≡◌, ◌&&◌, ◌==◌, not, ap, arith, subst, sym, ◌∙◌, false, List, None, Some, ℕ, ◌+◌, ◌*◌, is_some, slice_get, slice_set}
use Rattle.std.specs.List.{list_any}
use Rattle.h2_frame.specs.Frames.{FrameSeen}
use Rattle.h2_frame.specs.Numbers.{goaway_type, push_promise_type}
use Rattle.h2_link.specs.Feeds.{Line}
use Rattle.h2_link.specs.LinkErrors as link
use Rattle.h2_link.specs.LinkErrors.{is_bad_setting, overflows_link, overflows_streams}
use Rattle.h2_link.specs.Steps.{found_from, is_numbered}
use Rattle.h2_link.specs.Wire.{Wire}
use Rattle.h2_link.specs.declared.live.LiveStream.{LiveStream}
use Rattle.link_actions.proofs.StreamActions.Found.{IsIn, IsZipped, found_at, received_at, streaming_in, zipped}
use Rattle.link_actions.proofs.QuietKept.{opened_of_error}
use Rattle.link_actions.proofs.Reading.{NoError, no_error}
use Rattle.link_actions.proofs.StreamActions.StreamEnds.{number_is}
use Rattle.link_actions.proofs.StreamActions.Unreceived.{begun_after, received_but, received_set, unreceived_read}
use Rattle.link_actions.specs.StreamActions.Laws.{Comes, Follows, GoesOn, IsOn, read_link}
use Rattle.link_actions.specs.Sees.{IsBlock, IsLive, SeesLink, by_stream}
use Rattle.link_actions.specs.StreamActions.Sees.{ResponsesAreReceived, ResponsesAreReceivedBut, NewStreamsAreUnreceived, IsBegun, IsReceived, SeesBut, SeesStreams, response_of}
use Rattle.session_actions.specs.Reading.{block_after, open_block}
use Rattle.session_actions.specs.Writing.{frame_read_on, owed_for, streaming_on, with_frame_read}
use Rattle.session_actions.specs.declared.attempt.Attempt.{Attempt}
use Rattle.session_actions.specs.declared.link.Link.{Link}
use Rattle.session_actions.specs.declared.link.ReadFrame.{ReadFrame}
use Rattle.session_actions.specs.declared.seen.Seen.{Seen}

-- the stream of an attempt, in the link
pub record Stands (l : Link) (s : Seen) (w : Wire) (n : ℕ) (a : Attempt) : Type 0 where
  pub index : ℕ
  pub stream : LiveStream
  pub there : slice_get w.live index ≡ Some stream
  pub here : slice_get (by_stream (streaming_on l s)) index ≡ Some a
  pub number : stream.number ≡ n
  pub live : IsLive l stream a
  pub handled : IsReceived l s stream a
  pub found : found_from (is_numbered n) 0 w.live ≡ Some (index, stream)

pub stands : (l : Link) (s : Seen) (w : Wire) (g : ℕ → Line) (n : ℕ) (a : Attempt) → SeesStreams l s w g → IsOn l s n a → Stands l s w n a
stands l s w g n a is on =
    let bs : List Attempt = by_stream (streaming_on l s) in
    let here : IsIn bs a = streaming_in l s n a on in
    let z : IsZipped l w.live here.index a = zipped l here.index w.live bs a is.sees.sees.live here.there in
    let number : z.stream.number ≡ n = number_is a.row.stream z.stream.number n z.live.stream on.stream in
    record {
      index = here.index;
      stream = z.stream;
      there = z.there;
      here = here.there;
      number = number;
      live = z.live;
      handled = received_at l s here.index w.live bs z.stream a is.handled z.there here.there;
      found = found_at n 0 here.index 1 (2 * w.opened + 1) here.index w.live z.stream is.sees.opened z.there number (omega arith);
    }

-- the rules that the frame keeps
pub fair_opened : (w : Wire) (f : FrameSeen) → link.link_error w f ≡ None → link.is_unopened w.opened f ≡ false
fair_opened w f fair =
    opened_of_error (not w.ready && not (link.is_preface f)) (f.kind == push_promise_type) (list_any is_bad_setting (link.settings_of f)) (link.is_misplaced w.block f)
    (link.is_unopened w.opened f) (overflows_link w.window f) (list_any (overflows_streams w.live) (link.settings_of f)) fair

pub fair_rules : (w : Wire) (f : FrameSeen) → link.link_error w f ≡ None
    → NoError (link.is_misplaced w.block f) (overflows_link w.window f) (list_any (overflows_streams w.live) (link.settings_of f))
fair_rules w f fair =
    no_error (not w.ready && not (link.is_preface f)) (f.kind == push_promise_type) (list_any is_bad_setting (link.settings_of f)) (link.is_misplaced w.block f)
    (link.is_unopened w.opened f) (overflows_link w.window f) (list_any (overflows_streams w.live) (link.settings_of f)) fair

-- what was read, with the stream as it is afterwards, whatever becomes of its attempt
pub read_but : (l : Link) (s : Seen) (w v : Wire) (g : ℕ → Line) (r : ReadFrame) (a : Attempt) (x : LiveStream) → SeesStreams l s w g → Comes l w r
    → (st : Stands l s w r.frame.stream a) → (r.frame.kind == goaway_type) ≡ false → x.tag ≡ a.place → v.live ≡ slice_set w.live st.index x → v.opened ≡ w.opened
    → IsBlock v.block (block_after (open_block l) r.frame) → SeesLink (read_link r l s) (frame_read_on r s l) v g
    → SeesBut a.place (read_link r l s) (frame_read_on r s l) v g
read_but l s w v g r a x is comes st no_goaway tag live opened block sees =
    let frames : List FrameSeen = owed_for r.frame l s in
    let m : Link = read_link r l s in
    let u : Seen = frame_read_on r s l in
    let bs : List Attempt = by_stream (streaming_on l s) in
    let none = fair_rules w r.frame comes.fair in
    let unopened : link.is_unopened w.opened r.frame ≡ false = fair_opened w r.frame comes.fair in
    record {
      sees = sees;
      handled = subst (λ (xs : List LiveStream). ResponsesAreReceivedBut a.place m u xs bs) (sym live)
          (received_but l s r frames (with_frame_read r frames) 1 (2 * w.opened + 1) st.index a.place w.live bs st.stream x no_goaway (sym st.number) is.sees.opened st.there tag is.handled);
      unreceived = subst (NewStreamsAreUnreceived m) (sym opened) (unreceived_read l w r frames is.unreceived unopened none.placed is.begun comes.next);
      begun = subst (IsBegun v.block) (sym opened) (begun_after l w v.block r.frame unopened is.sees.sees.reads.block is.begun block);
    }

one_there : (bs : List Attempt) (i : ℕ) (a b : Attempt) → slice_get bs i ≡ Some a → slice_get bs i ≡ Some b → a ≡ b
one_there bs i a b e h = (let same : Some a ≡ Some b = sym e ∙ h in (cc))

-- and where it goes on
pub read_on : (l : Link) (s : Seen) (w v : Wire) (g : ℕ → Line) (r : ReadFrame) (a : Attempt) (x : LiveStream) → SeesStreams l s w g → Comes l w r
    → (st : Stands l s w r.frame.stream a) → (r.frame.kind == goaway_type) ≡ false → x.tag ≡ a.place → x.number ≡ r.frame.stream → v.live ≡ slice_set w.live st.index x
    → v.opened ≡ w.opened → IsBlock v.block (block_after (open_block l) r.frame) → SeesLink (read_link r l s) (frame_read_on r s l) v g
    → ((response_of (read_link r l s) (frame_read_on r s l) r.frame.stream a).end ≡ None → x.head ≡ is_some (response_of (read_link r l s) (frame_read_on r s l) r.frame.stream a).head)
    → Follows (read_link r l s) (frame_read_on r s l) a r.frame.stream GoesOn v g
read_on l s w v g r a x is comes st no_goaway tag number live opened block sees head =
    let frames : List FrameSeen = owed_for r.frame l s in
    let m : Link = read_link r l s in
    let u : Seen = frame_read_on r s l in
    let n : ℕ = r.frame.stream in
    let bs : List Attempt = by_stream (streaming_on l s) in
    let but : SeesBut a.place m u v g = read_but l s w v g r a x is comes st no_goaway tag live opened block sees in (
      but,
      λ goes small.
          let own : IsReceived m u x a = record {
            head = head goes ∙ ap (λ (k : ℕ). is_some (response_of m u k a).head) (sym number);
            goes = ap (λ (k : ℕ). (response_of m u k a).end) number ∙ goes;
            small = ap (λ (k : ℕ). (response_of m u k a).large) number ∙ small;
          } in
          let only : (b : Attempt) → slice_get bs st.index ≡ Some b → IsReceived m u x b
          = λ b e. subst (IsReceived m u x) (let same : a ≡ b = one_there bs st.index a b st.here e in same) own in
          record {
            sees = sees;
            handled = subst (λ (xs : List LiveStream). ResponsesAreReceived m u xs bs) (sym live)
                (received_set l s r frames (with_frame_read r frames) 1 (2 * w.opened + 1) st.index w.live bs st.stream x no_goaway (sym st.number) is.sees.opened st.there is.handled only);
            unreceived = but.unreceived;
            begun = but.begun;
          },
    )
