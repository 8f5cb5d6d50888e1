-- After a control frame and after DATA a link and its session still agree.
use Rattle.std.proofs.Common.{◌≡◌, ◌<◌, ◌≤◌, ◌∷◌, ◌++◌, ◌==◌, ◌^◌, ap, arith, refl, subst, sym, ◌∙◌, Bool, true, false, List, [], Option, None, Some, Ok, ℕ, pos, ◌-ℤ◌, ◌+◌, ◌-◌, ◌*◌, cond, count_by, drop, filter, filter_map, fold, if◌then◌else◌, is_none, length, map, min, option_map, slice_get, slice_set, take}
use Rattle.std.specs.List.{AllByRecursion, list_any}
use Rattle.std.specs.Option.{option_map_or, unwrap_or}
use Rattle.std.proofs.lemmas.List.{length-take-le}
use Rattle.h2_frame.specs.Frames.{FrameSeen}
use Rattle.h2_frame.specs.Numbers.{goaway_type, headers_type, settings_type}
use Rattle.h2_frame.specs.Sent.{data_frame}
use Rattle.h2_hpack.specs.Blocks.{state_after}
use Rattle.h2_hpack.specs.Tables.{new_table}
use Rattle.h2_link.specs.Drains.{AFrame, Opening, Outgoing, least_of, next, outgoing, sent_control}
use Rattle.h2_link.specs.Drains.{Sent as Sending}
use Rattle.h2_link.specs.Feeds.{Line, fed}
use Rattle.h2_link.specs.Wire.{Wire}
use Rattle.h2_link.specs.declared.control.Control.{Control}
use Rattle.h2_link.specs.declared.live.LiveStream.{LiveStream}
use Rattle.lb_policy.specs.Table.{is_one_of}
use Rattle.link_actions.proofs.DataSent.{Allows, IsShare, allows, data_fed, data_fresh, data_live, data_waits, number_below, same_opened, same_tags, tag_apart, within_left, within_window}
use Rattle.link_actions.proofs.History.{block_step}
use Rattle.link_actions.proofs.Lists.{if_false, or_none}
use Rattle.link_actions.proofs.Next.{writes_are_same}
use Rattle.link_actions.proofs.Owed.{IsControlFrame, begun_more, controls_are_same, counts_none, frames_more, is_frame, names_same, no_stream, owes_more, owes_next, owes_written, read_same, setting_in, settings_in_}
use Rattle.link_actions.proofs.Written.{IsUnwritten, all_still, frame_unwritten, is_noted, keeps, live_still, noted, preface_unwritten, raised_still, still_fresh, used_more, waits_still}
use Rattle.link_actions.specs.Laws.{IsControlSent, IsWritten, with_written}
use Rattle.link_actions.specs.Sees.{NumbersAreDistinct, IsBlock, SeesLink, SeesOwed, SeesRead, acknowledged, by_stream, named_in, odds, outgoing_of}
use Rattle.session_actions.specs.Links.{frames_read, frames_written, is_settings}
use Rattle.session_actions.specs.Reading.{blocks_from, opened_streams, outstanding_on, raised, used}
use Rattle.session_actions.specs.Words.{last_of}
use Rattle.session_actions.specs.Writing.{controls_written, frame_written, has_begun, is_control, owes_update, sendable, stream_opened_by, streaming_on, table_sizes_named, waiting_on}
use Rattle.session_actions.specs.declared.attempt.Attempt.{Attempt}
use Rattle.session_actions.specs.declared.link.Link.{Link}
use Rattle.session_actions.specs.declared.link.OpenBlock.{OpenBlock}
use Rattle.session_actions.specs.declared.link.ReadFrame.{ReadFrame}
use Rattle.session_actions.specs.declared.link.Sent.{Sent}
use Rattle.session_actions.specs.declared.link.Sent.TheVariants as sent
use Rattle.session_actions.specs.declared.seen.Seen.{Seen}

-- what is sent is what the session writes
pub record IsSending (l : Link) (s : Seen) (y : Outgoing) : Type 0 where
  pub sent : Sent
  pub next : sendable l s ≡ Some sent
  pub same : outgoing_of sent ≡ y

sending_by : (l : Link) (s : Seen) (o : Option Sent) (y : Outgoing) → sendable l s ≡ o → option_map outgoing_of o ≡ Some y → IsSending l s y
sending_by l s None y e is = absurd (cc)
sending_by l s (Some z) y e is = record { sent = z; next = e; same = (cc) }

pub sending : (l : Link) (s : Seen) (w : Wire) (g : ℕ → Line) (x : Sending) → SeesLink l s w g → w.opened < 2 ^ 30 → next w g ≡ Some x → IsSending l s x.frame
sending l s w g x is less e =
    sending_by l s (sendable l s) x.frame refl (writes_are_same l s w g is less ∙ ap (λ (o : Option Sending). option_map (λ z. z.frame) o) e)

pub frame_of_by : (z : Sent) (f : FrameSeen) → outgoing_of z ≡ AFrame f → z ≡ sent.Frame f
frame_of_by sent.Preface f e = absurd (cc)
frame_of_by (sent.Frame h) f e = ap (λ k. sent.Frame k) (let same : h ≡ f = (cc) in same)

-- what is read stays
pub reads_on : (l : Link) (x : Sent) (w v : Wire) → SeesRead l w → v.broken ≡ w.broken → v.read ≡ w.read → v.ready ≡ w.ready → v.retiring ≡ w.retiring → v.limit ≡ w.limit
    → v.initial ≡ w.initial → v.block ≡ w.block → v.table ≡ w.table → v.window + used 0 (with_written x l) ≡ 65535 + raised 0 (with_written x l)
    → opened_streams (with_written x l) ≡ odds v.opened → SeesRead (with_written x l) v
reads_on l x w v sees whole read ready retiring limit initial block table window opened =
    let same : frames_read (with_written x l) ≡ frames_read l = read_same l x in
    let B : Option OpenBlock → Type 0 = λ o. IsBlock v.block o in
    record {
      whole = whole ∙ sees.whole;
      read = read ∙ sees.read ∙ ap (λ (rs : List ReadFrame). min (option_map_or (λ (r : ReadFrame). r.end) (last_of rs) 0) 18446744073709551615) (sym same);
      ready = ready ∙ sees.ready ∙ ap (λ (rs : List ReadFrame). list_any (λ r. is_settings r.frame) rs) (sym same);
      retiring = retiring ∙ sees.retiring ∙ ap (λ (rs : List ReadFrame). list_any (λ r. r.frame.kind == goaway_type) rs) (sym same);
      limit = limit ∙ sees.limit ∙ ap (setting_in 3) (sym same);
      initial = initial ∙ sees.initial ∙ ap (λ (rs : List ReadFrame). unwrap_or (setting_in 4 rs) 65535) (sym same);
      window = window;
      opened = opened;
      block = subst B (ap (λ (rs : List ReadFrame). fold block_step None rs) (sym same)) (subst (λ b. IsBlock b (fold block_step None (frames_read l))) (sym block) sees.block);
      table = table ∙ sees.table ∙ ap (λ (rs : List ReadFrame). state_after (Ok new_table) (blocks_from None rs)) (sym same);
    }

-- what is owed stays, but for control frames
pub owed_still : (l : Link) (w v : Wire) (f : FrameSeen) → SeesOwed l w → v.queue.items ≡ w.queue.items → is_control f ≡ false → (f.kind == settings_type) ≡ false
    → v.resizes ≡ owes_next (drop (acknowledged l) (table_sizes_named l)) (owes_update l) f → SeesOwed (with_written (sent.Frame f) l) v
owed_still l w v f owes items control settings_ resizes =
    let m : Link = with_written (sent.Frame f) l in
    let begun : has_begun m ≡ has_begun l = begun_more l (sent.Frame f) ∙ or_none (has_begun l) in
    let controls : controls_written m ≡ controls_written l = ap (count_by is_control) (frames_more l f) ∙ counts_none is_control (frames_written l) f control in
    let acks : acknowledged m ≡ acknowledged l = ap settings_in_ (frames_more l f) ∙ counts_none (λ (h : FrameSeen). h.kind == settings_type) (frames_written l) f settings_ in
    record {
      queue = ap (map outgoing) items ∙ owes.queue
          ∙ ap (λ (b : Bool). (if b then [] else Opening ∷ []) ++ map (λ h. AFrame h) (drop (controls_written l) l.owed)) (sym begun)
          ∙ ap (λ (n : ℕ). (if has_begun m then [] else Opening ∷ []) ++ map (λ h. AFrame h) (drop n l.owed)) (sym controls);
      names = ap (filter_map named_in) items ∙ owes.names ∙ ap (λ (n : ℕ). drop n (table_sizes_named l)) (sym acks) ∙ ap (drop (acknowledged m)) (sym (names_same l (sent.Frame f)));
      resizes = resizes ∙ sym (owes_more (table_sizes_named l) false (frames_written l) f) ∙ sym (owes_written l (sent.Frame f) (frames_written l ++ f ∷ []) (frames_more l f));
      written = subst (λ (n : ℕ). n ≤ length l.owed) (sym controls) owes.written;
      answered = subst (λ (n : ℕ). n ≤ length (table_sizes_named m)) (sym acks) (subst (λ (ns : List Bool). acknowledged l ≤ length ns) (sym (names_same l (sent.Frame f))) owes.answered);
    }

-- DATA
none_is : (o : Option ℕ) → is_none o ≡ true → o ≡ None
none_is None e = refl
none_is (Some n) e = absurd (cc)

waiting_none_by : (b : Bool) (a : Attempt) (xs : List Attempt) → is_none a.row.stream ≡ b → AllByRecursion (λ (c : Attempt). c.row.stream ≡ None) xs
    → AllByRecursion (λ (c : Attempt). c.row.stream ≡ None) (cond b (a ∷ xs) xs)
waiting_none_by true a xs e all = (none_is a.row.stream e, all)
waiting_none_by false a xs e all = all

pub waiting_none : (xs : List Attempt) → AllByRecursion (λ (c : Attempt). c.row.stream ≡ None) (filter (λ a. is_none a.row.stream) xs)
waiting_none [] = tt
waiting_none (a ∷ xs) = waiting_none_by (is_none a.row.stream) a (filter (λ b. is_none b.row.stream) xs) refl (waiting_none xs)

data_keeps_ : (l : Link) (s : Seen) (w : Wire) (g : ℕ → Line) (y : LiveStream) (i : ℕ) (z : ℕ × Bool) → SeesLink l s w g → slice_get w.live i ≡ Some y
    → Allows w.window w.initial y (length (g y.tag).left) z
    → SeesLink (with_written (sent.Frame (data_frame y.number (take z.0 (g y.tag).left) z.1)) l) (noted (sent.Frame (data_frame y.number (take z.0 (g y.tag).left) z.1)) l s)
    (record w { window = w.window - z.0; live = slice_set w.live i (record y { finished = z.1; credit = y.credit -ℤ pos z.0 }) }) (fed g y.tag z.0)
data_keeps_ l s w g y i z is there may =
    let content : List ℕ = take z.0 (g y.tag).left in
    let f : FrameSeen = data_frame y.number content z.1 in
    let x : Sent = sent.Frame f in
    let v : LiveStream = record y { finished = z.1; credit = y.credit -ℤ pos z.0 } in
    let w2 : Wire = record w { window = w.window - z.0; live = slice_set w.live i v } in
    let len : z.0 ≡ least_of w.window w.initial y (length (g y.tag).left) = may.len in
    let of_left : least_of w.window w.initial y (length (g y.tag).left) ≤ length (g y.tag).left = within_left w.window w.initial (length (g y.tag).left) y in
    let of_window : least_of w.window w.initial y (length (g y.tag).left) ≤ w.window = within_window w.window w.initial (length (g y.tag).left) y in
    let low : z.0 ≤ length (g y.tag).left = omega (arith, len, of_left) in
    let size : length content ≡ z.0 = length-take-le z.0 (g y.tag).left low in
    let more : used 0 (with_written x l) ≡ used 0 l + length content = used_more l f 0 in
    let still : raised 0 (with_written x l) ≡ raised 0 l = raised_still l x 0 in
    let was : w.window + used 0 l ≡ 65535 + raised 0 l = is.sees.reads.window in
    let window : (w.window - z.0) + used 0 (with_written x l) ≡ 65535 + raised 0 (with_written x l) = omega (arith, more, still, was, size, len, of_window) in
    let tags : map (λ (u : LiveStream). u.tag) (slice_set w.live i v) ≡ map (λ (u : LiveStream). u.tag) w.live = same_tags i w.live y v refl there in
    let apart : is_one_of w.waiting y.tag ≡ false = tag_apart i w.live y w.waiting there is.tags in
    keeps x l s w w2 g (fed g y.tag z.0) is
    (reads_on l x w w2 is.sees.reads refl refl refl refl refl refl refl refl window (no_stream l f refl ∙ is.sees.reads.opened))
    (owed_still l w w2 f is.owes refl refl refl is.owes.resizes)
    (data_live l y content z.0 z.1 1 (2 * w.opened + 1) i w.live (by_stream (streaming_on l s)) may.open_ size is.opened is.sees.live there)
    (data_fed l s g y content z.0 z.1 1 (2 * w.opened + 1) i w.live (by_stream (streaming_on l s)) w.waiting size low is.opened is.tags is.sees.live is.fed there)
    (data_waits l s g y content z.0 z.1 (waiting_on l s) (waiting_none (outstanding_on l s)) (subst (λ (ns : List ℕ). is_one_of ns y.tag ≡ false) is.waits apart) is.wait_fed)
    refl
    (same_opened 1 (2 * w.opened + 1) i w.live y v refl there is.opened)
    (data_fresh l w.opened y.number content z.1 (number_below 1 (2 * w.opened + 1) i w.live y is.opened there) is.fresh)
    (subst (λ (ns : List ℕ). NumbersAreDistinct (ns ++ w.waiting)) (sym tags) is.tags)

-- a control frame
stays : (f : FrameSeen) (l : Link) (s : Seen) → (f.kind == headers_type) ≡ false → stream_opened_by (sent.Frame f) l s ≡ s
stays f l s e = if_false (f.kind == headers_type) _ s e

pub record IsPlain (x : Sent) (l : Link) : Type 0 where
  pub unwritten : IsUnwritten l (with_written x l)
  pub stays : (s : Seen) → stream_opened_by x l s ≡ s

pub is_plain : (x : Sent) (l : Link) (c : Control) → outgoing_of x ≡ outgoing c → IsPlain x l
is_plain sent.Preface l c e = record { unwritten = preface_unwritten l; stays = λ s. refl }
is_plain (sent.Frame f) l c e =
    let is : IsControlFrame f = is_frame c f (sym e) in
    record { unwritten = frame_unwritten l f is.not_data; stays = λ s. stays f l s is.headers }

pub control_keeps_ : (l : Link) (s : Seen) (w : Wire) (g : ℕ → Line) (c : Control) → SeesLink l s w g → slice_get w.queue.items 0 ≡ Some c → IsWritten l s (sent_control w g c)
control_keeps_ l s w g c is first =
    let k : IsControlSent l s w c g = controls_are_same l s w c g is.sees.reads is.owes first in
    let plain : IsPlain k.sent l = is_plain k.sent l c k.same in
    let m : Link = with_written k.sent l in
    let v : Wire = (sent_control w g c).wire in
    let S : Seen → Type 0 = λ t. SeesLink m t v g in
    record {
      sent = k.sent;
      next = k.next;
      same = k.same;
      sees = subst S (sym (is_noted l s k.sent is.at ∙ ap (noted k.sent l) (plain.stays s)))
          (keeps k.sent l s w v g g is k.reads k.owes (live_still l m w.live (by_stream (streaming_on l s)) plain.unwritten is.sees.live)
          (all_still l m s g w.live (by_stream (streaming_on l s)) plain.unwritten is.fed) (waits_still l m s g (waiting_on l s) plain.unwritten is.wait_fed)
          refl is.opened (still_fresh l m w.opened plain.unwritten is.fresh) is.tags);
    }

-- DATA
pub data_written : (l : Link) (s : Seen) (w : Wire) (g : ℕ → Line) (x : Sending) → SeesLink l s w g → IsSending l s x.frame → IsShare w g 0 w.live x → IsWritten l s x
data_written l s w g x is sends share =
    let y : LiveStream = share.stream in
    let z : ℕ × Bool = share.share in
    let f : FrameSeen = data_frame y.number (take z.0 (g y.tag).left) z.1 in
    let sent_is : sends.sent ≡ sent.Frame f = frame_of_by sends.sent f (sends.same ∙ share.frame) in
    let i : ℕ = share.at in
    let index : share.index ≡ share.at = (let at : share.at ≡ 0 + share.index = share.at_is in omega (arith, at)) in
    let there : slice_get w.live share.at ≡ Some y = ap (λ (n : ℕ). slice_get w.live n) (sym index) ∙ share.there in
    let kept = data_keeps_ l s w g y share.at z is there (allows w.window w.initial y (length (g y.tag).left) (g y.tag).finished z share.share_is) in
    let X : Sent → Type 0 = λ u. SeesLink (with_written u l) (frame_written l.number u s) x.wire x.lines in
    let S : Seen → Type 0 = λ t. SeesLink (with_written (sent.Frame f) l) t x.wire x.lines in
    let W : Wire → Type 0 = λ v. SeesLink (with_written (sent.Frame f) l) (noted (sent.Frame f) l s) v x.lines in
    let L : (ℕ → Line) → Type 0 = λ h. SeesLink (with_written (sent.Frame f) l) (noted (sent.Frame f) l s) (record w { window = w.window - z.0; live = slice_set w.live share.at (record y { finished = z.1; credit = y.credit -ℤ pos z.0 }) }) h in
    record {
      sent = sends.sent;
      next = sends.next;
      same = sends.same;
      sees = subst X (sym sent_is) (subst S (sym (is_noted l s (sent.Frame f) is.at)) (subst W (sym share.wire) (subst L (sym share.lines) kept)));
    }
