-- A frame of an attempt's stream is read: link and session agree, but for what it does to the attempt.
use Rattle.std.proofs.Common.{◌≡◌, ◌≤◌, ◌∷◌, ◌++◌, ◌&&◌, ◌==◌, ◌%◌, ap, arith, refl, subst, sym, ◌∙◌, Bool, true, false, List, [], Option, Some, ℕ, pos, ◌+ℤ◌, ◌+◌, ◌*◌, length, map, nat_lt}
use Rattle.std.specs.Option.{option_map_or}
use Rattle.std.proofs.lemmas.Bool.{eqb-true}
use Rattle.std.proofs.lemmas.Bool.Decides.{nat_tests}
use Rattle.h2_frame.specs.Frames.{FrameSeen}
use Rattle.h2_frame.specs.Numbers.{window_update_type}
use Rattle.h2_frame.specs.Payloads.{increment}
use Rattle.h2_link.specs.Feeds.{Line}
use Rattle.h2_link.specs.LinkErrors as link
use Rattle.h2_link.specs.LinkErrors.{was_opened}
use Rattle.h2_link.specs.Steps.{read_after}
use Rattle.h2_link.specs.Wire.{Wire}
use Rattle.h2_link.specs.declared.live.LiveStream.{LiveStream}
use Rattle.link_actions.proofs.Receiving.{Received}
use Rattle.link_actions.proofs.History.{raised_more, used_same}
use Rattle.link_actions.proofs.Lists.{if_false}
use Rattle.link_actions.proofs.QuietKept.{bad_by, ends_still, fed_quiet, fresh_quiet, wait_quiet}
use Rattle.link_actions.proofs.Reading.{after_frame}
use Rattle.link_actions.proofs.Written.{changed_here}
use Rattle.link_actions.specs.StreamActions.Laws.{read_link}
use Rattle.link_actions.specs.Sees.{NumbersAreDistinct, StreamsAreFed, StreamsAreFresh, StreamsAreLive, StreamsAreOpened, IsFed, SeesLink, SeesOwed, by_stream}
use Rattle.session_actions.specs.Links.{read_bytes}
use Rattle.session_actions.specs.Reading.{is_of_opened, open_block, raise_by, raised}
use Rattle.session_actions.specs.Words.{numbered}
use Rattle.session_actions.specs.Writing.{frame_read, frame_read_on, owed_for, streaming_on, waiting_on, with_frame_read}
use Rattle.session_actions.specs.declared.attempt.Attempt.{Attempt}
use Rattle.session_actions.specs.declared.link.Link.{Link}
use Rattle.session_actions.specs.declared.link.ReadFrame.{ReadFrame}
use Rattle.session_actions.specs.declared.seen.Seen.{Seen}

-- streams of the same tags are fed the same
first_tag : (m n : ℕ) (ms ns : List ℕ) → m ∷ ms ≡ n ∷ ns → (m ≡ n) × (ms ≡ ns)
first_tag m n ms ns e = (cc, cc)

fed_tagged : (l : Link) (s : Seen) (g : ℕ → Line) (xs ys : List LiveStream) (others : List Attempt) → map (λ (z : LiveStream). z.tag) ys ≡ map (λ (z : LiveStream). z.tag) xs
    → StreamsAreFed l s g xs others → StreamsAreFed l s g ys others
fed_tagged l s g [] [] [] same are = tt
fed_tagged l s g (x ∷ xs) (y ∷ ys) (a ∷ others) same are =
    let parts : (y.tag ≡ x.tag) × (map (λ (z : LiveStream). z.tag) ys ≡ map (λ (z : LiveStream). z.tag) xs)
    = first_tag y.tag x.tag (map (λ (z : LiveStream). z.tag) ys) (map (λ (z : LiveStream). z.tag) xs) same in
    (subst (λ (n : ℕ). IsFed l s a (g n)) (sym parts.0) are.0, fed_tagged l s g xs ys others parts.1 are.1)
fed_tagged l s g [] (y ∷ ys) others same are = absurd (cc)
fed_tagged l s g (x ∷ xs) [] others same are = absurd (cc)
fed_tagged l s g [] [] (a ∷ others) same are = absurd are
fed_tagged l s g (x ∷ xs) (y ∷ ys) [] same are = absurd are

-- what is read
pub read_keeps : (l : Link) (s : Seen) (w v : Wire) (g : ℕ → Line) (r : ReadFrame) → SeesLink l s w g → Received r.frame (open_block l) w v
    → r.end ≡ read_bytes l + (9 + length r.frame.payload) → link.is_unopened w.opened r.frame ≡ false → v.waiting ≡ w.waiting → v.opened ≡ w.opened
    → StreamsAreOpened 1 (2 * w.opened + 1) v.live → map (λ (z : LiveStream). z.tag) v.live ≡ map (λ (z : LiveStream). z.tag) w.live
    → StreamsAreLive (read_link r l s) v.live (by_stream (streaming_on l s)) → SeesOwed (read_link r l s) (record v { read = read_after w.read (9 + length r.frame.payload) })
    → SeesLink (read_link r l s) (frame_read_on r s l) (record v { read = read_after w.read (9 + length r.frame.payload) }) g
read_keeps l s w v g r is handled end unopened waiting opened numbers tags live owes =
    let frames : List FrameSeen = owed_for r.frame l s in
    let m : Link = with_frame_read r frames l in
    let bs : List Attempt = by_stream (streaming_on l s) in
    record {
      at = changed_here (with_frame_read r frames) l.number s.links l is.at;
      sees = record { reads = after_frame l w v r frames is.sees.reads handled end; live = live };
      owes = owes;
      waits = waiting ∙ is.waits;
      fed = fed_tagged m (frame_read_on r s l) g w.live v.live bs tags (fed_quiet l s g r frames (with_frame_read r frames) w.live bs is.fed);
      wait_fed = wait_quiet l s g r frames (with_frame_read r frames) (waiting_on l s) is.wait_fed;
      opened = subst (λ (n : ℕ). StreamsAreOpened 1 (2 * n + 1) v.live) (sym opened) numbers;
      fresh = subst (λ (n : ℕ). StreamsAreFresh m n) (sym opened) (fresh_quiet l w.opened r frames unopened is.fresh);
      tags = subst (λ (ns : List ℕ). NumbersAreDistinct (ns ++ v.waiting)) (sym tags) (subst (λ (ns : List ℕ). NumbersAreDistinct (map (λ (z : LiveStream). z.tag) w.live ++ ns)) (sym waiting) is.tags);
      places = is.places;
    }

pub read_is : (l : Link) (s : Seen) (r : ReadFrame) → numbered s.links l.number ≡ Some l → frame_read l.number r s ≡ frame_read_on r s l
read_is l s r at = ap (λ (o : Option Link). option_map_or (frame_read_on r s) o s) at

-- a frame that raises no window leaves the streams
pub live_read : (l : Link) (r : ReadFrame) (frames : List FrameSeen) (xs : List LiveStream) (others : List Attempt) → (r.frame.kind == window_update_type) ≡ false
    → StreamsAreLive l xs others → StreamsAreLive (with_frame_read r frames l) xs others
live_read l r frames [] [] none are = tt
live_read l r frames (x ∷ xs) (a ∷ others) none are =
    let m : Link = with_frame_read r frames l in
    let o : ℕ = 0 in
    let raise : raise_by x.number r.frame ≡ 0
    = if_false ((r.frame.kind == window_update_type) && (r.frame.stream == x.number)) (increment r.frame.payload) o (ap (λ (b : Bool). b && (r.frame.stream == x.number)) none) in
    let more : raised x.number m ≡ raised x.number l + raise_by x.number r.frame = raised_more x.number l r frames in
    let same : raised x.number m ≡ raised x.number l = omega (arith, raise, more) in (
      record {
        stream = are.0.stream;
        some = are.0.some;
        tag = are.0.tag;
        finished = are.0.finished ∙ sym (ends_still l r frames x.number);
        credit = ap (λ (n : ℕ). x.credit +ℤ pos n) (used_same x.number l r frames) ∙ are.0.credit ∙ ap (λ (n : ℕ). pos n) (sym same);
      },
      live_read l r frames xs others none are.1,
    )
live_read l r frames [] (a ∷ others) none are = absurd are
live_read l r frames (x ∷ xs) [] none are = absurd are

-- the streams that were opened
less_low : (n m : ℕ) → nat_lt n m ≡ true → n ≤ m
less_low n m e = grind (arith, nat_tests, e)

low_opened : (opened stream : ℕ) (less odd : Bool) → nat_lt stream (2 * opened) ≡ less → (odd && less) ≡ true → stream ≤ 2 * opened
low_opened opened stream true odd is e = less_low stream (2 * opened) is
low_opened opened stream false true is e = absurd (cc)
low_opened opened stream false false is e = absurd (cc)

stream_by : (f : FrameSeen) (opened : ℕ) (zero_ was : Bool) → (f.stream == 0) ≡ zero_ → was_opened opened f.stream ≡ was → is_of_opened f.kind ≡ true
    → link.is_unopened opened f ≡ false → f.stream ≤ 2 * opened
stream_by f opened true was is e kind none = (let at : f.stream ≡ 0 = eqb-true f.stream 0 is in omega (arith, at))
stream_by f opened false true is e kind none = low_opened opened f.stream (nat_lt f.stream (2 * opened)) (f.stream % 2 == 1) refl e
stream_by f opened false false is e kind none = absurd (bad_by (is_of_opened f.kind) (f.stream == 0) (was_opened opened f.stream) kind is e none)

pub stream_low : (f : FrameSeen) (opened : ℕ) → is_of_opened f.kind ≡ true → link.is_unopened opened f ≡ false → f.stream ≤ 2 * opened
stream_low f opened kind none = stream_by f opened (f.stream == 0) (was_opened opened f.stream) refl refl kind none
