-- After DATA a link and its session still agree.
use Rattle.std.proofs.Common.{◌≡◌, ◌<◌, ◌≤◌, ◌∷◌, ◌++◌, ◌||◌, ◌&&◌, ◌==◌, ap, arith, refl, subst, sym, ◌∙◌, Bool, true, false, List, [], Option, None, Some, ℕ, ℤ, pos, ◌+ℤ◌, ◌-ℤ◌, ◌+◌, ◌-◌, ◌*◌, zero, suc, drop, if◌then◌else◌, length, length-drop, map, nat_lt, slice_get, slice_set, take}
use Rattle.std.specs.List.{AllByRecursion}
use Rattle.std.specs.Option.{option_map_or}
use Rattle.std.proofs.lemmas.Bool.Decides.{nat_tests}
use Rattle.std.proofs.lemmas.Int.{ints}
use Rattle.std.proofs.lemmas.List.{drop-drop}
use Rattle.grpc_frame.specs.Messages.{framed_all}
use Rattle.h2_frame.specs.Frames.{FrameSeen, has_flag}
use Rattle.h2_frame.specs.Numbers.{end_stream_flag}
use Rattle.h2_frame.specs.Sent.{data_frame}
use Rattle.h2_link.specs.Drains.{AFrame, least_of, next_data, sender, share_as, share_of, share_or}
use Rattle.h2_link.specs.Drains.{Sent as Sending}
use Rattle.h2_link.specs.Feeds.{Line, fed}
use Rattle.h2_link.specs.Wire.{Wire}
use Rattle.h2_link.specs.declared.live.LiveStream.{LiveStream}
use Rattle.lb_policy.specs.Table.{is_one_of}
use Rattle.link_actions.proofs.Lists.{if_false, if_true, none_of, or_none}
use Rattle.link_actions.proofs.Written.{ends_more, fed_still, raised_still, used_more}
use Rattle.link_actions.specs.Laws.{with_written}
use Rattle.link_actions.specs.Sees.{NumbersAreDistinct, StreamsAreFed, StreamsAreFresh, StreamsAreLive, StreamsAreOpened, IsFed, IsLive, WaitFed, written_for}
use Rattle.session_actions.specs.Links.{has_written_end}
use Rattle.session_actions.specs.Reading.{is_data_on, raised, used}
use Rattle.session_actions.specs.declared.attempt.Attempt.{Attempt}
use Rattle.session_actions.specs.declared.link.Link.{Link}
use Rattle.session_actions.specs.declared.link.Sent.TheVariants as sent
use Rattle.session_actions.specs.declared.seen.Seen.{Seen}

-- the stream that sends: its place, itself, how many bytes, and whether END_STREAM
pub record IsShare (w : Wire) (g : ℕ → Line) (place : ℕ) (xs : List LiveStream) (x : Sending) : Type 0 where
  pub index : ℕ
  pub at : ℕ
  pub stream : LiveStream
  pub share : ℕ × Bool
  pub at_is : at ≡ place + index
  pub there : slice_get xs index ≡ Some stream
  pub share_is : share_of w.window w.initial stream (length (g stream.tag).left) (g stream.tag).finished ≡ Some share
  pub frame : x.frame ≡ AFrame (data_frame stream.number (take share.0 (g stream.tag).left) share.1)
  pub wire : x.wire ≡ record w {
    window = w.window - share.0;
    live = slice_set w.live at (record stream { finished = share.1; credit = stream.credit -ℤ pos share.0 });
  }
  pub lines : x.lines ≡ fed g stream.tag share.0

share_by : (w : Wire) (g : ℕ → Line) (place : ℕ) (y : LiveStream) (xs : List LiveStream) (x : Sending) (o : Option (ℕ × Bool))
    → share_of w.window w.initial y (length (g y.tag).left) (g y.tag).finished ≡ o
    → next_data w g (share_or place y o (sender w.window w.initial g (place + 1) xs)) ≡ Some x
    → (next_data w g (sender w.window w.initial g (place + 1) xs) ≡ Some x → IsShare w g (place + 1) xs x) → IsShare w g place (y ∷ xs) x
share_by w g place y xs x None e next more =
    let rest : IsShare w g (place + 1) xs x = more next in
    let at_ : rest.at ≡ place + 1 + rest.index = rest.at_is in
    record {
      index = suc rest.index;
      at = rest.at;
      stream = rest.stream;
      share = rest.share;
      at_is = (omega (arith, at_));
      there = rest.there;
      share_is = rest.share_is;
      frame = rest.frame;
      wire = rest.wire;
      lines = rest.lines;
    }
share_by w g place y xs x (Some z) e next more =
    let same : Some (record {
      frame = AFrame (data_frame y.number (take z.0 (g y.tag).left) z.1);
      wire = record w { window = w.window - z.0; live = slice_set w.live place (record y { finished = z.1; credit = y.credit -ℤ pos z.0 }) };
      lines = fed g y.tag z.0;
    }) ≡ Some x = next in
    record {
      index = 0;
      at = place;
      stream = y;
      share = z;
      at_is = (omega arith);
      there = refl;
      share_is = e;
      frame = (cc);
      wire = (cc);
      lines = (cc);
    }

pub share_found : (w : Wire) (g : ℕ → Line) (place : ℕ) (xs : List LiveStream) (x : Sending)
    → next_data w g (sender w.window w.initial g place xs) ≡ Some x → IsShare w g place xs x
share_found w g place [] x e = absurd (cc)
share_found w g place (y ∷ xs) x e =
    share_by w g place y xs x (share_of w.window w.initial y (length (g y.tag).left) (g y.tag).finished) refl e (share_found w g (place + 1) xs x)

-- what it may send
pub record Allows (window initial : ℕ) (y : LiveStream) (left : ℕ) (z : ℕ × Bool) : Type 0 where
  pub open_ : y.finished ≡ false
  pub len : z.0 ≡ least_of window initial y left

as_by : (b : Bool) (len : ℕ) (ends : Bool) (z : ℕ × Bool) → (if b then Some (len, ends) else None) ≡ Some z → z.0 ≡ len
as_by true len ends z e = sym (cc)
as_by false len ends z e = absurd (cc)

allows_by : (window initial : ℕ) (y : LiveStream) (left : ℕ) (finished : Bool) (z : ℕ × Bool) (b : Bool) → y.finished ≡ b
    → (if b then None else share_as (least_of window initial y left) left finished) ≡ Some z → Allows window initial y left z
allows_by window initial y left finished z true e is = absurd (cc)
allows_by window initial y left finished z false e is = record {
  open_ = e;
  len = as_by (nat_lt 0 (least_of window initial y left) || (finished && (least_of window initial y left == left))) (least_of window initial y left) (finished && (least_of window initial y left == left)) z is;
}

pub allows : (window initial : ℕ) (y : LiveStream) (left : ℕ) (finished : Bool) (z : ℕ × Bool) → share_of window initial y left finished ≡ Some z → Allows window initial y left z
allows window initial y left finished z e = allows_by window initial y left finished z y.finished refl e

pub within_window : (window initial left : ℕ) (y : LiveStream) → least_of window initial y left ≤ window
within_window window initial left y = omega arith

pub within_left : (window initial left : ℕ) (y : LiveStream) → least_of window initial y left ≤ left
within_left window initial left y = omega arith

-- other streams
pub record IsOther (l m : Link) (n : ℕ) : Type 0 where
  pub used_is : used n m ≡ used n l
  pub ends : has_written_end n m ≡ has_written_end n l
  pub raised_is : raised n m ≡ raised n l

pub other : (l : Link) (n : ℕ) (content : List ℕ) (ends : Bool) (k : ℕ) → (k == 0) ≡ false → (n == k) ≡ false
    → IsOther l (with_written (sent.Frame (data_frame n content ends)) l) k
other l n content ends k some apart =
    let f : FrameSeen = data_frame n content ends in
    let o : ℕ = 0 in
    let off : is_data_on k f ≡ false = ap (λ (b : Bool). b || (n == k)) some ∙ apart in
    let none : (if is_data_on k f then length content else 0) ≡ 0 = if_false (is_data_on k f) (length content) o off in
    let more : used k (with_written (sent.Frame f) l) ≡ used k l + (if is_data_on k f then length content else 0) = used_more l f k in
    record {
      used_is = (omega (arith, more, none));
      ends = ends_more l f k ∙ ap (λ (b : Bool). has_written_end k l || (b && has_flag f.flags end_stream_flag)) apart ∙ or_none (has_written_end k l);
      raised_is = raised_still l (sent.Frame f) k;
    }

live_other : (l m : Link) (x : LiveStream) (a : Attempt) → IsOther l m x.number → IsLive l x a → IsLive m x a
live_other l m x a same is = record {
  stream = is.stream;
  some = is.some;
  tag = is.tag;
  finished = is.finished ∙ sym same.ends;
  credit = ap (λ (n : ℕ). x.credit +ℤ pos n) same.used_is ∙ is.credit ∙ ap (λ (n : ℕ). pos n) (sym same.raised_is);
}

above_apart : (n k : ℕ) → n < k → (n == k) ≡ false
above_apart n k h = grind (arith, nat_tests, h)

below_apart : (n k : ℕ) → k < n → (n == k) ≡ false
below_apart n k h = grind (arith, nat_tests, h)

tail_other : (l : Link) (n : ℕ) (content : List ℕ) (ends : Bool) (first bound : ℕ) (xs : List LiveStream) (others : List Attempt) → n < first
    → StreamsAreOpened first bound xs → StreamsAreLive l xs others → StreamsAreLive (with_written (sent.Frame (data_frame n content ends)) l) xs others
tail_other l n content ends first bound [] [] low opened are = tt
tail_other l n content ends first bound (x ∷ xs) (a ∷ others) low opened are =
    let from_ : first ≤ x.number = opened.0 in
    let high : n < x.number = omega (arith, low, from_) in
    let next : n < x.number + 1 = omega (arith, high) in (
      live_other l (with_written (sent.Frame (data_frame n content ends)) l) x a (other l n content ends x.number are.0.some (above_apart n x.number high)) are.0,
      tail_other l n content ends (x.number + 1) bound xs others next opened.2 are.1,
    )
tail_other l n content ends first bound [] (a ∷ others) low opened are = absurd are
tail_other l n content ends first bound (x ∷ xs) [] low opened are = absurd are

pub number_in : (first bound i : ℕ) (xs : List LiveStream) (y : LiveStream) → StreamsAreOpened first bound xs → slice_get xs i ≡ Some y → first ≤ y.number
number_in first bound i [] y opened e = absurd (cc)
number_in first bound zero (x ∷ xs) y opened e = subst (λ (z : LiveStream). first ≤ z.number) (let same : x ≡ y = (cc) in same) opened.0
number_in first bound (suc i) (x ∷ xs) y opened e =
    let from_ : first ≤ x.number = opened.0 in
    let next : x.number + 1 ≤ y.number = number_in (x.number + 1) bound i xs y opened.2 e in omega (arith, from_, next)

-- the stream itself
flag_is : (b : Bool) → has_flag (if b then end_stream_flag else 0) end_stream_flag ≡ b
flag_is true = refl
flag_is false = refl

lowered : (c : ℤ) (len u more r : ℕ) → c +ℤ pos u ≡ pos r → more ≡ u + len → (c -ℤ pos len) +ℤ pos more ≡ pos r
lowered c len u more r e h = omega (arith, ints)

both_same : (n : ℕ) → (n == n) ≡ true
both_same n = grind (arith, nat_tests)

or_last : (a : Bool) → (a || true) ≡ true
or_last true = refl
or_last false = refl

pub used_own : (l : Link) (n : ℕ) (content : List ℕ) (ends : Bool) → used n (with_written (sent.Frame (data_frame n content ends)) l) ≡ used n l + length content
used_own l n content ends =
    let f : FrameSeen = data_frame n content ends in
    let on : is_data_on n f ≡ true = ap (λ (b : Bool). (n == 0) || b) (both_same n) ∙ or_last (n == 0) in
    used_more l f n ∙ ap (λ (k : ℕ). used n l + k) (if_true (is_data_on n f) (length content) 0 on)

own_live : (l : Link) (y : LiveStream) (a : Attempt) (content : List ℕ) (len : ℕ) (ends : Bool) → y.finished ≡ false → length content ≡ len → IsLive l y a
    → IsLive (with_written (sent.Frame (data_frame y.number content ends)) l) (record y { finished = ends; credit = y.credit -ℤ pos len }) a
own_live l y a content len ends open_ size is =
    let n : ℕ = y.number in
    let f : FrameSeen = data_frame n content ends in
    let m : Link = with_written (sent.Frame f) l in
    let more : used n m ≡ used n l + len = used_own l n content ends ∙ ap (λ (k : ℕ). used n l + k) size in
    record {
      stream = is.stream;
      some = is.some;
      tag = is.tag;
      finished = sym (
          ends_more l f n ∙ ap (λ (b : Bool). b || ((n == n) && has_flag f.flags end_stream_flag)) (sym is.finished ∙ open_)
          ∙ ap (λ (b : Bool). b && has_flag f.flags end_stream_flag) (both_same n) ∙ flag_is ends);
      credit = lowered y.credit len (used n l) (used n m) (raised n l) is.credit more ∙ ap (λ (k : ℕ). pos k) (sym (raised_still l (sent.Frame f) n));
    }

pub data_live : (l : Link) (y : LiveStream) (content : List ℕ) (len : ℕ) (ends : Bool) (first bound i : ℕ) (xs : List LiveStream) (others : List Attempt)
    → y.finished ≡ false → length content ≡ len → StreamsAreOpened first bound xs → StreamsAreLive l xs others → slice_get xs i ≡ Some y
    → StreamsAreLive (with_written (sent.Frame (data_frame y.number content ends)) l) (slice_set xs i (record y { finished = ends; credit = y.credit -ℤ pos len })) others
data_live l y content len ends first bound i [] [] open_ size opened are e = absurd (cc)
data_live l y content len ends first bound zero (x ∷ xs) (a ∷ others) open_ size opened are e =
    let same : x ≡ y = (cc) in
    let I : LiveStream → Type 0 = λ z. IsLive l z a in
    let O : LiveStream → Type 0 = λ z. StreamsAreOpened (z.number + 1) bound xs in
    let next : y.number < y.number + 1 = omega arith in
    (own_live l y a content len ends open_ size (subst I same are.0), tail_other l y.number content ends (y.number + 1) bound xs others next (subst O same opened.2) are.1)
data_live l y content len ends first bound (suc i) (x ∷ xs) (a ∷ others) open_ size opened are e =
    let high : x.number + 1 ≤ y.number = number_in (x.number + 1) bound i xs y opened.2 e in
    let low : x.number < y.number = omega (arith, high) in (
      live_other l (with_written (sent.Frame (data_frame y.number content ends)) l) x a (other l y.number content ends x.number are.0.some (below_apart y.number x.number low)) are.0,
      data_live l y content len ends (x.number + 1) bound i xs others open_ size opened.2 are.1 e,
    )
data_live l y content len ends first bound i [] (a ∷ others) open_ size opened are e = absurd are
data_live l y content len ends first bound i (x ∷ xs) [] open_ size opened are e = absurd are

-- the numbers and tags stay
pub same_opened : (first bound i : ℕ) (xs : List LiveStream) (y v : LiveStream) → v.number ≡ y.number → slice_get xs i ≡ Some y → StreamsAreOpened first bound xs
    → StreamsAreOpened first bound (slice_set xs i v)
same_opened first bound i [] y v same e opened = absurd (cc)
same_opened first bound zero (x ∷ xs) y v same e opened =
    let is : x ≡ y = (cc) in
    let number : x.number ≡ v.number = ap (λ (z : LiveStream). z.number) is ∙ sym same in
    subst (λ (n : ℕ). (first ≤ n) × (n < bound) × StreamsAreOpened (n + 1) bound xs) number opened
same_opened first bound (suc i) (x ∷ xs) y v same e opened = (opened.0, opened.1, same_opened (x.number + 1) bound i xs y v same e opened.2)

pub same_tags : (i : ℕ) (xs : List LiveStream) (y v : LiveStream) → v.tag ≡ y.tag → slice_get xs i ≡ Some y
    → map (λ (z : LiveStream). z.tag) (slice_set xs i v) ≡ map (λ (z : LiveStream). z.tag) xs
same_tags i [] y v same e = absurd (cc)
same_tags zero (x ∷ xs) y v same e =
    let is : x ≡ y = (cc) in ap (λ (n : ℕ). n ∷ map (λ (z : LiveStream). z.tag) xs) (same ∙ ap (λ (z : LiveStream). z.tag) (sym is))
same_tags (suc i) (x ∷ xs) y v same e = ap (λ (ns : List ℕ). x.tag ∷ ns) (same_tags i xs y v same e)

-- what the others are fed with
fed_other : (g : ℕ → Line) (t len k : ℕ) → (k == t) ≡ false → fed g t len k ≡ g k
fed_other g t len k e = if_false (k == t) (record (g k) { left = drop len (g k).left }) (g k) e

turned : (k t : ℕ) → (k == t) ≡ false → (t == k) ≡ false
turned k t e = grind (arith, nat_tests, e)

one_other : (l m : Link) (s : Seen) (g : ℕ → Line) (t len : ℕ) (x : LiveStream) (a : Attempt) → (x.tag == t) ≡ false → IsOther l m x.number → IsLive l x a
    → IsFed l s a (g x.tag) → IsFed m s a (fed g t len x.tag)
one_other l m s g t len x a apart same is fed_ =
    let L : Line → Type 0 = λ line. IsFed m s a line in
    let done : written_for m a ≡ written_for l a
    = ap (λ (o : Option ℕ). option_map_or (λ k. used k m) o 0) is.stream ∙ same.used_is ∙ sym (ap (λ (o : Option ℕ). option_map_or (λ k. used k l) o 0) is.stream) in
    subst L (sym (fed_other g t len x.tag apart)) (fed_still l m s a (g x.tag) done fed_)

tail_fed : (l : Link) (s : Seen) (g : ℕ → Line) (n t len : ℕ) (content : List ℕ) (ends : Bool) (first bound : ℕ) (xs : List LiveStream) (others : List Attempt) (ns : List ℕ)
    → n < first → StreamsAreOpened first bound xs → is_one_of (map (λ (z : LiveStream). z.tag) xs ++ ns) t ≡ false → StreamsAreLive l xs others → StreamsAreFed l s g xs others
    → StreamsAreFed (with_written (sent.Frame (data_frame n content ends)) l) s (fed g t len) xs others
tail_fed l s g n t len content ends first bound [] [] ns low opened apart are fed_ = tt
tail_fed l s g n t len content ends first bound (x ∷ xs) (a ∷ others) ns low opened apart are fed_ =
    let from_ : first ≤ x.number = opened.0 in
    let high : n < x.number = omega (arith, low, from_) in
    let next : n < x.number + 1 = omega (arith, high) in
    let parts = none_of (x.tag == t) (is_one_of (map (λ (z : LiveStream). z.tag) xs ++ ns) t) apart in (
      one_other l (with_written (sent.Frame (data_frame n content ends)) l) s g t len x a parts.0 (other l n content ends x.number are.0.some (above_apart n x.number high)) are.0 fed_.0,
      tail_fed l s g n t len content ends (x.number + 1) bound xs others ns next opened.2 parts.1 are.1 fed_.1,
    )
tail_fed l s g n t len content ends first bound [] (a ∷ others) ns low opened apart are fed_ = absurd are
tail_fed l s g n t len content ends first bound (x ∷ xs) [] ns low opened apart are fed_ = absurd are

-- the stream itself
own_fed : (l : Link) (s : Seen) (g : ℕ → Line) (y : LiveStream) (a : Attempt) (content : List ℕ) (len : ℕ) (ends : Bool) → length content ≡ len
    → len ≤ length (g y.tag).left → IsLive l y a → IsFed l s a (g y.tag) → IsFed (with_written (sent.Frame (data_frame y.number content ends)) l) s a (fed g y.tag len y.tag)
own_fed l s g y a content len ends size within is fed_ =
    let m : Link = with_written (sent.Frame (data_frame y.number content ends)) l in
    let L : Line → Type 0 = λ line. IsFed m s a line in
    let u : ℕ = used y.number l in
    let text : List ℕ = framed_all fed_.call.messages in
    let was : written_for l a ≡ u = ap (λ (o : Option ℕ). option_map_or (λ k. used k l) o 0) is.stream in
    let done : written_for m a ≡ u + len
    = ap (λ (o : Option ℕ). option_map_or (λ k. used k m) o 0) is.stream ∙ used_own l y.number content ends ∙ ap (λ (k : ℕ). u + k) size in
    let left : (g y.tag).left ≡ drop u text = fed_.left ∙ ap (λ (k : ℕ). drop k text) was in
    let rest : length (g y.tag).left ≡ length text - u = ap length left ∙ length-drop u text in
    let low : written_for l a ≤ length text = fed_.written in
    let own : L (record (g y.tag) { left = drop len (g y.tag).left }) = record {
      call = fed_.call;
      call_is = fed_.call_is;
      fields = fed_.fields;
      written = (omega (arith, within, was, done, rest, low));
      left = ap (drop len) left ∙ drop-drop len u text ∙ ap (λ (k : ℕ). drop k text) (sym done);
      finished = fed_.finished;
    } in
    subst L (sym (if_true (y.tag == y.tag) (record (g y.tag) { left = drop len (g y.tag).left }) (g y.tag) (both_same y.tag))) own

pub tag_in : (i : ℕ) (xs : List LiveStream) (y : LiveStream) (ns : List ℕ) (k : ℕ) → slice_get xs i ≡ Some y → is_one_of (map (λ (z : LiveStream). z.tag) xs ++ ns) k ≡ false → (y.tag == k) ≡ false
tag_in i [] y ns k e apart = absurd (cc)
tag_in zero (x ∷ xs) y ns k e apart =
    let is : x ≡ y = (cc) in
    subst (λ (z : LiveStream). (z.tag == k) ≡ false) is (none_of (x.tag == k) (is_one_of (map (λ (z : LiveStream). z.tag) xs ++ ns) k) apart).0
tag_in (suc i) (x ∷ xs) y ns k e apart = tag_in i xs y ns k e (none_of (x.tag == k) (is_one_of (map (λ (z : LiveStream). z.tag) xs ++ ns) k) apart).1

pub data_fed : (l : Link) (s : Seen) (g : ℕ → Line) (y : LiveStream) (content : List ℕ) (len : ℕ) (ends : Bool) (first bound i : ℕ) (xs : List LiveStream) (others : List Attempt) (ns : List ℕ)
    → length content ≡ len → len ≤ length (g y.tag).left → StreamsAreOpened first bound xs → NumbersAreDistinct (map (λ (z : LiveStream). z.tag) xs ++ ns) → StreamsAreLive l xs others → StreamsAreFed l s g xs others
    → slice_get xs i ≡ Some y
    → StreamsAreFed (with_written (sent.Frame (data_frame y.number content ends)) l) s (fed g y.tag len) (slice_set xs i (record y { finished = ends; credit = y.credit -ℤ pos len })) others
data_fed l s g y content len ends first bound i [] [] ns size within opened tags are fed_ e = absurd (cc)
data_fed l s g y content len ends first bound zero (x ∷ xs) (a ∷ others) ns size within opened tags are fed_ e =
    let same : x ≡ y = (cc) in
    let I : LiveStream → Type 0 = λ z. IsLive l z a in
    let F : LiveStream → Type 0 = λ z. IsFed l s a (g z.tag) in
    let O : LiveStream → Type 0 = λ z. StreamsAreOpened (z.number + 1) bound xs in
    let D : LiveStream → Type 0 = λ z. is_one_of (map (λ (v : LiveStream). v.tag) xs ++ ns) z.tag ≡ false in
    let next : y.number < y.number + 1 = omega arith in (
      own_fed l s g y a content len ends size within (subst I same are.0) (subst F same fed_.0),
      tail_fed l s g y.number y.tag len content ends (y.number + 1) bound xs others ns next (subst O same opened.2) (subst D same tags.0) are.1 fed_.1,
    )
data_fed l s g y content len ends first bound (suc i) (x ∷ xs) (a ∷ others) ns size within opened tags are fed_ e =
    let high : x.number + 1 ≤ y.number = number_in (x.number + 1) bound i xs y opened.2 e in
    let low : x.number < y.number = omega (arith, high) in (
      one_other l (with_written (sent.Frame (data_frame y.number content ends)) l) s g y.tag len x a
          (turned y.tag x.tag (tag_in i xs y ns x.tag e tags.0)) (other l y.number content ends x.number are.0.some (below_apart y.number x.number low)) are.0 fed_.0,
      data_fed l s g y content len ends (x.number + 1) bound i xs others ns size within opened.2 tags.1 are.1 fed_.1 e,
    )
data_fed l s g y content len ends first bound i [] (a ∷ others) ns size within opened tags are fed_ e = absurd are
data_fed l s g y content len ends first bound i (x ∷ xs) [] ns size within opened tags are fed_ e = absurd are

-- and those that wait
one_waits : (l : Link) (s : Seen) (g : ℕ → Line) (y : LiveStream) (content : List ℕ) (len : ℕ) (ends : Bool) (a : Attempt) → a.row.stream ≡ None → (a.place == y.tag) ≡ false
    → IsFed l s a (g a.place) → IsFed (with_written (sent.Frame (data_frame y.number content ends)) l) s a (fed g y.tag len a.place)
one_waits l s g y content len ends a none apart fed_ =
    let m : Link = with_written (sent.Frame (data_frame y.number content ends)) l in
    let L : Line → Type 0 = λ line. IsFed m s a line in
    let done : written_for m a ≡ written_for l a
    = ap (λ (o : Option ℕ). option_map_or (λ k. used k m) o 0) none ∙ sym (ap (λ (o : Option ℕ). option_map_or (λ k. used k l) o 0) none) in
    subst L (sym (fed_other g y.tag len a.place apart)) (fed_still l m s a (g a.place) done fed_)

afterwards : (ns ms : List ℕ) (t : ℕ) → is_one_of (ns ++ ms) t ≡ false → is_one_of ms t ≡ false
afterwards [] ms t e = e
afterwards (n ∷ ns) ms t e = afterwards ns ms t (none_of (n == t) (is_one_of (ns ++ ms) t) e).1

pub tag_apart : (i : ℕ) (xs : List LiveStream) (y : LiveStream) (ns : List ℕ) → slice_get xs i ≡ Some y → NumbersAreDistinct (map (λ (z : LiveStream). z.tag) xs ++ ns) → is_one_of ns y.tag ≡ false
tag_apart i [] y ns e tags = absurd (cc)
tag_apart zero (x ∷ xs) y ns e tags =
    let is : x ≡ y = (cc) in
    subst (λ (z : LiveStream). is_one_of ns z.tag ≡ false) is (afterwards (map (λ (z : LiveStream). z.tag) xs) ns x.tag tags.0)
tag_apart (suc i) (x ∷ xs) y ns e tags = tag_apart i xs y ns e tags.1

pub data_waits : (l : Link) (s : Seen) (g : ℕ → Line) (y : LiveStream) (content : List ℕ) (len : ℕ) (ends : Bool) (xs : List Attempt) → AllByRecursion (λ (a : Attempt). a.row.stream ≡ None) xs
    → is_one_of (map (λ (a : Attempt). a.place) xs) y.tag ≡ false → WaitFed l s g xs → WaitFed (with_written (sent.Frame (data_frame y.number content ends)) l) s (fed g y.tag len) xs
data_waits l s g y content len ends [] none apart fed_ = tt
data_waits l s g y content len ends (a ∷ xs) none apart fed_ =
    let parts = none_of (a.place == y.tag) (is_one_of (map (λ (b : Attempt). b.place) xs) y.tag) apart in
    (one_waits l s g y content len ends a none.0 parts.0 fed_.0, data_waits l s g y content len ends xs none.1 parts.1 fed_.1)

-- what was not opened
pub number_below : (first bound i : ℕ) (xs : List LiveStream) (y : LiveStream) → StreamsAreOpened first bound xs → slice_get xs i ≡ Some y → y.number < bound
number_below first bound i [] y opened e = absurd (cc)
number_below first bound zero (x ∷ xs) y opened e = subst (λ (z : LiveStream). z.number < bound) (let same : x ≡ y = (cc) in same) opened.1
number_below first bound (suc i) (x ∷ xs) y opened e = number_below (x.number + 1) bound i xs y opened.2 e

no_zero : (k : ℕ) → 0 < k → (k == 0) ≡ false
no_zero k h = grind (arith, nat_tests, h)

pub data_fresh : (l : Link) (opened n : ℕ) (content : List ℕ) (ends : Bool) → n < 2 * opened + 1 → StreamsAreFresh l opened → StreamsAreFresh (with_written (sent.Frame (data_frame n content ends)) l) opened
data_fresh l opened n content ends low fresh k above =
    let was = fresh k above in
    let some : 0 < k = omega (arith, above) in
    let apart : n < k = omega (arith, above, low) in
    let same : IsOther l (with_written (sent.Frame (data_frame n content ends)) l) k = other l n content ends k (no_zero k some) (above_apart n k apart) in
    (same.used_is ∙ was.0, same.ends ∙ was.1, same.raised_is ∙ was.2)
