-- The streams that a drain opens are given to the attempts that wait, one after the other.
use Rattle.std.proofs.Common.{◌≡◌, ◌+◌, ◌*◌, ◌-ℤ◌, ◌++◌, ◌∷◌, ◌&&◌, ◌==◌, ◌^◌, append-nil, append_assoc, ap, arith, refl, subst, sym, ◌∙◌, Bool, true, false, List, [], Option, None, Some, ℕ, zero, suc, cond, drop, filter, if◌then◌else◌, is_none, length, map, nat_lt, not, pos, slice_get, slice_set, take}
use Rattle.std.proofs.lemmas.Option.{slice_get-map}
use Rattle.std.specs.Option.{option_map, option_map_or}
use Rattle.call_actions.specs.Order.{AttemptsAreNumbered}
use Rattle.call_actions.proofs.CallsApart.Acts.{IsIn, at_place, in_filter}
use Rattle.channel_actions.specs.DrainWrites.Laws.{OpenedRowsWait, given_in}
use Rattle.h2_frame.specs.Frames.{FrameSeen}
use Rattle.h2_frame.specs.Numbers.{headers_type}
use Rattle.h2_frame.specs.Sent.{data_frame, headers_frame}
use Rattle.h2_link.specs.Drains.{head_block, is_below, named, next, next_control, next_data, next_head, opened_between, opens, outgoing, sender, sent_control, sent_head, stream_opened}
use Rattle.h2_link.specs.Drains.{Sent as Sending}
use Rattle.h2_link.specs.Feeds.{Line}
use Rattle.h2_link.specs.Wire.{Wire}
use Rattle.h2_link.specs.declared.control.Control.{Control}
use Rattle.h2_link.specs.declared.live.LiveStream.{LiveStream}
use Rattle.link_actions.proofs.DataSent.{IsShare, share_found}
use Rattle.link_actions.proofs.Kept.{frame_of_by}
use Rattle.link_actions.proofs.Owed.{is_frame}
use Rattle.link_actions.specs.Sees.{outgoing_of}
use Rattle.session_actions.specs.Attempts.{with_attempt}
use Rattle.session_actions.specs.Reading.{is_outstanding_on, outstanding_on}
use Rattle.session_actions.specs.Words.{changed, numbered}
use Rattle.session_actions.specs.Writing as writing
use Rattle.session_actions.specs.Writing.{stream_opened_by, waiting_on, with_stream}
use Rattle.session_actions.specs.declared.attempt.Attempt.{Attempt}
use Rattle.session_actions.specs.declared.link.Link.{Link}
use Rattle.session_actions.specs.declared.link.Sent.{Sent}
use Rattle.session_actions.specs.declared.link.Sent.TheVariants as sent
use Rattle.session_actions.specs.declared.seen.Seen.{Seen}

-- lists
drop_len : {X : Type 0} (xs ys : List X) → length ys ≡ length xs → drop (length xs) ys ≡ []
drop_len [] [] e = refl
drop_len [] (y ∷ ys) e = absurd (let bad : suc (length ys) ≡ 0 = e in omega arith)
drop_len (x ∷ xs) [] e = refl
drop_len (x ∷ xs) (y ∷ ys) e = drop_len xs ys (let less : length ys ≡ length xs = omega (arith, e) in less)

drop_more : {X : Type 0} (xs ys : List X) → drop (length xs) (xs ++ ys) ≡ ys
drop_more [] ys = refl
drop_more (x ∷ xs) ys = drop_more xs ys

map_drop : {X Y : Type 0} (f : X → Y) (n : ℕ) (xs : List X) → map f (drop n xs) ≡ drop n (map f xs)
map_drop f zero xs = refl
map_drop f (suc n) [] = refl
map_drop f (suc n) (x ∷ xs) = map_drop f n xs

map_length : {X Y : Type 0} (f : X → Y) (xs : List X) → length (map f xs) ≡ length xs
map_length f [] = refl
map_length f (x ∷ xs) = ap suc (map_length f xs)

map_more : {X Y : Type 0} (f : X → Y) (xs : List X) (y : X) → map f (xs ++ y ∷ []) ≡ map f xs ++ f y ∷ []
map_more f [] y = refl
map_more f (x ∷ xs) y = ap (λ (l : List _). f x ∷ l) (map_more f xs y)

map_set : (xs : List LiveStream) (i : ℕ) (y v : LiveStream) → slice_get xs i ≡ Some y → named v ≡ named y → map named (slice_set xs i v) ≡ map named xs
map_set [] i y v there same = refl
map_set (x ∷ xs) zero y v there same = let one : x ≡ y = (cc) in ap (λ (n : ℕ × ℕ). n ∷ map named xs) (same ∙ ap named (sym one))
map_set (x ∷ xs) (suc i) y v there same = ap (λ (ns : List (ℕ × ℕ)). named x ∷ ns) (map_set xs i y v there same)

-- some streams more
pub record IsMore (w v : Wire) (more : List (ℕ × ℕ)) : Type 0 where
  pub is : map named v.live ≡ map named w.live ++ more

between_is : (w v : Wire) (more : List (ℕ × ℕ)) → IsMore w v more → opened_between w v ≡ more
between_is w v more e =
    map_drop named (length w.live) v.live ∙ ap (drop (length w.live)) e.is
    ∙ ap (λ (n : ℕ). drop n (map named w.live ++ more)) (sym (map_length named w.live)) ∙ drop_more (map named w.live) more

more_join : (w v z : Wire) (a b : List (ℕ × ℕ)) → IsMore w v a → IsMore v z b → IsMore w z (a ++ b)
more_join w v z a b f g = record { is = g.is ∙ ap (λ (ns : List (ℕ × ℕ)). ns ++ b) f.is ∙ append_assoc (map named w.live) a b }

-- what a frame opens: in the link, and of the attempts
pub record IsGiven (l : Link) (s : Seen) (x : Sent) (w v : Wire) : Type 0 where
  pub opened : List (ℕ × ℕ)
  pub more : IsMore w v opened
  pub given : (stream_opened_by x l s).attempts ≡ given_in opened s.attempts
  pub fresh : OpenedRowsWait opened s.attempts

none_more : (w v : Wire) → map named v.live ≡ map named w.live → IsMore w v []
none_more w v e = record { is = e ∙ sym (append-nil (map named w.live)) }

unopened : (l : Link) (s : Seen) (x : Sent) (w v : Wire) → map named v.live ≡ map named w.live → stream_opened_by x l s ≡ s → IsGiven l s x w v
unopened l s x w v same e = record { opened = []; more = none_more w v same; given = ap (λ (z : Seen). z.attempts) e; fresh = tt }

no_headers : (l : Link) (s : Seen) (f : FrameSeen) → (f.kind == headers_type) ≡ false → stream_opened_by (sent.Frame f) l s ≡ s
no_headers l s f e = ap (λ (b : Bool). if b then writing.stream_opened f l s else s) e

control_of : (l : Link) (s : Seen) (x : Sent) (c : Control) → outgoing_of x ≡ outgoing c → stream_opened_by x l s ≡ s
control_of l s sent.Preface c e = refl
control_of l s (sent.Frame f) c e = no_headers l s f (is_frame c f (sym e)).headers

-- the first that waits
passes_by : (p : Attempt → Bool) (x : Attempt) (xs : List Attempt) (b : Bool) (j : ℕ) (a : Attempt) → p x ≡ b → slice_get (cond b (x ∷ filter p xs) (filter p xs)) j ≡ Some a
    → ((i : ℕ) → slice_get (filter p xs) i ≡ Some a → p a ≡ true) → p a ≡ true
passes_by p x xs true zero a e got rest = let one : x ≡ a = (cc) in ap p (sym one) ∙ e
passes_by p x xs true (suc j) a e got rest = rest j got
passes_by p x xs false j a e got rest = rest j got

passes : (p : Attempt → Bool) (xs : List Attempt) (j : ℕ) (a : Attempt) → slice_get (filter p xs) j ≡ Some a → p a ≡ true
passes p [] j a got = absurd (cc)
passes p (x ∷ xs) j a got = passes_by p x xs (p x) j a refl got (λ i e. passes p xs i a e)

unstreamed : (o : Option ℕ) → is_none o ≡ true → o ≡ None
unstreamed None e = refl
unstreamed (Some n) e = absurd (cc)

one_some : (a b : Attempt) → Some a ≡ Some b → a ≡ b
one_some a b e = (cc)

same_place : (a : Attempt) (tag : ℕ) → Some a.place ≡ Some tag → a.place ≡ tag
same_place a tag e = (cc)

module _ (l : Link) (s : Seen) (w : Wire) (g : ℕ → Line) (tag : ℕ) (places : AttemptsAreNumbered 1 s.attempts) (waits : w.waiting ≡ map (λ (a : Attempt). a.place) (waiting_on l s))
    (first : slice_get w.waiting 0 ≡ Some tag) where
  abbrev f : FrameSeen
  f = headers_frame (2 * w.opened + 1) (head_block w.resizes (g tag).fields)

  by_first : (o : Option Attempt) → slice_get (waiting_on l s) 0 ≡ o → option_map (λ (a : Attempt). a.place) o ≡ Some tag
      → (option_map_or (λ (a : Attempt). with_attempt (with_stream f.stream) a.place s) o s).attempts ≡ changed (with_stream (2 * w.opened + 1)) tag s.attempts
  by_first None e there = absurd (cc)
  by_first (Some a) e there = ap (λ (n : ℕ). changed (with_stream (2 * w.opened + 1)) n s.attempts) (same_place a tag there)

  fresh_first : (o : Option Attempt) → slice_get (waiting_on l s) 0 ≡ o → option_map (λ (a : Attempt). a.place) o ≡ Some tag → (b : Attempt) → numbered s.attempts tag ≡ Some b → b.row.stream ≡ None
  fresh_first None e there b got = absurd (cc)
  fresh_first (Some a) e there b got =
      let one : IsIn (outstanding_on l s) a = in_filter (λ (q : Attempt). is_none q.row.stream) (outstanding_on l s) 0 a e in
      let two : IsIn s.attempts a = in_filter (is_outstanding_on l) s.attempts one.index a one.here in
      let at : numbered s.attempts tag ≡ Some a = ap (numbered s.attempts) (sym (same_place a tag there)) ∙ at_place s.attempts a places two in
      let same : b ≡ a = one_some b a (sym got ∙ at) in
      ap (λ (q : Attempt). q.row.stream) same ∙ unstreamed a.row.stream (passes (λ (q : Attempt). is_none q.row.stream) (outstanding_on l s) 0 a e)

  there_is : option_map (λ (a : Attempt). a.place) (slice_get (waiting_on l s) 0) ≡ Some tag
  there_is = sym (slice_get-map (λ (a : Attempt). a.place) (waiting_on l s) 0) ∙ ap (λ (ns : List ℕ). slice_get ns 0) (sym waits) ∙ first

  pub head_given : (v : Wire) → v.live ≡ w.live ++ stream_opened w tag ∷ [] → IsGiven l s (sent.Frame f) w v
  head_given v live = record {
    opened = (tag, 2 * w.opened + 1) ∷ [];
    more = record { is = ap (map named) live ∙ map_more named w.live (stream_opened w tag) };
    given = by_first (slice_get (waiting_on l s) 0) refl there_is;
    fresh = (fresh_first (slice_get (waiting_on l s) 0) refl there_is, tt);
  }

-- whatever is next
opens_by : (a b c : Bool) (t : Option ℕ) (tag : ℕ) → (if not a && b && c then t else None) ≡ Some tag → t ≡ Some tag
opens_by true b c t tag e = absurd (cc)
opens_by false true true t tag e = e
opens_by false true false t tag e = absurd (cc)
opens_by false false c t tag e = absurd (cc)

data_given : (l : Link) (s : Seen) (w : Wire) (g : ℕ → Line) (y : Sending) (x : Sent) → next_data w g (sender w.window w.initial g 0 w.live) ≡ Some y → outgoing_of x ≡ y.frame → IsGiven l s x w y.wire
data_given l s w g y x found same =
    let is : IsShare w g 0 w.live y = share_found w g 0 w.live y found in
    let z : LiveStream = is.stream in
    let index : is.index ≡ is.at = (let at : is.at ≡ 0 + is.index = is.at_is in omega (arith, at)) in
    let there : slice_get w.live is.at ≡ Some z = ap (λ (n : ℕ). slice_get w.live n) (sym index) ∙ is.there in
    let k : FrameSeen = data_frame z.number (take is.share.0 (g z.tag).left) is.share.1 in
    let frame : x ≡ sent.Frame k = frame_of_by x k (same ∙ is.frame) in
    unopened l s x w y.wire
    (ap (λ (v : Wire). map named v.live) is.wire ∙ map_set w.live is.at z (record z { finished = is.share.1; credit = z.credit -ℤ pos is.share.0 }) there refl)
    (ap (λ (q : Sent). stream_opened_by q l s) frame ∙ no_headers l s k refl)

head_by : (l : Link) (s : Seen) (w : Wire) (g : ℕ → Line) (y : Sending) (x : Sent) (o : Option ℕ) → AttemptsAreNumbered 1 s.attempts → w.waiting ≡ map (λ (a : Attempt). a.place) (waiting_on l s)
    → opens w ≡ o → next_head w g o ≡ Some y → outgoing_of x ≡ y.frame → IsGiven l s x w y.wire
head_by l s w g y x None places waits e found same = data_given l s w g y x found same
head_by l s w g y x (Some tag) places waits e found same =
    let is : sent_head w g tag ≡ y = (cc) in
    let k : FrameSeen = headers_frame (2 * w.opened + 1) (head_block w.resizes (g tag).fields) in
    let frame : x ≡ sent.Frame k = frame_of_by x k (same ∙ ap (λ (z : Sending). z.frame) (sym is)) in
    subst (λ (q : Sent). IsGiven l s q w y.wire) (sym frame)
    (head_given l s w g tag places waits (opens_by w.retiring (is_below (length w.live) w.limit) (nat_lt w.opened (2 ^ 30)) (slice_get w.waiting 0) tag e) y.wire
    (ap (λ (z : Sending). z.wire.live) (sym is)))

control_by : (l : Link) (s : Seen) (w : Wire) (g : ℕ → Line) (y : Sending) (x : Sent) (o : Option Control) → AttemptsAreNumbered 1 s.attempts → w.waiting ≡ map (λ (a : Attempt). a.place) (waiting_on l s)
    → next_control w g o ≡ Some y → outgoing_of x ≡ y.frame → IsGiven l s x w y.wire
control_by l s w g y x None places waits found same = head_by l s w g y x (opens w) places waits refl found same
control_by l s w g y x (Some c) places waits found same =
    let is : sent_control w g c ≡ y = (cc) in
    unopened l s x w y.wire (ap (λ (z : Sending). map named z.wire.live) (sym is)) (control_of l s x c (same ∙ ap (λ (z : Sending). z.frame) (sym is)))

pub frame_given : (l : Link) (s : Seen) (w : Wire) (g : ℕ → Line) (y : Sending) (x : Sent) → AttemptsAreNumbered 1 s.attempts → w.waiting ≡ map (λ (a : Attempt). a.place) (waiting_on l s)
    → next w g ≡ Some y → outgoing_of x ≡ y.frame → IsGiven l s x w y.wire
frame_given l s w g y x places waits found same = control_by l s w g y x (slice_get w.queue.items 0) places waits found same

-- several
given_join : (a b : List (ℕ × ℕ)) (as_ : List Attempt) → given_in (a ++ b) as_ ≡ given_in b (given_in a as_)
given_join [] b as_ = refl
given_join (o ∷ a) b as_ = given_join a b (changed (with_stream o.1) o.0 as_)

waiting_join : (a b : List (ℕ × ℕ)) (as_ : List Attempt) → OpenedRowsWait a as_ → OpenedRowsWait b (given_in a as_) → OpenedRowsWait (a ++ b) as_
waiting_join [] b as_ f g = g
waiting_join (o ∷ a) b as_ f g = (f.0, waiting_join a b (changed (with_stream o.1) o.0 as_) f.1 g)

-- of all frames from a point on
pub record AreGiven (w v : Wire) (as_ bs : List Attempt) : Type 0 where
  pub opened : List (ℕ × ℕ)
  pub more : IsMore w v opened
  pub given : bs ≡ given_in opened as_
  pub fresh : OpenedRowsWait opened as_

pub none_given : (w : Wire) (as_ : List Attempt) → AreGiven w w as_ as_
none_given w as_ = record { opened = []; more = none_more w w refl; given = refl; fresh = tt }

pub given_on : (l : Link) (s : Seen) (x : Sent) (w v z : Wire) (bs : List Attempt) → IsGiven l s x w v → AreGiven v z (stream_opened_by x l s).attempts bs → AreGiven w z s.attempts bs
given_on l s x w v z bs one rest = record {
  opened = one.opened ++ rest.opened;
  more = more_join w v z one.opened rest.opened one.more rest.more;
  given = rest.given ∙ ap (given_in rest.opened) one.given ∙ sym (given_join one.opened rest.opened s.attempts);
  fresh = waiting_join one.opened rest.opened s.attempts one.fresh (subst (OpenedRowsWait rest.opened) one.given rest.fresh);
}

pub given_between : (w v : Wire) (as_ bs : List Attempt) → AreGiven w v as_ bs → (bs ≡ given_in (opened_between w v) as_) × OpenedRowsWait (opened_between w v) as_
given_between w v as_ bs is =
    let e : opened_between w v ≡ is.opened = between_is w v is.opened is.more in
    (is.given ∙ ap (λ (ns : List (ℕ × ℕ)). given_in ns as_) (sym e), subst (λ (ns : List (ℕ × ℕ)). OpenedRowsWait ns as_) (sym e) is.fresh)
