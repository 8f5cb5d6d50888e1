-- After HEADERS a link and its session still agree: the first attempt that waits has the next stream.
use Rattle.std.proofs.Common.{◌≡◌, ◌<◌, ◌≤◌, ◌∷◌, ◌++◌, ◌==◌, ap, arith, refl, subst, sym, ◌∙◌, Bool, true, false, List, [], Option, Some, ℕ, pos, ◌+ℤ◌, ◌+◌, ◌*◌, cond, drop, filter, length, map, slice_get, suc}
use Rattle.std.specs.Option.{option_map_or, unwrap_or}
use Rattle.std.proofs.lemmas.Bool.Decides.{nat_tests}
use Rattle.grpc_frame.specs.Messages.{framed_all}
use Rattle.h2_frame.specs.Frames.{FrameSeen}
use Rattle.h2_frame.specs.Numbers.{headers_type}
use Rattle.h2_frame.specs.Sent.{headers_frame}
use Rattle.h2_link.specs.Drains.{stream_opened}
use Rattle.h2_link.specs.Feeds.{Line}
use Rattle.h2_link.specs.Wire.{Wire}
use Rattle.h2_link.specs.declared.live.LiveStream.{LiveStream}
use Rattle.link_actions.proofs.History.{opened_of}
use Rattle.link_actions.proofs.Kept.{owed_still, reads_on}
use Rattle.link_actions.proofs.Lists.{if_true}
use Rattle.link_actions.proofs.Opened.{AreBelow, IsFirst, first_is, one_more_stream, opened_first, others_wait, places_stay, streaming, unsorted, waits}
use Rattle.link_actions.proofs.Owed.{frames_more}
use Rattle.link_actions.proofs.Written.{IsUnwritten, all_noted, all_still, changed_here, frame_unwritten, live_still, noted, still_fresh, waits_noted, waits_still}
use Rattle.link_actions.specs.Laws.{with_written}
use Rattle.link_actions.specs.Sees.{NumbersAreDistinct, StreamsAreFed, StreamsAreLive, StreamsAreOpened, IsFed, IsLive, SeesLink, WaitFed, by_stream, odds, written_for}
use Rattle.session_actions.specs.Links.{frames_written, stream_number}
use Rattle.session_actions.specs.Reading.{is_outstanding_on, opened_streams, raised, used}
use Rattle.session_actions.specs.Writing.{streaming_on, waiting_on, with_stream}
use Rattle.session_actions.specs.declared.attempt.Attempt.{Attempt}
use Rattle.session_actions.specs.declared.link.Link.{Link}
use Rattle.session_actions.specs.declared.link.Sent.{Sent}
use Rattle.session_actions.specs.declared.link.Sent.TheVariants as sent
use Rattle.session_actions.specs.declared.seen.Seen.{Seen}

-- the session with other attempts
abbrev pub with_attempts : List Attempt → Seen → Seen
with_attempts xs s = record s { attempts = xs }

fed_attempts : (m : Link) (s : Seen) (xs : List Attempt) (a : Attempt) (line : Line) → IsFed m s a line → IsFed m (with_attempts xs s) a line
fed_attempts m s xs a line is = record { call = is.call; call_is = is.call_is; fields = is.fields; written = is.written; left = is.left; finished = is.finished }

all_attempts : (m : Link) (s : Seen) (g : ℕ → Line) (xs : List Attempt) (live : List LiveStream) (others : List Attempt) → StreamsAreFed m s g live others → StreamsAreFed m (with_attempts xs s) g live others
all_attempts m s g xs [] [] are = tt
all_attempts m s g xs (y ∷ live) (a ∷ others) are = (fed_attempts m s xs a (g y.tag) are.0, all_attempts m s g xs live others are.1)
all_attempts m s g xs [] (a ∷ others) are = absurd are
all_attempts m s g xs (y ∷ live) [] are = absurd are

wait_attempts : (m : Link) (s : Seen) (g : ℕ → Line) (xs others : List Attempt) → WaitFed m s g others → WaitFed m (with_attempts xs s) g others
wait_attempts m s g xs [] are = tt
wait_attempts m s g xs (a ∷ others) are = (fed_attempts m s xs a (g a.place) are.0, wait_attempts m s g xs others are.1)

-- one more at the end
live_more : (m : Link) (live : List LiveStream) (others : List Attempt) (x : LiveStream) (a : Attempt) → StreamsAreLive m live others → IsLive m x a → StreamsAreLive m (live ++ x ∷ []) (others ++ a ∷ [])
live_more m [] [] x a are is = (is, tt)
live_more m (y ∷ live) (b ∷ others) x a are is = (are.0, live_more m live others x a are.1 is)
live_more m [] (b ∷ others) x a are is = absurd are
live_more m (y ∷ live) [] x a are is = absurd are

fed_more : (m : Link) (s : Seen) (g : ℕ → Line) (live : List LiveStream) (others : List Attempt) (x : LiveStream) (a : Attempt) → StreamsAreFed m s g live others → IsFed m s a (g x.tag)
    → StreamsAreFed m s g (live ++ x ∷ []) (others ++ a ∷ [])
fed_more m s g [] [] x a are is = (is, tt)
fed_more m s g (y ∷ live) (b ∷ others) x a are is = (are.0, fed_more m s g live others x a are.1 is)
fed_more m s g [] (b ∷ others) x a are is = absurd are
fed_more m s g (y ∷ live) [] x a are is = absurd are

opened_more : (first bound number : ℕ) (live : List LiveStream) (x : LiveStream) → x.number ≡ number → first ≤ number → bound ≤ number → StreamsAreOpened first bound live
    → StreamsAreOpened first (number + 1) (live ++ x ∷ [])
opened_more first bound number [] x is low above opened = (omega (arith, is, low), omega (arith, is), tt)
opened_more first bound number (y ∷ live) x is low above opened =
    let below : y.number < bound = opened.1 in
    let next : y.number + 1 ≤ number = omega (arith, below, above) in
    let more : y.number < number + 1 = omega (arith, below, above) in
    (opened.0, more, opened_more (y.number + 1) bound number live x is next above opened.2)

-- the attempts that have streams are those of the link's
number_is : (l : Link) (x : LiveStream) (a : Attempt) → IsLive l x a → stream_number a ≡ x.number
number_is l x a is = ap (λ (o : Option ℕ). unwrap_or o 0) is.stream

pub below_all : (l : Link) (first bound : ℕ) (live : List LiveStream) (others : List Attempt) → StreamsAreOpened first bound live → StreamsAreLive l live others → AreBelow bound others
below_all l first bound [] [] opened are = tt
below_all l first bound (x ∷ live) (a ∷ others) opened are =
    (subst (λ (n : ℕ). n < bound) (sym (number_is l x a are.0)) opened.1, below_all l (x.number + 1) bound live others opened.2 are.1)
below_all l first bound [] (a ∷ others) opened are = absurd are
below_all l first bound (x ∷ live) [] opened are = absurd are

-- the streams that were opened
kept_more : {X : Type 0} (b : Bool) (y : X) (more xs : List X) (x : X) → more ≡ xs ++ x ∷ [] → cond b (y ∷ more) more ≡ cond b (y ∷ xs) xs ++ x ∷ []
kept_more true y more xs x e = ap (λ (zs : List _). y ∷ zs) e
kept_more false y more xs x e = e

filter_more : {X : Type 0} (p : X → Bool) (xs : List X) (x : X) → p x ≡ true → filter p (xs ++ x ∷ []) ≡ filter p xs ++ x ∷ []
filter_more p [] x e = if_true (p x) (x ∷ []) [] e
filter_more p (y ∷ xs) x e = kept_more (p y) y (filter p (xs ++ x ∷ [])) (filter p xs) x (filter_more p xs x e)

map_more : {X Y : Type 0} (f : X → Y) (xs : List X) (x : X) → map f (xs ++ x ∷ []) ≡ map f xs ++ f x ∷ []
map_more f [] x = refl
map_more f (y ∷ xs) x = ap (λ (zs : List _). f y ∷ zs) (map_more f xs x)

opened_one_more : (l : Link) (n : ℕ) (block : List ℕ) → opened_streams (with_written (sent.Frame (headers_frame n block)) l) ≡ opened_streams l ++ n ∷ []
opened_one_more l n block =
    ap opened_of (frames_more l (headers_frame n block)) ∙ ap (map (λ (h : FrameSeen). h.stream)) (filter_more (λ (h : FrameSeen). h.kind == headers_type) (frames_written l) (headers_frame n block) refl)
    ∙ map_more (λ (h : FrameSeen). h.stream) (filter (λ (h : FrameSeen). h.kind == headers_type) (frames_written l)) (headers_frame n block)

next_odds : (n m : ℕ) → m ≡ suc n → odds n ++ (2 * n + 1) ∷ [] ≡ odds m
next_odds n m e = ap odds (sym e)

-- tags
moved : (prefix : List ℕ) (t : ℕ) (ns : List ℕ) → (prefix ++ t ∷ []) ++ ns ≡ prefix ++ t ∷ ns
moved [] t ns = refl
moved (k ∷ prefix) t ns = ap (λ (xs : List ℕ). k ∷ xs) (moved prefix t ns)

head_is : (ns : List ℕ) (t : ℕ) → slice_get ns 0 ≡ Some t → ns ≡ t ∷ drop 1 ns
head_is [] t e = absurd (cc)
head_is (n ∷ ns) t e = ap (λ (k : ℕ). k ∷ ns) (let same : n ≡ t = (cc) in same)

drop_map : (xs : List Attempt) → drop 1 (map (λ (a : Attempt). a.place) xs) ≡ map (λ (a : Attempt). a.place) (drop 1 xs)
drop_map [] = refl
drop_map (a ∷ xs) = refl

wait_rest : (m : Link) (s : Seen) (g : ℕ → Line) (xs : List Attempt) → WaitFed m s g xs → WaitFed m s g (drop 1 xs)
wait_rest m s g [] are = tt
wait_rest m s g (a ∷ xs) are = are.1

first_fed : (m : Link) (s : Seen) (g : ℕ → Line) (xs : List Attempt) (a : Attempt) → WaitFed m s g xs → slice_get xs 0 ≡ Some a → IsFed m s a (g a.place)
first_fed m s g [] a are e = absurd (cc)
first_fed m s g (b ∷ xs) a are e = (let same : b ≡ a = (cc) in let F : Attempt → Type 0 = λ c. IsFed m s c (g c.place) in subst F same are.0)

not_zero : (n : ℕ) → (n + 1 == 0) ≡ false
not_zero n = grind (arith, nat_tests)

first_place : (xs : List Attempt) (a : Attempt) → slice_get xs 0 ≡ Some a → slice_get (map (λ (b : Attempt). b.place) xs) 0 ≡ Some a.place
first_place [] a e = absurd (cc)
first_place (b ∷ xs) a e = ap (λ (c : Attempt). Some c.place) (let same : b ≡ a = (cc) in same)

wider : (first bound more : ℕ) (live : List LiveStream) → bound ≤ more → StreamsAreOpened first bound live → StreamsAreOpened first more live
wider first bound more [] low opened = tt
wider first bound more (x ∷ live) low opened =
    let below : x.number < bound = opened.1 in (opened.0, omega (arith, below, low), wider (x.number + 1) bound more live low opened.2)

-- HEADERS
pub head_keeps_ : (l : Link) (s : Seen) (w : Wire) (g : ℕ → Line) (a : Attempt) (block : List ℕ) → SeesLink l s w g → slice_get (waiting_on l s) 0 ≡ Some a
    → SeesLink (with_written (sent.Frame (headers_frame (2 * w.opened + 1) block)) l)
    (noted (sent.Frame (headers_frame (2 * w.opened + 1) block)) l (with_attempts (opened_first l (2 * w.opened + 1) s.attempts) s))
    (record w { waiting = drop 1 w.waiting; live = w.live ++ stream_opened w a.place ∷ []; opened = w.opened + 1; resizes = false }) g
head_keeps_ l s w g a block is first =
    let n : ℕ = 2 * w.opened + 1 in
    let f : FrameSeen = headers_frame n block in
    let x : Sent = sent.Frame f in
    let m : Link = with_written x l in
    let ys : List Attempt = opened_first l n s.attempts in
    let t : Seen = with_attempts ys s in
    let v : Wire = record w { waiting = drop 1 w.waiting; live = w.live ++ stream_opened w a.place ∷ []; opened = w.opened + 1; resizes = false } in
    let plain : IsUnwritten l m = frame_unwritten l f refl in
    let old : List Attempt = by_stream (streaming_on l s) in
    let below : AreBelow n (streaming l s.attempts) = unsorted (λ b. stream_number b < n) (streaming l s.attempts) (below_all l 1 n w.live old is.opened is.sees.live) in
    let streams_ : by_stream (streaming l ys) ≡ old ++ with_stream n a ∷ [] = one_more_stream l n s.attempts a first below in
    let waits_ : filter waits (filter (is_outstanding_on l) ys) ≡ drop 1 (waiting_on l s) = others_wait l n s.attempts in
    let place : IsFirst l n 1 s.attempts a = first_is l n 1 s.attempts a is.places first in
    let above : 2 * w.opened < n = omega arith in
    let none = is.fresh n above in
    let some : (n == 0) ≡ false = not_zero (2 * w.opened) in
    let one : IsLive m (stream_opened w a.place) (with_stream n a) = record {
      stream = refl;
      some = some;
      tag = refl;
      finished = sym (plain.ends n ∙ none.1);
      credit = ap (λ (k : ℕ). pos 0 +ℤ pos k) (plain.used_is n ∙ none.0) ∙ ap (λ (k : ℕ). pos k) (sym (plain.raised_is n ∙ none.2));
    } in
    let was : IsFed l s a (g a.place) = first_fed l s g (waiting_on l s) a is.wait_fed first in
    let zero_ : written_for l a ≡ 0 = ap (λ (o : Option ℕ). option_map_or (λ k. used k l) o 0) place.waits_ in
    let done : used n m ≡ 0 = plain.used_is n ∙ none.0 in
    let low : written_for l a ≤ length (framed_all was.call.messages) = was.written in
    let own : IsFed m t (with_stream n a) (g a.place) = record {
      call = was.call;
      call_is = was.call_is;
      fields = was.fields;
      written = (omega (arith, done));
      left = was.left ∙ ap (λ (k : ℕ). drop k (framed_all was.call.messages)) (zero_ ∙ sym done);
      finished = was.finished;
    } in
    let all : StreamsAreFed m t g (w.live ++ stream_opened w a.place ∷ []) (old ++ with_stream n a ∷ [])
    = fed_more m t g w.live old (stream_opened w a.place) (with_stream n a) (all_attempts m s g ys w.live old (all_still l m s g w.live old plain is.fed)) own in
    let window : w.window + used 0 m ≡ 65535 + raised 0 m
    = ap (λ (k : ℕ). w.window + k) (plain.used_is 0) ∙ is.sees.reads.window ∙ ap (λ (k : ℕ). 65535 + k) (sym (plain.raised_is 0)) in
    let more : w.opened + 1 ≡ suc w.opened = omega arith in
    let A : List Attempt → Type 0 = λ zs. StreamsAreLive m v.live zs in
    let F : List Attempt → Type 0 = λ zs. StreamsAreFed m (noted x l t) g v.live zs in
    let P : List Attempt → Type 0 = λ zs. WaitFed m (noted x l t) g zs in
    let W : List ℕ → Type 0 = λ ns. ns ≡ map (λ (b : Attempt). b.place) (waiting_on l s) in
    let bound : 2 * (w.opened + 1) + 1 ≡ n + 1 + 1 = omega arith in
    let opened_ : StreamsAreOpened 1 (n + 1) v.live = opened_more 1 n n w.live (stream_opened w a.place) refl (omega arith) (omega arith) is.opened in
    let tag : slice_get w.waiting 0 ≡ Some a.place = ap (λ (ns : List ℕ). slice_get ns 0) is.waits ∙ first_place (waiting_on l s) a first in
    record {
      at = changed_here (with_written x) l.number s.links l is.at;
      sees = record {
        reads = reads_on l x w v is.sees.reads refl refl refl refl refl refl refl refl window
            (opened_one_more l n block ∙ ap (λ (ns : List ℕ). ns ++ n ∷ []) is.sees.reads.opened ∙ next_odds w.opened (w.opened + 1) more);
        live = subst A (sym streams_) (live_more m w.live old (stream_opened w a.place) (with_stream n a) (live_still l m w.live old plain is.sees.live) one);
      };
      owes = owed_still l w v f is.owes refl refl refl refl;
      waits = ap (drop 1) is.waits ∙ drop_map (waiting_on l s) ∙ ap (map (λ (b : Attempt). b.place)) (sym waits_);
      fed = subst F (sym streams_) (all_noted x l m t g v.live (old ++ with_stream n a ∷ []) all);
      wait_fed = subst P (sym waits_) (waits_noted x l m t g (drop 1 (waiting_on l s)) (wait_attempts m s g ys (drop 1 (waiting_on l s)) (wait_rest m s g (waiting_on l s) (waits_still l m s g (waiting_on l s) plain is.wait_fed))));
      opened = wider 1 (n + 1) (2 * (w.opened + 1) + 1) v.live (omega arith) opened_;
      fresh = λ k above_. still_fresh l m w.opened plain is.fresh k (let high : 2 * (w.opened + 1) < k = above_ in omega (arith, high));
      tags = subst NumbersAreDistinct (sym (ap (λ (ns : List ℕ). ns ++ drop 1 w.waiting) (map_more (λ (y : LiveStream). y.tag) w.live (stream_opened w a.place)) ∙ moved (map (λ (y : LiveStream). y.tag) w.live) a.place (drop 1 w.waiting)))
          (subst (λ (ns : List ℕ). NumbersAreDistinct (map (λ (y : LiveStream). y.tag) w.live ++ ns)) (head_is w.waiting a.place tag) is.tags);
      places = places_stay l n 1 s.attempts is.places;
    }
