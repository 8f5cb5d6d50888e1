-- GOAWAY: the attempts that it ends, and then the resets of their streams.
use Rattle.std.proofs.Common.{◌≡◌, ◌∷◌, ◌||◌, ◌&&◌, ◌==◌, not, ap, arith, refl, subst, sym, ◌∙◌, Bool, true, false, List, [], Some, ℕ, cond, filter, if◌then◌else◌, is_some, map}
use Rattle.std.specs.List.{AllByRecursion}
use Rattle.std.specs.Option.{option_map_or}
use Rattle.std.proofs.lemmas.Bool.Decides.{nat_tests}
use Rattle.attempt_ledger.specs.declared.row.RowEnd.{RowEnd}
use Rattle.h2_link.specs.Feeds.{Line}
use Rattle.h2_link.specs.Steps.{is_above}
use Rattle.h2_link.specs.Wire.{Wire}
use Rattle.h2_link.specs.declared.live.LiveStream.{LiveStream}
use Rattle.lb_policy.specs.Table.{is_one_of}
use Rattle.link_actions.proofs.Ended.{AreLeft, are_left, changed_one, ended_seen, ends_keep, is_ended}
use Rattle.link_actions.proofs.Lists.{both_if, if_false, if_true}
use Rattle.link_actions.proofs.Without.{is_other, is_other_attempt, is_other_stream}
use Rattle.link_actions.specs.Laws.{without_tag}
use Rattle.link_actions.specs.Sees.{StreamsAreFed, StreamsAreLive, AttemptsStandInPlace, SeesLink, by_stream}
use Rattle.session_actions.specs.AttemptEnds.{attempt_ended, with_end, with_end_in_run}
use Rattle.session_actions.specs.Attempts.{call_of}
use Rattle.session_actions.specs.Links.{link_number}
use Rattle.session_actions.specs.Words.{numbered}
use Rattle.session_actions.specs.Writing.{streaming_on}
use Rattle.session_actions.specs.declared.attempt.Attempt.{Attempt}
use Rattle.session_actions.specs.declared.config.ThrottleRun.{ThrottleRun}
use Rattle.session_actions.specs.declared.link.Link.{Link}
use Rattle.session_actions.specs.declared.seen.Seen.{Seen}
use Rattle.link_actions.proofs.StreamActions.StreamEnds.{received_ended}
use Rattle.link_actions.specs.StreamActions.Laws.{IsSomewhere, ended_all}
use Rattle.link_actions.specs.StreamActions.Sees.{IsReceived}

-- the streams that are not left out are handled
abbrev pub AreReceivedTo : ℕ → Link → Seen → List LiveStream → List Attempt → Type 0
AreReceivedTo last l s [] [] = Unit {0}
AreReceivedTo last l s (x ∷ xs) (a ∷ others) = (is_above last x ≡ false → IsReceived l s x a) × AreReceivedTo last l s xs others
AreReceivedTo last l s _ _ = ⊥

pub record SeesTo (last : ℕ) (l : Link) (s : Seen) (w : Wire) (g : ℕ → Line) : Type 0 where
  pub sees : SeesLink l s w g
  pub handled : AreReceivedTo last l s w.live (by_stream (streaming_on l s))

-- one attempt ends
received_without : (last : ℕ) (l : Link) (s : Seen) (g : ℕ → Line) (draws : Bool) (call t : ℕ) (e : RowEnd) (runs : List ThrottleRun) (xs : List LiveStream) (others : List Attempt)
    → StreamsAreLive l xs others → StreamsAreFed l s g xs others → AreReceivedTo last l s xs others
    → AreReceivedTo last l (ended_seen draws call t e runs s) (filter (is_other_stream t) xs) (filter (is_other_attempt t) others)
received_without last l s g draws call t e runs [] [] are fed_ handled = tt
received_without last l s g draws call t e runs (x ∷ xs) (a ∷ others) are fed_ handled =
    let u : Seen = ended_seen draws call t e runs s in
    let fx : List LiveStream = filter (is_other_stream t) xs in
    let fa : List Attempt = filter (is_other_attempt t) others in
    let rest : AreReceivedTo last l u fx fa = received_without last l s g draws call t e runs xs others are.1 fed_.1 handled.1 in
    subst (λ (c : Bool). AreReceivedTo last l u (cond (is_other_stream t x) (x ∷ fx) fx) (cond c (a ∷ fa) fa)) (ap (is_other t) are.0.tag)
    (both_if (AreReceivedTo last l u) (is_other_stream t x) (x ∷ fx) fx (a ∷ fa) fa
    (λ h. (λ below. received_ended l s draws call t e runs x a (g x.tag) fed_.0 (handled.0 below), rest)) (λ h. rest))
received_without last l s g draws call t e runs [] (a ∷ others) are fed_ handled = absurd are
received_without last l s g draws call t e runs (x ∷ xs) [] are fed_ handled = absurd are

one_ends : (last : ℕ) (l : Link) (s : Seen) (w : Wire) (g : ℕ → Line) (t : ℕ) (a : Attempt) (e : RowEnd) → SeesTo last l s w g → numbered s.attempts t ≡ Some a
    → SeesTo last l (attempt_ended t e s) (without_tag t w) g
one_ends last l s w g t a e is there =
    let runs : List ThrottleRun = (option_map_or (with_end_in_run a e s) (call_of a s) s).runs in
    let draws : Bool = is_some e.word in
    let call : ℕ = a.row.call in
    let u : Seen = ended_seen draws call t e runs s in
    let bs : List Attempt = by_stream (streaming_on l s) in
    let xs : List LiveStream = filter (is_other_stream t) w.live in
    let left : AreLeft l s u t = are_left l s draws call t e runs a is.sees.places there in
    let handled : AreReceivedTo last l u xs (filter (is_other_attempt t) bs) = received_without last l s g draws call t e runs w.live bs is.sees.sees.live is.sees.fed is.handled in
    record {
      sees = ends_keep l s w g t a e is.sees there;
      handled = subst (λ (v : Seen). AreReceivedTo last l v xs (by_stream (streaming_on l v))) (sym (is_ended s t e a is.sees.places there)) (subst (AreReceivedTo last l u xs) (sym left.streaming) handled);
    }

attempts_after : (s : Seen) (t k : ℕ) (e : RowEnd) (a b : Attempt) → AttemptsStandInPlace 1 s.attempts → numbered s.attempts t ≡ Some a → numbered s.attempts k ≡ Some b
    → numbered (attempt_ended t e s).attempts k ≡ Some (if k == t then with_end e b else b)
attempts_after s t k e a b places there here =
    ap (λ (u : Seen). numbered u.attempts k) (is_ended s t e a places there) ∙ changed_one (with_end e) t k s.attempts b (k == t) refl here

somewhere_after : (s : Seen) (t k : ℕ) (e : RowEnd) (a : Attempt) → AttemptsStandInPlace 1 s.attempts → numbered s.attempts t ≡ Some a → IsSomewhere s k → IsSomewhere (attempt_ended t e s) k
somewhere_after s t k e a places there is =
    record { attempt = if k == t then with_end e is.attempt else is.attempt; there = attempts_after s t k e a is.attempt places there is.there }

all_somewhere : (s : Seen) (t : ℕ) (e : RowEnd) (a : Attempt) (ends : List (ℕ × RowEnd)) → AttemptsStandInPlace 1 s.attempts → numbered s.attempts t ≡ Some a
    → AllByRecursion (λ (x : ℕ × RowEnd). IsSomewhere s x.0) ends → AllByRecursion (λ (x : ℕ × RowEnd). IsSomewhere (attempt_ended t e s) x.0) ends
all_somewhere s t e a [] places there all = tt
all_somewhere s t e a (x ∷ ends) places there all = (somewhere_after s t x.0 e a places there all.0, all_somewhere s t e a ends places there all.1)

-- all of them
abbrev pub places_of : List (ℕ × RowEnd) → List ℕ
places_of ends = map (λ (x : ℕ × RowEnd). x.0) ends

abbrev pub is_none_of : List ℕ → ℕ → Bool
is_none_of ts n = not (is_one_of ts n)

abbrev pub without_all : List ℕ → Wire → Wire
without_all ts w = record w { live = filter (λ x. is_none_of ts x.tag) w.live; waiting = filter (is_none_of ts) w.waiting }

keeps_all : {X : Type 0} (xs : List X) → filter (λ x. true) xs ≡ xs
keeps_all [] = refl
keeps_all (x ∷ xs) = ap (λ (ys : List _). x ∷ ys) (keeps_all xs)

two_by : {X : Type 0} (p q : X → Bool) (x : X) (ys zs : List X) (a b : Bool) → p x ≡ a → q x ≡ b → filter p ys ≡ zs → filter p (cond b (x ∷ ys) ys) ≡ cond (a && b) (x ∷ zs) zs
two_by p q x ys zs true true is was e = if_true (p x) (x ∷ filter p ys) (filter p ys) is ∙ ap (λ (us : List _). x ∷ us) e
two_by p q x ys zs true false is was e = e
two_by p q x ys zs false true is was e = if_false (p x) (x ∷ filter p ys) (filter p ys) is ∙ e
two_by p q x ys zs false false is was e = e

pub filter_two : {X : Type 0} (p q : X → Bool) (xs : List X) → filter p (filter q xs) ≡ filter (λ x. p x && q x) xs
filter_two p q [] = refl
filter_two p q (x ∷ xs) = two_by p q x (filter q xs) (filter (λ y. p y && q y) xs) (p x) (q x) refl refl (filter_two p q xs)

agree_by : {X : Type 0} (x : X) (ys zs : List X) (a b : Bool) → a ≡ b → ys ≡ zs → cond a (x ∷ ys) ys ≡ cond b (x ∷ zs) zs
agree_by x ys zs a b e h = ap (λ (c : Bool). cond c (x ∷ ys) ys) e ∙ ap (λ (us : List _). cond b (x ∷ us) us) h

filter_same : {X : Type 0} (p q : X → Bool) → ((x : X) → p x ≡ q x) → (xs : List X) → filter p xs ≡ filter q xs
filter_same p q same [] = refl
filter_same p q same (x ∷ xs) = agree_by x (filter p xs) (filter q xs) (p x) (q x) (same x) (filter_same p q same xs)

same_turned : (m n : ℕ) → (m == n) ≡ (n == m)
same_turned m n = grind (arith, nat_tests)

one_more : (a b : Bool) → (not b && not a) ≡ not (a || b)
one_more true true = refl
one_more true false = refl
one_more false true = refl
one_more false false = refl

none_more : (t : ℕ) (ts : List ℕ) (n : ℕ) → (is_none_of ts n && is_other t n) ≡ is_none_of (t ∷ ts) n
none_more t ts n = ap (λ (b : Bool). is_none_of ts n && not b) (same_turned n t) ∙ one_more (t == n) (is_one_of ts n)

without_more : (t : ℕ) (ts : List ℕ) (w : Wire) → without_all ts (without_tag t w) ≡ without_all (t ∷ ts) w
without_more t ts w =
    ap (λ (xs : List LiveStream). record w { live = xs; waiting = filter (is_none_of ts) (filter (is_other t) w.waiting) })
    (filter_two (λ (x : LiveStream). is_none_of ts x.tag) (is_other_stream t) w.live
    ∙ filter_same (λ (x : LiveStream). is_none_of ts x.tag && is_other t x.tag) (λ (x : LiveStream). is_none_of (t ∷ ts) x.tag) (λ x. none_more t ts x.tag) w.live)
    ∙ ap (λ (ns : List ℕ). record w { live = filter (λ x. is_none_of (t ∷ ts) x.tag) w.live; waiting = ns })
    (filter_two (is_none_of ts) (is_other t) w.waiting ∙ filter_same (λ (n : ℕ). is_none_of ts n && is_other t n) (is_none_of (t ∷ ts)) (none_more t ts) w.waiting)

none_without : (w : Wire) → w ≡ without_all [] w
none_without w =
    ap (λ (xs : List LiveStream). record w { live = xs }) (sym (keeps_all w.live))
    ∙ ap (λ (ns : List ℕ). record w { live = filter (λ x. true) w.live; waiting = ns }) (sym (keeps_all w.waiting))

pub all_end : (last : ℕ) (l : Link) (s : Seen) (w : Wire) (g : ℕ → Line) (ends : List (ℕ × RowEnd)) → SeesTo last l s w g → AllByRecursion (λ (x : ℕ × RowEnd). IsSomewhere s x.0) ends
    → SeesTo last l (ended_all ends s) (without_all (places_of ends) w) g
all_end last l s w g [] is all = subst (λ (v : Wire). SeesTo last l s v g) (none_without w) is
all_end last l s w g (x ∷ ends) is all =
    let one : SeesTo last l (attempt_ended x.0 x.1 s) (without_tag x.0 w) g = one_ends last l s w g x.0 all.0.attempt x.1 is all.0.there in
    subst (λ (v : Wire). SeesTo last l (ended_all ends (attempt_ended x.0 x.1 s)) v g) (without_more x.0 (places_of ends) w)
    (all_end last l (attempt_ended x.0 x.1 s) (without_tag x.0 w) g ends one (all_somewhere s x.0 x.1 all.0.attempt ends is.sees.places all.0.there all.1))

-- an attempt that ended stays so, on its stream
pub record HasEnded (s : Seen) (t n link : ℕ) : Type 0 where
  pub attempt : Attempt
  pub there : numbered s.attempts t ≡ Some attempt
  pub end : RowEnd
  pub ended : attempt.row.ended ≡ Some end
  pub stream : attempt.row.stream ≡ Some n
  pub on : link_number attempt ≡ link

ended_by : (s : Seen) (t k n link : ℕ) (e : RowEnd) (a b : Attempt) (x : Bool) → (k == t) ≡ x → AttemptsStandInPlace 1 s.attempts → numbered s.attempts t ≡ Some a → numbered s.attempts k ≡ Some b
    → ((x ≡ false) → (d : RowEnd) × (b.row.ended ≡ Some d)) → b.row.stream ≡ Some n → link_number b ≡ link → HasEnded (attempt_ended t e s) k n link
ended_by s t k n link e a b true is places there here was stream on = record {
  attempt = with_end e b;
  there = attempts_after s t k e a b places there here ∙ ap (λ (c : Bool). Some (if c then with_end e b else b)) is;
  end = e;
  ended = refl;
  stream = stream;
  on = on;
}
ended_by s t k n link e a b false is places there here was stream on = record {
  attempt = b;
  there = attempts_after s t k e a b places there here ∙ ap (λ (c : Bool). Some (if c then with_end e b else b)) is;
  end = (was refl).0;
  ended = (was refl).1;
  stream = stream;
  on = on;
}

pub stays_ended : (last : ℕ) (l : Link) (s : Seen) (w : Wire) (g : ℕ → Line) (ends : List (ℕ × RowEnd)) (k n link : ℕ) → SeesTo last l s w g
    → AllByRecursion (λ (x : ℕ × RowEnd). IsSomewhere s x.0) ends → HasEnded s k n link → HasEnded (ended_all ends s) k n link
stays_ended last l s w g [] k n link is all ended = ended
stays_ended last l s w g (x ∷ ends) k n link is all ended =
    let a : Attempt = all.0.attempt in
    let u : Seen = attempt_ended x.0 x.1 s in
    stays_ended last l u (without_tag x.0 w) g ends k n link (one_ends last l s w g x.0 a x.1 is all.0.there)
    (all_somewhere s x.0 x.1 a ends is.sees.places all.0.there all.1)
    (ended_by s x.0 k n link x.1 a ended.attempt (k == x.0) refl is.sees.places all.0.there ended.there (λ off. (ended.end, ended.ended)) ended.stream ended.on)

ends_by : (last : ℕ) (l : Link) (s : Seen) (w : Wire) (g : ℕ → Line) (x : ℕ × RowEnd) (ends : List (ℕ × RowEnd)) (k n link : ℕ) (b : Attempt) (c : Bool) → (x.0 == k) ≡ c → SeesTo last l s w g
    → AllByRecursion (λ (y : ℕ × RowEnd). IsSomewhere s y.0) (x ∷ ends) → numbered s.attempts k ≡ Some b → b.row.stream ≡ Some n → link_number b ≡ link
    → (c || is_one_of (places_of ends) k) ≡ true
    → ((d : Attempt) → numbered (attempt_ended x.0 x.1 s).attempts k ≡ Some d → d.row.stream ≡ Some n → link_number d ≡ link → is_one_of (places_of ends) k ≡ true → HasEnded (ended_all ends (attempt_ended x.0 x.1 s)) k n link)
    → HasEnded (ended_all (x ∷ ends) s) k n link
ends_by last l s w g x ends k n link b true e is all there stream on among rest =
    let a : Attempt = all.0.attempt in
    let same : (k == x.0) ≡ true = same_turned k x.0 ∙ e in
    stays_ended last l (attempt_ended x.0 x.1 s) (without_tag x.0 w) g ends k n link (one_ends last l s w g x.0 a x.1 is all.0.there)
    (all_somewhere s x.0 x.1 a ends is.sees.places all.0.there all.1)
    (ended_by s x.0 k n link x.1 a b true same is.sees.places all.0.there there (λ off. absurd (let never : ⊥ = (cc) in never)) stream on)
ends_by last l s w g x ends k n link b false e is all there stream on among rest =
    let a : Attempt = all.0.attempt in
    let off : (k == x.0) ≡ false = same_turned k x.0 ∙ e in
    rest b (attempts_after s x.0 k x.1 a b is.sees.places all.0.there there ∙ ap (λ (c : Bool). Some (if c then with_end x.1 b else b)) off) stream on among

pub all_have_ended : (last : ℕ) (l : Link) (s : Seen) (w : Wire) (g : ℕ → Line) (ends : List (ℕ × RowEnd)) (k n link : ℕ) (b : Attempt) → SeesTo last l s w g
    → AllByRecursion (λ (x : ℕ × RowEnd). IsSomewhere s x.0) ends → numbered s.attempts k ≡ Some b → b.row.stream ≡ Some n → link_number b ≡ link
    → is_one_of (places_of ends) k ≡ true → HasEnded (ended_all ends s) k n link
all_have_ended last l s w g [] k n link b is all there stream on among = absurd (cc)
all_have_ended last l s w g (x ∷ ends) k n link b is all there stream on among =
    let a : Attempt = all.0.attempt in
    ends_by last l s w g x ends k n link b (x.0 == k) refl is all there stream on among
    (λ d here stream_ on_ rest. all_have_ended last l (attempt_ended x.0 x.1 s) (without_tag x.0 w) g ends k n link d (one_ends last l s w g x.0 a x.1 is all.0.there)
    (all_somewhere s x.0 x.1 a ends is.sees.places all.0.there all.1) here stream_ on_ rest)
