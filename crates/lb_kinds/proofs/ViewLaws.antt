-- A view as marked subchannels.
use Rattle.std.proofs.Common.{◌≡◌, ℕ, zero, suc, ◌+◌, ◌==◌, ◌∙◌, Bool, true, false, not, ◌||◌, ◌&&◌, cond, if◌then◌else◌, Option, Some, List, [], ◌∷◌, length, map, take, drop, refl, ap, sym, subst}
use Rattle.std.specs.List.{filter, list_any, position_from, refill}
use Rattle.grpc_base.specs.declared.event.Conn.{Conn}
use Rattle.grpc_base.specs.declared.event.Conn.TheVariants as conn
use Rattle.lb_policy.specs.declared.seen.SubSeen.{SubSeen}
use Rattle.lb_policy.specs.Table.{is_ready, is_one_of, is_among, has_state, state_by, state_of_view, upholds_tier, IsWithoutRepeats}
use Rattle.lb_policy.specs.Steps.{noted_sub, counts_as_failed, failed_in, failed_after}
use Rattle.lb_policy.proofs.FailedLaws.{Each, each-one, marks-of, once-noted}
use Rattle.lb_kinds.specs.declared.marked.Marked.{Marked}
use Rattle.lb_kinds.specs.Seen.{IsKept, plain, failed_of, viewed, marked_by, mark_after, noted_mark}

-- subchannels that are given their marks
plain-marked : (before : List ℕ) (subs : List SubSeen) → plain (map (marked_by before) subs) ≡ subs
plain-marked before [] = refl
plain-marked before (s ∷ subs) = ap (λ (rest : List SubSeen). s ∷ rest) (plain-marked before subs)

shown-more : (m : Marked) (b : Bool) (xs : List Marked) (ns : List ℕ) → map (λ (x : Marked). x.seen.sub) xs ≡ ns → map (λ (x : Marked). x.seen.sub) (cond b (m ∷ xs) xs) ≡ cond b (m.seen.sub ∷ ns) ns
shown-more m true xs ns e = ap (λ (rest : List ℕ). m.seen.sub ∷ rest) e
shown-more m false xs ns e = e

sub-more : (s : SubSeen) (b : Bool) (xs : List SubSeen) → map (λ (x : SubSeen). x.sub) (cond b (s ∷ xs) xs) ≡ cond b (s.sub ∷ map (λ (x : SubSeen). x.sub) xs) (map (λ (x : SubSeen). x.sub) xs)
sub-more s true xs = refl
sub-more s false xs = refl

failed-marked : (before : List ℕ) (subs : List SubSeen) → failed_of (map (marked_by before) subs) ≡ failed_in before subs
failed-marked before [] = refl
failed-marked before (s ∷ subs) =
    shown-more (marked_by before s) (counts_as_failed before s) (filter (λ (m : Marked). m.failed) (map (marked_by before) subs)) (failed_in before subs) (failed-marked before subs) ∙ sym (sub-more s (counts_as_failed before s) (filter (counts_as_failed before) subs))

pub set-view : (before : List ℕ) (subs : List SubSeen) → viewed (map (marked_by before) subs) ≡ record { subs = subs; failed = failed_in before subs }
set-view before subs =
    ap (λ (xs : List SubSeen). record { subs = xs; failed = failed_of (map (marked_by before) subs) }) (plain-marked before subs) ∙ ap (λ (ns : List ℕ). record { subs = subs; failed = ns }) (failed-marked before subs)

-- a state that is noted
abbrev noted_mark_by : Bool → Conn → Marked → Marked
noted_mark_by b state m = if b then (record { seen = record m.seen { state = state }; failed = mark_after state m.failed }) else m

seen-by : (state : Conn) (m : Marked) (b : Bool) → (noted_mark_by b state m).seen ≡ (if b then record m.seen { state = state } else m.seen)
seen-by state m true = refl
seen-by state m false = refl

plain-noted : (sub : ℕ) (state : Conn) (ms : List Marked) → plain (map (noted_mark sub state) ms) ≡ map (noted_sub sub state) (plain ms)
plain-noted sub state [] = refl
plain-noted sub state (m ∷ ms) =
    ap (λ (s : SubSeen). s ∷ plain (map (noted_mark sub state) ms)) (seen-by state m (m.seen.sub == sub)) ∙ ap (λ (rest : List SubSeen). noted_sub sub state m.seen ∷ rest) (plain-noted sub state ms)

abbrev shown : (Marked → Bool) → List Marked → List ℕ
shown test ms = map (λ (m : Marked). m.seen.sub) (filter test ms)

number-by : (state : Conn) (m : Marked) (b : Bool) → (noted_mark_by b state m).seen.sub ≡ m.seen.sub
number-by state m true = refl
number-by state m false = refl

noted-more : (sub : ℕ) (state : Conn) (m : Marked) (b : Bool) (xs ys : List Marked) → map (λ (x : Marked). x.seen.sub) xs ≡ map (λ (x : Marked). x.seen.sub) ys → map (λ (x : Marked). x.seen.sub) (cond b (noted_mark sub state m ∷ xs) xs) ≡ map (λ (x : Marked). x.seen.sub) (cond b (m ∷ ys) ys)
noted-more sub state m true xs ys e = ap (λ (n : ℕ). n ∷ map (λ (x : Marked). x.seen.sub) xs) (number-by state m (m.seen.sub == sub)) ∙ ap (λ (ns : List ℕ). m.seen.sub ∷ ns) e
noted-more sub state m false xs ys e = e

shown-noted : (sub : ℕ) (state : Conn) (ms : List Marked) → failed_of (map (noted_mark sub state) ms) ≡ shown (λ (m : Marked). (noted_mark sub state m).failed) ms
shown-noted sub state [] = refl
shown-noted sub state (m ∷ ms) =
    noted-more sub state m (noted_mark sub state m).failed (filter (λ (x : Marked). x.failed) (map (noted_mark sub state) ms)) (filter (λ (x : Marked). (noted_mark sub state x).failed) ms) (shown-noted sub state ms)

same-more : (m : Marked) (b : Bool) (xs ys : List Marked) → map (λ (x : Marked). x.seen.sub) xs ≡ map (λ (x : Marked). x.seen.sub) ys → map (λ (x : Marked). x.seen.sub) (cond b (m ∷ xs) xs) ≡ map (λ (x : Marked). x.seen.sub) (cond b (m ∷ ys) ys)
same-more m true xs ys e = ap (λ (ns : List ℕ). m.seen.sub ∷ ns) e
same-more m false xs ys e = e

same-shown : (t u : Marked → Bool) (ms : List Marked) → Each (λ (m : Marked). t m ≡ u m) ms → shown t ms ≡ shown u ms
same-shown t u [] h = refl
same-shown t u (m ∷ ms) h =
    ap (λ (b : Bool). map (λ (x : Marked). x.seen.sub) (cond b (m ∷ filter t ms) (filter t ms))) h.0 ∙ same-more m (u m) (filter t ms) (filter u ms) (same-shown t u ms h.1)

each-all : {A : Type 0} (P : A → Type 0) → ((x : A) → P x) → (xs : List A) → Each P xs
each-all P f [] = tt
each-all P f (x ∷ xs) = (f x, each-all P f xs)

shown-filter : (test : ℕ → Bool) (ms : List Marked) → shown (λ (m : Marked). test m.seen.sub) ms ≡ filter test (map (λ (s : SubSeen). s.sub) (plain ms))
shown-filter test [] = refl
shown-filter test (m ∷ ms) =
    shown-more m (test m.seen.sub) (filter (λ (x : Marked). test x.seen.sub) ms) (filter test (map (λ (s : SubSeen). s.sub) (plain ms))) (shown-filter test ms)

both-more : (test : ℕ → Bool) (m : Marked) (b : Bool) (xs rest : List Marked) → map (λ (x : Marked). x.seen.sub) rest ≡ filter test (map (λ (x : Marked). x.seen.sub) xs) → map (λ (x : Marked). x.seen.sub) (cond (b && test m.seen.sub) (m ∷ rest) rest) ≡ filter test (map (λ (x : Marked). x.seen.sub) (cond b (m ∷ xs) xs))
both-more test m true xs rest e = shown-more m (test m.seen.sub) rest (filter test (map (λ (x : Marked). x.seen.sub) xs)) e
both-more test m false xs rest e = e

shown-both : (test : ℕ → Bool) (ms : List Marked) → shown (λ (m : Marked). m.failed && test m.seen.sub) ms ≡ filter test (failed_of ms)
shown-both test [] = refl
shown-both test (m ∷ ms) =
    both-more test m m.failed (filter (λ (x : Marked). x.failed) ms) (filter (λ (x : Marked). x.failed && test x.seen.sub) ms) (shown-both test ms)

marks : (ms : List Marked) → IsWithoutRepeats (plain ms) → Each (λ (m : Marked). is_among (failed_of ms) m.seen ≡ m.failed) ms
marks ms h = marks-of (λ (m : Marked). m.seen) (λ (m : Marked). m.failed) ms h

put-in : (m : Marked) (among b : Bool) → among ≡ m.failed → (noted_mark_by b conn.Failure m).failed ≡ (b || among)
put-in m among true e = refl
put-in m among false e = sym e

no-mark : (mark : Bool) → false ≡ (mark && false)
no-mark true = refl
no-mark false = refl

yes-mark : (mark : Bool) → mark ≡ (mark && true)
yes-mark true = refl
yes-mark false = refl

taken-out : (m : Marked) (b : Bool) → (noted_mark_by b conn.Ready m).failed ≡ (m.failed && not b)
taken-out m true = no-mark m.failed
taken-out m false = yes-mark m.failed

kept-mark : (m : Marked) (state : Conn) (b : Bool) → mark_after state m.failed ≡ m.failed → (noted_mark_by b state m).failed ≡ m.failed
kept-mark m state true e = e
kept-mark m state false e = refl

failed-noted : (sub : ℕ) (state : Conn) (ms : List Marked) → IsWithoutRepeats (plain ms) → shown (λ (m : Marked). (noted_mark sub state m).failed) ms ≡ failed_after sub state (failed_of ms) (plain ms)
failed-noted sub conn.Failure ms h =
    same-shown (λ (m : Marked). (noted_mark sub conn.Failure m).failed) (λ (m : Marked). (m.seen.sub == sub) || is_among (failed_of ms) m.seen) ms (each-one (λ (m : Marked). is_among (failed_of ms) m.seen ≡ m.failed) (λ (m : Marked). (noted_mark sub conn.Failure m).failed ≡ ((m.seen.sub == sub) || is_among (failed_of ms) m.seen)) (λ m e. put-in m (is_among (failed_of ms) m.seen) (m.seen.sub == sub) e) ms (marks ms h)) ∙ shown-filter (λ (n : ℕ). (n == sub) || is_one_of (failed_of ms) n) ms
failed-noted sub conn.Ready ms h =
    same-shown (λ (m : Marked). (noted_mark sub conn.Ready m).failed) (λ (m : Marked). m.failed && not (m.seen.sub == sub)) ms (each-all (λ (m : Marked). (noted_mark sub conn.Ready m).failed ≡ (m.failed && not (m.seen.sub == sub))) (λ m. taken-out m (m.seen.sub == sub)) ms) ∙ shown-both (λ (n : ℕ). not (n == sub)) ms
failed-noted sub conn.Idle ms h = same-shown _ (λ (m : Marked). m.failed) ms (each-all (λ (m : Marked). (noted_mark sub conn.Idle m).failed ≡ m.failed) (λ m. kept-mark m conn.Idle (m.seen.sub == sub) refl) ms)
failed-noted sub conn.Connecting ms h = same-shown _ (λ (m : Marked). m.failed) ms (each-all (λ (m : Marked). (noted_mark sub conn.Connecting m).failed ≡ m.failed) (λ m. kept-mark m conn.Connecting (m.seen.sub == sub) refl) ms)
failed-noted sub conn.Shutdown ms h = same-shown _ (λ (m : Marked). m.failed) ms (each-all (λ (m : Marked). (noted_mark sub conn.Shutdown m).failed ≡ m.failed) (λ m. kept-mark m conn.Shutdown (m.seen.sub == sub) refl) ms)

pub note-view : (sub : ℕ) (state : Conn) (ms : List Marked) → IsWithoutRepeats (plain ms) → viewed (map (noted_mark sub state) ms) ≡ record { subs = map (noted_sub sub state) (plain ms); failed = failed_after sub state (failed_of ms) (plain ms) }
note-view sub state ms h =
    ap (λ (xs : List SubSeen). record { subs = xs; failed = failed_of (map (noted_mark sub state) ms) }) (plain-noted sub state ms) ∙ ap (λ (ns : List ℕ). record { subs = map (noted_sub sub state) (plain ms); failed = ns }) (shown-noted sub state ms ∙ failed-noted sub state ms h)

-- the marks say the same as the numbers
any-marks : (failed : List ℕ) (ms : List Marked) → Each (λ (m : Marked). is_among failed m.seen ≡ m.failed) ms → list_any (λ (m : Marked). not m.failed) ms ≡ list_any (λ (s : SubSeen). not (is_among failed s)) (plain ms)
any-marks failed [] h = refl
any-marks failed (m ∷ ms) h =
    ap (λ (b : Bool). not b || list_any (λ (x : Marked). not x.failed) ms) (sym h.0) ∙ ap (λ (b : Bool). not (is_among failed m.seen) || b) (any-marks failed ms h.1)

place-marks : (failed : List ℕ) (k : ℕ) (ms : List Marked) → Each (λ (m : Marked). is_among failed m.seen ≡ m.failed) ms → position_from (λ (m : Marked). is_ready m.seen.state || not m.failed) k ms ≡ position_from (upholds_tier failed) k (plain ms)
place-marks failed k [] h = refl
place-marks failed k (m ∷ ms) h =
    ap (λ (b : Bool). cond (is_ready m.seen.state || not b) (Some k) (position_from (λ (x : Marked). is_ready x.seen.state || not x.failed) (k + 1) ms)) (sym h.0) ∙ ap (λ (o : Option ℕ). cond (upholds_tier failed m.seen) (Some k) o) (place-marks failed (k + 1) ms h.1)

pub upholding-place : (ms : List Marked) → IsWithoutRepeats (plain ms) → position_from (λ (m : Marked). is_ready m.seen.state || not m.failed) 0 ms ≡ position_from (upholds_tier (failed_of ms)) 0 (plain ms)
upholding-place ms h = place-marks (failed_of ms) 0 ms (marks ms h)

pub kept : (ms : List Marked) (now lasting : Conn) → now ≡ state_of_view (plain ms) → lasting ≡ state_by (has_state is_ready (plain ms)) (list_any (λ (m : Marked). not m.failed) ms) → IsWithoutRepeats (plain ms) → IsKept ms now lasting
kept ms now lasting e f h = record {
  states = e;
  lasts = f ∙ ap (state_by (has_state is_ready (plain ms))) (any-marks (failed_of ms) ms (marks ms h));
  no_repeats = h;
}

pub once-marked : (before : List ℕ) (subs : List SubSeen) → IsWithoutRepeats subs → IsWithoutRepeats (plain (map (marked_by before) subs))
once-marked before subs h = subst IsWithoutRepeats (sym (plain-marked before subs)) h

pub once-after : (sub : ℕ) (state : Conn) (ms : List Marked) → IsWithoutRepeats (plain ms) → IsWithoutRepeats (plain (map (noted_mark sub state) ms))
once-after sub state ms h = subst IsWithoutRepeats (sym (plain-noted sub state ms)) (once-noted sub state (plain ms) h)

-- a part of a view
map-take : (n : ℕ) (ms : List Marked) → plain (take n ms) ≡ take n (plain ms)
map-take zero ms = refl
map-take (suc n) [] = refl
map-take (suc n) (m ∷ ms) = ap (λ (rest : List SubSeen). m.seen ∷ rest) (map-take n ms)

map-drop : (n : ℕ) (ms : List Marked) → plain (drop n ms) ≡ drop n (plain ms)
map-drop zero ms = refl
map-drop (suc n) [] = refl
map-drop (suc n) (m ∷ ms) = map-drop n ms

pub plain-part : (count place : ℕ) (ms : List Marked) → plain (take count (drop place ms)) ≡ take count (drop place (plain ms))
plain-part count place ms = map-take count (drop place ms) ∙ ap (take count) (map-drop place ms)

-- a slice that is written back, each element changed
pub refilled : (f : Marked → Marked) (ms : List Marked) → refill (length ms) ms (map f ms) ≡ map f ms
refilled f [] = refl
refilled f (m ∷ ms) = ap (λ (rest : List Marked). f m ∷ rest) (refilled f ms)
