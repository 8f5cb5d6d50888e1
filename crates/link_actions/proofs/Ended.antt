-- An attempt ends in the session: its link has it no longer, and all else stays.
use Rattle.std.proofs.Common.{◌≡◌, ◌∷◌, ◌++◌, ◌&&◌, ◌==◌, not, ap, arith, refl, subst, sym, ◌∙◌, Bool, true, false, List, [], Option, None, Some, ℕ, ◌+◌, ◌-◌, ◌*◌, zero, suc, cond, filter, if◌then◌else◌, is_some, map, option_and_then, option_map, slice_get, slice_set}
use Rattle.std.specs.Option.{option_map_or}
use Rattle.std.proofs.lemmas.Bool.{eqb-true}
use Rattle.std.proofs.lemmas.Bool.Decides.{nat_tests}
use Rattle.std.proofs.lemmas.List.Elements.{filter-append}
use Rattle.attempt_ledger.specs.Ends.{is_cut}
use Rattle.attempt_ledger.specs.declared.row.RowEnd.{RowEnd}
use Rattle.grpc_meta.specs.RequestFields.{fields_of_request}
use Rattle.h2_link.specs.Feeds.{Line}
use Rattle.h2_link.specs.Wire.{Wire}
use Rattle.h2_link.specs.declared.live.LiveStream.{LiveStream}
use Rattle.link_actions.proofs.Lists.{both_if, if_false, if_true, on_if}
use Rattle.link_actions.proofs.Opened.{streams, waits}
use Rattle.link_actions.proofs.Without.{all_filter, at_place, by_stream_filter, changed_at, distinct_filter, filter_swap, is_other, is_other_attempt, is_other_stream, live_without, map_filter, opened_without, place_is, places_at}
use Rattle.link_actions.proofs.Written.{changed_here}
use Rattle.link_actions.specs.Laws.{EndsKeep, without_tag}
use Rattle.link_actions.specs.Sees.{NumbersAreDistinct, StreamsAreFed, StreamsAreLive, AttemptsStandInPlace, IsFed, SeesLink, SeesOwed, SeesRead, WaitFed, by_stream}
use Rattle.session_actions.specs.AttemptEnds.{attempt_ended, attempt_ended_as, with_end, with_end_in_run}
use Rattle.session_actions.specs.Attempts.{call_of, is_to_follow, with_attempt}
use Rattle.session_actions.specs.Calls.{marked}
use Rattle.session_actions.specs.Configs.{config_of_call, deadline}
use Rattle.session_actions.specs.Entries.{drawn_if, now}
use Rattle.session_actions.specs.Reading.{is_outstanding_on, outstanding_on}
use Rattle.session_actions.specs.Words.{changed, changed_if, holds, numbered}
use Rattle.session_actions.specs.Writing.{streaming_on, waiting_on}
use Rattle.session_actions.specs.declared.attempt.Attempt.{Attempt}
use Rattle.session_actions.specs.declared.call.Call.{Call}
use Rattle.session_actions.specs.declared.call.MarkKind.{MarkKind}
use Rattle.session_actions.specs.declared.call.MarkKind.TheVariants as mark
use Rattle.session_actions.specs.declared.config.ThrottleRun.{ThrottleRun}
use Rattle.session_actions.specs.declared.entry.OpenEntry.{OpenEntry}
use Rattle.session_actions.specs.declared.link.Link.{Link}
use Rattle.session_actions.specs.declared.seen.Seen.{Seen}

-- what an end adds to a session: whatever becomes of buckets and of random words
abbrev with_runs : List ThrottleRun → Seen → Seen
with_runs runs s = record s { runs = runs }

abbrev pub ended_seen : Bool → ℕ → ℕ → RowEnd → List ThrottleRun → Seen → Seen
ended_seen draws call t e runs s = drawn_if draws (marked (mark.Ended t) call (with_attempt (with_end e) t (with_runs runs s)))

abbrev run_added : Attempt → Seen → Option ℕ → Seen
run_added a s o = option_map_or (λ run. record s { runs = changed (λ u. record u { ends = u.ends ++ a.place ∷ [] }) run s.runs }) o s

run_only : (a : Attempt) (s : Seen) (o : Option ℕ) → run_added a s o ≡ with_runs (run_added a s o).runs s
run_only a s None = refl
run_only a s (Some run) = refl

runs_only : (a : Attempt) (e : RowEnd) (s : Seen) (o : Option Call)
    → option_map_or (with_end_in_run a e s) o s ≡ with_runs (option_map_or (with_end_in_run a e s) o s).runs s
runs_only a e s None = refl
runs_only a e s (Some c) =
    on_if (λ (u : Seen). u ≡ with_runs u.runs s) (not (is_cut e.cause) && not (is_to_follow c e.cause e.unseen s))
    (run_added a s (option_and_then (λ h. h.run) (config_of_call c s))) s
    (λ h. run_only a s (option_and_then (λ h. h.run) (config_of_call c s))) (λ h. refl)

pub is_ended : (s : Seen) (t : ℕ) (e : RowEnd) (a : Attempt) → AttemptsStandInPlace 1 s.attempts → numbered s.attempts t ≡ Some a
    → attempt_ended t e s ≡ ended_seen (is_some e.word) a.row.call t e (option_map_or (with_end_in_run a e s) (call_of a s) s).runs s
is_ended s t e a places there =
    let u : Seen = option_map_or (with_end_in_run a e s) (call_of a s) s in
    ap (λ (o : Option Attempt). option_map_or (attempt_ended_as e s) o s) there
    ∙ ap (λ (n : ℕ). drawn_if (is_some e.word) (marked (mark.Ended n) a.row.call (with_attempt (with_end e) n u))) (place_is t s.attempts a places there)
    ∙ ap (λ (v : Seen). drawn_if (is_some e.word) (marked (mark.Ended t) a.row.call (with_attempt (with_end e) t v))) (runs_only a e s (call_of a s))

-- a call of which something is noted
abbrev pub noted_call : MarkKind → ℕ → Call → Call
noted_call what at c = record c { marks = c.marks ++ record { what = what; moment = at } ∷ [] }

apart_below : (i j : ℕ) → (suc j == suc i) ≡ false → (j == i) ≡ false
apart_below i j e = grind (arith, nat_tests, e)

set_other : {X : Type 0} (xs : List X) (i j : ℕ) (v : X) → (j == i) ≡ false → slice_get (slice_set xs i v) j ≡ slice_get xs j
set_other [] i j v e = refl
set_other (x ∷ xs) zero zero v e = absurd (cc)
set_other (x ∷ xs) zero (suc j) v e = refl
set_other (x ∷ xs) (suc i) zero v e = refl
set_other (x ∷ xs) (suc i) (suc j) v e = set_other xs i j v (apart_below i j e)

other_by : {X : Type 0} (f : X → X) (n k : ℕ) (xs : List X) (o : Option X) → (k == n) ≡ false → numbered xs n ≡ o → numbered (changed_if f n xs o) k ≡ numbered xs k
other_by f n k xs None e is = refl
other_by f zero k xs (Some x) e is = absurd (cc)
other_by f (suc i) zero xs (Some x) e is = refl
other_by f (suc i) (suc j) xs (Some x) e is = set_other xs i j (f x) (apart_below i j e)

pub changed_other : {X : Type 0} (f : X → X) (n k : ℕ) (xs : List X) → (k == n) ≡ false → numbered (changed f n xs) k ≡ numbered xs k
changed_other f n k xs e = other_by f n k xs (numbered xs n) e refl

pub changed_one : {X : Type 0} (f : X → X) (n k : ℕ) (xs : List X) (x : X) (b : Bool) → (k == n) ≡ b → numbered xs k ≡ Some x → numbered (changed f n xs) k ≡ Some (if b then f x else x)
changed_one f n k xs x true is e =
    let same : k ≡ n = eqb-true k n is in
    subst (λ (m : ℕ). numbered (changed f n xs) m ≡ Some (f x)) (sym same) (changed_here f n xs x (subst (λ (m : ℕ). numbered xs m ≡ Some x) same e))
changed_one f n k xs x false is e = changed_other f n k xs is ∙ e

moment_by : (draws : Bool) (o : Option OpenEntry) (last : ℕ)
    → option_map_or (λ (x : OpenEntry). x.moment) (option_map (λ (x : OpenEntry). record x { drawn = x.drawn + (if draws then 1 else 0) }) o) last ≡ option_map_or (λ (x : OpenEntry). x.moment) o last
moment_by draws None last = refl
moment_by draws (Some x) last = refl

pub now_same : (draws : Bool) (call t : ℕ) (e : RowEnd) (runs : List ThrottleRun) (s : Seen) → now (ended_seen draws call t e runs s) ≡ now s
now_same draws call t e runs s = moment_by draws s.current _

-- what an attempt is fed with
fed_by : (l : Link) (s : Seen) (draws : Bool) (call t : ℕ) (e : RowEnd) (runs : List ThrottleRun) (b : Attempt) (line : Line) (x : Bool) → (b.row.call == call) ≡ x
    → IsFed l s b line → IsFed l (ended_seen draws call t e runs s) b line
fed_by l s draws call t e runs b line true h is = record {
  call = noted_call (mark.Ended t) (now s) is.call;
  call_is = changed_one (noted_call (mark.Ended t) (now s)) call b.row.call s.calls is.call true h is.call_is;
  fields = is.fields
      ∙ ap (λ (n : ℕ). fields_of_request is.call.request s.setup.authority (option_map (λ moment. moment - n) (deadline is.call s)) b.row.number) (sym (now_same draws call t e runs s));
  written = is.written;
  left = is.left;
  finished = is.finished;
}
fed_by l s draws call t e runs b line false h is = record {
  call = is.call;
  call_is = changed_one (noted_call (mark.Ended t) (now s)) call b.row.call s.calls is.call false h is.call_is;
  fields = is.fields
      ∙ ap (λ (n : ℕ). fields_of_request is.call.request s.setup.authority (option_map (λ moment. moment - n) (deadline is.call s)) b.row.number) (sym (now_same draws call t e runs s));
  written = is.written;
  left = is.left;
  finished = is.finished;
}

fed_ended : (l : Link) (s : Seen) (draws : Bool) (call t : ℕ) (e : RowEnd) (runs : List ThrottleRun) (b : Attempt) (line : Line)
    → IsFed l s b line → IsFed l (ended_seen draws call t e runs s) b line
fed_ended l s draws call t e runs b line is = fed_by l s draws call t e runs b line (b.row.call == call) refl is

all_ended : (l : Link) (s : Seen) (g : ℕ → Line) (draws : Bool) (call t : ℕ) (e : RowEnd) (runs : List ThrottleRun) (xs : List LiveStream) (others : List Attempt)
    → StreamsAreFed l s g xs others → StreamsAreFed l (ended_seen draws call t e runs s) g xs others
all_ended l s g draws call t e runs [] [] are = tt
all_ended l s g draws call t e runs (x ∷ xs) (a ∷ others) are =
    (fed_ended l s draws call t e runs a (g x.tag) are.0, all_ended l s g draws call t e runs xs others are.1)
all_ended l s g draws call t e runs [] (a ∷ others) are = absurd are
all_ended l s g draws call t e runs (x ∷ xs) [] are = absurd are

waits_ended : (l : Link) (s : Seen) (g : ℕ → Line) (draws : Bool) (call t : ℕ) (e : RowEnd) (runs : List ThrottleRun) (xs : List Attempt)
    → WaitFed l s g xs → WaitFed l (ended_seen draws call t e runs s) g xs
waits_ended l s g draws call t e runs [] are = tt
waits_ended l s g draws call t e runs (a ∷ xs) are =
    (fed_ended l s draws call t e runs a (g a.place) are.0, waits_ended l s g draws call t e runs xs are.1)

fed_without : (l : Link) (s : Seen) (g : ℕ → Line) (t : ℕ) (xs : List LiveStream) (others : List Attempt) → StreamsAreLive l xs others → StreamsAreFed l s g xs others
    → StreamsAreFed l s g (filter (is_other_stream t) xs) (filter (is_other_attempt t) others)
fed_without l s g t [] [] are fed_ = tt
fed_without l s g t (x ∷ xs) (a ∷ others) are fed_ =
    let fx : List LiveStream = filter (is_other_stream t) xs in
    let fa : List Attempt = filter (is_other_attempt t) others in
    let rest : StreamsAreFed l s g fx fa = fed_without l s g t xs others are.1 fed_.1 in
    subst (λ (c : Bool). StreamsAreFed l s g (cond (is_other_stream t x) (x ∷ fx) fx) (cond c (a ∷ fa) fa)) (ap (is_other t) are.0.tag)
    (both_if (StreamsAreFed l s g) (is_other_stream t x) (x ∷ fx) fx (a ∷ fa) fa (λ e. (fed_.0, rest)) (λ e. rest))
fed_without l s g t [] (a ∷ others) are fed_ = absurd are
fed_without l s g t (x ∷ xs) [] are fed_ = absurd are

-- one that ended is not outstanding
pub never_out : (c d : Bool) → ((c && false) && d) ≡ false
never_out true d = refl
never_out false d = refl

out_by : (l : Link) (e : RowEnd) (t : ℕ) (x : Attempt) (ys zs : List Attempt) (b o : Bool) → (x.place == t) ≡ b → is_outstanding_on l x ≡ o
    → filter (is_outstanding_on l) ys ≡ filter (is_other_attempt t) zs
    → filter (is_outstanding_on l) ((if b then with_end e x else x) ∷ ys) ≡ filter (is_other_attempt t) (cond o (x ∷ zs) zs)
out_by l e t x ys zs true true is was h =
    if_false (is_outstanding_on l (with_end e x)) (with_end e x ∷ filter (is_outstanding_on l) ys) (filter (is_outstanding_on l) ys)
    (never_out (is_some x.row.placed) (holds (λ at. at.link == l.number) x.row.placed))
    ∙ h ∙ sym (if_false (is_other_attempt t x) (x ∷ filter (is_other_attempt t) zs) (filter (is_other_attempt t) zs) (ap not is))
out_by l e t x ys zs true false is was h =
    if_false (is_outstanding_on l (with_end e x)) (with_end e x ∷ filter (is_outstanding_on l) ys) (filter (is_outstanding_on l) ys)
    (never_out (is_some x.row.placed) (holds (λ at. at.link == l.number) x.row.placed))
    ∙ h
out_by l e t x ys zs false true is was h =
    if_true (is_outstanding_on l x) (x ∷ filter (is_outstanding_on l) ys) (filter (is_outstanding_on l) ys) was
    ∙ ap (λ (us : List Attempt). x ∷ us) h
    ∙ sym (if_true (is_other_attempt t x) (x ∷ filter (is_other_attempt t) zs) (filter (is_other_attempt t) zs) (ap not is))
out_by l e t x ys zs false false is was h =
    if_false (is_outstanding_on l x) (x ∷ filter (is_outstanding_on l) ys) (filter (is_outstanding_on l) ys) was ∙ h

ended_out : (l : Link) (e : RowEnd) (t : ℕ) (xs : List Attempt)
    → filter (is_outstanding_on l) (map (at_place (with_end e) t) xs) ≡ filter (is_other_attempt t) (filter (is_outstanding_on l) xs)
ended_out l e t [] = refl
ended_out l e t (x ∷ xs) =
    out_by l e t x (map (at_place (with_end e) t) xs) (filter (is_outstanding_on l) xs) (x.place == t) (is_outstanding_on l x) refl refl (ended_out l e t xs)

-- whole
pub still_read : (l : Link) (t : ℕ) (w : Wire) → SeesRead l w → SeesRead l (without_tag t w)
still_read l t w is = record {
  whole = is.whole;
  read = is.read;
  ready = is.ready;
  retiring = is.retiring;
  limit = is.limit;
  initial = is.initial;
  window = is.window;
  opened = is.opened;
  block = is.block;
  table = is.table;
}

still_owes : (l : Link) (t : ℕ) (w : Wire) → SeesOwed l w → SeesOwed l (without_tag t w)
still_owes l t w is = record { queue = is.queue; names = is.names; resizes = is.resizes; written = is.written; answered = is.answered }

-- the lists of the session after it
pub record AreLeft (l : Link) (s u : Seen) (t : ℕ) : Type 0 where
  pub streaming : by_stream (streaming_on l u) ≡ filter (is_other_attempt t) (by_stream (streaming_on l s))
  pub waiting : waiting_on l u ≡ filter (is_other_attempt t) (waiting_on l s)
  pub places : AttemptsStandInPlace 1 u.attempts

pub are_left : (l : Link) (s : Seen) (draws : Bool) (call t : ℕ) (e : RowEnd) (runs : List ThrottleRun) (a : Attempt) → AttemptsStandInPlace 1 s.attempts
    → numbered s.attempts t ≡ Some a → AreLeft l s (ended_seen draws call t e runs s) t
are_left l s draws call t e runs a places there =
    let u : Seen = ended_seen draws call t e runs s in
    let attempts : u.attempts ≡ map (at_place (with_end e) t) s.attempts = changed_at (with_end e) t s.attempts a places there in
    let out : outstanding_on l u ≡ filter (is_other_attempt t) (outstanding_on l s) = ap (filter (is_outstanding_on l)) attempts ∙ ended_out l e t s.attempts in
    record {
      streaming = ap by_stream (ap (filter streams) out ∙ filter_swap streams (is_other_attempt t) (outstanding_on l s))
          ∙ by_stream_filter (is_other_attempt t) (streaming_on l s);
      waiting = ap (filter waits) out ∙ filter_swap waits (is_other_attempt t) (outstanding_on l s);
      places = subst (AttemptsStandInPlace 1) (sym attempts) (places_at (with_end e) (λ b. refl) t 1 s.attempts places);
    }

pub ends_keep : EndsKeep
ends_keep l s w g t a e is there =
    let runs : List ThrottleRun = (option_map_or (with_end_in_run a e s) (call_of a s) s).runs in
    let draws : Bool = is_some e.word in
    let call : ℕ = a.row.call in
    let u : Seen = ended_seen draws call t e runs s in
    let xs : List LiveStream = filter (is_other_stream t) w.live in
    let left : AreLeft l s u t = are_left l s draws call t e runs a is.places there in
    let S : Seen → Type 0 = λ v. SeesLink l v (without_tag t w) g in
    subst S (sym (is_ended s t e a is.places there)) (record {
      at = is.at;
      sees = record {
        reads = still_read l t w is.sees.reads;
        live = subst (StreamsAreLive l xs) (sym left.streaming) (live_without l t w.live (by_stream (streaming_on l s)) is.sees.live);
      };
      owes = still_owes l t w is.owes;
      waits = ap (filter (is_other t)) is.waits ∙ sym (map_filter (λ (b : Attempt). b.place) (is_other t) (waiting_on l s))
          ∙ ap (map (λ (b : Attempt). b.place)) (sym left.waiting);
      fed = subst (StreamsAreFed l u g xs) (sym left.streaming)
          (all_ended l s g draws call t e runs xs (filter (is_other_attempt t) (by_stream (streaming_on l s))) (fed_without l s g t w.live (by_stream (streaming_on l s)) is.sees.live is.fed));
      wait_fed = subst (WaitFed l u g) (sym left.waiting)
          (waits_ended l s g draws call t e runs (filter (is_other_attempt t) (waiting_on l s)) (all_filter (λ b. IsFed l s b (g b.place)) (is_other_attempt t) (waiting_on l s) is.wait_fed));
      opened = opened_without (is_other_stream t) 1 (2 * w.opened + 1) w.live is.opened;
      fresh = is.fresh;
      tags = subst NumbersAreDistinct
          (sym (ap (λ (ns : List ℕ). ns ++ filter (is_other t) w.waiting) (map_filter (λ (x : LiveStream). x.tag) (is_other t) w.live)
          ∙ sym (filter-append (is_other t) (map (λ (x : LiveStream). x.tag) w.live) w.waiting)))
          (distinct_filter (is_other t) (map (λ (x : LiveStream). x.tag) w.live ++ w.waiting) is.tags);
      places = left.places;
    })
