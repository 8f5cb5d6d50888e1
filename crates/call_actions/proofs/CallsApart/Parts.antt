-- What an action touches of calls, attempts, configs and runs, kind by kind; and that it leaves a call as it is of which none of these is.
use Rattle.call_actions.proofs.Lists.{changed_away, changed_map}
use Rattle.call_actions.proofs.Ranks.{numbered_more}
use Rattle.call_actions.proofs.CallsApart.Through.{filter_set}
use Rattle.call_actions.specs.CallsApart.Apart.{IsApart, has_config, run_number}
use Rattle.grpc_base.specs.declared.plan.Throttle.{Throttle}
use Rattle.session_actions.specs.Attempts.{is_of, marked_row, with_attempt}
use Rattle.session_actions.specs.Calls.{marked, with_call}
use Rattle.session_actions.specs.Entries.{now}
use Rattle.session_actions.specs.Words.{changed, changed_if, holds, numbered}
use Rattle.session_actions.specs.declared.attempt.Attempt.{Attempt}
use Rattle.session_actions.specs.declared.call.Call.{Call}
use Rattle.session_actions.specs.declared.call.MarkKind.{MarkKind}
use Rattle.session_actions.specs.declared.config.HeldConfig.{HeldConfig}
use Rattle.session_actions.specs.declared.config.ThrottleRun.{ThrottleRun}
use Rattle.session_actions.specs.declared.seen.Seen.{Seen}
use Rattle.std.proofs.Common.{Bool, List, None, Option, Some, [], ap, append-nil, cond, eqb-true, false, filter, is_some, option_and_then, option_map, refl, slice_get, suc, sym, true, zero, ℕ, ◌++◌, ◌==◌, ◌∙◌, ◌∷◌, ◌≡◌}
use Rattle.std.proofs.lemmas.Bool.{eqb-false}
use Rattle.std.proofs.lemmas.List.Elements.{filter-append}
use Rattle.std.specs.Option.{option_map_or}

-- calls, attempts, configs and runs are the same
pub record IsSame (s t : Seen) : Type 0 where
  pub calls : t.calls ≡ s.calls
  pub attempts : t.attempts ≡ s.attempts
  pub configs : t.configs ≡ s.configs
  pub runs : t.runs ≡ s.runs

pub same_or : {X : Type 0} (s : Seen) (f : X → Seen) → ((x : X) → IsSame s (f x)) → (o : Option X) → IsSame s (option_map_or f o s)
same_or s f each None = record { calls = refl; attempts = refl; configs = refl; runs = refl }
same_or s f each (Some x) = each x

pub same_same : (s t u : Seen) → IsSame s t → IsSame t u → IsSame s u
same_same s t u f g = record {
  calls = g.calls ∙ f.calls;
  attempts = g.attempts ∙ f.attempts;
  configs = g.configs ∙ f.configs;
  runs = g.runs ∙ f.runs;
}

abbrev throttle_of : Option ThrottleRun → Option Throttle
throttle_of o = option_map (λ (u : ThrottleRun). u.throttle) o

abbrev run_of_config : Option HeldConfig → Option ℕ
run_of_config o = option_and_then (λ (h : HeldConfig). h.run) o

module _ (c : Call) where
  pub same_apart : (s t : Seen) → IsSame s t → IsApart s t c
  same_apart s t e = record {
    call = ap (λ (l : List Call). numbered l c.number) e.calls;
    config = ap (λ (l : List HeldConfig). option_and_then (numbered l) c.config) e.configs;
    attempts = ap (filter (is_of c)) e.attempts;
    rows = λ place mine. ap (λ (l : List Attempt). numbered l place) e.attempts;
    throttle = ap (λ (l : List HeldConfig). throttle_of (option_and_then (numbered t.runs) (run_of_config (option_and_then (numbered l) c.config)))) e.configs
        ∙ ap (λ (l : List ThrottleRun). throttle_of (option_and_then (numbered l) (run_number c s))) e.runs;
  }

  pub joins : (s t u : Seen) → IsApart s t c → IsApart t u c → IsApart s u c
  joins s t u f g = record {
    call = g.call ∙ f.call;
    config = g.config ∙ f.config;
    attempts = g.attempts ∙ f.attempts;
    rows = λ place mine. g.rows place (ap (holds (is_of c)) (f.rows place mine) ∙ mine) ∙ f.rows place mine;
    throttle = g.throttle ∙ f.throttle;
  }

  pub then_same : (s t u : Seen) → IsApart s t c → IsSame t u → IsApart s u c
  then_same s t u f g = joins s t u f (same_apart t u g)

  -- a call of another number changes
  pub call_apart : (f : Call → Call) (n : ℕ) (s : Seen) → (n == c.number) ≡ false → IsApart s (with_call f n s) c
  call_apart f n s off = record {
    call = changed_away f n c.number s.calls (λ e. eqb-false n c.number off (sym e));
    config = refl;
    attempts = refl;
    rows = λ place mine. refl;
    throttle = refl;
  }

  -- an attempt of another call changes, and stays one of that call
  filter_by : (f : Attempt → Attempt) → ((a : Attempt) → (f a).row.call ≡ a.row.call) → (i : ℕ) (xs : List Attempt) (o : Option Attempt) → slice_get xs i ≡ o
      → holds (is_of c) o ≡ false → filter (is_of c) (changed_if f (suc i) xs o) ≡ filter (is_of c) xs
  filter_by f keeps i xs None got off = refl
  filter_by f keeps i xs (Some a) got off =
      filter_set (is_of c) xs i a (f a) got off (ap (λ (n : ℕ). n == c.number) (keeps a) ∙ off)

  filter_changed : (f : Attempt → Attempt) → ((a : Attempt) → (f a).row.call ≡ a.row.call) → (n : ℕ) (xs : List Attempt) → holds (is_of c) (numbered xs n) ≡ false
      → filter (is_of c) (changed f n xs) ≡ filter (is_of c) xs
  filter_changed f keeps zero xs off = refl
  filter_changed f keeps (suc i) xs off = filter_by f keeps i xs (slice_get xs i) refl off

  row_by : (f : Attempt → Attempt) (n place : ℕ) (xs : List Attempt) (b : Bool) → (place == n) ≡ b → holds (is_of c) (numbered xs n) ≡ false
      → holds (is_of c) (numbered xs place) ≡ true → numbered (changed f n xs) place ≡ numbered xs place
  row_by f n place xs true e off mine =
      let both : true ≡ false = sym mine ∙ ap (λ (j : ℕ). holds (is_of c) (numbered xs j)) (eqb-true place n e) ∙ off in absurd (cc)
  row_by f n place xs false e off mine = changed_away f n place xs (eqb-false place n e)

  pub attempt_apart : (f : Attempt → Attempt) → ((a : Attempt) → (f a).row.call ≡ a.row.call) → (n : ℕ) (s : Seen) → holds (is_of c) (numbered s.attempts n) ≡ false
      → IsApart s (with_attempt f n s) c
  attempt_apart f keeps n s off = record {
    call = refl;
    config = refl;
    attempts = filter_changed f keeps n s.attempts off;
    rows = λ place mine. row_by f n place s.attempts (place == n) refl off mine;
    throttle = refl;
  }

  -- and it is still of that call
  still_by : (f : Attempt → Attempt) → ((a : Attempt) → (f a).row.call ≡ a.row.call) → (o : Option Attempt) → holds (is_of c) o ≡ false → holds (is_of c) (option_map f o) ≡ false
  still_by f keeps None off = refl
  still_by f keeps (Some a) off = ap (λ (n : ℕ). n == c.number) (keeps a) ∙ off

  pub still_other : (f : Attempt → Attempt) → ((a : Attempt) → (f a).row.call ≡ a.row.call) → (n : ℕ) (s : Seen) → holds (is_of c) (numbered s.attempts n) ≡ false
      → holds (is_of c) (numbered (with_attempt f n s).attempts n) ≡ false
  still_other f keeps n s off = ap (holds (is_of c)) (changed_map f n s.attempts) ∙ still_by f keeps (numbered s.attempts n) off

  -- something is marked of the call of such an attempt
  marked_by : (what : MarkKind) (s : Seen) (o : Option Attempt) → holds (is_of c) o ≡ false → IsApart s (option_map_or (λ (a : Attempt). marked what a.row.call s) o s) c
  marked_by what s None off = same_apart s s (record { calls = refl; attempts = refl; configs = refl; runs = refl })
  marked_by what s (Some a) off = call_apart (λ (d : Call). record d { marks = d.marks ++ record { what = what; moment = now s } ∷ [] }) a.row.call s off

  pub marked_apart : (what : MarkKind) (n : ℕ) (s : Seen) → holds (is_of c) (numbered s.attempts n) ≡ false → IsApart s (marked_row what n s) c
  marked_apart what n s off = marked_by what s (numbered s.attempts n) off

  -- one attempt more, of another call
  more_by : (xs : List Attempt) (y : Attempt) (place : ℕ) (o : Option Attempt) → numbered xs place ≡ o → holds (is_of c) o ≡ true
      → numbered (xs ++ y ∷ []) place ≡ numbered xs place
  more_by xs y place None got mine = absurd (cc)
  more_by xs y place (Some a) got mine = numbered_more xs y a place got ∙ sym got

  pub more_apart : (y : Attempt) (s : Seen) → is_of c y ≡ false → IsApart s (record s { attempts = s.attempts ++ y ∷ [] }) c
  more_apart y s off = record {
    call = refl;
    config = refl;
    attempts = filter-append (is_of c) s.attempts (y ∷ []) ∙ ap (λ (b : Bool). filter (is_of c) s.attempts ++ cond b (y ∷ []) []) off
        ∙ append-nil (filter (is_of c) s.attempts);
    rows = λ place mine. more_by s.attempts y place (numbered s.attempts place) refl (ap (holds (is_of c)) refl ∙ mine);
    throttle = refl;
  }

  -- a run changes, and keeps its settings
  kept_throttle : (g : ThrottleRun → ThrottleRun) → ((u : ThrottleRun) → (g u).throttle ≡ u.throttle) → (o : Option ThrottleRun) → throttle_of (option_map g o) ≡ throttle_of o
  kept_throttle g keeps None = refl
  kept_throttle g keeps (Some u) = ap (λ (z : Throttle). Some z) (keeps u)

  run_at : (g : ThrottleRun → ThrottleRun) → ((u : ThrottleRun) → (g u).throttle ≡ u.throttle) → (n k : ℕ) (xs : List ThrottleRun) (b : Bool) → (k == n) ≡ b
      → throttle_of (numbered (changed g n xs) k) ≡ throttle_of (numbered xs k)
  run_at g keeps n k xs true e =
      let same : k ≡ n = eqb-true k n e in
      ap (λ (j : ℕ). throttle_of (numbered (changed g n xs) j)) same ∙ ap throttle_of (changed_map g n xs) ∙ kept_throttle g keeps (numbered xs n)
      ∙ ap (λ (j : ℕ). throttle_of (numbered xs j)) (sym same)
  run_at g keeps n k xs false e = ap throttle_of (changed_away g n k xs (eqb-false k n e))

  run_by : (g : ThrottleRun → ThrottleRun) → ((u : ThrottleRun) → (g u).throttle ≡ u.throttle) → (n : ℕ) (xs : List ThrottleRun) (o : Option ℕ)
      → throttle_of (option_and_then (numbered (changed g n xs)) o) ≡ throttle_of (option_and_then (numbered xs) o)
  run_by g keeps n xs None = refl
  run_by g keeps n xs (Some k) = run_at g keeps n k xs (k == n) refl

  pub run_apart : (g : ThrottleRun → ThrottleRun) → ((u : ThrottleRun) → (g u).throttle ≡ u.throttle) → (n : ℕ) (s : Seen)
      → IsApart s (record s { runs = changed g n s.runs }) c
  run_apart g keeps n s = record {
    call = refl;
    config = refl;
    attempts = refl;
    rows = λ place mine. refl;
    throttle = run_by g keeps n s.runs (run_number c s);
  }

  -- one config or one run more
  more_of : {X : Type 0} (xs : List X) (y : X) (k : ℕ) (o : Option X) → numbered xs k ≡ o → is_some o ≡ true → numbered (xs ++ y ∷ []) k ≡ numbered xs k
  more_of xs y k None got there = absurd (cc)
  more_of xs y k (Some x) got there = numbered_more xs y x k got ∙ sym got

  pub more_for : {X : Type 0} (xs : List X) (y : X) (o : Option ℕ) → option_map_or (λ (k : ℕ). is_some (numbered xs k)) o true ≡ true
      → option_and_then (numbered (xs ++ y ∷ [])) o ≡ option_and_then (numbered xs) o
  more_for xs y None there = refl
  more_for xs y (Some k) there = more_of xs y k (numbered xs k) refl there

  pub config_apart : (h : HeldConfig) (s : Seen) → has_config s c ≡ true → IsApart s (record s { configs = s.configs ++ h ∷ [] }) c
  config_apart h s there =
      let same : option_and_then (numbered (s.configs ++ h ∷ [])) c.config ≡ option_and_then (numbered s.configs) c.config = more_for s.configs h c.config there in
      record {
        call = refl;
        config = same;
        attempts = refl;
        rows = λ place mine. refl;
        throttle = ap (λ (o : Option HeldConfig). throttle_of (option_and_then (numbered s.runs) (run_of_config o))) same;
      }

  pub runs_apart : (u : ThrottleRun) (s : Seen) → option_map_or (λ (k : ℕ). is_some (numbered s.runs k)) (run_number c s) true ≡ true
      → IsApart s (record s { runs = s.runs ++ u ∷ [] }) c
  runs_apart u s there = record {
    call = refl;
    config = refl;
    attempts = refl;
    rows = λ place mine. refl;
    throttle = ap throttle_of (more_for s.runs u (run_number c s) there);
  }
