-- An end that counts joins the run of its call's throttle settings: the bucket counts it.
use Rattle.std.proofs.Common.{◌≡◌, ◌∷◌, ◌++◌, ap, refl, ◌∙◌, true, List, [], Option, None, Some, ℕ, is_some, map, option_map}
use Rattle.std.proofs.lemmas.List.Sums.{fold-append}
use Rattle.std.specs.List.{list_all}
use Rattle.std.specs.Option.{option_map_or}
use Rattle.std.specs.Prelude.{fold, option_and_then}
use Rattle.attempt_ledger.specs.declared.row.RowEnd.{RowEnd}
use Rattle.call_actions.proofs.Ends.Frames.{Ends, end_here, ended_by, ended_kept, ended_seen, none_was, was_there, with_end_at}
use Rattle.call_actions.proofs.Frames.{bucket_by}
use Rattle.call_actions.proofs.Lists.{changed_map, numbered_not}
use Rattle.call_actions.proofs.Ranks.{fold_where, numbered_map}
use Rattle.call_actions.specs.Order.{has_ended}
use Rattle.call_actions.specs.Sees.{bucket_of}
use Rattle.grpc_base.specs.declared.plan.CallPlan.TheVariants as plan
use Rattle.session_actions.specs.Configs.{config_of_call, plan_of}
use Rattle.session_actions.specs.Tokens.{run_of, tokens_after, tokens_by, tokens_in, tokens_with}
use Rattle.session_actions.specs.Words.{changed, holds, numbered}
use Rattle.session_actions.specs.declared.attempt.Attempt.{Attempt}
use Rattle.session_actions.specs.declared.call.Call.{Call}
use Rattle.session_actions.specs.declared.config.HeldConfig.{HeldConfig}
use Rattle.session_actions.specs.declared.config.ThrottleRun.{ThrottleRun}
use Rattle.session_actions.specs.declared.seen.Seen.{Seen}

abbrev pub more_ends : ℕ → ThrottleRun → ThrottleRun
more_ends place u = record u { ends = u.ends ++ place ∷ [] }

-- the runs, once the end joined that of a number
abbrev pub runs_after : ℕ → Option ℕ → List ThrottleRun → List ThrottleRun
runs_after place (Some run) runs = changed (more_ends place) run runs
runs_after place None runs = runs

run_by : (place : ℕ) (o : Option ℕ) (runs : List ThrottleRun)
    → option_and_then (numbered (runs_after place o runs)) o ≡ option_map (more_ends place) (option_and_then (numbered runs) o)
run_by place None runs = refl
run_by place (Some run) runs = changed_map (more_ends place) run runs

-- the number of the run of a call
abbrev pub run_number : Call → Seen → Option ℕ
run_number c s = option_and_then (λ (g : HeldConfig). g.run) (config_of_call c s)

abbrev pub runs_now : ℕ → Call → Seen → List ThrottleRun
runs_now place c s = runs_after place (run_number c s) s.runs

pub run_now : (place : ℕ) (c : Call) (s : Seen) → run_of c (record s { runs = runs_now place c s }) ≡ option_map (more_ends place) (run_of c s)
run_now place c s = run_by place (run_number c s) s.runs

throttle_by : (place : ℕ) (o : Option ThrottleRun)
    → option_map (λ (u : ThrottleRun). u.throttle) (option_map (more_ends place) o) ≡ option_map (λ (u : ThrottleRun). u.throttle) o
throttle_by place None = refl
throttle_by place (Some u) = refl

pub throttle_now : (place : ℕ) (c : Call) (s : Seen)
    → option_map (λ (u : ThrottleRun). u.throttle) (run_of c (record s { runs = runs_now place c s })) ≡ option_map (λ (u : ThrottleRun). u.throttle) (run_of c s)
throttle_now place c s = ap (option_map (λ (u : ThrottleRun). u.throttle)) (run_now place c s) ∙ throttle_by place (run_of c s)

module _ (s : Seen) (c : Call) (place : ℕ) (a : Attempt) (e : RowEnd) (runs : List ThrottleRun) (k : Ends s c place a runs)
    (own : numbered s.calls a.row.call ≡ Some c) where
  abbrev h : Attempt → Attempt
  h q = with_end_at place e q

  abbrev t : Seen
  t = ended_seen runs place e s

  old_by : (u : ThrottleRun) (count at : ℕ) (o : Option Attempt) → numbered s.attempts at ≡ o → holds (λ (q : Attempt). is_some q.row.ended) o ≡ true
      → tokens_by (more_ends place u) t count (option_map h o) ≡ tokens_by u s count o
  old_by u count at None there ended = refl
  old_by u count at (Some q) there ended =
      let kept : ended_by place e q ≡ q.row.ended
      = ended_kept s c place a e runs k q (numbered_not (was_there s c place a e runs k) s.attempts at q (none_was s c place a e runs k) there) ended in
      ap (λ (o : Option RowEnd). option_map_or (tokens_with (more_ends place u) t count (h q)) o count) kept

  old_ends : (u : ThrottleRun) (count at : ℕ) → has_ended s at ≡ true
      → tokens_by (more_ends place u) t count (numbered (map h s.attempts) at) ≡ tokens_by u s count (numbered s.attempts at)
  old_ends u count at ended =
      ap (tokens_by (more_ends place u) t count) (numbered_map h s.attempts at) ∙ old_by u count at (numbered s.attempts at) refl ended

  last_end : (u : ThrottleRun) (count : ℕ) → tokens_by (more_ends place u) t count (numbered (map h s.attempts) place) ≡ tokens_after u.throttle (plan_of c s) e.code e.pushback count
  last_end u count =
      ap (tokens_by (more_ends place u) t count) (numbered_map h s.attempts place ∙ ap (option_map h) k.got)
      ∙ ap (λ (o : Option RowEnd). option_map_or (tokens_with (more_ends place u) t count (h a)) o count) (end_here s c place a e runs k)
      ∙ ap (λ (o : Option Call). tokens_after u.throttle (option_map_or (λ (d : Call). plan_of d s) o plan.None) e.code e.pushback count) own

  pub tokens_now : (u : ThrottleRun) → list_all (has_ended s) u.ends ≡ true
      → tokens_in (more_ends place u) t ≡ tokens_after u.throttle (plan_of c s) e.code e.pushback (tokens_in u s)
  tokens_now u ended =
      fold-append (λ (n at : ℕ). tokens_by (more_ends place u) t n (numbered (map h s.attempts) at)) u.throttle.start u.ends (place ∷ [])
      ∙ last_end u (fold (λ (n at : ℕ). tokens_by (more_ends place u) t n (numbered (map h s.attempts) at)) u.throttle.start u.ends)
      ∙ ap (tokens_after u.throttle (plan_of c s) e.code e.pushback)
      (fold_where (λ (n at : ℕ). tokens_by (more_ends place u) t n (numbered (map h s.attempts) at)) (λ (n at : ℕ). tokens_by u s n (numbered s.attempts at)) (has_ended s)
      (λ n at there. old_ends u n at there) u.throttle.start u.ends ended)

  -- what each of the bucket's tokens are then
  abbrev pub count_after : ThrottleRun → ℕ
  count_after u = tokens_after u.throttle (plan_of c s) e.code e.pushback (tokens_in u s)

  bucket_if : (o : Option ThrottleRun) → option_map_or (λ (u : ThrottleRun). list_all (has_ended s) u.ends) o true ≡ true
      → option_map (bucket_of t) (option_map (more_ends place) o) ≡ option_map (λ (u : ThrottleRun). bucket_by u (count_after u)) o
  bucket_if None ended = refl
  bucket_if (Some u) ended = ap (λ (n : ℕ). Some (bucket_by u n)) (tokens_now u ended)

  pub bucket_now : (o : Option ThrottleRun) → o ≡ run_of c s → option_map_or (λ (u : ThrottleRun). list_all (has_ended s) u.ends) (run_of c s) true ≡ true
      → option_map (bucket_of t) (option_map (more_ends place) o) ≡ option_map (λ (u : ThrottleRun). bucket_by u (count_after u)) o
  bucket_now o same ended = bucket_if o (ap (λ (z : Option ThrottleRun). option_map_or (λ (u : ThrottleRun). list_all (has_ended s) u.ends) z true) same ∙ ended)

  -- and of an end that does not count
  stays_if : (o : Option ThrottleRun) → option_map_or (λ (u : ThrottleRun). list_all (has_ended s) u.ends) o true ≡ true → option_map (bucket_of t) o ≡ option_map (bucket_of s) o
  stays_if None ended = refl
  stays_if (Some u) ended =
      ap (λ (n : ℕ). Some (bucket_by u n))
      (fold_where (λ (n at : ℕ). tokens_by u t n (numbered (map h s.attempts) at)) (λ (n at : ℕ). tokens_by u s n (numbered s.attempts at)) (has_ended s)
      (λ n at there. old_ends u n at there) u.throttle.start u.ends ended)

  pub bucket_stays : (o : Option ThrottleRun) → o ≡ run_of c s → option_map_or (λ (u : ThrottleRun). list_all (has_ended s) u.ends) (run_of c s) true ≡ true
      → option_map (bucket_of t) o ≡ option_map (bucket_of s) o
  bucket_stays o same ended = stays_if o (ap (λ (z : Option ThrottleRun). option_map_or (λ (u : ThrottleRun). list_all (has_ended s) u.ends) z true) same ∙ ended)
