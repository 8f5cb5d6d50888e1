-- A config that is read stands after the others, and so does a run of throttle settings that it begins: each call has the config and the run that it had.
use Rattle.std.proofs.Common.{◌≡◌, ◌&&◌, ◌++◌, ◌∷◌, ap, refl, ◌∙◌, Bool, true, List, [], None, Option, Some, ℕ, suc, zero, is_some, length, slice_get}
use Rattle.std.specs.Option.{option_map, option_map_or}
use Rattle.std.specs.Prelude.{option_and_then}
use Rattle.call_actions.proofs.CallsApart.Seen.{all_numbered}
use Rattle.call_actions.specs.CallsApart.Apart.{IsBook, has_config, has_run}
use Rattle.grpc_base.specs.declared.plan.CallPlan.{CallPlan}
use Rattle.grpc_base.specs.declared.plan.Chosen.{Chosen}
use Rattle.service_config.specs.Choice.{chosen_for}
use Rattle.session_actions.specs.Configs.{chosen_of, config_of_call, no_choice, plan_of}
use Rattle.session_actions.specs.Tokens.{run_of}
use Rattle.session_actions.specs.Words.{last_of, numbered}
use Rattle.session_actions.specs.declared.call.Call.{Call}
use Rattle.session_actions.specs.declared.config.HeldConfig.{HeldConfig}
use Rattle.session_actions.specs.declared.config.ThrottleRun.{ThrottleRun}
use Rattle.session_actions.specs.declared.seen.Seen.{Seen}

-- what was there stays in its place
get_more : {X : Type 0} (xs ys : List X) (i : ℕ) → is_some (slice_get xs i) ≡ true → slice_get (xs ++ ys) i ≡ slice_get xs i
get_more [] ys i e = absurd (cc)
get_more (x ∷ xs) ys zero e = refl
get_more (x ∷ xs) ys (suc i) e = get_more xs ys i e

pub numbered_more : {X : Type 0} (xs ys : List X) (k : ℕ) → is_some (numbered xs k) ≡ true → numbered (xs ++ ys) k ≡ numbered xs k
numbered_more xs ys zero e = absurd (cc)
numbered_more xs ys (suc i) e = get_more xs ys i e

-- the last one of a list that grew by one
get_last : {X : Type 0} (x y : X) (xs : List X) → slice_get (y ∷ xs ++ x ∷ []) (length (xs ++ x ∷ [])) ≡ Some x
get_last x y [] = refl
get_last x y (z ∷ xs) = get_last x z xs

pub last_more : {X : Type 0} (xs : List X) (x : X) → last_of (xs ++ x ∷ []) ≡ Some x
last_more [] x = refl
last_more (y ∷ xs) x = get_last x y xs

-- the session with them
abbrev pub longer : HeldConfig → List ThrottleRun → Seen → Seen
longer h more s = record s { configs = s.configs ++ h ∷ []; runs = s.runs ++ more }

module _ (s : Seen) (h : HeldConfig) (more : List ThrottleRun) (book : IsBook s) where
  abbrev t : Seen
  t = longer h more s

  config_by : (o : Option ℕ) → option_map_or (λ (k : ℕ). is_some (numbered s.configs k)) o true ≡ true → option_and_then (numbered t.configs) o ≡ option_and_then (numbered s.configs) o
  config_by None e = refl
  config_by (Some k) e = numbered_more s.configs (h ∷ []) k e

  run_if : (o : Option HeldConfig) → ((g : HeldConfig) → o ≡ Some g → has_run s g ≡ true)
      → option_and_then (numbered t.runs) (option_and_then (λ (g : HeldConfig). g.run) o) ≡ option_and_then (numbered s.runs) (option_and_then (λ (g : HeldConfig). g.run) o)
  run_if None each = refl
  run_if (Some g) each = run_at g.run (each g refl)
    where
      run_at : (o : Option ℕ) → option_map_or (λ (k : ℕ). is_some (numbered s.runs k)) o true ≡ true → option_and_then (numbered t.runs) o ≡ option_and_then (numbered s.runs) o
      run_at None e = refl
      run_at (Some k) e = numbered_more s.runs more k e

  is_held : (o : Option ℕ) (g : HeldConfig) → option_and_then (numbered s.configs) o ≡ Some g → has_run s g ≡ true
  is_held None g e = absurd (cc)
  is_held (Some k) g e = all_numbered (has_run s) s.configs k g book.runs e

  -- of a call that is there
  module _ (k : ℕ) (c : Call) (there : numbered s.calls k ≡ Some c) where
    pub config_same : config_of_call c t ≡ config_of_call c s
    config_same = config_by c.config (all_numbered (has_config s) s.calls k c book.configs there)

    pub chosen_same : chosen_of c t ≡ chosen_of c s
    chosen_same = ap (λ (o : Option HeldConfig). option_map_or (λ (g : HeldConfig). chosen_for g.config c.request.path) o no_choice) config_same

    pub plan_same : plan_of c t ≡ plan_of c s
    plan_same = ap (λ (x : Chosen). x.plan) chosen_same

    pub run_same : run_of c t ≡ run_of c s
    run_same =
        ap (λ (o : Option HeldConfig). option_and_then (numbered t.runs) (option_and_then (λ (g : HeldConfig). g.run) o)) config_same
        ∙ run_if (config_of_call c s) (λ g e. is_held c.config g e)
