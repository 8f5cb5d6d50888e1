-- The tokens that a call's bucket has are as before, once attempts are cut off: such an end counts nowhere.
use Rattle.std.proofs.Common.{◌≡◌, ◌==◌, ◌∷◌, ◌&&◌, not, ap, refl, ◌∙◌, Bool, true, false, List, [], Option, None, Some, ℕ, fold, if◌then◌else◌, is_some, map}
use Rattle.std.proofs.lemmas.Bool.{and_from, and_parts}
use Rattle.std.specs.List.{list_all}
use Rattle.std.specs.Option.{option_map, option_map_or}
use Rattle.a6_numbers.specs.Throttling.{Bucket}
use Rattle.attempt_ledger.specs.declared.ledger.CallEnd.{CallEnd}
use Rattle.attempt_ledger.specs.declared.row.RowEnd.{RowEnd}
use Rattle.call_actions.specs.Sees.{bucket_of}
use Rattle.grpc_base.specs.declared.plan.CallPlan.{CallPlan}
use Rattle.grpc_base.specs.declared.plan.CallPlan.TheVariants as plan
use Rattle.session_actions.specs.Configs.{plan_of}
use Rattle.session_actions.specs.Tokens.{plan_of_attempt, tokens_after, tokens_by}
use Rattle.session_actions.specs.Words.{changed, holds, numbered}
use Rattle.session_actions.specs.declared.attempt.Attempt.{Attempt}
use Rattle.session_actions.specs.declared.call.Call.{Call}
use Rattle.session_actions.specs.declared.call.Mark.{Mark}
use Rattle.session_actions.specs.declared.config.ThrottleRun.{ThrottleRun}
use Rattle.session_actions.specs.declared.entry.OpenEntry.{OpenEntry}
use Rattle.session_actions.specs.declared.seen.Seen.{Seen}
use Rattle.call_actions.proofs.TakeActions.CutAttempts.{becomes, end_by_cut, final, is_cut_off}
use Rattle.call_actions.proofs.TakeActions.Maps.{numbered_each}
use Rattle.call_actions.proofs.TakeActions.Retold.{read_same}
use Rattle.call_actions.specs.TakeActions.Serves.{is_ended_at}

-- an attempt that has ended is not cut off
pub no_cut : (n ps b gone : Bool) → b ≡ true → (n && ((ps && not b) && gone)) ≡ false
no_cut true true true gone e = refl
no_cut true false b gone e = refl
no_cut false ps b gone e = refl
no_cut true true false gone e = absurd (cc)

module _ (entry moment : ℕ) (tokens : Option ℕ) (s : Seen) (c : Call) (stamp : Attempt → Option ℕ) (gone : Attempt → Bool)
    (end : Option CallEnd) (marks : List Mark) (current : Option OpenEntry) where
  abbrev pub ended_up : Attempt → Attempt
  ended_up a = final entry moment tokens s c.number stamp gone a

  abbrev pub then_cut : Seen
  then_cut = record s { attempts = map ended_up s.attempts; calls = changed (becomes end marks) c.number s.calls; current = current }

  -- the tokens
  pub plan_still : (a : Attempt) → plan_of_attempt (ended_up a) then_cut ≡ plan_of_attempt a s
  plan_still a = read_same (becomes end marks) c.number s.calls (λ (d : Call). plan_of d s) plan.None (λ d. refl) a.row.call

  pub ended_if : (q : Attempt) (b : Bool) → is_cut_off c.number gone q ≡ b → b ≡ false → (if b then Some (end_by_cut entry moment tokens s q) else q.row.ended) ≡ q.row.ended
  ended_if q true e f = absurd (cc)
  ended_if q false e f = refl

  pub ended_still : (q : Attempt) → is_some q.row.ended ≡ true → (ended_up q).row.ended ≡ q.row.ended
  ended_still q e =
      ended_if q (is_cut_off c.number gone q) refl (no_cut (q.row.call == c.number) (is_some q.row.placed) (is_some q.row.ended) (gone q) e)

  pub tokens_one : (run : ThrottleRun) (count : ℕ) (o : Option Attempt) → holds (λ (q : Attempt). is_some q.row.ended) o ≡ true
      → tokens_by run then_cut count (option_map ended_up o) ≡ tokens_by run s count o
  tokens_one run count None e = absurd (cc)
  tokens_one run count (Some q) e =
      ap (λ (o : Option RowEnd). option_map_or (λ (z : RowEnd). tokens_after run.throttle (plan_of_attempt (ended_up q) then_cut) z.code z.pushback count) o count) (ended_still q e)
      ∙ ap (λ (p : CallPlan). option_map_or (λ (z : RowEnd). tokens_after run.throttle p z.code z.pushback count) q.row.ended count) (plan_still q)

  pub tokens_all : (run : ThrottleRun) (count : ℕ) (list : List ℕ) → list_all (is_ended_at s) list ≡ true
      → fold (λ (j place : ℕ). tokens_by run then_cut j (numbered (map ended_up s.attempts) place)) count list
      ≡ fold (λ (j place : ℕ). tokens_by run s j (numbered s.attempts place)) count list
  tokens_all run count [] e = refl
  tokens_all run count (place ∷ list) e =
      let both : (is_ended_at s place ≡ true) × (list_all (is_ended_at s) list ≡ true) = and_parts (is_ended_at s place) (list_all (is_ended_at s) list) e in
      ap (λ (j : ℕ). fold (λ (j place : ℕ). tokens_by run then_cut j (numbered (map ended_up s.attempts) place)) j list)
      (ap (tokens_by run then_cut count) (numbered_each ended_up s.attempts place) ∙ tokens_one run count (numbered s.attempts place) both.0)
      ∙ tokens_all run (tokens_by run s count (numbered s.attempts place)) list both.1

  abbrev pub bucket_by : ThrottleRun → ℕ → Bucket
  bucket_by run j = record { start = run.throttle.start; ratio = run.throttle.ratio; count = j }

  pub bucket_cut : (o : Option ThrottleRun) → option_map_or (λ (run : ThrottleRun). list_all (is_ended_at s) run.ends) o true ≡ true
      → option_map (bucket_of then_cut) o ≡ option_map (bucket_of s) o
  bucket_cut None e = refl
  bucket_cut (Some run) e = ap (λ (j : ℕ). Some (bucket_by run j)) (tokens_all run run.throttle.start run.ends e)

  -- what the tokens count is still ended
  pub still_if : (o : Option Attempt) → holds (λ (q : Attempt). is_some q.row.ended) o ≡ true → holds (λ (q : Attempt). is_some q.row.ended) (option_map ended_up o) ≡ true
  still_if None e = absurd (cc)
  still_if (Some q) e = ap (λ (o : Option RowEnd). is_some o) (ended_still q e) ∙ e

  pub still_all : (list : List ℕ) → list_all (is_ended_at s) list ≡ true → list_all (is_ended_at then_cut) list ≡ true
  still_all [] e = refl
  still_all (place ∷ list) e =
      let both : (is_ended_at s place ≡ true) × (list_all (is_ended_at s) list ≡ true) = and_parts (is_ended_at s place) (list_all (is_ended_at s) list) e in
      and_from (is_ended_at then_cut place) (list_all (is_ended_at then_cut) list)
      (ap (holds (λ (q : Attempt). is_some q.row.ended)) (numbered_each ended_up s.attempts place) ∙ still_if (numbered s.attempts place) both.0) (still_all list both.1)

  pub counted_cut : (o : Option ThrottleRun) → option_map_or (λ (run : ThrottleRun). list_all (is_ended_at s) run.ends) o true ≡ true
      → option_map_or (λ (run : ThrottleRun). list_all (is_ended_at then_cut) run.ends) o true ≡ true
  counted_cut None e = refl
  counted_cut (Some run) e = still_all run.ends e
