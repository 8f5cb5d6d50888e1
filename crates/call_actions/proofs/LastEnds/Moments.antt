-- What is cut off is cut off at the moment of the entry.
use Rattle.std.proofs.Common.{◌≡◌, ◌+◌, ◌==◌, ◌∷◌, ◌++◌, ◌&&◌, not, ap, refl, subst, ◌∙◌, Bool, true, false, List, [], Option, None, Some, ℕ, filter, if◌then◌else◌, is_some}
use Rattle.std.specs.Option.{option_and_then, option_map, option_map_or, option_or}
use Rattle.attempt_ledger.specs.Ends.{is_cut}
use Rattle.attempt_ledger.specs.declared.row.RowEnd.{RowEnd}
use Rattle.session_actions.specs.Actions.{after, after_if}
use Rattle.session_actions.specs.AttemptEnds.{attempt_ended, attempt_ended_as, cut, cut_end, end_of, with_end_in_run}
use Rattle.session_actions.specs.Attempts.{call_of, is_outstanding, is_over, is_to_follow}
use Rattle.session_actions.specs.Configs.{config_of_call}
use Rattle.session_actions.specs.Entries.{last_moment, now}
use Rattle.session_actions.specs.Words.{changed, first_of, numbered}
use Rattle.session_actions.specs.declared.action.Action.{Action}
use Rattle.session_actions.specs.declared.action.Action.TheVariants as action
use Rattle.session_actions.specs.declared.attempt.Attempt.{Attempt}
use Rattle.session_actions.specs.declared.call.Call.{Call}
use Rattle.session_actions.specs.declared.config.HeldConfig.{HeldConfig}
use Rattle.session_actions.specs.declared.config.ThrottleRun.{ThrottleRun}
use Rattle.session_actions.specs.declared.entry.OpenEntry.{OpenEntry}
use Rattle.session_actions.specs.declared.seen.Seen.{Seen}
use Rattle.call_actions.specs.TakeActions.Cuts.{AttemptsAreCut}

drawn_moment : (more : ℕ) (o : Option OpenEntry) (last : ℕ)
    → option_map_or (λ (z : OpenEntry). z.moment) (option_map (λ (z : OpenEntry). record z { drawn = z.drawn + more }) o) last ≡ option_map_or (λ (z : OpenEntry). z.moment) o last
drawn_moment more None last = refl
drawn_moment more (Some z) last = refl

-- an end
module _ (e : RowEnd) (s : Seen) where
  abbrev moment_in : Seen → ℕ
  moment_in r =
      option_map_or (λ (z : OpenEntry). z.moment) (option_map (λ (z : OpenEntry). record z { drawn = z.drawn + (if is_some e.word then 1 else 0) }) r.current) (last_moment r)

  run_if : (place : ℕ) (b : Bool) (o : Option ℕ)
      → moment_in (if b then option_map_or (λ (run : ℕ). record s { runs = changed (λ (u : ThrottleRun). record u { ends = u.ends ++ place ∷ [] }) run s.runs }) o s else s) ≡ moment_in s
  run_if place false o = refl
  run_if place true None = refl
  run_if place true (Some run) = refl

  run_by : (a : Attempt) (o : Option Call) → moment_in (option_map_or (with_end_in_run a e s) o s) ≡ moment_in s
  run_by a None = refl
  run_by a (Some c) =
      run_if a.place (not (is_cut e.cause) && not (is_to_follow c e.cause e.unseen s)) (option_and_then (λ (h : HeldConfig). h.run) (config_of_call c s))

  by_attempt : (o : Option Attempt) → now (option_map_or (attempt_ended_as e s) o s) ≡ now s
  by_attempt None = refl
  by_attempt (Some a) = run_by a (call_of a s) ∙ drawn_moment (if is_some e.word then 1 else 0) s.current (last_moment s)

  pub end_moment : (place : ℕ) → now (attempt_ended place e s) ≡ now s
  end_moment place = by_attempt (numbered s.attempts place)

-- a cut
after_by : (u : Seen) (place : ℕ) (e : RowEnd) (o : Option OpenEntry) → now (after_if o (action.AttemptEnds place e) u) ≡ now u
after_by u place e None = refl
after_by u place e (Some o) = end_moment e u place

cut_by : (u : Seen) (q : Attempt) (rest : Option Action) (a : Action) (b : Bool)
    → option_or (if b then Some (action.AttemptEnds q.place (end_of q cut_end u)) else None) rest ≡ Some a → (rest ≡ Some a → now (after a u) ≡ now u) → now (after a u) ≡ now u
cut_by u q rest a true e others =
    let same : action.AttemptEnds q.place (end_of q cut_end u) ≡ a = (cc) in
    subst (λ (z : Action). now (after z u) ≡ now u) same (after_by u q.place (end_of q cut_end u) u.current)
cut_by u q rest a false e others = others e

cut_moment : (u : Seen) (list : List Attempt) (a : Action) → first_of (cut u) list ≡ Some a → now (after a u) ≡ now u
cut_moment u [] a e = absurd (cc)
cut_moment u (q ∷ list) a e = cut_by u q (first_of (cut u) list) a (is_outstanding q && is_over q u) e (cut_moment u list a)

pub cuts_moment : (number : ℕ) (actions : List Action) (u v : Seen) → AttemptsAreCut number actions u v → now v ≡ now u
cuts_moment number [] u v cuts = ap now cuts.1
cuts_moment number (a ∷ actions) u v cuts =
    cuts_moment number actions (after a u) v cuts.1 ∙ cut_moment u (filter (λ (q : Attempt). q.row.call == number) u.attempts) a cuts.0
