-- An attempt ends, and its call goes on: nothing follows at once from that.
use Rattle.std.proofs.Common.{◌≡◌, ◌==◌, ◌&&◌, ap, refl, subst, sym, ◌∙◌, Bool, true, false, List, Option, Some, ℕ, suc, slice_get}
use Rattle.std.proofs.lemmas.Bool.{and_right, eqb-true}
use Rattle.attempt_ledger.specs.declared.row.RowEnd.{RowEnd}
use Rattle.call_actions.proofs.Lists.{numbered_not}
use Rattle.call_actions.specs.CallsInTurn.Turns.{waits as waits_to_follow}
use Rattle.end_cases.proofs.AttemptEnds.After.{d_here, free_then, t_is}
use Rattle.end_cases.proofs.AttemptEnds.Agreeing.{act, apart, current_then, early_by, entry_then, kept_then, n, steady}
use Rattle.end_cases.proofs.AttemptEnds.Base.{books, c, e, x1}
use Rattle.end_cases.proofs.AttemptEnds.GoesOn.{called, then_}
use Rattle.end_cases.proofs.AttemptEnds.Others.{none_at, row_none, wants_none}
use Rattle.end_cases.specs.AttemptEnds.Ends.{EndNext, is_of_ends, may_wait}
use Rattle.end_cases.specs.AttemptEnds.Laws.{GoesOnAfter}
use Rattle.channel_core.specs.States.{StateSeen}
use Rattle.session_actions.specs.Attempts.{is_of, wants_follower}
use Rattle.session_actions.specs.CallEnds.{is_over_by_row}
use Rattle.session_actions.specs.Calls.{is_open_call}
use Rattle.session_actions.specs.Attempts.{is_counted}
use Rattle.session_actions.specs.Words.{holds, numbered}
use Rattle.session_actions.specs.declared.attempt.Attempt.{Attempt}
use Rattle.session_actions.specs.declared.call.Call.{Call}
use Rattle.session_actions.specs.declared.entry.OpenEntry.{OpenEntry}
use Rattle.session_actions.specs.declared.response.Outcome.{Outcome}
use Rattle.session_actions.specs.declared.seen.Seen.{Seen}
use Rattle.session_order.proofs.AttemptDone.{attempt_leaves}
use Rattle.session_order.specs.Quiescent.{IsStill}
use Rattle.session_order.specs.Stirs.{stirs}
use Rattle.session_order.specs.declared.line.Line.{Line}
use Rattle.session_order.specs.declared.line.Line.TheVariants as line

module _ (later : List (ℕ × RowEnd)) (waits : Line → Bool) (also : List ℕ) (a : Attempt) (out : Outcome) (x : StateSeen) (o : OpenEntry) (s : Seen) (is : EndNext later waits also a out x o s)
    (case : GoesOnAfter s (c later waits also a out x o s is) a out) where
  abbrev v : Seen
  v = then_ later waits also a out x o s is case

  abbrev number : ℕ
  number = n later waits also a out x o s is case

  abbrev dk : Call
  dk = called later waits also a out x o s is case

  -- the lines that an end does not stir
  pub plain : (l : Line) → stirs (act later waits also a out x o s is case) l ≡ false → IsStill l o s → IsStill l (entry_then later waits also a out x o s is case) v
  plain l off h =
      subst (λ (w : Seen). w.current ≡ Some (entry_then later waits also a out x o s is case) → IsStill l (entry_then later waits also a out x o s is case) w) (t_is later waits also a out x o s is)
      (λ now. attempt_leaves a.place (e later waits also a out x o s is) o s is.current tt l (entry_then later waits also a out x o s is case) now off h)
      (current_then later waits also a out x o s is case)

  pub was_still : (l : Line) → is_of_ends l ≡ false → may_wait l ≡ false → IsStill l o s
  was_still l ends may = is.still l ends (early_by (waits l) (may_wait l) (is.late l) may)

  -- no attempt waits for its follower
  mine_wants : (i : ℕ) (q : Attempt) → slice_get v.attempts i ≡ Some q → (q.row.call == number) ≡ true → wants_follower q v ≡ false
  mine_wants i q at own =
      let two : Some (steady later waits also a out x o s is case).call ≡ Some dk = sym (steady later waits also a out x o s is case).own ∙ d_here later waits also a out x o s is in
      let same : (steady later waits also a out x o s is case).call ≡ dk = (cc) in
      let none : (is_of (steady later waits also a out x o s is case).call q && wants_follower q v) ≡ false
      = numbered_not (waits_to_follow v (steady later waits also a out x o s is case).call) v.attempts (suc i) q (steady later waits also a out x o s is case).steady.quiescent at in
      ap (λ (b : Bool). b && wants_follower q v) (sym own) ∙ ap (λ (g : Call). is_of g q && wants_follower q v) (sym same) ∙ none

  wants_by : (i : ℕ) (q : Attempt) (b : Bool) → slice_get v.attempts i ≡ Some q → (q.row.call == number) ≡ b → wants_follower q v ≡ false
  wants_by i q true at own = mine_wants i q at own
  wants_by i q false at off =
      wants_none number (x1 later waits also a out x o s is) s v (apart later waits also a out x o s is case) (books later waits also a out x o s is).calls (books later waits also a out x o s is).kept
      (kept_then later waits also a out x o s is case) i q at off (was_still line.Transparent refl refl)

  pub unfollowed : IsStill line.Transparent (entry_then later waits also a out x o s is case) v
  unfollowed = none_at (λ (q : Attempt). wants_follower q v) v.attempts (λ i q at. wants_by i q (q.row.call == number) at refl)

  -- no call ends by its committed attempt
  mine_row : (g : Call) → numbered v.calls number ≡ Some g → is_over_by_row v g ≡ false
  mine_row g at =
      let two : Some g ≡ Some dk = sym at ∙ d_here later waits also a out x o s is in
      let same : g ≡ dk = (cc) in
      ap (is_over_by_row v) same
      ∙ ap (λ (q : Option Attempt). is_open_call dk && holds (λ (k : Attempt). is_counted k v) q) (free_then later waits also a out x o s is case.counting.goes_on case.free)
      ∙ and_right (is_open_call dk) false refl

  row_by : (i : ℕ) (g : Call) (b : Bool) → slice_get v.calls i ≡ Some g → (suc i == number) ≡ b → is_over_by_row v g ≡ false
  row_by i g true at own = mine_row g (ap (numbered v.calls) (sym (eqb-true (suc i) number own)) ∙ at)
  row_by i g false at off =
      row_none number (x1 later waits also a out x o s is) s v (apart later waits also a out x o s is case) (books later waits also a out x o s is).calls (books later waits also a out x o s is).kept
      (kept_then later waits also a out x o s is case) (suc i) g off at (was_still line.Row refl refl)

  pub unended : IsStill line.Row (entry_then later waits also a out x o s is case) v
  unended = none_at (is_over_by_row v) v.calls (λ i g at. row_by i g (suc i == number) at refl)
