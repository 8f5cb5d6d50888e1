-- What is done to a call lets it go on: what `call_core` promises of one call, put together.
use Rattle.std.proofs.Common.{◌≡◌, ◌≤◌, ◌∙◌, ℕ, false, is_some, List, sym, ap, subst}
use Rattle.attempt_ledger.specs.Numbering.{most_attempts}
use Rattle.attempt_ledger.specs.declared.news.News.{News}
use Rattle.attempt_ledger.specs.declared.row.Placed.{Placed}
use Rattle.call_core.specs.Laws.{AllAt, IsKept}
use Rattle.call_core.specs.Leaving.{IsSameCall}
use Rattle.call_core.specs.Parts.{is_by_row}
use Rattle.call_core.specs.Steps as step
use Rattle.call_core.specs.Steps.{Stepped}
use Rattle.call_core.specs.declared.live.LiveRow.{LiveRow}
use Rattle.call_core.specs.declared.state.CallState.{CallState}
use Rattle.channel_actions.specs.GoingCalls.Going.{GoesOn}
use Rattle.grpc_base.specs.Requests.{RequestSeen}
use Rattle.grpc_base.specs.declared.event.EndCause.{EndCause}
use Rattle.grpc_base.specs.declared.plan.Chosen.{Chosen}

pub record CallLaws : Type 0 where
  pub begun : (number : ℕ) (request : RequestSeen) (moment : ℕ) → GoesOn (step.new_call number request moment)
  pub configured : (chosen : Chosen) (moment : ℕ) (s : Stepped) → 1 ≤ most_attempts chosen.plan → GoesOn s.call → GoesOn (step.configured chosen moment s).call
  pub sent : (message : List ℕ) (moment : ℕ) (s : Stepped) → GoesOn s.call → GoesOn (step.sent message moment s).call
  pub closed : (why : EndCause) (moment : ℕ) (s : Stepped) → is_by_row why ≡ false → GoesOn s.call → GoesOn (step.closed_by why moment s).call
  pub timed_out : (moment : ℕ) (s : Stepped) → GoesOn s.call → GoesOn (step.timed_out moment s).call
  pub placed : (row : ℕ) (at : Placed) (s : Stepped) → at.entry ≡ s.ledger.entry → GoesOn s.call → GoesOn (step.placed_at row at s).call
  pub failed : (row moment word : ℕ) (s : Stepped) → GoesOn s.call → GoesOn (step.pick_failed row moment word s).call
  pub handled : (row : ℕ) (reported : News) (moment word : ℕ) (s : Stepped) → GoesOn s.call → GoesOn (step.received_news row reported moment word s).call
  pub made : (moment : ℕ) (s : Stepped) → GoesOn s.call → GoesOn (step.made_due moment s).call
  -- what changes neither its attempts nor its config nor its end
  pub same : (old new : CallState) → IsSameCall old new → GoesOn old → GoesOn new
  pub fed : (row len : ℕ) (call : CallState) → IsSameCall call (step.fed_row row len call)
  pub finished : (call : CallState) → IsSameCall call (step.finished call)
  pub taken : (call : CallState) → IsSameCall call (step.taken call)

pub kept_same : (c d : CallState) → IsSameCall c d → IsKept c → IsKept d
kept_same c d is k = record {
  ended = λ e.
      let o = k.ended (sym (ap is_some is.ended) ∙ e) in
      record { live = is.live ∙ o.live; stopped = ap (λ a. a.stopped) is.attempts ∙ o.stopped };
  committed = λ place e.
      let o = k.committed place (sym (ap (λ a. a.committed) is.attempts) ∙ e) in
      record { live = subst (λ (l : List LiveRow). AllAt place l) (sym is.live) o.live; stopped = ap (λ a. a.stopped) is.attempts ∙ o.stopped };
  unconfigured = λ e.
      let o = k.unconfigured (sym is.chosen ∙ e) in
      record { live = is.live ∙ o.live; stopped = ap (λ a. a.stopped) is.attempts ∙ o.stopped };
  free = λ e. ap (λ a. a.committed) is.attempts ∙ k.free (sym is.chosen ∙ e);
}
