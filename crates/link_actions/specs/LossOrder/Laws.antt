-- The attempts on a link that is over end one after the other (`loss_actions`): the lowest place first, where nothing else is about to end one. So it is also
-- after each end.
-- Example: link 1 is lost, with the attempts 2 and 5 of two calls on it. Attempt 2 ends, lost. Then, if neither call has ended or is committed to another
-- attempt, attempt 5 ends.
use Rattle.std.specs.List.{AllByRecursion}
use Rattle.std.specs.Prelude.{Some, ℕ, ◌≡◌}
use Rattle.attempt_ledger.specs.declared.row.RowEnd.{RowEnd}
use Rattle.link_actions.specs.Sees.{AttemptsStandInPlace}
use Rattle.link_actions.specs.LossActions.Laws.{IsQuiet}
use Rattle.session_actions.specs.AttemptEnds.{attempt_ended}
use Rattle.session_actions.specs.Words.{numbered}
use Rattle.session_actions.specs.declared.attempt.Attempt.{Attempt}
use Rattle.session_actions.specs.declared.link.Link.{Link}
use Rattle.session_actions.specs.declared.seen.Seen.{Seen}

-- nothing else is about to end an attempt, once one has ended, if nothing was before
abbrev pub EndsKeepQuiet : Type 0
EndsKeepQuiet =
    (l : Link) (s : Seen) (t : ℕ) (a : Attempt) (e : RowEnd) → numbered s.attempts t ≡ Some a → AttemptsStandInPlace 1 s.attempts → AllByRecursion (IsQuiet l s) s.attempts
    → AllByRecursion (IsQuiet l (attempt_ended t e s)) (attempt_ended t e s).attempts
