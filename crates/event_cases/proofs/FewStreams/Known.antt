-- Attempts are few, with what runs keep.
use Rattle.channel_actions.specs.Known.{IsKnown}
use Rattle.channel_actions.specs.TransparentRetries.Laws.{AttemptsAreBounded}
use Rattle.channel_core.specs.States.{StateSeen}
use Rattle.event_cases.specs.FewStreams.Laws.{AttemptsAreFew}
use Rattle.event_cases.specs.HeldKinds.Laws.{HeldPlansAreShort}
use Rattle.session_actions.specs.Entries.{entry}
use Rattle.session_actions.specs.declared.seen.Seen.{Seen}
use Rattle.std.proofs.Common.{Bool, arith, if◌then◌else◌, is_some, length, true, false, ℕ, ◌+◌, ◌<◌, ◌≤◌}
use Rattle.std.proofs.lemmas.Bool.{ltb-true}

-- entries, with the one that is being made
one_more : (b : Bool) → (if b then 1 else 0) ≤ 1
one_more true = omega arith
one_more false = omega arith

pub entries_within : (x : StateSeen) (s : Seen) → IsKnown x s → entry s ≤ 1048576
entries_within x s known =
    by (length s.entries) (if is_some s.current then 1 else 0) (ltb-true (length s.entries) 1048576 known.few) (one_more (is_some s.current))
  where
    by : (n m : ℕ) → n < 1048576 → m ≤ 1 → n + m ≤ 1048576
    by n m e f = omega (arith, e, f)

pub attempts_are_few : AttemptsAreBounded → HeldPlansAreShort → AttemptsAreFew
attempts_are_few bounded plans x s known =
    let reached = known.reached in
    bounded reached.setup reached.actions s reached.does (entries_within x s known) (plans reached.setup reached.actions s reached.does)
