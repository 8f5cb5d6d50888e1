-- A call without an attempt gets its config: that stirs the line alone by which a call ends that was sent a message which its config does not allow. It is of the
-- session alone.
-- Example: calls 1 and 2 wait for a config, and call 3 has an attempt that goes on. Call 1 gets its config: no attempt ends, and none is cut off.
use Rattle.std.specs.List.{list_any}
use Rattle.std.specs.Prelude.{Some, false, ℕ, ◌==◌, ◌≡◌}
use Rattle.session_actions.specs.declared.action.Action.TheVariants as action
use Rattle.session_actions.specs.declared.entry.OpenEntry.{OpenEntry}
use Rattle.session_actions.specs.declared.seen.Seen.{Seen}
use Rattle.session_order.specs.Laws.{Leaves}
use Rattle.session_order.specs.Stirs.{CallsHaveTheirNumbers}

abbrev pub ConfigsStir : Type 0
ConfigsStir =
    (call config : ℕ) (o : OpenEntry) (s : Seen) → s.current ≡ Some o → CallsHaveTheirNumbers s → list_any (λ a. a.row.call == call) s.attempts ≡ false
    → Leaves (action.CallConfigured call config) o s
