use Rattle.std.proofs.Common.{◌≡◌, ◌+◌, drop}
use Rattle.session_actions.specs.Entries.{journal_bytes}
use Rattle.slow_session.proofs.room.journal_bytes.Given as goal

-- the bytes so far, and those of the entries that are left
abbrev pub invariant-loop-entry : goal.invariant-loop-entry
invariant-loop-entry l = l.bytes + journal_bytes (drop l.entry-index l.entries) ≡ journal_bytes l.fn.entries
