-- What a drain of a link takes is of the attempts that go on there: the line of every other attempt is as before, whatever the lines are.
-- Example: attempt 1 goes on on link 1, and attempt 2 on link 2. A drain of link 1 takes 3 bytes of attempt 1, and none of attempt 2.
use Rattle.std.specs.Prelude.{List, Some, false, ℕ, ◌≡◌}
use Rattle.channel_actions.specs.KeptSessions.Kept.{IsKept}
use Rattle.channel_actions.specs.OwnStreams.Laws.{goes_on_at}
use Rattle.h2_link.specs.Drains.{Drains}
use Rattle.h2_link.specs.Feeds.{Line}
use Rattle.h2_link.specs.Wire.{Wire}
use Rattle.link_actions.specs.Sees.{Sees, WaitAlike}
use Rattle.session_actions.specs.Words.{numbered}
use Rattle.session_actions.specs.declared.attempt.Attempt.{Attempt}
use Rattle.session_actions.specs.declared.link.Link.{Link}
use Rattle.session_actions.specs.declared.seen.Seen.{Seen}

abbrev pub DrainsLeaveLines : Type 0
DrainsLeaveLines =
    (room : ℕ) (l : Link) (s : Seen) (w w2 : Wire) (g g2 : ℕ → Line) (octets : List ℕ) → IsKept s → Sees l s w → WaitAlike l s w → Drains room w g octets w2 g2
    → (row : ℕ) (a : Attempt) → numbered s.attempts row ≡ Some a → goes_on_at l.number a ≡ false → g2 row ≡ g row
