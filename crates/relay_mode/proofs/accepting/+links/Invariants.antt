use Rattle.std.proofs.Common.{◌*◌, ◌+◌, length}
use Rattle.relay_mode.proofs.accepting.+links.Given as goal

-- the workers that are left, three times: once for the function that splits them, once for the one that accepts, and once for the thread
-- that goes on
abbrev pub decreases-relay_first-join_mut+arg2 : goal.decreases-relay_first-join_mut+arg2
decreases-relay_first-join_mut+arg2 g l = 3 * length l.rest.now + 1

abbrev pub decreases-relay_first : goal.decreases-relay_first
decreases-relay_first g l = 3 * length l.rest.now + 2

abbrev pub decreases-relay_links : goal.decreases-relay_links
decreases-relay_links g l = 3 * length l.jobs.now
