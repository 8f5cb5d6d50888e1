use Rattle.std.proofs.Common.{length}
use Rattle.h2_link.proofs.status.«+http_status».Given as goal

abbrev pub decreases-http_status : goal.decreases-http_status
decreases-http_status l = length l.fields.now
