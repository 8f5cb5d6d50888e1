use Rattle.std.proofs.Common.{length}
use Rattle.h2_server.proofs.preface.«+agreed».Given as goal

abbrev pub decreases-agreed : goal.decreases-agreed
decreases-agreed l = length l.text.now
