use Rattle.std.proofs.Common.{length}
use Rattle.service_config.proofs.text.+append_more.Given as goal

abbrev pub decreases-append_more : goal.decreases-append_more
decreases-append_more l = length l.codes.now
