use Rattle.std.proofs.Common.{length}
use Rattle.service_config.proofs.text.+append_among.Given as goal

abbrev pub decreases-append_among : goal.decreases-append_among
decreases-append_among l = length l.codes.now
