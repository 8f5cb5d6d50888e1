use Rattle.h2_hpack.proofs.integer.+tail.Given as goal

abbrev pub decreases-tail : goal.decreases-tail
decreases-tail l = l.most
