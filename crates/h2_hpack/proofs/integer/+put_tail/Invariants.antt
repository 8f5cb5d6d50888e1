use Rattle.h2_hpack.proofs.integer.+put_tail.Given as goal

abbrev pub decreases-put_tail : goal.decreases-put_tail
decreases-put_tail l = l.most
