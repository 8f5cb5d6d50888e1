use Rattle.h2_frame.proofs.PayloadLaws.{prefix_size}
use Rattle.h2_frame.proofs.StepLaws.{got_is, more_is, bad_is}
use Rattle.h2_frame.proofs.read.next_frame.Goals as goal

pub returns-clause-got : goal.returns-clause-got
returns-clause-got c = got_is c.read_prefix.result c.args.bytes.now c.read_prefix.ensures

pub returns-clause-more : goal.returns-clause-more
returns-clause-more c = more_is c.read_prefix.result c.args.bytes.now c.read_prefix.ensures

pub returns-clause-bad : goal.returns-clause-bad
returns-clause-bad c = bad_is c.read_prefix.result c.args.bytes.now c.read_prefix.ensures

pub returns-clause-short : goal.returns-clause-short
returns-clause-short c e = prefix_size c.args.bytes.now ((more_is c.read_prefix.result c.args.bytes.now c.read_prefix.ensures).0 e)
