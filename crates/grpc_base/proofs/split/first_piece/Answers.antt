use Rattle.grpc_base.proofs.PieceLaws.{pieces-parted, pieces-whole}
use Rattle.grpc_base.proofs.split.first_piece.Goals as goal

pub returns-in-Some-clause-pieces : goal.returns-in-Some-clause-pieces
returns-in-Some-clause-pieces c = pieces-parted _ _ _ _ c.in-Some.ensures.some.0 c.in-Some.ensures.some.1

pub returns-in-None-clause-pieces : goal.returns-in-None-clause-pieces
returns-in-None-clause-pieces c = pieces-whole _ _ c.in-None.ensures.none
