use Rattle.std.proofs.Common.{◌<◌, arith}
use Rattle.grpc_base.specs.Metadata.{pair_size}
use Rattle.grpc_base.proofs.MetaLaws.{too_long}
use Rattle.grpc_base.proofs.meta_rule.room_after_all.Goals as goal

-- what comes to more than the limit so far does so in the end
pub returns-in_err-room : goal.returns-in_err-room
returns-in_err-room c =
    let past : c.loop-pair.room < pair_size c.pair-item.result = rw (c.as_slice.ensures, c.as_slice-in-loop-pair.ensures) at c.in_err-room.ensures in
    rw c.from_residual.ensures (too_long c.args.pairs.now c.loop-pair.pair-index _ _ (omega arith) c.pair-item.is c.loop-pair.invariant past)
