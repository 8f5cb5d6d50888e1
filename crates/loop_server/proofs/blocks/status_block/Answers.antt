use Rattle.std.proofs.Common.{◌≡◌, ◌≤◌, sym, subst, List}
use Rattle.grpc_base.specs.declared.fields.Field.{Field}
use Rattle.h2_hpack.specs.Tables.{list_size}
use Rattle.loop_server.proofs.Sizes.{status_within}
use Rattle.loop_server.proofs.blocks.status_block.Goals as goal

pub encode_block-requires : goal.encode_block-requires
encode_block-requires c =
    subst (λ (fields : List Field). list_size fields ≤ 16384) (sym c.in_ok-fields.ensures.fields) (status_within c.args.before.now c.args.code c.ranges.code.fits)
