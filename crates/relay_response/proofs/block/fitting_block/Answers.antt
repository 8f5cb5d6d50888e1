use Rattle.std.proofs.Common.{List, ◌<◌, ◌≤◌, length, ap, arith, subst, sym}
use Rattle.grpc_base.specs.declared.fields.Field.{Field}
use Rattle.h2_hpack.specs.Encoding.{block_bytes}
use Rattle.relay_response.proofs.Sizes.{fitting_short}
use Rattle.relay_response.proofs.block.fitting_block.Goals as goal

pub of_fields-requires : goal.of_fields-requires
of_fields-requires c =
    subst (λ (fields : List Field). length (block_bytes fields) < 16384) (sym c.in_ok-fields.ensures) (fitting_short c.args.all.now)
