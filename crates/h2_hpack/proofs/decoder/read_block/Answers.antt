use Rattle.h2_hpack.proofs.BlockLemmas.{after_one}
use Rattle.h2_hpack.proofs.decoder.read_block.Goals as goal

pub loop-rest-preserved : goal.loop-rest-preserved
loop-rest-preserved c =
    let on = c.loop-rest.invariant in
    let next = after_one c.loop-rest.rest.now c.in_ok-rest.rest.now on.most (record { fields = c.loop-rest.list; table = c.loop-rest.table }) (record { fields = c.read_representation.new.list; table = c.read_representation.new.table }) _
    c.in-len1-up.len_at_least on.enough on.same c.in_ok-rest.ensures.ok c.in_ok-rest.ensures.shorter in
    record { most = next.most; enough = next.enough; same = next.same }
