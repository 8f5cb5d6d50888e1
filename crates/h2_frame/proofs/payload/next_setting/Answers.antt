use Rattle.h2_frame.proofs.PayloadLaws.{prefix_setting}
use Rattle.h2_frame.proofs.payload.next_setting.Goals as goal

pub returns-clause-some : goal.returns-clause-some
returns-clause-some c =
    prefix_setting c.args.bytes.now c.from_be_bytes.result c.from_be_bytes-2.result c.in-len6-up.len_at_least c.from_be_bytes.ensures c.from_be_bytes-2.ensures
