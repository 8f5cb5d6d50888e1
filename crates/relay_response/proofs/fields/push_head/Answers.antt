use Rattle.relay_response.proofs.Sizes.{two_more}
use Rattle.relay_response.proofs.fields.push_head.Goals as goal

pub returns : goal.returns
returns c = two_more c.args.fields.now c.push_fixed.new.fields c.push_fixed-2.new.fields _ _ c.in_ok-push_fixed.ensures c.in_ok-push_fixed-2.ensures
