use Rattle.link_actions.proofs.StreamActions.GoawayRead.{goaways_are_read}
use Rattle.link_actions.proofs.stream_actions.goaways_are_actions.Goals as goal

pub returns : goal.returns
returns c = goaways_are_read
