use Rattle.h2_link.proofs.Keeps.{sends_keep}
use Rattle.h2_link.proofs.laws.sending_keeps_what_was_received.Goals as goal

pub returns : goal.returns
returns c = sends_keep
