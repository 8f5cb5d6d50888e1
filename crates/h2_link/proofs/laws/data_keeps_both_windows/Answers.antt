use Rattle.h2_link.proofs.Keeps.{sender_keeps}
use Rattle.h2_link.proofs.laws.data_keeps_both_windows.Goals as goal

pub returns : goal.returns
returns c = sender_keeps
