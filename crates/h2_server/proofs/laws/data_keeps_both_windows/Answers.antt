use Rattle.h2_server.proofs.Shares.{share_keeps}
use Rattle.h2_server.proofs.laws.data_keeps_both_windows.Goals as goal

pub returns : goal.returns
returns c = share_keeps
