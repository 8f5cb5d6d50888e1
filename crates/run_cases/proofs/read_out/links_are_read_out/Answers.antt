use Rattle.run_cases.proofs.ReadOut.Out.{links_are_read_out}
use Rattle.run_cases.proofs.read_out.links_are_read_out.Goals as goal

pub returns : goal.returns
returns c = links_are_read_out
