use Rattle.gate_io.proofs.WorldLaws.{four_untold}
use Rattle.gate_io.proofs.setup.TcpWorldWorld.parts.Goals as goal

pub returns-clause-held : goal.returns-clause-held
returns-clause-held g c = four_untold c.args.self.dialers.items c.args.self.four
