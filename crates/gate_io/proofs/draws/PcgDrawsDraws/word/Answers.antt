use Rattle.gate_io.proofs.WordLaws.{first_of_step, rest_of_step}
use Rattle.gate_io.proofs.draws.PcgDrawsDraws.word.Goals as goal

pub returns-clause-word : goal.returns-clause-word
returns-clause-word c = first_of_step c.args.self.now _ _ _ c.self.view_is c.next_word.ensures

pub returns-clause-rest : goal.returns-clause-rest
returns-clause-rest c = λ k. rest_of_step c.args.self.now _ _ _ k c.self.view_is c.next_word.ensures
