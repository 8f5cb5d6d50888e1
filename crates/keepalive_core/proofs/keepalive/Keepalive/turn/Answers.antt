use Rattle.keepalive_core.proofs.KeepLaws.{stand_law}
use Rattle.keepalive_core.specs.Keepalive.{kind_of}
use Rattle.keepalive_core.proofs.keepalive.Keepalive.turn.Goals as goal

pub returns-clause-law : goal.returns-clause-law
returns-clause-law c = λ start log before. stand_law _ start (record { moment = c.args.moment; kind = kind_of c.answer-answer.result }) log _ _ before c.note.ensures
