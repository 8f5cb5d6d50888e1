use Rattle.script_input.proofs.ServerLaws.{answer_read, taken_read}
use Rattle.script_input.proofs.server.AnswerLinesLines.take.Goals as goal

pub keep_answer-requires : goal.keep_answer-requires
keep_answer-requires c = answer_read c.args.self.now.reader c.args.text.now c.in-Ok.read c.args.self.now.is_server c.in-Ok.ensures.ok

pub returns-in-Ok-clause-taken : goal.returns-in-Ok-clause-taken
returns-in-Ok-clause-taken c = taken_read c.args.self.now _ c.args.text.now c.in-Ok.read c.keep_answer.result c.in-Ok.ensures.ok c.in-Ok.ensures.rules c.in-Ok.ensures.afterwards c.keep_answer.ensures.kept
