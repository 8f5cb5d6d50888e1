use Rattle.std.proofs.Common.{rules}
use Rattle.call_core.specs.Parts.{find_live}
use Rattle.call_core.specs.Turns.{lent_at}
use Rattle.call_core.proofs.Counting.{tokens_settle}
use Rattle.call_core.proofs.state.CallState.end_at.Goals as goal

pub returns-clause-tokens : goal.returns-clause-tokens
returns-clause-tokens c =
    tokens_settle c.count_end.result (find_live c.args.row c.args.self.now.live) c.in-Some.row c.args.end c.args.turn.now.moment c.args.turn.now.word
    (lent_at c.args.self.now c.args.ledger.now c.args.tokens.now c.args.turn.now) c.settle.new.tokens (search rules) (search rules) (search rules)
