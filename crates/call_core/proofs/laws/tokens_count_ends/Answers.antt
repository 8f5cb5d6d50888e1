use Rattle.call_core.proofs.Counting.{tokens_ended, tokens_head, tokens_too_large}
use Rattle.call_core.proofs.laws.tokens_count_ends.Goals as goal

pub returns-clause-ended : goal.returns-clause-ended
returns-clause-ended c = tokens_ended

pub returns-clause-head : goal.returns-clause-head
returns-clause-head c = tokens_head

pub returns-clause-too_large : goal.returns-clause-too_large
returns-clause-too_large c = tokens_too_large
