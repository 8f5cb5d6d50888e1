use Rattle.call_core.proofs.Limits.{head_commits, head_first, other_news, other_placed}
use Rattle.call_core.proofs.outcomes.committed_calls_follow_one_row.Goals as goal

pub returns-clause-head : goal.returns-clause-head
returns-clause-head c = head_first

pub returns-clause-commits : goal.returns-clause-commits
returns-clause-commits c = head_commits

pub returns-clause-placed : goal.returns-clause-placed
returns-clause-placed c = other_placed

pub returns-clause-handled : goal.returns-clause-handled
returns-clause-handled c = other_news
