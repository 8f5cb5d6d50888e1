use Rattle.attempt_cases.proofs.CallCommits.Sends.{sends_commit}
use Rattle.attempt_cases.proofs.CallCommits.Whole.{one_call_commits}
use Rattle.attempt_cases.proofs.call_commits.calls_commit_alike.Goals as goal

pub returns-clause-one : goal.returns-clause-one
returns-clause-one c = one_call_commits

pub returns-clause-sends : goal.returns-clause-sends
returns-clause-sends c = sends_commit
