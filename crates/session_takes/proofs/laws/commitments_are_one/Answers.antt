use Rattle.session_takes.proofs.CommitmentPassesAlong.{commits_are_one}
use Rattle.session_takes.proofs.laws.commitments_are_one.Goals as goal

pub returns : goal.returns
returns c = commits_are_one
