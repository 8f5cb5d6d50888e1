use Rattle.call_core.proofs.Licensing.{retry_license}
use Rattle.call_core.proofs.laws.retries_follow_their_license.Goals as goal

pub returns : goal.returns
returns c = retry_license
