use Rattle.call_cases.proofs.LongSends.Joined.{long_sends_are_answered}
use Rattle.call_cases.proofs.long_sends.long_sends_are_answered.Goals as goal

pub returns : goal.returns
returns c = long_sends_are_answered
