use Rattle.call_cases.proofs.CallSends.All.{sends_are_all_answered}
use Rattle.call_cases.proofs.call_sends.sends_are_all_answered.Goals as goal

pub returns : goal.returns
returns c = sends_are_all_answered
