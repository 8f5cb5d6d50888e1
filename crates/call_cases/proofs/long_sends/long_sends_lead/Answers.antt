use Rattle.call_cases.proofs.LongSends.Leading.{long_sends_lead}
use Rattle.call_cases.proofs.long_sends.long_sends_lead.Goals as goal

pub returns : goal.returns
returns c = long_sends_lead
