use Rattle.call_cases.proofs.FullSends.Leading.{full_sends_lead}
use Rattle.call_cases.proofs.full_sends.full_sends_lead.Goals as goal

pub returns : goal.returns
returns c = full_sends_lead
