use Rattle.event_cases.proofs.FirstShutdowns.Over.{shutdowns_end_calls}
use Rattle.event_cases.proofs.first_shutdowns.shutdowns_end_calls.Goals as goal

pub returns : goal.returns
returns c = shutdowns_end_calls
