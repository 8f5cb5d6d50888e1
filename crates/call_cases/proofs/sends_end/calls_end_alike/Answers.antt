use Rattle.call_cases.proofs.SendsEnd.Alike.{calls_end_alike}
use Rattle.call_cases.proofs.sends_end.calls_end_alike.Goals as goal

pub returns : goal.returns
returns c = calls_end_alike
