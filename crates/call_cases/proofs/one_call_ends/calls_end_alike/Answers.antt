use Rattle.call_cases.proofs.OneCallEnds.Whole.{one_call_ends, one_call_ends_ahead}
use Rattle.call_cases.proofs.one_call_ends.calls_end_alike.Goals as goal

pub returns-clause-alike : goal.returns-clause-alike
returns-clause-alike c = one_call_ends

pub returns-clause-ahead : goal.returns-clause-ahead
returns-clause-ahead c = one_call_ends_ahead
