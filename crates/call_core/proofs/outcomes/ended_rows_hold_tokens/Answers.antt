use Rattle.call_core.proofs.Holding.{hold_end}
use Rattle.call_core.proofs.outcomes.ended_rows_hold_tokens.Goals as goal

pub returns : goal.returns
returns c = hold_end
