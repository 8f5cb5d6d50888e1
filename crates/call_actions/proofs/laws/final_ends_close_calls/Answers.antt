use Rattle.call_actions.proofs.LastOnes.{final_ends_close}
use Rattle.call_actions.proofs.LastHedge.{last_hedges_close}
use Rattle.call_actions.proofs.laws.final_ends_close_calls.Goals as goal

pub returns-clause-closed : goal.returns-clause-closed
returns-clause-closed c = final_ends_close

pub returns-clause-hedged : goal.returns-clause-hedged
returns-clause-hedged c = last_hedges_close
