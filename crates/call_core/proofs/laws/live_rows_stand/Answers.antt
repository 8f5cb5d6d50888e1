use Rattle.call_core.specs.Parts.{pick_end}
use Rattle.call_core.specs.Rows.{IsApart}
use Rattle.call_core.proofs.Chains.{chain_closed_by, chain_configured, chain_due, chain_ended_at, chain_news, chain_placed, chain_sent, chain_timed_out}
use Rattle.call_core.proofs.Cuts.{apart_chain, apart_elsewhere, apart_new}
use Rattle.call_core.proofs.laws.live_rows_stand.Goals as goal

pub returns-clause-begun : goal.returns-clause-begun
returns-clause-begun c = apart_new

pub returns-clause-configured : goal.returns-clause-configured
returns-clause-configured c = λ chosen moment s limit. chain_configured (λ s t. IsApart s → IsApart t) apart_chain chosen moment s limit

pub returns-clause-sent : goal.returns-clause-sent
returns-clause-sent c = λ message moment s. chain_sent (λ s t. IsApart s → IsApart t) apart_chain message moment s

pub returns-clause-closed : goal.returns-clause-closed
returns-clause-closed c = λ why moment s. chain_closed_by (λ s t. IsApart s → IsApart t) apart_chain why moment s

pub returns-clause-timed_out : goal.returns-clause-timed_out
returns-clause-timed_out c = λ moment s. chain_timed_out (λ s t. IsApart s → IsApart t) apart_chain moment s

pub returns-clause-placed : goal.returns-clause-placed
returns-clause-placed c = λ row at s e. chain_placed (λ s t. IsApart s → IsApart t) apart_chain row at s e

pub returns-clause-failed : goal.returns-clause-failed
returns-clause-failed c = λ row moment word s. chain_ended_at (λ s t. IsApart s → IsApart t) apart_chain row pick_end moment word s

pub returns-clause-handled : goal.returns-clause-handled
returns-clause-handled c = λ row reported moment word s. chain_news (λ s t. IsApart s → IsApart t) apart_chain row reported moment word s

pub returns-clause-made : goal.returns-clause-made
returns-clause-made c = λ moment s. chain_due (λ s t. IsApart s → IsApart t) apart_chain moment s

pub returns-clause-elsewhere : goal.returns-clause-elsewhere
returns-clause-elsewhere c = apart_elsewhere
