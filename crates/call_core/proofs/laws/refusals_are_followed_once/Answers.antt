use Rattle.call_core.specs.Laws.{KeepsRefusal}
use Rattle.call_core.specs.Parts.{pick_end}
use Rattle.call_core.proofs.Chains.{chain_configured, chain_due, chain_ended_at, chain_news, chain_placed, chain_sent}
use Rattle.call_core.proofs.Refusals.{refusal_chain, refusal_never, refusal_spent}
use Rattle.call_core.proofs.laws.refusals_are_followed_once.Goals as goal

pub returns-clause-spent : goal.returns-clause-spent
returns-clause-spent c = refusal_spent

pub returns-clause-never : goal.returns-clause-never
returns-clause-never c = refusal_never

pub returns-clause-configured : goal.returns-clause-configured
returns-clause-configured c = λ chosen moment s limit. chain_configured KeepsRefusal refusal_chain chosen moment s limit

pub returns-clause-sent : goal.returns-clause-sent
returns-clause-sent c = λ message moment s. chain_sent KeepsRefusal refusal_chain message moment s

pub returns-clause-placed : goal.returns-clause-placed
returns-clause-placed c = λ row at s e. chain_placed KeepsRefusal refusal_chain row at s e

pub returns-clause-failed : goal.returns-clause-failed
returns-clause-failed c = λ row moment word s. chain_ended_at KeepsRefusal refusal_chain row pick_end moment word s

pub returns-clause-handled : goal.returns-clause-handled
returns-clause-handled c = λ row reported moment word s. chain_news KeepsRefusal refusal_chain row reported moment word s

pub returns-clause-made : goal.returns-clause-made
returns-clause-made c = λ moment s. chain_due KeepsRefusal refusal_chain moment s
