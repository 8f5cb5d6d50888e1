use Rattle.channel_net.proofs.SettleLaws.{nothing-is-due, nothing-waits}
use Rattle.channel_net.proofs.laws.laws_of_settling.Goals as goal

pub returns-clause-due : goal.returns-clause-due
returns-clause-due c = nothing-is-due

pub returns-clause-waits : goal.returns-clause-waits
returns-clause-waits c = nothing-waits
