use Rattle.call_actions.proofs.Begun.{calls_begin}
use Rattle.call_actions.proofs.Configured.{configs_come, long_messages_end}
use Rattle.call_actions.proofs.Ended.{calls_end}
use Rattle.call_actions.proofs.laws.calls_before_configuration.Goals as goal

pub returns-clause-begun : goal.returns-clause-begun
returns-clause-begun c = calls_begin

pub returns-clause-ended : goal.returns-clause-ended
returns-clause-ended c = calls_end

pub returns-clause-config : goal.returns-clause-config
returns-clause-config c = configs_come

pub returns-clause-long : goal.returns-clause-long
returns-clause-long c = long_messages_end
