use Rattle.call_cases.proofs.ConfigActions.Either.{configs_are_step}
use Rattle.call_cases.proofs.config_actions.configs_are_step.Goals as goal

pub returns : goal.returns
returns c = configs_are_step c.served_calls_get_configs.ensures c.unserved_calls_end.ensures
