use Rattle.call_cases.proofs.ConfigActions.Either.{config_steps}
use Rattle.call_cases.proofs.ended_calls.config_steps_are_done.Goals as goal

pub returns : goal.returns
returns c = config_steps c.calls_get_configs_or_end.ensures c.unserved_calls_end.ensures c.calls_without_attempts_end_too.ensures
