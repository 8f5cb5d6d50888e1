use Rattle.session_order.proofs.ConfigStirs.Configured.{configured_leaves}
use Rattle.session_order.proofs.config_stirs.configs_stir.Goals as goal

pub returns : goal.returns
returns c = configured_leaves
