use Rattle.std.proofs.Common.{◌∙◌, ap}
use Rattle.std.proofs.lemmas.Result.{IfOk-weaker}
use Rattle.grpc_base.specs.declared.script.ServerScript.{ServerScript}
use Rattle.loop_server.specs.Script.{all_lines}
use Rattle.loop_server.specs.Server.{new_core}
use Rattle.load_session.proofs.Ran.{exit_if}
use Rattle.load_session.proofs.summary.new_server.Goals as goal

pub returns-in_err-script : goal.returns-in_err-script
returns-in_err-script c = exit_if c.from_residual.result _ _ c.from_residual.ensures.1

pub new-requires : goal.new-requires
new-requires c = c.in_ok-script.ensures.valid

pub returns : goal.returns
returns c = IfOk-weaker c.new.result _ _ (λ s is. is ∙ ap (λ (x : ServerScript). new_core (all_lines x)) c.in_ok-script.ensures.script) c.new.ensures
