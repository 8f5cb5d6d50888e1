-- The script that is made keeps the rules of one.
use Rattle.std.proofs.Common.{List, sym, subst}
use Rattle.grpc_base.specs.declared.script.AnswerLine.{AnswerLine}
use Rattle.grpc_base.specs.Scripts.{IsServerScript}
use Rattle.load_plan.proofs.Scripts.{script_is}
use Rattle.load_plan.proofs.load.Load.server.Goals as goal

pub returns-clause-valid : goal.returns-clause-valid
returns-clause-valid c =
    let P : List AnswerLine → Type 0 = λ answers. IsServerScript (record { answers = answers }) in
    subst P (sym c.in_ok-answers.ensures) (script_is c.args.self.seed c.args.self.calls)
