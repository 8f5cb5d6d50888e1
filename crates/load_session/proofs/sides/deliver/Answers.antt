use Rattle.std.proofs.Common.{◌∙◌, ℕ, List, ap, subst}
use Rattle.std.specs.Prelude.{Err, None, Some}
use Rattle.loop_server.specs.Steps.{CoreArrives}
use Rattle.loop_server.specs.declared.fault.ServerFault.{ServerFault}
use Rattle.load_session.proofs.Ran.{not_memory, not_ok}
use Rattle.load_session.proofs.sides.deliver.Goals as goal

pub returns-in-Ok-clause-ok : goal.returns-in-Ok-clause-ok
returns-in-Ok-clause-ok c =
    (None, subst (λ (xs : List ℕ). CoreArrives c.args.server.now c.args.link xs c.arrived.new.self None) c.as_slice.ensures c.in-Ok.ensures.ok)

pub returns-in-Ok-clause-full : goal.returns-in-Ok-clause-full
returns-in-Ok-clause-full c = not_ok _

pub returns-in-Broken-clause-ok : goal.returns-in-Broken-clause-ok
returns-in-Broken-clause-ok c = (
  Some c.in-Broken.code,
  subst (λ (xs : List ℕ). CoreArrives c.args.server.now c.args.link xs c.arrived.new.self (Some c.in-Broken.code)) c.as_slice.ensures
      (c.arrived.ensures.broken c.in-Broken.code (c.in-Err.is ∙ ap (λ (e : ServerFault). Err e) c.in-Broken.is)),
)

pub returns-in-Broken-clause-full : goal.returns-in-Broken-clause-full
returns-in-Broken-clause-full c = not_ok _

pub returns-in-NoMemory-clause-full : goal.returns-in-NoMemory-clause-full
returns-in-NoMemory-clause-full c = not_memory
