use Rattle.std.proofs.Common.{ℕ, List, map, subst}
use Rattle.std.proofs.lemmas.Result.{IfOk-weaker}
use Rattle.channel_core.specs.Core.{IsNewBy}
use Rattle.load_session.proofs.Ran.{exit_if}
use Rattle.load_session.proofs.summary.new_channel.Goals as goal

pub returns-in_err-text : goal.returns-in_err-text
returns-in_err-text g c = exit_if c.from_residual.result _ _ c.from_residual.ensures.1

pub new-requires-clause-authority : goal.new-requires-clause-authority
new-requires-clause-authority g c = c.in_ok-text.ensures.kept

pub new-requires-clause-policies : goal.new-requires-clause-policies
new-requires-clause-policies g c = c.requires

pub returns : goal.returns
returns g c = IfOk-weaker c.new.result _ _ (λ core is. subst (λ (t : List ℕ). IsNewBy c.args.alloc t (map g.P.Balancer.seen c.args.policies.items) core) c.in_ok-text.ensures.value is) c.new.ensures
