use Rattle.std.proofs.Common.{◌≡◌, subst}
use Rattle.std.specs.Prelude.{IfOk, codes}
use Rattle.clap.specs.Words.{App, app_of, with_rule}
use Rattle.channel_top.specs.Words.{choice_rule}
use Rattle.channel_top.proofs.command.with_keepalives.Goals as goal

pub returns : goal.returns
returns c = subst (λ (a : App). IfOk c.with_choice-2.result (λ x. app_of x ≡ with_rule a (choice_rule (codes "keepalive-timeout")))) c.in_ok-command.ensures c.with_choice-2.ensures
