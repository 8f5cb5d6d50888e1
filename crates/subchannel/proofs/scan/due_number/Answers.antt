use Rattle.std.proofs.Common.{◌∙◌}
use Rattle.subchannel.specs.Records.{is_due}
use Rattle.subchannel.proofs.NumberLaws.{find-live, only_live-due, HasNumber-if}
use Rattle.subchannel.proofs.scan.due_number.Goals as goal

pub returns-clause-value : goal.returns-clause-value
returns-clause-value c =
    c.first_due.ensures ∙ find-live (is_due c.args.moment) c.args.subs.now c.args.live.now (only_live-due c.args.moment) c.requires

pub returns-clause-number : goal.returns-clause-number
returns-clause-number c =
    HasNumber-if (is_due c.args.moment) c.args.subs.now c.first_due.result (c.first_due.ensures ∙ find-live (is_due c.args.moment) c.args.subs.now c.args.live.now (only_live-due c.args.moment) c.requires)
