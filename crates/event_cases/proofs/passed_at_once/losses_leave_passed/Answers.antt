use Rattle.event_cases.proofs.PassedAtOnce.Acts.{actions_leave_passed}
use Rattle.event_cases.proofs.PassedAtOnce.Along.{losses_leave_passed}
use Rattle.event_cases.proofs.passed_at_once.losses_leave_passed.Goals as goal

pub returns-clause-actions : goal.returns-clause-actions
returns-clause-actions c = actions_leave_passed

pub returns-clause-losses : goal.returns-clause-losses
returns-clause-losses c = losses_leave_passed
