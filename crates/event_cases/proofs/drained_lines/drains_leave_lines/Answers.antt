use Rattle.event_cases.proofs.DrainedLines.Off.{drains_leave_lines}
use Rattle.event_cases.proofs.drained_lines.drains_leave_lines.Goals as goal

pub returns : goal.returns
returns c = drains_leave_lines
