use Rattle.event_cases.proofs.WrittenResponses.Along.{writes_leave_items}
use Rattle.event_cases.proofs.WrittenResponses.Silent.{unreceived_are_silent}
use Rattle.event_cases.proofs.written_responses.written_frames_leave_responses.Goals as goal

pub returns-clause-silent : goal.returns-clause-silent
returns-clause-silent c = unreceived_are_silent

pub returns-clause-items : goal.returns-clause-items
returns-clause-items c = writes_leave_items
