use Rattle.session_order.proofs.SessionLaws.Calls.{open_calls_attempt, open_channels_begin}
use Rattle.session_order.proofs.session_laws.ended_calls_rest.Goals as goal

pub returns-clause-calls : goal.returns-clause-calls
returns-clause-calls c = open_calls_attempt

pub returns-clause-channels : goal.returns-clause-channels
returns-clause-channels c = open_channels_begin
