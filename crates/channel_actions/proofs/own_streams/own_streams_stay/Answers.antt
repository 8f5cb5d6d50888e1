use Rattle.channel_actions.proofs.Streams.Own.Along.{frames_are_sendable, streams_along, streams_begin, streams_stay}
use Rattle.channel_actions.proofs.Streams.Own.Others.{writes_leave_others}
use Rattle.channel_actions.proofs.own_streams.own_streams_stay.Goals as goal

pub returns-clause-begins : goal.returns-clause-begins
returns-clause-begins c = streams_begin

pub returns-clause-stays : goal.returns-clause-stays
returns-clause-stays c = streams_stay

pub returns-clause-along : goal.returns-clause-along
returns-clause-along c = streams_along

pub returns-clause-sends : goal.returns-clause-sends
returns-clause-sends c = frames_are_sendable

pub returns-clause-others : goal.returns-clause-others
returns-clause-others c = writes_leave_others
