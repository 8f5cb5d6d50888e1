use Rattle.channel_actions.proofs.Dialling.{no_dials, refused_dials, unresolved_events}
use Rattle.channel_actions.proofs.Refusing.{refused_events, ticks}
use Rattle.channel_actions.proofs.laws.plain_events_are_answered.Goals as goal

pub returns-clause-refused : goal.returns-clause-refused
returns-clause-refused c = refused_events

pub returns-clause-tick : goal.returns-clause-tick
returns-clause-tick c = ticks

pub returns-clause-unresolved : goal.returns-clause-unresolved
returns-clause-unresolved c = unresolved_events

pub returns-clause-dial : goal.returns-clause-dial
returns-clause-dial c = no_dials c.subchannel_steps_are_actions.ensures.none

pub returns-clause-refused_dial : goal.returns-clause-refused_dial
returns-clause-refused_dial c = refused_dials
