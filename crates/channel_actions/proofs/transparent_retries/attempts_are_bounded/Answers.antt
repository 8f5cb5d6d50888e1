use Rattle.channel_actions.proofs.TransparentRetries.Counts.{attempts_are_bounded, streams_are_bounded}
use Rattle.channel_actions.proofs.transparent_retries.attempts_are_bounded.Goals as goal

pub returns-clause-attempts : goal.returns-clause-attempts
returns-clause-attempts c = attempts_are_bounded

pub returns-clause-streams : goal.returns-clause-streams
returns-clause-streams c = streams_are_bounded
