use Rattle.channel_actions.proofs.TransparentRetries.Along.{refused_once, unsent_once}
use Rattle.channel_actions.proofs.transparent_retries.retries_are_bounded.Goals as goal

pub returns-clause-refused : goal.returns-clause-refused
returns-clause-refused c = refused_once

pub returns-clause-unsent : goal.returns-clause-unsent
returns-clause-unsent c = unsent_once
