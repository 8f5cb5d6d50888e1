use Rattle.channel_top.proofs.OneLaws.{done_once, full_once}
use Rattle.channel_top.proofs.apart.replays_are_one.Goals as goal

pub returns-clause-done : goal.returns-clause-done
returns-clause-done c = done_once

pub returns-clause-full : goal.returns-clause-full
returns-clause-full c = full_once c.sessions_keep_the_promise.ensures
