use Rattle.call_cases.proofs.CallPosts.Taking.{takes}
use Rattle.channel_actions.proofs.KeptSessions.Along.{kept_along}
use Rattle.call_cases.proofs.call_posts.takes_are_answered.Goals as goal

pub returns : goal.returns
returns c = takes kept_along
