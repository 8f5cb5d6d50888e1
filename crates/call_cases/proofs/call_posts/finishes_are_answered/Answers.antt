use Rattle.call_cases.proofs.CallPosts.Finishing.{finishes}
use Rattle.channel_actions.proofs.KeptSessions.Along.{kept_along}
use Rattle.call_cases.proofs.call_posts.finishes_are_answered.Goals as goal

pub returns : goal.returns
returns c = finishes kept_along
