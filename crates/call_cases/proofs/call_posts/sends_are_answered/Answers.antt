use Rattle.call_cases.proofs.CallPosts.Sending.{sends}
use Rattle.channel_actions.proofs.KeptSessions.Along.{kept_along}
use Rattle.call_cases.proofs.call_posts.sends_are_answered.Goals as goal

pub returns : goal.returns
returns c = sends kept_along
