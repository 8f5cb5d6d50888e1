use Rattle.channel_actions.proofs.ActsFollowed.Ended.{ends_are_followed}
use Rattle.channel_actions.proofs.acts_followed.ends_are_followed.Goals as goal

pub returns : goal.returns
returns c = ends_are_followed
