use Rattle.channel_top.proofs.Promised.{channels_keep_the_promise}
use Rattle.channel_top.proofs.promise.sessions_keep_the_promise.Goals as goal

pub returns : goal.returns
returns c = channels_keep_the_promise c.every_run_is_a_session.ensures c.posts_decide.ensures.session
