use Rattle.relay_mode.proofs.PostLaws.{link_posts}
use Rattle.relay_mode.proofs.link.RelayJob.serve.Goals as goal

pub returns-in-Ok : goal.returns-in-Ok
returns-in-Ok g c = record { posts = link_posts _ _ _ _ c.relay_link-turn.ensures.runs; same_share = c.relay_link-turn.ensures.share }
