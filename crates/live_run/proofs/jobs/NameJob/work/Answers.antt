use Rattle.std.proofs.Common.{◌∙◌, refl}
use Rattle.dns_watch.specs.declared.job.DnsOnce.TheVariants as once
use Rattle.live_run.specs.Sides.{seen_by}
use Rattle.live_run.proofs.NameLaws.{ends_failed, ends_whole, turn_adds, turn_reports}
use Rattle.live_run.proofs.jobs.NameJob.work.Goals as goal

pub loop-preserved-in-Nothing : goal.loop-preserved-in-Nothing
loop-preserved-in-Nothing g c = record {
  config = c.loop.invariant.config;
  posts = turn_adds _ c.dns_once.ensures.turn.0 _ _ _ _ _ _ c.dns_once.result c.loop.invariant.config c.loop.invariant.posts c.dns_once.ensures.turn.2;
  errors = turn_reports c.in-Nothing.ensures.turn.0 _ _ _ _ _ once.Nothing c.in-Nothing.ensures.turn.2 ∙ c.loop.invariant.errors;
  share = c.dns_once.ensures.share ∙ c.loop.invariant.share;
}

pub loop-preserved : goal.loop-preserved
loop-preserved g c = record {
  config = c.loop.invariant.config;
  posts = turn_adds _ c.dns_once.ensures.turn.0 _ _ _ _ _ _ c.dns_once.result c.loop.invariant.config c.loop.invariant.posts c.dns_once.ensures.turn.2;
  errors = turn_reports c.in-Posted.ensures.turn.0 _ _ _ _ _ once.Posted c.in-Posted.ensures.turn.2 ∙ c.loop.invariant.errors;
  share = c.dns_once.ensures.share ∙ c.loop.invariant.share;
}

pub returns-in-Shut-clause-posts : goal.returns-in-Shut-clause-posts
returns-in-Shut-clause-posts g c = turn_adds _ c.dns_once.ensures.turn.0 _ _ _ _ _ _ c.dns_once.result c.loop.invariant.config c.loop.invariant.posts c.dns_once.ensures.turn.2

pub returns-in-Shut-clause-end : goal.returns-in-Shut-clause-end
returns-in-Shut-clause-end g c =
    ends_whole _ (seen_by g.H.Post.made g.H.Post.errors g.H.Post.last_error c.args.self.now.post) (seen_by g.H.Post.made g.H.Post.errors g.H.Post.last_error c.dns_once.new.post) _ c.dns_once.ensures.turn.0 _ _ _ _ _ c.dns_once.result c.in-Shut.is
    c.dns_once.ensures.turn.1 c.dns_once.ensures.turn.2 c.loop.invariant.errors refl c.loop.invariant.posts refl

pub returns-in-Failed-clause-end : goal.returns-in-Failed-clause-end
returns-in-Failed-clause-end g c =
    ends_failed (seen_by g.H.Post.made g.H.Post.errors g.H.Post.last_error c.args.self.now.post) (seen_by g.H.Post.made g.H.Post.errors g.H.Post.last_error c.dns_once.new.post) _ _ c.in-Failed.error _ c.loop.invariant.errors c.of_error-self.ensures
    (turn_reports c.in-Failed.ensures.turn.0 _ _ _ _ _ (once.Failed c.in-Failed.error) c.in-Failed.ensures.turn.2)

pub returns-in-Failed-clause-posts : goal.returns-in-Failed-clause-posts
returns-in-Failed-clause-posts g c = turn_adds _ c.dns_once.ensures.turn.0 _ _ _ _ _ _ c.dns_once.result c.loop.invariant.config c.loop.invariant.posts c.dns_once.ensures.turn.2
