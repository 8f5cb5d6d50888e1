use Rattle.std.proofs.Common.{◌≡◌}
use Rattle.live_pump.specs.Kinds.{AddsOnly}
use Rattle.live_run.specs.Sides.{IsOfNames}
use Rattle.live_run.proofs.jobs.NameJob.work.Given as goal

-- nothing but what is of lookups was posted so far, with the config, and no post failed
abbrev pub invariant-loop : goal.invariant-loop
invariant-loop g l = record {
  config : l.self.config ≡ l.fn.self.config;
  posts : AddsOnly (IsOfNames l.fn.self.config) (g.H.Post.made l.fn.self.post) (g.H.Post.made l.self.post);
  errors : g.H.Post.errors l.self.post ≡ g.H.Post.errors l.fn.self.post;
  share : g.H.Post.share l.self.post ≡ g.H.Post.share l.fn.self.post;
}
