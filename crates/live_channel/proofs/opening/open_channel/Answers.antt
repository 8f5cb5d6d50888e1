use Rattle.std.proofs.Common.{◌∙◌, ℕ, List, ap, map, subst, sym}
use Rattle.shared_channel.specs.Running.{HasRun, origin_of}
use Rattle.shared_channel.proofs.RunningLaws.{new_has_run}
use Rattle.live_channel.proofs.opening.open_channel.Goals as goal

pub new-requires-2-clause-run : goal.new-requires-2-clause-run
new-requires-2-clause-run g c = subst (λ (o : List ℕ). HasRun o c.in_ok-core.core) (sym c.of-origin.ensures) (new_has_run _ _ _ c.in_ok-core.core c.in_ok-core.ensures c.requires.ready)

pub returns-clause-origin : goal.returns-clause-origin
returns-clause-origin g c = c.in_ok-channel.ensures.origin ∙ c.of-origin.ensures ∙ ap (λ (a : List ℕ). origin_of a (map g.P.Balancer.seen c.args.policies.items)) c.in_ok-authority.ensures.value
