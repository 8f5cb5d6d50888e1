use Rattle.std.proofs.Common.{refl, rules}
use Rattle.relay_mode.proofs.RelaySideLaws.{links_joined, links_still}
use Rattle.relay_mode.proofs.accepting.+links.Goals as goal

pub relay_links-returns-clause-each : goal.relay_links-returns-clause-each
relay_links-returns-clause-each g t c =
    links_joined _ _ _ _ _ _ c.relay_first.new.first c.relay_first.new.rest c.split_at_mut-first.ensures.value refl (search rules) c.relay_first.ensures.first c.relay_first.ensures.rest

pub relay_first-returns-in-Failed-clause-first : goal.relay_first-returns-in-Failed-clause-first
relay_first-returns-in-Failed-clause-first g t c = links_still _ _ c.args.first.now

pub relay_first-returns-in-Failed-clause-rest : goal.relay_first-returns-in-Failed-clause-rest
relay_first-returns-in-Failed-clause-rest g t c = links_still _ _ c.args.rest.now
