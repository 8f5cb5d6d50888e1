use Rattle.h2_hpack.specs.Encoding.{same_name}
use Rattle.h2_hpack.proofs.LookupLemmas.{g_nowhere, none_past_all, t_before, t_after, u_before, u_after, x_nowhere}
use Rattle.h2_hpack.proofs.lookup.places_of.Goals as goal

pub returns-in_default-clause-afterwards : goal.returns-in_default-clause-afterwards
returns-in_default-clause-afterwards c = none_past_all (same_name c.args.name.now)

pub returns-in-103-clause-afterwards : goal.returns-in-103-clause-afterwards
returns-in-103-clause-afterwards c = g_nowhere c.args.name.now c.in-103.is

pub returns-in-116-clause-before : goal.returns-in-116-clause-before
returns-in-116-clause-before c = t_before c.args.name.now c.in-116.is

pub returns-in-116-clause-afterwards : goal.returns-in-116-clause-afterwards
returns-in-116-clause-afterwards c = t_after c.args.name.now c.in-116.is

pub returns-in-117-clause-before : goal.returns-in-117-clause-before
returns-in-117-clause-before c = u_before c.args.name.now c.in-117.is

pub returns-in-117-clause-afterwards : goal.returns-in-117-clause-afterwards
returns-in-117-clause-afterwards c = u_after c.args.name.now c.in-117.is

pub returns-in-120-clause-afterwards : goal.returns-in-120-clause-afterwards
returns-in-120-clause-afterwards c = x_nowhere c.args.name.now c.in-120.is

pub returns-in_default-first-clause-afterwards : goal.returns-in_default-first-clause-afterwards
returns-in_default-first-clause-afterwards c = none_past_all (same_name c.args.name.now)
