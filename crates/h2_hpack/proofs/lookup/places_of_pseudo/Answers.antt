use Rattle.h2_hpack.proofs.LookupLemmas.{colon_a_after, colon_after, colon_m_before, colon_m_after, colon_p_before, colon_p_after, colon_s_before, colon_s_after}
use Rattle.h2_hpack.proofs.lookup.places_of_pseudo.Goals as goal

pub returns-in_default-clause-afterwards : goal.returns-in_default-clause-afterwards
returns-in_default-clause-afterwards c = colon_after c.args.name.now c.requires

pub returns-in_default-second-clause-afterwards : goal.returns-in_default-second-clause-afterwards
returns-in_default-second-clause-afterwards c = colon_after c.args.name.now c.requires

pub returns-in-97-clause-afterwards : goal.returns-in-97-clause-afterwards
returns-in-97-clause-afterwards c = colon_a_after c.args.name.now c.requires c.in-97.is

pub returns-in-109-clause-before : goal.returns-in-109-clause-before
returns-in-109-clause-before c = colon_m_before c.args.name.now c.requires c.in-109.is

pub returns-in-109-clause-afterwards : goal.returns-in-109-clause-afterwards
returns-in-109-clause-afterwards c = colon_m_after c.args.name.now c.requires c.in-109.is

pub returns-in-112-clause-before : goal.returns-in-112-clause-before
returns-in-112-clause-before c = colon_p_before c.args.name.now c.requires c.in-112.is

pub returns-in-112-clause-afterwards : goal.returns-in-112-clause-afterwards
returns-in-112-clause-afterwards c = colon_p_after c.args.name.now c.requires c.in-112.is

pub returns-in-115-clause-before : goal.returns-in-115-clause-before
returns-in-115-clause-before c = colon_s_before c.args.name.now c.requires c.in-115.is

pub returns-in-115-clause-afterwards : goal.returns-in-115-clause-afterwards
returns-in-115-clause-afterwards c = colon_s_after c.args.name.now c.requires c.in-115.is
