use Rattle.call_cases.proofs.LinkEnds.Ends.{calls_end_off_links, cuts_are_reset}
use Rattle.call_cases.proofs.link_ends.links_end.Goals as goal

pub returns-clause-calls : goal.returns-clause-calls
returns-clause-calls c = calls_end_off_links

pub returns-clause-cuts : goal.returns-clause-cuts
returns-clause-cuts c = cuts_are_reset
