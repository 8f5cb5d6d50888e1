use Rattle.channel_top.proofs.OptionLaws.{no_links, no_port}
use Rattle.channel_top.proofs.words.serve_of.Goals as goal

pub returns-in-None-clause-none : goal.returns-in-None-clause-none
returns-in-None-clause-none c = no_port _ c.in-None.ensures.none

pub returns-in-None-number_at-clause-none : goal.returns-in-None-number_at-clause-none
returns-in-None-number_at-clause-none c = no_links _ c.in-None-number_at.ensures.none
