use Rattle.channel_top.proofs.OptionLaws.{no_relay_links, no_relay_port}
use Rattle.channel_top.proofs.words.place_of.Goals as goal

pub returns-in-None-clause-none : goal.returns-in-None-clause-none
returns-in-None-clause-none c = no_relay_port _ c.in-None.ensures.none

pub returns-in-None-number_at-clause-none : goal.returns-in-None-number_at-clause-none
returns-in-None-number_at-clause-none c = no_relay_links _ c.in-None-number_at.ensures.none
