use Rattle.channel_top.proofs.OptionLaws.{no_relay_nets, no_relay_seed}
use Rattle.channel_top.proofs.words.relay_of.Goals as goal

pub returns-in-None-number_at-clause-none : goal.returns-in-None-number_at-clause-none
returns-in-None-number_at-clause-none c = no_relay_seed _ c.in-None-number_at.ensures.none

pub returns-in-None-number_at-2-clause-none : goal.returns-in-None-number_at-2-clause-none
returns-in-None-number_at-2-clause-none c = no_relay_nets _ c.in-None-number_at-2.ensures.none
