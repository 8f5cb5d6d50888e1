use Rattle.clap.specs.Words.{found_of}
use Rattle.channel_top.proofs.OptionLaws.{option_none, reads_number, within_none, within_some}
use Rattle.channel_top.proofs.words.number_at.Goals as goal

pub returns-in-Some-clause-some : goal.returns-in-Some-clause-some
returns-in-Some-clause-some c = within_some _ (found_of c.args.matches.now) c.args.id.now c.args.low c.args.high c.in-Some.number c.get_one.result c.within.result reads_number c.in-Some.is c.get_one.ensures.none c.get_one.ensures.value c.within.ensures.some

pub returns-in-Some-clause-none : goal.returns-in-Some-clause-none
returns-in-Some-clause-none c = within_none _ (found_of c.args.matches.now) c.args.id.now c.args.low c.args.high c.in-Some.number c.get_one.result c.within.result reads_number c.in-Some.is c.get_one.ensures.value c.within.ensures.none

pub returns-in-None-clause-none : goal.returns-in-None-clause-none
returns-in-None-clause-none c = option_none _ (found_of c.args.matches.now) c.args.id.now c.args.low c.args.high c.get_one.result reads_number c.in-None.is c.get_one.ensures.value
