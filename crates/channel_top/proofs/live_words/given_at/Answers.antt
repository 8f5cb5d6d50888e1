use Rattle.std.proofs.Common.{refl, rules}
use Rattle.clap.specs.Words.{found_of}
use Rattle.channel_top.proofs.OptionLaws.{GivesNumber, reads_number}
use Rattle.channel_top.proofs.ChoiceLaws.{given_no_number, given_nothing, given_number, given_outside, number_again}
use Rattle.channel_top.proofs.live_words.given_at.Goals as goal

pub returns-in-Ok-None-clause-given : goal.returns-in-Ok-None-clause-given
returns-in-Ok-None-clause-given c = given_nothing GivesNumber (found_of c.args.matches.now) c.args.id.now c.try_get_one.result (search rules) c.try_get_one.ensures.value

pub returns-in-Some-clause-given : goal.returns-in-Some-clause-given
returns-in-Some-clause-given c = given_number GivesNumber (found_of c.args.matches.now) c.args.id.now c.args.low c.args.high c.in-Some.number c.try_get_one.result reads_number (number_again c.try_get_one.result c.in-Ok-Some.field-0 c.in-Ok-Some.number c.in-Some.number c.in-Ok-Some.is c.in-Ok-Some.field-0-is c.in-Some.ensures.some.0) c.try_get_one.ensures.none c.try_get_one.ensures.value c.in-Some.ensures.some.1 c.in-Some.ensures.some.2

pub returns-in-None-clause-given : goal.returns-in-None-clause-given
returns-in-None-clause-given c = given_outside GivesNumber (found_of c.args.matches.now) c.args.id.now c.args.low c.args.high c.in-Ok-Some.number c.try_get_one.result reads_number (number_again c.try_get_one.result c.in-Ok-Some.field-0 c.in-Ok-Some.number c.in-Ok-Some.number c.in-Ok-Some.is c.in-Ok-Some.field-0-is refl) c.try_get_one.ensures.none c.try_get_one.ensures.value c.in-None.ensures.none

pub returns-in-Err-clause-given : goal.returns-in-Err-clause-given
returns-in-Err-clause-given c = given_no_number GivesNumber (found_of c.args.matches.now) c.args.id.now c.args.low c.args.high c.in-Err.field-0 c.try_get_one.result reads_number c.in-Err.is c.try_get_one.ensures.none c.try_get_one.ensures.value
