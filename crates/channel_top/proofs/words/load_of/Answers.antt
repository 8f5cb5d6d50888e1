use Rattle.channel_top.proofs.OptionLaws.{load_given, load_there, no_calls, no_seed, option_above, option_below}
use Rattle.channel_top.proofs.words.load_of.Goals as goal

pub returns-in-None-clause-none : goal.returns-in-None-clause-none
returns-in-None-clause-none c = no_seed _ c.in-None.ensures.none

pub returns-in-None-number_at-clause-none : goal.returns-in-None-number_at-clause-none
returns-in-None-number_at-clause-none c = no_calls _ c.in-None-number_at.ensures.none

pub load_with-requires-clause-some : goal.load_with-requires-clause-some
load_with-requires-clause-some c = option_above _ 1 10000 _ c.in-Some-number_at.calls c.in-Some-number_at.ensures.some

pub load_with-requires-clause-within : goal.load_with-requires-clause-within
load_with-requires-clause-within c = option_below _ 1 10000 _ c.in-Some-number_at.calls c.in-Some-number_at.ensures.some

pub returns-in-Some-number_at-clause-some : goal.returns-in-Some-number_at-clause-some
returns-in-Some-number_at-clause-some c = load_given _ c.in-Some.seed c.in-Some-number_at.calls c.load_with.result c.in-Some.ensures.some c.in-Some-number_at.ensures.some c.load_with.ensures

pub returns-in-Some-number_at-clause-none : goal.returns-in-Some-number_at-clause-none
returns-in-Some-number_at-clause-none c = load_there _ c.in-Some.seed c.in-Some-number_at.calls c.load_with.result c.load_with.ensures
