use Rattle.channel_top.proofs.CompleteLaws.{never_rises}
use Rattle.channel_top.proofs.top.run_steady.Goals as goal

pub returns-clause-complete : goal.returns-clause-complete
returns-clause-complete g c = λ runs can. c.run_channel.ensures.complete runs can never_rises never_rises

pub returns-clause-short : goal.returns-clause-short
returns-clause-short g c = λ runs short. c.run_channel.ensures.short runs short never_rises never_rises

pub returns-clause-good : goal.returns-clause-good
returns-clause-good g c = λ given listened. c.run_channel.ensures.good given never_rises never_rises listened

pub returns-clause-bad : goal.returns-clause-bad
returns-clause-bad g c = λ given. c.run_channel.ensures.bad given never_rises never_rises

pub returns-clause-asked : goal.returns-clause-asked
returns-clause-asked g c = λ asked. c.run_channel.ensures.asked asked never_rises

pub returns-clause-wrong : goal.returns-clause-wrong
returns-clause-wrong g c = λ none unasked. c.run_channel.ensures.wrong none unasked never_rises
