use Rattle.clap.specs.Words.{found_of, rows_of}
use Rattle.channel_top.proofs.ChoiceLaws.{choice_wrong}
use Rattle.channel_top.proofs.live_words.choice_at.Goals as goal

pub returns-in-Wrong-clause-none : goal.returns-in-Wrong-clause-none
returns-in-Wrong-clause-none c = choice_wrong c.args.id.now c.args.low c.args.high c.args.default (rows_of (found_of c.args.matches.now)) c.in-Wrong.ensures.given
