use Rattle.channel_net.proofs.LinkRuns.{links-are}
use Rattle.channel_net.proofs.RunLaws.{live-where-listed, numbers-stay-of}
use Rattle.channel_net.proofs.laws.laws_of_subchannels.Goals as goal

pub returns-clause-listed : goal.returns-clause-listed
returns-clause-listed c = live-where-listed

pub returns-clause-numbers : goal.returns-clause-numbers
returns-clause-numbers c = numbers-stay-of

pub returns-clause-links : goal.returns-clause-links
returns-clause-links c = links-are
