use Rattle.channel_actions.proofs.Streams.Opened.Written as written
use Rattle.channel_actions.proofs.streams_opened.writes_stir_nothing.Goals as goal

pub returns : goal.returns
returns c = written.writes_stir_nothing
