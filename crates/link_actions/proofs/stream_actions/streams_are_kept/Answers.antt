use Rattle.link_actions.proofs.StreamActions.NewStreams.{new_links_agree}
use Rattle.link_actions.proofs.StreamActions.QuietStreams.{quiet_frames_keep_streams}
use Rattle.link_actions.proofs.StreamActions.WriteStreams.{writes_keep_streams}
use Rattle.link_actions.proofs.stream_actions.streams_are_kept.Goals as goal

pub returns-clause-new : goal.returns-clause-new
returns-clause-new c = new_links_agree

pub returns-clause-write : goal.returns-clause-write
returns-clause-write c = writes_keep_streams

pub returns-clause-quiet : goal.returns-clause-quiet
returns-clause-quiet c = quiet_frames_keep_streams
