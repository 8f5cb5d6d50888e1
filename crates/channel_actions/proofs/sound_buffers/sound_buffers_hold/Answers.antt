use Rattle.channel_actions.proofs.SoundBuffers.Sound.{buffers_are_sound_in}
use Rattle.channel_actions.proofs.SoundBuffers.Streamed.{sound_feeds_hold}
use Rattle.channel_actions.proofs.sound_buffers.sound_buffers_hold.Goals as goal

pub returns-clause-sound : goal.returns-clause-sound
returns-clause-sound c = buffers_are_sound_in

pub returns-clause-feeds : goal.returns-clause-feeds
returns-clause-feeds c = sound_feeds_hold
