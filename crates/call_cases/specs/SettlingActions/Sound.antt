-- What the steps of a settling ask of session and channel beside that they agree. It holds of new ones, and each step keeps it; that this is so is asked
-- where it is needed (`SoundStays`).
-- Example: a call has no config yet. It has no mark and no attempt. Another call has one attempt of 3 that it may have: 2 of it are still to come.
use Rattle.std.specs.Prelude.{List, length, ◌<◌, ◌^◌, ◌≤◌}
use Rattle.channel_actions.specs.Agrees.{Agrees}
use Rattle.channel_actions.specs.FewCalls.Reached.{IsReached}
use Rattle.channel_actions.specs.HeldTexts.Fits.{TextsFit}
use Rattle.channel_actions.specs.KeptCalls.Early.{IsEarlyKept}
use Rattle.channel_actions.specs.SoundBuffers.Held.{BuffersAreSound}
use Rattle.channel_actions.specs.SoundCalls.Sound.{CallsAreSound, all_attempts}
use Rattle.channel_core.specs.States.{StateSeen}
use Rattle.session_actions.specs.Sessions.{Does}
use Rattle.session_actions.specs.declared.action.Action.{Action}
use Rattle.session_actions.specs.declared.seen.Seen.{Seen}

pub record IsSound (x : StateSeen) (s : Seen) : Type 0 where
  -- (no session within the limit of its journal has more calls, or as many attempts)
  pub few : length s.calls ≤ 1048576
  pub room : all_attempts x < 2 ^ 43
  -- of the session alone: it began new, and so keeps what every session keeps; to an open call without a config nothing happened, and no stream was reset of an
  -- attempt that goes on
  pub reached : IsReached s
  pub early : IsEarlyKept s
  pub calls : CallsAreSound x
  -- and of the channel alone, what its calls hold of their messages
  pub buffers : BuffersAreSound x
  -- which are no more than the session accepted
  pub texts : TextsFit x s

-- a step of the channel, with the actions that lead to a point at which both agree again, keeps it
abbrev pub SoundStays : (StateSeen → StateSeen) → Type 0
SoundStays step =
    (x : StateSeen) (s t : Seen) (actions : List Action) → Agrees x s → IsSound x s → Does actions s t → Agrees (step x) t → IsSound (step x) t
