-- What a session keeps of calls before their first attempt (`IsEarlyKept`) holds of a new one, and after each action that is next; so it does after every list of
-- actions. An open call without a config is without attempts then, as `call_actions` asks.
-- Example: a call begins, and is given up before a config came. CallBegins, RequestFinished, CallEnds: until then it had no mark, and no attempt.
use Rattle.std.specs.Prelude.{List, None, Some, ℕ, ◌≡◌}
use Rattle.call_actions.specs.Laws.{IsUnconfigured}
use Rattle.channel_actions.specs.KeptCalls.Early.{IsEarlyKept}
use Rattle.channel_actions.specs.KeptSessions.Kept.{IsKept}
use Rattle.session_actions.specs.Actions.{after}
use Rattle.session_actions.specs.Sessions.{Does, IsNext, new_session}
use Rattle.session_actions.specs.Words.{numbered}
use Rattle.session_actions.specs.Writing.{next_frame_read}
use Rattle.session_actions.specs.declared.action.Action.TheVariants as action
use Rattle.session_actions.specs.declared.action.Action.{Action}
use Rattle.session_actions.specs.declared.call.Call.{Call}
use Rattle.session_actions.specs.declared.link.Link.{Link}
use Rattle.session_actions.specs.declared.link.ReadFrame.{ReadFrame}
use Rattle.session_actions.specs.declared.seen.Seen.{Seen}
use Rattle.session_actions.specs.declared.seen.Setup.{Setup}
use Rattle.session_order.specs.Stirs.{SawLess}

abbrev pub EarlyBegins : Type 0
EarlyBegins = (setup : Setup) → IsEarlyKept (new_session setup)

abbrev pub EarlyStays : Type 0
EarlyStays = (s : Seen) (a : Action) → IsKept s → IsEarlyKept s → IsNext a s → IsEarlyKept (after a s)

abbrev pub EarlyAlong : Type 0
EarlyAlong = (actions : List Action) (s t : Seen) → IsKept s → IsEarlyKept s → Does actions s t → IsEarlyKept t

-- so an open call without a config is without attempts
abbrev pub UnconfiguredHaveNoAttempts : Type 0
UnconfiguredHaveNoAttempts =
    (s : Seen) (number : ℕ) (c : Call) → IsKept s → IsEarlyKept s → numbered s.calls number ≡ Some c → c.end ≡ None → c.config ≡ None → IsUnconfigured s c

-- and the frame that a link shows next ends after all that the ends of attempts saw of the link
abbrev pub FramesAreFresh : Type 0
FramesAreFresh =
    (s : Seen) (link : ℕ) (r : ReadFrame) → IsKept s → IsEarlyKept s → next_frame_read link s ≡ Some (action.FrameRead link r)
    → (l : Link) → numbered s.links link ≡ Some l → SawLess l.number r s
