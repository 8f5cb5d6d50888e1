-- Where an action is next, its line says of it what the laws of `session_order` ask for (`Fits`): the event that it answers, the subchannel that it names, and
-- what else each session keeps in order.
-- Example: an entry of DialFailed 2 is being made, and DialFails 2 is next. The event is DialFailed 2, and a dial of subchannel 2 is under way.
use Rattle.std.specs.Prelude.{Some, ◌≡◌}
use Rattle.channel_actions.specs.KeptCalls.Early.{IsEarlyKept}
use Rattle.channel_actions.specs.KeptSessions.Kept.{IsKept}
use Rattle.session_actions.specs.Actions.{following}
use Rattle.session_actions.specs.declared.action.Action.TheVariants as action
use Rattle.session_actions.specs.declared.action.Action.{Action}
use Rattle.session_actions.specs.declared.entry.OpenEntry.{OpenEntry}
use Rattle.session_actions.specs.declared.seen.Seen.{Seen}
use Rattle.session_order.specs.Stirs.{Fits}

-- (not yet: an attempt that is made, placed, or committed to, and a subchannel that is added)
abbrev pub FitsNow : Action → OpenEntry → Seen → Type 0
FitsNow (action.AttemptMade call number k due) o s = Unit {0}
FitsNow (action.AttemptPlaced row at) o s = Unit {0}
FitsNow (action.CallCommitted row why) o s = Unit {0}
FitsNow (action.SubchannelAdded address) o s = Unit {0}
FitsNow a o s = Fits a o s

abbrev pub NextActionsFit : Type 0
NextActionsFit = (o : OpenEntry) (s : Seen) (a : Action) → IsKept s → IsEarlyKept s → s.current ≡ Some o → following s ≡ Some a → FitsNow a o s
