-- A settling step by step. Each step leads from a point at which channel and session agree to the next one: the channel does one part of its own settling,
-- and the session the actions that follow. The points are named by the lines of the settling that give nothing there.
-- Example: a call begins on a channel that is READY and has a config. Clock, take-overs and wishes do nothing; configs bring CallConfigured; the first round
-- brings AttemptMade, and then PickRequested and AttemptPlaced. The second round does nothing, and the entry closes.
use Rattle.std.specs.Prelude.{Bool, None, false, if◌then◌else◌, suc, true, zero, ℕ, ◌≡◌}
use Rattle.channel_actions.specs.Agrees.{Agrees}
use Rattle.channel_actions.specs.Quiescent.{IsAt}
use Rattle.channel_actions.specs.Points.{Reaches}
use Rattle.channel_core.specs.Settling.{most, queue_served, round}
use Rattle.channel_core.specs.States.{StateSeen}
use Rattle.channel_core.specs.Steps.{unconfigured_served, clocked, net_settled, round_made}
use Rattle.session_actions.specs.Actions.{config_action}
use Rattle.session_actions.specs.Making.{next_due_attempt}
use Rattle.session_actions.specs.Policies.{next_of_pass, next_of_queue, next_take_over}
use Rattle.session_actions.specs.Subchannels.{next_connected, next_of_clock}
use Rattle.session_actions.specs.Words.{first_of}
use Rattle.session_actions.specs.declared.entry.OpenEntry.{OpenEntry}
use Rattle.session_actions.specs.declared.entry.Stage.TheVariants as stage
use Rattle.session_actions.specs.declared.seen.Seen.{Seen}
use Rattle.call_cases.specs.SettlingActions.Sound.{IsSound}

-- the points of a settling. It begins without a pass over the queue
pub record IsBegun (o : OpenEntry) (s : Seen) : Type 0 where
  pub turn : o.turn ≡ None

-- the clock of subchannels is done
pub record IsClocked (o : OpenEntry) (s : Seen) : Type 0 where
  pub turn : o.turn ≡ None
  pub clock : next_of_clock s ≡ None

-- no policy takes over, and no subchannel is wished
pub record IsJoined (o : OpenEntry) (s : Seen) : Type 0 where
  pub turn : o.turn ≡ None
  pub clock : next_of_clock s ≡ None
  pub take_over : next_take_over s ≡ None
  pub connected : next_connected s ≡ None

-- nothing of these, nor of configs: no line before the rounds gives anything, and no pass is going on. It is so before each round, and after it
pub record IsTended (o : OpenEntry) (s : Seen) : Type 0 where
  pub clock : next_of_clock s ≡ None
  pub take_over : next_take_over s ≡ None
  pub connected : next_connected s ≡ None
  pub configs : first_of (config_action s) s.calls ≡ None
  pub pass : next_of_pass o s ≡ None

-- in a round: all attempts that are due are made
pub record IsMade (o : OpenEntry) (s : Seen) : Type 0 where
  pub tended : IsTended o s
  pub due : next_due_attempt s ≡ None

-- and none waits that could be served: the entry closes
pub record IsDone (o : OpenEntry) (s : Seen) : Type 0 where
  pub made : IsMade o s
  pub queue : next_of_queue s ≡ None

-- after a pass over the queue: it is over, and where it served none, none is due and none waits
pub record IsPassed (moved : Bool) (o : OpenEntry) (s : Seen) : Type 0 where
  pub tended : IsTended o s
  pub done : moved ≡ false → IsDone o s

-- the session goes on to a point of the same settling, where it agrees with a channel; the reply stays
pub record Leads (y : StateSeen) (o : OpenEntry) (s : Seen) (After : OpenEntry → Seen → Type 0) : Type 0 where
  pub reaches : Reaches stage.Settling y o s
  pub reply : reaches.entry.reply ≡ o.reply
  pub point : After reaches.entry reaches.seen

-- a step of the channel leads from each point of one kind to one of another
abbrev pub IsStep : (OpenEntry → Seen → Type 0) → (StateSeen → StateSeen) → (OpenEntry → Seen → Type 0) → Type 0
IsStep Before step After =
    (x : StateSeen) (o : OpenEntry) (s : Seen) → Agrees x s → IsSound x s → IsAt stage.Settling o s → Before o s → Leads (step x) o s After

-- the steps. The clock: dials that took too long, and backoffs that are over
abbrev pub ClockSteps : Type 0
ClockSteps = IsStep IsBegun clocked IsClocked

-- a policy takes over, and subchannels that are wished connect, until neither is left
abbrev pub NetSteps : Type 0
NetSteps = IsStep IsClocked net_settled IsJoined

-- calls get their configs, or end for want of one
abbrev pub ConfigSteps : Type 0
ConfigSteps = IsStep IsJoined unconfigured_served IsTended

-- the attempts that are due are made, by call, or a hedge is withheld
abbrev pub round_made_state : StateSeen → StateSeen
round_made_state x = (round_made x).state

abbrev pub MakingSteps : Type 0
MakingSteps = IsStep IsTended round_made_state IsMade

-- each queued attempt asks for a pick, by call and place, and is placed or ends
abbrev pub QueueSteps : Type 0
QueueSteps =
    (x : StateSeen) (o : OpenEntry) (s : Seen) → Agrees x s → IsSound x s → IsAt stage.Settling o s → IsMade o s
    → Leads (queue_served x).state o s (IsPassed (queue_served x).moved)

-- a round of both, and rounds until one does nothing
pub record IsRound (y : StateSeen) (moved : Bool) (o : OpenEntry) (s : Seen) : Type 0 where
  pub passed : IsPassed moved o s
  pub sound : IsSound y s

abbrev pub RoundSteps : Type 0
RoundSteps =
    (x : StateSeen) (o : OpenEntry) (s : Seen) → Agrees x s → IsSound x s → IsAt stage.Settling o s → IsTended o s
    → Leads (round x).state o s (IsRound (round x).state (round x).moved)

unfoldable pub are_over : ℕ → StateSeen → Bool
are_over zero x = false
are_over (suc left) x = if (round x).moved then are_over left (round x).state else true

-- the rounds of a channel end before 2^64 - 1 of them went by. (Each but the last makes or serves an attempt, or withholds a hedge.)
abbrev pub RoundsEnd : Type 0
RoundsEnd =
    (x : StateSeen) (o : OpenEntry) (s : Seen) → Agrees x s → IsSound x s → IsAt stage.Settling o s → IsTended o s → are_over most x ≡ true
