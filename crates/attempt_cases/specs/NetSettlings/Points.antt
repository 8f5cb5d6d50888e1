-- Points of a settling, by the lines that give nothing there, and what it means that a session goes on from one to another, where it agrees with a channel.
-- Example: two backoffs are over. BackoffEnds 1 and BackoffEnds 2 lead from the begin of the settling to a point at which the clock is done.
use Rattle.std.specs.Prelude.{None, ◌≡◌}
use Rattle.channel_actions.specs.Points.{Reaches}
use Rattle.channel_core.specs.States.{StateSeen}
use Rattle.session_actions.specs.Policies.{next_take_over}
use Rattle.session_actions.specs.Subchannels.{next_connected, next_of_clock}
use Rattle.session_actions.specs.declared.entry.OpenEntry.{OpenEntry}
use Rattle.session_actions.specs.declared.entry.Stage.TheVariants as stage
use Rattle.session_actions.specs.declared.seen.Seen.{Seen}

-- the begin: no pass over the queue is going on
pub record IsBegun (o : OpenEntry) (s : Seen) : Type 0 where
  pub turn : o.turn ≡ None

-- the clock of subchannels is done
pub record IsClocked (o : OpenEntry) (s : Seen) : Type 0 where
  pub turn : o.turn ≡ None
  pub clock : next_of_clock s ≡ None

-- and no policy takes over
pub record IsUncontested (o : OpenEntry) (s : Seen) : Type 0 where
  pub turn : o.turn ≡ None
  pub clock : next_of_clock s ≡ None
  pub take_over : next_take_over s ≡ None

-- and no subchannel is wished
pub record IsJoined (o : OpenEntry) (s : Seen) : Type 0 where
  pub turn : o.turn ≡ None
  pub clock : next_of_clock s ≡ None
  pub take_over : next_take_over s ≡ None
  pub connected : next_connected s ≡ None

-- the session goes on to a point of the same settling, where it agrees with a channel; the reply stays
pub record Leads (y : StateSeen) (o : OpenEntry) (s : Seen) (After : OpenEntry → Seen → Type 0) : Type 0 where
  pub reaches : Reaches stage.Settling y o s
  pub reply : reaches.entry.reply ≡ o.reply
  pub point : After reaches.entry reaches.seen
