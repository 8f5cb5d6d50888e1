-- A channel that is given events, one after another, each where its journal has room for it.
use Rattle.std.specs.Prelude.{◌≡◌, List, ◌∷◌, ◌++◌, ℕ}
use Rattle.grpc_base.specs.declared.event.Reply.{Reply}
use Rattle.grpc_base.specs.declared.event.Stamped.{Stamped}
use Rattle.channel_core.specs.Core.{CoreSeen, Steps}
use Rattle.journal_room.specs.Posted.{IsPosted}
use Rattle.journal_room.specs.Rooms.{HasRoom}
use Rattle.journal_room.specs.Runs.{HasRunBy}
use Rattle.lb_policy.specs.Table.{PolicySeen}
use Rattle.load_session.specs.Steps.{GoesOn}
use Rattle.load_session.specs.Stopping.{LacksRoom}
use Rattle.session_text.specs.declared.ran.Ran.{Ran}
use Rattle.session_text.specs.declared.ran.Ran.TheVariants as ran

-- an event is given to a channel: its journal has room for it, and it steps, whatever it replies; or it has none and stays as it is
abbrev pub StepsTo : Ran → CoreSeen → Stamped → CoreSeen → Type 0
StepsTo ran.Whole old s new = HasRoom old.journal.entries s.event × IsPosted s.event × (reply : Reply) × Steps old new s reply
StepsTo ran.Full old s new = LacksRoom s.event old × (new ≡ old)

-- a channel was given the first of these events, and its journal has no room for the next one
pub record FillsUp (old : CoreSeen) (events : List Stamped) (new : CoreSeen) : Type 0 where
  pub prefix : List Stamped
  pub next : Stamped
  pub afterwards : List Stamped
  pub parts : events ≡ prefix ++ next ∷ afterwards
  pub goes_on : GoesOn old prefix new
  pub full : LacksRoom next.event new

-- events are given to a channel: all of them, or up to one for which its journal has no room
abbrev pub RunsTo : Ran → CoreSeen → List Stamped → CoreSeen → Type 0
RunsTo ran.Whole old events new = GoesOn old events new
RunsTo ran.Full old events new = FillsUp old events new

-- the same of a channel that was new with this authority and these policies
pub record HasFilled (authority : List ℕ) (policies : List PolicySeen) (events : List Stamped) (core : CoreSeen) : Type 0 where
  pub prefix : List Stamped
  pub next : Stamped
  pub afterwards : List Stamped
  pub parts : events ≡ prefix ++ next ∷ afterwards
  pub run : HasRunBy authority policies prefix core
  pub full : LacksRoom next.event core

abbrev pub HasRun : Ran → List ℕ → List PolicySeen → List Stamped → CoreSeen → Type 0
HasRun ran.Whole authority policies events core = HasRunBy authority policies events core
HasRun ran.Full authority policies events core = HasFilled authority policies events core
