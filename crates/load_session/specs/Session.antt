-- The session of a load, and what it comes to.
use Rattle.std.specs.Prelude.{◌≡◌, List}
use Rattle.std.specs.Global.{Global}
use Rattle.grpc_base.specs.declared.event.Stamped.{Stamped}
use Rattle.attempt_ledger.specs.declared.journal.Journal.{Journal}
use Rattle.attempt_ledger.specs.declared.ledger.Ledger.{Ledger}
use Rattle.lb_policy.specs.Table.{PolicySeen}
use Rattle.channel_core.specs.Core.{IsNewBy, ledger_in}
use Rattle.journal_room.specs.Runs.{HasRunBy}
use Rattle.loop_server.specs.Script.{all_lines}
use Rattle.loop_server.specs.Server.{new_core}
use Rattle.load_plan.specs.Answers.{server_script}
use Rattle.load_plan.specs.Plan.{actions_of, authority}
use Rattle.load_plan.specs.declared.load.Load.{Load}
use Rattle.load_plan.specs.declared.summary.LoadSummary.{LoadSummary}
use Rattle.load_session.specs.Playing.{Plays, Sides}
use Rattle.load_session.specs.Stopping.{StopsIn}
use Rattle.load_session.specs.Sums.{summary_of}

-- where a load begins: a new channel with these policies, whose requests have the load's authority, and a new server by its script
pub record Begins (load : Load) (policies : List PolicySeen) (a : Sides) : Type 0 where
  pub alloc : Global
  pub channel : IsNewBy alloc authority policies a.channel
  pub server : a.server ≡ new_core (all_lines (server_script load.seed load.calls))

-- the session of a load: from there its actions were played, one after the other and nothing else, by which the channel was given these
-- events, each where there was room; journal and ledger are those that it has then
pub record IsSession (load : Load) (policies : List PolicySeen) (journal : Journal) (ledger : Ledger) : Type 0 where
  pub start : Sides
  pub end : Sides
  pub begins : Begins load policies start
  pub plays : Plays (actions_of load.seed load.calls) start end
  pub events : List Stamped
  pub run : HasRunBy authority policies events end.channel
  pub journal_is : journal ≡ end.channel.journal
  pub ledger_is : ledger ≡ ledger_in end.channel

-- a summary is that of a session of the load
pub record SumsUp (load : Load) (policies : List PolicySeen) (summary : LoadSummary) : Type 0 where
  pub journal : Journal
  pub ledger : Ledger
  pub session : IsSession load policies journal ledger
  pub sums : summary ≡ summary_of load journal ledger

-- the journal of a load's channel gets full: its actions were played in order, and nothing else, up to one that asks for an event for
-- which the journal has no room
pub record GetsFull (load : Load) (policies : List PolicySeen) : Type 0 where
  pub start : Sides
  pub begins : Begins load policies start
  pub stops : StopsIn (actions_of load.seed load.calls) start
