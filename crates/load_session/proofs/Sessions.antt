-- The session of a load from its parts.
use Rattle.std.proofs.Common.{◌≡◌, List, [], true, refl, sym, subst}
use Rattle.std.specs.Global.{Global}
use Rattle.std.specs.Prelude.{IfOk, Result, Ok, Err}
use Rattle.attempt_ledger.specs.declared.journal.Journal.{Journal}
use Rattle.attempt_ledger.specs.declared.ledger.Ledger.{Ledger}
use Rattle.lb_policy.specs.Table.{PolicySeen}
use Rattle.policy_rack.specs.Kinds.{are_ready}
use Rattle.channel_core.specs.Core.{CoreSeen, IsNewBy, ledger_in}
use Rattle.journal_room.proofs.RunLaws.{new_has_run}
use Rattle.loop_server.specs.Script.{all_lines}
use Rattle.loop_server.specs.Server.{Core, new_core}
use Rattle.load_plan.specs.Answers.{server_script}
use Rattle.load_plan.specs.Plan.{actions_of, authority}
use Rattle.load_plan.specs.declared.load.Load.{Load}
use Rattle.load_plan.specs.declared.summary.LoadSummary.{LoadSummary}
use Rattle.load_session.specs.Playing.{Plays, Sides}
use Rattle.load_session.specs.Session.{Begins, GetsFull, IsSession, SumsUp}
use Rattle.load_session.specs.Steps.{StopsFrom, SumsFrom}
use Rattle.load_session.specs.declared.fault.LoadFault.{LoadFault}
use Rattle.load_session.proofs.Ran.{Ran, ran_plays}

pub begins : (load : Load) (policies : List PolicySeen) (alloc : Global) (core : CoreSeen) (server : Core) → IsNewBy alloc authority policies core → server ≡ new_core (all_lines (server_script load.seed load.calls)) → Begins load policies (record { channel = core; server = server })
begins load policies alloc core server is_new by = record { alloc = alloc; channel = is_new; server = by }

pub session : (load : Load) (policies : List PolicySeen) (start end : Sides) → are_ready policies ≡ true → Begins load policies start → Plays (actions_of load.seed load.calls) start end → IsSession load policies end.channel.journal (ledger_in end.channel)
session load policies start end ready begins plays =
    let ran : Ran start.channel end.channel = ran_plays (actions_of load.seed load.calls) start end plays in
    record {
      start = start;
      end = end;
      begins = begins;
      plays = plays;
      events = ran.more;
      run = ran.goes_on authority policies [] (new_has_run begins.alloc authority policies start.channel begins.channel ready);
      journal_is = refl;
      ledger_is = refl;
    }

pub sums_up : (load : Load) (policies : List PolicySeen) (alloc : Global) (old : CoreSeen) (summary : LoadSummary) → are_ready policies ≡ true → IsNewBy alloc authority policies old → SumsFrom load old summary → SumsUp load policies summary
sums_up load policies alloc old summary ready is_new sums =
    let start : Sides = record { channel = old; server = sums.plays.begun } in
    let end : Sides = record { channel = sums.new; server = sums.plays.server } in
    let whole : IsSession load policies sums.new.journal (ledger_in sums.new) = session load policies start end ready (begins load policies alloc old sums.plays.begun is_new sums.plays.new_server) sums.plays.plays in
    record {
      journal = sums.journal;
      ledger = sums.ledger;
      session = subst (λ (x : Journal). IsSession load policies x sums.ledger) (sym sums.journal_is) (subst (λ (x : Ledger). IsSession load policies sums.new.journal x) (sym sums.ledger_is) whole);
      sums = sums.sums;
    }

pub gets_full : (load : Load) (policies : List PolicySeen) (alloc : Global) (old : CoreSeen) → IsNewBy alloc authority policies old → StopsFrom load old → GetsFull load policies
gets_full load policies alloc old is_new stops = record {
  start = record { channel = old; server = stops.begun };
  begins = begins load policies alloc old stops.begun is_new stops.new_server;
  stops = stops.stops;
}

pub sums_as : {P Q : LoadSummary → Type 0} → (r : Result LoadSummary LoadFault) → ((s : LoadSummary) → P s → Q s) → IfOk r P → IfOk r Q
sums_as (Ok summary) more holds = more summary holds
sums_as (Err e) more holds = tt
