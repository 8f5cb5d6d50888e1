use Rattle.std.proofs.Common.{refl}
use Rattle.live_pump.specs.Pumps.{OutSeen}
use Rattle.live_pump.specs.declared.dial.DialTurn.TheVariants as turn
use Rattle.live_pump.proofs.RunLaws.{keeps_idle, same_tender}
use Rattle.live_pump.proofs.rounds.dial_part.Goals as goal

pub returns-in-Ok-clause-dialled : goal.returns-in-Ok-clause-dialled
returns-in-Ok-clause-dialled g c = record {
  view = c.in-Opened.ensures.posted.0;
  came = turn.Opened c.in-Opened.link c.in-Opened.input c.in-Opened.output;
  looks = c.in-Opened.ensures.posted.1;
  dials = c.in-Opened.ensures.posted.2;
  keeps = c.in-Ok.ensures.kept;
  turns = same_tender _ _ _ _ c.keep_link.ensures.turns.0 c.keep_link.ensures.turns.1;
}

pub returns-in-Err-clause-dialled : goal.returns-in-Err-clause-dialled
returns-in-Err-clause-dialled g c = record {
  view = c.in-Opened.ensures.posted.0;
  came = turn.Opened c.in-Opened.link c.in-Opened.input c.in-Opened.output;
  looks = c.in-Opened.ensures.posted.1;
  dials = c.in-Opened.ensures.posted.2;
  keeps = (refl, c.in-Err.ensures.unkept);
  turns = same_tender _ _ _ _ c.keep_link.ensures.turns.0 c.keep_link.ensures.turns.1;
}

pub returns-in-Failed-clause-dialled : goal.returns-in-Failed-clause-dialled
returns-in-Failed-clause-dialled g c = record {
  view = c.in-Failed.ensures.posted.0;
  came = turn.Failed c.in-Failed.error;
  looks = c.in-Failed.ensures.posted.1;
  dials = c.in-Failed.ensures.posted.2;
  keeps = (refl, refl);
  turns = refl;
}

pub returns-in-Nothing-clause-dialled : goal.returns-in-Nothing-clause-dialled
returns-in-Nothing-clause-dialled g c =
    let sees : g.row.N-Out.Denot → OutSeen = λ o. record { taken = g.N.Out.LinkOut.taken o; faults = g.N.Out.LinkOut.faults o } in record {
      view = c.dial_once.ensures.posted.0;
      came = c.dial_once.result;
      looks = c.dial_once.ensures.posted.1;
      dials = c.dial_once.ensures.posted.2;
      keeps = keeps_idle sees g.N.Out.LinkOut.closed c.dial_once.result c.args.links.now.items c.in-Nothing.is;
      turns = refl;
    }
