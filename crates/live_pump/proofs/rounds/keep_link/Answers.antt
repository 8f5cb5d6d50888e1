use Rattle.std.proofs.Common.{inr, subst}
use Rattle.live_pump.specs.Pumps.{OutSeen}
use Rattle.live_pump.specs.Runs.{Closes}
use Rattle.live_pump.specs.declared.link_turn.OpenLink.{OpenLink}
use Rattle.live_pump.proofs.rounds.keep_link.Goals as goal

pub returns-in-Err-clause-unkept : goal.returns-in-Err-clause-unkept
returns-in-Err-clause-unkept g c =
    let sees : g.row.O.Denot → OutSeen = λ o. record { taken = g.O.LinkOut.taken o; faults = g.O.LinkOut.faults o } in
    inr (c.in-Err.ensures.items, c.close_link.new.kept, subst (λ (k : OpenLink g.row.I.Denot g.row.O.Denot). Closes sees g.O.LinkOut.closed k c.close_link.new.kept) c.in-Err.ensures.value_returned c.close_link.ensures)
