use Rattle.std.proofs.Common.{◌≡◌, drop}
use Rattle.call_core.specs.Parts.{count_of}
use Rattle.call_core.specs.Steps.{cut_all, reported_all}
use Rattle.call_core.specs.Turns.{reported}
use Rattle.call_core.proofs.commit.cut_others.Given as goal

abbrev pub invariant-loop-row : goal.invariant-loop-row
invariant-loop-row l = record {
  moment : l.turn.moment ≡ l.fn.turn.moment;
  ledger : cut_all l.kept l.fn.turn.moment (count_of l.tokens) (drop l.row-index l.live) l.ledger ≡ cut_all l.kept l.fn.turn.moment (count_of l.tokens) l.live l.fn.ledger;
  turn : reported (reported_all l.kept (drop l.row-index l.live) l.turn.acts) l.turn ≡ reported (reported_all l.kept l.live l.fn.turn.acts) l.fn.turn;
}
