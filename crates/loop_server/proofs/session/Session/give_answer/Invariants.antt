use Rattle.std.proofs.Common.{◌≡◌, drop}
use Rattle.loop_server.specs.Drains.{Giving, first_move}
use Rattle.loop_server.proofs.session.Session.give_answer.Given as goal

abbrev pub invariant-loop-place : goal.invariant-loop-place
invariant-loop-place l = record {
  same : ◌≡◌ {A = Giving} (record { session = l.self; answered = l.answered; octets = l.out.items }) (record { session = l.fn.self; answered = l.fn.answered; octets = l.fn.out.items });
  first : first_move l.lines l.fn.answered l.fn.self.link.wire l.place (drop l.place l.fn.self.turns) ≡ first_move l.lines l.fn.answered l.fn.self.link.wire 0 l.fn.self.turns;
}
