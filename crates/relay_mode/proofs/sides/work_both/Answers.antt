use Rattle.std.proofs.Common.{◌≡◌, rules, subst, sym}
use Rattle.relay_mode.specs.Sides.{ChangesTwo}
use Rattle.relay_mode.proofs.sides.work_both.Goals as goal

pub returns-clause-first : goal.returns-clause-first
returns-clause-first g c =
    let x : c.first-1.given.0 ≡ c.join_mut-done.new.f.1.now = search rules in
    let y : c.at-1.given.0 ≡ c.join_mut-done.new.f.2.now = search rules in
    let did : ChangesTwo {F = g.row.F.Denot} {A = g.row.A.Denot} {L = g.row.L.Denot} g.F.Fn c.args.work.now c.args.first.now c.args.at.now c.join_mut-done.new.f.1.now c.join_mut-done.new.f.2.now c.join_mut-done.result.0 = search rules in
    subst (λ v. ChangesTwo {F = g.row.F.Denot} {A = g.row.A.Denot} {L = g.row.L.Denot} g.F.Fn c.args.work.now c.args.first.now c.args.at.now v c.at-1.given.0 c.join_mut-done.result.0) (sym x)
    (subst (λ w. ChangesTwo {F = g.row.F.Denot} {A = g.row.A.Denot} {L = g.row.L.Denot} g.F.Fn c.args.work.now c.args.first.now c.args.at.now c.join_mut-done.new.f.1.now w c.join_mut-done.result.0) (sym y) did)
