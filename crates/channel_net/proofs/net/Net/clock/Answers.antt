use Rattle.std.proofs.Common.{◌∙◌, sym}
use Rattle.channel_net.specs.Steps.{net_clocked}
use Rattle.channel_net.proofs.RoundLaws.{clock-again, clock-smaller, clock-last}
use Rattle.channel_net.proofs.net.Net.clock.Goals as goal

pub clocks-smaller : goal.clocks-smaller
clocks-smaller g c =
    clock-smaller c.args.moment c.clocks.self c.clock_one.new.self c.clocks.dead c.clock_one.new.dead c.in_ok-clock_one.ensures.after (sym c.in_ok-clock_one.ensures.changed ∙ c.if-branch.true)

pub clocks-preserved : goal.clocks-preserved
clocks-preserved g c =
    clock-again c.args.moment c.clocks.self c.clock_one.new.self c.clocks.dead c.clock_one.new.dead (net_clocked c.args.moment c.args.self.now) c.in_ok-clock_one.ensures.after (sym c.in_ok-clock_one.ensures.changed ∙ c.if-branch.true) c.clocks.invariant

pub returns : goal.returns
returns g c =
    clock-last c.args.moment c.clocks.self c.clock_one.new.self c.clocks.dead c.clock_one.new.dead (net_clocked c.args.moment c.args.self.now) c.in_ok-clock_one.ensures.after (sym c.in_ok-clock_one.ensures.changed ∙ c.if-branch.false) c.clocks.invariant
