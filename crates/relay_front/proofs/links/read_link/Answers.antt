use Rattle.std.proofs.Common.{arith}
use Rattle.live_pump.specs.Pumps.{InSeen}
use Rattle.relay_front.proofs.ReadLaws.{Report, reads_got, reads_quiet}
use Rattle.relay_front.proofs.links.read_link.Goals as goal

pub returns-in-Got-clause-reads : goal.returns-in-Got-clause-reads
returns-in-Got-clause-reads g c =
    let seen : g.row.I.Denot → InSeen = λ i. record { left = g.I.LinkIn.left i; faults = g.I.LinkIn.faults i; quiet = g.I.LinkIn.quiet i } in
    let since : Report (seen c.args.input.now) (seen c.wait_at_most.new.self) = record { left = c.wait_at_most.ensures.bytes; faults = c.wait_at_most.ensures.faults; quiet = c.wait_at_most.ensures.quiet } in
    reads_got (seen c.args.input.now) (seen c.wait_at_most.new.self) (seen c.read.new.self) c.in-Got.count _ since c.in-Got.ensures.bytes.0 (omega (arith, c.in-Got.ensures.bytes.1)) (omega arith) c.in-Got.ensures.bytes.2 c.in-Got.ensures.faults c.in-Got.ensures.quiet

pub returns-in-Quiet-clause-reads : goal.returns-in-Quiet-clause-reads
returns-in-Quiet-clause-reads g c =
    let seen : g.row.I.Denot → InSeen = λ i. record { left = g.I.LinkIn.left i; faults = g.I.LinkIn.faults i; quiet = g.I.LinkIn.quiet i } in
    let since : Report (seen c.args.input.now) (seen c.wait_at_most.new.self) = record { left = c.wait_at_most.ensures.bytes; faults = c.wait_at_most.ensures.faults; quiet = c.wait_at_most.ensures.quiet } in
    reads_quiet (seen c.args.input.now) (seen c.wait_at_most.new.self) (seen c.read.new.self) c.read.new.buf since c.in-Quiet.ensures.bytes c.in-Quiet.ensures.faults c.in-Quiet.ensures.quiet
