use Rattle.std.proofs.Common.{◌∙◌}
use Rattle.channel_core.proofs.Arriving.{rows_end, rows_first, rows_next, rows_out}
use Rattle.channel_core.proofs.state.State.lose_rows.Goals as goal

pub loop-row-init : goal.loop-row-init
loop-row-init g c = rows_first c.args.link c.args.each c.args.self.now

pub loop-row-preserved : goal.loop-row-preserved
loop-row-preserved g c =
    rows_next c.loop-row._row c.args.link c.in-Some.row c.args.each c.loop-row.last c.loop-row.self c.lose_row.new.self c.loop-row-test.true c.in-Some.ensures c.in_ok-lose_row.ensures
    ∙ c.loop-row.invariant

pub returns-in_default : goal.returns-in_default
returns-in_default g c = rows_end c.loop-row._row c.args.link c.args.each c.loop-row.last c.loop-row.self c.in_default.ensures ∙ c.loop-row.invariant

pub returns : goal.returns
returns g c = rows_out c.loop-row._row c.args.link c.args.each c.loop-row.last c.loop-row.self c.loop-row-test.false ∙ c.loop-row.invariant
