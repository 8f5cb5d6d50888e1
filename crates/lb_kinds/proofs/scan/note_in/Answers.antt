use Rattle.lb_kinds.specs.Seen.{noted_mark}
use Rattle.lb_kinds.proofs.ScanLaws.{changed-more}
use Rattle.lb_kinds.proofs.scan.note_in.Goals as goal

pub loop-marked-preserved : goal.loop-marked-preserved
loop-marked-preserved c =
    changed-more (noted_mark c.args.sub c.args.state) c.args.subs.now c.loop-marked.subs c.loop-marked.marked-index _ c.noted_one.result c.loop-marked.invariant c.loop-marked-test.true c.noted_one.ensures
