use Rattle.std.proofs.Common.{◌≡◌, ◌∙◌, None, suc, ◌+◌, ◌++◌, map, take, drop, set, get_or, ap, arith}
use Rattle.call_core.specs.Parts.{linked}
use Rattle.call_core.specs.declared.live.LiveRow.{LiveRow}
use Rattle.call_core.proofs.Rows.{linked_more}
use Rattle.call_core.proofs.live.link_all.Goals as goal

pub loop-index-preserved : goal.loop-index-preserved
loop-index-preserved c =
    let f : LiveRow → LiveRow = linked c.args.place c.args.link in
    let d : LiveRow = record { place = 0; number = 0; link = None } in
    let i = c.loop-index.index in
    let next : suc i ≡ i + 1 = omega arith in
    ap (set c.loop-index.live i) c.linked.ensures ∙ ap (λ l. set l i (f (get_or l i d))) c.loop-index.invariant
    ∙ linked_more f c.args.live.now i d c.loop-index-test.true ∙ ap (λ n. map f (take n c.args.live.now) ++ drop n c.args.live.now) next
