use Rattle.std.proofs.Common.{◌≡◌, ◌∙◌, suc, ◌+◌, ◌++◌, map, take, drop, set, get_or, ap, arith}
use Rattle.attempt_buffer.specs.Cursors.{at_spot}
use Rattle.attempt_buffer.specs.declared.cursors.Cursor.{Cursor}
use Rattle.attempt_buffer.proofs.BufferLaws.{moved_more}
use Rattle.attempt_buffer.proofs.cursors.move_cursor.Goals as goal

pub loop-place-preserved : goal.loop-place-preserved
loop-place-preserved c =
    let f : Cursor → Cursor = at_spot c.args.row c.args.spot in
    let d : Cursor = record { row = 0; spot = record { message = 0; offset = 0; taken = 0 } } in
    let i = c.loop-place.place in
    let next : suc i ≡ i + 1 = omega arith in
    ap (set c.loop-place.cursors i) c.moved.ensures ∙ ap (λ l. set l i (f (get_or l i d))) c.loop-place.invariant
    ∙ moved_more f c.args.cursors.now i d c.loop-place-test.true ∙ ap (λ n. map f (take n c.args.cursors.now) ++ drop n c.args.cursors.now) next
