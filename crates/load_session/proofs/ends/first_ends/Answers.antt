use Rattle.std.proofs.Common.{◌∙◌, ◌+◌, List, ap, map, sym, take}
use Rattle.std.specs.List.{range_with_len}
use Rattle.grpc_base.specs.declared.event.Entry.{Entry}
use Rattle.load_session.specs.Sums.{first_end}
use Rattle.load_session.proofs.Noting.{entries_more, noted_more}
use Rattle.load_session.proofs.ends.first_ends.Goals as goal

pub loop-entry-preserved : goal.loop-entry-preserved
loop-entry-preserved c =
    c.note_entry.ensures
    ∙ noted_more (take c.loop-entry.entry-index c.args.entries.now) c.entry-item.result (c.args.calls + 1) c.loop-entry.ends.items c.loop-entry.invariant
    ∙ ap (λ (xs : List Entry). map (first_end xs) (range_with_len 0 (c.args.calls + 1)))
    (sym (entries_more c.args.entries.now c.loop-entry.entry-index c.entry-item.result c.loop-entry-test.true c.entry-item.is))
