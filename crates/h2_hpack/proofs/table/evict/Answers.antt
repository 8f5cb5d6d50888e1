use Rattle.std.proofs.Common.{sym, ◌∙◌, arith}
use Rattle.h2_hpack.proofs.TableLemmas.{fitting-all, last_size, evicted_one}
use Rattle.h2_hpack.proofs.table.evict.Goals as goal

pub size_taken-size-requires : goal.size_taken-size-requires
size_taken-size-requires c =
    omega (arith, last_size _ _ _ _ c.loop-size.invariant.size_is c.in-Some.ensures.items, c.loop-size.auto.size-fits)

pub overflow_sub-size : goal.overflow_sub-size
overflow_sub-size c =
    omega (arith, last_size _ _ _ _ c.loop-size.invariant.size_is c.in-Some.ensures.items, c.size_taken-size.ensures)

pub loop-size-preserved : goal.loop-size-preserved
loop-size-preserved c = record {
  size_is = omega (arith, last_size _ _ _ _ c.loop-size.invariant.size_is c.in-Some.ensures.items, c.size_taken-size.ensures);
  kept = evicted_one c.args.room _ _ _ _ _ c.loop-size.invariant.size_is c.in-Some.ensures.items c.loop-size-test.true c.loop-size.invariant.kept;
}

pub returns-clause-kept : goal.returns-clause-kept
returns-clause-kept c = sym (fitting-all c.args.room c.loop-size.entries.items (omega (arith, c.loop-size.invariant.size_is, c.loop-size-test.false))) ∙ c.loop-size.invariant.kept
