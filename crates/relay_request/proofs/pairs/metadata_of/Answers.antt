use Rattle.std.proofs.Common.{◌≡◌, false, Some, None, []}
use Rattle.relay_request.specs.Pairs.{metadata_from, with_pair}
use Rattle.relay_request.proofs.PairLaws.{none_from}
use Rattle.relay_request.proofs.pairs.metadata_of.Goals as goal

pub returns-then-not-branch-clause-meta : goal.returns-then-not-branch-clause-meta
returns-then-not-branch-clause-meta c =
    let past : c.in_ok-push_pair.field-0 ≡ false = c.if-not-branch.true in
    let full : with_pair (Some c.loop-pair.meta) c.pair-item.result ≡ None = rw past at c.in_ok-push_pair.ensures.pushed in
    none_from c.loop-pair.meta c.as_slice-pair-items.result.now c.loop-pair.pair-index c.pair-item.result (metadata_from (Some []) c.args.pairs.now) c.loop-pair-test.true c.pair-item.is full c.loop-pair.invariant.left
