use Rattle.attempt_ledger.proofs.LowestLaws.{breaks-hedging, breaks-none, breaks-numbering, breaks-retries, breaks-throttling, breaks-transparent, broken, kept, not-numbered, numbered}
use Rattle.attempt_ledger.proofs.check.lowest_broken.Goals as goal

pub returns-then-not-keeps_numbering-clause-some : goal.returns-then-not-keeps_numbering-clause-some
returns-then-not-keeps_numbering-clause-some c =
    breaks-numbering c.args.chosen.now c.args.rows.now c.args.before.now c.args.row.now c.args.after.now
    (not-numbered c.args.chosen.now c.args.count c.args.before.now c.args.row.now c.requires (broken c.keeps_numbering.result c.if-not-keeps_numbering.true c.keeps_numbering.ensures))

pub returns-then-not-keeps_retries-clause-some : goal.returns-then-not-keeps_retries-clause-some
returns-then-not-keeps_retries-clause-some c =
    breaks-retries c.args.chosen.now c.args.rows.now c.args.before.now c.args.row.now c.args.after.now
    (numbered c.args.chosen.now c.args.count c.args.before.now c.args.row.now c.requires (kept c.keeps_numbering.result c.if-not-keeps_numbering.false c.keeps_numbering.ensures))
    (broken c.keeps_retries.result c.if-not-keeps_retries.true c.keeps_retries.ensures)

pub returns-then-not-keeps_hedging-clause-some : goal.returns-then-not-keeps_hedging-clause-some
returns-then-not-keeps_hedging-clause-some c =
    breaks-hedging c.args.chosen.now c.args.rows.now c.args.before.now c.args.row.now c.args.after.now
    (numbered c.args.chosen.now c.args.count c.args.before.now c.args.row.now c.requires (kept c.keeps_numbering.result c.if-not-keeps_numbering.false c.keeps_numbering.ensures))
    (kept c.keeps_retries.result c.if-not-keeps_retries.false c.keeps_retries.ensures)
    (broken c.keeps_hedging.result c.if-not-keeps_hedging.true c.keeps_hedging.ensures)

pub returns-then-not-keeps_transparent-clause-some : goal.returns-then-not-keeps_transparent-clause-some
returns-then-not-keeps_transparent-clause-some c =
    breaks-transparent c.args.chosen.now c.args.rows.now c.args.before.now c.args.row.now c.args.after.now
    (numbered c.args.chosen.now c.args.count c.args.before.now c.args.row.now c.requires (kept c.keeps_numbering.result c.if-not-keeps_numbering.false c.keeps_numbering.ensures))
    (kept c.keeps_retries.result c.if-not-keeps_retries.false c.keeps_retries.ensures)
    (kept c.keeps_hedging.result c.if-not-keeps_hedging.false c.keeps_hedging.ensures)
    (broken c.keeps_transparent.result c.if-not-keeps_transparent.true c.keeps_transparent.ensures)

pub returns-then-not-keeps_throttling-clause-some : goal.returns-then-not-keeps_throttling-clause-some
returns-then-not-keeps_throttling-clause-some c =
    breaks-throttling c.args.chosen.now c.args.rows.now c.args.before.now c.args.row.now c.args.after.now
    (numbered c.args.chosen.now c.args.count c.args.before.now c.args.row.now c.requires (kept c.keeps_numbering.result c.if-not-keeps_numbering.false c.keeps_numbering.ensures))
    (kept c.keeps_retries.result c.if-not-keeps_retries.false c.keeps_retries.ensures)
    (kept c.keeps_hedging.result c.if-not-keeps_hedging.false c.keeps_hedging.ensures)
    (kept c.keeps_transparent.result c.if-not-keeps_transparent.false c.keeps_transparent.ensures)
    (broken c.keeps_throttling.result c.if-not-keeps_throttling.true c.keeps_throttling.ensures)

pub returns-clause-none : goal.returns-clause-none
returns-clause-none c =
    breaks-none c.args.chosen.now c.args.rows.now c.args.before.now c.args.row.now c.args.after.now
    (numbered c.args.chosen.now c.args.count c.args.before.now c.args.row.now c.requires (kept c.keeps_numbering.result c.if-not-keeps_numbering.false c.keeps_numbering.ensures))
    (kept c.keeps_retries.result c.if-not-keeps_retries.false c.keeps_retries.ensures)
    (kept c.keeps_hedging.result c.if-not-keeps_hedging.false c.keeps_hedging.ensures)
    (kept c.keeps_transparent.result c.if-not-keeps_transparent.false c.keeps_transparent.ensures)
    (kept c.keeps_throttling.result c.if-not-keeps_throttling.false c.keeps_throttling.ensures)
