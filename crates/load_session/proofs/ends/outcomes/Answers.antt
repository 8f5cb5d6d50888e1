use Rattle.std.proofs.Common.{◌∙◌, ap}
use Rattle.std.specs.List.{count_by}
use Rattle.load_session.specs.Sums.{first_end, has_outcome}
use Rattle.load_session.specs.declared.ends.Outcome.TheVariants as outcome
use Rattle.load_session.proofs.Noting.{are_few, after_the_first}
use Rattle.load_session.proofs.ends.outcomes.Goals as goal

pub count-requires : goal.count-requires
count-requires c =
    are_few (first_end c.args.entries.now) c.args.calls c.after_the_first-ends.result.now
    (after_the_first (first_end c.args.entries.now) c.args.calls c.as_slice.result.now c.after_the_first-ends.result.now (c.as_slice.ensures.value ∙ c.in_ok-ends.ensures) c.after_the_first-ends.ensures)
    c.requires

pub count-requires-2 : goal.count-requires-2
count-requires-2 c =
    are_few (first_end c.args.entries.now) c.args.calls c.after_the_first-ends.result.now
    (after_the_first (first_end c.args.entries.now) c.args.calls c.as_slice.result.now c.after_the_first-ends.result.now (c.as_slice.ensures.value ∙ c.in_ok-ends.ensures) c.after_the_first-ends.ensures)
    c.requires

pub count-requires-3 : goal.count-requires-3
count-requires-3 c =
    are_few (first_end c.args.entries.now) c.args.calls c.after_the_first-ends.result.now
    (after_the_first (first_end c.args.entries.now) c.args.calls c.as_slice.result.now c.after_the_first-ends.result.now (c.as_slice.ensures.value ∙ c.in_ok-ends.ensures) c.after_the_first-ends.ensures)
    c.requires

pub returns-clause-well : goal.returns-clause-well
returns-clause-well c =
    c.count.ensures
    ∙ ap (count_by (has_outcome outcome.Well)) (after_the_first (first_end c.args.entries.now) c.args.calls c.as_slice.result.now c.after_the_first-ends.result.now (c.as_slice.ensures.value ∙ c.in_ok-ends.ensures) c.after_the_first-ends.ensures)

pub returns-clause-failed : goal.returns-clause-failed
returns-clause-failed c =
    c.count-2.ensures
    ∙ ap (count_by (has_outcome outcome.Failed)) (after_the_first (first_end c.args.entries.now) c.args.calls c.as_slice.result.now c.after_the_first-ends.result.now (c.as_slice.ensures.value ∙ c.in_ok-ends.ensures) c.after_the_first-ends.ensures)

pub returns-clause-unended : goal.returns-clause-unended
returns-clause-unended c =
    c.count-3.ensures
    ∙ ap (count_by (has_outcome outcome.Open)) (after_the_first (first_end c.args.entries.now) c.args.calls c.as_slice.result.now c.after_the_first-ends.result.now (c.as_slice.ensures.value ∙ c.in_ok-ends.ensures) c.after_the_first-ends.ensures)
