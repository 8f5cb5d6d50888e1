use Rattle.run_cases.proofs.SettlingParts.Parts.{making_stands, queue_stands, rounds_stand, settlings_stand}
use Rattle.run_cases.proofs.settling_parts.settlings_stand.Goals as goal

pub returns-clause-making : goal.returns-clause-making
returns-clause-making c = making_stands c.rounds_make.ensures c.makes_by_cases.ensures

pub returns-clause-queue : goal.returns-clause-queue
returns-clause-queue c = queue_stands c.passes_are_serves.ensures c.passes_stop.ensures c.passes_are_short.ensures c.serves_by_answers.ensures

pub returns-clause-rounds : goal.returns-clause-rounds
returns-clause-rounds c =
    rounds_stand c.settlings_keep.ensures c.rounds_are_short.ensures (making_stands c.rounds_make.ensures c.makes_by_cases.ensures)
    (queue_stands c.passes_are_serves.ensures c.passes_stop.ensures c.passes_are_short.ensures c.serves_by_answers.ensures) c.serves_by_answers.ensures

pub returns-clause-settling : goal.returns-clause-settling
returns-clause-settling c =
    let making = making_stands c.rounds_make.ensures c.makes_by_cases.ensures in
    let queue = queue_stands c.passes_are_serves.ensures c.passes_stop.ensures c.passes_are_short.ensures c.serves_by_answers.ensures in
    settlings_stand c.settlings_keep.ensures c.settlings_are_steps.ensures.settling c.config_steps_are_done.ensures making queue
    (rounds_stand c.settlings_keep.ensures c.rounds_are_short.ensures making queue c.serves_by_answers.ensures)
