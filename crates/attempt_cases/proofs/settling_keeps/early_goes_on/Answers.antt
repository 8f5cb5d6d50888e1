use Rattle.attempt_cases.proofs.settling_keeps.early_goes_on.Goals as goal

pub returns : goal.returns
returns c = c.calls_are_kept.ensures.along
