use Rattle.event_cases.proofs.GenerationStamps.Over.{take_overs_stamp_alike}
use Rattle.event_cases.proofs.GenerationStamps.Results.{results_stamp_alike}
use Rattle.event_cases.proofs.generation_stamps.stamps_are_alike.Goals as goal

pub returns-clause-result_taken : goal.returns-clause-result_taken
returns-clause-result_taken c = results_stamp_alike c.laws_of_generations.ensures.kept

pub returns-clause-over : goal.returns-clause-over
returns-clause-over c = take_overs_stamp_alike
