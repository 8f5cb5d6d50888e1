use Rattle.event_cases.proofs.GenerationStamps.Along.{generations_along}
use Rattle.event_cases.proofs.generation_stamps.generations_go_along.Goals as goal

pub returns : goal.returns
returns c = generations_along
