use Rattle.loop_server.proofs.Turns.{turn_is_answer}
use Rattle.loop_server.proofs.laws.requests_get_their_answers.Goals as goal

pub returns : goal.returns
returns c = turn_is_answer
