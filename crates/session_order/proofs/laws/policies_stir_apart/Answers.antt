use Rattle.session_order.proofs.Apart.{begins_apart, given_apart, over_apart, retires_apart, shut_apart}
use Rattle.session_order.proofs.laws.policies_stir_apart.Goals as goal

pub returns : goal.returns
returns c = record { begins = begins_apart; given = given_apart; over = over_apart; retired = retires_apart; shut = shut_apart }
