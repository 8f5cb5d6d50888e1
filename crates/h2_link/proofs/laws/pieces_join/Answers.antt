use Rattle.h2_link.proofs.Cuts.{received_stays, received_goes_on}
use Rattle.h2_link.proofs.laws.pieces_join.Goals as goal

pub returns : goal.returns
returns c = record { stays = received_stays; goes_on = received_goes_on }
