use Rattle.grpc_link.proofs.CutLaws.{link_goes_on, link_stays, part_reports_nothing}
use Rattle.grpc_link.proofs.laws.pieces_join.Goals as goal

pub returns : goal.returns
returns c = record { stays = link_stays; goes_on = link_goes_on; nothing = part_reports_nothing }
