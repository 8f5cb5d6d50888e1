use Rattle.std.proofs.Common.{◌∷◌, ◌∙◌, ap, refl}
use Rattle.std.specs.Option.{option_copied}
use Rattle.grpc_base.specs.Pieces.{pieces, pieces_of_rest}
use Rattle.grpc_base.specs.Hosts.{IsLabel}
use Rattle.grpc_base.proofs.HostLaws.{more_decided}
use Rattle.grpc_base.proofs.host.+are_labels.Goals as goal

-- the first piece is a label, and those after it are tested
pub returns-then-is_label : goal.returns-then-is_label
returns-then-is_label t c =
    more_decided IsLabel (pieces 46 c.args.text.now) c.first_piece.result.0.now (pieces 46 c.in-Some.rest.now) c.are_labels.result
    (c.first_piece.ensures.pieces ∙ ap (λ o. c.first_piece.result.0.now ∷ pieces_of_rest 46 (option_copied o)) c.in-Some.is)
    (c.if-is_label.ensures.0 refl) c.are_labels.ensures
