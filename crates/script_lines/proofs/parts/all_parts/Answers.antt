use Rattle.std.proofs.Common.{◌≡◌, ◌∷◌, ap, ◌∙◌}
use Rattle.std.specs.Option.{option_copied}
use Rattle.grpc_base.specs.Pieces.{pieces, pieces_of_rest}
use Rattle.script_lines.proofs.PartLaws.{part_step, parts_done}
use Rattle.script_lines.proofs.parts.all_parts.Goals as goal

pub loop-rest-preserved : goal.loop-rest-preserved
loop-rest-preserved c =
    let is : pieces_of_rest 44 (option_copied c.loop-rest.rest) ≡ c.first_piece.result.0.now ∷ pieces_of_rest 44 (option_copied c.first_piece.result.1) = ap (λ r. pieces_of_rest 44 (option_copied r)) c.in-Some.is ∙ c.first_piece.ensures.pieces in
    part_step (pieces 44 c.args.text.now) c.loop-rest.ended c.ended_by-ended.result c.first_piece.result.0.now _ (pieces_of_rest 44 (option_copied c.first_piece.result.1)) c.loop-rest.parts _ c.in_ok-part.part is c.ended_by-ended.ensures c.in_ok-push.ensures.ok c.in_ok-part.ensures.ok c.loop-rest.invariant

pub returns-clause-ok : goal.returns-clause-ok
returns-clause-ok c = parts_done (pieces 44 c.args.text.now) c.loop-rest.ended _ c.loop-rest.parts (ap (λ r. pieces_of_rest 44 (option_copied r)) c.in_default.is) c.loop-rest.invariant
