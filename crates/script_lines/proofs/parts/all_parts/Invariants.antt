use Rattle.std.proofs.Common.{◌++◌, ℕ, List, length, false}
use Rattle.std.specs.Option.{option_copied}
use Rattle.grpc_base.specs.declared.script.AnswerPart.{AnswerPart}
use Rattle.grpc_base.specs.Pieces.{pieces, pieces_of_rest}
use Rattle.script_lines.specs.Answers.{AreParts, ArePartsFault}
use Rattle.script_lines.proofs.parts.all_parts.Given as goal

abbrev pub invariant-loop-rest : goal.invariant-loop-rest
invariant-loop-rest l =
    ((ps : List AnswerPart) → AreParts l.ended (pieces_of_rest 44 (option_copied l.rest)) ps → AreParts false (pieces 44 l.fn.text) (l.parts ++ ps))
    × ((c : ℕ) → ArePartsFault l.ended (pieces_of_rest 44 (option_copied l.rest)) c → ArePartsFault false (pieces 44 l.fn.text) c)

abbrev pub decreases-loop-rest : goal.decreases-loop-rest
decreases-loop-rest l = length (pieces_of_rest 44 (option_copied l.rest))
