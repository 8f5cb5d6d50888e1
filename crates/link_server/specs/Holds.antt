-- Answers that wait until others were given.
use Rattle.std.specs.Prelude.{Bool, true, false}
use Rattle.std.specs.List.{list_any}
use Rattle.grpc_base.specs.declared.script.AnswerLine.{AnswerLine}
use Rattle.grpc_base.specs.declared.script.AnswerPart.{AnswerPart}
use Rattle.grpc_base.specs.declared.script.AnswerPart.TheVariants as part

abbrev pub is_hold : AnswerPart → Bool
is_hold (part.Hold count) = true
is_hold _ = false

abbrev pub holds_line : AnswerLine → Bool
holds_line line = list_any is_hold line.parts
