-- What the answers of a script are, and what a request without an answer gets.
use Rattle.std.specs.Prelude.{ℕ, ◌+◌, ◌-◌, Bool, if◌then◌else◌, Option, Some, None, option_map, unwrap_or, List, [], ◌∷◌, ◌++◌, length, min, filter, slice_get}
use Rattle.std.specs.Str.{bytes_eq}
use Rattle.grpc_base.specs.declared.script.AnswerLine.{AnswerLine}
use Rattle.grpc_base.specs.declared.script.AnswerPart.{AnswerPart}
use Rattle.grpc_base.specs.declared.script.AnswerPart.TheVariants as part
use Rattle.grpc_base.specs.declared.script.ServerScript.{ServerScript}

-- a path without an answer gets UNIMPLEMENTED, 12 (gRPC, "Status codes")
abbrev pub unanswered : AnswerLine
unanswered = record { path = []; n = 1; parts = part.Status 12 ∷ [] }

-- the answers of a script, and after them that one
abbrev pub all_lines : ServerScript → List AnswerLine
all_lines script = script.answers ++ unanswered ∷ []

-- the parts of the answer at a place
abbrev pub parts_of : AnswerLine → List AnswerPart
parts_of line = line.parts

abbrev pub parts_at : List AnswerLine → ℕ → List AnswerPart
parts_at lines place = unwrap_or (option_map parts_of (slice_get lines place)) []

-- the answers of one path, in order
abbrev pub is_of : List ℕ → AnswerLine → Bool
is_of path line = bytes_eq line.path path

-- what the next request of a path gets, of which so many have ended before: each answer once, and the last one again and
-- again
abbrev pub answer_of : ServerScript → List ℕ → ℕ → List AnswerPart
answer_of script path before =
    let lines = filter (is_of path) script.answers in
    unwrap_or (option_map parts_of (slice_get lines (min before (length lines - 1)))) unanswered.parts
