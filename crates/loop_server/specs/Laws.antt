-- Which answers the requests of a script get, in the order in which they end.
use Rattle.std.specs.Prelude.{ℕ, ◌+◌, if◌then◌else◌, List, [], ◌∷◌}
use Rattle.std.specs.Str.{bytes_eq}
use Rattle.grpc_base.specs.declared.script.AnswerPart.{AnswerPart}
use Rattle.grpc_base.specs.declared.script.ServerScript.{ServerScript}
use Rattle.loop_server.specs.Script.{all_lines, parts_at}
use Rattle.loop_server.specs.Server.{Book}
use Rattle.loop_server.specs.Steps.{chosen}

abbrev pub new_book : ServerScript → Book
new_book script = record { lines = all_lines script; cursors = [] }

-- the book after requests of these paths
abbrev pub book_after : Book → List (List ℕ) → Book
book_after b [] = b
book_after b (p ∷ paths) = book_after (chosen b p).book paths

-- what the next request gets then
abbrev pub next_parts : Book → List ℕ → List AnswerPart
next_parts b path = parts_at b.lines (chosen b path).place

-- how many of them are of a path
abbrev pub count_of : List ℕ → List (List ℕ) → ℕ
count_of path [] = 0
count_of path (p ∷ paths) = if bytes_eq p path then count_of path paths + 1 else count_of path paths
