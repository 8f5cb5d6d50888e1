-- What each call of a load asks, and what the scripted server answers.
use Rattle.std.specs.Prelude.{ℕ, ◌+◌, ◌==◌, if◌then◌else◌, None, List, [], ◌∷◌, ◌++◌, codes, map}
use Rattle.std.specs.List.{range_with_len}
use Rattle.grpc_base.specs.declared.script.AnswerLine.{AnswerLine}
use Rattle.grpc_base.specs.declared.script.AnswerPart.{AnswerPart}
use Rattle.grpc_base.specs.declared.script.AnswerPart.TheVariants as part
use Rattle.grpc_base.specs.declared.script.ServerScript.{ServerScript}
use Rattle.grpc_base.specs.Backoff.{draw, nth_word}
use Rattle.grpc_base.specs.Requests.{RequestSeen}

-- the path of each call
abbrev pub load_path : List ℕ
load_path = codes "/load.S/M"

-- the request of each call
abbrev pub request : RequestSeen
request = record { path = load_path; meta = []; wait = None; timeout = None }

-- a response of one message, and OK
abbrev pub good_parts : List AnswerPart
good_parts = part.Head ∷ part.Message (codes "ok") ∷ part.Status 0 ∷ []

-- what a number from 0 to 3 answers: UNAVAILABLE, a reset that says REFUSED_STREAM, or a good response
abbrev pub drawn_parts : ℕ → List AnswerPart
drawn_parts number =
    if number == 0 then part.Status 14 ∷ []
    else if number == 1 then part.Reset 7 ∷ []
    else good_parts

-- the n-th answer
abbrev pub answer : ℕ → List AnswerPart → AnswerLine
answer n parts = record { path = load_path; n = n; parts = parts }

-- the answer to the n-th request by the seed's word of n
abbrev pub drawn_answer : ℕ → ℕ → AnswerLine
drawn_answer seed n = answer n (drawn_parts (draw (nth_word seed n) 3))

-- the script of the server: an answer for each call, and a good one after these
abbrev pub server_script : ℕ → ℕ → ServerScript
server_script seed calls = record { answers = map (drawn_answer seed) (range_with_len 1 calls) ++ answer (calls + 1) good_parts ∷ [] }
