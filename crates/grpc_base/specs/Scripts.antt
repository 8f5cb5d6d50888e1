-- Server scripts as data: what a scripted server answers to which request.
use Rattle.std.specs.Prelude.{◌≡◌, ◌≤◌, ◌<◌, ℕ, ◌+◌, Bool, true, false, not, ◌&&◌, ◌==◌, nat_le, List, length, take, slice_index_or, All}
use Rattle.std.specs.List.{AllPass, after_first, count_by}
use Rattle.std.specs.Str.{bytes_eq}
use Rattle.grpc_base.specs.declared.script.AnswerLine.{AnswerLine}
use Rattle.grpc_base.specs.declared.script.AnswerPart.{AnswerPart}
use Rattle.grpc_base.specs.declared.script.AnswerPart.TheVariants as part
use Rattle.grpc_base.specs.declared.script.ServerScript.{ServerScript}
use Rattle.grpc_base.specs.Limits.{message_limit, pushback_limit}
use Rattle.grpc_base.specs.Requests.{IsPath}

-- a byte of a pushback: visible ASCII but for the comma, which parts the parts
abbrev pub is_pushback_byte : ℕ → Bool
is_pushback_byte b = nat_le 33 b && nat_le b 126 && not (b == 44)

pub record IsPushback (text : List ℕ) : Type 0 where
  pub not_empty : 1 ≤ length text
  pub within : length text ≤ pushback_limit
  pub bytes : AllPass is_pushback_byte text

-- a part within its limit
abbrev pub IsAnswerPart : AnswerPart → Type 0
IsAnswerPart (part.Message message) = length message ≤ message_limit
IsAnswerPart (part.Pushback text) = IsPushback text
IsAnswerPart p = Unit {0}

-- whether a part ends the stream: a status or a reset
abbrev pub ends_stream : AnswerPart → Bool
ends_stream (part.Status code) = true
ends_stream (part.Reset code) = true
ends_stream p = false

abbrev pub is_goaway : AnswerPart → Bool
is_goaway part.Goaway = true
is_goaway p = false

-- an answer: the path of a method, and at least one part; after the one that ends the stream there is only GOAWAY
pub record IsAnswer (answer : AnswerLine) : Type 0 where
  pub path_is : IsPath answer.path
  pub not_empty : 1 ≤ length answer.parts
  pub parts_are : All IsAnswerPart answer.parts
  pub ends_once : AllPass is_goaway (after_first ends_stream answer.parts)

-- how many of these answers are of a path
abbrev pub count_of : List ℕ → List AnswerLine → ℕ
count_of path answers = count_by (λ a. bytes_eq a.path path) answers

-- each answer's number is one more than how many before it are of its path
abbrev pub AnswersAreNumbered : List AnswerLine → Type 0
AnswersAreNumbered answers = (i : ℕ) (d : AnswerLine) → i < length answers → (slice_index_or answers i d).n ≡ count_of (slice_index_or answers i d).path (take i answers) + 1

-- a server script
pub record IsServerScript (script : ServerScript) : Type 0 where
  pub answers_are : All IsAnswer script.answers
  pub numbered : AnswersAreNumbered script.answers
