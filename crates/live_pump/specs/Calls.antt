-- What the worker that makes calls posts for each line: Begin, the Sends, Finish, and Takes up to the end.
use Rattle.std.specs.Prelude.{◌≡◌, ◌⊎◌, ℕ, Bool, true, false, Option, Some, None, List, [], ◌∷◌, ◌++◌, All}
use Rattle.grpc_base.specs.Posts.{AddsEntry}
use Rattle.grpc_base.specs.declared.event.Entry.{Entry}
use Rattle.grpc_base.specs.declared.event.Event.TheVariants as event
use Rattle.grpc_base.specs.declared.event.Reply.{Reply}
use Rattle.grpc_base.specs.declared.event.Reply.TheVariants as reply
use Rattle.grpc_base.specs.declared.script.CallLine.{CallLine}

-- the message of each Send is one entry, in order, whatever its reply
abbrev pub SendsAll : ℕ → List (List ℕ) → List Entry → List Entry → Type 0
SendsAll call [] before after = after ≡ before
SendsAll call (message ∷ messages) before after =
    (next : List Entry) × (r : Reply) × AddsEntry before next (event.Send call message) r × SendsAll call messages next after

-- a reply after which nothing more is taken of a call: its end, or a refusal
abbrev pub ends_takes : Reply → Bool
ends_takes (reply.End code text meta cause) = true
ends_takes (reply.Refused r) = true
ends_takes _ = false

-- an entry that takes what is not the end
pub record IsTake (call : ℕ) (e : Entry) : Type 0 where
  pub event_is : e.event ≡ event.Take call
  pub goes_on : ends_takes e.reply ≡ false

-- takes of a call, up to the one whose reply ends them
pub record TakesAll (call : ℕ) (before after : List Entry) : Type 0 where
  pub takes : List Entry
  pub each : All (IsTake call) takes
  pub r : Reply
  pub ends : ends_takes r ≡ true
  pub last : AddsEntry (before ++ takes) after (event.Take call) r

-- the number of a call that was begun
abbrev pub call_of : Reply → Option ℕ
call_of (reply.Call call) = Some call
call_of _ = None

-- a line whose Begin was refused
pub record IsRefusedLine (line : CallLine) (before after : List Entry) : Type 0 where
  pub r : Reply
  pub refused : call_of r ≡ None
  pub begin : AddsEntry before after (event.Begin line.request) r

-- what follows the Begin of a line: each of its Sends, its Finish, and its Takes up to the end
pub record GoesOn (line : CallLine) (call : ℕ) (before after : List Entry) : Type 0 where
  pub sent : List Entry
  pub finished : List Entry
  pub r : Reply
  pub sends : SendsAll call line.messages before sent
  pub finish : AddsEntry sent finished (event.Finish call) r
  pub takes : TakesAll call finished after

-- a line that was begun with this number
pub record IsWholeLine (line : CallLine) (before after : List Entry) : Type 0 where
  pub call : ℕ
  pub begun : List Entry
  pub r : Reply
  pub number : call_of r ≡ Some call
  pub begin : AddsEntry before begun (event.Begin line.request) r
  pub goes_on : GoesOn line call begun after

abbrev pub MakesLine : CallLine → List Entry → List Entry → Type 0
MakesLine line before after = IsRefusedLine line before after ⊎ IsWholeLine line before after

-- the lines, one after another
abbrev pub MakesLines : List CallLine → List Entry → List Entry → Type 0
MakesLines [] before after = after ≡ before
MakesLines (line ∷ lines) before after = (next : List Entry) × MakesLine line before next × MakesLines lines next after

-- a prefix of these messages was sent
pub record SendsPrefix (call : ℕ) (messages : List (List ℕ)) (before after : List Entry) : Type 0 where
  pub sent : List (List ℕ)
  pub unsent : List (List ℕ)
  pub parts : messages ≡ sent ++ unsent
  pub sends : SendsAll call sent before after

-- takes of a call, none of which ends them
pub record TakesPrefix (call : ℕ) (before after : List Entry) : Type 0 where
  pub takes : List Entry
  pub each : All (IsTake call) takes
  pub made : after ≡ before ++ takes

-- a call whose Sends and Finish were made, and some of its Takes
pub record IsFinished (line : CallLine) (call : ℕ) (before after : List Entry) : Type 0 where
  pub sent : List Entry
  pub finished : List Entry
  pub r : Reply
  pub sends : SendsAll call line.messages before sent
  pub finish : AddsEntry sent finished (event.Finish call) r
  pub takes : TakesPrefix call finished after

-- a prefix of what follows the Begin of a line
abbrev pub GoesOnPrefix : CallLine → ℕ → List Entry → List Entry → Type 0
GoesOnPrefix line call before after = SendsPrefix call line.messages before after ⊎ IsFinished line call before after

-- a line that was begun with this number, and a prefix of what follows
pub record IsBegunLine (line : CallLine) (before after : List Entry) : Type 0 where
  pub call : ℕ
  pub begun : List Entry
  pub r : Reply
  pub number : call_of r ≡ Some call
  pub begin : AddsEntry before begun (event.Begin line.request) r
  pub goes_on : GoesOnPrefix line call begun after

-- a prefix of a line: nothing, or its Begin and a prefix of what follows
abbrev pub LinePrefix : CallLine → List Entry → List Entry → Type 0
LinePrefix line before after = (after ≡ before) ⊎ IsBegunLine line before after

-- a prefix of the lines: some of them whole, and a prefix of the next
pub record LinesPrefix (lines : List CallLine) (before after : List Entry) : Type 0 where
  pub whole : List CallLine
  pub line : CallLine
  pub later : List CallLine
  pub next : List Entry
  pub parts : lines ≡ whole ++ line ∷ later
  pub makes : MakesLines whole before next
  pub prefix : LinePrefix line next after
