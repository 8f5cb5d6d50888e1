-- What goes on a stream, as the client that reads it sees it.
use Rattle.std.specs.Prelude.{ℕ, ◌==◌, Bool, true, false, if◌then◌else◌, List, [], ◌∷◌, ◌++◌, length, take, map}
use Rattle.grpc_base.specs.declared.code.Code.{Code}
use Rattle.grpc_base.specs.declared.fields.Field.{Field}
use Rattle.h2_server.specs.Sends.{share_of}
use Rattle.h2_server.specs.Wire.{Wire}
use Rattle.relay_answer.specs.Answering.{Answering, end_given, head_given, message_given, message_text, taken}
use Rattle.relay_answer.specs.Moves.{moved}
use Rattle.relay_answer.specs.declared.parts.Part.{Part}
use Rattle.relay_response.specs.Blocks.{end_block, head_block}

-- a byte of DATA, or a header block without or with END_STREAM
pub data Piece : Type 0 where
  Byte : ℕ → Piece
  Block : List ℕ → Bool → Piece

-- what is given for a stream
pub data Item : Type 0 where
  Head : List Field → Item
  Message : List ℕ → Item
  End : Code → List ℕ → List Field → Item

-- what a client gets for these items: a header block for a head and for an end, which is the whole response where no head came
-- before, and the framed bytes of the messages
abbrev pub down : Bool → List Item → List Piece
down headed [] = []
down headed (Head meta ∷ items) = Block (head_block meta) false ∷ down true items
down headed (Message message ∷ items) = map Byte (message_text message) ++ down headed items
down headed (End code text meta ∷ items) = Block (end_block headed code text meta) true ∷ down headed items

-- what a stream has left
abbrev pub parts_left : List Part → List Piece
parts_left [] = []
parts_left (p ∷ parts) = map Byte p.text ++ (Block p.block p.ends ∷ parts_left parts)

abbrev pub left_of : Answering → List Piece
left_of a = parts_left a.parts ++ map Byte a.text

-- what its next frame has
abbrev pub sent_by : Wire → ℕ → Answering → List Part → List Piece
sent_by w stream a [] = map Byte (take (taken (share_of w stream (length a.text) false)) a.text)
sent_by w stream a (p ∷ parts) =
    if length p.text == 0 then Block p.block p.ends ∷ []
    else map Byte (take (taken (share_of w stream (length p.text) false)) p.text)

-- what happens to an answer: an item is given, or a frame is sent on a link
pub data Moment : Type 0 where
  Given : Item → Moment
  Sent : Wire → Moment

abbrev pub item_given : Answering → Item → Answering
item_given a (Head meta) = head_given a meta
item_given a (Message message) = message_given a message
item_given a (End code text meta) = end_given a code text meta

abbrev pub step : ℕ → Answering → Moment → Answering
step stream a (Given item) = item_given a item
step stream a (Sent w) = (moved w stream a).answer

abbrev pub after : ℕ → Answering → List Moment → Answering
after stream a [] = a
after stream a (m ∷ moments) = after stream (step stream a m) moments

abbrev pub given_in : List Moment → List Item
given_in [] = []
given_in (Given item ∷ moments) = item ∷ given_in moments
given_in (Sent w ∷ moments) = given_in moments

abbrev pub sent_in : ℕ → Answering → List Moment → List Piece
sent_in stream a [] = []
sent_in stream a (Given item ∷ moments) = sent_in stream (item_given a item) moments
sent_in stream a (Sent w ∷ moments) = sent_by w stream a a.parts ++ sent_in stream (moved w stream a).answer moments
