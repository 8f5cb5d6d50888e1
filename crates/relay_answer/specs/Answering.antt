-- What one stream of a relay has to send.
use Rattle.std.specs.Prelude.{ℕ, ◌+◌, ◌==◌, ◌&&◌, Bool, true, false, nat_lt, if◌then◌else◌, max, Option, Some, None, List, [], ◌∷◌, ◌++◌, length, drop}
use Rattle.grpc_base.specs.Limits.{message_limit}
use Rattle.grpc_base.specs.declared.code.Code.{Code}
use Rattle.grpc_base.specs.declared.fields.Field.{Field}
use Rattle.grpc_frame.specs.Messages.{framed}
use Rattle.h2_server.specs.declared.share.Share.{Share}
use Rattle.h2_server.specs.Sends.{share_of}
use Rattle.h2_server.specs.Wire.{Wire}
use Rattle.relay_answer.specs.declared.parts.Part.{Part}
use Rattle.relay_response.specs.Blocks.{end_block, head_block}

-- what was given for a stream and was not sent
pub record Answering : Type 0 where
  -- whether a head was given
  pub headed : Bool
  -- header blocks, each with the bytes of messages that go before it
  pub parts : List Part
  -- the bytes of messages after them
  pub text : List ℕ

abbrev pub fresh : Answering
fresh = record { headed = false; parts = []; text = [] }

-- a header block goes after all that waits
abbrev pub with_block : Answering → List ℕ → Bool → Answering
with_block a block ends =
    record a { parts = a.parts ++ record { text = a.text; block = block; ends = ends } ∷ []; text = [] }

-- the head of the response
abbrev pub head_given : Answering → List Field → Answering
head_given a meta = with_block (record a { headed = true }) (head_block meta) false

-- a message as it is framed; one that is too long is left out
abbrev pub message_text : List ℕ → List ℕ
message_text message = if nat_lt message_limit (length message) then [] else framed message

abbrev pub message_given : Answering → List ℕ → Answering
message_given a message = record a { text = a.text ++ message_text message }

-- the end: trailers, or the whole response where no head was given
abbrev pub end_given : Answering → Code → List ℕ → List Field → Answering
end_given a code text meta = with_block a (end_block a.headed code text meta) true

-- whether nothing waits
abbrev pub is_sent : Answering → Bool
is_sent a = (length a.parts == 0) && (length a.text == 0)

-- how many bytes a share takes
abbrev pub taken : Option Share → ℕ
taken None = 0
taken (Some share) = share.len

-- the room for which a frame is tested: nine bytes of its header and those of its payload, at least the 17 that the longest
-- frame has which no window holds back. A header block may begin with an update of the table's size
abbrev pub text_room : Option Share → Option ℕ
text_room None = None
text_room (Some share) = Some (max (9 + share.len) 17)

abbrev pub block_room : List ℕ → ℕ
block_room block = max (10 + length block) 17

abbrev pub room_by : Wire → ℕ → List ℕ → List Part → Option ℕ
room_by w stream text [] = text_room (share_of w stream (length text) false)
room_by w stream text (p ∷ parts) =
    if length p.text == 0 then Some (block_room p.block) else text_room (share_of w stream (length p.text) false)

-- of the next frame of a stream; none where nothing may be sent
abbrev pub room_of : Wire → ℕ → Answering → Option ℕ
room_of w stream a = room_by w stream a.text a.parts

-- the bytes before the first block, and the parts with so many of them less
abbrev pub first_text : List Part → List ℕ
first_text [] = []
first_text (p ∷ parts) = p.text

abbrev pub first_sent : ℕ → List Part → List Part
first_sent count [] = []
first_sent count (p ∷ parts) = record p { text = drop count p.text } ∷ parts
