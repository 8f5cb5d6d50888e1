-- One stream of a relay: what it asks, and what it answers.
use Rattle.std.specs.Prelude.{ℕ, ◌==◌, ◌&&◌, Bool, false, not, nat_le, if◌then◌else◌, is_some, Option, Some, None, List, [], ◌∷◌, ◌++◌, slice_set}
use Rattle.std.specs.List.{remove}
use Rattle.grpc_base.specs.declared.code.Code.{Code}
use Rattle.grpc_base.specs.declared.event.Reply.{Reply}
use Rattle.grpc_base.specs.declared.event.Reply.TheVariants as reply
use Rattle.grpc_base.specs.declared.fields.Field.{Field}
use Rattle.h2_server.specs.Wire.{Wire}
use Rattle.relay_answer.specs.Answering.{Answering, end_given, fresh, head_given, is_sent, message_given, room_of}
use Rattle.relay_answer.specs.Moves.{moved}
use Rattle.relay_asks.specs.Asking.{Asking, answered, begun, data_reported, end_reported, given_up}
use Rattle.relay_asks.specs.declared.ask.RelayAsk.{RelayAsk}
use Rattle.relay_connection.specs.declared.stream.RelayStream.{RelayStream}
use Rattle.relay_connection.specs.declared.stream.StreamNews.{StreamNews}
use Rattle.relay_connection.specs.declared.stream.StreamNews.TheVariants as news

-- a stream after something, and what it asks for that
pub record StreamReported : Type 0 where
  pub stream : RelayStream
  pub asks : List RelayAsk

-- a status that a response gets by itself is its end, without text and metadata
abbrev pub with_status : Answering → Option Code → Answering
with_status a None = a
with_status a (Some code) = end_given a code [] []

-- END_STREAM, or none
abbrev pub ended_if : Bool → RelayStream → StreamReported
ended_if end s =
    if end then record { stream = record s { asking = (end_reported s.asking).stream }; asks = (end_reported s.asking).asks }
    else record { stream = s; asks = [] }

-- a stream that begins
abbrev pub begun_as : Asking → Option Code → Bool → StreamReported
begun_as a status end = ended_if end (record { asking = a; answer = with_status fresh status })

abbrev pub stream_begun : ℕ → List Field → Bool → StreamReported
stream_begun number fields end =
    let b = begun number fields in
    let e = begun_as b.stream b.status end in
    record { stream = e.stream; asks = b.asks ++ e.asks }

-- bytes of DATA
abbrev pub stream_data : RelayStream → List ℕ → Bool → StreamReported
stream_data s octets end =
    let d = data_reported s.asking octets in
    let e = ended_if end (record { asking = d.stream; answer = with_status s.answer d.status }) in
    record { stream = e.stream; asks = d.asks ++ e.asks }

-- a reset or a stream error: what waits is never sent
abbrev pub broken_off : RelayStream → StreamReported
broken_off s =
    record { stream = record { asking = (given_up s.asking).stream; answer = fresh }; asks = (given_up s.asking).asks }

-- what a link reports of a stream after its header list
abbrev pub stream_reported : RelayStream → StreamNews → StreamReported
stream_reported s (news.Data octets end) = stream_data s octets end
stream_reported s (news.Trailers end) = ended_if end s
stream_reported s news.Breaks = broken_off s

-- an item of its call's response
abbrev pub item_given : RelayStream → Reply → RelayStream
item_given s (reply.Head meta) = record s { answer = head_given s.answer meta }
item_given s (reply.Message octets) = record s { answer = message_given s.answer octets }
item_given s (reply.End code text meta cause) =
    record { asking = answered s.asking; answer = end_given s.answer code text meta }
item_given s _ = s

abbrev pub is_numbered : ℕ → RelayStream → Bool
is_numbered number s = s.asking.number == number

-- whether nothing more is to come or to go
abbrev pub is_over : RelayStream → Bool
is_over s = not s.asking.asking && not s.asking.is_open && is_sent s.answer

-- whether it may send something now, and whether so much room suffices for it
abbrev pub may_send : Wire → RelayStream → Bool
may_send w s = is_some (room_of w s.asking.number s.answer)

abbrev pub within : ℕ → Option ℕ → Bool
within left None = false
within left (Some room) = nat_le room left

abbrev pub fits : ℕ → Wire → RelayStream → Bool
fits left w s = within left (room_of w s.asking.number s.answer)

-- the link and a stream after its next frame, and the bytes of that
pub record StreamSent : Type 0 where
  pub wire : Wire
  pub stream : RelayStream
  pub octets : List ℕ

abbrev pub sent : Wire → RelayStream → StreamSent
sent w s =
    let m = moved w s.asking.number s.answer in
    record { wire = m.wire; stream = record s { answer = m.answer }; octets = m.octets }

-- the stream at a place is taken off once it is over
abbrev pub settled : List RelayStream → ℕ → RelayStream → List RelayStream
settled streams place s = if is_over s then remove streams place else streams

-- with another stream at a place
abbrev pub put : List RelayStream → ℕ → RelayStream → List RelayStream
put streams place s = settled (slice_set streams place s) place s

-- an item is given to the stream at a place, where its call is open
abbrev pub given_to : List RelayStream → ℕ → RelayStream → Reply → List RelayStream
given_to streams place s item = if s.asking.is_open then slice_set streams place (item_given s item) else streams

-- a Cancel of each call that is open
abbrev pub cancels : List RelayStream → List RelayAsk
cancels [] = []
cancels (s ∷ streams) = (given_up s.asking).asks ++ cancels streams
