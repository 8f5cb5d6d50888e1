-- One connection of a relay, to its callers; and what the news of its link make of it.
use Rattle.std.specs.Prelude.{ℕ, nat_lt, Bool, if◌then◌else◌, Option, Some, None, List, [], ◌∷◌, ◌++◌, position, slice_get}
use Rattle.grpc_base.specs.declared.event.Reply.{Reply}
use Rattle.grpc_base.specs.declared.fields.Field.{Field}
use Rattle.h2_server.specs.Wire as link
use Rattle.h2_server.specs.Wire.{Seen}
use Rattle.h2_server.specs.declared.news.RequestNews.{RequestNews}
use Rattle.h2_server.specs.declared.news.RequestNews.TheVariants as news
use Rattle.relay_asks.specs.declared.ask.RelayAsk.{RelayAsk}
use Rattle.relay_connection.specs.Streams.{cancels, given_to, is_numbered, put, stream_begun, stream_reported}
use Rattle.relay_connection.specs.declared.stream.RelayStream.{RelayStream}
use Rattle.relay_connection.specs.declared.stream.StreamNews.{StreamNews}
use Rattle.relay_connection.specs.declared.stream.StreamNews.TheVariants as stream

pub record Relay : Type 0 where
  pub link : Seen
  -- the last stream that began, 0 for none
  pub last : ℕ
  -- the streams that are not over, in the order of their opening
  pub streams : List RelayStream

-- a new connection
abbrev pub fresh_relay : Relay
fresh_relay = record { link = link.fresh; last = 0; streams = [] }

-- a connection after something, and what it asks for that
pub record Report : Type 0 where
  pub relay : Relay
  pub asks : List RelayAsk

abbrev pub silent : Relay → Report
silent r = record { relay = r; asks = [] }

-- a stream that begins
abbrev pub stream_opened : Relay → ℕ → List Field → Bool → Report
stream_opened r number fields end =
    let t = stream_begun number fields end in
    record { relay = record r { last = number; streams = r.streams ++ t.stream ∷ [] }; asks = t.asks }

-- news of the stream at a place
abbrev pub reported_at : Relay → ℕ → StreamNews → Option RelayStream → Report
reported_at r place n None = silent r
reported_at r place n (Some s) =
    let t = stream_reported s n in
    record { relay = record r { streams = put r.streams place t.stream }; asks = t.asks }

abbrev pub reported_by : Relay → StreamNews → Option ℕ → Report
reported_by r n None = silent r
reported_by r n (Some place) = reported_at r place n (slice_get r.streams place)

-- news of the stream of a number; one that is over reports nothing
abbrev pub on_stream : Relay → ℕ → StreamNews → Report
on_stream r number n = reported_by r n (position (is_numbered number) r.streams)

-- a header list: of a stream that begins, or trailers
abbrev pub fields_reported : Relay → ℕ → List Field → Bool → Report
fields_reported r number fields end =
    if nat_lt r.last number then stream_opened r number fields end else on_stream r number (stream.Trailers end)

-- what the link reports
abbrev pub reported : Relay → Option RequestNews → Report
reported r None = silent r
reported r (Some (news.Fields number fields end)) = fields_reported r number fields end
reported r (Some (news.Data number octets end)) = on_stream r number (stream.Data octets end)
reported r (Some (news.Reset number code)) = on_stream r number stream.Breaks
reported r (Some (news.Fault number code)) = on_stream r number stream.Breaks
reported r (Some (news.Broken code)) = record { relay = record r { streams = [] }; asks = cancels r.streams }

-- an item of a call's response; a call that is not open gets none
abbrev pub given_at : Relay → ℕ → Reply → Option RelayStream → Relay
given_at r place item None = r
given_at r place item (Some s) = record r { streams = given_to r.streams place s item }

abbrev pub given_by : Relay → Reply → Option ℕ → Relay
given_by r item None = r
given_by r item (Some place) = given_at r place item (slice_get r.streams place)

abbrev pub given : Relay → ℕ → Reply → Relay
given r number item = given_by r item (position (is_numbered number) r.streams)
