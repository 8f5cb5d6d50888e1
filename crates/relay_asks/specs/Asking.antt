-- What one stream of a relay asks of the channel, as its request comes.
use Rattle.std.specs.Prelude.{ℕ, Bool, true, false, if◌then◌else◌, Option, Some, None, List, [], ◌∷◌, ◌++◌, map}
use Rattle.grpc_base.specs.Limits.{message_limit}
use Rattle.grpc_base.specs.declared.code.Code.{Code}
use Rattle.grpc_base.specs.declared.code.Code.TheVariants as code
use Rattle.grpc_base.specs.declared.fields.Field.{Field}
use Rattle.grpc_frame.specs.declared.next.MessageFault.{MessageFault}
use Rattle.grpc_frame.specs.declared.next.MessageFault.TheVariants as fault
use Rattle.grpc_frame.specs.Reader.{Given, ReaderSeen, given, reader_of}
use Rattle.relay_request.specs.Incoming.{incoming}
use Rattle.relay_request.specs.declared.incoming.Incoming.{Incoming}
use Rattle.relay_request.specs.declared.incoming.Incoming.TheVariants.{Begins, Refused}
use Rattle.relay_asks.specs.declared.ask.RelayAsk.{RelayAsk}
use Rattle.relay_asks.specs.declared.ask.RelayAsk.TheVariants as ask

-- the stream that asks
abbrev pub stream_of : RelayAsk → ℕ
stream_of (ask.Begin stream request) = stream
stream_of (ask.Send stream message) = stream
stream_of (ask.Finish stream) = stream
stream_of (ask.Cancel stream) = stream

-- one stream to its callers
pub record Asking : Type 0 where
  pub number : ℕ
  -- whether what comes is asked: its request began a call, has not ended, and was not given up
  pub asking : Bool
  -- whether its call was begun, and neither ended nor was given up
  pub is_open : Bool
  -- the messages of its request
  pub reader : ReaderSeen

-- a stream after something, what it asks for that, and the status that its response gets by itself
pub record Report : Type 0 where
  pub stream : Asking
  pub asks : List RelayAsk
  pub status : Option Code

abbrev pub unchanged : Asking → Report
unchanged a = record { stream = a; asks = []; status = None }

-- a stream whose request begins a call, or begins none
abbrev pub opened : ℕ → Bool → Asking
opened number begins =
    record { number = number; asking = begins; is_open = begins; reader = reader_of message_limit [] }

abbrev pub begun_by : ℕ → Incoming → Report
begun_by number (Begins request) =
    record { stream = opened number true; asks = ask.Begin number request ∷ []; status = None }
begun_by number (Refused code) = record { stream = opened number false; asks = []; status = Some code }

-- a stream that begins with this header list
abbrev pub begun : ℕ → List Field → Report
begun number fields = begun_by number (incoming fields)

abbrev pub sent : ℕ → List ℕ → RelayAsk
sent number message = ask.Send number message

-- a stream that is given up asks a Cancel where its call is open, and nothing more
abbrev pub given_up : Asking → Report
given_up a = record {
  stream = record a { asking = false; is_open = false };
  asks = if a.is_open then ask.Cancel a.number ∷ [] else [];
  status = None;
}

-- a message that is compressed (gRPC over HTTP/2, "Compressed-Flag"), or one that is too long
abbrev pub code_of : MessageFault → Code
code_of fault.BadFlag = code.Internal
code_of (fault.TooLarge len) = code.ResourceExhausted

abbrev pub status_of : Bool → MessageFault → Option Code
status_of is_open f = if is_open then Some (code_of f) else None

-- a fault of the messages gives the stream up, with a status where its call is open
abbrev pub judged : Asking → Option MessageFault → Report
judged a None = unchanged a
judged a (Some f) = record (given_up a) { status = status_of a.is_open f }

-- the messages that some bytes complete, and the fault that they show
abbrev pub fed : Asking → Given → Report
fed a g =
    let j = judged (record a { reader = g.reader }) g.fault in
    record j { asks = map (sent a.number) g.messages ++ j.asks }

-- the bytes of DATA
abbrev pub data_reported : Asking → List ℕ → Report
data_reported a octets = if a.asking then fed a (given a.reader octets) else unchanged a

-- END_STREAM
abbrev pub end_reported : Asking → Report
end_reported a = record {
  stream = record a { asking = false };
  asks = if a.asking then ask.Finish a.number ∷ [] else [];
  status = None;
}

-- the end of its call was given
abbrev pub answered : Asking → Asking
answered a = record a { is_open = false }
