-- What a connection asks for one stream.
use Rattle.std.specs.Prelude.{ℕ, ◌<◌, ◌≤◌, ◌==◌, Bool, if◌then◌else◌, Option, Some, None, List, [], ◌∷◌, ◌++◌, filter}
use Rattle.grpc_base.specs.declared.event.Reply.{Reply}
use Rattle.grpc_base.specs.declared.event.Reply.TheVariants as reply
use Rattle.h2_server.specs.Received.{Receiving}
use Rattle.h2_server.specs.declared.news.RequestNews.{RequestNews}
use Rattle.h2_server.specs.declared.news.RequestNews.TheVariants as news
use Rattle.relay_asks.specs.Asking.{stream_of}
use Rattle.relay_asks.specs.Laws.{Moment, Came, Ended, Answered, Broke}
use Rattle.relay_asks.specs.declared.ask.RelayAsk.{RelayAsk}
use Rattle.relay_connection.specs.Draining.{Step, next}
use Rattle.relay_connection.specs.Relay.{Relay, Report, given, silent, reported}
use Rattle.relay_connection.specs.declared.stream.RelayStream.{RelayStream}

-- what happens to a connection: a frame of the client is handled, an item of a response is given, a frame is sent
pub data Event : Type 0 where
  Receives : Receiving → Event
  Gives : ℕ → Reply → Event
  Sends : Event

abbrev pub stepped_relay : Relay → Option Step → Relay
stepped_relay r None = r
stepped_relay r (Some s) = s.relay

abbrev pub happened : Relay → Event → Report
happened r (Receives h) = reported (record r { link = h.link }) h.news
happened r (Gives number item) = silent (given r number item)
happened r Sends = silent (stepped_relay r (next r))

abbrev pub asks_from : Relay → List Event → List RelayAsk
asks_from r [] = []
asks_from r (e ∷ events) = (happened r e).asks ++ asks_from (happened r e).relay events

abbrev pub after : Relay → List Event → Relay
after r [] = r
after r (e ∷ events) = after (happened r e).relay events

-- the asks of one stream among these
abbrev pub asks_for : ℕ → List RelayAsk → List RelayAsk
asks_for number asks = filter (λ a. stream_of a == number) asks

-- what each event is for one stream, after its first header list
abbrev pub ended_by : Bool → List Moment
ended_by end = if end then Ended ∷ [] else []

abbrev pub if_own : ℕ → ℕ → List Moment → List Moment
if_own number other moments = if other == number then moments else []

abbrev pub news_for : ℕ → Option RequestNews → List Moment
news_for number None = []
news_for number (Some (news.Fields other fields end)) = if_own number other (ended_by end)
news_for number (Some (news.Data other octets end)) = if_own number other (Came octets ∷ ended_by end)
news_for number (Some (news.Reset other code)) = if_own number other (Broke ∷ [])
news_for number (Some (news.Fault other code)) = if_own number other (Broke ∷ [])
news_for number (Some (news.Broken code)) = Broke ∷ []

abbrev pub item_moments : Reply → List Moment
item_moments (reply.End code text meta cause) = Answered ∷ []
item_moments _ = []

abbrev pub event_for : ℕ → Event → List Moment
event_for number (Receives h) = news_for number h.news
event_for number (Gives other item) = if_own number other (item_moments item)
event_for number Sends = []

abbrev pub moments_for : ℕ → List Event → List Moment
moments_for number [] = []
moments_for number (e ∷ events) = event_for number e ++ moments_for number events

-- the numbers of streams rise from one to the next: all above one number, none above another
abbrev pub Rises : ℕ → List RelayStream → ℕ → Type 0
Rises low [] high = low ≤ high
Rises low (s ∷ streams) high = (low < s.asking.number) × Rises s.asking.number streams high
