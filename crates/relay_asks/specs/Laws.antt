-- What a stream asks of all that happens to it, without its steps.
use Rattle.std.specs.Prelude.{ℕ, Bool, true, false, ◌&&◌, ◌||◌, if◌then◌else◌, is_none, is_some, option_to_list, List, [], ◌∷◌, ◌++◌, map}
use Rattle.grpc_base.specs.Limits.{message_limit}
use Rattle.grpc_base.specs.declared.code.Code.{Code}
use Rattle.grpc_frame.specs.Messages.{Messages, messages_of}
use Rattle.relay_asks.specs.Asking.{Asking, Report, answered, data_reported, end_reported, given_up, sent, unchanged}
use Rattle.relay_asks.specs.declared.ask.RelayAsk.{RelayAsk}
use Rattle.relay_asks.specs.declared.ask.RelayAsk.TheVariants as ask

-- what happens to a stream after its header list: bytes of DATA come, or END_STREAM; the end of its call is given; it breaks off,
-- by a reset, a stream error or with its link
pub data Moment : Type 0 where
  Came : List ℕ → Moment
  Ended : Moment
  Answered : Moment
  Broke : Moment

abbrev pub step : Asking → Moment → Report
step a (Came octets) = data_reported a octets
step a Ended = end_reported a
step a Answered = unchanged (answered a)
step a Broke = given_up a

-- what a stream asks from now on, and the statuses that it gets by itself
abbrev pub asks_from : Asking → List Moment → List RelayAsk
asks_from a [] = []
asks_from a (m ∷ moments) = (step a m).asks ++ asks_from (step a m).stream moments

abbrev pub statuses_from : Asking → List Moment → List Code
statuses_from a [] = []
statuses_from a (m ∷ moments) = option_to_list (step a m).status ++ statuses_from (step a m).stream moments

-- the bytes of a request: those of its DATA, up to its end
abbrev pub text_in : List Moment → List ℕ
text_in [] = []
text_in (Came octets ∷ moments) = octets ++ text_in moments
text_in (Answered ∷ moments) = text_in moments
text_in (Ended ∷ moments) = []
text_in (Broke ∷ moments) = []

-- its whole messages, and what is wrong with them
abbrev pub messages_in : List Moment → Messages
messages_in moments = messages_of message_limit (text_in moments)

-- whether it ends before it breaks off
abbrev pub ends : List Moment → Bool
ends [] = false
ends (Came octets ∷ moments) = ends moments
ends (Answered ∷ moments) = ends moments
ends (Ended ∷ moments) = true
ends (Broke ∷ moments) = false

abbrev pub breaks_off : List Moment → Bool
breaks_off [] = false
breaks_off (Came octets ∷ moments) = breaks_off moments
breaks_off (Answered ∷ moments) = breaks_off moments
breaks_off (Ended ∷ moments) = breaks_off moments
breaks_off (Broke ∷ moments) = true

-- what happens before the end of the call is given
abbrev pub before_answer : List Moment → List Moment
before_answer [] = []
before_answer (Came octets ∷ moments) = Came octets ∷ before_answer moments
before_answer (Answered ∷ moments) = []
before_answer (Ended ∷ moments) = Ended ∷ before_answer moments
before_answer (Broke ∷ moments) = Broke ∷ before_answer moments

-- whether it is given up while its call is open
abbrev pub is_given_up : List Moment → Bool
is_given_up moments =
    breaks_off (before_answer moments) || is_some (messages_in (before_answer moments)).fault

-- each whole message of the request in order; a Finish where it ends without a fault; a Cancel last
abbrev pub asked_of : ℕ → List Moment → List RelayAsk
asked_of number moments =
    map (sent number) (messages_in moments).whole
    ++ (if ends moments && is_none (messages_in moments).fault then ask.Finish number ∷ [] else [])
    ++ (if is_given_up moments then ask.Cancel number ∷ [] else [])
