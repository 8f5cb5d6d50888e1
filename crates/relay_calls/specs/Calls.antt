-- The calls of a connection at its channel, and the asks that wait.
use Rattle.std.specs.Prelude.{ℕ, ◌==◌, ◌||◌, Bool, true, false, not, Option, Some, None, List, ◌∷◌, [], ◌++◌, filter, position, slice_get, slice_set}
use Rattle.std.specs.List.{list_any}
use Rattle.relay_asks.specs.Asking.{stream_of}
use Rattle.relay_asks.specs.declared.ask.RelayAsk.{RelayAsk}
use Rattle.relay_calls.specs.declared.call.RelayCall.{RelayCall}

pub record Calls : Type 0 where
  -- the calls that were begun and are not over, in the order of their Begins
  pub calls : List RelayCall
  -- the asks that wait, in order
  pub waiting : List RelayAsk

abbrev pub no_calls : Calls
no_calls = record { calls = []; waiting = [] }

abbrev pub is_of : ℕ → RelayCall → Bool
is_of stream k = k.stream == stream

-- its stream may ask more, or more of it is to be taken
abbrev pub is_live : RelayCall → Bool
is_live k = k.asking || k.is_open

-- the number of the call of a stream, if it has one
abbrev pub number_at : Option RelayCall → Option ℕ
number_at (Some k) = Some k.call
number_at None = None

abbrev pub call_at : List RelayCall → Option ℕ → Option RelayCall
call_at calls (Some place) = slice_get calls place
call_at calls None = None

abbrev pub number_of : List RelayCall → ℕ → Option ℕ
number_of calls stream = number_at (call_at calls (position (is_of stream) calls))

-- the call of a stream is changed, if it has one
abbrev pub with_call : List RelayCall → ℕ → Option RelayCall → List RelayCall
with_call calls place (Some k) = slice_set calls place k
with_call calls place None = calls

abbrev pub silent : Option RelayCall → Option RelayCall
silent (Some k) = Some (record k { asking = false })
silent None = None

abbrev pub given_up : Option RelayCall → Option RelayCall
given_up (Some k) = Some (record k { asking = false; is_open = false })
given_up None = None

abbrev pub silenced_at : List RelayCall → Option ℕ → List RelayCall
silenced_at calls (Some place) = with_call calls place (silent (slice_get calls place))
silenced_at calls None = calls

abbrev pub closed_at : List RelayCall → Option ℕ → List RelayCall
closed_at calls (Some place) = with_call calls place (given_up (slice_get calls place))
closed_at calls None = calls

-- a Finish was posted for the call of a stream: the stream asks no more but a Cancel
abbrev pub silenced : Calls → ℕ → Calls
silenced c stream = record c { calls = silenced_at c.calls (position (is_of stream) c.calls) }

-- a Cancel was posted for it: nothing more of it is asked or taken
abbrev pub closed : Calls → ℕ → Calls
closed c stream = record c { calls = closed_at c.calls (position (is_of stream) c.calls) }

-- a call was begun for a stream
abbrev pub begun : Calls → ℕ → ℕ → Calls
begun c stream number =
    record c { calls = c.calls ++ record { stream = stream; call = number; asking = true; is_open = true } ∷ [] }

-- an ask waits after those that wait
abbrev pub held : Calls → RelayAsk → Calls
held c a = record c { waiting = c.waiting ++ a ∷ [] }

-- whether an ask of a stream waits
abbrev pub waits : Calls → ℕ → Bool
waits c stream = list_any (λ a. stream_of a == stream) c.waiting

-- the asks of a stream that wait are dropped
abbrev pub dropped : Calls → ℕ → Calls
dropped c stream = record c { waiting = filter (λ a. not (stream_of a == stream)) c.waiting }

-- the calls that are over are forgotten
abbrev pub settled : Calls → Calls
settled c = record c { calls = filter is_live c.calls }
