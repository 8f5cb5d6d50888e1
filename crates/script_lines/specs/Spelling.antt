-- How the lines of a replay script are spelled: words with one space between.
use Rattle.std.specs.Prelude.{◌≤◌, ℕ, true, List, [], ◌∷◌, ◌++◌, codes, decimal, flat_map, map}
use Rattle.grpc_base.specs.declared.event.Event.{Event}
use Rattle.grpc_base.specs.declared.event.Event.TheVariants as event
use Rattle.grpc_base.specs.declared.event.Stamped.{Stamped}
use Rattle.grpc_base.specs.Limits.{moment_limit}
use Rattle.script_fields.specs.Spelling.{addresses_text, config_hex, fields, hex_digits, hex_or_dash, meta_text, number_or_dash, wait_text, word_bytes, words}
use Rattle.script_lines.specs.declared.line.ScriptLine.{ScriptLine}
use Rattle.script_lines.specs.declared.line.ScriptLine.TheVariants as line
use Rattle.script_lines.specs.Lines.{IsChannelText, IsRawLine, IsStampedText, IsTextLine, channel_words}

-- an event: its name and its fields
abbrev pub event_words : Event → List (List ℕ)
event_words (event.Begin r) = codes "begin" ∷ r.path ∷ wait_text r.wait ∷ number_or_dash r.timeout ∷ meta_text r.meta ∷ []
event_words (event.Send call message) = codes "send" ∷ decimal call ∷ hex_or_dash message ∷ []
event_words (event.Finish call) = codes "finish" ∷ decimal call ∷ []
event_words (event.Take call) = codes "take" ∷ decimal call ∷ []
event_words (event.Cancel call) = codes "cancel" ∷ decimal call ∷ []
event_words (event.Resolved addresses config) = codes "resolved" ∷ addresses_text addresses ∷ config_hex config ∷ []
event_words event.ResolveFailed = codes "unresolved" ∷ []
event_words event.TakeDial = codes "dial" ∷ []
event_words (event.LinkUp sub) = codes "up" ∷ decimal sub ∷ []
event_words (event.DialFailed sub) = codes "nodial" ∷ decimal sub ∷ []
event_words (event.Arrived link piece) = codes "arrived" ∷ decimal link ∷ hex_or_dash piece ∷ []
event_words (event.LinkLost link) = codes "lost" ∷ decimal link ∷ []
event_words (event.Drain link room) = codes "drain" ∷ decimal link ∷ decimal room ∷ []
event_words (event.Ping link word) = codes "ping" ∷ decimal link ∷ hex_digits (word_bytes word) ∷ []
event_words event.Tick = codes "tick" ∷ []
event_words event.Shutdown = codes "shutdown" ∷ []

-- a line of a script: the moment, the random word and the event
abbrev pub stamped_text : Stamped → List ℕ
stamped_text s = words (decimal s.moment ∷ decimal s.word ∷ event_words s.event)

-- the channel line, of version 2
abbrev pub channel_text : List ℕ → List ℕ
channel_text target = words (channel_words (codes "2") target)

-- lines, each ended by a line feed
abbrev pub lines_text : List (List ℕ) → List ℕ
lines_text lines = flat_map (λ line. line ++ 10 ∷ []) lines

-- the script of a target and events, of version 2
abbrev pub script_of : List ℕ → List Stamped → List ℕ
script_of target events = lines_text (channel_text target ∷ map stamped_text events)

-- a stamped event at another moment
abbrev pub at_moment : Stamped → ℕ → Stamped
at_moment s moment = record s { moment = moment }

-- a stamped event's own spelling is a line that is read as that event
abbrev pub IsSpelled : Stamped → Type 0
IsSpelled s = IsTextLine (stamped_text s) true × IsStampedText (fields (stamped_text s)) s

-- what a line of a replay script says is read again from its own spelling: a channel line of either version from that of version 2,
-- an event at whatever moment
abbrev pub IsReadAgain : ScriptLine → Type 0
IsReadAgain (line.Channel target value) = IsRawLine 1 (channel_text target) true × IsChannelText (fields (channel_text target)) target value
IsReadAgain (line.Event s) = (moment : ℕ) → moment ≤ moment_limit → IsSpelled (at_moment s moment)
IsReadAgain read = Unit {0}
