-- What the plain programs read on their way; nobody has to believe it.
use Rattle.std.specs.Prelude.{Bool, List, length, ℕ, ◌&&◌, ◌+◌, ◌==◌, ◌≤◌}
use Rattle.grpc_frame.specs.declared.next.NextMessage.{NextMessage}
use Rattle.grpc_frame.specs.declared.next.NextMessage.TheVariants as next
use Rattle.h2_frame.specs.Frames.{FrameSeen, has_flag}
use Rattle.h2_frame.specs.Numbers.{data_type, end_stream_flag}
use Rattle.slow_link.specs.declared.messages.MessageStep.{MessageStep}
use Rattle.slow_link.specs.declared.messages.MessageStep.TheVariants as step

-- whether a frame is DATA on a stream with END_STREAM
abbrev pub is_end_of : ℕ → FrameSeen → Bool
is_end_of stream f = (f.kind == data_type) && (f.stream == stream) && has_flag f.flags end_stream_flag

-- what stands at the start of a text
abbrev pub next_found : MessageStep → NextMessage
next_found (step.Whole len) = next.Whole len
next_found step.Partial = next.Partial
next_found (step.Fault fault) = next.Fault fault

-- a message at the start is there whole
abbrev pub WholeFits : MessageStep → List ℕ → Type 0
WholeFits (step.Whole len) text = 5 + len ≤ length text
WholeFits step.Partial text = Unit {0}
WholeFits (step.Fault fault) text = Unit {0}
