-- The types of `src/` as contracts see them, and the step that it takes at a whole header.
use Rattle.std.specs.Prelude.{ℕ, List, nat_lt, if◌then◌else◌}
use Rattle.h2_frame.specs.declared.frame.Frame.{Frame}
use Rattle.h2_frame.specs.declared.frame.FrameStep.{FrameStep}
use Rattle.h2_frame.specs.declared.frame.FrameStep.TheVariants as step
use Rattle.grpc_base.specs.ErrorCodes.{protocol_error, frame_size_error}
use Rattle.h2_frame.specs.Frames.{FrameSeen, payload_limit, kind_allows_length, flags_allow_length, kind_allows_stream}
use Rattle.h2_frame.specs.Readings.{Reading, Whole, Partial, Fault, reading_of_payload}

-- a frame without where its payload lies
abbrev pub seen : Frame → FrameSeen
seen f = record { kind = f.kind; flags = f.flags; stream = f.stream; payload = f.payload.now }

-- what a step reported
abbrev pub reported : FrameStep → Reading
reported (step.Got frame len) = Whole (seen frame) len
reported step.More = Partial
reported (step.Bad code) = Fault code

-- a fact of the frame that a step got
abbrev pub IfGot : FrameStep → (Frame → ℕ → Type 0) → Type 0
IfGot (step.Got frame len) holds = holds frame len
IfGot step.More holds = Unit {0}
IfGot (step.Bad code) holds = Unit {0}

-- after a header that is there whole; no public promise speaks of it
abbrev pub reading_of_header : ℕ → ℕ → ℕ → ℕ → List ℕ → Reading
reading_of_header len kind flags stream rest =
    if nat_lt payload_limit len then Fault frame_size_error
    else if kind_allows_length kind len then
    (if flags_allow_length kind flags len then
    (if kind_allows_stream kind stream then reading_of_payload len kind flags stream rest else Fault protocol_error)
    else Fault frame_size_error)
    else Fault frame_size_error
