-- The readers of the responses on a link (`grpc_link`): one for each attempt that is outstanding on it, with whether its stream was opened, whether its
-- head came, and the bytes of the message that is not whole yet.
-- Example: the DATA 00 00000003 68 came on the stream of attempt 2, after a head. The response has no message and the rest 00 00000003 68; so has the
-- reader of attempt 2.
use Rattle.std.specs.Prelude.{List, None, Option, Some, false, if◌then◌else◌, is_some, map, option_and_then, ℕ, ◌≡◌}
use Rattle.grpc_link.specs.Links.{reader_in}
use Rattle.grpc_link.specs.Readers.{ReaderSeen}
use Rattle.grpc_link.specs.declared.readers.TagReader.{TagReader}
use Rattle.link_actions.specs.Sees.{NumbersAreDistinct}
use Rattle.session_actions.specs.Reading.{is_outstanding_on}
use Rattle.session_actions.specs.Responses.{limit_of_attempt, response}
use Rattle.session_actions.specs.Words.{numbered}
use Rattle.session_actions.specs.declared.attempt.Attempt.{Attempt}
use Rattle.session_actions.specs.declared.link.Link.{Link}
use Rattle.session_actions.specs.declared.seen.Seen.{Seen}

-- a reader has what came of the response to an attempt
pub record IsReader (s : Seen) (a : Attempt) (r : ReaderSeen) : Type 0 where
  pub opened : is_some a.row.stream ≡ r.opened
  pub head : is_some (response a s).head ≡ r.head
  pub over : r.over ≡ false
  pub limit : limit_of_attempt a s ≡ r.messages.limit
  pub rest : (response a s).rest ≡ r.messages.rest
  pub whole : r.messages.fault ≡ None

abbrev pub IsReaderOf : Seen → Option Attempt → Option ReaderSeen → Type 0
IsReaderOf s None None = Unit {0}
IsReaderOf s (Some a) (Some r) = IsReader s a r
IsReaderOf s _ _ = ⊥

-- the attempt of a row, while it is outstanding on a link
abbrev pub attempt_on : Link → Seen → ℕ → Option Attempt
attempt_on l s row = option_and_then (λ a. if is_outstanding_on l a then Some a else None) (numbered s.attempts row)

-- what a link reports of responses
pub record SeesReaders (l : Link) (s : Seen) (readers : List TagReader) : Type 0 where
  pub each : (row : ℕ) → IsReaderOf s (attempt_on l s row) (reader_in row readers)
  pub distinct : NumbersAreDistinct (map (λ t. t.tag) readers)
