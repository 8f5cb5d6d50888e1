-- Each link of the channel and that of the session of its number: what `link_actions` and `stream_actions` say of one link, until it is over.
-- Example: 20 bytes came on link 1, and a frame of 17 was read. The link keeps the other 3; and its streams are fed with what the session has of their
-- calls.
use Rattle.std.specs.Option.{option_map_or}
use Rattle.std.specs.Prelude.{None, Some, [], drop, false, is_some, length, true, ℕ, ◌≡◌}
use Rattle.channel_actions.specs.Readers.{SeesReaders}
use Rattle.channel_core.specs.States.{StateSeen}
use Rattle.channel_core.specs.declared.state.links.LinkSlot.{LinkSlot}
use Rattle.grpc_frame.specs.Messages.{framed_all}
use Rattle.grpc_meta.specs.RequestFields.{fields_of_request}
use Rattle.h2_link.specs.Feeds.{Line}
use Rattle.link_actions.specs.Sees.{written_for}
use Rattle.session_actions.specs.Attempts.{call_of}
use Rattle.session_actions.specs.Links.{is_retiring, read_bytes}
use Rattle.session_actions.specs.Words.{numbered}
use Rattle.session_actions.specs.Writing.{time_left}
use Rattle.session_actions.specs.declared.attempt.Attempt.{Attempt}
use Rattle.session_actions.specs.declared.call.Call.{Call}
use Rattle.session_actions.specs.declared.link.Link.{Link}
use Rattle.session_actions.specs.declared.seen.Seen.{Seen}
use Rattle.link_actions.specs.StreamActions.Sees.{SeesStreams}

-- what an attempt on a link is fed with, by the session: the header list of its request, and the bytes of the accepted messages that were not written.
-- (The book lends the same until the deadline of its call has come. Past it the header list has no timeout that may be sent; such a call ends before
-- anything is written.)
abbrev pub line_of : Link → Seen → Attempt → Call → Line
line_of l s a c = record {
  held = true;
  fields = fields_of_request c.request s.setup.authority (time_left c s) a.row.number;
  left = drop (written_for l a) (framed_all c.messages);
  finished = c.finished;
}

abbrev pub no_line : Line
no_line = record { held = true; fields = []; left = []; finished = false }

abbrev pub lines_in : Link → Seen → ℕ → Line
lines_in l s row = option_map_or (λ a. option_map_or (line_of l s a) (call_of a s) no_line) (numbered s.attempts row) no_line

-- a link that is not over: what every frame that is read or written is by. No reset is left open: those of one frame are sorted
pub record IsGoing (l : Link) (s : Seen) (slot : LinkSlot) : Type 0 where
  pub streams : SeesStreams l s slot.link.link.wire (lines_in l s)
  pub readers : SeesReaders l s slot.link.readers
  pub rest : drop (read_bytes l) l.received ≡ slot.link.link.rest
  pub closed : slot.link.link.wire.queue.fresh ≡ 0

-- which links are gone is by these
pub record SeesLinkOf (l : Link) (s : Seen) (slot : LinkSlot) : Type 0 where
  pub over : is_some l.over ≡ slot.dead
  pub retiring : is_retiring l ≡ slot.retiring
  pub going : l.over ≡ None → IsGoing l s slot

pub record HasLink (x : StateSeen) (s : Seen) (l : Link) (number : ℕ) : Type 0 where
  pub slot : LinkSlot
  pub there : numbered x.links number ≡ Some slot
  pub sees : SeesLinkOf l s slot

pub record SeesLinks (x : StateSeen) (s : Seen) : Type 0 where
  pub count : length s.links ≡ length x.links
  pub each : (number : ℕ) (l : Link) → numbered s.links number ≡ Some l → HasLink x s l number
