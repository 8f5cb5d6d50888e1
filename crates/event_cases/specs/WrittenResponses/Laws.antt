-- What is written on a link leaves what came for applications: frames that are written leave the head and the messages of each response, and on a stream that HEADERS
-- open nothing came yet (RFC 9113, section 5.1.1).
-- Example: the head of the response to attempt 1 came. HEADERS are written for attempt 2, on stream 3, and DATA for attempt 1: what call 1 has for its application is
-- the head, as before.
use Rattle.std.specs.Prelude.{List, [], false, length, map, ℕ, ◌≡◌, ◌≤◌, Some}
use Rattle.call_actions.specs.TakeActions.Serves.{came}
use Rattle.channel_actions.specs.KeptSessions.Kept.{IsKept}
use Rattle.channel_actions.specs.PrefacedLinks.Prefaced.{LinksArePrefaced}
use Rattle.link_actions.specs.StreamActions.Sees.{NewStreamsAreUnreceived}
use Rattle.session_actions.specs.Deliveries.{response_items}
use Rattle.session_actions.specs.Links.{is_retiring}
use Rattle.session_actions.specs.Reading.{opened_streams}
use Rattle.session_actions.specs.Responses.{response_in}
use Rattle.session_actions.specs.Sessions.{Does}
use Rattle.session_actions.specs.Words.{numbered}
use Rattle.session_actions.specs.Writing.{next_stream}
use Rattle.session_actions.specs.declared.action.Action.TheVariants as action
use Rattle.session_actions.specs.declared.call.Call.{Call}
use Rattle.session_actions.specs.declared.link.Link.{Link}
use Rattle.session_actions.specs.declared.link.Sent.{Sent}
use Rattle.session_actions.specs.declared.seen.Seen.{Seen}

-- no item came on a stream that is still to be opened. (After GOAWAY none is.)
abbrev pub IsSilent : Link → Type 0
IsSilent l = (limit k : ℕ) → next_stream l ≤ k → is_retiring l ≡ false → response_items (response_in limit k l.traffic) ≡ []

-- it is so of the links of a channel that agree with a session
abbrev pub UnreceivedAreSilent : Type 0
UnreceivedAreSilent = (l : Link) → NewStreamsAreUnreceived l (length (opened_streams l)) → IsSilent l

abbrev pub WritesLeaveItems : Type 0
WritesLeaveItems =
    (sent : List Sent) (link : ℕ) (s t : Seen) (l : Link) → IsKept s → LinksArePrefaced s → numbered s.links link ≡ Some l → IsSilent l
    → Does (map (λ x. action.FrameWritten link x) sent) s t → (c : Call) → came c t ≡ came c s
