-- Channel and session in the midst of what one action brings. The channel queues the reset of a stream where its attempt ends, or is cut off; the session does
-- so once all that ends has ended, by link and stream. So until then each link of the channel is ahead of the session by the resets that the session owes;
-- all else agrees.
-- Example: the attempts 1, on stream 1 of link 1, and 2, on stream 3 of link 2, are of one call, and attempt 2 ends with a code that hedgingPolicy does not name.
-- After AttemptEnds 2, CallCommitted 2, AttemptEnds 1 and CallEnds the channel agrees, but that link 1 has RST_STREAM on stream 1 queued. StreamReset 1 is
-- next, and after it all agrees.
use Rattle.std.specs.Prelude.{Bool, List, None, Some, [], false, filter, is_some, length, map, unwrap_or, ℕ, ◌&&◌, ◌++◌, ◌==◌, ◌≡◌, drop}
use Rattle.attempt_ledger.specs.declared.row.RowEnd.{RowEnd}
use Rattle.channel_actions.specs.Calls.{SeesCalls}
use Rattle.channel_actions.specs.Clock.{SeesClock}
use Rattle.channel_actions.specs.Columns.{SeesColumns}
use Rattle.channel_actions.specs.Configs.{SeesBuckets, SeesConfigs}
use Rattle.call_cases.specs.EndsFollow.Cuts.{NoStreamIsToReset}
use Rattle.channel_actions.specs.KeptSessions.Kept.{IsKept}
use Rattle.channel_actions.specs.Links.{lines_in}
use Rattle.channel_actions.specs.Readers.{SeesReaders}
use Rattle.channel_actions.specs.Sets.{PairsAreExactly, is_awaiting_config, is_in_deadlines, is_in_dues, is_in_fail_fast, is_in_outstanding, is_in_ready_waiters, is_in_queue}
use Rattle.channel_core.specs.States.{StateSeen}
use Rattle.channel_core.specs.declared.state.links.LinkSlot.{LinkSlot}
use Rattle.end_cases.specs.AttemptEnds.Left.{all_left}
use Rattle.lb_policy.specs.Table.{is_one_of}
use Rattle.link_actions.specs.ResetActions.Ahead.{SeesAhead}
use Rattle.link_actions.specs.Sees.{by_stream}
use Rattle.net_actions.specs.Runs.{IsOfCalls}
use Rattle.net_actions.specs.Sees.{Sees}
use Rattle.session_actions.specs.AttemptEnds.{reset_code_of}
use Rattle.session_actions.specs.Links.{is_retiring, link_number, read_bytes, stream_number}
use Rattle.session_actions.specs.Words.{numbered}
use Rattle.session_actions.specs.declared.attempt.Attempt.{Attempt}
use Rattle.session_actions.specs.declared.link.Link.{Link}
use Rattle.session_actions.specs.declared.seen.Seen.{Seen}

-- the resets that a session owes on a link, each with its code, in the order of the streams (RFC 9113, section 6.4)
abbrev pub is_owed_on : Link → Seen → Attempt → Bool
is_owed_on l s a = is_some (reset_code_of s a) && (link_number a == l.number)

abbrev pub owed_reset : Seen → Attempt → ℕ × ℕ
owed_reset s a = (stream_number a, unwrap_or (reset_code_of s a) 0)

abbrev pub resets_owed : Link → Seen → List (ℕ × ℕ)
resets_owed l s = map (owed_reset s) (by_stream (filter (is_owed_on l s) s.attempts))

-- a link that is not over has these queued after all else, and is not closed since
pub record IsAhead (l : Link) (s : Seen) (slot : LinkSlot) : Type 0 where
  pub streams : SeesAhead (resets_owed l s) l s slot.link.link.wire (lines_in l s)
  pub readers : SeesReaders l s slot.link.readers
  pub rest : drop (read_bytes l) l.received ≡ slot.link.link.rest
  pub fresh : slot.link.link.wire.queue.fresh ≡ length (resets_owed l s)

pub record SeesLinkAhead (l : Link) (s : Seen) (slot : LinkSlot) : Type 0 where
  pub over : is_some l.over ≡ slot.dead
  pub retiring : is_retiring l ≡ slot.retiring
  pub going : l.over ≡ None → IsAhead l s slot

pub record HasLinkAhead (x : StateSeen) (s : Seen) (l : Link) (number : ℕ) : Type 0 where
  pub slot : LinkSlot
  pub there : numbered x.links number ≡ Some slot
  pub sees : SeesLinkAhead l s slot

-- each link; and those that have such resets are closed next: they are among these, or among those that the channel is to close
pub record LinksAhead (also : List ℕ) (x : StateSeen) (s : Seen) : Type 0 where
  pub count : length s.links ≡ length x.links
  pub each : (number : ℕ) (l : Link) → numbered s.links number ≡ Some l → HasLinkAhead x s l number
  pub closing : (number : ℕ) (l : Link) → numbered s.links number ≡ Some l → is_one_of (also ++ x.resets) number ≡ false → resets_owed l s ≡ []

-- all but the links
pub record SetsAgree (x : StateSeen) (s : Seen) : Type 0 where
  pub queue : PairsAreExactly x.queue (is_in_queue s)
  pub ready_waiters : PairsAreExactly x.ready_waiters (is_in_ready_waiters s)
  pub dues : PairsAreExactly x.dues (is_in_dues s)
  pub deadlines : PairsAreExactly x.deadlines (is_in_deadlines s)
  pub awaiting_config : PairsAreExactly x.awaiting_config (is_awaiting_config s)
  pub fail_fast : PairsAreExactly x.fail_fast (is_in_fail_fast s)
  pub outstanding : PairsAreExactly x.outstanding (is_in_outstanding s)

pub record AgreesOffLinks (x : StateSeen) (s : Seen) : Type 0 where
  pub clock : SeesClock x s
  pub columns : SeesColumns x.book.ledger s
  pub configs : SeesConfigs x s
  pub buckets : SeesBuckets x.book.buckets s
  pub calls : SeesCalls x s
  pub net : Sees s x.net
  pub orderly : IsOfCalls x.net
  pub sets : SetsAgree x s
  pub kept : IsKept s

-- The links are so once these attempts have ended too, whose ends the session owes; and no stream was reset of an attempt that goes on (every session keeps this:
-- `IsEarlyKept`)
pub record AgreesAhead (later : List (ℕ × RowEnd)) (also : List ℕ) (x : StateSeen) (s : Seen) : Type 0 where
  pub books : AgreesOffLinks x s
  pub links : LinksAhead also x (all_left later s)
  pub unreset : NoStreamIsToReset s
