-- What every session keeps of calls before their first attempt, of streams that were reset, and of links that subchannels have. It is of the session alone, and
-- stands beside `IsKept` of `kept_sessions`.
-- Example: call 1 has no config yet. It has no mark and no attempt. Once it has its config its first attempt is made; RST_STREAM is queued for the stream of an
-- attempt only after it ended; and a subchannel that is IDLE, in TRANSIENT_FAILURE or SHUTDOWN has no link.
use Rattle.std.specs.List.{list_all}
use Rattle.std.specs.Prelude.{Bool, List, [], false, is_none, is_some, nat_le, not, true, ◌&&◌, ◌||◌, ◌∷◌, ◌≡◌}
use Rattle.lb_policy.specs.Table.{is_ready}
use Rattle.std.specs.Option.{option_map_or}
use Rattle.session_actions.specs.Attempts.{call_of}
use Rattle.session_actions.specs.Links.{link_of, read_bytes}
use Rattle.session_actions.specs.Subchannels.{is_connecting}
use Rattle.session_actions.specs.Words.{holds}
use Rattle.session_actions.specs.declared.attempt.Attempt.{Attempt}
use Rattle.session_actions.specs.declared.call.Call.{Call}
use Rattle.session_actions.specs.declared.call.Mark.{Mark}
use Rattle.session_actions.specs.declared.seen.Seen.{Seen}
use Rattle.session_actions.specs.declared.subchannel.Subchannel.{Subchannel}

-- a call has its config, or has ended; nothing was done to a call yet
abbrev pub is_past : Call → Bool
is_past c = is_some c.end || is_some c.config

abbrev pub has_none : List Mark → Bool
has_none [] = true
has_none (m ∷ marks) = false

abbrev pub is_early : Call → Bool
is_early c = is_none c.configured && has_none c.marks

-- a stream was reset only of an attempt that ended
abbrev pub is_reset_late : Attempt → Bool
is_reset_late a = is_some a.row.ended || not a.reset

-- an attempt that ended saw no more of its link than was read since (`seen` of its end are the bytes that were read then)
abbrev pub saw_less : Seen → Attempt → Bool
saw_less s a = option_map_or (λ e. nat_le e.seen (option_map_or read_bytes (link_of a s) 0)) a.row.ended true

-- only a subchannel that is CONNECTING or READY has a link
abbrev pub is_linked_up : Subchannel → Bool
is_linked_up b = is_none b.link || is_connecting b.state || is_ready b.state

pub record IsEarlyKept (s : Seen) : Type 0 where
  pub resets : list_all is_reset_late s.attempts ≡ true
  pub saw : list_all (saw_less s) s.attempts ≡ true
  -- no attempt is made of a call before it has its config
  pub made : list_all (λ a. holds is_past (call_of a s)) s.attempts ≡ true
  -- and nothing else happens to it
  pub awaiting_config : list_all (λ c. is_past c || is_early c) s.calls ≡ true
  pub boards : list_all is_linked_up s.subs ≡ true
