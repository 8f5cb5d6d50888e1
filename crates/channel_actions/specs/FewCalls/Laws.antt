-- A session has no more calls than entries: each call begins by the event of an entry, and an entry has one event. So numbers of calls do not end, since journals do. So
-- it is with links, with the dials of a subchannel, and with the bytes that came on a link.
-- Example: after the entries Begin, TakeDial, LinkUp and Begin a session has 4 entries, 2 calls, one dial and one link.
use Rattle.std.specs.List.{list_all}
use Rattle.std.specs.Prelude.{Bool, List, Some, count_by, is_none, is_some, length, nat_le, true, ℕ, ◌+◌, ◌||◌, ◌≡◌, ◌≤◌}
use Rattle.grpc_base.specs.declared.event.Event.TheVariants as event
use Rattle.session_actions.specs.Entries.{entry}
use Rattle.session_actions.specs.Reading.{opened_streams}
use Rattle.session_actions.specs.Sessions.{Does, new_session}
use Rattle.session_actions.specs.Words.{numbered}
use Rattle.session_actions.specs.Writing.{waiting_on}
use Rattle.session_actions.specs.declared.action.Action.{Action}
use Rattle.session_actions.specs.declared.attempt.Attempt.{Attempt}
use Rattle.session_actions.specs.declared.entry.OpenEntry.{OpenEntry}
use Rattle.session_actions.specs.declared.entry.Stage.TheVariants as stage
use Rattle.session_actions.specs.declared.link.Link.{Link}
use Rattle.session_actions.specs.declared.seen.Seen.{Seen}
use Rattle.session_actions.specs.declared.seen.Setup.{Setup}

-- (the entry that is being made counts)
abbrev pub CallsAreFew : Type 0
CallsAreFew = (setup : Setup) (actions : List Action) (s : Seen) → Does actions (new_session setup) s → length s.calls ≤ entry s

abbrev pub LinksAreFew : Type 0
LinksAreFew = (setup : Setup) (actions : List Action) (s : Seen) → Does actions (new_session setup) s → length s.links ≤ entry s

abbrev pub DialsAreFew : Type 0
DialsAreFew =
    (setup : Setup) (actions : List Action) (s : Seen) → Does actions (new_session setup) s → list_all (λ b. nat_le b.dials (entry s)) s.subs ≡ true

-- where bytes are about to come on a link, all of it fits in a journal
abbrev pub BytesAreFew : Type 0
BytesAreFew =
    (setup : Setup) (actions : List Action) (s : Seen) → Does actions (new_session setup) s → (o : OpenEntry) → s.current ≡ Some o → o.stage ≡ stage.Event
    → (link : ℕ) (piece : List ℕ) → o.event ≡ event.Arrived link piece → (l : Link) → numbered s.links link ≡ Some l → length l.received + length piece ≤ 268435456

-- a pick is requested of an attempt once
abbrev pub AsksAreFew : Type 0
AsksAreFew = (setup : Setup) (actions : List Action) (s : Seen) → Does actions (new_session setup) s → length s.asks ≤ length s.attempts + 1

-- a stream of a link is of an attempt, and one that waits for a stream goes on
abbrev pub is_streaming : Attempt → Bool
is_streaming a = is_some a.row.stream || is_none a.row.ended

abbrev pub StreamsAreOfAttempts : Type 0
StreamsAreOfAttempts =
    (setup : Setup) (actions : List Action) (s : Seen) → Does actions (new_session setup) s → (link : ℕ) (l : Link) → numbered s.links link ≡ Some l
    → length (opened_streams l) + length (waiting_on l s) ≤ count_by is_streaming s.attempts
