-- What the line of an action says of it, as far as the order of a session leans on it.
use Rattle.attempt_ledger.specs.declared.ledger.Ask.{Ask}
use Rattle.grpc_base.specs.declared.kind.Pick.TheVariants as pick
use Rattle.grpc_base.specs.declared.kind.Pick.{Pick}
use Rattle.h2_frame.specs.Numbers.{headers_type}
use Rattle.channel_actions.specs.KeptSessions.Kept.{came_up, has_link_for}
use Rattle.call_actions.specs.ReadsInOrder.Laws.{ReadsOn}
use Rattle.session_actions.specs.Entries.{entry}
use Rattle.session_actions.specs.Policies.{is_unfollowed}
use Rattle.session_actions.specs.Words.{holds, last_of, numbered}
use Rattle.session_actions.specs.declared.action.Action.TheVariants as action
use Rattle.session_actions.specs.declared.action.Action.{Action}
use Rattle.session_actions.specs.declared.link.Sent.TheVariants as sent
use Rattle.session_actions.specs.declared.link.Sent.{Sent}
use Rattle.session_actions.specs.declared.seen.Seen.{Seen}
use Rattle.std.proofs.Common.{Bool, false, is_some, nat_le, not, true, ◌&&◌, ◌==◌, ◌||◌, ◌≡◌}
use Rattle.std.specs.Option.{option_map_or}

-- HEADERS open a stream that is not 0
abbrev pub opens_soundly : Sent → Bool
opens_soundly sent.Preface = true
opens_soundly (sent.Frame f) = not (f.kind == headers_type) || not (f.stream == 0)

-- the answer of a pick request is still to be acted on, with a subchannel
abbrev pub is_place : Pick → Bool
is_place (pick.Place sub) = true
is_place _ = false

abbrev pub is_placing_ask : Seen → Ask → Bool
is_placing_ask s ask = holds (λ a. is_unfollowed a && (ask.entry == entry s)) (numbered s.attempts ask.row) && is_place ask.answer

abbrev pub is_placing : Seen → Bool
is_placing s = option_map_or (is_placing_ask s) (last_of s.asks) false

abbrev pub IsSound : Action → Seen → Type 0
IsSound (action.AttemptMade call number k due) s = is_some (numbered s.calls call) ≡ true
IsSound (action.AttemptPlaced row at) s = came_up s at.link ≡ true
IsSound (action.AttemptEnds row end) s = nat_le end.entry (entry s) ≡ true
IsSound (action.PickRequested row generation answer) s = (is_some (numbered s.attempts row) ≡ true) × (has_link_for s.subs answer ≡ true)
IsSound (action.SubchannelShut sub) s = is_placing s ≡ false
IsSound (action.DialFails sub) s = is_placing s ≡ false
IsSound (action.ConnectTimesOut sub) s = is_placing s ≡ false
IsSound (action.LinkDown sub) s = is_placing s ≡ false
IsSound (action.LinkUp sub) s = is_some (numbered s.subs sub) ≡ true
IsSound (action.SettingsArrive sub) s = holds (λ b. is_some b.link) (numbered s.subs sub) ≡ true
IsSound (action.FrameRead link r) s = ReadsOn (action.FrameRead link r) s
IsSound (action.FrameWritten link x) s = opens_soundly x ≡ true
IsSound _ s = Unit {0}
