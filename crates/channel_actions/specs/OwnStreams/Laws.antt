-- That no two attempts of a link have one stream holds of a new session, and after each action that is next; so it does after every list of actions. And a frame that
-- is written next is what its link sends next.
-- Example: two attempts wait on link 1. HEADERS are written for the first, on stream 1, and then for the second, on stream 3.
use Rattle.std.specs.Prelude.{Bool, List, Some, false, map, slice_get, ℕ, ◌&&◌, ◌==◌, ◌≡◌}
use Rattle.channel_actions.specs.KeptSessions.Kept.{IsKept}
use Rattle.channel_actions.specs.PrefacedLinks.Prefaced.{LinksArePrefaced}
use Rattle.channel_actions.specs.OwnStreams.Own.{StreamsAreOwn}
use Rattle.session_actions.specs.Actions.{after}
use Rattle.session_actions.specs.Attempts.{is_outstanding}
use Rattle.session_actions.specs.Sessions.{Does, IsNext, new_session}
use Rattle.session_actions.specs.Words.{holds, numbered}
use Rattle.session_actions.specs.Writing.{drained, sendable}
use Rattle.session_actions.specs.declared.action.Action.TheVariants as action
use Rattle.session_actions.specs.declared.action.Action.{Action}
use Rattle.session_actions.specs.declared.attempt.Attempt.{Attempt}
use Rattle.session_actions.specs.declared.link.Link.{Link}
use Rattle.session_actions.specs.declared.link.Sent.{Sent}
use Rattle.session_actions.specs.declared.seen.Seen.{Seen}
use Rattle.session_actions.specs.declared.seen.Setup.{Setup}

abbrev pub StreamsBegin : Type 0
StreamsBegin = (setup : Setup) → StreamsAreOwn (new_session setup)

abbrev pub StreamsStay : Type 0
StreamsStay = (s : Seen) (a : Action) → IsKept s → LinksArePrefaced s → StreamsAreOwn s → IsNext a s → StreamsAreOwn (after a s)

abbrev pub StreamsAlong : Type 0
StreamsAlong = (actions : List Action) (s t : Seen) → IsKept s → LinksArePrefaced s → StreamsAreOwn s → Does actions s t → StreamsAreOwn t

abbrev pub FramesAreSendable : Type 0
FramesAreSendable =
    (s : Seen) (link : ℕ) (x : Sent) (l : Link) → IsKept s → LinksArePrefaced s → IsNext (action.FrameWritten link x) s → numbered s.links link ≡ Some l → sendable l s ≡ Some x

-- so what is written on a link leaves what was written for every attempt that does not go on there
abbrev pub goes_on_at : ℕ → Attempt → Bool
goes_on_at link a = is_outstanding a && holds (λ at. at.link == link) a.row.placed

abbrev pub WritesLeaveOthers : Type 0
WritesLeaveOthers =
    (sent : List Sent) (link : ℕ) (s t : Seen) → IsKept s → LinksArePrefaced s → StreamsAreOwn s → Does (map (λ x. action.FrameWritten link x) sent) s t
    → (i : ℕ) (a : Attempt) → slice_get s.attempts i ≡ Some a → goes_on_at link a ≡ false → (slice_get t.attempts i ≡ Some a) × (drained a t ≡ drained a s)
