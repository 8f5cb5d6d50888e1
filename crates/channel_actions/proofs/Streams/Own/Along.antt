-- It holds of a new session, after each action that is next, and so after every list of actions.
use Rattle.channel_actions.proofs.KeptSessions.Along.{kept_stays}
use Rattle.channel_actions.proofs.Links.Prefaced.Along.{prefaced_stays}
use Rattle.channel_actions.proofs.Links.Prefaced.Lines.{next_fits}
use Rattle.channel_actions.proofs.Streams.Own.Parts.{Own}
use Rattle.channel_actions.proofs.Streams.Own.Steps.{own_after}
use Rattle.channel_actions.specs.OwnStreams.Laws.{FramesAreSendable, StreamsAlong, StreamsBegin, StreamsStay}
use Rattle.channel_actions.specs.OwnStreams.Own.{StreamsAreOwn}
use Rattle.session_actions.specs.Actions.{after}
use Rattle.session_actions.specs.declared.action.Action.TheVariants as action
use Rattle.session_actions.specs.declared.attempt.Attempt.{Attempt}
use Rattle.std.proofs.Common.{None, Some, [], refl, subst, sym, zero, suc, ℕ, ◌∷◌, ◌≡◌}
use Rattle.session_actions.specs.Words.{numbered}

none_there : (i : ℕ) (a : Attempt) → numbered [] i ≡ Some a → ⊥
none_there zero a e = let no : None ≡ Some a = e in absurd (cc)
none_there (suc i) a e = let no : None ≡ Some a = e in absurd (cc)

pub streams_begin : StreamsBegin
streams_begin setup = record { opened = refl; apart = λ i j n a b at to first second on off same one two. absurd (none_there i a first) }

pub streams_stay : StreamsStay
streams_stay s a kept prefaced own next =
    let h : Own (after a s) = own_after s a kept (next_fits s a kept prefaced next) (record { opened = own.opened; apart = own.apart }) in
    record { opened = h.opened; apart = h.apart }

pub streams_along : StreamsAlong
streams_along [] s t kept prefaced own does = subst StreamsAreOwn (sym does) own
streams_along (a ∷ actions) s t kept prefaced own does =
    streams_along actions (after a s) t (kept_stays s a kept does.0) (prefaced_stays s a kept prefaced does.0) (streams_stay s a kept prefaced own does.0) does.1

pub frames_are_sendable : FramesAreSendable
frames_are_sendable s link x l kept prefaced next got = next_fits s (action.FrameWritten link x) kept prefaced next l got
