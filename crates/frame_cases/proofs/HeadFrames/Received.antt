-- A head is handled: it commits its call, or comes for one that is committed.
use Rattle.std.proofs.Common.{◌≡◌, ◌==◌, ap, refl, ◌∙◌, false, Option, None, Some, ℕ, drop}
use Rattle.channel_core.specs.Arrivals.{frame_received}
use Rattle.frame_cases.proofs.HeadFrames.Come as come
use Rattle.frame_cases.proofs.HeadFrames.First.{received_first}
use Rattle.frame_cases.proofs.HeadFrames.Late.{received_late}
use Rattle.frame_cases.specs.FrameKinds.Laws.{HeadsAreHandled}
use Rattle.frame_cases.specs.PieceWalks.Points.{HasReceived}
use Rattle.session_actions.specs.Attempts.{commitment}
use Rattle.session_actions.specs.Writing.{next_frame_read}
use Rattle.session_actions.specs.declared.action.Action.{Action}
use Rattle.session_actions.specs.declared.action.Action.TheVariants as action
use Rattle.session_actions.specs.declared.attempt.Attempt.{Attempt}

pub heads_are_handled : HeadsAreHandled
heads_are_handled link piece x o s a h is next receives case = by (commitment (come.c link piece x o s is h case.frame shown receives case.stays case.kind_is) s) refl
  where
    shown : next_frame_read link s ≡ Some (action.FrameRead link case.frame)
    shown = next ∙ ap (λ (b : Action). Some b) case.is

    by : (q : Option Attempt) → commitment (come.c link piece x o s is h case.frame shown receives case.stays case.kind_is) s ≡ q → HasReceived link (drop h.taken piece) (frame_received link h x) o s
    by None e = received_first link piece x o s is h case.frame shown receives case.stays case.kind_is e
    by (Some k) e = received_late link piece x o s is h case.frame shown receives case.stays case.kind_is k e
