-- Every frame is of one of the kinds.
use Rattle.std.proofs.Common.{◌≡◌, ◌==◌, ap, refl, ◌∙◌, Bool, true, false, Some, drop}
use Rattle.frame_cases.proofs.QuietFrames.Received.{quiet_frames_are_handled}
use Rattle.frame_cases.specs.FrameKinds.Laws.{Ends, FrameKind, FramesByKinds, Prefaces, Heads, Large, Messages, Quiet, kind_of}
use Rattle.frame_cases.specs.PieceWalks.Points.{HasReceived}
use Rattle.channel_core.specs.Arrivals.{frame_received}
use Rattle.h2_frame.specs.Numbers.{goaway_type}
use Rattle.session_actions.specs.Writing.{next_frame_read}
use Rattle.session_actions.specs.declared.action.Action.{Action}
use Rattle.session_actions.specs.declared.action.Action.TheVariants as action
use Rattle.frame_cases.proofs.FrameKinds.Reported.{quiet_none}

pub frames_by_kinds : FramesByKinds
frames_by_kinds ends larges heads messages prefaces goaways link piece x o s a h is next receives case = by_goaway (case.0.frame.kind == goaway_type) refl
  where
    abbrev_next : next_frame_read link s ≡ Some (action.FrameRead link case.0)
    abbrev_next = next ∙ ap (λ (b : Action). Some b) case.1

    by_kind : (case.0.frame.kind == goaway_type) ≡ false → (k : FrameKind) → kind_of h.news ≡ k → HasReceived link (drop h.taken piece) (frame_received link h x) o s
    by_kind stays Ends e = ends link piece x o s a h is next receives (record { frame = case.0; is = case.1; stays = stays; kind_is = e })
    by_kind stays Large e = larges link piece x o s a h is next receives (record { frame = case.0; is = case.1; stays = stays; kind_is = e })
    by_kind stays Heads e = heads link piece x o s a h is next receives (record { frame = case.0; is = case.1; stays = stays; kind_is = e })
    by_kind stays Messages e = messages link piece x o s a h is next receives (record { frame = case.0; is = case.1; stays = stays; kind_is = e })
    by_kind stays Prefaces e = prefaces link piece x o s a h is next receives (record { frame = case.0; is = case.1; stays = stays; kind_is = e })
    by_kind stays Quiet e =
        quiet_frames_are_handled link piece x o s a h is next receives
        (record { frame = case.0; is = case.1; stays = stays; none = quiet_none link piece x o s is h case.0 abbrev_next receives stays e })

    by_goaway : (b : Bool) → (case.0.frame.kind == goaway_type) ≡ b → HasReceived link (drop h.taken piece) (frame_received link h x) o s
    by_goaway true e = goaways link piece x o s a h is next receives (record { frame = case.0; is = case.1; goes = e })
    by_goaway false e = by_kind e (kind_of h.news) refl
