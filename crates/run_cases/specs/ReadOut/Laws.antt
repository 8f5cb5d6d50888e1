-- Where an entry comes to its event, all that came on its links was read, as far as it shows whole frames: an entry whose event brings bytes reads them before it settles.
-- So a piece that arrives is answered where its frames are handled, with what runs keep.
-- Example: two frames and 3 bytes of a third arrive. Both are read before the entry settles, and the next entry begins with these 3 bytes unread.
use Rattle.std.specs.Prelude.{List, Some, ℕ, ◌≡◌}
use Rattle.channel_actions.specs.Stages.{EventsAnswered}
use Rattle.run_cases.specs.WholeRuns.Parts.{IsArrival}
use Rattle.frame_cases.specs.PieceWalks.Laws.{BreaksAreHandled, FramesAreHandled}
use Rattle.frame_cases.specs.PieceWalks.Points.{IsReadOut}
use Rattle.session_actions.specs.Sessions.{Does, new_session}
use Rattle.session_actions.specs.Words.{numbered}
use Rattle.session_actions.specs.declared.action.Action.{Action}
use Rattle.session_actions.specs.declared.entry.OpenEntry.{OpenEntry}
use Rattle.session_actions.specs.declared.entry.Stage.TheVariants as stage
use Rattle.session_actions.specs.declared.link.Link.{Link}
use Rattle.session_actions.specs.declared.seen.Seen.{Seen}
use Rattle.session_actions.specs.declared.seen.Setup.{Setup}

abbrev pub LinksAreReadOut : Type 0
LinksAreReadOut =
    (setup : Setup) (actions : List Action) (s : Seen) → Does actions (new_session setup) s → (o : OpenEntry) → s.current ≡ Some o → o.stage ≡ stage.Event
    → (link : ℕ) (l : Link) → numbered s.links link ≡ Some l → IsReadOut l

abbrev pub ArrivalsAreAnswered : Type 0
ArrivalsAreAnswered = FramesAreHandled → BreaksAreHandled → EventsAnswered IsArrival
