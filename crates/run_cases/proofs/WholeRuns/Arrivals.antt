-- Bytes that arrive, by what they show: frames of each kind, and bytes that break the link.
use Rattle.channel_actions.specs.Stages.{EventsAnswered}
use Rattle.end_cases.specs.AttemptEnds.Laws.{OneAttemptEnds}
use Rattle.frame_cases.specs.BrokenLinks.Laws.{BrokenLinksAreHandled}
use Rattle.frame_cases.specs.EndedFrames.Laws.{EndedFramesAreHandled}
use Rattle.frame_cases.specs.FirstSettings.Laws.{PrefacedFramesAreHandled}
use Rattle.frame_cases.specs.FrameKinds.Laws.{FramesByKinds, HeadsAreHandled, LargeMessagesAreHandled, MessagesAreHandled}
use Rattle.frame_cases.specs.RetiredLinks.Laws.{RetiredLinksAreHandled}
use Rattle.run_cases.specs.ReadOut.Laws.{ArrivalsAreAnswered}
use Rattle.run_cases.specs.WholeRuns.Parts.{IsArrival}

pub record FrameLaws : Type 0 where
  pub arrivals : ArrivalsAreAnswered
  pub kinds : FramesByKinds
  pub ended : EndedFramesAreHandled
  pub large : LargeMessagesAreHandled
  pub heads : HeadsAreHandled
  pub messages : MessagesAreHandled
  pub prefaced : PrefacedFramesAreHandled
  pub goaways : RetiredLinksAreHandled
  pub breaks : BrokenLinksAreHandled

pub arrivals_known : FrameLaws → OneAttemptEnds → EventsAnswered IsArrival
arrivals_known laws ends =
    laws.arrivals
    (laws.kinds (laws.ended ends) laws.large laws.heads laws.messages
    (λ link piece x o s a h is next receives case. laws.prefaced link piece x o s a h is next receives (case, is.known.prefaced)) (laws.goaways ends))
    (laws.breaks ends)
