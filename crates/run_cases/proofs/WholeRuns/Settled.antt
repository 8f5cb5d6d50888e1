-- A settling, with what runs keep.
use Rattle.channel_actions.specs.Agrees.{Agrees}
use Rattle.channel_actions.specs.Quiescent.{IsAt}
use Rattle.channel_actions.specs.HeldTexts.Fits.{TextsFit}
use Rattle.channel_actions.specs.Known.{IsKnown}
use Rattle.channel_actions.specs.Stages.{IsSettled}
use Rattle.event_cases.specs.FewStreams.Laws.{AttemptsAreFew}
use Rattle.run_cases.proofs.KnownStages.Deadlines.{calls_known}
use Rattle.run_cases.proofs.WholeRuns.Counts.{attempts_known}
use Rattle.attempt_cases.specs.MakingSteps.Laws.{LastIsWithheld}
use Rattle.attempt_cases.specs.ServeSteps.Follows.{FailsFollow, NetsMayAsk, PlacesFollow}
use Rattle.call_cases.specs.SettlingActions.Sound.{IsSound}
use Rattle.call_cases.specs.SettlingActions.Steps.{ClockSteps, NetSteps}
use Rattle.run_cases.specs.SettlingParts.Laws.{SettlingsStand}
use Rattle.channel_core.specs.States.{StateSeen}
use Rattle.session_actions.specs.declared.entry.OpenEntry.{OpenEntry}
use Rattle.session_actions.specs.declared.entry.Stage.TheVariants as stage
use Rattle.session_actions.specs.declared.seen.Seen.{Seen}
use Rattle.std.proofs.Common.{None, ◌≡◌}

pub settlings_done : AttemptsAreFew → ClockSteps → NetSteps → PlacesFollow → SettlingsStand → NetsMayAsk → LastIsWithheld → FailsFollow → (x : StateSeen) (o : OpenEntry) (s : Seen) → Agrees x s → IsAt stage.Settling o s
    → o.turn ≡ None → TextsFit x s → IsKnown x s → IsSettled x o s
settlings_done few clocks nets places settlings asks withheld fails x o s h at fresh texts known =
    settlings clocks nets withheld asks places fails x o s h at fresh
    (record {
      few = calls_known x s known;
      room = attempts_known few x s h known;
      reached = known.reached;
      early = known.early;
      calls = known.calls;
      buffers = known.buffers;
      texts = texts;
    })
