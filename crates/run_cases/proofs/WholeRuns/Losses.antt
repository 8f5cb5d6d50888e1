-- The loss of a link is answered, with what runs keep, where one attempt ends alike.
use Rattle.event_cases.specs.FewStreams.Laws.{AttemptsAreFew}
use Rattle.std.proofs.Common.{◌<◌, ℕ, arith, length}
use Rattle.channel_actions.specs.SoundBuffers.Held.{BuffersAreSound}
use Rattle.channel_actions.specs.SoundBuffers.Laws.{EachHoldsSoundly}
use Rattle.channel_actions.specs.SoundCalls.Sound.{CallsAreSound}
use Rattle.end_cases.specs.AttemptEnds.Ends.{AreHeld}
use Rattle.end_cases.specs.AttemptEnds.Runs.{RunsOfSessions}
use Rattle.event_cases.specs.LostLinks.Laws.{LostLinksAreAnswered}
use Rattle.run_cases.specs.WholeRuns.Parts.{KnownLossesAreAnswered}
use Rattle.channel_core.specs.States.{StateSeen}

held_known : EachHoldsSoundly → (x : StateSeen) → CallsAreSound x → BuffersAreSound x → AreHeld x
held_known each x calls buffers number slot at = record { rows_are = (calls.slots number slot at).held; alone = (each x number slot buffers at).alone }

few_by : (n : ℕ) → n < 7696581394432 → n < 18446744073709551615
few_by n e = omega (arith, e)

pub losses_known : AttemptsAreFew → EachHoldsSoundly → LostLinksAreAnswered → RunsOfSessions → KnownLossesAreAnswered
losses_known attempts each lost runs ends x y r o s h at fresh timely case answers =
    lost ends x y r o s h at fresh timely
    (record {
      link = case.link;
      event_is = case.event_is;
      kept = case.kept;
      known = case.known;
      rising = runs case.known.reached.setup case.known.reached.actions s case.known.reached.does;
      held = held_known each x case.known.calls case.known.buffers;
      few = few_by (length s.attempts) (attempts x s case.known);
    }) answers
