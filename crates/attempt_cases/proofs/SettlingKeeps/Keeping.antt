-- Each part of a settling keeps what the others ask of channel and session.
use Rattle.std.proofs.Common.{◌≡◌, ◌<◌, ◌≤◌, ℕ, List, arith, length}
use Rattle.channel_actions.proofs.Calls.Few.Reached.{reached_on}
use Rattle.channel_actions.proofs.Calls.Going.Arms.{CallLaws}
use Rattle.channel_actions.proofs.HeldTexts.Carried.{Trims, chosen_trims, rests_trim}
use Rattle.channel_actions.proofs.HeldTexts.Fits.{texts_on}
use Rattle.channel_actions.proofs.SoundBuffers.Carried.{Stay, go_chosen, stay_in, stay_rests}
use Rattle.channel_actions.proofs.Calls.Sound.Carried.{Settled, Settles, configures, rests}
use Rattle.channel_actions.proofs.Calls.Sound.Keeping.{goes_on, sound_of, sound_to}
use Rattle.channel_actions.specs.KeptCalls.Laws.{EarlyAlong}
use Rattle.channel_actions.specs.SoundCalls.Sound.{all_attempts}
use Rattle.call_cases.specs.SettlingActions.Laws.{SettlingKeeps, queue_served_state}
use Rattle.call_cases.specs.SettlingActions.Sound.{SoundStays}
use Rattle.call_cases.specs.SettlingActions.Steps.{round_made_state}
use Rattle.channel_core.proofs.RestingSteps.{clock, make_round, pass, serve_unconfigured, settle_net}
use Rattle.channel_core.specs.Settling.{most, stays}
use Rattle.channel_core.specs.States.{StateSeen}
use Rattle.channel_core.specs.Steps.{unconfigured_served, clocked, net_settled}
use Rattle.session_actions.specs.declared.action.Action.{Action}
use Rattle.session_actions.specs.declared.seen.Seen.{Seen}

pub stays_by : (step : StateSeen → StateSeen) → ((x : StateSeen) → Settles x (step x)) → ((x : StateSeen) → Stay x (step x)) → ((x : StateSeen) → Trims x (step x)) → EarlyAlong → SoundStays step
stays_by step settles stays trims along x s t actions h sound does after =
    let r : Settled x (step x) = settles x (sound_of x sound.calls) in
    let before : length s.calls ≡ length x.book.calls = h.calls.count in
    let now : length t.calls ≡ length (step x).book.calls = after.calls.count in
    let same : length (step x).book.calls ≡ length x.book.calls = r.count in
    let few : length s.calls ≤ 1048576 = sound.few in
    let room : all_attempts x < 8796093022208 = sound.room in
    let less : all_attempts (step x) ≤ all_attempts x = r.all in
    record {
      few = omega (arith, before, now, same, few);
      room = le_on (all_attempts (step x)) (all_attempts x) less room;
      reached = reached_on s t actions sound.reached does;
      early = along actions s t h.kept sound.early does;
      calls = sound_to (step x) r.kept.sound;
      buffers = stay_in x (step x) (stays x) (goes_on x sound.calls) sound.buffers;
      texts = texts_on x s t actions h sound.texts does (step x) (trims x) after;
    }
  where
    le_on : (a b : ℕ) → a ≤ b → b < 8796093022208 → a < 8796093022208
    le_on a b e f = omega (arith, e, f)

pub settling_keeps : CallLaws → EarlyAlong → SettlingKeeps
settling_keeps laws along = record {
  clocks = stays_by clocked (λ x. clock Settles (rests laws) x) (λ x. clock Stay (stay_rests laws) x) (λ x. clock Trims rests_trim x) along;
  nets = stays_by net_settled (λ x. settle_net Settles (rests laws) x) (λ x. settle_net Stay (stay_rests laws) x) (λ x. settle_net Trims rests_trim x) along;
  configs = stays_by unconfigured_served (λ x. serve_unconfigured Settles (rests laws) x (configures laws)) (λ x. serve_unconfigured Stay (stay_rests laws) x (go_chosen laws)) (λ x. serve_unconfigured Trims rests_trim x chosen_trims) along;
  making = stays_by round_made_state (λ x. make_round Settles (rests laws) x) (λ x. make_round Stay (stay_rests laws) x) (λ x. make_round Trims rests_trim x) along;
  queue =
      stays_by queue_served_state (λ x. pass Settles (rests laws) most (0, 0) (stays x)) (λ x. pass Stay (stay_rests laws) most (0, 0) (stays x)) (λ x. pass Trims rests_trim most (0, 0) (stays x)) along;
}
