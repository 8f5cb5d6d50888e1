-- The output of a mode is that of the program.
use Rattle.std.proofs.Common.{◌≡◌, ℕ, Option, List, inl, inr, subst, sym}
use Rattle.lb_policy.specs.Table.{PolicySeen}
use Rattle.policy_rack.specs.Kinds.{kinds_of}
use Rattle.load_plan.specs.declared.load.Load.{Load}
use Rattle.gate_io.specs.Outside.{AppendsPrefix}
use Rattle.script_text.proofs.Passing.{AppendsPrefix-none}
use Rattle.channel_top.specs.Load.{FillsLoad, IsLoadDone, IsLoadText, RefusesLoad}
use Rattle.channel_top.specs.Modes.{FillsIn, IsDoneIn, IsOutput, IsOutputIn, RefusesIn}
use Rattle.channel_top.specs.Live.{EndsFullAsPromised, IsLivedAsPromised, IsPromisedLiveText}
use Rattle.channel_top.specs.Relay.{EndsRelayAsPromised, IsPromisedRelayText, IsRelayedAsPromised}
use Rattle.live_mode.specs.declared.settings.LiveSettings.{LiveSettings}
use Rattle.relay_mode.specs.declared.settings.RelaySettings.{RelaySettings}
use Rattle.channel_top.specs.Migrate.{IsMigrateText}
use Rattle.channel_top.specs.Top.{EndsFull, IsDone, IsReplayText}
use Rattle.channel_top.specs.Words.{Runs}
use Rattle.channel_top.specs.declared.words.Mode.{Mode}
use Rattle.channel_top.specs.declared.words.Mode.TheVariants as mode

-- nothing written is a prefix of any text
pub none_written : (taken : Option (List ℕ)) (text : List ℕ) → AppendsPrefix taken taken text
none_written taken text = AppendsPrefix-none taken text

-- the output of the mode that the words run is that of the program
pub output_of : (policies : List PolicySeen) (held : List (Option (List (List ℕ)))) (m : Mode) (words : List (List ℕ)) (left left' : Option (List ℕ)) → Runs m words → (text : List ℕ) → IsOutputIn policies held m left left' text → IsOutput policies held words left left' text
output_of policies held mode.Replay words left left' runs text (inl (inl done)) = inl (inl (mode.Replay, runs, done))
output_of policies held mode.Replay words left left' runs text (inl (inr full)) = inr (inr (inr (mode.Replay, runs, full)))
output_of policies held mode.Replay words left left' runs text (inr fault) = inr (inr (inl (mode.Replay, runs, fault)))
output_of policies held mode.Config words left left' runs text (inl done) = inl (inl (mode.Config, runs, done))
output_of policies held mode.Config words left left' runs text (inr fault) = inr (inr (inl (mode.Config, runs, fault)))
output_of policies held mode.Migrate words left left' runs text (inl done) = inl (inl (mode.Migrate, runs, done))
output_of policies held mode.Migrate words left left' runs text (inr fault) = inr (inr (inl (mode.Migrate, runs, fault)))
output_of policies held (mode.Serve port links) words left left' runs text (inl done) = inl (inl (mode.Serve port links, runs, done))
output_of policies held (mode.Serve port links) words left left' runs text (inr fault) = inr (inr (inl (mode.Serve port links, runs, fault)))
output_of policies held (mode.Load load) words left left' runs text (same, inl done) = inl (inl (mode.Load load, runs, (same, done)))
output_of policies held (mode.Load load) words left left' runs text (same, inr (inl refused)) = inr (inl (inr (mode.Load load, runs, (same, refused))))
output_of policies held (mode.Load load) words left left' runs text (same, inr (inr full)) = inr (inr (inr (mode.Load load, runs, (same, full))))
output_of policies held (mode.Live settings) words left left' runs text (inl (inl done)) = inl (inl (mode.Live settings, runs, done))
output_of policies held (mode.Live settings) words left left' runs text (inl (inr full)) = inr (inr (inr (mode.Live settings, runs, full)))
output_of policies held (mode.Live settings) words left left' runs text (inr fault) = inr (inr (inl (mode.Live settings, runs, fault)))
output_of policies held (mode.Relay settings) words left left' runs text (inl (inl done)) = inl (inl (mode.Relay settings, runs, done))
output_of policies held (mode.Relay settings) words left left' runs text (inl (inr full)) = inr (inr (inr (mode.Relay settings, runs, full)))
output_of policies held (mode.Relay settings) words left left' runs text (inr fault) = inr (inr (inl (mode.Relay settings, runs, fault)))

-- the output of the mode `replay` is that of its mode
pub replay_done : (policies : List PolicySeen) (held : List (Option (List (List ℕ)))) (m : Mode) (left left' : Option (List ℕ)) → m ≡ mode.Replay → (text : List ℕ) → IsDone policies left left' text → IsDoneIn policies held m left left' text
replay_done policies held m left left' is text done = subst (λ (x : Mode). IsDoneIn policies held x left left' text) (sym is) done

pub replay_full : (policies : List PolicySeen) (held : List (Option (List (List ℕ)))) (m : Mode) (left left' : Option (List ℕ)) → m ≡ mode.Replay → (text : List ℕ) → EndsFull policies left left' text → FillsIn policies held m left left' text
replay_full policies held m left left' is text full = subst (λ (x : Mode). FillsIn policies held x left left' text) (sym is) full

pub replay_output : (policies : List PolicySeen) (held : List (Option (List (List ℕ)))) (m : Mode) (left left' : Option (List ℕ)) → m ≡ mode.Replay → (text : List ℕ) → IsReplayText policies left left' text → IsOutputIn policies held m left left' text
replay_output policies held m left left' is text reported = subst (λ (x : Mode). IsOutputIn policies held x left left' text) (sym is) reported

-- so is that of the mode `migrate`
pub migrate_output : (policies : List PolicySeen) (held : List (Option (List (List ℕ)))) (m : Mode) (left left' : Option (List ℕ)) → m ≡ mode.Migrate → (text : List ℕ) → IsMigrateText left left' text → IsOutputIn policies held m left left' text
migrate_output policies held m left left' is text reported = subst (λ (x : Mode). IsOutputIn policies held x left left' text) (sym is) reported

-- what the mode `load` writes is that of its mode
pub load_output : (policies : List PolicySeen) (held : List (Option (List (List ℕ)))) (m : Mode) (load : Load) (left left' : Option (List ℕ)) → m ≡ mode.Load load → left' ≡ left → (text : List ℕ) → IsLoadText policies load text → IsOutputIn policies held m left left' text
load_output policies held m load left left' is same text reported = subst (λ (x : Mode). IsOutputIn policies held x left left' text) (sym is) (same, reported)

pub load_done : (policies : List PolicySeen) (held : List (Option (List (List ℕ)))) (m : Mode) (load : Load) (left left' : Option (List ℕ)) → m ≡ mode.Load load → left' ≡ left → (text : List ℕ) → IsLoadDone policies load text → IsDoneIn policies held m left left' text
load_done policies held m load left left' is same text done = subst (λ (x : Mode). IsDoneIn policies held x left left' text) (sym is) (same, done)

pub load_refused : (policies : List PolicySeen) (m : Mode) (load : Load) (left left' : Option (List ℕ)) → m ≡ mode.Load load → left' ≡ left → (text : List ℕ) → RefusesLoad (kinds_of policies) text → RefusesIn policies m left left' text
load_refused policies m load left left' is same text refused = subst (λ (x : Mode). RefusesIn policies x left left' text) (sym is) (same, refused)

pub load_full : (policies : List PolicySeen) (held : List (Option (List (List ℕ)))) (m : Mode) (load : Load) (left left' : Option (List ℕ)) → m ≡ mode.Load load → left' ≡ left → (text : List ℕ) → FillsLoad policies load text → FillsIn policies held m left left' text
load_full policies held m load left left' is same text full = subst (λ (x : Mode). FillsIn policies held x left left' text) (sym is) (same, full)

-- the output of the mode `live` is that of its mode
pub live_output : (policies : List PolicySeen) (held : List (Option (List (List ℕ)))) (m : Mode) (settings : LiveSettings) (left left' : Option (List ℕ)) → m ≡ mode.Live settings → (text : List ℕ) → IsPromisedLiveText policies held left left' text → IsOutputIn policies held m left left' text
live_output policies held m settings left left' is text reported = subst (λ (x : Mode). IsOutputIn policies held x left left' text) (sym is) reported

pub live_done : (policies : List PolicySeen) (held : List (Option (List (List ℕ)))) (m : Mode) (settings : LiveSettings) (left left' : Option (List ℕ)) → m ≡ mode.Live settings → (text : List ℕ) → IsLivedAsPromised policies held left left' text → IsDoneIn policies held m left left' text
live_done policies held m settings left left' is text done = subst (λ (x : Mode). IsDoneIn policies held x left left' text) (sym is) done

pub live_full : (policies : List PolicySeen) (held : List (Option (List (List ℕ)))) (m : Mode) (settings : LiveSettings) (left left' : Option (List ℕ)) → m ≡ mode.Live settings → (text : List ℕ) → EndsFullAsPromised policies held left left' text → FillsIn policies held m left left' text
live_full policies held m settings left left' is text full = subst (λ (x : Mode). FillsIn policies held x left left' text) (sym is) full

-- the output of the mode `relay` is that of its mode
pub relay_output : (policies : List PolicySeen) (held : List (Option (List (List ℕ)))) (m : Mode) (settings : RelaySettings) (left left' : Option (List ℕ)) → m ≡ mode.Relay settings → (text : List ℕ) → IsPromisedRelayText policies held settings.links left left' text → IsOutputIn policies held m left left' text
relay_output policies held m settings left left' is text reported = subst (λ (x : Mode). IsOutputIn policies held x left left' text) (sym is) reported

pub relay_done : (policies : List PolicySeen) (held : List (Option (List (List ℕ)))) (m : Mode) (settings : RelaySettings) (left left' : Option (List ℕ)) → m ≡ mode.Relay settings → (text : List ℕ) → IsRelayedAsPromised policies held settings.links left left' text → IsDoneIn policies held m left left' text
relay_done policies held m settings left left' is text done = subst (λ (x : Mode). IsDoneIn policies held x left left' text) (sym is) done

pub relay_full : (policies : List PolicySeen) (held : List (Option (List (List ℕ)))) (m : Mode) (settings : RelaySettings) (left left' : Option (List ℕ)) → m ≡ mode.Relay settings → (text : List ℕ) → EndsRelayAsPromised policies held settings.links left left' text → FillsIn policies held m left left' text
relay_full policies held m settings left left' is text full = subst (λ (x : Mode). FillsIn policies held x left left' text) (sym is) full
