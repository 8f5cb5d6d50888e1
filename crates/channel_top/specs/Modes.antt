-- What the program reads and writes for the words that it is given, by its status.
use Rattle.std.specs.Prelude.{◌≡◌, ◌⊎◌, ℕ, Option, List}
use Rattle.lb_policy.specs.Table.{PolicySeen}
use Rattle.policy_rack.specs.Kinds.{kinds_of}
use Rattle.channel_top.specs.Top.{EndsFull, IsDone, IsReplayText, StopsAtRead, ReportsBadLine}
use Rattle.channel_top.specs.ConfigMode.{IsConfigDone, IsConfigText, StopsInConfig, ReportsConfigFault}
use Rattle.live_mode.specs.Live.{StopsInCalls, ReportsBadCall}
use Rattle.channel_top.specs.Live.{EndsFullAsPromised, IsLivedAsPromised, IsPromisedLiveText}
use Rattle.relay_mode.specs.Relayed.{EndsUnrelayed, StopsAtRelay, ReportsBadRelay}
use Rattle.channel_top.specs.Relay.{EndsRelayAsPromised, IsPromisedRelayText, IsRelayedAsPromised}
use Rattle.channel_top.specs.Migrate.{IsMigrateText, IsMigrated, StopsInReport, ReportsBadReport}
use Rattle.channel_top.specs.Serve.{EndsNotListening, IsServeText, IsServed, StopsInServer, ReportsBadAnswer}
use Rattle.channel_top.specs.Load.{FillsLoad, IsLoadDone, IsLoadText, RefusesLoad}
use Rattle.channel_top.specs.Words.{WordsAreWrong, AskForText, Runs, words_fault_text}
use Rattle.channel_top.specs.declared.words.Mode.{Mode}
use Rattle.channel_top.specs.declared.words.Mode.TheVariants as mode

-- a mode is done, and this is its text, where the program has these policies and the dialers of its world hold this for the links that they
-- will open, where they say them
abbrev pub IsDoneIn : List PolicySeen → List (Option (List (List ℕ))) → Mode → Option (List ℕ) → Option (List ℕ) → List ℕ → Type 0
IsDoneIn policies held mode.Replay left left' text = IsDone policies left left' text
IsDoneIn policies held mode.Config left left' text = IsConfigDone (kinds_of policies) left left' text
IsDoneIn policies held mode.Migrate left left' text = IsMigrated left left' text
IsDoneIn policies held (mode.Serve port links) left left' text = IsServed links left left' text
IsDoneIn policies held (mode.Load load) left left' text = (left' ≡ left) × IsLoadDone policies load text
IsDoneIn policies held (mode.Live settings) left left' text = IsLivedAsPromised policies held left left' text
IsDoneIn policies held (mode.Relay settings) left left' text = IsRelayedAsPromised policies held settings.links left left' text

-- this text of a mode reports the fault of its input
abbrev pub ReportsFaultIn : List PolicySeen → Mode → Option (List ℕ) → Option (List ℕ) → List ℕ → Type 0
ReportsFaultIn policies mode.Replay left left' text = ReportsBadLine left left' text
ReportsFaultIn policies mode.Config left left' text = ReportsConfigFault (kinds_of policies) left left' text
ReportsFaultIn policies mode.Migrate left left' text = ReportsBadReport left left' text
ReportsFaultIn policies (mode.Serve port links) left left' text = ReportsBadAnswer left left' text
ReportsFaultIn policies (mode.Load load) left left' text = ⊥
ReportsFaultIn policies (mode.Live settings) left left' text = ReportsBadCall left left' text
ReportsFaultIn policies (mode.Relay settings) left left' text = ReportsBadRelay left left' text

-- a read failed in a mode
abbrev pub StopsIn : Mode → Option (List ℕ) → Option (List ℕ) → Option (List ℕ) → Option (List ℕ) → ℕ → ℕ → Type 0
StopsIn mode.Replay left left' taken taken' faults faults' = StopsAtRead left left' taken taken' faults faults'
StopsIn mode.Config left left' taken taken' faults faults' = StopsInConfig left left' taken taken' faults faults'
StopsIn mode.Migrate left left' taken taken' faults faults' = StopsInReport left left' taken taken' faults faults'
StopsIn (mode.Serve port links) left left' taken taken' faults faults' = StopsInServer left left' taken taken' faults faults'
StopsIn (mode.Load load) left left' taken taken' faults faults' = ⊥
StopsIn (mode.Live settings) left left' taken taken' faults faults' = StopsInCalls left left' taken taken' faults faults'
StopsIn (mode.Relay settings) left left' taken taken' faults faults' = StopsAtRelay left left' taken taken' faults faults'

-- the output of a mode, by what it read
abbrev pub IsOutputIn : List PolicySeen → List (Option (List (List ℕ))) → Mode → Option (List ℕ) → Option (List ℕ) → List ℕ → Type 0
IsOutputIn policies held mode.Replay left left' text = IsReplayText policies left left' text
IsOutputIn policies held mode.Config left left' text = IsConfigText (kinds_of policies) left left' text
IsOutputIn policies held mode.Migrate left left' text = IsMigrateText left left' text
IsOutputIn policies held (mode.Serve port links) left left' text = IsServeText links left left' text
IsOutputIn policies held (mode.Load load) left left' text = (left' ≡ left) × IsLoadText policies load text
IsOutputIn policies held (mode.Live settings) left left' text = IsPromisedLiveText policies held left left' text
IsOutputIn policies held (mode.Relay settings) left left' text = IsPromisedRelayText policies held settings.links left left' text

-- status 0: the mode that the words run is done, and this is its text; or the words ask for the text of help or of the version, and
-- nothing is read
abbrev pub Finishes : List PolicySeen → List (Option (List (List ℕ))) → List (List ℕ) → Option (List ℕ) → Option (List ℕ) → List ℕ → Type 0
Finishes policies held words left left' text =
    ((m : Mode) × Runs m words × IsDoneIn policies held m left left' text) ⊎ (AskForText words × (left' ≡ left))

-- a mode wants a policy of a kind that none of these is of, and the text reports that as it reports wrong words
abbrev pub RefusesIn : List PolicySeen → Mode → Option (List ℕ) → Option (List ℕ) → List ℕ → Type 0
RefusesIn policies (mode.Load load) left left' text = (left' ≡ left) × RefusesLoad (kinds_of policies) text
RefusesIn policies m left left' text = ⊥

-- status 2: the words are wrong, the text reports that, and nothing is read; or the mode that they run wants a policy that is not there
abbrev pub RefusesWords : List PolicySeen → List (List ℕ) → Option (List ℕ) → Option (List ℕ) → List ℕ → Type 0
RefusesWords policies words left left' text =
    (WordsAreWrong words × (left' ≡ left) × (text ≡ words_fault_text)) ⊎ ((m : Mode) × Runs m words × RefusesIn policies m left left' text)

-- status 3: the text reports the fault of the input of the mode that the words run
abbrev pub ReportsFault : List PolicySeen → List (List ℕ) → Option (List ℕ) → Option (List ℕ) → List ℕ → Type 0
ReportsFault policies words left left' text = (m : Mode) × Runs m words × ReportsFaultIn policies m left left' text

-- the journal of a mode's session has no room for an event, and this text reports that
abbrev pub FillsIn : List PolicySeen → List (Option (List (List ℕ))) → Mode → Option (List ℕ) → Option (List ℕ) → List ℕ → Type 0
FillsIn policies held mode.Replay left left' text = EndsFull policies left left' text
FillsIn policies held (mode.Load load) left left' text = (left' ≡ left) × FillsLoad policies load text
FillsIn policies held (mode.Live settings) left left' text = EndsFullAsPromised policies held left left' text
FillsIn policies held (mode.Relay settings) left left' text = EndsRelayAsPromised policies held settings.links left left' text
FillsIn policies held m left left' text = ⊥

-- status 7: the words run a mode whose journal got full
abbrev pub EndsSession : List PolicySeen → List (Option (List (List ℕ))) → List (List ℕ) → Option (List ℕ) → Option (List ℕ) → List ℕ → Type 0
EndsSession policies held words left left' text = (m : Mode) × Runs m words × FillsIn policies held m left left' text

-- status 8: the words run a mode that listens, and a call of the listener failed
abbrev pub NotListeningIn : Mode → Option (List ℕ) → Option (List ℕ) → Option (List ℕ) → Option (List ℕ) → ℕ → ℕ → Type 0
NotListeningIn (mode.Serve port links) left left' taken taken' faults faults' = EndsNotListening left left' taken taken' faults faults'
NotListeningIn (mode.Relay settings) left left' taken taken' faults faults' = EndsUnrelayed left left' taken taken' faults faults'
NotListeningIn m left left' taken taken' faults faults' = ⊥

abbrev pub NotListening : List (List ℕ) → Option (List ℕ) → Option (List ℕ) → Option (List ℕ) → Option (List ℕ) → ℕ → ℕ → Type 0
NotListening words left left' taken taken' faults faults' = (m : Mode) × Runs m words × NotListeningIn m left left' taken taken' faults faults'

-- status 4: a read failed in the mode that the words run
abbrev pub StopsReading : List (List ℕ) → Option (List ℕ) → Option (List ℕ) → Option (List ℕ) → Option (List ℕ) → ℕ → ℕ → Type 0
StopsReading words left left' taken taken' faults faults' = (m : Mode) × Runs m words × StopsIn m left left' taken taken' faults faults'

-- the output of the program, by what it read: that of status 0, 2, 3 or 7
abbrev pub IsOutput : List PolicySeen → List (Option (List (List ℕ))) → List (List ℕ) → Option (List ℕ) → Option (List ℕ) → List ℕ → Type 0
IsOutput policies held words left left' text =
    Finishes policies held words left left' text
    ⊎ (RefusesWords policies words left left' text ⊎ (ReportsFault policies words left left' text ⊎ EndsSession policies held words left left' text))
