-- How a mode ends by what it is given, where no device fails.
use Rattle.std.proofs.Common.{◌≡◌, ◌⊎◌, ◌∙◌, ℕ, Option, Some, None, List, [], ap, inl, inr, refl, subst, sym}
use Rattle.std.specs.Prelude.{IsSomeAnd, Result, Ok, Err}
use Rattle.std.proofs.lemmas.Bool.{true≢false}
use Rattle.clap.specs.Kinds.{IsAmong, Kinds}
use Rattle.clap.specs.declared.error.kind.ErrorKind.TheVariants as shown
use Rattle.gate_io.specs.Outside.{Rises, Takes, one_more}
use Rattle.grpc_base.specs.Kinds.{KindsSeen}
use Rattle.grpc_base.specs.declared.event.ConfigFault.{ConfigFault}
use Rattle.grpc_base.specs.declared.script.AnswerLine.{AnswerLine}
use Rattle.lb_policy.specs.Table.{PolicySeen}
use Rattle.policy_rack.specs.Kinds.{kinds_of}
use Rattle.script_input.specs.Lives.{IsFirstBadLive, IsLive, IsNothing, ReadsLive}
use Rattle.script_input.specs.Relays.{IsFirstBadRelay, ReadsRelay}
use Rattle.script_input.specs.Scripts.{IsFirstBad}
use Rattle.script_input.specs.Servers.{IsFirstBadAnswer, IsServer, ReadsServer}
use Rattle.script_input.specs.declared.form.Form.{Form}
use Rattle.script_input.specs.declared.form.Form.TheVariants as form
use Rattle.script_input.specs.declared.live_script.LiveScript.{LiveScript}
use Rattle.service_config.specs.Reading.{config_of}
use Rattle.service_config.specs.declared.config.Config.{Config}
use Rattle.session_text.specs.Writing.{WritesAll}
use Rattle.live_mode.specs.Live.{ReportsBadCall}
use Rattle.relay_mode.specs.Relayed.{ReportsBadRelay}
use Rattle.channel_top.specs.ConfigMode.{ReportsConfigFault}
use Rattle.channel_top.specs.Inputs.{HasItsPolicies, HasSession, IsAnyScript, IsGivenItsInput, IsGivenOther, IsInputOf}
use Rattle.channel_top.specs.Migrate.{Migrates, ReportsBadReport}
use Rattle.channel_top.specs.Modes.{EndsSession, FillsIn, Finishes, IsDoneIn, RefusesIn, RefusesWords, StopsIn, StopsReading, ReportsFault, ReportsFaultIn, NotListening, NotListeningIn}
use Rattle.channel_top.specs.Serve.{ReportsBadAnswer}
use Rattle.channel_top.specs.Top.{Reports, ReportsBadLine}
use Rattle.channel_top.specs.Words as words_of
use Rattle.channel_top.specs.Words.{WordsAreWrong, AskForText, AskPlainly, Runs, mode_of, name_of}
use Rattle.channel_top.specs.declared.words.Mode.{Mode}
use Rattle.channel_top.specs.declared.words.Mode.TheVariants as mode
use Rattle.channel_top.specs.declared.words.ModeName.{ModeName}
use Rattle.channel_top.specs.declared.words.ModeName.TheVariants as name
use Rattle.channel_top.proofs.GrammarLaws.{no_bad, no_bad_answer, no_bad_in_none, no_bad_live, no_bad_relay, not_nothing}
use Rattle.channel_top.proofs.TakenLaws.{all_taken, found, found_one}
use Rattle.channel_top.proofs.WordFaults.{mode_of_runs, no_text, plain_are_text, runs_are_taken, the_some}

-- ---- an input that is known

some_and : (left : Option (List ℕ)) (P : List ℕ → Type 0) → IsSomeAnd left P → (input : List ℕ) × (left ≡ Some input) × P input
some_and None P is = absurd is
some_and (Some input) P is = (input, refl, is)

and_some : (input : List ℕ) (left : Option (List ℕ)) (P : List ℕ → Type 0) → left ≡ Some input → P input → IsSomeAnd left P
and_some input left P same is = subst (λ (l : Option (List ℕ)). IsSomeAnd l P) (sym same) is

-- ---- a fault is of something else

no_bad_script : (f : Form) (input : List ℕ) (n cause : ℕ) → IsAnyScript f input → IsFirstBad f input n cause → ⊥
no_bad_script f input n cause (inl none) bad = no_bad_in_none f n cause (subst (λ (x : List ℕ). IsFirstBad f x n cause) none bad)
no_bad_script f input n cause (inr (target, value, events, script)) bad = no_bad f input target value events n cause script bad

replay_fault : (left left' : Option (List ℕ)) (text : List ℕ) → IsSomeAnd left (IsAnyScript form.Script) → ReportsBadLine left left' text → ⊥
replay_fault left left' text is reports_that =
    let of : (input : List ℕ) × (left ≡ Some input) × IsAnyScript form.Script input = some_and left (IsAnyScript form.Script) is in
    no_bad_script form.Script of.0 reports_that.line reports_that.cause of.2
    (found_one (λ x. IsFirstBad form.Script x reports_that.line reports_that.cause) of.0 reports_that.bad.input left' (subst (λ (l : Option (List ℕ)). Takes l left' reports_that.bad.input) of.1 reports_that.bad.read) reports_that.bad.bad)

migrate_fault : (left left' : Option (List ℕ)) (text : List ℕ) → IsSomeAnd left (IsAnyScript form.Report) → ReportsBadReport left left' text → ⊥
migrate_fault left left' text is reports_that =
    let of : (input : List ℕ) × (left ≡ Some input) × IsAnyScript form.Report input = some_and left (IsAnyScript form.Report) is in
    no_bad_script form.Report of.0 reports_that.line reports_that.cause of.2
    (found_one (λ x. IsFirstBad form.Report x reports_that.line reports_that.cause) of.0 reports_that.bad.input left' (subst (λ (l : Option (List ℕ)). Takes l left' reports_that.bad.input) of.1 reports_that.bad.read) reports_that.bad.bad)

not_two : (config : Config) (fault : ConfigFault) (r : Result Config ConfigFault) → r ≡ Ok config → r ≡ Err fault → ⊥
not_two config fault r ok err = (cc)

config_fault : (kinds : KindsSeen) (left left' : Option (List ℕ)) (text : List ℕ) → IsSomeAnd left (λ input. (config : Config) × (config_of kinds input ≡ Ok config)) → ReportsConfigFault kinds left left' text → ⊥
config_fault kinds left left' text is reports_that =
    let of : (input : List ℕ) × (left ≡ Some input) × ((config : Config) × (config_of kinds input ≡ Ok config)) = some_and left (λ input. (config : Config) × (config_of kinds input ≡ Ok config)) is in
    not_two of.2.0 reports_that.fault (config_of kinds of.0) of.2.1
    (found_one (λ x. config_of kinds x ≡ Err reports_that.fault) of.0 reports_that.input left' (subst (λ (l : Option (List ℕ)). Takes l left' reports_that.input) of.1 reports_that.read) reports_that.has)

serve_fault : (left left' : Option (List ℕ)) (text : List ℕ) → IsSomeAnd left (λ input. (answers : List AnswerLine) × IsServer input answers) → ReportsBadAnswer left left' text → ⊥
serve_fault left left' text is reports_that =
    let of : (input : List ℕ) × (left ≡ Some input) × ((answers : List AnswerLine) × IsServer input answers) = some_and left (λ input. (answers : List AnswerLine) × IsServer input answers) is in
    no_bad_answer of.0 of.2.0 reports_that.line reports_that.cause of.2.1
    (found_one (λ x. IsFirstBadAnswer x reports_that.line reports_that.cause) of.0 reports_that.bad.input left' (subst (λ (l : Option (List ℕ)). Takes l left' reports_that.bad.input) of.1 reports_that.bad.read) reports_that.bad.bad)

live_fault : (left left' : Option (List ℕ)) (text : List ℕ) → IsSomeAnd left (λ input. (script : LiveScript) × IsLive input script) → ReportsBadCall left left' text → ⊥
live_fault left left' text is reports_that =
    let of : (input : List ℕ) × (left ≡ Some input) × ((script : LiveScript) × IsLive input script) = some_and left (λ input. (script : LiveScript) × IsLive input script) is in
    by of.0 of.2.0 of.2.1
    (found (λ x. IsFirstBadLive x reports_that.line reports_that.cause ⊎ IsNothing x reports_that.line reports_that.cause) (λ x. IsFirstBadLive x reports_that.line reports_that.cause) of.0 reports_that.bad.input left'
    (subst (λ (l : Option (List ℕ)). Takes l left' reports_that.bad.input) of.1 reports_that.bad.read) reports_that.bad.bad)
  where
    by : (input : List ℕ) (script : LiveScript) → IsLive input script → (IsFirstBadLive input reports_that.line reports_that.cause ⊎ IsNothing input reports_that.line reports_that.cause) ⊎ IsFirstBadLive input reports_that.line reports_that.cause → ⊥
    by input script live (inl (inl bad)) = no_bad_live input script reports_that.line reports_that.cause live bad
    by input script live (inl (inr nothing)) = not_nothing input script reports_that.line reports_that.cause live nothing
    by input script live (inr bad) = no_bad_live input script reports_that.line reports_that.cause live bad

relay_fault : (left left' : Option (List ℕ)) (text : List ℕ) → IsSomeAnd left (λ input. (script : LiveScript) × IsLive input script × (script.calls.items ≡ [])) → ReportsBadRelay left left' text → ⊥
relay_fault left left' text is reports_that =
    let of : (input : List ℕ) × (left ≡ Some input) × ((script : LiveScript) × IsLive input script × (script.calls.items ≡ [])) = some_and left (λ input. (script : LiveScript) × IsLive input script × (script.calls.items ≡ [])) is in
    by of.0 of.2.0 of.2.1 of.2.2
    (found (λ x. IsFirstBadRelay x reports_that.line reports_that.cause ⊎ IsNothing x reports_that.line reports_that.cause) (λ x. IsFirstBadRelay x reports_that.line reports_that.cause) of.0 reports_that.bad.input left'
    (subst (λ (l : Option (List ℕ)). Takes l left' reports_that.bad.input) of.1 reports_that.bad.read) reports_that.bad.bad)
  where
    by : (input : List ℕ) (script : LiveScript) → IsLive input script → script.calls.items ≡ [] → (IsFirstBadRelay input reports_that.line reports_that.cause ⊎ IsNothing input reports_that.line reports_that.cause) ⊎ IsFirstBadRelay input reports_that.line reports_that.cause → ⊥
    by input script live none (inl (inl bad)) = no_bad_relay input script reports_that.line reports_that.cause live none bad
    by input script live none (inl (inr nothing)) = not_nothing input script reports_that.line reports_that.cause live nothing
    by input script live none (inr bad) = no_bad_relay input script reports_that.line reports_that.cause live none bad

no_fault_in : (policies : List PolicySeen) (m : Mode) (left left' : Option (List ℕ)) (text : List ℕ) → IsInputOf policies (name_of m) left → ReportsFaultIn policies m left left' text → ⊥
no_fault_in policies mode.Replay left left' text is reports_that = replay_fault left left' text is reports_that
no_fault_in policies mode.Config left left' text is reports_that = config_fault (kinds_of policies) left left' text is reports_that
no_fault_in policies mode.Migrate left left' text is reports_that = migrate_fault left left' text is reports_that
no_fault_in policies (mode.Serve port links) left left' text is reports_that = serve_fault left left' text is reports_that
no_fault_in policies (mode.Load load) left left' text is reports_that = reports_that
no_fault_in policies (mode.Live settings) left left' text is reports_that = live_fault left left' text is reports_that
no_fault_in policies (mode.Relay settings) left left' text is reports_that = relay_fault left left' text is reports_that

-- ---- what was read is what the mode reads

reads_server : (policies : List PolicySeen) (input : List ℕ) (left left' : Option (List ℕ)) (answers : List AnswerLine) → left ≡ Some input → ReadsServer left left' answers → IsInputOf policies name.Serve left
reads_server policies input left left' answers is read =
    let same : input ≡ read.input = all_taken input read.input left' (subst (λ (l : Option (List ℕ)). Takes l left' read.input) is read.read) read.at_end in
    and_some input left (λ x. (all : List AnswerLine) × IsServer x all) is (answers, subst (λ (x : List ℕ). IsServer x answers) (sym same) read.script)

reads_live : (policies : List PolicySeen) (input : List ℕ) (left left' : Option (List ℕ)) (script : LiveScript) → left ≡ Some input → ReadsLive left left' script → IsInputOf policies name.Live left
reads_live policies input left left' script is read =
    let same : input ≡ read.input = all_taken input read.input left' (subst (λ (l : Option (List ℕ)). Takes l left' read.input) is read.read) read.at_end in
    and_some input left (λ x. (s : LiveScript) × IsLive x s) is (script, subst (λ (x : List ℕ). IsLive x script) (sym same) read.live)

reads_relay : (policies : List PolicySeen) (input : List ℕ) (left left' : Option (List ℕ)) (script : LiveScript) → left ≡ Some input → ReadsRelay left left' script → IsInputOf policies name.Relay left
reads_relay policies input left left' script is read =
    let same : input ≡ read.live.input = all_taken input read.live.input left' (subst (λ (l : Option (List ℕ)). Takes l left' read.live.input) is read.live.read) read.live.at_end in
    and_some input left (λ x. (s : LiveScript) × IsLive x s × (s.calls.items ≡ [])) is (script, subst (λ (x : List ℕ). IsLive x script) (sym same) read.live.live, read.none)

any_script : (f : Form) (input read : List ℕ) (left : Option (List ℕ)) → left ≡ Some input → input ≡ read → IsAnyScript f read → IsSomeAnd left (IsAnyScript f)
any_script f input read left is same script = and_some input left (IsAnyScript f) is (subst (IsAnyScript f) (sym same) script)

replayed : (policies : List PolicySeen) (input text : List ℕ) → ((input ≡ []) × (text ≡ [])) ⊎ ((input ≡ [] → ⊥) × Reports policies input text) → IsAnyScript form.Script input
replayed policies input text (inl (none, nothing)) = inl none
replayed policies input text (inr (some, r)) = inr (r.target, r.value, r.events, r.script)

migrated : (input text : List ℕ) → ((input ≡ []) × (text ≡ [])) ⊎ ((input ≡ [] → ⊥) × Migrates input text) → IsAnyScript form.Report input
migrated input text (inl (none, nothing)) = inl none
migrated input text (inr (some, r)) = inr (r.target, r.value, r.events, r.script)

done_input : (policies : List PolicySeen) (held : List (Option (List (List ℕ)))) (m : Mode) (input : List ℕ) (left left' : Option (List ℕ)) (text : List ℕ) → left ≡ Some input → IsDoneIn policies held m left left' text → IsInputOf policies (name_of m) left
done_input policies held mode.Replay input left left' text is done =
    any_script form.Script input done.input left is (all_taken input done.input left' (subst (λ (l : Option (List ℕ)). Takes l left' done.input) is done.read) done.at_end) (replayed policies done.input text done.done)
done_input policies held mode.Config input left left' text is done =
    let same : input ≡ done.input = all_taken input done.input left' (subst (λ (l : Option (List ℕ)). Takes l left' done.input) is done.read) done.at_end in
    and_some input left (λ x. (config : Config) × (config_of (kinds_of policies) x ≡ Ok config)) is (done.config, ap (config_of (kinds_of policies)) same ∙ done.reading)
done_input policies held mode.Migrate input left left' text is done =
    any_script form.Report input done.input left is (all_taken input done.input left' (subst (λ (l : Option (List ℕ)). Takes l left' done.input) is done.read) done.at_end) (migrated done.input text done.done)
done_input policies held (mode.Serve port links) input left left' text is done = reads_server policies input left left' done.answers is done.script
done_input policies held (mode.Load load) input left left' text is done = tt
done_input policies held (mode.Live settings) input left left' text is done = reads_live policies input left left' done.lived.script is done.lived.read
done_input policies held (mode.Relay settings) input left left' text is done = reads_relay policies input left left' done.relayed.script is done.relayed.read

full_input : (policies : List PolicySeen) (held : List (Option (List (List ℕ)))) (m : Mode) (input : List ℕ) (left left' : Option (List ℕ)) (text : List ℕ) → left ≡ Some input → FillsIn policies held m left left' text → IsInputOf policies (name_of m) left
full_input policies held mode.Replay input left left' text is ends =
    any_script form.Script input ends.input left is (all_taken input ends.input left' (subst (λ (l : Option (List ℕ)). Takes l left' ends.input) is ends.read) ends.at_end)
    (inr (ends.target, ends.value, ends.events, ends.script))
full_input policies held mode.Config input left left' text is ends = absurd ends
full_input policies held mode.Migrate input left left' text is ends = absurd ends
full_input policies held (mode.Serve port links) input left left' text is ends = absurd ends
full_input policies held (mode.Load load) input left left' text is ends = tt
full_input policies held (mode.Live settings) input left left' text is ends = reads_live policies input left left' ends.ends.script is ends.ends.read
full_input policies held (mode.Relay settings) input left left' text is ends = reads_relay policies input left left' ends.ends.script is ends.ends.read

not_listening_input : (policies : List PolicySeen) (m : Mode) (input : List ℕ) (left left' taken taken' : Option (List ℕ)) (faults faults' : ℕ) → left ≡ Some input → NotListeningIn m left left' taken taken' faults faults' → IsInputOf policies (name_of m) left
not_listening_input policies mode.Replay input left left' taken taken' faults faults' is ends = absurd ends
not_listening_input policies mode.Config input left left' taken taken' faults faults' is ends = absurd ends
not_listening_input policies mode.Migrate input left left' taken taken' faults faults' is ends = absurd ends
not_listening_input policies (mode.Serve port links) input left left' taken taken' faults faults' is ends = reads_server policies input left left' ends.answers is ends.script
not_listening_input policies (mode.Load load) input left left' taken taken' faults faults' is ends = tt
not_listening_input policies (mode.Live settings) input left left' taken taken' faults faults' is ends = absurd ends
not_listening_input policies (mode.Relay settings) input left left' taken taken' faults faults' is ends = reads_relay policies input left left' ends.script is ends.read

-- ---- what a status says of the mode

refuses_lack : (policies : List PolicySeen) (m : Mode) (left left' : Option (List ℕ)) (text : List ℕ) → RefusesIn policies m left left' text → HasItsPolicies policies (name_of m) → ⊥
refuses_lack policies mode.Replay left left' text refused has = refused
refuses_lack policies mode.Config left left' text refused has = refused
refuses_lack policies mode.Migrate left left' text refused has = refused
refuses_lack policies (mode.Serve port links) left left' text refused has = refused
refuses_lack policies (mode.Load load) left left' text (same, lacks) has = true≢false (sym has ∙ lacks.0)
refuses_lack policies (mode.Live settings) left left' text refused has = refused
refuses_lack policies (mode.Relay settings) left left' text refused has = refused

refused_input : (policies : List PolicySeen) (m : Mode) (left left' : Option (List ℕ)) (text : List ℕ) → RefusesIn policies m left left' text → IsInputOf policies (name_of m) left
refused_input policies mode.Replay left left' text refused = absurd refused
refused_input policies mode.Config left left' text refused = absurd refused
refused_input policies mode.Migrate left left' text refused = absurd refused
refused_input policies (mode.Serve port links) left left' text refused = absurd refused
refused_input policies (mode.Load load) left left' text refused = tt
refused_input policies (mode.Live settings) left left' text refused = absurd refused
refused_input policies (mode.Relay settings) left left' text refused = absurd refused

fills_session : (policies : List PolicySeen) (held : List (Option (List (List ℕ)))) (m : Mode) (left left' : Option (List ℕ)) (text : List ℕ) → FillsIn policies held m left left' text → HasSession (name_of m)
fills_session policies held mode.Replay left left' text fills = tt
fills_session policies held mode.Config left left' text fills = fills
fills_session policies held mode.Migrate left left' text fills = fills
fills_session policies held (mode.Serve port links) left left' text fills = fills
fills_session policies held (mode.Load load) left left' text fills = tt
fills_session policies held (mode.Live settings) left left' text fills = tt
fills_session policies held (mode.Relay settings) left left' text fills = tt

stops_rise : (m : Mode) (left left' taken taken' : Option (List ℕ)) (faults faults' : ℕ) → StopsIn m left left' taken taken' faults faults' → Rises faults faults'
stops_rise mode.Replay left left' taken taken' faults faults' stops = stops.stops.failed
stops_rise mode.Config left left' taken taken' faults faults' stops = stops.failed
stops_rise mode.Migrate left left' taken taken' faults faults' stops = stops.stops.failed
stops_rise (mode.Serve port links) left left' taken taken' faults faults' stops = stops.stops.failed
stops_rise (mode.Load load) left left' taken taken' faults faults' stops = absurd stops
stops_rise (mode.Live settings) left left' taken taken' faults faults' stops = stops.stops.failed
stops_rise (mode.Relay settings) left left' taken taken' faults faults' stops = stops.stops.failed

not_listening_once : (m : Mode) (left left' taken taken' : Option (List ℕ)) (faults faults' : ℕ) → NotListeningIn m left left' taken taken' faults faults' → faults' ≡ one_more faults
not_listening_once mode.Replay left left' taken taken' faults faults' ends = absurd ends
not_listening_once mode.Config left left' taken taken' faults faults' ends = absurd ends
not_listening_once mode.Migrate left left' taken taken' faults faults' ends = absurd ends
not_listening_once (mode.Serve port links) left left' taken taken' faults faults' ends = ends.failed
not_listening_once (mode.Load load) left left' taken taken' faults faults' ends = absurd ends
not_listening_once (mode.Live settings) left left' taken taken' faults faults' ends = absurd ends
not_listening_once (mode.Relay settings) left left' taken taken' faults faults' ends = ends.failed

-- words run modes of one name
one_name : (words : List (List ℕ)) (m k : Mode) → Runs m words → Runs k words → name_of m ≡ name_of k
one_name words m k runs also = the_some (name_of m) (name_of k) (sym (mode_of_runs m words runs) ∙ mode_of_runs k words also)

-- words that run a mode ask for no text
none_among : (kinds : Kinds) → kinds ≡ [] → IsAmong shown.DisplayHelp kinds ⊎ IsAmong shown.DisplayVersion kinds → ⊥
none_among kinds none (inl among) = subst (λ (ks : Kinds). IsAmong shown.DisplayHelp ks) none among
none_among kinds none (inr among) = subst (λ (ks : Kinds). IsAmong shown.DisplayVersion ks) none among

not_asked : (words : List (List ℕ)) (m : Mode) → Runs m words → AskForText words → ⊥
not_asked words m runs asked = none_among (words_of.kinds_of words) (runs_are_taken m words runs) asked

not_plain : (words : List (List ℕ)) (m : Mode) → Runs m words → AskPlainly words → ⊥
not_plain words m runs asked = no_text (words_of.kinds_of words) (runs_are_taken m words runs) (plain_are_text words asked)

-- ---- all together

-- a mode that is given what it reads
pub good_end : (r : ℕ) (policies : List PolicySeen) (held : List (Option (List (List ℕ)))) (words : List (List ℕ)) (left left' taken taken' : Option (List ℕ)) (reads reads' writes writes' opens opens' : ℕ)
    → (r ≡ 0) ⊎ (r ≡ 2) ⊎ (r ≡ 3) ⊎ (r ≡ 4) ⊎ (r ≡ 5) ⊎ (r ≡ 6) ⊎ (r ≡ 7) ⊎ (r ≡ 8)
    → (r ≡ 2 → WritesAll (RefusesWords policies words left left') taken taken') → (r ≡ 3 → WritesAll (ReportsFault policies words left left') taken taken')
    → (r ≡ 4 → StopsReading words left left' taken taken' reads reads') → (r ≡ 5 → Rises writes writes')
    → (r ≡ 7 → WritesAll (EndsSession policies held words left left') taken taken') → (r ≡ 8 → NotListening words left left' taken taken' opens opens')
    → (given : IsGivenItsInput policies words left) → (Rises reads reads' → ⊥) → (Rises writes writes' → ⊥) → (opens' ≡ one_more opens → ⊥)
    → (r ≡ 0) ⊎ ((r ≡ 6) ⊎ ((r ≡ 7) × HasSession (name_of given.mode)))
good_end r policies held words left left' taken taken' reads reads' writes writes' opens opens' known refused faulty stops writing full not_listening given read wrote listened = by known
  where
    refuses : (text : List ℕ) → RefusesWords policies words left left' text → ⊥
    refuses text (inl wrong) = wrong.0.0 given.mode given.runs
    refuses text (inr (m, also, lacks)) =
        refuses_lack policies m left left' text lacks (subst (λ (n : ModeName). HasItsPolicies policies n) (one_name words given.mode m given.runs also) given.policies_are)

    reports_that : (text : List ℕ) → ReportsFault policies words left left' text → ⊥
    reports_that text (m, also, fault) = no_fault_in policies m left left' text (subst (λ (n : ModeName). IsInputOf policies n left) (one_name words given.mode m given.runs also) given.input) fault

    fills : (text : List ℕ) → EndsSession policies held words left left' text → HasSession (name_of given.mode)
    fills text (m, also, ends) = subst HasSession (one_name words m given.mode also given.runs) (fills_session policies held m left left' text ends)

    by : (r ≡ 0) ⊎ (r ≡ 2) ⊎ (r ≡ 3) ⊎ (r ≡ 4) ⊎ (r ≡ 5) ⊎ (r ≡ 6) ⊎ (r ≡ 7) ⊎ (r ≡ 8) → (r ≡ 0) ⊎ ((r ≡ 6) ⊎ ((r ≡ 7) × HasSession (name_of given.mode)))
    by (inl zero) = inl zero
    by (inr (inl two)) = absurd (refuses _ (refused two).1)
    by (inr (inr (inl three))) = absurd (reports_that _ (faulty three).1)
    by (inr (inr (inr (inl four)))) =
        let s : StopsReading words left left' taken taken' reads reads' = stops four in
        absurd (read (stops_rise s.0 left left' taken taken' reads reads' s.2))
    by (inr (inr (inr (inr (inl five))))) = absurd (wrote (writing five))
    by (inr (inr (inr (inr (inr (inl six)))))) = inr (inl six)
    by (inr (inr (inr (inr (inr (inr (inl seven))))))) = inr (inr (seven, fills _ (full seven).1))
    by (inr (inr (inr (inr (inr (inr (inr eight))))))) =
        let u : NotListening words left left' taken taken' opens opens' = not_listening eight in
        absurd (listened (not_listening_once u.0 left left' taken taken' opens opens' u.2))

-- one that is given anything else
pub bad_end : (r : ℕ) (policies : List PolicySeen) (held : List (Option (List (List ℕ)))) (words : List (List ℕ)) (left left' taken taken' : Option (List ℕ)) (reads reads' writes writes' opens opens' : ℕ)
    → (r ≡ 0) ⊎ (r ≡ 2) ⊎ (r ≡ 3) ⊎ (r ≡ 4) ⊎ (r ≡ 5) ⊎ (r ≡ 6) ⊎ (r ≡ 7) ⊎ (r ≡ 8)
    → (r ≡ 0 → WritesAll (Finishes policies held words left left') taken taken') → (r ≡ 2 → WritesAll (RefusesWords policies words left left') taken taken')
    → (r ≡ 4 → StopsReading words left left' taken taken' reads reads') → (r ≡ 5 → Rises writes writes')
    → (r ≡ 7 → WritesAll (EndsSession policies held words left left') taken taken') → (r ≡ 8 → NotListening words left left' taken taken' opens opens')
    → IsGivenOther policies words left → (Rises reads reads' → ⊥) → (Rises writes writes' → ⊥) → (r ≡ 3) ⊎ (r ≡ 6)
bad_end r policies held words left left' taken taken' reads reads' writes writes' opens opens' known done refused stops writing full not_listening given read wrote = by known
  where
    not_it : (m : Mode) → Runs m words → IsInputOf policies (name_of m) left → ⊥
    not_it m also is = given.other (subst (λ (n : ModeName). IsInputOf policies n left) (one_name words m given.mode also given.runs) is)

    finishes : (text : List ℕ) → Finishes policies held words left left' text → ⊥
    finishes text (inl (m, also, ends)) = not_it m also (done_input policies held m given.input left left' text given.left_is ends)
    finishes text (inr (asked, same)) = not_asked words given.mode given.runs asked

    refuses : (text : List ℕ) → RefusesWords policies words left left' text → ⊥
    refuses text (inl wrong) = wrong.0.0 given.mode given.runs
    refuses text (inr (m, also, lacks)) = not_it m also (refused_input policies m left left' text lacks)

    fills : (text : List ℕ) → EndsSession policies held words left left' text → ⊥
    fills text (m, also, ends) = not_it m also (full_input policies held m given.input left left' text given.left_is ends)

    by : (r ≡ 0) ⊎ (r ≡ 2) ⊎ (r ≡ 3) ⊎ (r ≡ 4) ⊎ (r ≡ 5) ⊎ (r ≡ 6) ⊎ (r ≡ 7) ⊎ (r ≡ 8) → (r ≡ 3) ⊎ (r ≡ 6)
    by (inl zero) = absurd (finishes _ (done zero).1)
    by (inr (inl two)) = absurd (refuses _ (refused two).1)
    by (inr (inr (inl three))) = inl three
    by (inr (inr (inr (inl four)))) =
        let s : StopsReading words left left' taken taken' reads reads' = stops four in
        absurd (read (stops_rise s.0 left left' taken taken' reads reads' s.2))
    by (inr (inr (inr (inr (inl five))))) = absurd (wrote (writing five))
    by (inr (inr (inr (inr (inr (inl six)))))) = inr six
    by (inr (inr (inr (inr (inr (inr (inl seven))))))) = absurd (fills _ (full seven).1)
    by (inr (inr (inr (inr (inr (inr (inr eight))))))) =
        let u : NotListening words left left' taken taken' opens opens' = not_listening eight in
        absurd (not_it u.0 u.1 (not_listening_input policies u.0 given.input left left' taken taken' opens opens' given.left_is u.2))

-- words that ask for a text in the plain way
pub asked_end : (r : ℕ) (policies : List PolicySeen) (held : List (Option (List (List ℕ)))) (words : List (List ℕ)) (left left' taken taken' : Option (List ℕ)) (reads reads' writes writes' opens opens' : ℕ)
    → (r ≡ 0) ⊎ (r ≡ 2) ⊎ (r ≡ 3) ⊎ (r ≡ 4) ⊎ (r ≡ 5) ⊎ (r ≡ 6) ⊎ (r ≡ 7) ⊎ (r ≡ 8)
    → (r ≡ 2 → WritesAll (RefusesWords policies words left left') taken taken') → (r ≡ 3 → WritesAll (ReportsFault policies words left left') taken taken')
    → (r ≡ 4 → StopsReading words left left' taken taken' reads reads') → (r ≡ 5 → Rises writes writes')
    → (r ≡ 7 → WritesAll (EndsSession policies held words left left') taken taken') → (r ≡ 8 → NotListening words left left' taken taken' opens opens')
    → AskPlainly words → (Rises writes writes' → ⊥) → (r ≡ 0) ⊎ (r ≡ 6)
asked_end r policies held words left left' taken taken' reads reads' writes writes' opens opens' known refused faulty stops writing full not_listening asked wrote = by known
  where
    runs_none : (m : Mode) → Runs m words → ⊥
    runs_none m runs = not_plain words m runs asked

    refuses : (text : List ℕ) → RefusesWords policies words left left' text → ⊥
    refuses text (inl wrong) = wrong.0.1 asked
    refuses text (inr (m, runs, lacks)) = runs_none m runs

    by : (r ≡ 0) ⊎ (r ≡ 2) ⊎ (r ≡ 3) ⊎ (r ≡ 4) ⊎ (r ≡ 5) ⊎ (r ≡ 6) ⊎ (r ≡ 7) ⊎ (r ≡ 8) → (r ≡ 0) ⊎ (r ≡ 6)
    by (inl zero) = inl zero
    by (inr (inl two)) = absurd (refuses _ (refused two).1)
    by (inr (inr (inl three))) = absurd (runs_none (faulty three).1.0 (faulty three).1.1)
    by (inr (inr (inr (inl four)))) = absurd (runs_none (stops four).0 (stops four).1)
    by (inr (inr (inr (inr (inl five))))) = absurd (wrote (writing five))
    by (inr (inr (inr (inr (inr (inl six)))))) = inr six
    by (inr (inr (inr (inr (inr (inr (inl seven))))))) = absurd (runs_none (full seven).1.0 (full seven).1.1)
    by (inr (inr (inr (inr (inr (inr (inr eight))))))) = absurd (runs_none (not_listening eight).0 (not_listening eight).1)

-- words that run no mode and ask for no text
pub wrong_end : (r : ℕ) (policies : List PolicySeen) (held : List (Option (List (List ℕ)))) (words : List (List ℕ)) (left left' taken taken' : Option (List ℕ)) (reads reads' writes writes' opens opens' : ℕ)
    → (r ≡ 0) ⊎ (r ≡ 2) ⊎ (r ≡ 3) ⊎ (r ≡ 4) ⊎ (r ≡ 5) ⊎ (r ≡ 6) ⊎ (r ≡ 7) ⊎ (r ≡ 8)
    → (r ≡ 0 → WritesAll (Finishes policies held words left left') taken taken') → (r ≡ 3 → WritesAll (ReportsFault policies words left left') taken taken')
    → (r ≡ 4 → StopsReading words left left' taken taken' reads reads') → (r ≡ 5 → Rises writes writes')
    → (r ≡ 7 → WritesAll (EndsSession policies held words left left') taken taken') → (r ≡ 8 → NotListening words left left' taken taken' opens opens')
    → ((m : Mode) → Runs m words → ⊥) → (AskForText words → ⊥) → (Rises writes writes' → ⊥) → (r ≡ 2) ⊎ (r ≡ 6)
wrong_end r policies held words left left' taken taken' reads reads' writes writes' opens opens' known done faulty stops writing full not_listening runs_none unasked wrote = by known
  where
    finishes : (text : List ℕ) → Finishes policies held words left left' text → ⊥
    finishes text (inl (m, runs, ends)) = runs_none m runs
    finishes text (inr (asked, same)) = unasked asked

    by : (r ≡ 0) ⊎ (r ≡ 2) ⊎ (r ≡ 3) ⊎ (r ≡ 4) ⊎ (r ≡ 5) ⊎ (r ≡ 6) ⊎ (r ≡ 7) ⊎ (r ≡ 8) → (r ≡ 2) ⊎ (r ≡ 6)
    by (inl zero) = absurd (finishes _ (done zero).1)
    by (inr (inl two)) = inl two
    by (inr (inr (inl three))) = absurd (runs_none (faulty three).1.0 (faulty three).1.1)
    by (inr (inr (inr (inl four)))) = absurd (runs_none (stops four).0 (stops four).1)
    by (inr (inr (inr (inr (inl five))))) = absurd (wrote (writing five))
    by (inr (inr (inr (inr (inr (inl six)))))) = inr six
    by (inr (inr (inr (inr (inr (inr (inl seven))))))) = absurd (runs_none (full seven).1.0 (full seven).1.1)
    by (inr (inr (inr (inr (inr (inr (inr eight))))))) = absurd (runs_none (not_listening eight).0 (not_listening eight).1)
