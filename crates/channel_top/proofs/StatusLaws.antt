-- What is written at one status of a mode is not written at another one.
use Rattle.std.proofs.Common.{◌≡◌, ◌⊎◌, ◌∙◌, ℕ, Option, Some, List, [], ◌∷◌, ◌++◌, ap, arith, inl, inr, refl, sym}
use Rattle.std.specs.Prelude.{slice_get}
use Rattle.grpc_base.specs.declared.event.ConfigFault.{ConfigFault}
use Rattle.grpc_base.specs.declared.event.Stamped.{Stamped}
use Rattle.attempt_ledger.specs.declared.journal.Journal.{Journal}
use Rattle.attempt_ledger.specs.declared.ledger.Ledger.{Ledger}
use Rattle.lb_policy.specs.Table.{PolicySeen}
use Rattle.load_plan.specs.Lines.{counted, summary_line}
use Rattle.load_plan.specs.declared.summary.LoadSummary.{LoadSummary}
use Rattle.script_lines.specs.Spelling.{script_of}
use Rattle.script_text.specs.Report.{report_of}
use Rattle.service_config.specs.Text.{config_text, fault_text}
use Rattle.service_config.specs.declared.config.Config.{Config}
use Rattle.session_text.specs.Sessions.{line_fault_text, session_full_text}
use Rattle.channel_top.specs.Migrate.{Migrates}
use Rattle.channel_top.specs.Modes.{FillsIn, IsDoneIn, RefusesIn, ReportsFaultIn}
use Rattle.channel_top.specs.Serve.{served_text}
use Rattle.channel_top.specs.Top.{Reports}
use Rattle.channel_top.specs.Words.{words_fault_text}
use Rattle.channel_top.specs.declared.words.Mode.{Mode}
use Rattle.channel_top.specs.declared.words.Mode.TheVariants as mode
use Rattle.channel_top.proofs.ApartLaws.{none_or_full, whole_or_full}

-- ---- how texts begin

abbrev first : List ℕ → ℕ
first [] = 0
first (x ∷ xs) = x

report_first : (target : List ℕ) (journal : Journal) (ledger : Ledger) → first (report_of target journal ledger) ≡ 99
report_first target journal ledger = refl

full_first : (target : List ℕ) (journal : Journal) (ledger : Ledger) → first (report_of target journal ledger ++ session_full_text) ≡ 99
full_first target journal ledger = refl

script_first : (target : List ℕ) (events : List Stamped) → first (script_of target events) ≡ 99
script_first target events = refl

line_first : (line cause : ℕ) → first (line_fault_text line cause) ≡ 102
line_first line cause = refl

served_first : (links : ℕ) → first (served_text links) ≡ 115
served_first links = refl

summary_first : (s : LoadSummary) → first (summary_line s ++ 10 ∷ []) ≡ 108
unfolding counted
summary_first s = refl

config_first : (c : Config) → first (config_text c) ≡ 112
unfolding config_text
config_first c = refl

fault_first : (f : ConfigFault) → first (fault_text f) ≡ 102
fault_first f = refl

-- texts that begin apart are two
begin_apart : (a b : ℕ) (text this that : List ℕ) → text ≡ this → text ≡ that → first this ≡ a → first that ≡ b → (a ≡ b → ⊥) → ⊥
begin_apart a b text this that is also from from' differ = differ (sym from ∙ ap first (sym is ∙ also) ∙ from')

-- ---- replays and migrations

replay_first : (policies : List PolicySeen) (input text : List ℕ) → ((input ≡ []) × (text ≡ [])) ⊎ ((input ≡ [] → ⊥) × Reports policies input text) → (first text ≡ 102 → ⊥)
replay_first policies input text (inl (none, empty)) six =
    let zero : first text ≡ 0 = ap first empty in
    omega (arith, zero, six)
replay_first policies input text (inr (some, r)) six =
    let is : first text ≡ 99 = ap first r.report.text_is ∙ report_first r.target r.report.journal r.report.ledger in
    omega (arith, is, six)

migrate_first : (input text : List ℕ) → ((input ≡ []) × (text ≡ [])) ⊎ ((input ≡ [] → ⊥) × Migrates input text) → (first text ≡ 102 → ⊥)
migrate_first input text (inl (none, empty)) six =
    let zero : first text ≡ 0 = ap first empty in
    omega (arith, zero, six)
migrate_first input text (inr (some, m)) six =
    let is : first text ≡ 99 = ap first m.text_is ∙ script_first m.target m.events in
    omega (arith, is, six)

replay_full : (policies : List PolicySeen) (input text target : List ℕ) (journal : Journal) (ledger : Ledger) → ((input ≡ []) × (text ≡ [])) ⊎ ((input ≡ [] → ⊥) × Reports policies input text) → text ≡ report_of target journal ledger ++ session_full_text → ⊥
replay_full policies input text target journal ledger (inl (none, empty)) full = none_or_full target journal ledger text empty full
replay_full policies input text target journal ledger (inr (some, r)) full = whole_or_full r.target target r.report.journal journal r.report.ledger ledger text r.report.text_is full

-- the seventh bytes of two faults
words_or_full : (text : List ℕ) → text ≡ words_fault_text → text ≡ session_full_text → ⊥
words_or_full text refused full =
    let w : slice_get text 6 ≡ Some 119 = ap (λ (t : List ℕ). slice_get t 6) refused in
    let s : slice_get text 6 ≡ Some 115 = ap (λ (t : List ℕ). slice_get t 6) full in
    (cc)

-- ---- status by status

-- done, and a fault of the input
pub done_or_reported : (policies others : List PolicySeen) (held : List (Option (List (List ℕ)))) (m : Mode) (left left' more more' : Option (List ℕ)) (text : List ℕ) → IsDoneIn policies held m left left' text → ReportsFaultIn others m more more' text → ⊥
done_or_reported policies others held mode.Replay left left' more more' text done reports_that = replay_first policies done.input text done.done (ap first reports_that.text_is ∙ line_first reports_that.line reports_that.cause)
done_or_reported policies others held mode.Config left left' more more' text done reports_that = begin_apart 112 102 text (config_text done.config) (fault_text reports_that.fault) done.text_is reports_that.text_is (config_first done.config) (fault_first reports_that.fault) (λ e. omega (arith, e))
done_or_reported policies others held mode.Migrate left left' more more' text done reports_that = migrate_first done.input text done.done (ap first reports_that.text_is ∙ line_first reports_that.line reports_that.cause)
done_or_reported policies others held (mode.Serve port links) left left' more more' text done reports_that = begin_apart 115 102 text (served_text links) (line_fault_text reports_that.line reports_that.cause) done.text_is reports_that.text_is (served_first links) (line_first reports_that.line reports_that.cause) (λ e. omega (arith, e))
done_or_reported policies others held (mode.Load load) left left' more more' text done reports_that = reports_that
done_or_reported policies others held (mode.Live settings) left left' more more' text done reports_that =
    begin_apart 99 102 text (report_of done.lived.script.target done.lived.report.journal done.lived.report.ledger) (line_fault_text reports_that.line reports_that.cause) done.lived.report.text_is reports_that.text_is
    (report_first done.lived.script.target done.lived.report.journal done.lived.report.ledger) (line_first reports_that.line reports_that.cause) (λ e. omega (arith, e))
done_or_reported policies others held (mode.Relay settings) left left' more more' text done reports_that =
    begin_apart 99 102 text (report_of done.relayed.script.target done.relayed.report.journal done.relayed.report.ledger) (line_fault_text reports_that.line reports_that.cause) done.relayed.report.text_is reports_that.text_is
    (report_first done.relayed.script.target done.relayed.report.journal done.relayed.report.ledger) (line_first reports_that.line reports_that.cause) (λ e. omega (arith, e))

-- done, and a full journal
pub done_or_full : (policies others : List PolicySeen) (held held' : List (Option (List (List ℕ)))) (m : Mode) (left left' more more' : Option (List ℕ)) (text : List ℕ) → IsDoneIn policies held m left left' text → FillsIn others held' m more more' text → ⊥
done_or_full policies others held held' mode.Replay left left' more more' text done fills = replay_full policies done.input text fills.target fills.report.journal fills.report.ledger done.done fills.report.text_is
done_or_full policies others held held' mode.Config left left' more more' text done fills = fills
done_or_full policies others held held' mode.Migrate left left' more more' text done fills = fills
done_or_full policies others held held' (mode.Serve port links) left left' more more' text done fills = fills
done_or_full policies others held held' (mode.Load load) left left' more more' text (same, done) (also, fills) =
    begin_apart 108 102 text (summary_line done.summary ++ 10 ∷ []) session_full_text done.text_is fills.1 (summary_first done.summary) refl (λ e. omega (arith, e))
done_or_full policies others held held' (mode.Live settings) left left' more more' text done fills =
    whole_or_full done.lived.script.target fills.ends.script.target done.lived.report.journal fills.ends.report.journal done.lived.report.ledger fills.ends.report.ledger text done.lived.report.text_is fills.ends.report.text_is
done_or_full policies others held held' (mode.Relay settings) left left' more more' text done fills =
    whole_or_full done.relayed.script.target fills.ends.script.target done.relayed.report.journal fills.ends.report.journal done.relayed.report.ledger fills.ends.report.ledger text done.relayed.report.text_is fills.ends.report.text_is

-- done, and a policy that is not there
pub done_or_refused : (policies others : List PolicySeen) (held : List (Option (List (List ℕ)))) (m : Mode) (left left' more more' : Option (List ℕ)) (text : List ℕ) → IsDoneIn policies held m left left' text → RefusesIn others m more more' text → ⊥
done_or_refused policies others held mode.Replay left left' more more' text done refused = refused
done_or_refused policies others held mode.Config left left' more more' text done refused = refused
done_or_refused policies others held mode.Migrate left left' more more' text done refused = refused
done_or_refused policies others held (mode.Serve port links) left left' more more' text done refused = refused
done_or_refused policies others held (mode.Load load) left left' more more' text (same, done) (also, refused) =
    begin_apart 108 102 text (summary_line done.summary ++ 10 ∷ []) words_fault_text done.text_is refused.1 (summary_first done.summary) refl (λ e. omega (arith, e))
done_or_refused policies others held (mode.Live settings) left left' more more' text done refused = refused
done_or_refused policies others held (mode.Relay settings) left left' more more' text done refused = refused

-- a full journal, and a fault of the input
pub full_or_reported : (policies others : List PolicySeen) (held : List (Option (List (List ℕ)))) (m : Mode) (left left' more more' : Option (List ℕ)) (text : List ℕ) → FillsIn policies held m left left' text → ReportsFaultIn others m more more' text → ⊥
full_or_reported policies others held mode.Replay left left' more more' text fills reports_that =
    begin_apart 99 102 text (report_of fills.target fills.report.journal fills.report.ledger ++ session_full_text) (line_fault_text reports_that.line reports_that.cause) fills.report.text_is reports_that.text_is
    (full_first fills.target fills.report.journal fills.report.ledger) (line_first reports_that.line reports_that.cause) (λ e. omega (arith, e))
full_or_reported policies others held mode.Config left left' more more' text fills reports_that = fills
full_or_reported policies others held mode.Migrate left left' more more' text fills reports_that = fills
full_or_reported policies others held (mode.Serve port links) left left' more more' text fills reports_that = fills
full_or_reported policies others held (mode.Load load) left left' more more' text fills reports_that = reports_that
full_or_reported policies others held (mode.Live settings) left left' more more' text fills reports_that =
    begin_apart 99 102 text (report_of fills.ends.script.target fills.ends.report.journal fills.ends.report.ledger ++ session_full_text) (line_fault_text reports_that.line reports_that.cause) fills.ends.report.text_is reports_that.text_is
    (full_first fills.ends.script.target fills.ends.report.journal fills.ends.report.ledger) (line_first reports_that.line reports_that.cause) (λ e. omega (arith, e))
full_or_reported policies others held (mode.Relay settings) left left' more more' text fills reports_that =
    begin_apart 99 102 text (report_of fills.ends.script.target fills.ends.report.journal fills.ends.report.ledger ++ session_full_text) (line_fault_text reports_that.line reports_that.cause) fills.ends.report.text_is reports_that.text_is
    (full_first fills.ends.script.target fills.ends.report.journal fills.ends.report.ledger) (line_first reports_that.line reports_that.cause) (λ e. omega (arith, e))

-- a full journal or a fault of the input, and a policy that is not there
pub full_or_refused : (policies others : List PolicySeen) (held : List (Option (List (List ℕ)))) (m : Mode) (left left' more more' : Option (List ℕ)) (text : List ℕ) → FillsIn policies held m left left' text → RefusesIn others m more more' text → ⊥
full_or_refused policies others held mode.Replay left left' more more' text fills refused = refused
full_or_refused policies others held mode.Config left left' more more' text fills refused = refused
full_or_refused policies others held mode.Migrate left left' more more' text fills refused = refused
full_or_refused policies others held (mode.Serve port links) left left' more more' text fills refused = refused
full_or_refused policies others held (mode.Load load) left left' more more' text (same, fills) (also, refused) = words_or_full text refused.1 fills.1
full_or_refused policies others held (mode.Live settings) left left' more more' text fills refused = refused
full_or_refused policies others held (mode.Relay settings) left left' more more' text fills refused = refused

pub reported_or_refused : (policies others : List PolicySeen) (m : Mode) (left left' more more' : Option (List ℕ)) (text : List ℕ) → ReportsFaultIn policies m left left' text → RefusesIn others m more more' text → ⊥
reported_or_refused policies others mode.Replay left left' more more' text reports_that refused = refused
reported_or_refused policies others mode.Config left left' more more' text reports_that refused = refused
reported_or_refused policies others mode.Migrate left left' more more' text reports_that refused = refused
reported_or_refused policies others (mode.Serve port links) left left' more more' text reports_that refused = refused
reported_or_refused policies others (mode.Load load) left left' more more' text reports_that refused = reports_that
reported_or_refused policies others (mode.Live settings) left left' more more' text reports_that refused = refused
reported_or_refused policies others (mode.Relay settings) left left' more more' text reports_that refused = refused
