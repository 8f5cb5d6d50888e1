-- The events of a session that a script gave are a script again, at the moments of their steps.
use Rattle.std.proofs.Common.{◌≡◌, ◌≤◌, ℕ, ◌+◌, Option, List, [], ◌∷◌, ◌++◌, map, ap, sym, inl, inr, arith, refl, ◌∙◌}
use Rattle.std.specs.Prelude.{max}
use Rattle.grpc_base.specs.declared.event.Entry.{Entry}
use Rattle.grpc_base.specs.declared.event.Stamped.{Stamped}
use Rattle.grpc_base.specs.Limits.{moment_limit}
use Rattle.attempt_ledger.specs.declared.journal.Journal.{Journal}
use Rattle.attempt_ledger.specs.Journals.{stamped_of}
use Rattle.grpc_base.specs.Pieces.{pieces}
use Rattle.script_fields.specs.Spelling.{fields}
use Rattle.script_lines.specs.declared.line.ScriptLine.TheVariants as line
use Rattle.script_lines.specs.Lines.{IsStampedText}
use Rattle.script_input.specs.Reading.{ReadsScript}
use Rattle.script_input.specs.declared.form.Form.{Form}
use Rattle.script_input.specs.declared.form.Form.TheVariants as form
use Rattle.resolver_core.specs.declared.any_target.Target.{Target}
use Rattle.script_input.specs.Scripts.{AreLines, IsScript, read_part, script_reads}
use Rattle.script_lines.specs.Spelling.{script_of}
use Rattle.lb_policy.specs.Table.{PolicySeen}
use Rattle.channel_top.specs.Migrate.{IsMigrated}
use Rattle.script_input.proofs.ScriptLaws.{AreMoved, script_again}
use Rattle.resolver_core.specs.AnyTargets.{IsTarget}
use Rattle.resolver_core.proofs.KeptLaws.{target_kept}
use Rattle.session_text.specs.Sessions.{AreEntriesOf, highest_so_far}
use Rattle.channel_top.specs.Top.{EndsFull, IsDone, IsFullReport, IsReplayText, IsReport, IsRunReport, IsScriptAgain}
use Rattle.session_text.specs.declared.ran.Ran.TheVariants as ran

moment_within : (texts : List (List ℕ)) (s : Stamped) → IsStampedText texts s → s.moment ≤ moment_limit
moment_within (moment ∷ (word ∷ others)) s t = t.0.0
moment_within [] s t = absurd t
moment_within (moment ∷ []) s t = absurd t

-- each entry has its event and word, at a moment within the limit
moved_of : (f : Form) (n : ℕ) (texts : List (List ℕ)) (events : List Stamped) (entries : List Entry) (last : ℕ) → AreLines f n texts (map (λ s. line.Event s) events) → last ≤ moment_limit → map (λ e. e.event) entries ≡ map (λ s. s.event) events → map (λ e. e.word) entries ≡ map (λ s. s.word) events → map (λ e. e.moment) entries ≡ highest_so_far last (map (λ s. s.moment) events) → AreMoved events (map stamped_of entries)
moved_of f n texts [] [] last t within event word moment = tt
moved_of f n texts [] (e ∷ entries) last t within event word moment = absurd ((cc))
moved_of f n texts (s ∷ events) [] last t within event word moment = absurd ((cc))
moved_of f n [] (s ∷ events) (e ∷ entries) last t within event word moment = absurd t
moved_of f n (text ∷ texts) (s ∷ events) (e ∷ entries) last t within event word moment =
    let own : s.moment ≤ moment_limit = moment_within (fields (read_part f n text)) s t.0.2.1 in
    let same_event : e.event ≡ s.event = (cc) in
    let same_word : e.word ≡ s.word = (cc) in
    let same_moment : e.moment ≡ max s.moment last = (cc) in
    let events_rest : map (λ e. e.event) entries ≡ map (λ s. s.event) events = (cc) in
    let words_rest : map (λ e. e.word) entries ≡ map (λ s. s.word) events = (cc) in
    let moments_rest : map (λ e. e.moment) entries ≡ highest_so_far (max s.moment last) (map (λ s. s.moment) events) = (cc) in (
      (λ i. record { moment = e.moment; word = same_word i; event = same_event i }),
      omega (arith, same_moment, own, within),
      moved_of f (n + 1) texts events entries (max s.moment last) t.1 (omega (arith, own, within)) events_rest words_rest moments_rest,
    )

moved_lines : (f : Form) (n : ℕ) (texts : List (List ℕ)) (target : List ℕ) (value : Target) (events : List Stamped) (entries : List Entry) → AreLines f n texts (script_reads target value events) → map (λ e. e.event) entries ≡ map (λ s. s.event) events → map (λ e. e.word) entries ≡ map (λ s. s.word) events → map (λ e. e.moment) entries ≡ highest_so_far 0 (map (λ s. s.moment) events) → AreMoved events (map stamped_of entries)
moved_lines f n [] target value events entries t event word moment = absurd t
moved_lines f n (text ∷ texts) target value events entries t event word moment = moved_of f (n + 1) texts events entries 0 t.1 (omega arith) event word moment

-- what a session of a script reports up to each ` = ` is a script again
session_again : (input target : List ℕ) (value : Target) (events : List Stamped) (journal : Journal) → IsScript form.Script input target value events → AreEntriesOf events journal → IsScriptAgain target value (map stamped_of journal.entries)
session_again input target value events journal script entries = λ short.
    script_again form.Script input target value events (map stamped_of journal.entries) script
    (moved_lines form.Script 1 script.texts target value events journal.entries script.lines entries.events_are entries.words_are entries.moments_are)
    short

-- a script has a line
pub some_input : (f : Form) (target : List ℕ) (value : Target) (events : List Stamped) (texts records : List (List ℕ)) → pieces 10 [] ≡ (texts ++ records) ++ [] ∷ [] → AreLines f 1 texts (script_reads target value events) → ⊥
some_input f target value events [] records e t = t
some_input f target value events (text ∷ texts) records e t = no_snoc (texts ++ records) [] (one_part [] text ((texts ++ records) ++ [] ∷ []) e)
  where
    one_part : (y x : List ℕ) (xs : List (List ℕ)) → y ∷ [] ≡ x ∷ xs → [] ≡ xs
    one_part y x xs e = (cc)

    no_snoc : (xs : List (List ℕ)) (y : List ℕ) → [] ≡ xs ++ y ∷ [] → ⊥
    no_snoc [] y e = absurd ((cc))
    no_snoc (x ∷ xs) y e = absurd ((cc))

-- a script was read, and this is its report
pub report_done : (policies : List PolicySeen) (left left' : Option (List ℕ)) (target : List ℕ) (value : Target) (events : List Stamped) (text : List ℕ) → ReadsScript form.Script left left' target value events → IsReport policies target value events text → IsDone policies left left' text
report_done policies left left' target value events text read report = record {
  input = read.input;
  read = read.read;
  at_end = read.at_end;
  done = inr (
    (λ none. some_input form.Script target value events read.script.texts read.script.records (ap (pieces 10) (sym none) ∙ read.script.parts) read.script.lines),
    record {
      target = target;
      value = value;
      events = events;
      script = read.script;
      only = read.only;
      report = report;
      again = session_again read.input target value events report.journal read.script report.session.entries;
    },
  );
}

-- the same where its journal is full
pub report_ends : (policies : List PolicySeen) (left left' : Option (List ℕ)) (target : List ℕ) (value : Target) (events : List Stamped) (text : List ℕ) → ReadsScript form.Script left left' target value events → IsFullReport policies target value events text → EndsFull policies left left' text
report_ends policies left left' target value events text read report = record {
  input = read.input;
  target = target;
  value = value;
  events = events;
  read = read.read;
  at_end = read.at_end;
  script = read.script;
  only = read.only;
  report = report;
}

-- either is the output of the mode
pub replay_text : (policies : List PolicySeen) (left left' : Option (List ℕ)) (target : List ℕ) (value : Target) (events : List Stamped) (text : List ℕ) → ReadsScript form.Script left left' target value events → IsRunReport policies target value events text → IsReplayText policies left left' text
replay_text policies left left' target value events text read (ran.Whole, report) = inl (inl (report_done policies left left' target value events text read report))
replay_text policies left left' target value events text read (ran.Full, report) = inl (inr (report_ends policies left left' target value events text read report))

-- the target of a script that was read is one
target_of_lines : (f : Form) (texts : List (List ℕ)) (target : List ℕ) (value : Target) (events : List Stamped) → AreLines f 1 texts (script_reads target value events) → IsTarget value
target_of_lines f [] target value events t = absurd t
target_of_lines f (text ∷ texts) target value events t = target_kept target value t.0.2.1.3

pub target_read : (f : Form) (left left' : Option (List ℕ)) (target : List ℕ) (value : Target) (events : List Stamped) → ReadsScript f left left' target value events → IsTarget value
target_read f left left' target value events read = target_of_lines f read.script.texts target value events read.script.lines

-- ---- a script that is written as it was read

-- events at their own moments
own_moments : (f : Form) (n : ℕ) (texts : List (List ℕ)) (events : List Stamped) → AreLines f n texts (map (λ s. line.Event s) events) → AreMoved events events
own_moments f n texts [] t = tt
own_moments f n [] (s ∷ events) t = absurd t
own_moments f n (text ∷ texts) (s ∷ events) t = (refl, moment_within (fields (read_part f n text)) s t.0.2.1, own_moments f (n + 1) texts events t.1)

own_lines : (f : Form) (texts : List (List ℕ)) (target : List ℕ) (value : Target) (events : List Stamped) → AreLines f 1 texts (script_reads target value events) → AreMoved events events
own_lines f [] target value events t = absurd t
own_lines f (text ∷ texts) target value events t = own_moments f 2 texts events t.1

pub migrated : (left left' : Option (List ℕ)) (target : List ℕ) (value : Target) (events : List Stamped) → ReadsScript form.Report left left' target value events → IsMigrated left left' (script_of target events)
migrated left left' target value events read = record {
  input = read.input;
  read = read.read;
  at_end = read.at_end;
  done = inr (
    (λ none. some_input form.Report target value events read.script.texts read.script.records (ap (pieces 10) (sym none) ∙ read.script.parts) read.script.lines),
    record {
      target = target;
      value = value;
      events = events;
      script = read.script;
      only = read.only;
      text_is = refl;
      again = λ short. script_again form.Report read.input target value events events read.script (own_lines form.Report read.script.texts target value events read.script.lines) short;
    },
  );
}
