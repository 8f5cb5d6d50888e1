-- What was read and written, as the contract of the program says it.
use Rattle.std.proofs.Common.{ℕ, ◌<◌, ◌≡◌, Option, List, [], ◌∷◌, ◌++◌, inl, inr, length, refl, subst, take}
use Rattle.gate_io.specs.Outside.{Appends, AppendsPrefix}
use Rattle.grpc_base.specs.declared.event.Stamped.{Stamped}
use Rattle.resolver_core.proofs.KeptLaws.{target_kept}
use Rattle.resolver_core.specs.AnyTargets.{IsTarget}
use Rattle.resolver_core.specs.declared.any_target.Target.{Target}
use Rattle.script_input.specs.Reading.{ReadsScript}
use Rattle.script_input.specs.Scripts.{AreLines, script_reads}
use Rattle.script_input.specs.declared.form.Form.{Form}
use Rattle.session_actions_run.specs.Reports.{IsDone, IsFirstReport, IsOutput, IsReport, IsScriptReport, StopsLong, stopped_text}
use Rattle.session_text.proofs.SessionLaws.{wrote_both, wrote_first, wrote_some}
use Rattle.session_text.specs.Writing.{WritesAll, WritesPrefix, WritesSome}

-- the target of a script that was read is one
target_of_lines : (f : Form) (texts : List (List ℕ)) (target : List ℕ) (value : Target) (events : List Stamped) → AreLines f 1 texts (script_reads target value events) → IsTarget value
target_of_lines f [] target value events t = absurd t
target_of_lines f (text ∷ texts) target value events t = target_kept target value t.0.2.1.3

pub target_read : (f : Form) (left left' : Option (List ℕ)) (target : List ℕ) (value : Target) (events : List Stamped) → ReadsScript f left left' target value events → IsTarget value
target_read f left left' target value events read = target_of_lines f read.script.texts target value events read.script.lines

-- a script was read, and this is its report, or that of its first events
pub report_done : (f : Form) (left left' : Option (List ℕ)) (target : List ℕ) (value : Target) (events : List Stamped) (text : List ℕ) → ReadsScript f left left' target value events → IsReport target value events text → IsDone f left left' text
report_done f left left' target value events text read report = inr (record { target = target; value = value; events = events; script = read; report = report })

pub report_stops : (f : Form) (left left' : Option (List ℕ)) (target : List ℕ) (value : Target) (events : List Stamped) (text : List ℕ) → ReadsScript f left left' target value events → IsFirstReport target value events text → StopsLong f left left' text
report_stops f left left' target value events text read report = record { target = target; value = value; events = events; script = read; report = report }

-- either is the output of the program
pub report_output : (f : Form) (left left' : Option (List ℕ)) (target : List ℕ) (value : Target) (events : List Stamped) (text : List ℕ) → ReadsScript f left left' target value events → IsScriptReport target value events text → IsOutput f left left' text
report_output f left left' target value events text read (inl report) = inl (inl (report_done f left left' target value events text read report))
report_output f left left' target value events text read (inr report) = inl (inr (report_stops f left left' target value events text read report))

-- ---- the report of the first events, and the line after it

first_report : (target : List ℕ) (value : Target) (events first : List Stamped) (prefix : List ℕ) → 4096 < length events → first ≡ take 4096 events → IsReport target value first prefix → IsFirstReport target value events (prefix ++ stopped_text)
first_report target value events first prefix long is report = record {
  long = long;
  prefix = prefix;
  report = subst (λ (xs : List Stamped). IsReport target value xs prefix) is report;
  text_is = refl;
}

-- both were written
pub first_written : (target : List ℕ) (value : Target) (events first : List Stamped) (a b c : Option (List ℕ)) → 4096 < length events → first ≡ take 4096 events → WritesAll (IsReport target value first) a b → Appends b c stopped_text → WritesAll (IsFirstReport target value events) a c
first_written target value events first a b c long is all second =
    (all.0 ++ stopped_text, first_report target value events first all.0 long is all.1, wrote_both a b c all.0 stopped_text all.2 second)

-- the report, and a prefix of the line
pub first_prefix : (target : List ℕ) (value : Target) (events first : List Stamped) (a b c : Option (List ℕ)) → 4096 < length events → first ≡ take 4096 events → WritesAll (IsReport target value first) a b → AppendsPrefix b c stopped_text → WritesPrefix (IsFirstReport target value events) a c
first_prefix target value events first a b c long is all second =
    (all.0 ++ stopped_text, first_report target value events first all.0 long is all.1, wrote_first a b c all.0 stopped_text all.2 second)

-- a prefix of the report
pub first_part : (target : List ℕ) (value : Target) (events first : List Stamped) (a b : Option (List ℕ)) → 4096 < length events → first ≡ take 4096 events → WritesPrefix (IsReport target value first) a b → WritesPrefix (IsFirstReport target value events) a b
first_part target value events first a b long is prefix =
    (prefix.0 ++ stopped_text, first_report target value events first prefix.0 long is prefix.1, wrote_some a b prefix.0 stopped_text prefix.2)

pub first_some : (target : List ℕ) (value : Target) (events first : List Stamped) (a b : Option (List ℕ)) → 4096 < length events → first ≡ take 4096 events → WritesSome (IsReport target value first) a b → WritesSome (IsFirstReport target value events) a b
first_some target value events first a b long is (inl same) = inl same
first_some target value events first a b long is (inr prefix) = inr (first_part target value events first a b long is prefix)
