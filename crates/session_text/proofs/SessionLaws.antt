-- The session of a channel that was given events, and the text that is written of it.
use Rattle.std.proofs.Common.{◌≡◌, ℕ, Option, List, [], ◌++◌, refl, sym, subst}
use Rattle.grpc_base.specs.declared.event.Stamped.{Stamped}
use Rattle.attempt_ledger.specs.declared.journal.Journal.{Journal}
use Rattle.attempt_ledger.specs.declared.ledger.Ledger.{Ledger}
use Rattle.gate_io.specs.Outside.{Appends, AppendsPrefix}
use Rattle.gate_io.proofs.AppendLaws.{Appends-append}
use Rattle.script_text.specs.Report.{report_of}
use Rattle.script_text.proofs.Passing.{AppendsPrefix-afterwards, AppendsPrefix-more, Passes-all}
use Rattle.channel_core.specs.Core.{CoreSeen, ledger_in}
use Rattle.journal_room.specs.Runs.{HasRunBy}
use Rattle.lb_policy.specs.Table.{PolicySeen}
use Rattle.session_text.specs.declared.ran.Ran.{Ran}
use Rattle.session_text.specs.declared.ran.Ran.TheVariants as ran
use Rattle.session_text.specs.Sessions.{AreEntriesOf, IsSession, run_text, session_full_text}
use Rattle.session_text.proofs.EntryLaws.{entries_of}

pub session_of : (authority : List ℕ) (policies : List PolicySeen) (core : CoreSeen) (events : List Stamped) (journal : Journal) (ledger : Ledger) → HasRunBy authority policies events core → journal ≡ core.journal → ledger ≡ ledger_in core → IsSession authority policies events journal ledger
session_of authority policies core events journal ledger run j l = record {
  core = core;
  run = run;
  journal_is = j;
  ledger_is = l;
  entries = subst (λ (x : Journal). AreEntriesOf events x) (sym j) (entries_of authority policies events core run);
}

-- two texts are written, one after the other
pub wrote_both : (a b c : Option (List ℕ)) (x y : List ℕ) → Appends a b x → Appends b c y → Appends a c (x ++ y)
wrote_both a b c x y first second = Appends-append a b c x y (x ++ y) first second refl

-- the first whole, and a prefix of the second
pub wrote_first : (a b c : Option (List ℕ)) (x y : List ℕ) → Appends a b x → AppendsPrefix b c y → AppendsPrefix a c (x ++ y)
wrote_first a b c x y first second = AppendsPrefix-afterwards a b c x [] [] y (Passes-all a b x first) second

-- a prefix of the first
pub wrote_some : (a b : Option (List ℕ)) (x y : List ℕ) → AppendsPrefix a b x → AppendsPrefix a b (x ++ y)
wrote_some a b x y prefix = AppendsPrefix-more a b x y prefix

-- the report is written, or a prefix of it
written_same : (Is : List ℕ → Type 0) (target : List ℕ) (journal j : Journal) (ledger l : Ledger) → j ≡ journal → l ≡ ledger → Is (report_of target j l) → Is (report_of target journal ledger)
written_same Is target journal j ledger l js ls is =
    subst (λ (x : Journal). Is (report_of target x ledger)) js (subst (λ (x : Ledger). Is (report_of target j x)) ls is)

pub report_prefix : (r : Ran) (a b : Option (List ℕ)) (target : List ℕ) (journal j : Journal) (ledger l : Ledger) → j ≡ journal → l ≡ ledger → AppendsPrefix a b (report_of target j l) → AppendsPrefix a b (run_text r target journal ledger)
report_prefix ran.Whole a b target journal j ledger l js ls prefix = written_same (λ t. AppendsPrefix a b t) target journal j ledger l js ls prefix
report_prefix ran.Full a b target journal j ledger l js ls prefix =
    wrote_some a b (report_of target journal ledger) session_full_text (written_same (λ t. AppendsPrefix a b t) target journal j ledger l js ls prefix)

-- and the line after it
pub full_written : (r : Ran) (a b c : Option (List ℕ)) (target : List ℕ) (journal j : Journal) (ledger l : Ledger) → r ≡ ran.Full → j ≡ journal → l ≡ ledger → Appends a b (report_of target j l) → Appends b c session_full_text → Appends a c (run_text r target journal ledger)
full_written r a b c target journal j ledger l is js ls first second =
    subst (λ (x : Ran). Appends a c (run_text x target journal ledger)) (sym is)
    (wrote_both a b c (report_of target journal ledger) session_full_text (written_same (λ t. Appends a b t) target journal j ledger l js ls first) second)

pub full_prefix : (r : Ran) (a b c : Option (List ℕ)) (target : List ℕ) (journal j : Journal) (ledger l : Ledger) → r ≡ ran.Full → j ≡ journal → l ≡ ledger → Appends a b (report_of target j l) → AppendsPrefix b c session_full_text → AppendsPrefix a c (run_text r target journal ledger)
full_prefix r a b c target journal j ledger l is js ls first second =
    subst (λ (x : Ran). AppendsPrefix a c (run_text x target journal ledger)) (sym is)
    (wrote_first a b c (report_of target journal ledger) session_full_text (written_same (λ t. Appends a b t) target journal j ledger l js ls first) second)
