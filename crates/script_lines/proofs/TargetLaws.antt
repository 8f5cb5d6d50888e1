-- A target that says nothing is the fault of its line.
use Rattle.std.proofs.Common.{◌≡◌, ◌≢◌, ℕ, List, Result, Ok, Err, inr, subst, sym}
use Rattle.std.specs.Prelude.{IfErr}
use Rattle.std.specs.Result.{IsErrAnd}
use Rattle.resolver_core.specs.AnyTargets.{any_target_of}
use Rattle.resolver_core.specs.declared.any_target.Target.{Target}
use Rattle.script_lines.specs.declared.cause.LineFault.{LineFault}
use Rattle.script_lines.specs.declared.cause.LineFault.TheVariants as fault
use Rattle.script_lines.specs.Causes.{bad_address}
use Rattle.script_lines.specs.Lines.{IsChannelFault, IsReportedBy, IsVersion, channel_words}

-- what a `?` hands on
exit_of : {X : Type 0} (r : Result X LineFault) (P : LineFault → Type 0) (e : LineFault) → IsErrAnd r (λ y. y ≡ e) → P e → IfErr r P
exit_of (Ok x) P e h p = tt
exit_of (Err y) P e h p = subst P (sym h) p

reported_target : (texts : List (List ℕ)) (version target : List ℕ) (e : LineFault) → IsVersion version → texts ≡ channel_words version target → IsReportedBy (λ c. ((value : Target) → any_target_of target ≢ Ok value) × (c ≡ bad_address)) e → IsReportedBy (IsChannelFault texts) e
reported_target texts version target (fault.Bad c) is words reported = inr (version, target, is, words, reported.0, reported.1)
reported_target texts version target fault.NoMemory is words reported = tt

pub refused_target : {X : Type 0} (r : Result X LineFault) (texts : List (List ℕ)) (version target : List ℕ) (e : LineFault) → IsVersion version → texts ≡ channel_words version target → IsErrAnd r (λ y. y ≡ e) → IsReportedBy (λ c. ((value : Target) → any_target_of target ≢ Ok value) × (c ≡ bad_address)) e → IfErr r (IsReportedBy (IsChannelFault texts))
refused_target r texts version target e is words h reported = exit_of r (IsReportedBy (IsChannelFault texts)) e h (reported_target texts version target e is words reported)
