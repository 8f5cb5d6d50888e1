-- A script whose session is within the limits is run to its end, unless a read or a write fails or memory ends.
use Rattle.std.proofs.Common.{◌≡◌, ◌⊎◌, ◌∙◌, ℕ, Option, Some, List, ◌∷◌, [], ap, arith, inl, inr, refl, subst, sym}
use Rattle.grpc_base.specs.declared.event.Stamped.{Stamped}
use Rattle.gate_io.specs.Outside.{Rises, Takes}
use Rattle.lb_policy.specs.Table.{PolicySeen}
use Rattle.resolver_core.specs.AnyTargets.{authority_of}
use Rattle.resolver_core.specs.declared.any_target.Target.{Target}
use Rattle.session_text.specs.Writing.{WritesAll}
use Rattle.script_input.specs.Scripts.{IsFirstBad, IsScript}
use Rattle.script_input.specs.declared.form.Form.TheVariants as form
use Rattle.channel_top.specs.Complete.{HaveRoom, IsRunnable}
use Rattle.channel_top.specs.Modes.{EndsSession, FillsIn, RefusesIn, RefusesWords, StopsIn, StopsReading, ReportsFault, ReportsFaultIn, NotListening, NotListeningIn}
use Rattle.channel_top.specs.Top.{EndsFull, IsFullReport, ReportsBadLine}
use Rattle.channel_top.specs.Words.{Runs, RunsPlain, dashes, mode_of, name_text}
use Rattle.channel_top.specs.declared.words.Mode.{Mode}
use Rattle.channel_top.specs.declared.words.Mode.TheVariants as mode
use Rattle.channel_top.specs.declared.words.ModeName.{ModeName}
use Rattle.channel_top.specs.declared.words.ModeName.TheVariants as name
use Rattle.channel_top.proofs.GrammarLaws.{no_bad}
use Rattle.channel_top.proofs.TakenLaws.{all_taken, found_one}

-- ---- a script has no bad line

never_bad : (policies : List PolicySeen) (left left' : Option (List ℕ)) (text : List ℕ) → IsRunnable policies left → ReportsBadLine left left' text → ⊥
never_bad policies left left' text can reports_that =
    no_bad form.Script can.input can.target can.value can.events reports_that.line reports_that.cause can.script
    (found_one (λ x. IsFirstBad form.Script x reports_that.line reports_that.cause) can.input reports_that.bad.input left'
    (subst (λ (l : Option (List ℕ)). Takes l left' reports_that.bad.input) can.left_is reports_that.bad.read) reports_that.bad.bad)

-- ---- its session has room

never_full : (policies : List PolicySeen) (left left' : Option (List ℕ)) (text : List ℕ) → IsRunnable policies left → EndsFull policies left left' text → ⊥
never_full policies left left' text can ends =
    let input : can.input ≡ ends.input = all_taken can.input ends.input left' (subst (λ (l : Option (List ℕ)). Takes l left' ends.input) can.left_is ends.read) ends.at_end in
    let same = ends.only can.target can.value can.events (subst (λ (x : List ℕ). IsScript form.Script x can.target can.value can.events) input can.script) in
    let r : IsFullReport policies ends.target ends.value ends.events text = ends.report in
    let room : HaveRoom policies (authority_of ends.value) ends.events =
    subst (λ (v : Target). HaveRoom policies (authority_of v) ends.events) same.1
    (subst (λ (es : List Stamped). HaveRoom policies (authority_of can.value) es) same.2 can.room) in
    room r.prefix r.next r.afterwards r.journal r.ledger r.parts r.session r.full

-- ---- words that run `replay` run no other mode

named_replay : (words : List (List ℕ)) → RunsPlain name.Replay words → mode_of words ≡ Some name.Replay
named_replay words (inl is) = ap mode_of is
named_replay words (inr is) = ap mode_of is

named_plain : (m : ModeName) (words : List (List ℕ)) → mode_of (name_text m ∷ []) ≡ Some m → mode_of (name_text m ∷ dashes ∷ []) ≡ Some m → RunsPlain m words → mode_of words ≡ Some m
named_plain m words alone dashed (inl is) = ap mode_of is ∙ alone
named_plain m words alone dashed (inr is) = ap mode_of is ∙ dashed

other_name : (a : ModeName) (words : List (List ℕ)) → mode_of words ≡ Some name.Replay → mode_of words ≡ Some a → (Some name.Replay ≡ Some a → ⊥) → ⊥
other_name a words is also differs = differs (sym is ∙ also)

-- a promise of the mode that the words run is one of `replay`
of_replay : (P : Mode → Type 0) (words : List (List ℕ)) → RunsPlain name.Replay words → (m : Mode) → Runs m words → P m → P mode.Replay
of_replay P words runs mode.Replay also p = p
of_replay P words runs mode.Config also p = absurd (other_name name.Config words (named_replay words runs) (named_plain name.Config words refl refl also) (λ e. (cc)))
of_replay P words runs mode.Migrate also p = absurd (other_name name.Migrate words (named_replay words runs) (named_plain name.Migrate words refl refl also) (λ e. (cc)))
of_replay P words runs (mode.Serve port links) also p = absurd (other_name name.Serve words (named_replay words runs) also.named (λ e. (cc)))
of_replay P words runs (mode.Load load) also p = absurd (other_name name.Load words (named_replay words runs) also.named (λ e. (cc)))
of_replay P words runs (mode.Live settings) also p = absurd (other_name name.Live words (named_replay words runs) also.named (λ e. (cc)))
of_replay P words runs (mode.Relay settings) also p = absurd (other_name name.Relay words (named_replay words runs) also.named (λ e. (cc)))

-- ---- statuses that cannot be

pub not_refused : (policies : List PolicySeen) (words : List (List ℕ)) (left left' : Option (List ℕ)) (text : List ℕ) → RunsPlain name.Replay words → RefusesWords policies words left left' text → ⊥
not_refused policies words left left' text runs (inl wrong) = wrong.0.0 mode.Replay runs
not_refused policies words left left' text runs (inr (m, also, refused)) = of_replay (λ k. RefusesIn policies k left left' text) words runs m also refused

pub not_faulty : (policies : List PolicySeen) (words : List (List ℕ)) (left left' : Option (List ℕ)) (text : List ℕ) → RunsPlain name.Replay words → IsRunnable policies left → ReportsFault policies words left left' text → ⊥
not_faulty policies words left left' text runs can (m, also, reports_that) =
    never_bad policies left left' text can (of_replay (λ k. ReportsFaultIn policies k left left' text) words runs m also reports_that)

pub not_full : (policies : List PolicySeen) (held : List (Option (List (List ℕ)))) (words : List (List ℕ)) (left left' : Option (List ℕ)) (text : List ℕ) → RunsPlain name.Replay words → IsRunnable policies left → EndsSession policies held words left left' text → ⊥
not_full policies held words left left' text runs can (m, also, fills) =
    never_full policies left left' text can (of_replay (λ k. FillsIn policies held k left left' text) words runs m also fills)

pub failed_read : (words : List (List ℕ)) (left left' taken taken' : Option (List ℕ)) (faults faults' : ℕ) → RunsPlain name.Replay words → StopsReading words left left' taken taken' faults faults' → Rises faults faults'
failed_read words left left' taken taken' faults faults' runs (m, also, stops) =
    (of_replay (λ k. StopsIn k left left' taken taken' faults faults') words runs m also stops).stops.failed

pub never_not_listening : (words : List (List ℕ)) (left left' taken taken' : Option (List ℕ)) (faults faults' : ℕ) → RunsPlain name.Replay words → NotListening words left left' taken taken' faults faults' → ⊥
never_not_listening words left left' taken taken' faults faults' runs (m, also, not_listening) = of_replay (λ k. NotListeningIn k left left' taken taken' faults faults') words runs m also not_listening

-- a count that stands does not rise
pub never_rises : Rises 0 0 → ⊥
never_rises rises = omega (arith, rises)

-- ---- all together

pub completes : (r : ℕ) (policies : List PolicySeen) (held : List (Option (List (List ℕ)))) (words : List (List ℕ)) (left left' taken taken' : Option (List ℕ)) (reads reads' writes writes' opens opens' : ℕ)
    → (r ≡ 0) ⊎ (r ≡ 2) ⊎ (r ≡ 3) ⊎ (r ≡ 4) ⊎ (r ≡ 5) ⊎ (r ≡ 6) ⊎ (r ≡ 7) ⊎ (r ≡ 8)
    → (r ≡ 2 → WritesAll (RefusesWords policies words left left') taken taken') → (r ≡ 3 → WritesAll (ReportsFault policies words left left') taken taken')
    → (r ≡ 4 → StopsReading words left left' taken taken' reads reads') → (r ≡ 5 → Rises writes writes')
    → (r ≡ 7 → WritesAll (EndsSession policies held words left left') taken taken') → (r ≡ 8 → NotListening words left left' taken taken' opens opens')
    → RunsPlain name.Replay words → IsRunnable policies left → (Rises reads reads' → ⊥) → (Rises writes writes' → ⊥) → (r ≡ 0) ⊎ (r ≡ 6)
completes r policies held words left left' taken taken' reads reads' writes writes' opens opens' known refused faulty stops writing full not_listening runs can read wrote = by known
  where
    by : (r ≡ 0) ⊎ (r ≡ 2) ⊎ (r ≡ 3) ⊎ (r ≡ 4) ⊎ (r ≡ 5) ⊎ (r ≡ 6) ⊎ (r ≡ 7) ⊎ (r ≡ 8) → (r ≡ 0) ⊎ (r ≡ 6)
    by (inl zero) = inl zero
    by (inr (inl two)) = absurd (not_refused policies words left left' _ runs (refused two).1)
    by (inr (inr (inl three))) = absurd (not_faulty policies words left left' _ runs can (faulty three).1)
    by (inr (inr (inr (inl four)))) = absurd (read (failed_read words left left' taken taken' reads reads' runs (stops four)))
    by (inr (inr (inr (inr (inl five))))) = absurd (wrote (writing five))
    by (inr (inr (inr (inr (inr (inl six)))))) = inr six
    by (inr (inr (inr (inr (inr (inr (inl seven))))))) = absurd (not_full policies held words left left' _ runs can (full seven).1)
    by (inr (inr (inr (inr (inr (inr (inr eight))))))) = absurd (never_not_listening words left left' taken taken' opens opens' runs (not_listening eight))
