-- Fields of a text, and first faults after what passed.
use Rattle.std.proofs.Common.{◌≡◌, ℕ, List, [], ◌∷◌, length, refl, ap, sym, subst, inl, inr, arith, ◌∙◌, Result, Ok, Err, IfErr, IsErrAnd}
use Rattle.script_fields.specs.Spelling.{fields}
use Rattle.script_fields.proofs.PartLaws.{pieces-some}
use Rattle.script_lines.specs.declared.cause.LineFault.{LineFault}
use Rattle.script_lines.specs.declared.cause.LineFault.TheVariants as fault
use Rattle.script_lines.specs.Causes.{bad_count}
use Rattle.script_lines.specs.Events.{IsEventFault}
use Rattle.script_lines.specs.Fields.{AreArgumentsFault, FieldKind, IsFieldFault, IsGood, moment_field, word_field}
use Rattle.script_lines.specs.Lines.{IsStampedFault, IsReportedBy}

-- a text has a field, be it empty
pub some_field : (text : List ℕ) → (first : List ℕ) × (others : List (List ℕ)) × (fields text ≡ first ∷ others)
some_field text = pieces-some 32 text

pub not_one : (first text : List ℕ) (texts : List (List ℕ)) → texts ≡ first ∷ fields text → length texts ≡ 1 → ⊥
not_one first text texts is one =
    let some : (a : List ℕ) × (others : List (List ℕ)) × (fields text ≡ a ∷ others) = some_field text in
    let long : length texts ≡ length (first ∷ some.0 ∷ some.1) = ap length is ∙ ap (λ t. length (first ∷ t)) some.2 in
    omega (arith, long, one)

pub none_left : (text : List ℕ) (e : LineFault) → e ≡ fault.Bad bad_count → IsReportedBy (AreArgumentsFault [] (fields text)) e
none_left text e is =
    let some : (a : List ℕ) × (others : List (List ℕ)) × (fields text ≡ a ∷ others) = some_field text in
    let long : length (fields text) ≡ length (some.0 ∷ some.1) = ap length some.2 in
    rw is (inl ((λ none. omega (arith, long, none)), refl))

-- what a `?` hands on
pub reported_exit : {X : Type 0} (r : Result X LineFault) (causes : ℕ → Type 0) (e : LineFault) → IsErrAnd r (λ y. y ≡ e) → IsReportedBy causes e → IfErr r (IsReportedBy causes)
reported_exit (Ok x) causes e h reported = tt
reported_exit (Err y) causes e h reported = subst (IsReportedBy causes) (sym h) reported

pub reported_by : (P Q : ℕ → Type 0) (e : LineFault) → ((c : ℕ) → P c → Q c) → IsReportedBy P e → IsReportedBy Q e
reported_by P Q (fault.Bad cause) f reported = f cause reported
reported_by P Q fault.NoMemory f reported = tt

pub second_fault : (a b : FieldKind) (x y : List ℕ) (texts : List (List ℕ)) (e : LineFault) → texts ≡ x ∷ y ∷ [] → IsGood a x → IsReportedBy (IsFieldFault b y) e → IsReportedBy (AreArgumentsFault (a ∷ b ∷ []) texts) e
second_fault a b x y texts e is good reported =
    rw is (reported_by (IsFieldFault b y) (AreArgumentsFault (a ∷ b ∷ []) (x ∷ y ∷ [])) e (λ c h. inr (refl, inr (good, inl h))) reported)

-- the first fault of a line after the first, where it has a moment, a word and more
pub moment_fault : (moment word text : List ℕ) (texts : List (List ℕ)) (e : LineFault) → texts ≡ moment ∷ word ∷ fields text → IsReportedBy (IsFieldFault moment_field moment) e → IsReportedBy (IsStampedFault texts) e
moment_fault moment word text texts e is reported =
    let some : (a : List ℕ) × (others : List (List ℕ)) × (fields text ≡ a ∷ others) = some_field text in
    let all : texts ≡ moment ∷ word ∷ some.0 ∷ some.1 = is ∙ ap (λ t. moment ∷ word ∷ t) some.2 in
    rw all (reported_by (IsFieldFault moment_field moment) (IsStampedFault (moment ∷ word ∷ some.0 ∷ some.1)) e (λ c h. inl h) reported)

pub word_fault : (moment word text : List ℕ) (texts : List (List ℕ)) (e : LineFault) → texts ≡ moment ∷ word ∷ fields text → IsGood moment_field moment → IsReportedBy (IsFieldFault word_field word) e → IsReportedBy (IsStampedFault texts) e
word_fault moment word text texts e is good reported =
    let some : (a : List ℕ) × (others : List (List ℕ)) × (fields text ≡ a ∷ others) = some_field text in
    let all : texts ≡ moment ∷ word ∷ some.0 ∷ some.1 = is ∙ ap (λ t. moment ∷ word ∷ t) some.2 in
    rw all (reported_by (IsFieldFault word_field word) (IsStampedFault (moment ∷ word ∷ some.0 ∷ some.1)) e (λ c h. inr (good, inl h)) reported)
