-- What a line of a server script says keeps the rules of server scripts as data.
use Rattle.std.proofs.Common.{◌≡◌, ◌≢◌, ◌≤◌, ℕ, suc, ◌+◌, Bool, true, false, List, [], ◌∷◌, length, drop, All, refl, ap, sym, subst, inl, inr, arith, eq-eqb, ◌∙◌}
use Rattle.std.specs.Prelude.{◌==◌, ◌||◌}
use Rattle.std.specs.List.{AllByRecursion, after_first, onto_first, position_or_len}
use Rattle.std.proofs.lemmas.Bool.{true≢false}
use Rattle.std.proofs.lemmas.Bool.Decides.{nat_tests}
use Rattle.std.proofs.lemmas.List.Elements.{All-from_recursion, recursion_from_All}
use Rattle.std.proofs.lemmas.List.Splits.{slice_split-cons_no, slice_split-cons_yes}
use Rattle.grpc_base.specs.declared.script.AnswerLine.{AnswerLine}
use Rattle.grpc_base.specs.declared.script.AnswerPart.{AnswerPart}
use Rattle.grpc_base.specs.declared.script.AnswerPart.TheVariants as part
use Rattle.grpc_base.specs.Pieces.{pieces}
use Rattle.grpc_base.specs.Requests.{IsPath}
use Rattle.grpc_base.specs.Scripts.{IsAnswer, IsAnswerPart, IsPushback, ends_stream, is_goaway, is_pushback_byte}
use Rattle.script_fields.specs.Spelling.{fields}
use Rattle.script_fields.proofs.PartLaws.{pieces-some}
use Rattle.script_fields.proofs.TextLaws.{bool_cases}
use Rattle.script_lines.specs.declared.line.ScriptLine.{ScriptLine}
use Rattle.script_lines.specs.declared.line.ScriptLine.TheVariants as line
use Rattle.script_lines.specs.declared.reader.ScriptKind.{ScriptKind}
use Rattle.script_lines.specs.declared.reader.ScriptKind.TheVariants as script
use Rattle.script_lines.specs.Answers.{Answered, AreParts, IsAnswerText, IsPart, IsWithin}
use Rattle.script_lines.specs.Lines.{IsLiveText}
use Rattle.script_lines.specs.Reader.{IsKindLine, IsLine, KeepsRules, ReaderSeen}

-- the pieces of a text have its bytes but for the separator
pieces_bytes : (P : ℕ → Type 0) (b : ℕ) (s : List ℕ) → AllByRecursion P s → AllByRecursion (λ (w : List ℕ). AllByRecursion (λ d. P d × (d ≢ b)) w) (pieces b s)
pieces_bytes P b [] h = (tt, tt)
pieces_bytes P b (x ∷ s) h =
    let p : (piece : List ℕ) × (more : List (List ℕ)) × (pieces b s ≡ piece ∷ more) = pieces-some b s in
    let rest : AllByRecursion (λ (w : List ℕ). AllByRecursion (λ d. P d × (d ≢ b)) w) (pieces b s) = pieces_bytes P b s h.1 in
    elim (bool_cases (x == b)) [
      | inl same ↦ subst (λ (ws : List (List ℕ)). AllByRecursion (λ (w : List ℕ). AllByRecursion (λ d. P d × (d ≢ b)) w) ws) (sym (slice_split-cons_yes (λ d. d == b) x s same)) (tt, rest)
      | inr other ↦ (
          let there : AllByRecursion (λ (w : List ℕ). AllByRecursion (λ d. P d × (d ≢ b)) w) (p.0 ∷ p.1) = subst (λ (ws : List (List ℕ)). AllByRecursion (λ (w : List ℕ). AllByRecursion (λ d. P d × (d ≢ b)) w) ws) p.2 rest in
          let apart : x ≢ b = λ e. true≢false (sym (eq-eqb x b e) ∙ other) in
          subst (λ (ws : List (List ℕ)). AllByRecursion (λ (w : List ℕ). AllByRecursion (λ d. P d × (d ≢ b)) w) ws) (sym (slice_split-cons_no (λ d. d == b) x s other ∙ ap (onto_first x) p.2)) (((h.0, apart), there.0), there.1)
          )
    ]

-- a byte of a line, of a field, and of a part
abbrev IsLineByte : ℕ → Type 0
IsLineByte b = (32 ≤ b) × (b ≤ 126)

abbrev IsFieldByte : ℕ → Type 0
IsFieldByte b = IsLineByte b × (b ≢ 32)

abbrev IsPartByte : ℕ → Type 0
IsPartByte b = IsFieldByte b × (b ≢ 44)

pushback_byte : (b : ℕ) → IsPartByte b → is_pushback_byte b ≡ true
pushback_byte b h = grind (arith, nat_tests, h.0.0.0, h.0.0.1, h.0.1, h.1)

pushback_bytes : (s : List ℕ) → AllByRecursion IsPartByte s → AllByRecursion (λ b. is_pushback_byte b ≡ true) s
pushback_bytes [] h = tt
pushback_bytes (b ∷ s) h = (pushback_byte b h.0, pushback_bytes s h.1)

part_kept : (ended : Bool) (text : List ℕ) (p : AnswerPart) → AllByRecursion IsPartByte text → IsPart ended text p → IsWithin p → IsAnswerPart p
part_kept ended text (part.Pushback t) h is within =
    let bytes : AllByRecursion IsPartByte (112 ∷ is.0) = subst (AllByRecursion IsPartByte) is.1.0 h in
    subst IsPushback (sym is.2) (record { not_empty = is.1.1.0; within = is.1.1.1; bytes = All-from_recursion (λ b. is_pushback_byte b ≡ true) is.0 (pushback_bytes is.0 bytes.1) })
part_kept ended text (part.Message m) h is within = within
part_kept ended text p h is within = tt

parts_kept : (ended : Bool) (texts : List (List ℕ)) (ps : List AnswerPart) → AllByRecursion (λ (w : List ℕ). AllByRecursion IsPartByte w) texts → AreParts ended texts ps → AllByRecursion IsWithin ps → AllByRecursion IsAnswerPart ps
parts_kept ended texts [] h are within = tt
parts_kept ended [] (p ∷ ps) h are within = absurd are
parts_kept ended (text ∷ texts) (p ∷ ps) h are within = (part_kept ended text p h.0 are.0 within.0, parts_kept (ended || ends_stream p) texts ps h.1 are.1 within.1)

-- after a status or a reset there is only GOAWAY
goaway_alone : (text : List ℕ) (p : AnswerPart) → IsPart true text p → is_goaway p ≡ true
goaway_alone text part.Goaway is = refl
goaway_alone text part.Head is = absurd (true≢false is.1.2)
goaway_alone text (part.Message m) is = absurd (true≢false is.1.2)
goaway_alone text (part.Status n) is = absurd (true≢false is.1.2)
goaway_alone text (part.Pushback t) is = absurd (true≢false is.1.2)
goaway_alone text (part.Reset n) is = absurd (true≢false is.1.2)
goaway_alone text (part.Hold n) is = absurd (true≢false is.1.2)

goaways : (texts : List (List ℕ)) (ps : List AnswerPart) → AreParts true texts ps → AllByRecursion (λ p. is_goaway p ≡ true) ps
goaways texts [] are = tt
goaways [] (p ∷ ps) are = absurd are
goaways (text ∷ texts) (p ∷ ps) are = (goaway_alone text p are.0, goaways texts ps are.1)

one_more : (n : ℕ) (p : AnswerPart) (ps : List AnswerPart) → drop (1 + n + 1) (p ∷ ps) ≡ drop (n + 1) ps
one_more n p ps = (let e : 1 + n + 1 ≡ suc (n + 1) = omega arith in rw e refl)

ended_once : (texts : List (List ℕ)) (ps : List AnswerPart) → AreParts false texts ps → AllByRecursion (λ p. is_goaway p ≡ true) (after_first ends_stream ps)
ended_once texts [] are = tt
ended_once [] (p ∷ ps) are = absurd are
ended_once (text ∷ texts) (part.Status n ∷ ps) are = goaways texts ps are.1
ended_once (text ∷ texts) (part.Reset n ∷ ps) are = goaways texts ps are.1
ended_once (text ∷ texts) (p ∷ ps) are = subst (AllByRecursion (λ q. is_goaway q ≡ true)) (sym (one_more (position_or_len ends_stream ps) p ps)) (ended_once texts ps are.1)

some_parts : (ended : Bool) (text : List ℕ) (ps : List AnswerPart) → AreParts ended (pieces 44 text) ps → 1 ≤ length ps
some_parts ended text [] are = (let p : (piece : List ℕ) × (more : List (List ℕ)) × (pieces 44 text ≡ piece ∷ more) = pieces-some 44 text in absurd (subst (λ (ws : List (List ℕ)). AreParts ended ws []) p.2 are))
some_parts ended text (p ∷ ps) are = omega arith

answer_kept : (answered : Answered) (texts : List (List ℕ)) (a : AnswerLine) → AllByRecursion (λ (w : List ℕ). AllByRecursion IsFieldByte w) texts → IsAnswerText answered texts a → IsAnswer a
answer_kept answered (name ∷ (path ∷ (n ∷ (parts ∷ [])))) a h t =
    let bytes : AllByRecursion (λ (w : List ℕ). AllByRecursion IsPartByte w) (pieces 44 parts) = pieces_bytes IsFieldByte 44 parts h.1.1.1.0 in
    record {
      path_is = subst IsPath (sym t.2) t.1;
      not_empty = some_parts false parts a.parts t.5.0;
      parts_are = All-from_recursion IsAnswerPart a.parts (parts_kept false (pieces 44 parts) a.parts bytes t.5.0 (recursion_from_All IsWithin a.parts t.5.1));
      ends_once = All-from_recursion (λ p. is_goaway p ≡ true) (after_first ends_stream a.parts) (ended_once (pieces 44 parts) a.parts t.5.0);
    }
answer_kept answered texts a h t = absurd t

kind_kept : (k : ScriptKind) (n : ℕ) (answered : Answered) (text : List ℕ) (read : ScriptLine) → All IsLineByte text → IsKindLine k n answered (fields text) read → KeepsRules read
kind_kept script.Server n answered text (line.Answer a) h t = answer_kept answered (fields text) a (pieces_bytes IsLineByte 32 text (recursion_from_All IsLineByte text h)) t
kind_kept script.Replay n answered text (line.Answer a) h t = absurd t
kind_kept script.Live n answered text (line.Answer a) h t = absurd (no_live_answer n (fields text) a t.1)
  where
    no_live_answer : (n : ℕ) (texts : List (List ℕ)) (a : AnswerLine) → IsLiveText n texts (line.Answer a) → ⊥
    no_live_answer n [] a t = t
    no_live_answer n (name ∷ others) a t = t
kind_kept k n answered text read h t = tt

-- what a line says keeps the rules
pub line_kept : (r : ReaderSeen) (text : List ℕ) (closed : Bool) (read : ScriptLine) → IsLine r text closed read → KeepsRules read
line_kept r text closed read t = kind_kept r.kind (r.lines + 1) r.answered text read t.0.2.0 t.1
