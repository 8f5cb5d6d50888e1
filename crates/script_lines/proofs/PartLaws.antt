-- Parts of an answer, one after the other.
use Rattle.std.proofs.Common.{◌≡◌, ℕ, List, [], ◌∷◌, ◌++◌, Bool, sym, subst, inr, append_assoc, append-nil}
use Rattle.std.specs.Prelude.{◌||◌, false}
use Rattle.grpc_base.specs.declared.script.AnswerPart.{AnswerPart}
use Rattle.grpc_base.specs.Scripts.{ends_stream}
use Rattle.script_lines.specs.Answers.{AreParts, ArePartsFault, IsPart}

-- what is left gives the rest of the parts, or the first fault
abbrev pub Continues : List (List ℕ) → Bool → List (List ℕ) → List AnswerPart → Type 0
Continues all ended texts parts =
    ((ps : List AnswerPart) → AreParts ended texts ps → AreParts false all (parts ++ ps))
    × ((c : ℕ) → ArePartsFault ended texts c → ArePartsFault false all c)

pub part_step : (all : List (List ℕ)) (ended next : Bool) (first : List ℕ) (texts more : List (List ℕ)) (parts pushed : List AnswerPart) (p : AnswerPart) → texts ≡ first ∷ more → next ≡ (ended || ends_stream p) → pushed ≡ parts ++ p ∷ [] → IsPart ended first p → Continues all ended texts parts → Continues all next more pushed
part_step all ended next first texts more parts pushed p is then made good inv =
    let old : Continues all ended (first ∷ more) parts = subst (λ t. Continues all ended t parts) is inv in
    rw then (rw made (
      (λ ps h. subst (AreParts false all) (sym (append_assoc parts (p ∷ []) ps)) (old.0 (p ∷ ps) (good, h))),
      (λ c h. old.1 c (inr (p, good, h))),
    ))

pub parts_done : (all : List (List ℕ)) (ended : Bool) (texts : List (List ℕ)) (parts : List AnswerPart) → texts ≡ [] → Continues all ended texts parts → AreParts false all parts
parts_done all ended texts parts none inv =
    let old : Continues all ended [] parts = subst (λ t. Continues all ended t parts) none inv in
    subst (AreParts false all) (append-nil parts) (old.0 [] tt)
