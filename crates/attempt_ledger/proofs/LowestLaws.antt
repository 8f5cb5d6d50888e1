-- Which law is the lowest that a row breaks, where the laws below it are kept.
use Rattle.std.proofs.Common.{◌≡◌, ℕ, inl, inr, Bool, true, false, IsTrue, List, length, refl, sym, subst, arith}
use Rattle.grpc_base.specs.declared.plan.Chosen.{Chosen}
use Rattle.attempt_ledger.specs.declared.row.Row.{Row}
use Rattle.attempt_ledger.specs.Faults.{Breaks, IsLowestBroken}
use Rattle.attempt_ledger.specs.Hedging.{KeepsHedging}
use Rattle.attempt_ledger.specs.Numbering.{KeepsNumbering, attempts_of}
use Rattle.attempt_ledger.specs.Retries.{KeepsRetries}
use Rattle.attempt_ledger.specs.Throttling.{KeepsThrottling}
use Rattle.attempt_ledger.specs.TransparentRows.{KeepsTransparent}

-- what a test reports of a law
pub kept : {P : Type 0} (reported : Bool) → reported ≡ true → (IsTrue reported → P) × (P → IsTrue reported) → P
kept reported held says = says.0 held

pub broken : {P : Type 0} (reported : Bool) → reported ≡ false → (IsTrue reported → P) × (P → IsTrue reported) → P → ⊥
broken reported failed says keeps = let held : reported ≡ true = says.1 keeps in cc

-- the laws, of a row between others
abbrev pub Numbered : Chosen → List Row → Row → Type 0
Numbered chosen before row = KeepsNumbering chosen.plan (length (attempts_of before)) row

pub numbered : (chosen : Chosen) (count : ℕ) (before : List Row) (row : Row) → count ≡ length (attempts_of before) → KeepsNumbering chosen.plan count row → Numbered chosen before row
numbered chosen count before row many keeps = subst (λ (n : ℕ). KeepsNumbering chosen.plan n row) many keeps

pub not-numbered : (chosen : Chosen) (count : ℕ) (before : List Row) (row : Row) → count ≡ length (attempts_of before) → (KeepsNumbering chosen.plan count row → ⊥) → Numbered chosen before row → ⊥
not-numbered chosen count before row many breaks keeps = breaks (subst (λ (n : ℕ). KeepsNumbering chosen.plan n row) (sym many) keeps)

pub breaks-numbering : (chosen : Chosen) (rows before : List Row) (row : Row) (after : List Row) → (Numbered chosen before row → ⊥) → IsLowestBroken chosen rows before row after 8
breaks-numbering chosen rows before row after broken =
    record {
      broken = inl (refl, broken);
      lowest = λ other b. elim b [ inl x ↦ (let e : other ≡ 8 = x.0 in omega arith) | inr b2 ↦ elim b2 [ inl x ↦ (let e : other ≡ 9 = x.0 in omega arith) | inr b3 ↦ elim b3 [ inl x ↦ (let e : other ≡ 10 = x.0 in omega arith) | inr b4 ↦ elim b4 [ inl x ↦ (let e : other ≡ 11 = x.0 in omega arith) | inr x ↦ (let e : other ≡ 12 = x.0 in omega arith) ] ] ] ];
    }

pub breaks-retries : (chosen : Chosen) (rows before : List Row) (row : Row) (after : List Row) → Numbered chosen before row → (KeepsRetries chosen rows row after → ⊥) → IsLowestBroken chosen rows before row after 9
breaks-retries chosen rows before row after k8 broken =
    record {
      broken = inr (inl (refl, broken));
      lowest = λ other b. elim b [ inl x ↦ absurd (x.1 k8) | inr b2 ↦ elim b2 [ inl x ↦ (let e : other ≡ 9 = x.0 in omega arith) | inr b3 ↦ elim b3 [ inl x ↦ (let e : other ≡ 10 = x.0 in omega arith) | inr b4 ↦ elim b4 [ inl x ↦ (let e : other ≡ 11 = x.0 in omega arith) | inr x ↦ (let e : other ≡ 12 = x.0 in omega arith) ] ] ] ];
    }

pub breaks-hedging : (chosen : Chosen) (rows before : List Row) (row : Row) (after : List Row) → Numbered chosen before row → KeepsRetries chosen rows row after → (KeepsHedging chosen.plan rows before row → ⊥) → IsLowestBroken chosen rows before row after 10
breaks-hedging chosen rows before row after k8 k9 broken =
    record {
      broken = inr (inr (inl (refl, broken)));
      lowest = λ other b. elim b [ inl x ↦ absurd (x.1 k8) | inr b2 ↦ elim b2 [ inl x ↦ absurd (x.1 k9) | inr b3 ↦ elim b3 [ inl x ↦ (let e : other ≡ 10 = x.0 in omega arith) | inr b4 ↦ elim b4 [ inl x ↦ (let e : other ≡ 11 = x.0 in omega arith) | inr x ↦ (let e : other ≡ 12 = x.0 in omega arith) ] ] ] ];
    }

pub breaks-transparent : (chosen : Chosen) (rows before : List Row) (row : Row) (after : List Row) → Numbered chosen before row → KeepsRetries chosen rows row after → KeepsHedging chosen.plan rows before row → (KeepsTransparent rows before row after → ⊥) → IsLowestBroken chosen rows before row after 11
breaks-transparent chosen rows before row after k8 k9 k10 broken =
    record {
      broken = inr (inr (inr (inl (refl, broken))));
      lowest = λ other b. elim b [ inl x ↦ absurd (x.1 k8) | inr b2 ↦ elim b2 [ inl x ↦ absurd (x.1 k9) | inr b3 ↦ elim b3 [ inl x ↦ absurd (x.1 k10) | inr b4 ↦ elim b4 [ inl x ↦ (let e : other ≡ 11 = x.0 in omega arith) | inr x ↦ (let e : other ≡ 12 = x.0 in omega arith) ] ] ] ];
    }

pub breaks-throttling : (chosen : Chosen) (rows before : List Row) (row : Row) (after : List Row) → Numbered chosen before row → KeepsRetries chosen rows row after → KeepsHedging chosen.plan rows before row → KeepsTransparent rows before row after → (KeepsThrottling chosen row after → ⊥) → IsLowestBroken chosen rows before row after 12
breaks-throttling chosen rows before row after k8 k9 k10 k11 broken =
    record {
      broken = inr (inr (inr (inr (refl, broken))));
      lowest = λ other b. elim b [ inl x ↦ absurd (x.1 k8) | inr b2 ↦ elim b2 [ inl x ↦ absurd (x.1 k9) | inr b3 ↦ elim b3 [ inl x ↦ absurd (x.1 k10) | inr b4 ↦ elim b4 [ inl x ↦ absurd (x.1 k11) | inr x ↦ (let e : other ≡ 12 = x.0 in omega arith) ] ] ] ];
    }

pub breaks-none : (chosen : Chosen) (rows before : List Row) (row : Row) (after : List Row) → Numbered chosen before row → KeepsRetries chosen rows row after → KeepsHedging chosen.plan rows before row → KeepsTransparent rows before row after → KeepsThrottling chosen row after → (law : ℕ) → Breaks chosen rows law before row after → ⊥
breaks-none chosen rows before row after k8 k9 k10 k11 k12 law b =
    elim b [ inl x ↦ x.1 k8 | inr b2 ↦ elim b2 [ inl x ↦ x.1 k9 | inr b3 ↦ elim b3 [ inl x ↦ x.1 k10 | inr b4 ↦ elim b4 [ inl x ↦ x.1 k11 | inr x ↦ x.1 k12 ] ] ] ]
