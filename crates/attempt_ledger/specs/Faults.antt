-- Where the rows of one call break a law, and which fault is reported. The laws have the numbers 8 (the numbering of attempts),
-- 9 (retries), 10 (hedging), 11 (transparent retries) and 12 (throttling).
use Rattle.std.specs.Prelude.{◌≡◌, ◌≤◌, ◌⊎◌, ℕ, ◌+◌, List, ◌∷◌, ◌++◌, length}
use Rattle.grpc_base.specs.declared.plan.Chosen.{Chosen}
use Rattle.attempt_ledger.specs.declared.check.RowFault.{RowFault}
use Rattle.attempt_ledger.specs.declared.row.Row.{Row}
use Rattle.attempt_ledger.specs.Hedging.{KeepsHedging}
use Rattle.attempt_ledger.specs.Numbering.{KeepsNumbering, attempts_of}
use Rattle.attempt_ledger.specs.Retries.{KeepsRetries}
use Rattle.attempt_ledger.specs.Throttling.{KeepsThrottling}
use Rattle.attempt_ledger.specs.TransparentRows.{KeepsTransparent}

-- among all these rows, the law of this number is broken by a row that stands between those before it and those after it
abbrev pub Breaks : Chosen → List Row → ℕ → List Row → Row → List Row → Type 0
Breaks chosen rows law before row after =
    ((law ≡ 8) × (KeepsNumbering chosen.plan (length (attempts_of before)) row → ⊥))
    ⊎ ((law ≡ 9) × (KeepsRetries chosen rows row after → ⊥))
    ⊎ ((law ≡ 10) × (KeepsHedging chosen.plan rows before row → ⊥))
    ⊎ ((law ≡ 11) × (KeepsTransparent rows before row after → ⊥))
    ⊎ ((law ≡ 12) × (KeepsThrottling chosen row after → ⊥))

-- the law of this number is broken by the row at this place, which counts from 1
pub record BreaksAt (chosen : Chosen) (law : ℕ) (rows : List Row) (place : ℕ) : Type 0 where
  pub before : List Row
  pub row : Row
  pub after : List Row
  pub together : rows ≡ before ++ row ∷ after
  pub place_is : place ≡ length before + 1
  pub broken : Breaks chosen rows law before row after

-- the lowest law that a row breaks
pub record IsLowestBroken (chosen : Chosen) (rows before : List Row) (row : Row) (after : List Row) (law : ℕ) : Type 0 where
  pub broken : Breaks chosen rows law before row after
  pub lowest : (other : ℕ) → Breaks chosen rows other before row after → law ≤ other

-- the fault that is reported: the first row that breaks a law, and the lowest law that it breaks
pub record IsFault (chosen : Chosen) (rows : List Row) (fault : RowFault) : Type 0 where
  pub broken : BreaksAt chosen fault.law rows fault.row
  pub first : (law place : ℕ) → BreaksAt chosen law rows place → fault.row ≤ place
  pub lowest : (law : ℕ) → BreaksAt chosen law rows fault.row → fault.law ≤ law
