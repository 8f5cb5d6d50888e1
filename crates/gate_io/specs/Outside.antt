-- What reads and writes do to the bytes that are left and taken, and when a count of faults rises.
use Rattle.std.specs.Prelude.{◌≡◌, ◌≤◌, ◌<◌, ℕ, Option, Some, None, List, [], ◌++◌, length, take, IfSome}
pub use Rattle.grpc_base.specs.Counts.{one_more, Rises}
use Rattle.gate_io.specs.declared.world.ReadAnswer.{ReadAnswer}
use Rattle.gate_io.specs.declared.world.ReadAnswer.TheVariants as read
use Rattle.gate_io.specs.declared.world.WriteAnswer.{WriteAnswer}
use Rattle.gate_io.specs.declared.world.WriteAnswer.TheVariants as write

-- these bytes were next, where what is left is known
abbrev pub Takes : Option (List ℕ) → Option (List ℕ) → List ℕ → Type 0
Takes (Some before) (Some after) bytes = before ≡ bytes ++ after
Takes (Some before) None bytes = ⊥
Takes None (Some after) bytes = ⊥
Takes None None bytes = Unit {0}

-- nothing is left, where what is left is known
abbrev pub IsAtEnd : Option (List ℕ) → Type 0
IsAtEnd left = IfSome left (λ bytes. bytes ≡ [])

-- what a read into a buffer of this length did
abbrev pub Reads : Option (List ℕ) → Option (List ℕ) → ℕ → List ℕ → ReadAnswer → Type 0
Reads before after room buffer (read.Got n) = (0 < n) × (n ≤ room) × Takes before after (take n buffer)
Reads before after room buffer read.End = IsAtEnd before × (after ≡ before)
Reads before after room buffer read.Failed = after ≡ before

-- a failed read raises the count of faults by one, and no other read changes it
abbrev pub CountsRead : ℕ → ℕ → ReadAnswer → Type 0
CountsRead before after (read.Got n) = after ≡ before
CountsRead before after read.End = after ≡ before
CountsRead before after read.Failed = (before ≤ after) × (after ≡ one_more before)

-- these bytes were taken after what was taken before, where that is known
abbrev pub Appends : Option (List ℕ) → Option (List ℕ) → List ℕ → Type 0
Appends (Some before) after bytes = after ≡ Some (before ++ bytes)
Appends None after bytes = after ≡ None

-- some bytes from the start of these were taken so
abbrev pub AppendsPrefix : Option (List ℕ) → Option (List ℕ) → List ℕ → Type 0
AppendsPrefix before after bytes = (n : ℕ) × (n ≤ length bytes) × Appends before after (take n bytes)

-- what a write of this piece did
abbrev pub Writes : Option (List ℕ) → Option (List ℕ) → List ℕ → WriteAnswer → Type 0
Writes before after piece (write.Took n) = (0 < n) × (n ≤ length piece) × Appends before after (take n piece)
Writes before after piece write.Failed = after ≡ before

-- a failed write raises the count of faults by one, and no other write changes it
abbrev pub CountsWrite : ℕ → ℕ → WriteAnswer → Type 0
CountsWrite before after (write.Took n) = after ≡ before
CountsWrite before after write.Failed = (before ≤ after) × (after ≡ one_more before)
