-- The stamps of generations in the ledger.
use Rattle.std.specs.Prelude.{ℕ, Bool, false, ◌==◌, if◌then◌else◌, Option, Some, None, List, [], ◌∷◌, ◌++◌}
use Rattle.grpc_base.specs.declared.kind.Kind.{Kind}
use Rattle.attempt_ledger.specs.declared.ledger.Generation.{Generation}
use Rattle.ledger_stamps.specs.Steps.{activated_generation, changed_at, new_generation, retired_generation}

abbrev pub activated : ℕ → ℕ → List Generation → List Generation
activated entry number generations = changed_at (activated_generation entry) generations number

abbrev pub retired : ℕ → ℕ → List Generation → List Generation
retired entry number generations = changed_at (retired_generation entry) generations number

abbrev pub added : Kind → List Generation → List Generation
added kind generations = generations ++ new_generation kind ∷ []

-- that of a live generation, where there is one
abbrev pub retired_live : ℕ → Option (ℕ × Kind) → List Generation → List Generation
retired_live entry None generations = generations
retired_live entry (Some live) generations = retired entry live.0 generations

abbrev pub activated_live : ℕ → Option (ℕ × Kind) → List Generation → List Generation
activated_live entry None generations = generations
activated_live entry (Some live) generations = activated entry live.0 generations

-- a pending generation is dropped, unless the result goes to it
abbrev pub dropped : ℕ → ℕ → Option (ℕ × Kind) → List Generation → List Generation
dropped entry kept None generations = generations
dropped entry kept (Some live) generations = if live.0 == kept then generations else retired entry live.0 generations

-- whether a generation has this number
abbrev pub is_numbered : ℕ → Option (ℕ × Kind) → Bool
is_numbered number None = false
is_numbered number (Some live) = live.0 == number
