-- What a server reports of its links: the pieces that it was given, what it gave, and how often it refused a piece.
use Rattle.std.specs.Prelude.{◌≡◌, ◌≢◌, ℕ, Option, Some, None, Result, Ok, Err, List, ◌++◌}
use Rattle.grpc_base.specs.Counts.{one_more}
use Rattle.loop_server.specs.declared.fault.ServerFault.{ServerFault}
use Rattle.loop_server.specs.declared.fault.ServerFault.TheVariants as fault

-- of each link the pieces in order, where they are known
abbrev pub Report : Type 0
Report = ℕ → Option (List (List ℕ))

-- these pieces stand after those before, where they are known
abbrev pub AddsAll : Option (List (List ℕ)) → Option (List (List ℕ)) → List (List ℕ) → Type 0
AddsAll (Some before) after pieces = after ≡ Some (before ++ pieces)
AddsAll None after pieces = after ≡ None

-- these pieces are of the one link, and the other links are as before
pub record Gains (before after : Report) (link : ℕ) (pieces : List (List ℕ)) : Type 0 where
  pub at : AddsAll (before link) (after link) pieces
  pub others : (other : ℕ) → other ≢ link → after other ≡ before other

abbrev pub IsSame : Report → Report → Type 0
IsSame before after = (link : ℕ) → after link ≡ before link

-- a piece that is refused since its link is broken raises the count by one, and the last code is that one; a piece that is taken
-- leaves both
abbrev pub CountsBreaks : {T : Type 0} → ℕ → ℕ → ℕ → ℕ → Result T ServerFault → Type 0
CountsBreaks breaks code breaks' code' (Ok done) = (breaks' ≡ breaks) × (code' ≡ code)
CountsBreaks breaks code breaks' code' (Err (fault.Broken c)) = (breaks' ≡ one_more breaks) × (code' ≡ c)
CountsBreaks breaks code breaks' code' (Err fault.NoMemory) = Unit {0}
