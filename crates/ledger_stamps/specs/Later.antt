-- What one entry can do to a ledger: it adds to the lists at their ends, it writes stamps where there were none, and each stamp
-- that it writes names this entry. Nothing else of a row, a call, a pick request, a generation or a link changes, but for how much
-- of a link was read.
use Rattle.std.specs.Prelude.{◌≡◌, ℕ, Option, Some, None, List, [], ◌∷◌}
use Rattle.attempt_ledger.specs.declared.ledger.Ask.{Ask}
use Rattle.attempt_ledger.specs.declared.ledger.CallSeen.{CallSeen}
use Rattle.attempt_ledger.specs.declared.ledger.Generation.{Generation}
use Rattle.attempt_ledger.specs.declared.ledger.Ledger.{Ledger}
use Rattle.attempt_ledger.specs.declared.ledger.LinkSeen.{LinkSeen}
use Rattle.attempt_ledger.specs.declared.row.Row.{Row}

-- what was written stays; what is written now names entry n
abbrev pub Written : {X : Type 0} → (X → ℕ) → ℕ → Option X → Option X → Type 0
Written entry_of n None None = Unit {0}
Written entry_of n None (Some stamp) = entry_of stamp ≡ n
Written entry_of n (Some stamp) new = new ≡ Some stamp

-- each element of a list is followed by a later one in its place, and what stands after is new
abbrev pub Grown : {X : Type 0} → (X → X → Type 0) → (X → Type 0) → List X → List X → Type 0
Grown IsLater IsNew [] [] = Unit {0}
Grown IsLater IsNew [] (x ∷ xs) = IsNew x × Grown IsLater IsNew [] xs
Grown IsLater IsNew (old ∷ olds) [] = ⊥
Grown IsLater IsNew (old ∷ olds) (x ∷ xs) = IsLater old x × Grown IsLater IsNew olds xs

pub record RowStamps (n : ℕ) (old new : Row) : Type 0 where
  pub placed : Written (λ p. p.entry) n old.placed new.placed
  pub stream : Written (λ s. n) n old.stream new.stream
  pub ended : Written (λ e. e.entry) n old.ended new.ended
  pub committed : Written (λ e. e) n old.committed new.committed

pub record LaterRow (n : ℕ) (old new : Row) : Type 0 where
  pub call : new.call ≡ old.call
  pub number : new.number ≡ old.number
  pub kind : new.kind ≡ old.kind
  pub due : new.due ≡ old.due
  pub stamps : RowStamps n old new

abbrev pub blank_row : Row → Row
blank_row row = record row { placed = None; stream = None; ended = None; committed = None }

abbrev pub NewRow : ℕ → Row → Type 0
NewRow n row = LaterRow n (blank_row row) row

pub record LaterCall (n : ℕ) (old new : CallSeen) : Type 0 where
  pub begun : new.begun ≡ old.begun
  pub configured : Written (λ e. e) n old.configured new.configured
  pub made : Grown (λ x y. y ≡ x) (λ e. e ≡ n) old.made new.made
  pub end : Written (λ e. e.entry) n old.end new.end

abbrev pub NewCall : ℕ → CallSeen → Type 0
NewCall n call = LaterCall n (record { begun = n; configured = None; made = []; end = None }) call

pub record LaterGeneration (n : ℕ) (old new : Generation) : Type 0 where
  pub kind : new.kind ≡ old.kind
  pub activated : Written (λ e. e) n old.activated new.activated
  pub retired : Written (λ e. e) n old.retired new.retired

abbrev pub NewGeneration : ℕ → Generation → Type 0
NewGeneration n generation = LaterGeneration n (record { kind = generation.kind; activated = None; retired = None }) generation

pub record LaterLink (n : ℕ) (old new : LinkSeen) : Type 0 where
  pub sub : new.sub ≡ old.sub
  pub up : new.up ≡ old.up
  pub gone : Written (λ e. e) n old.gone new.gone

abbrev pub NewLink : ℕ → LinkSeen → Type 0
NewLink n link = LaterLink n (record { sub = link.sub; up = n; gone = None; read = 0 }) link

abbrev pub LaterRows : ℕ → List Row → List Row → Type 0
LaterRows n old new = Grown (LaterRow n) (NewRow n) old new

abbrev pub LaterCalls : ℕ → List CallSeen → List CallSeen → Type 0
LaterCalls n old new = Grown (LaterCall n) (NewCall n) old new

abbrev pub LaterAsks : ℕ → List Ask → List Ask → Type 0
LaterAsks n old new = Grown (λ x y. y ≡ x) (λ ask. ask.entry ≡ n) old new

abbrev pub LaterGenerations : ℕ → List Generation → List Generation → Type 0
LaterGenerations n old new = Grown (LaterGeneration n) (NewGeneration n) old new

abbrev pub LaterLinks : ℕ → List LinkSeen → List LinkSeen → Type 0
LaterLinks n old new = Grown (LaterLink n) (NewLink n) old new

-- what entry n can have done to a ledger
pub record Later (n : ℕ) (old new : Ledger) : Type 0 where
  pub rows : LaterRows n old.rows new.rows
  pub calls : LaterCalls n old.calls new.calls
  pub asks : LaterAsks n old.asks new.asks
  pub generations : LaterGenerations n old.generations new.generations
  pub links : LaterLinks n old.links new.links
