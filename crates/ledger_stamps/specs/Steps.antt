-- Nobody has to believe these steps: what the code does to a list of the ledger, one definition for each function.
use Rattle.std.specs.Prelude.{ℕ, zero, suc, Bool, nat_lt, if◌then◌else◌, Option, Some, None, List, [], ◌∷◌, ◌++◌, length}
use Rattle.std.specs.Option.{option_map_or}
use Rattle.grpc_base.specs.declared.event.EndCause.{EndCause}
use Rattle.grpc_base.specs.declared.kind.Kind.{Kind}
use Rattle.attempt_ledger.specs.declared.ledger.CallEnd.{CallEnd}
use Rattle.attempt_ledger.specs.declared.ledger.CallSeen.{CallSeen}
use Rattle.attempt_ledger.specs.declared.ledger.Generation.{Generation}
use Rattle.attempt_ledger.specs.declared.ledger.LinkSeen.{LinkSeen}
use Rattle.attempt_ledger.specs.declared.row.Placed.{Placed}
use Rattle.attempt_ledger.specs.declared.row.Row.{Row}
use Rattle.attempt_ledger.specs.declared.row.RowEnd.{RowEnd}

-- the index of a place, which counts from 1, in a list of so many elements
abbrev pub index_at : ℕ → ℕ → Option ℕ
index_at zero len = None
index_at (suc index) len = if nat_lt index len then Some index else None

-- the list after something happened to the element of an index, or of a place
abbrev pub changed : {X : Type 0} → (X → X) → List X → ℕ → List X
changed f [] index = []
changed f (x ∷ xs) zero = f x ∷ xs
changed f (x ∷ xs) (suc index) = x ∷ changed f xs index

abbrev pub changed_at : {X : Type 0} → (X → X) → List X → ℕ → List X
changed_at f xs place = option_map_or (λ index. changed f xs index) (index_at place (length xs)) xs

-- a stamp is written once
abbrev pub stamped : {X : Type 0} → X → Option X → Option X
stamped stamp None = Some stamp
stamped stamp (Some written) = Some written

abbrev pub placed_row : Placed → Row → Row
placed_row placed row = record row { placed = stamped placed row.placed }

abbrev pub streamed_row : ℕ → Row → Row
streamed_row stream row = record row { stream = stamped stream row.stream }

abbrev pub ended_row : RowEnd → Row → Row
ended_row end row = record row { ended = stamped end row.ended }

abbrev pub committed_row : ℕ → Row → Row
committed_row entry row = record row { committed = stamped entry row.committed }

abbrev pub begun_call : ℕ → CallSeen
begun_call entry = record { begun = entry; configured = None; made = []; end = None }

abbrev pub configured_call : ℕ → CallSeen → CallSeen
configured_call entry call = record call { configured = stamped entry call.configured }

abbrev pub noted_call : ℕ → CallSeen → CallSeen
noted_call entry call = record call { made = call.made ++ entry ∷ [] }

abbrev pub ended_call : CallEnd → CallSeen → CallSeen
ended_call end call = record call { end = stamped end call.end }

abbrev pub new_link : ℕ → ℕ → LinkSeen
new_link sub entry = record { sub = sub; up = entry; gone = None; read = 0 }

abbrev pub gone_link : ℕ → LinkSeen → LinkSeen
gone_link entry link = record link { gone = stamped entry link.gone }

abbrev pub read_link : ℕ → LinkSeen → LinkSeen
read_link read link = record link { read = read }

abbrev pub new_generation : Kind → Generation
new_generation kind = record { kind = kind; activated = None; retired = None }

abbrev pub activated_generation : ℕ → Generation → Generation
activated_generation entry generation = record generation { activated = stamped entry generation.activated }

abbrev pub retired_generation : ℕ → Generation → Generation
retired_generation entry generation = record generation { retired = stamped entry generation.retired }
