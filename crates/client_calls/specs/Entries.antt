-- The entries of a handle at its channel: those of calls, and others.
use Rattle.std.specs.Prelude.{◌≡◌, ℕ, Bool, true, false, not, Option, Some, Result, Ok, Err, List, filter}
use Rattle.grpc_base.specs.Counts.{Rises, one_more}
use Rattle.grpc_base.specs.declared.event.Entry.{Entry}
use Rattle.grpc_base.specs.declared.event.Event.{Event}
use Rattle.grpc_base.specs.declared.event.Event.TheVariants as event
use Rattle.grpc_base.specs.declared.post.PostError.{PostError}
use Rattle.client_calls.specs.declared.error.CallError.{CallError}
use Rattle.client_calls.specs.declared.error.CallError.TheVariants as fault

-- an event that calls are made of
abbrev pub is_step : Event → Bool
is_step (event.Begin request) = true
is_step (event.Send call message) = true
is_step (event.Finish call) = true
is_step (event.Take call) = true
is_step (event.Cancel call) = true
is_step _ = false

-- the entries that are of no call
abbrev pub others_in : List Entry → List Entry
others_in entries = filter (λ e. not (is_step e.event)) entries

-- Failed is answered exactly where a post failed, and with its error
abbrev pub Fails : {T : Type 0} → ℕ → ℕ → Option PostError → Result T CallError → Type 0
Fails errors errors' last' (Err (fault.Failed e)) = (errors' ≡ one_more errors) × (last' ≡ Some e)
Fails errors errors' last' _ = errors' ≡ errors

-- the same of several posts: without an error none failed, Failed is answered only where one did, and no error is of a response
abbrev pub FailsSome : {T : Type 0} → ℕ → ℕ → Result T CallError → Type 0
FailsSome errors errors' (Ok x) = errors' ≡ errors
FailsSome errors errors' (Err (fault.Failed e)) = Rises errors errors'
FailsSome errors errors' (Err fault.NoMemory) = Unit {0}
FailsSome errors errors' (Err (fault.Refused r)) = Unit {0}
FailsSome errors errors' (Err _) = ⊥
