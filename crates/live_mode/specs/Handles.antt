-- Between the functions of this crate: what the handles of a run are whose workers make calls. The promises of the crate don't name
-- these.
use Rattle.std.specs.Prelude.{◌⊎◌, ℕ, Option, List, [], ◌∷◌}
use Rattle.std.specs.List.{AllZip}
use Rattle.grpc_base.specs.declared.event.Entry.{Entry}
use Rattle.grpc_base.specs.declared.script.CallLine.{CallLine}
use Rattle.live_pump.specs.Calls.{LinesPrefix, MakesLines}
use Rattle.live_run.specs.declared.outcome.Outcome.{Outcome}
use Rattle.live_run.specs.declared.outcome.Outcome.TheVariants as outcome
use Rattle.shared_channel.specs.Turns.{entries_of}
use Rattle.turn_lock.specs.History.{LockId, SeatSeen}
use Rattle.live_channel.specs.Handles.{IsLeft, IsOne}

-- a worker made its calls, or a prefix of them where not all went well
abbrev pub MakesUpTo : Outcome → List CallLine → List Entry → Type 0
MakesUpTo outcome.Whole lines made = MakesLines lines [] made
MakesUpTo o lines made = MakesLines lines [] made ⊎ LinesPrefix lines [] made

-- the handle of a worker that made calls
pub record IsWorked (lock : LockId) (o : Outcome) (lines : List CallLine) (seat : SeatSeen Entry) : Type 0 where
  pub one : IsOne lock seat
  pub makes : MakesUpTo o lines (entries_of seat.own)

-- workers made these calls, each its own
abbrev pub CallsAreMade : Outcome → List (List CallLine) → List (List (ℕ × Entry)) → Type 0
CallsAreMade o groups owns = AllZip (λ lines made. MakesUpTo o lines (entries_of made)) groups owns

-- the groups that have a call
abbrev pub busy : List (List CallLine) → List (List CallLine)
busy [] = []
busy ([] ∷ groups) = busy groups
busy ((line ∷ lines) ∷ groups) = (line ∷ lines) ∷ busy groups

-- the handle that a run leaves whose workers made these calls, over links of which the dialers held this, and whose addresses came with this config
pub record LeavesCalls (lock : LockId) (held : List (Option (List (List ℕ)))) (config : Option (List ℕ)) (o : Outcome) (groups : List (List CallLine)) (seat : SeatSeen Entry) : Type 0 where
  pub owns : List (List (ℕ × Entry))
  pub makes : CallsAreMade o (busy groups) owns
  pub left : IsLeft lock held config o owns seat
