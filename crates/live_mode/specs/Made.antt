-- The calls of a live script in the journal of its run: which entries each worker made, and the Shutdown after them.
use Rattle.std.specs.Prelude.{◌≡◌, ◌⊎◌, ◌≤◌, ℕ, zero, suc, ◌+◌, true, List, [], ◌∷◌, ◌++◌, Some, slice_get, length}
use Rattle.std.specs.List.{AllZip}
use Rattle.grpc_base.specs.declared.event.Entry.{Entry}
use Rattle.grpc_base.specs.declared.event.Event.TheVariants as event
use Rattle.grpc_base.specs.declared.script.CallLine.{CallLine}
use Rattle.live_pump.specs.Calls.{LinesPrefix, MakesLines}
use Rattle.live_run.specs.ByWorker.{lines_of}
use Rattle.script_input.specs.declared.live_script.WorkerLine.{WorkerLine}
use Rattle.session_text.specs.declared.ran.Ran.{Ran}
use Rattle.session_text.specs.declared.ran.Ran.TheVariants as ran
use Rattle.shared_channel.specs.Turns.{entries_of}
use Rattle.turn_lock.specs.History.{Ascends, Stands}
use Rattle.live_channel.specs.Sharing.{IsShutFirst, is_of_call, times_in}

-- the calls of so many workers, from this one on
abbrev pub lines_from : ℕ → ℕ → List WorkerLine → List (List CallLine)
lines_from worker zero calls = []
lines_from worker (suc more) calls = lines_of worker calls ∷ lines_from (worker + 1) more calls

-- the calls of each worker, from 1 to 16
abbrev pub worker_lines : List WorkerLine → List (List CallLine)
worker_lines calls = lines_from 1 16 calls

-- a worker made its calls, one after another; in a session that became full, all or a prefix of them
abbrev pub MakesOwn : Ran → List CallLine → List Entry → Type 0
MakesOwn ran.Whole lines made = MakesLines lines [] made
MakesOwn ran.Full lines made = MakesLines lines [] made ⊎ LinesPrefix lines [] made

-- entries with their places, which stand there in this order, and which a worker made
pub record IsWorkOf (r : Ran) (entries : List Entry) (lines : List CallLine) (own : List (ℕ × Entry)) : Type 0 where
  pub stands : Stands entries own
  pub ascends : Ascends 0 own
  pub makes : MakesOwn r lines (entries_of own)

-- Each worker made its calls, in a prefix of the journal; no entry is of two of them, and each entry of an application is of one of
-- them. Where all went well a Shutdown stands next after that prefix, and in any case nowhere else
pub record CarriesCalls (r : Ran) (calls : List WorkerLine) (entries : List Entry) : Type 0 where
  pub prefix : List Entry
  pub rest : List Entry
  pub parts : entries ≡ prefix ++ rest
  -- those of worker 1, of worker 2, and so on
  pub owns : List (List (ℕ × Entry))
  pub made : AllZip (IsWorkOf r prefix) (worker_lines calls) owns
  pub once : (x : ℕ) → times_in x owns ≤ 1
  pub only : (x : ℕ) (e : Entry) → slice_get entries x ≡ Some e → is_of_call e.event ≡ true → times_in x owns ≡ 1
  pub shut : r ≡ ran.Whole → IsShutFirst rest
  pub alone : (x : ℕ) (e : Entry) → slice_get entries x ≡ Some e → e.event ≡ event.Shutdown → x ≡ length prefix
