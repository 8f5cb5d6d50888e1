-- The calls of a live script, by the worker that makes them.
use Rattle.std.specs.Prelude.{ℕ, ◌==◌, if◌then◌else◌, List, [], ◌∷◌}
use Rattle.grpc_base.specs.declared.script.CallLine.{CallLine}
use Rattle.script_input.specs.declared.live_script.WorkerLine.{WorkerLine}

-- the calls of one worker, in their order
abbrev pub lines_of : ℕ → List WorkerLine → List CallLine
lines_of worker [] = []
lines_of worker (call ∷ calls) = if call.worker == worker then call.line ∷ lines_of worker calls else lines_of worker calls
