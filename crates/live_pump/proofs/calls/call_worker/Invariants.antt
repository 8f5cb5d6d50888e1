use Rattle.std.proofs.Common.{◌≡◌, ◌++◌, List, length}
use Rattle.grpc_base.specs.declared.script.CallLine.{CallLine}
use Rattle.live_pump.specs.Calls.{MakesLines}
use Rattle.live_pump.proofs.calls.call_worker.Given as goal

-- what is done was made, and the rest is left
abbrev pub invariant-loop-line : goal.invariant-loop-line
invariant-loop-line g l = record {
  errors : g.P.Post.errors l.post ≡ g.P.Post.errors l.fn.post;
  share : g.P.Post.share l.post ≡ g.P.Post.share l.fn.post;
  done : List CallLine;
  parts : l.calls ≡ done ++ l.rest;
  so_far : MakesLines done (g.P.Post.made l.fn.post) (g.P.Post.made l.post);
}

abbrev pub decreases-loop-line : goal.decreases-loop-line
decreases-loop-line g l = length l.rest
