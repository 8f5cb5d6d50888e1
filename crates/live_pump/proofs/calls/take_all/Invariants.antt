use Rattle.std.proofs.Common.{◌≡◌, ◌++◌, All, List}
use Rattle.grpc_base.specs.declared.event.Entry.{Entry}
use Rattle.live_pump.specs.Calls.{IsTake}
use Rattle.live_pump.proofs.calls.take_all.Given as goal

-- what was taken so far is not the end
abbrev pub invariant-loop : goal.invariant-loop
invariant-loop g l = record {
  errors : g.P.Post.errors l.post ≡ g.P.Post.errors l.fn.post;
  share : g.P.Post.share l.post ≡ g.P.Post.share l.fn.post;
  takes : List Entry;
  each : All (IsTake l.call) takes;
  made : g.P.Post.made l.post ≡ g.P.Post.made l.fn.post ++ takes;
}
