use Rattle.std.proofs.Common.{◌≡◌, drop}
use Rattle.channel_core.specs.Steps as steps
use Rattle.channel_core.proofs.state.State.forget_all.Given as goal

abbrev pub invariant-loop-call : goal.invariant-loop-call
invariant-loop-call g l = steps.dues_forgotten (drop l.call-index l.calls) l.self ≡ steps.dues_forgotten l.fn.calls l.fn.self
