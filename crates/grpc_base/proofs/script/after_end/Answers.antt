use Rattle.std.proofs.Common.{◌≡◌, Some, None, position}
use Rattle.grpc_base.specs.Scripts.{ends_stream}
use Rattle.grpc_base.proofs.ScriptLaws.{after_the_first, after_none}
use Rattle.grpc_base.proofs.script.after_end.Goals as goal

pub returns-in-Some : goal.returns-in-Some
returns-in-Some c =
    let is : position ends_stream c.args.parts.now ≡ Some c.in-Some.place = cc c.in-Some.ensures.place in
    after_the_first ends_stream c.args.parts.now c.in-Some.place is

pub returns-in-None : goal.returns-in-None
returns-in-None c =
    let is : position ends_stream c.args.parts.now ≡ None = cc c.in-None.ensures.place in
    after_none ends_stream c.args.parts.now is
