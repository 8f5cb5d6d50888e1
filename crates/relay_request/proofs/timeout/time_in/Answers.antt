use Rattle.std.proofs.Common.{◌≤◌, length, arith}
use Rattle.relay_request.proofs.TimeLaws.{time_none}
use Rattle.relay_request.proofs.timeout.time_in.Goals as goal

pub returns-in-None-clause-time : goal.returns-in-None-clause-time
returns-in-None-clause-time c =
    let few : length c.args.digits.now ≤ 8 = omega arith in
    time_none c.args.digits.now c.args.nanos few c.in-None.ensures.none
