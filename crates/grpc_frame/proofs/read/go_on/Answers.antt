use Rattle.std.proofs.Common.{◌∙◌}
use Rattle.grpc_frame.proofs.ReadLaws.{parts}
use Rattle.grpc_frame.proofs.read.go_on.Goals as goal

pub returns-in_ok-extend_from_slice-in-Some-clause-rest :
    goal.returns-in_ok-extend_from_slice-in-Some-clause-rest
returns-in_ok-extend_from_slice-in-Some-clause-rest c =
    let more = c.in_ok-extend_from_slice-in-Some.ensures.ok in
    let middle = c.in_ok-reserve-in-Some.ensures.items ∙ c.in_ok-extend_from_slice.ensures.ok in
    parts c.extend_from_slice-in-Some.new.self.items c.reserve.new.self.items c.args.rest.items c.args.bytes.now c.min-prefix.result c.min-more.result more middle
