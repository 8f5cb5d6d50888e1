use Rattle.std.proofs.Common.{map}
use Rattle.grpc_base.specs.declared.kind.Kind.TheVariants as kind
use Rattle.policy_tests.proofs.AskLaws.{may-ask}
use Rattle.policy_tests.proofs.policy_rack_tests.first_pick.Goals as goal

pub ask-requires : goal.ask-requires
ask-requires g c =
    may-ask c.new-rack.result c.adopt-generation.new.self (map g.P.Balancer.seen c.args.policies.items) kind.RoundRobin _ c.new-rack.ensures (cc (c.kinds.ensures, c.has.ensures, c.if-not-has.false)) c.adopt-generation.ensures.after
