use Rattle.std.proofs.Common.{sym}
use Rattle.resolver_core.proofs.TargetLaws.{ip_of-five}
use Rattle.resolver_core.proofs.item.read_ip.Goals as goal

pub returns-in_default-rest-3 : goal.returns-in_default-rest-3
returns-in_default-rest-3 c =
    sym (ip_of-five c.args.text.now c.in-Some.rest.now c.in-Some-rest.rest.now c.in-Some-rest-2.rest.now c.in_default-rest-3.field-0.now _ _ _ _ (rw c.in-Some.is at c.first_piece.ensures.pieces) (rw c.in-Some-rest.is at c.first_piece-2.ensures.pieces) (rw c.in-Some-rest-2.is at c.first_piece-3.ensures.pieces) (rw c.in_default-rest-3.is at c.first_piece-4.ensures.pieces))
