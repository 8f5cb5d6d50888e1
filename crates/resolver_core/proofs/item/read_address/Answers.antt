use Rattle.std.proofs.Common.{sym}
use Rattle.resolver_core.proofs.TargetLaws.{address_of-three}
use Rattle.resolver_core.proofs.item.read_address.Goals as goal

pub returns-in_default-rest : goal.returns-in_default-rest
returns-in_default-rest c =
    sym (address_of-three c.args.text.now c.in-Some.rest.now c.in_default-rest.field-0.now _ _ (rw c.in-Some.is at c.first_piece.ensures.pieces) (rw c.in_default-rest.is at c.first_piece-2.ensures.pieces))
