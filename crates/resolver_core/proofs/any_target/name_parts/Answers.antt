use Rattle.std.proofs.Common.{sym}
use Rattle.resolver_core.proofs.AnyTargetLaws.{name_of-three}
use Rattle.resolver_core.proofs.any_target.name_parts.Goals as goal

pub returns-in_default-rest-clause-value : goal.returns-in_default-rest-clause-value
returns-in_default-rest-clause-value c =
    sym (name_of-three c.args.text.now _ c.in-Some.rest.now c.in_default-rest.field-0.now _ _ c.after_slashes.ensures (rw c.in-Some.is at c.first_piece.ensures.pieces) (rw c.in_default-rest.is at c.first_piece-2.ensures.pieces))
