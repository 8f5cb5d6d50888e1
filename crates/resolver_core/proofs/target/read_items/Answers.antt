use Rattle.std.proofs.Common.{◌<◌, arith, sym, ◌∙◌, ap}
use Rattle.std.specs.Option.{option_copied}
use Rattle.grpc_base.specs.Pieces.{pieces_of_rest}
use Rattle.resolver_core.proofs.TargetLaws.{items_left, listed_from, room_left}
use Rattle.resolver_core.specs.Targets.{items_of}
use Rattle.resolver_core.proofs.target.read_items.Goals as goal

-- one item more is listed
pub loop-rest-preserved : goal.loop-rest-preserved
loop-rest-preserved c =
    let some_left : 0 < c.loop-rest.left = omega (arith, c.if-left-eq0.false) in
    record {
      room = room_left c.loop-rest.addresses c.push.new.self c.loop-rest.left c.in-Some-read_address.address some_left c.loop-rest.invariant.room c.in-Ok.ensures.ok;
      rest =
          items_left c.loop-rest.addresses c.push.new.self c.loop-rest.left c.loop-rest.over c.in-Some-read_address.address _ c.in-Some.items.now _ some_left
          c.in-Ok.ensures.ok c.first_piece.ensures.pieces c.in-Some-read_address.ensures
          ∙ ap (λ o. listed_from c.loop-rest.addresses c.loop-rest.left c.loop-rest.over (items_of (pieces_of_rest 44 (option_copied o)))) (sym c.in-Some.is)
          ∙ c.loop-rest.invariant.rest;
    }
