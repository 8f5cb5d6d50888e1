use Rattle.std.proofs.Common.{◌≡◌, ◌≤◌, List, length, ap, sym, subst, arith}
use Rattle.grpc_base.specs.declared.address.Address.{Address}
use Rattle.grpc_base.specs.Addresses.{IsWithoutRepeats}
use Rattle.channel_net.proofs.ListLaws.{ok-map, view-is}
use Rattle.channel_net.proofs.view.view_of.Goals as goal

pub returns-clause-is_view : goal.returns-clause-is_view
returns-clause-is_view c =
    let same : length c.as_slice.result.now ≡ length c.args.addresses.now = ap (λ (xs : List Address). length xs) c.as_slice.ensures.list in
    let within : length c.args.addresses.now ≤ 64 = c.as_slice.ensures.within in
    let few : length c.as_slice.result.now ≤ 64 = omega arith in
    let kept : IsWithoutRepeats c.as_slice.result.now = subst IsWithoutRepeats (sym c.as_slice.ensures.list) c.requires in
    ok-map c.view_in.result (λ view e. view-is c.args.board.now c.as_slice.result.now view.items few kept e) c.view_in.ensures
