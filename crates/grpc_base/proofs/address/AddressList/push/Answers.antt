use Rattle.std.proofs.Common.{arith, ◌≡◌, Contains, true, false}
use Rattle.std.proofs.lemmas.Bool.Decides.{nat_tests}
use Rattle.grpc_base.proofs.ListLaws.{IsWithoutRepeats-new}
use Rattle.grpc_base.proofs.address.AddressList.push.Goals as goal

pub invariant_of-self : goal.invariant_of-self
invariant_of-self c =
    let new : Contains c.args.self.now c.args.address → ⊥ =
    λ h. (let no : false ≡ true = c.if-has.ensures.contains.1 h in (cc)) in
    record {
      no_repeats = IsWithoutRepeats-new _ _ _ _ c.self.view_is new c.self.invariant.no_repeats c.push.ensures.items;
      within = grind (arith, nat_tests);
    }
