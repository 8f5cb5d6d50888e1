-- The current policy and the pending one.
use Rattle.std.proofs.Common.{◌≡◌, Bool, Option, Some, None, [], ◌++◌, refl, rules}
use Rattle.std.specs.List.{flat_map, list_any}
use Rattle.std.specs.Option.{option_to_list}
use Rattle.std.specs.Prelude.{◌||◌}
use Rattle.grpc_base.specs.declared.address.Address.{Address}
use Rattle.session_actions.specs.Words.{holds}
use Rattle.session_actions.specs.declared.policy.PolicyUse.{PolicyUse}
use Rattle.slow_net.specs.Parts.{addresses_of}

-- what both list
pub listed_by : (x y : Option PolicyUse) → ([] ++ addresses_of x) ++ addresses_of y ≡ flat_map (λ (g : PolicyUse). g.addresses) (option_to_list x ++ option_to_list y)
listed_by None None = refl
listed_by None (Some g) = search rules
listed_by (Some f) None = search rules
listed_by (Some f) (Some g) = search rules

-- a test of both
pub any_live : (test : PolicyUse → Bool) (x y : Option PolicyUse) → (holds test x || holds test y) ≡ list_any test (option_to_list x ++ option_to_list y)
any_live test None None = refl
any_live test None (Some g) = search rules
any_live test (Some f) None = search rules
any_live test (Some f) (Some g) = search rules
