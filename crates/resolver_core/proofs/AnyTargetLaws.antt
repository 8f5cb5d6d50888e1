-- Targets of either scheme, and the first address of one.
use Rattle.std.proofs.Common.{◌≡◌, ℕ, Bool, true, false, List, [], ◌∷◌, ◌++◌, length, drop, nat_le, if◌then◌else◌, Option, Some, None, Result, Ok, Err, IfOk, refl, ap, sym, ◌∙◌, subst}
use Rattle.grpc_base.specs.declared.address.Address.{Address}
use Rattle.grpc_base.specs.declared.host.DnsName.{DnsName}
use Rattle.grpc_base.specs.Addresses.{has_address}
use Rattle.grpc_base.specs.Pieces.{pieces}
use Rattle.resolver_core.specs.declared.target.TargetFault.{TargetFault}
use Rattle.resolver_core.specs.declared.target.TargetFault.TheVariants as fault
use Rattle.resolver_core.specs.AnyTargets.{any_target_of, after_slashes, dns_name_of, dns_target, ipv4_target, is_dns, name_from}
use Rattle.resolver_core.specs.Targets.{address_before, address_of, items_of, listed_of, target_of, with_addresses}
use Rattle.resolver_core.proofs.PieceLaws.{pieces-some}

-- a list that begins keeps its first address
begun : (first : Address) (kept others : List Address) → with_addresses (first ∷ kept) others ≡ [] → ⊥
begun first kept [] e = absurd (cc)
begun first kept (a ∷ others) e = by_test (has_address (first ∷ kept) a) (begun first kept others) (begun first (kept ++ a ∷ []) others) e
  where
    by_test : (b : Bool) → (with_addresses (first ∷ kept) others ≡ [] → ⊥) → (with_addresses (first ∷ kept ++ a ∷ []) others ≡ [] → ⊥) → with_addresses (if b then first ∷ kept else (first ∷ kept) ++ a ∷ []) others ≡ [] → ⊥
    by_test true there new = there
    by_test false there new = new

-- a target has an address
by_limit : (b : Bool) (list : List Address) → (list ≡ [] → ⊥) → IfOk (if b then Ok list else Err fault.TooMany) (λ addresses. addresses ≡ [] → ⊥)
by_limit true list some = some
by_limit false list some = tt

listed_begins : (first : Option Address) (others : Option (List Address)) → IfOk (listed_of (address_before first others)) (λ addresses. addresses ≡ [] → ⊥)
listed_begins None others = tt
listed_begins (Some first) None = tt
listed_begins (Some first) (Some others) = by_limit (nat_le (length (first ∷ others)) 64) (with_addresses [] (first ∷ others)) (begun first [] others)

listed_pieces : (items : List (List ℕ)) → (items ≡ [] → ⊥) → IfOk (listed_of (items_of items)) (λ addresses. addresses ≡ [] → ⊥)
listed_pieces [] some = absurd (some refl)
listed_pieces (item ∷ items) some = listed_begins (address_of item) (items_of items)

pub listed_some : (text : List ℕ) (r : Result (List Address) TargetFault) → r ≡ listed_of (items_of (pieces 44 text)) → IfOk r (λ addresses. addresses ≡ [] → ⊥)
listed_some text r e =
    subst (λ (x : Result (List Address) TargetFault). IfOk x (λ addresses. addresses ≡ [] → ⊥)) (sym e) (listed_pieces (pieces 44 text) (pieces-some 44 text))

-- three parts with colons are no name
name_from-three : (a b : List ℕ) (more : List (List ℕ)) → (more ≡ [] → ⊥) → name_from (a ∷ b ∷ more) ≡ None
name_from-three a b [] some = absurd (some refl)
name_from-three a b (c ∷ more) some = refl

pub name_of-three : (text afterwards one two a b : List ℕ) → afterwards ≡ after_slashes text → pieces 58 afterwards ≡ a ∷ pieces 58 one → pieces 58 one ≡ b ∷ pieces 58 two → dns_name_of text ≡ None
name_of-three text afterwards one two a b is e f =
    let all : pieces 58 (after_slashes text) ≡ a ∷ b ∷ pieces 58 two = (cc) in
    ap name_from all ∙ name_from-three a b (pieces 58 two) (pieces-some 58 two)
