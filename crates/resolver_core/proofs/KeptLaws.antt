-- What a text says as a target is one.
use Rattle.std.proofs.Common.{◌≡◌, ◌≤◌, ◌==◌, ℕ, Bool, true, false, List, [], ◌∷◌, codes, drop, nat_eq, if◌then◌else◌, Option, Some, None, Result, Ok, Err, IfOk, refl, subst, arith}
use Rattle.std.proofs.lemmas.Bool.Decides.{nat_tests}
use Rattle.std.specs.List.{starts_with}
use Rattle.grpc_base.specs.declared.address.Address.{Address}
use Rattle.grpc_base.specs.Pieces.{pieces}
use Rattle.resolver_core.specs.declared.any_target.Target.{Target}
use Rattle.resolver_core.specs.declared.target.TargetFault.{TargetFault}
use Rattle.resolver_core.specs.AnyTargets.{IsTarget, any_target_of, after_slashes, dns_target, ipv4_target, is_dns, is_host, name_from, named}
use Rattle.resolver_core.specs.Targets.{items_of, listed_of, number_within, port_from, port_of}
use Rattle.resolver_core.proofs.AnyTargetLaws.{listed_some}
use Rattle.resolver_core.proofs.HostLaws.{reported_is_host}

-- a port is not 0
port_kept : (n : Option ℕ) (p : ℕ) → port_from n ≡ Some p → 1 ≤ p
port_kept None p e = absurd (cc)
port_kept (Some n) p e = by_test (n == 0) refl e
  where
    by_test : (b : Bool) → (n == 0) ≡ b → (if b then None else Some n) ≡ Some p → 1 ≤ p
    by_test true zero same = absurd (cc)
    by_test false some same = let is : n ≡ p = (cc) in grind (arith, nat_tests)

-- a host and a port
named_kept : (host : List ℕ) (port : Option ℕ) → ((p : ℕ) → port ≡ Some p → 1 ≤ p) → IfOk (dns_target (named host port)) IsTarget
named_kept host None some = tt
named_kept host (Some p) some = by_test (is_host host) refl
  where
    by_test : (b : Bool) → is_host host ≡ b → IfOk (dns_target (if b then Some (record { host = host; port = p }) else None)) IsTarget
    by_test true is = (reported_is_host host is, some p refl)
    by_test false is = tt

name_kept : (parts : List (List ℕ)) → IfOk (dns_target (name_from parts)) IsTarget
name_kept [] = tt
name_kept (host ∷ []) = named_kept host (Some 443) (λ p e. (let is : 443 ≡ p = (cc) in omega (arith, is)))
name_kept (host ∷ port ∷ []) = named_kept host (port_of port) (λ p e. port_kept (number_within 65535 port) p e)
name_kept (a ∷ b ∷ c ∷ more) = tt

-- addresses
items_kept : (b : Bool) (text : List ℕ) → IfOk (listed_of (if b then items_of (pieces 44 text) else None)) (λ addresses. addresses ≡ [] → ⊥)
items_kept true text = listed_some text (listed_of (items_of (pieces 44 text))) refl
items_kept false text = tt

ipv4_kept : (r : Result (List Address) TargetFault) → IfOk r (λ addresses. addresses ≡ [] → ⊥) → IfOk (ipv4_target r) IsTarget
ipv4_kept (Ok addresses) some = some
ipv4_kept (Err f) some = tt

any_kept : (b : Bool) (text : List ℕ) → IfOk (if b then dns_target (name_from (pieces 58 (after_slashes (drop 4 text)))) else ipv4_target (listed_of (if starts_with nat_eq text (codes "ipv4:") then items_of (pieces 44 (drop 5 text)) else None))) IsTarget
any_kept true text = name_kept (pieces 58 (after_slashes (drop 4 text)))
any_kept false text = ipv4_kept _ (items_kept (starts_with nat_eq text (codes "ipv4:")) (drop 5 text))

pub target_kept : (text : List ℕ) (value : Target) → any_target_of text ≡ Ok value → IsTarget value
target_kept text value e =
    subst (λ (r : Result Target TargetFault). IfOk r IsTarget) e (any_kept (is_dns text) text)
