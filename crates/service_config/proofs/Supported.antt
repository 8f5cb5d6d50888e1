-- Supported kinds of policy, and the empty config.
use Rattle.std.proofs.Common.{◌≡◌, ℕ, ◌+◌, Bool, Option, Some, None, List, [], ◌∷◌, true, false, refl, ap, subst, ◌∙◌}
use Rattle.std.specs.Prelude.{Ok, codes, if◌then◌else◌, IfSome, IsTrue}
use Rattle.std.specs.Option.{option_or}
use Rattle.grpc_base.specs.Kinds.{KindsSeen, has_kind, kind_named}
use Rattle.grpc_base.specs.declared.kind.Kind.{Kind}
use Rattle.grpc_base.specs.declared.kind.Kind.TheVariants as kind
use Rattle.json_text.specs.Tree as tree
use Rattle.json_text.specs.Tree.{Tree, no_members}
use Rattle.json_text.specs.Reading.{reading, top_byte, first_name_byte}
use Rattle.config_values.specs.Policies.{◌>>=◌, found_at, throttle_in}
use Rattle.config_values.specs.declared.place.Field.TheVariants as field
use Rattle.config_values.specs.declared.place.Object.TheVariants as object
use Rattle.config_values.specs.declared.place.Place.TheVariants as place
use Rattle.service_config.specs.Choice.{empty_config}
use Rattle.service_config.specs.Entries.{methods_in}
use Rattle.service_config.specs.Reading.{supported, supported_kind, policy_name, first_kind, kind_in, config_in, config_in_tree, config_at, config_of, reported_by}

-- the first of two choices has what both have
pub or_has : (kinds : KindsSeen) (a b : Option Kind) → IfSome a (λ k. IsTrue (has_kind kinds k)) → IfSome b (λ k. IsTrue (has_kind kinds k))
    → IfSome (option_or a b) (λ k. IsTrue (has_kind kinds k))
or_has kinds None b h k = k
or_has kinds (Some x) b h k = h

supported_has : (kinds : KindsSeen) (k : Option Kind) → IfSome (supported kinds k) (λ k. IsTrue (has_kind kinds k))
supported_has kinds None = tt
supported_has kinds (Some k) = by (has_kind kinds k) refl
  where
    by : (b : Bool) → has_kind kinds k ≡ b → IfSome (if b then Some k else None) (λ k. IsTrue (has_kind kinds k))
    by true e = e
    by false e = tt

named_has : (kinds : KindsSeen) (name : List ℕ) → IfSome (supported_kind kinds name) (λ k. IsTrue (has_kind kinds k))
unfolding supported_kind
named_has kinds name = supported_has kinds (kind_named name)

-- an entry more of a list that names kinds
next_has : (kinds : KindsSeen) (i : ℕ) (found r : Option Kind) (vs : List Tree) (n : Option (List ℕ))
    → ((m : List ℕ) → first_kind kinds (i + 1) (option_or found (supported_kind kinds m)) vs ≡ Ok r → IfSome r (λ k. IsTrue (has_kind kinds k)))
    → (found_at (place.Element object.Config field.LoadBalancingConfig i) n >>= λ name. first_kind kinds (i + 1) (option_or found (supported_kind kinds name)) vs) ≡ Ok r
    → IfSome r (λ k. IsTrue (has_kind kinds k))
next_has kinds i found r vs None rest e = absurd (cc)
next_has kinds i found r vs (Some n) rest e = rest n e

-- the kind that a list names is supported, where the one that was found before is
pub first_has : (kinds : KindsSeen) (i : ℕ) (found r : Option Kind) (vs : List Tree) → IfSome found (λ k. IsTrue (has_kind kinds k))
    → first_kind kinds i found vs ≡ Ok r → IfSome r (λ k. IsTrue (has_kind kinds k))
first_has kinds i found r [] h e = subst (λ (o : Option Kind). IfSome o (λ k. IsTrue (has_kind kinds k))) (cc) h
first_has kinds i found r (v ∷ vs) h e =
    next_has kinds i found r vs (policy_name v)
    (λ m. first_has kinds (i + 1) (option_or found (supported_kind kinds m)) r vs (or_has kinds found (supported_kind kinds m) h (named_has kinds m))) e

empty_tree : reading (codes "{}") ≡ Ok (tree.object no_members)
unfolding reading top_byte first_name_byte
empty_tree = refl

empty_in_tree : (kinds : KindsSeen) → has_kind kinds kind.PickFirst ≡ true → config_in_tree kinds (tree.object no_members) ≡ Ok empty_config
unfolding config_in_tree config_in kind_in methods_in throttle_in
empty_in_tree kinds has = rw has refl

-- an empty object is read as the empty config
pub empty_reads : (kinds : KindsSeen) → has_kind kinds kind.PickFirst ≡ true → config_of kinds (codes "{}") ≡ Ok empty_config
empty_reads kinds has = ap (config_at kinds) empty_tree ∙ ap reported_by (empty_in_tree kinds has)
