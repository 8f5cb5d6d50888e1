-- The config that a text is read as is of a kind that is supported.
use Rattle.std.proofs.Common.{◌≡◌, ap, refl, subst, sym, ◌∙◌, Bool, true, false, Err, List, [], None, Ok, Option, Result, Some, ℕ, if◌then◌else◌}
use Rattle.std.specs.Option.{ok_or}
use Rattle.std.specs.Prelude.{IfSome, IsTrue}
use Rattle.config_values.specs.Policies.{Fields, ◌>>=◌, fields_at, found_at, optional, throttle_in, value_of}
use Rattle.config_values.specs.declared.place.Fault.TheVariants as fault
use Rattle.config_values.specs.declared.place.Fault.{Fault}
use Rattle.config_values.specs.declared.place.Field.TheVariants as field
use Rattle.config_values.specs.declared.place.Object.TheVariants as object
use Rattle.config_values.specs.declared.place.Place.TheVariants as place
use Rattle.grpc_base.specs.Kinds.{KindsSeen, has_kind, kind_named_in_any_case}
use Rattle.grpc_base.specs.declared.event.ConfigFault.{ConfigFault}
use Rattle.grpc_base.specs.declared.event.JsonFault.{JsonFault}
use Rattle.grpc_base.specs.declared.kind.Kind.TheVariants as kind
use Rattle.grpc_base.specs.declared.kind.Kind.{Kind}
use Rattle.json_text.specs.Parts.{text_in, values_in}
use Rattle.json_text.specs.Reading.{reading}
use Rattle.json_text.specs.Tree.{Tree}
use Rattle.service_config.proofs.Supported.{first_has}
use Rattle.service_config.specs.Entries.{methods_in}
use Rattle.service_config.specs.Reading.{config_at, config_in, config_in_tree, config_of, first_kind, kind_by, kind_in, named_kind, supported, reported_by}
use Rattle.service_config.specs.declared.config.Config.{Config}

bound : {A B : Type 0} (p : Result A Fault) (f : A → Result B Fault) (y : B) → (p >>= f) ≡ Ok y → (x : A) × ((p ≡ Ok x) × (f x ≡ Ok y))
bound (Ok x) f y e = (x, (refl, e))
bound (Err g) f y e = absurd (cc)

supported_has : (kinds : KindsSeen) (o : Option Kind) (k : Kind) → supported kinds o ≡ Some k → has_kind kinds k ≡ true
supported_has kinds None k e = absurd (cc)
supported_has kinds (Some j) k e = by (has_kind kinds j) refl e
  where
    by : (b : Bool) → has_kind kinds j ≡ b → (if b then Some j else None) ≡ Some k → has_kind kinds k ≡ true
    by true is f = let one : j ≡ k = (cc) in ap (has_kind kinds) (sym one) ∙ is
    by false is f = absurd (cc)

named_has : (kinds : KindsSeen) (name : Option (List ℕ)) (k : Kind) → named_kind kinds name ≡ Some k → has_kind kinds k ≡ true
named_has kinds None k e = supported_has kinds (Some kind.PickFirst) k e
named_has kinds (Some name) k e = supported_has kinds (kind_named_in_any_case name) k e

kind_by_has : (kinds : KindsSeen) (fields : Fields) (o : Option Tree) (k : Kind) → kind_by kinds fields o ≡ Ok (Some k) → has_kind kinds k ≡ true
kind_by_has kinds fields None k e =
    let two = bound (optional text_in object.Config field.LoadBalancingPolicy fields) (λ name. Ok (named_kind kinds name)) (Some k) e in
    let same : named_kind kinds two.0 ≡ Some k = (let f : ◌≡◌ {A = Result (Option Kind) Fault} (Ok (named_kind kinds two.0)) (Ok (Some k)) = two.1.1 in (cc)) in
    named_has kinds two.0 k same
kind_by_has kinds fields (Some v) k e =
    let two = bound (found_at (place.Field object.Config field.LoadBalancingConfig) (values_in v)) (λ vs. first_kind kinds 0 None vs) (Some k) e in
    first_has kinds 0 None (Some k) two.0 tt two.1.1

some_of : (o : Option Kind) (k : Kind) → ok_or o fault.NoSupportedPolicy ≡ Ok k → o ≡ Some k
some_of None k e = absurd (cc)
some_of (Some j) k e = (cc)

kind_in_has : (kinds : KindsSeen) (fields : Fields) (k : Kind) → kind_in kinds fields ≡ Ok k → has_kind kinds k ≡ true
unfolding kind_in
kind_in_has kinds fields k e =
    let two = bound (kind_by kinds fields (value_of field.LoadBalancingConfig fields)) (λ o. ok_or o fault.NoSupportedPolicy) k e in
    kind_by_has kinds fields (value_of field.LoadBalancingConfig fields) k (two.1.0 ∙ ap (λ (o : Option Kind). Ok o) (some_of two.0 k two.1.1))

config_in_has : (kinds : KindsSeen) (fields : Fields) (c : Config) → config_in kinds fields ≡ Ok c → has_kind kinds c.kind ≡ true
unfolding config_in
config_in_has kinds fields c e =
    let one = bound (kind_in kinds fields) (λ k. methods_in fields >>= λ methods. throttle_in fields >>= λ throttle. Ok (record { kind = k; throttle = throttle; methods = methods })) c e in
    let two = bound (methods_in fields) (λ methods. throttle_in fields >>= λ throttle. Ok (record { kind = one.0; throttle = throttle; methods = methods })) c one.1.1 in
    let three = bound (throttle_in fields) (λ throttle. Ok (record { kind = one.0; throttle = throttle; methods = two.0 })) c two.1.1 in
    let same : ◌≡◌ {A = Result Config Fault} (Ok (record { kind = one.0; throttle = three.0; methods = two.0 })) (Ok c) = three.1.1 in
    let is : record { kind = one.0; throttle = three.0; methods = two.0 } ≡ c = (cc) in
    ap (has_kind kinds) (sym (ap (λ (d : Config). d.kind) is)) ∙ kind_in_has kinds fields one.0 one.1.0

tree_has : (kinds : KindsSeen) (v : Tree) (c : Config) → config_in_tree kinds v ≡ Ok c → has_kind kinds c.kind ≡ true
unfolding config_in_tree
tree_has kinds v c e =
    let two = bound (fields_at object.Config v) (λ fields. config_in kinds fields) c e in
    config_in_has kinds two.0 c two.1.1

reported_is : (r : Result Config Fault) (c : Config) → reported_by r ≡ Ok c → r ≡ Ok c
reported_is (Ok d) c e = (cc)
reported_is (Err f) c e = absurd (cc)

at_has : (kinds : KindsSeen) (r : Result Tree JsonFault) (c : Config) → config_at kinds r ≡ Ok c → has_kind kinds c.kind ≡ true
at_has kinds (Ok v) c e = tree_has kinds v c (reported_is (config_in_tree kinds v) c e)
at_has kinds (Err f) c e = absurd (cc)

pub text_has : (kinds : KindsSeen) (text : List ℕ) (c : Config) → config_of kinds text ≡ Ok c → has_kind kinds c.kind ≡ true
text_has kinds text c e = at_has kinds (reading text) c e
