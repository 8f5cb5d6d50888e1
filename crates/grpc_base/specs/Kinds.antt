-- Kinds of load balancing policy (gRPC, "Service Config in gRPC": loadBalancingConfig, loadBalancingPolicy).
use Rattle.std.specs.Prelude.{ℕ, Bool, true, false, Option, List, [], ◌∷◌, map, codes, slice_set, slice_index_or}
use Rattle.std.specs.List.{find}
use Rattle.std.specs.Str.{bytes_eq, str_eq_ignore_ascii_case}
use Rattle.grpc_base.specs.declared.kind.Kind.{Kind}
use Rattle.grpc_base.specs.declared.kind.Kind.TheVariants as kind

-- all kinds, in the order of their numbers
abbrev pub each_kind : List Kind
each_kind = kind.PickFirst ∷ kind.RoundRobin ∷ kind.Priority ∷ []

-- the number of a kind, from 0
abbrev pub kind_number : Kind → ℕ
kind_number kind.PickFirst = 0
kind_number kind.RoundRobin = 1
kind_number kind.Priority = 2

-- the name of a kind in a service config
abbrev pub kind_name : Kind → List ℕ
kind_name kind.PickFirst = codes "pick_first"
kind_name kind.RoundRobin = codes "round_robin"
kind_name kind.Priority = codes "priority"

-- the kind of this name, spelled exactly
abbrev pub kind_named : List ℕ → Option Kind
kind_named name = find (λ k. bytes_eq (kind_name k) name) each_kind

-- the kind of this name, whatever the case of ASCII's letters
abbrev pub kind_named_in_any_case : List ℕ → Option Kind
kind_named_in_any_case name = find (λ k. str_eq_ignore_ascii_case (kind_name k) name) each_kind

-- a set of kinds says for each number whether the kind is in it
abbrev pub KindsSeen : Type 0
KindsSeen = List Bool

-- the empty set
abbrev pub no_kinds : KindsSeen
no_kinds = map (λ (k : Kind). false) each_kind

-- the set of all kinds
abbrev pub all_kinds : KindsSeen
all_kinds = map (λ (k : Kind). true) each_kind

-- the set with a kind added
abbrev pub with_kind : KindsSeen → Kind → KindsSeen
with_kind kinds k = slice_set kinds (kind_number k) true

-- whether a set has a kind
abbrev pub has_kind : KindsSeen → Kind → Bool
has_kind kinds k = slice_index_or kinds (kind_number k) false
