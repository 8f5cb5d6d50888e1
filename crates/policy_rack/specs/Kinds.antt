-- The kinds of some policies.
use Rattle.std.specs.Prelude.{ℕ, Bool, true, not, ◌&&◌, ◌==◌, Option, List, [], ◌∷◌, map}
use Rattle.std.specs.List.{list_any, position_from}
use Rattle.grpc_base.specs.Kinds.{KindsSeen, each_kind, kind_number}
use Rattle.grpc_base.specs.declared.kind.Kind.{Kind}
use Rattle.grpc_base.specs.declared.kind.Kind.TheVariants as kind
use Rattle.lb_policy.specs.Table.{PolicySeen}

-- whether two kinds are one
abbrev pub same_kind : Kind → Kind → Bool
same_kind j k = kind_number j == kind_number k

-- whether one of them is of this kind
abbrev pub has_policy : Kind → List PolicySeen → Bool
has_policy k policies = list_any (λ p. same_kind p.kind k) policies

-- the place of the first one of this kind, from 0
abbrev pub first_place : Kind → List PolicySeen → Option ℕ
first_place k policies = position_from (λ p. same_kind p.kind k) 0 policies

-- the set of their kinds
abbrev pub kinds_of : List PolicySeen → KindsSeen
kinds_of policies = map (λ k. has_policy k policies) each_kind

-- no two are of one kind
abbrev pub kinds_differ : List PolicySeen → Bool
kinds_differ [] = true
kinds_differ (p ∷ policies) = not (has_policy p.kind policies) && kinds_differ policies

-- what a channel may be passed: no two of one kind, and pick_first among them
abbrev pub are_ready : List PolicySeen → Bool
are_ready policies = kinds_differ policies && has_policy kind.PickFirst policies
