-- What was posted by lists of actions, one after the other; and that the policies of a channel have pick_first.
use Rattle.std.proofs.Common.{◌≡◌, ◌++◌, ◌==◌, ◌||◌, ◌∷◌, ap, refl, subst, sym, ◌∙◌, Bool, true, List, []}
use Rattle.std.proofs.lemmas.Bool.{and_parts}
use Rattle.std.specs.Prelude.{slice_set}
use Rattle.channel_actions.proofs.Does.{posted_on}
use Rattle.channel_actions.specs.Posted.{EventsArePosted}
use Rattle.grpc_base.specs.Kinds.{KindsSeen, has_kind, kind_number, with_kind}
use Rattle.grpc_base.specs.declared.event.Stamped.{Stamped}
use Rattle.grpc_base.specs.declared.kind.Kind.TheVariants as kind
use Rattle.grpc_base.specs.declared.kind.Kind.{Kind}
use Rattle.lb_policy.specs.Table.{PolicySeen}
use Rattle.net_actions.specs.Sees.{KindsAgree}
use Rattle.policy_rack.specs.Kinds.{are_ready, has_policy, kinds_differ, kinds_of}
use Rattle.session_actions.specs.Configs.{kinds_in}
use Rattle.session_actions.specs.Laws.{posted_in}
use Rattle.session_actions.specs.declared.action.Action.{Action}
use Rattle.session_actions.specs.declared.seen.PolicyKind.{PolicyKind}

all_on : (xs ys : List Stamped) → EventsArePosted xs → EventsArePosted ys → EventsArePosted (xs ++ ys)
all_on [] ys a b = b
all_on (x ∷ xs) ys a b = (a.0, all_on xs ys a.1 b)

pub posted_after : (these those : List Action) → EventsArePosted (posted_in these) → EventsArePosted (posted_in those) → EventsArePosted (posted_in (these ++ those))
posted_after these those a b = subst EventsArePosted (sym (posted_on these those)) (all_on (posted_in these) (posted_in those) a b)

pub none_posted : (actions : List Action) → posted_in actions ≡ [] → EventsArePosted (posted_in actions)
none_posted actions none = subst EventsArePosted (sym none) tt

-- the kinds of the policies that channel and session were made with
kind_more : (k : Kind) (a b c : Bool)
    → slice_set (a ∷ b ∷ c ∷ []) (kind_number k) true
    ≡ ((kind_number k == 0) || a) ∷ ((kind_number k == 1) || b) ∷ ((kind_number k == 2) || c) ∷ []
kind_more kind.PickFirst a b c = refl
kind_more kind.RoundRobin a b c = refl
kind_more kind.Priority a b c = refl

pub kinds_same : (kinds : List PolicyKind) (policies : List PolicySeen) → KindsAgree kinds policies → kinds_in kinds ≡ kinds_of policies
kinds_same [] [] h = refl
kinds_same (k ∷ kinds) (p ∷ policies) h =
    ap (λ (ks : KindsSeen). with_kind ks k.kind) (kinds_same kinds policies h.2) ∙ kind_more k.kind (has_policy kind.PickFirst policies) (has_policy kind.RoundRobin policies) (has_policy kind.Priority policies)
    ∙ ap (λ (j : Kind). ((kind_number j == 0) || has_policy kind.PickFirst policies) ∷ ((kind_number j == 1) || has_policy kind.RoundRobin policies) ∷ ((kind_number j == 2) || has_policy kind.Priority policies) ∷ []) h.0
kinds_same [] (p ∷ policies) h = absurd h
kinds_same (k ∷ kinds) [] h = absurd h

pub first_there : (kinds : List PolicyKind) (policies : List PolicySeen) → KindsAgree kinds policies → are_ready policies ≡ true → has_kind (kinds_in kinds) kind.PickFirst ≡ true
first_there kinds policies same ready =
    ap (λ (ks : KindsSeen). has_kind ks kind.PickFirst) (kinds_same kinds policies same) ∙ (and_parts (kinds_differ policies) (has_policy kind.PickFirst policies) ready).1
