-- What policies note of the states of subchannels stirs no line.
use Rattle.std.proofs.Common.{◌≡◌, ◌∷◌, ◌++◌, ◌||◌, ◌&&◌, not, ap, refl, ◌∙◌, Bool, true, false, List, [], Option, None, Some, ℕ, cond, find, flat_map, if◌then◌else◌, is_none, map}
use Rattle.std.specs.List.{list_any}
use Rattle.std.specs.Option.{option_map}
use Rattle.std.specs.Prelude.{option_to_list}
use Rattle.grpc_base.specs.declared.address.Address.{Address}
use Rattle.grpc_base.specs.declared.kind.Kind.{Kind}
use Rattle.lb_policy.specs.Steps.{failed_after}
use Rattle.session_actions.specs.Policies.{current_policy, is_current, is_live_policy, is_pending, is_same_address, is_same_kind, is_shutdown, is_to_retire, listed, live_sub, pending_policy, view_of, wanted_kind, wants_addresses}
use Rattle.session_actions.specs.Subchannels.{is_unlisted, noted_by_policies, noted_state}
use Rattle.session_actions.specs.Words.{holds}
use Rattle.session_actions.specs.declared.entry.OpenEntry.{OpenEntry}
use Rattle.session_actions.specs.declared.policy.PolicyUse.{PolicyUse}
use Rattle.session_actions.specs.declared.seen.Seen.{Seen}
use Rattle.session_actions.specs.declared.subchannel.Subchannel.{Subchannel}
use Rattle.session_order.proofs.Lists.{any_same, holds_same}
use Rattle.session_order.specs.Quiescent.{lacks_kind}

any_map : {X : Type 0} (test : X → Bool) (f : X → X) → ((x : X) → test (f x) ≡ test x) → (xs : List X) → list_any test (map f xs) ≡ list_any test xs
any_map test f same [] = refl
any_map test f same (x ∷ xs) =
    ap (λ (b : Bool). b || list_any test (map f xs)) (same x) ∙ ap (λ (b : Bool). test x || b) (any_map test f same xs)

find_by : {X : Type 0} (test : X → Bool) (f : X → X) (x : X) (xs : List X) (b c : Bool) → b ≡ c → find test (map f xs) ≡ option_map f (find test xs)
    → cond b (Some (f x)) (find test (map f xs)) ≡ option_map f (cond c (Some x) (find test xs))
find_by test f x xs true true e rest = refl
find_by test f x xs true false e rest = absurd (cc)
find_by test f x xs false true e rest = absurd (cc)
find_by test f x xs false false e rest = rest

find_map : {X : Type 0} (test : X → Bool) (f : X → X) → ((x : X) → test (f x) ≡ test x) → (xs : List X) → find test (map f xs) ≡ option_map f (find test xs)
find_map test f same [] = refl
find_map test f same (x ∷ xs) = find_by test f x xs (test (f x)) (test x) (same x) (find_map test f same xs)

map_same : {X Y : Type 0} (f g : X → Y) → ((x : X) → f x ≡ g x) → (xs : List X) → map f xs ≡ map g xs
map_same f g same [] = refl
map_same f g same (x ∷ xs) = ap (λ (y : _). y ∷ map f xs) (same x) ∙ ap (λ (l : List _). g x ∷ l) (map_same f g same xs)

-- of each policy other subchannels are noted as failed
abbrev pub noting : (PolicyUse → List ℕ) → PolicyUse → PolicyUse
noting failed g = record g { failed = failed g }

module _ (s : Seen) (failed : PolicyUse → List ℕ) where
  abbrev t : Seen
  t = record s { policies = map (noting failed) s.policies }

  current_same : current_policy t ≡ option_map (noting failed) (current_policy s)
  current_same = find_map is_current (noting failed) (λ g. refl) s.policies

  pending_same : pending_policy t ≡ option_map (noting failed) (pending_policy s)
  pending_same = find_map is_pending (noting failed) (λ g. refl) s.policies

  lists_by : (c p : Option PolicyUse)
      → flat_map (λ (g : PolicyUse). g.addresses) (option_to_list (option_map (noting failed) c) ++ option_to_list (option_map (noting failed) p))
      ≡ flat_map (λ (g : PolicyUse). g.addresses) (option_to_list c ++ option_to_list p)
  lists_by None None = refl
  lists_by None (Some p) = refl
  lists_by (Some c) None = refl
  lists_by (Some c) (Some p) = refl

  pub listed_same : listed t ≡ listed s
  listed_same =
      ap (λ (o : Option PolicyUse). flat_map (λ (g : PolicyUse). g.addresses) (option_to_list o ++ option_to_list (pending_policy t))) current_same
      ∙ ap (λ (o : Option PolicyUse). flat_map (λ (g : PolicyUse). g.addresses) (option_to_list (option_map (noting failed) (current_policy s)) ++ option_to_list o))
      pending_same
      ∙ lists_by (current_policy s) (pending_policy s)

  kinds_by : (k : Kind) (c p : Option PolicyUse)
      → list_any (λ (g : PolicyUse). is_same_kind g.generation.kind k) (option_to_list (option_map (noting failed) c) ++ option_to_list (option_map (noting failed) p))
      ≡ list_any (λ (g : PolicyUse). is_same_kind g.generation.kind k) (option_to_list c ++ option_to_list p)
  kinds_by k None None = refl
  kinds_by k None (Some p) = refl
  kinds_by k (Some c) None = refl
  kinds_by k (Some c) (Some p) = refl

  lacks_same : (k : Kind) → lacks_kind t k ≡ lacks_kind s k
  lacks_same k =
      ap (λ (o : Option PolicyUse). not (list_any (λ (g : PolicyUse). is_same_kind g.generation.kind k) (option_to_list o ++ option_to_list (pending_policy t)))) current_same
      ∙ ap (λ (o : Option PolicyUse). not (list_any (λ (g : PolicyUse). is_same_kind g.generation.kind k) (option_to_list (option_map (noting failed) (current_policy s)) ++ option_to_list o)))
      pending_same
      ∙ ap (λ (b : Bool). not b) (kinds_by k (current_policy s) (pending_policy s))

  pub noted_retire : (o : OpenEntry) → list_any (is_to_retire o t) t.policies ≡ list_any (is_to_retire o s) s.policies
  noted_retire o = any_map (is_to_retire o s) (noting failed) (λ g. refl) s.policies

  pub noted_begin : (o : OpenEntry) → holds (lacks_kind t) (wanted_kind o t) ≡ holds (lacks_kind s) (wanted_kind o s)
  noted_begin o = holds_same (lacks_kind t) (lacks_kind s) lacks_same (wanted_kind o s)

  pub noted_give : (o : OpenEntry) → list_any (wants_addresses o t) t.policies ≡ list_any (wants_addresses o s) s.policies
  noted_give o = any_map (wants_addresses o s) (noting failed) (λ g. refl) s.policies

  pub noted_drop : list_any (is_unlisted t) s.subs ≡ list_any (is_unlisted s) s.subs
  noted_drop =
      any_same (is_unlisted t) (is_unlisted s)
      (λ b. ap (λ (l : List Address). not (is_shutdown b.state) && not (list_any (is_same_address b.address) l)) listed_same) s.subs

  pub noted_add : list_any (λ (address : Address). is_none (live_sub t address)) (listed t) ≡ list_any (λ (address : Address). is_none (live_sub s address)) (listed s)
  noted_add = ap (list_any (λ (address : Address). is_none (live_sub s address))) listed_same

-- what is noted of one subchannel is of this kind
noted_one : (u : Seen) (b : Subchannel) (g : PolicyUse) (live : Bool)
    → (if live then record g { failed = failed_after b.number b.state g.failed (view_of g.addresses u) } else g)
    ≡ record g { failed = (if live then failed_after b.number b.state g.failed (view_of g.addresses u) else g.failed) }
noted_one u b g true = refl
noted_one u b g false = refl

abbrev pub failed_in_notes : Seen → Subchannel → PolicyUse → List ℕ
failed_in_notes u b g = if is_live_policy g then failed_after b.number b.state g.failed (view_of g.addresses u) else g.failed

pub notes_are : (u : Seen) (b : Subchannel) → noted_by_policies b u ≡ record u { policies = map (noting (failed_in_notes u b)) u.policies }
notes_are u b =
    ap (λ (l : List PolicyUse). record u { policies = l })
    (map_same (noted_state u b) (noting (failed_in_notes u b)) (λ g. noted_one u b g (is_live_policy g)) u.policies)
