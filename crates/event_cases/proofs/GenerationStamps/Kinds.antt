-- A result that is for a kind: what is dropped by it, and who is of the kind then, by who is current and who is pending.
use Rattle.std.proofs.Common.{◌≡◌, ◌∷◌, ◌++◌, ◌==◌, ◌||◌, ◌&&◌, not, ap, refl, sym, ◌∙◌, Bool, true, false, List, [], None, Option, Some, ℕ, find, if◌then◌else◌, is_none, is_some, map, option_to_list}
use Rattle.std.proofs.lemmas.Simd.{map-map}
use Rattle.std.specs.List.{list_any}
use Rattle.std.specs.Option.{option_map}
use Rattle.attempt_ledger.specs.declared.ledger.Generation.{Generation}
use Rattle.event_cases.proofs.GenerationStamps.Along.{any_gens, found_gens, gens, kind_gens, none_dropped}
use Rattle.event_cases.proofs.GenerationStamps.Over.{not_retired, number_at, retires}
use Rattle.event_cases.proofs.GenerationStamps.Written.{written}
use Rattle.event_cases.specs.GenerationStamps.Stamps.{begun, dropped, dropped_in, generations_after, has_kind, is_current_stamp, is_dropped, is_pending_stamp, with_begun}
use Rattle.grpc_base.specs.declared.kind.Kind.{Kind}
use Rattle.ledger_stamps.specs.Steps.{changed_at, new_generation, retired_generation}
use Rattle.net_actions.proofs.Noting.{found_map, found_passes}
use Rattle.net_actions.proofs.Quiet.{at_number}
use Rattle.net_actions.proofs.Running.{find_none}
use Rattle.net_actions.proofs.Uses.{AllUses, all_to, all_with, changed_found, is_of, none_found, none_passes, only_is, reports_that}
use Rattle.net_actions.specs.Sees.{UsesAgree}
use Rattle.session_actions.specs.Policies.{current_policy, is_current, is_live_policy, is_pending, is_same_kind, live_policies, pending_policy}
use Rattle.session_actions.specs.declared.policy.PolicyUse.{PolicyUse}
use Rattle.session_actions.specs.declared.seen.Seen.{Seen}

any_all : (test : Generation → Bool) (f : Generation → Generation) (uses : List PolicyUse) → AllUses (λ (g : PolicyUse). test (f g.generation) ≡ false) uses
    → list_any test (map f (gens uses)) ≡ false
any_all test f [] h = refl
any_all test f (g ∷ uses) h = ap (λ (b : Bool). b || list_any test (map f (gens uses))) h.0 ∙ any_all test f uses h.1

map_all : (f h : PolicyUse → Generation) (uses : List PolicyUse) → AllUses (λ (g : PolicyUse). f g ≡ h g) uses → map f uses ≡ map h uses
map_all f h [] all = refl
map_all f h (g ∷ uses) all = ap (λ (x : Generation). x ∷ map f uses) all.0 ∙ ap (λ (l : List Generation). h g ∷ l) (map_all f h uses all.1)

none_of : {X : Type 0} (test : X → Bool) (xs : List X) → list_any test xs ≡ false → find test xs ≡ None
none_of test xs e = find_none test xs e

off : (l a z : Bool) → ((l && a) ≡ true → z ≡ true) → (l && (false || ((l && a) && not z))) ≡ false
off true true z f = ap (λ (b : Bool). not b) (f refl)
off true false z f = refl
off false a z f = refl

on : (l a z : Bool) → (l && a) ≡ true → z ≡ false → (l && (false || ((l && a) && not z))) ≡ true
on true true z e f = ap (λ (b : Bool). not b) f
on true false z e f = absurd (cc)
on false a z e f = absurd (cc)

not_current : (l : Bool) (a : Option ℕ) (z : Bool) → (l && (false || ((l && is_none a) && not z))) ≡ true → (l && is_some a) ≡ false
not_current true None z e = refl
not_current true (Some n) z e = absurd (cc)
not_current false a z e = refl

never : {X : Type 0} (b : Bool) → b ≡ false → b ≡ true → X
never true e f = absurd (cc)
never false e f = absurd (cc)

module _ (s : Seen) (k : Kind) (e : ℕ) (u : UsesAgree s.policies) where
  abbrev gs : List Generation
  gs = gens s.policies

  abbrev drop : Generation → Generation
  drop = dropped_in false (Some k) e

  abbrev of_kind : PolicyUse → Bool
  of_kind g = is_same_kind g.generation.kind k

  drop_off : (g : PolicyUse) → (is_pending g ≡ true → of_kind g ≡ true) → is_dropped false (Some k) g.generation ≡ false
  drop_off g f = off (is_live_policy g) (is_none g.generation.activated) (of_kind g) f

  drop_on : (g : PolicyUse) → is_pending g ≡ true → of_kind g ≡ false → is_dropped false (Some k) g.generation ≡ true
  drop_on g is other = on (is_live_policy g) (is_none g.generation.activated) (of_kind g) is other

  -- of the pending ones all are of the kind, or none is
  abbrev pub AllPending : Bool → Type 0
  AllPending x = AllUses (λ (g : PolicyUse). is_pending g ≡ true → of_kind g ≡ x) s.policies

  pub no_pending : pending_policy s ≡ None → AllPending false
  no_pending none = none_passes is_pending (λ (g : PolicyUse). of_kind g ≡ false) s.policies (none_found is_pending s.policies none)

  pub one_pending : (p : PolicyUse) (x : Bool) → pending_policy s ≡ Some p → of_kind p ≡ x → AllPending x
  one_pending p x there kind =
      all_to (λ (g : PolicyUse). is_pending g ≡ true → g ≡ p) (λ (g : PolicyUse). is_pending g ≡ true → of_kind g ≡ x)
      (λ g one is. ap of_kind (one is) ∙ kind) s.policies (only_is is_pending s.policies p u.one_pending there)

  -- none is dropped
  kept_all : AllUses (λ (g : PolicyUse). is_dropped false (Some k) g.generation ≡ false) s.policies → dropped false (Some k) e gs ≡ gs
  kept_all all = none_dropped false (Some k) e gs (any_gens (is_dropped false (Some k)) s.policies ∙ none_in s.policies all)
    where
      none_in : (uses : List PolicyUse) → AllUses (λ (g : PolicyUse). is_dropped false (Some k) g.generation ≡ false) uses
          → list_any (λ (g : PolicyUse). is_dropped false (Some k) g.generation) uses ≡ false
      none_in [] h = refl
      none_in (g ∷ uses) h = ap (λ (b : Bool). b || list_any (λ (x : PolicyUse). is_dropped false (Some k) x.generation) uses) h.0 ∙ none_in uses h.1

  pub dropped_none : pending_policy s ≡ None → dropped false (Some k) e gs ≡ gs
  dropped_none none =
      kept_all
      (all_to (λ (g : PolicyUse). is_pending g ≡ true → of_kind g ≡ true) (λ (g : PolicyUse). is_dropped false (Some k) g.generation ≡ false) drop_off s.policies
      (none_passes is_pending (λ (g : PolicyUse). of_kind g ≡ true) s.policies (none_found is_pending s.policies none)))

  pub dropped_kind : AllPending true → dropped false (Some k) e gs ≡ gs
  dropped_kind all = kept_all (all_to (λ (g : PolicyUse). is_pending g ≡ true → of_kind g ≡ true) (λ (g : PolicyUse). is_dropped false (Some k) g.generation ≡ false) drop_off s.policies all)

  -- the pending one is dropped
  abbrev own : PolicyUse → PolicyUse
  own g = record g { generation = retired_generation e g.generation }

  drops_by : (p g : PolicyUse) (b : Bool) → is_pending g ≡ b → (g.number == p.number) ≡ is_pending g → (is_pending g ≡ true → of_kind g ≡ false)
      → drop g.generation ≡ (at_number p.number own g).generation
  drops_by p g true is reports_it other =
      ap (λ (b : Bool). if b then record g.generation { retired = Some e } else g.generation) (drop_on g is (other is))
      ∙ retires e g.generation g.generation.retired refl (not_retired g (is_none g.generation.activated) is)
      ∙ sym (ap (λ (b : Bool). (if b then own g else g).generation) (reports_it ∙ is))
  drops_by p g false is reports_it other =
      ap (λ (b : Bool). if b then record g.generation { retired = Some e } else g.generation) (drop_off g (λ f. never (is_pending g) is f))
      ∙ sym (ap (λ (b : Bool). (if b then own g else g).generation) (reports_it ∙ is))

  pub dropped_one : (p : PolicyUse) → pending_policy s ≡ Some p → AllPending false → dropped false (Some k) e gs ≡ changed_at (retired_generation e) gs p.number
  dropped_one p there other =
      map-map drop (λ (g : PolicyUse). g.generation) s.policies
      ∙ map_all (λ (g : PolicyUse). drop g.generation) (λ (g : PolicyUse). (at_number p.number own g).generation) s.policies
      (all_with (λ (g : PolicyUse). is_of (Some p) g ≡ is_pending g) (λ (g : PolicyUse). is_pending g ≡ true → of_kind g ≡ false)
      (λ (g : PolicyUse). drop g.generation ≡ (at_number p.number own g).generation) (λ g a b. drops_by p g (is_pending g) refl a b) s.policies
      (reports_that is_pending s.policies (Some p) u.numbers u.one_pending there) other)
      ∙ sym (map-map (λ (g : PolicyUse). g.generation) (at_number p.number own) s.policies)
      ∙ sym (ap gens (changed_found own s.policies is_pending p u.numbers there))
      ∙ written (retired_generation e) own p.number s.policies p (number_at is_pending s.policies p u.numbers there) refl

  -- who is current then, and that none is pending
  current_by : (g : Generation) (b : Bool) → is_dropped false (Some k) g ≡ b → is_current_stamp (if b then record g { retired = Some e } else g) ≡ is_current_stamp g
  current_by g true is = sym (not_current (is_none g.retired) g.activated (is_same_kind g.kind k) is)
  current_by g false is = refl

  current_left : find is_current_stamp (dropped false (Some k) e gs) ≡ option_map drop (option_map (λ (g : PolicyUse). g.generation) (current_policy s))
  current_left =
      found_map is_current_stamp is_current_stamp drop (λ g. current_by g (is_dropped false (Some k) g) refl) gs ∙ ap (option_map drop) (found_gens is_current_stamp s.policies)

  not_pending_by : (g : PolicyUse) (b : Bool) → is_pending g ≡ b → (is_pending g ≡ true → of_kind g ≡ false) → is_pending_stamp (drop g.generation) ≡ false
  not_pending_by g true is other = ap (λ (b : Bool). is_pending_stamp (if b then record g.generation { retired = Some e } else g.generation)) (drop_on g is (other is))
  not_pending_by g false is other =
      ap (λ (b : Bool). is_pending_stamp (if b then record g.generation { retired = Some e } else g.generation)) (drop_off g (λ f. never (is_pending g) is f)) ∙ is

  pending_left : AllPending false → find is_pending_stamp (dropped false (Some k) e gs) ≡ None
  pending_left other =
      none_of is_pending_stamp (dropped false (Some k) e gs)
      (any_all is_pending_stamp drop s.policies
      (all_to (λ (g : PolicyUse). is_pending g ≡ true → of_kind g ≡ false) (λ (g : PolicyUse). is_pending_stamp (drop g.generation) ≡ false)
      (λ g f. not_pending_by g (is_pending g) refl f) s.policies other))

  kind_by : (g : Generation) (b : Bool) → (if b then record g { retired = Some e } else g).kind ≡ g.kind
  kind_by g true = refl
  kind_by g false = refl

  or_off : (b : Bool) → (b || false) ≡ b
  or_off true = refl
  or_off false = refl

  abbrev tests : List Generation → Bool
  tests l = list_any (λ (g : Generation). is_same_kind g.kind k) l

  kind_left : (c : PolicyUse) → current_policy s ≡ Some c → AllPending false → has_kind k (dropped false (Some k) e gs) ≡ of_kind c
  kind_left c current other =
      ap (λ (o : Option Generation). tests (option_to_list o ++ option_to_list (find is_pending_stamp (dropped false (Some k) e gs))))
      (current_left ∙ ap (λ (o : Option PolicyUse). option_map drop (option_map (λ (g : PolicyUse). g.generation) o)) current)
      ∙ ap (λ (o : Option Generation). tests (drop c.generation ∷ option_to_list o)) (pending_left other)
      ∙ or_off (is_same_kind (drop c.generation).kind k)
      ∙ ap (λ (j : Kind). is_same_kind j k) (kind_by c.generation (is_dropped false (Some k) c.generation))

  -- the four cases: it is for the current one
  pub for_current : (c : PolicyUse) → current_policy s ≡ Some c → of_kind c ≡ true → AllPending false → generations_after false (Some k) e gs ≡ dropped false (Some k) e gs
  for_current c current kind other =
      ap (λ (b : Bool). if b then dropped false (Some k) e gs else dropped false (Some k) e gs ++ begun e k (dropped false (Some k) e gs) ∷ []) (kind_left c current other ∙ kind)

  -- for the pending one
  pub for_pending : (c p : PolicyUse) → current_policy s ≡ Some c → pending_policy s ≡ Some p → of_kind c ≡ false → of_kind p ≡ true
      → generations_after false (Some k) e gs ≡ gs
  for_pending c p current pending away kind =
      let has : has_kind k gs ≡ true
      = kind_gens k s
      ∙ ap (λ (o : Option PolicyUse). list_any of_kind (option_to_list o ++ option_to_list (pending_policy s))) current
      ∙ ap (λ (o : Option PolicyUse). list_any of_kind (c ∷ option_to_list o)) pending
      ∙ ap (λ (b : Bool). b || (of_kind p || false)) away ∙ ap (λ (b : Bool). b || false) kind in
      ap (with_begun (Some k) e) (dropped_kind (one_pending p true pending kind))
      ∙ ap (λ (b : Bool). if b then gs else gs ++ begun e k gs ∷ []) has

  -- for a new one beside the current one
  pub for_next : (c : PolicyUse) → current_policy s ≡ Some c → of_kind c ≡ false → AllPending false
      → generations_after false (Some k) e gs ≡ dropped false (Some k) e gs ++ new_generation k ∷ []
  for_next c current away other =
      ap (λ (b : Bool). if b then dropped false (Some k) e gs else dropped false (Some k) e gs ++ begun e k (dropped false (Some k) e gs) ∷ []) (kind_left c current other ∙ away)
      ∙ ap (λ (o : Option Generation). dropped false (Some k) e gs ++ record { kind = k; activated = if is_none o then Some e else None; retired = None } ∷ [])
      (current_left ∙ ap (λ (o : Option PolicyUse). option_map drop (option_map (λ (g : PolicyUse). g.generation) o)) current)

  -- for the first one
  pub for_first : current_policy s ≡ None → pending_policy s ≡ None
      → generations_after false (Some k) e gs ≡ gs ++ record { kind = k; activated = Some e; retired = None } ∷ []
  for_first current pending =
      let has : has_kind k gs ≡ false
      = kind_gens k s
      ∙ ap (λ (o : Option PolicyUse). list_any of_kind (option_to_list o ++ option_to_list (pending_policy s))) current
      ∙ ap (λ (o : Option PolicyUse). list_any of_kind (option_to_list o)) pending in
      ap (with_begun (Some k) e) (dropped_none pending)
      ∙ ap (λ (b : Bool). if b then gs else gs ++ begun e k gs ∷ []) has
      ∙ ap (λ (o : Option Generation). gs ++ record { kind = k; activated = if is_none o then Some e else None; retired = None } ∷ [])
      (found_gens is_current_stamp s.policies ∙ ap (option_map (λ (g : PolicyUse). g.generation)) current)
