-- A result of the resolver: the policy of its kind gets its addresses, unless it has them.
use Rattle.std.proofs.Common.{◌≡◌, ◌∷◌, ◌&&◌, not, ap, refl, subst, sym, ◌∙◌, Bool, true, false, List, [], Option, None, Some, ℕ, if◌then◌else◌, cond, map}
use Rattle.std.proofs.lemmas.Bool.{or_parts}
use Rattle.std.specs.List.{list_any}
use Rattle.std.specs.Option.{option_map, option_map_or}
use Rattle.std.specs.Prelude.{find}
use Rattle.grpc_base.specs.declared.address.Address.{Address}
use Rattle.grpc_base.specs.declared.event.Event.{Event}
use Rattle.grpc_base.specs.declared.kind.Kind.{Kind}
use Rattle.lb_policy.specs.Steps.{failed_in}
use Rattle.net_actions.proofs.KeptBoards.{same_equal}
use Rattle.net_actions.proofs.Quiet.{at_number, with_uses}
use Rattle.net_actions.proofs.Running.{both_false, find_none, one_more}
use Rattle.net_actions.proofs.Uses.{all_to, changed_found, is_of, map_same, map_uses, only_is, reports_that}
use Rattle.net_actions.specs.Runs.{NoneIsToEnd, RunsTo}
use Rattle.net_actions.specs.Sees.{PoliciesAreNumbered, AtMostOne}
use Rattle.session_actions.specs.Actions.{first_action, of_policies}
use Rattle.session_actions.specs.CallEnds.{is_after_event}
use Rattle.session_actions.specs.Policies.{addresses_given, addresses_in, are_same_addresses, given_addresses, is_live_policy, is_same_address, is_same_kind, next_begun, next_given, next_retired, result_of, view_of, wanted_kind, wants_addresses, with_policy}
use Rattle.session_actions.specs.Subchannels.{next_added, next_shut}
use Rattle.session_actions.specs.Words.{holds}
use Rattle.session_actions.specs.declared.action.Action.{Action}
use Rattle.session_actions.specs.declared.entry.OpenEntry.{OpenEntry}
use Rattle.session_actions.specs.declared.policy.PolicyUse.{PolicyUse}
use Rattle.session_actions.specs.declared.seen.Seen.{Seen}
use Rattle.session_actions.specs.declared.action.Action.TheVariants as action

-- the use that a result of a kind goes to
abbrev pub is_chosen : Kind → PolicyUse → Bool
is_chosen k g = is_live_policy g && is_same_kind g.generation.kind k

-- what it becomes
abbrev pub give : List Address → Seen → PolicyUse → PolicyUse
give addresses s g = record g { addresses = addresses; failed = failed_in g.failed (view_of addresses s) }

abbrev pub give_if : List Address → Seen → Bool → PolicyUse → PolicyUse
give_if addresses s x g = if x then give addresses s g else g

abbrev pub give_one : Kind → List Address → Seen → PolicyUse → PolicyUse
give_one k addresses s g = give_if addresses s (is_chosen k g) g

-- two lists of the same addresses are one
both_true : (p q : Bool) → (p && q) ≡ true → (p ≡ true) × (q ≡ true)
both_true true q e = (refl, e)
both_true false q e = absurd (cc)

same_lists : (xs ys : List Address) → are_same_addresses xs ys ≡ true → xs ≡ ys
same_lists [] [] e = refl
same_lists [] (b ∷ ys) e = absurd (cc)
same_lists (a ∷ xs) [] e = absurd (cc)
same_lists (a ∷ xs) (b ∷ ys) e =
    let both : (is_same_address a b ≡ true) × (are_same_addresses xs ys ≡ true) = both_true (is_same_address a b) (are_same_addresses xs ys) e in
    ap (λ (x : Address). x ∷ xs) (same_equal a b both.0) ∙ ap (λ (l : List Address). b ∷ l) (same_lists xs ys both.1)

-- the event has them
event_has : (x : Bool) (e : Event) (addresses : List Address) → (if x then addresses_in e else None) ≡ Some addresses → addresses_in e ≡ Some addresses
event_has true e addresses h = h
event_has false e addresses h = absurd (cc)

none_restricted : (test wide : PolicyUse → Bool) → ((h : PolicyUse) → wide h ≡ false → test h ≡ false) → (uses : List PolicyUse) → list_any wide uses ≡ false
    → list_any test uses ≡ false
none_restricted test wide restricted [] e = refl
none_restricted test wide restricted (g ∷ uses) e =
    let parts : (wide g ≡ false) × (list_any wide uses ≡ false) = or_parts (wide g) (list_any wide uses) e in
    both_false (test g) (list_any test uses) (restricted g parts.0) (none_restricted test wide restricted uses parts.1)

-- a stronger test finds what the wider one does, or nothing
restricted_by : (test wide : PolicyUse → Bool) (g : PolicyUse) (uses : List PolicyUse) (c : PolicyUse) (x : Bool) → wide g ≡ x
    → ((h : PolicyUse) → wide h ≡ false → test h ≡ false) → (wide g ≡ true → list_any wide uses ≡ false)
    → cond x (Some g) (find wide uses) ≡ Some c → (find wide uses ≡ Some c → find test uses ≡ cond (test c) (Some c) None)
    → cond (test g) (Some g) (find test uses) ≡ cond (test c) (Some c) None
restricted_by test wide g uses c true here restricted only e next =
    let one : g ≡ c = (cc) in
    ap (λ (o : Option PolicyUse). cond (test g) (Some g) o) (find_none test uses (none_restricted test wide restricted uses (only here)))
    ∙ ap (λ (h : PolicyUse). cond (test h) (Some h) None) one
restricted_by test wide g uses c false here restricted only e next =
    ap (λ (x : Bool). cond x (Some g) (find test uses)) (restricted g here) ∙ next e

pub find_restricted : (test wide : PolicyUse → Bool) (uses : List PolicyUse) (c : PolicyUse) → ((h : PolicyUse) → wide h ≡ false → test h ≡ false)
    → AtMostOne wide uses → find wide uses ≡ Some c → find test uses ≡ cond (test c) (Some c) None
find_restricted test wide [] c restricted only e = absurd (cc)
find_restricted test wide (g ∷ uses) c restricted only e =
    restricted_by test wide g uses c (wide g) refl restricted only.0 e (λ f. find_restricted test wide uses c restricted only.1 f)

module _ (o : OpenEntry) (s : Seen) (k : Kind) (addresses : List Address) (wanted : wanted_kind o s ≡ Some k) (result : result_of o ≡ Some addresses) where
  pub wants_is : (g : PolicyUse) → wants_addresses o s g ≡ (is_chosen k g && not (are_same_addresses g.addresses addresses))
  wants_is g =
      ap (λ (r : Option Kind). (is_live_policy g && holds (λ (j : Kind). is_same_kind g.generation.kind j) r) && holds (λ (l : List Address). not (are_same_addresses g.addresses l)) (result_of o)) wanted
      ∙ ap (λ (r : Option (List Address)). is_chosen k g && holds (λ (l : List Address). not (are_same_addresses g.addresses l)) r) result

  stronger : (x y : Bool) → x ≡ false → (x && y) ≡ false
  stronger true y e = absurd (cc)
  stronger false y e = refl

  -- one that has them stays as it is
  given_stays : (c : PolicyUse) → c.failed ≡ failed_in c.failed (view_of c.addresses s) → are_same_addresses c.addresses addresses ≡ true → give addresses s c ≡ c
  given_stays c sound same =
      ap (λ (l : List Address). record c { addresses = l; failed = failed_in c.failed (view_of l s) }) (sym (same_lists c.addresses addresses same))
      ∙ ap (λ (l : List ℕ). record c { failed = l }) (sym sound)

  stays_by : (c g : PolicyUse) (x : Bool) → is_chosen k g ≡ x → (is_chosen k g ≡ true → g ≡ c) → give addresses s c ≡ c → give_if addresses s x g ≡ g
  stays_by c g true here only same =
      let one : g ≡ c = only here in
      subst (λ (h : PolicyUse). give addresses s h ≡ h) (sym one) same
  stays_by c g false here only same = refl

  all_stay : (c : PolicyUse) (uses : List PolicyUse) → AtMostOne (is_chosen k) uses → find (is_chosen k) uses ≡ Some c → give addresses s c ≡ c
      → map (give_one k addresses s) uses ≡ uses
  all_stay c uses only found same =
      map_uses (give_one k addresses s) (λ (g : PolicyUse). g) uses
      (all_to (λ (g : PolicyUse). is_chosen k g ≡ true → g ≡ c) (λ (g : PolicyUse). give_one k addresses s g ≡ g)
      (λ g one. stays_by c g (is_chosen k g) refl one same) uses (only_is (is_chosen k) uses c only found))
      ∙ map_same uses

  -- the others stay as they are
  all_given : (c : PolicyUse) (uses : List PolicyUse) → PoliciesAreNumbered 1 uses → AtMostOne (is_chosen k) uses → find (is_chosen k) uses ≡ Some c
      → map (at_number c.number (give addresses s)) uses ≡ map (give_one k addresses s) uses
  all_given c uses numbers only found =
      map_uses (at_number c.number (give addresses s)) (give_one k addresses s) uses
      (all_to (λ (g : PolicyUse). is_of (Some c) g ≡ is_chosen k g) (λ (g : PolicyUse). at_number c.number (give addresses s) g ≡ give_one k addresses s g)
      (λ g e. ap (λ (x : Bool). give_if addresses s x g) e) uses (reports_that (is_chosen k) uses (Some c) numbers only found))

  given_next : (c : PolicyUse) (uses : List PolicyUse) → NoneIsToEnd s → next_retired o (with_uses uses s) ≡ None → next_begun o (with_uses uses s) ≡ None
      → find (wants_addresses o s) uses ≡ Some c → of_policies o (with_uses uses s) ≡ Some (action.AddressesGiven c.number)
  given_next c uses ended retired begun found =
      let t : Seen = with_uses uses s in
      ap (λ (x : Option Action). first_action (x ∷ next_retired o t ∷ next_begun o t ∷ next_given o t ∷ next_shut t ∷ next_added t ∷ [])) ended
      ∙ ap (λ (x : Option Action). first_action (None ∷ x ∷ next_begun o t ∷ next_given o t ∷ next_shut t ∷ next_added t ∷ [])) retired
      ∙ ap (λ (x : Option Action). first_action (None ∷ None ∷ x ∷ next_given o t ∷ next_shut t ∷ next_added t ∷ [])) begun
      ∙ ap (λ (x : Option PolicyUse). first_action (None ∷ None ∷ None ∷ option_map (λ (g : PolicyUse). action.AddressesGiven g.number) x ∷ next_shut t ∷ next_added t ∷ [])) found

  given_now : (c : PolicyUse) (uses : List PolicyUse) → PoliciesAreNumbered 1 uses → AtMostOne (is_chosen k) uses → find (is_chosen k) uses ≡ Some c
      → addresses_given c.number o.event (with_uses uses s) ≡ with_uses (map (give_one k addresses s) uses) s
  given_now c uses numbers only found =
      ap (λ (r : Option (List Address)). option_map_or (λ (l : List Address). with_policy (given_addresses l (with_uses uses s)) c.number (with_uses uses s)) r (with_uses uses s))
      (event_has (is_after_event o) o.event addresses result)
      ∙ ap (λ (l : List PolicyUse). with_uses l s) (changed_found (give addresses s) uses (is_chosen k) c numbers found ∙ all_given c uses numbers only found)

  gives_by : (c : PolicyUse) (uses : List PolicyUse) (t : Seen) (x : Bool) → NoneIsToEnd s → next_retired o (with_uses uses s) ≡ None
      → next_begun o (with_uses uses s) ≡ None → PoliciesAreNumbered 1 uses → AtMostOne (is_chosen k) uses → find (is_chosen k) uses ≡ Some c
      → c.failed ≡ failed_in c.failed (view_of c.addresses s) → are_same_addresses c.addresses addresses ≡ x → find (wants_addresses o s) uses ≡ cond (not x) (Some c) None
      → RunsTo o (with_uses (map (give_one k addresses s) uses) s) t → RunsTo o (with_uses uses s) t
  gives_by c uses t true ended retired begun numbers only found sound same wants run =
      subst (λ (l : List PolicyUse). RunsTo o (with_uses l s) t) (all_stay c uses only found (given_stays c sound same)) run
  gives_by c uses t false ended retired begun numbers only found sound same wants run =
      one_more o (action.AddressesGiven c.number) (with_uses uses s) t (given_next c uses ended retired begun wants)
      (subst (λ (v : Seen). RunsTo o v t) (sym (given_now c uses numbers only found)) run)

  chosen_by : (c : PolicyUse) (x : Bool) → is_chosen k c ≡ true → are_same_addresses c.addresses addresses ≡ x
      → cond (wants_addresses o s c) (Some c) None ≡ cond (not x) (Some c) None
  chosen_by c x here same =
      ap (λ (y : Bool). cond y (Some c) None) (wants_is c)
      ∙ ap (λ (y : Bool). cond (y && not (are_same_addresses c.addresses addresses)) (Some c) None) here
      ∙ ap (λ (y : Bool). cond (not y) (Some c) None) same

  pub gives : (c : PolicyUse) (uses : List PolicyUse) (t : Seen) → NoneIsToEnd s → next_retired o (with_uses uses s) ≡ None
      → next_begun o (with_uses uses s) ≡ None → PoliciesAreNumbered 1 uses → AtMostOne (is_chosen k) uses → find (is_chosen k) uses ≡ Some c → is_chosen k c ≡ true
      → c.failed ≡ failed_in c.failed (view_of c.addresses s)
      → RunsTo o (with_uses (map (give_one k addresses s) uses) s) t → RunsTo o (with_uses uses s) t
  gives c uses t ended retired begun numbers only found here sound run =
      let x : Bool = are_same_addresses c.addresses addresses in
      let restricted : find (wants_addresses o s) uses ≡ cond (wants_addresses o s c) (Some c) None
      = find_restricted (wants_addresses o s) (is_chosen k) uses c (λ h none. wants_is h ∙ stronger (is_chosen k h) (not (are_same_addresses h.addresses addresses)) none) only found in
      gives_by c uses t x ended retired begun numbers only found sound refl (restricted ∙ chosen_by c x here refl) run
