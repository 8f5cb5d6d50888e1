-- A result of the resolver, as far as the policies go: it is for the current policy, for the pending one, or for a new one.
use Rattle.std.proofs.Common.{◌≡◌, ◌+◌, ◌∷◌, ◌++◌, ◌||◌, ◌&&◌, not, ap, arith, refl, sym, ◌∙◌, Bool, true, false, List, [], Option, None, Some, ℕ, if◌then◌else◌, is_none, is_some, map, length, option_to_list}
use Rattle.std.proofs.lemmas.Bool.{eq-eqb, or_parts}
use Rattle.std.proofs.lemmas.List.Folds.{find-append}
use Rattle.std.specs.List.{list_any}
use Rattle.std.specs.Option.{option_and_then, option_map, option_or}
use Rattle.std.specs.Prelude.{find}
use Rattle.grpc_base.specs.Kinds.{kind_number}
use Rattle.grpc_base.specs.declared.address.Address.{Address}
use Rattle.grpc_base.specs.declared.kind.Kind.{Kind}
use Rattle.lb_policy.specs.Steps.{failed_in}
use Rattle.net_actions.proofs.Finishing.{UsesNow}
use Rattle.net_actions.proofs.Giving.{give, give_if, give_one, gives, is_chosen, wants_is}
use Rattle.net_actions.proofs.KeptBoards.{is_itself}
use Rattle.net_actions.proofs.Noting.{found_map, found_passes, numbers_stay, one_as}
use Rattle.net_actions.proofs.Quiet.{and_no, none_after, one_of_none, retire_if, retired_number, with_uses}
use Rattle.net_actions.proofs.ResultKinds.{chosen_is, current_not_pending, current_still, first_true, is_of_kind, pending_left, retires_is}
use Rattle.net_actions.proofs.Retiring.{retire_by, retire_from, retire_one}
use Rattle.net_actions.proofs.Running.{IsQuiet, both_false, find_after, find_none, none_afterwards, one_more}
use Rattle.net_actions.proofs.Uses.{AllUses, all_to, all_with, found_all, none_all, none_found, none_passes, one_all}
use Rattle.net_actions.specs.Runs.{NoneIsToEnd, RunsTo}
use Rattle.net_actions.specs.Sees.{PoliciesAreNumbered, UsesAgree, AtMostOne}
use Rattle.session_actions.specs.Actions.{first_action, of_policies}
use Rattle.session_actions.specs.Entries.{entry}
use Rattle.session_actions.specs.Policies.{are_same_addresses, begin_if, begun_policy, current_policy, is_current, is_live_policy, is_other_kind, is_pending, is_to_retire, next_begun, next_given, next_retired, pending_policy, result_of, view_of, wanted_kind, wants_addresses}
use Rattle.session_actions.specs.Subchannels.{next_added, next_shut}
use Rattle.session_actions.specs.declared.action.Action.{Action}
use Rattle.session_actions.specs.declared.entry.OpenEntry.{OpenEntry}
use Rattle.session_actions.specs.declared.policy.PolicyUse.{PolicyUse}
use Rattle.session_actions.specs.declared.seen.Seen.{Seen}
use Rattle.session_actions.specs.declared.action.Action.TheVariants as action

-- a list is itself
same_list : (xs : List Address) → are_same_addresses xs xs ≡ true
same_list [] = refl
same_list (a ∷ xs) = ap (λ (b : Bool). b && are_same_addresses xs xs) (is_itself a) ∙ same_list xs

-- what giving leaves
module _ (k : Kind) (addresses : List Address) (s : Seen) where
  current_by : (x : Bool) (g : PolicyUse) → is_current (give_if addresses s x g) ≡ is_current g
  current_by true g = refl
  current_by false g = refl

  pending_by : (x : Bool) (g : PolicyUse) → is_pending (give_if addresses s x g) ≡ is_pending g
  pending_by true g = refl
  pending_by false g = refl

  number_by : (x : Bool) (g : PolicyUse) → (give_if addresses s x g).number ≡ g.number
  number_by true g = refl
  number_by false g = refl

  retire_same : (o : OpenEntry) (x : Bool) (g : PolicyUse) → is_to_retire o s (give_if addresses s x g) ≡ is_to_retire o s g
  retire_same o true g = refl
  retire_same o false g = refl

  pub given_uses : (uses : List PolicyUse) → UsesAgree uses → UsesAgree (map (give_one k addresses s) uses)
  given_uses uses h = record {
    numbers = numbers_stay (give_one k addresses s) (λ g. number_by (is_chosen k g) g) 1 uses h.numbers;
    one_current = one_as is_current is_current (give_one k addresses s) (λ g. current_by (is_chosen k g) g) uses h.one_current;
    one_pending = one_as is_pending is_pending (give_one k addresses s) (λ g. pending_by (is_chosen k g) g) uses h.one_pending;
  }

  given_current : (uses : List PolicyUse) (o : Option PolicyUse) → find is_current uses ≡ o
      → find is_current (map (give_one k addresses s) uses) ≡ option_map (give_one k addresses s) o
  given_current uses o e =
      found_map is_current is_current (give_one k addresses s) (λ g. current_by (is_chosen k g) g) uses ∙ ap (option_map (give_one k addresses s)) e

  given_pending : (uses : List PolicyUse) (o : Option PolicyUse) → find is_pending uses ≡ o
      → find is_pending (map (give_one k addresses s) uses) ≡ option_map (give_one k addresses s) o
  given_pending uses o e =
      found_map is_pending is_pending (give_one k addresses s) (λ g. pending_by (is_chosen k g) g) uses ∙ ap (option_map (give_one k addresses s)) e

  none_retired : (o : OpenEntry) (uses : List PolicyUse) → list_any (is_to_retire o s) uses ≡ false
      → list_any (is_to_retire o s) (map (give_one k addresses s) uses) ≡ false
  none_retired o [] e = refl
  none_retired o (g ∷ uses) e =
      let parts : (is_to_retire o s g ≡ false) × (list_any (is_to_retire o s) uses ≡ false) = or_parts (is_to_retire o s g) (list_any (is_to_retire o s) uses) e in
      both_false (is_to_retire o s (give_one k addresses s g)) (list_any (is_to_retire o s) (map (give_one k addresses s) uses))
      (retire_same o (is_chosen k g) g ∙ parts.0) (none_retired o uses parts.1)

  -- who has the addresses wants none
  sated_by : (x : Bool) (g : PolicyUse) → is_chosen k g ≡ x
      → (is_chosen k (give_if addresses s x g) && not (are_same_addresses (give_if addresses s x g).addresses addresses)) ≡ false
  sated_by true g e = ap (λ (b : Bool). is_chosen k g && not b) (same_list addresses) ∙ and_no (is_chosen k g)
  sated_by false g e = ap (λ (b : Bool). b && not (are_same_addresses g.addresses addresses)) e

module _ (o : OpenEntry) (s : Seen) (k : Kind) (addresses : List Address) (is_open : s.shut ≡ false) (wanted : wanted_kind o s ≡ Some k)
    (result : result_of o ≡ Some addresses) (ended : NoneIsToEnd s) (h : UsesAgree s.policies) where
  abbrev left : List PolicyUse
  left = map (retire_one o s) s.policies

  -- none begins where one of the kind is live
  begun_none : (uses : List PolicyUse) (c p : Option PolicyUse) → current_policy (with_uses uses s) ≡ c → pending_policy (with_uses uses s) ≡ p
      → list_any (is_of_kind k) (option_to_list c ++ option_to_list p) ≡ true → next_begun o (with_uses uses s) ≡ None
  begun_none uses c p one two has =
      let u : Seen = with_uses uses s in
      ap (option_and_then (begin_if u)) wanted
      ∙ ap (λ (x : Option PolicyUse). if list_any (is_of_kind k) (option_to_list x ++ option_to_list (pending_policy u)) then None else Some (action.PolicyBegins k)) one
      ∙ ap (λ (x : Option PolicyUse). if list_any (is_of_kind k) (option_to_list c ++ option_to_list x) then None else Some (action.PolicyBegins k)) two
      ∙ ap (λ (x : Bool). if x then None else Some (action.PolicyBegins k)) has

  begins : (uses : List PolicyUse) (c p : Option PolicyUse) → current_policy (with_uses uses s) ≡ c → pending_policy (with_uses uses s) ≡ p
      → list_any (is_of_kind k) (option_to_list c ++ option_to_list p) ≡ false → next_begun o (with_uses uses s) ≡ Some (action.PolicyBegins k)
  begins uses c p one two none =
      let u : Seen = with_uses uses s in
      ap (option_and_then (begin_if u)) wanted
      ∙ ap (λ (x : Option PolicyUse). if list_any (is_of_kind k) (option_to_list x ++ option_to_list (pending_policy u)) then None else Some (action.PolicyBegins k)) one
      ∙ ap (λ (x : Option PolicyUse). if list_any (is_of_kind k) (option_to_list c ++ option_to_list x) then None else Some (action.PolicyBegins k)) two
      ∙ ap (λ (x : Bool). if x then None else Some (action.PolicyBegins k)) none

  none_sated : (uses : List PolicyUse) → list_any (wants_addresses o s) (map (give_one k addresses s) uses) ≡ false
  none_sated uses =
      none_after (wants_addresses o s) (give_one k addresses s)
      (λ g. wants_is o s k addresses wanted result (give_one k addresses s g) ∙ sated_by k addresses s (is_chosen k g) g refl) uses

  quiet_now : (uses : List PolicyUse) → list_any (is_to_retire o s) uses ≡ false → next_begun o (with_uses (map (give_one k addresses s) uses) s) ≡ None
      → IsQuiet o (with_uses (map (give_one k addresses s) uses) s)
  quiet_now uses none begun = record {
    ended = ended;
    retired = ap (λ (x : Option PolicyUse). option_map (λ (g : PolicyUse). action.PolicyRetired g.number) x)
        (find_none (is_to_retire o s) (map (give_one k addresses s) uses) (none_retired k addresses s o uses none));
    begun = begun;
    given = ap (λ (x : Option PolicyUse). option_map (λ (g : PolicyUse). action.AddressesGiven g.number) x)
        (find_none (wants_addresses o s) (map (give_one k addresses s) uses) (none_sated uses));
  }

  none_left : list_any (is_to_retire o s) left ≡ false
  none_left = none_after (is_to_retire o s) (retire_one o s) (λ g. retire_by o s g (is_to_retire o s g) refl) s.policies

  retired_none : (uses : List PolicyUse) → list_any (is_to_retire o s) uses ≡ false → next_retired o (with_uses uses s) ≡ None
  retired_none uses none =
      ap (λ (x : Option PolicyUse). option_map (λ (g : PolicyUse). action.PolicyRetired g.number) x) (find_none (is_to_retire o s) uses none)

  numbers_left : PoliciesAreNumbered 1 left
  numbers_left = numbers_stay (retire_one o s) (λ g. retired_number (entry s) (is_to_retire o s g) g) 1 s.policies h.numbers

  one_current_left : AtMostOne is_current left
  one_current_left = one_as is_current is_current (retire_one o s) (current_still o s k is_open wanted) s.policies h.one_current

  -- the current one is as it was
  stays_current : (c : PolicyUse) → is_current c ≡ true → retire_one o s c ≡ c
  stays_current c here =
      let never : is_to_retire o s c ≡ false
      = retires_is o s k is_open wanted c ∙ ap (λ (x : Bool). x && is_other_kind k c) (current_not_pending c here) in
      ap (λ (x : Bool). retire_if (entry s) x c) never

  current_left : (c : Option PolicyUse) → current_policy s ≡ c → find is_current left ≡ c
  current_left None e =
      found_map is_current is_current (retire_one o s) (current_still o s k is_open wanted) s.policies ∙ ap (option_map (retire_one o s)) e
  current_left (Some c) e =
      found_map is_current is_current (retire_one o s) (current_still o s k is_open wanted) s.policies ∙ ap (option_map (retire_one o s)) e
      ∙ ap (λ (g : PolicyUse). Some g) (stays_current c (found_passes is_current s.policies c e))

  abbrev CurrentKind : Bool → Type 0
  CurrentKind x = AllUses (λ (g : PolicyUse). is_current g ≡ true → is_of_kind k g ≡ x) s.policies

  abbrev PendingKind : Bool → Type 0
  PendingKind y = AllUses (λ (g : PolicyUse). is_pending g ≡ true → is_of_kind k g ≡ y) s.policies

  chosen_all : (x y : Bool) → CurrentKind x → PendingKind y
      → AllUses (λ (g : PolicyUse). is_chosen k (retire_one o s g) ≡ ((is_current g && x) || (is_pending g && y))) s.policies
  chosen_all x y c p =
      all_with (λ (g : PolicyUse). is_current g ≡ true → is_of_kind k g ≡ x) (λ (g : PolicyUse). is_pending g ≡ true → is_of_kind k g ≡ y)
      (λ (g : PolicyUse). is_chosen k (retire_one o s g) ≡ ((is_current g && x) || (is_pending g && y)))
      (λ g a b. chosen_is o s k is_open wanted x y g a b) s.policies c p

  kind_if : (p z y : Bool) → (p ≡ true → z ≡ y) → (p && z) ≡ (p && y)
  kind_if true z y e = e refl
  kind_if false z y e = refl

  pending_all : (y : Bool) → PendingKind y → AllUses (λ (g : PolicyUse). is_pending (retire_one o s g) ≡ (is_pending g && y)) s.policies
  pending_all y p =
      all_to (λ (g : PolicyUse). is_pending g ≡ true → is_of_kind k g ≡ y) (λ (g : PolicyUse). is_pending (retire_one o s g) ≡ (is_pending g && y))
      (λ g e. pending_left o s k is_open wanted g ∙ kind_if (is_pending g) (is_of_kind k g) y e) s.policies p

  no_pending_left : PendingKind false → list_any is_pending left ≡ false
  no_pending_left p =
      none_all is_pending (retire_one o s) s.policies
      (all_to (λ (g : PolicyUse). is_pending (retire_one o s g) ≡ (is_pending g && false)) (λ (g : PolicyUse). is_pending (retire_one o s g) ≡ false)
      (λ g e. e ∙ and_no (is_pending g)) s.policies (pending_all false p))

  -- it is for the current one
  only_current : (c p : Bool) → ((c && true) || (p && false)) ≡ c
  only_current true p = refl
  only_current false true = refl
  only_current false false = refl

  pub for_current : (c : PolicyUse) → current_policy s ≡ Some c → CurrentKind true → PendingKind false → is_of_kind k c ≡ true
      → c.failed ≡ failed_in c.failed (view_of c.addresses s)
      → UsesNow o s (map (give_one k addresses s) left) (Some (give addresses s c)) None
  for_current c e one two kind sound =
      let here : is_current c ≡ true = found_passes is_current s.policies c e in
      let chosen : AllUses (λ (g : PolicyUse). is_chosen k (retire_one o s g) ≡ is_current g) s.policies
      = all_to (λ (g : PolicyUse). is_chosen k (retire_one o s g) ≡ ((is_current g && true) || (is_pending g && false)))
      (λ (g : PolicyUse). is_chosen k (retire_one o s g) ≡ is_current g)
      (λ g d. d ∙ only_current (is_current g) (is_pending g)) s.policies (chosen_all true false one two) in
      let found : find (is_chosen k) left ≡ Some c
      = found_all (is_chosen k) is_current (retire_one o s) s.policies chosen ∙ ap (option_map (retire_one o s)) e ∙ ap (λ (g : PolicyUse). Some g) (stays_current c here) in
      let only : AtMostOne (is_chosen k) left = one_all (is_chosen k) is_current (retire_one o s) s.policies chosen h.one_current in
      let live : is_chosen k c ≡ true
      = ap (λ (x : Bool). x && is_of_kind k c) (first_true (is_live_policy c) (is_some c.generation.activated) here) ∙ kind in
      let pending : find is_pending left ≡ None = find_none is_pending left (no_pending_left two) in
      let uses : UsesAgree left = record { numbers = numbers_left; one_current = one_current_left; one_pending = one_of_none is_pending left (no_pending_left two) } in
      let has : list_any (is_of_kind k) (option_to_list (Some c) ++ option_to_list None) ≡ true = ap (λ (x : Bool). x || false) kind in
      let current_now : find is_current (map (give_one k addresses s) left) ≡ Some (give addresses s c)
      = given_current k addresses s left (Some c) (current_left (Some c) e) ∙ ap (λ (x : Bool). Some (give_if addresses s x c)) live in
      let pending_now : find is_pending (map (give_one k addresses s) left) ≡ None = given_pending k addresses s left None pending in
      record {
        current_is = current_now;
        pending_is = pending_now;
        quiet = quiet_now left none_left
            (begun_none (map (give_one k addresses s) left) (Some (give addresses s c)) None current_now pending_now has);
        uses_are = given_uses k addresses s left uses;
        runs = λ t run. retire_from o s ended [] s.policies t refl h.numbers
            (gives o s k addresses wanted result c left t ended (retired_none left none_left) (begun_none left (Some c) None (current_left (Some c) e) pending has)
            numbers_left only found live sound run);
      }

  -- it is for the pending one
  only_pending : (c p : Bool) → ((c && false) || (p && true)) ≡ p
  only_pending true true = refl
  only_pending true false = refl
  only_pending false true = refl
  only_pending false false = refl

  and_yes : (p : Bool) → (p && true) ≡ p
  and_yes true = refl
  and_yes false = refl

  stays_pending : (p : PolicyUse) → is_of_kind k p ≡ true → retire_one o s p ≡ p
  stays_pending p kind =
      let never : is_to_retire o s p ≡ false
      = retires_is o s k is_open wanted p ∙ ap (λ (x : Bool). is_pending p && not x) kind ∙ and_no (is_pending p) in
      ap (λ (x : Bool). retire_if (entry s) x p) never

  pub for_pending : (c p : PolicyUse) → current_policy s ≡ Some c → pending_policy s ≡ Some p → CurrentKind false → PendingKind true
      → is_of_kind k c ≡ false → is_of_kind k p ≡ true → p.failed ≡ failed_in p.failed (view_of p.addresses s)
      → UsesNow o s (map (give_one k addresses s) left) (Some c) (Some (give addresses s p))
  for_pending c p e d one two other kind sound =
      let here : is_pending p ≡ true = found_passes is_pending s.policies p d in
      let chosen : AllUses (λ (g : PolicyUse). is_chosen k (retire_one o s g) ≡ is_pending g) s.policies
      = all_to (λ (g : PolicyUse). is_chosen k (retire_one o s g) ≡ ((is_current g && false) || (is_pending g && true)))
      (λ (g : PolicyUse). is_chosen k (retire_one o s g) ≡ is_pending g)
      (λ g x. x ∙ only_pending (is_current g) (is_pending g)) s.policies (chosen_all false true one two) in
      let still : AllUses (λ (g : PolicyUse). is_pending (retire_one o s g) ≡ is_pending g) s.policies
      = all_to (λ (g : PolicyUse). is_pending (retire_one o s g) ≡ (is_pending g && true)) (λ (g : PolicyUse). is_pending (retire_one o s g) ≡ is_pending g)
      (λ g x. x ∙ and_yes (is_pending g)) s.policies (pending_all true two) in
      let same : ◌≡◌ {A = Option PolicyUse} (Some (retire_one o s p)) (Some p) = ap (λ (g : PolicyUse). Some g) (stays_pending p kind) in
      let found : find (is_chosen k) left ≡ Some p
      = found_all (is_chosen k) is_pending (retire_one o s) s.policies chosen ∙ ap (option_map (retire_one o s)) d ∙ same in
      let only : AtMostOne (is_chosen k) left = one_all (is_chosen k) is_pending (retire_one o s) s.policies chosen h.one_pending in
      let live : is_chosen k p ≡ true
      = ap (λ (x : Bool). x && is_of_kind k p) (first_true (is_live_policy p) (is_none p.generation.activated) here) ∙ kind in
      let unchosen : is_chosen k c ≡ false = ap (λ (x : Bool). is_live_policy c && x) other ∙ and_no (is_live_policy c) in
      let pending : find is_pending left ≡ Some p
      = found_all is_pending is_pending (retire_one o s) s.policies still ∙ ap (option_map (retire_one o s)) d ∙ same in
      let uses : UsesAgree left = record {
        numbers = numbers_left;
        one_current = one_current_left;
        one_pending = one_all is_pending is_pending (retire_one o s) s.policies still h.one_pending;
      } in
      let has : list_any (is_of_kind k) (option_to_list (Some c) ++ option_to_list (Some p)) ≡ true
      = ap (λ (x : Bool). x || (is_of_kind k p || false)) other ∙ ap (λ (x : Bool). x || false) kind in
      let current_now : find is_current (map (give_one k addresses s) left) ≡ Some c
      = given_current k addresses s left (Some c) (current_left (Some c) e) ∙ ap (λ (x : Bool). Some (give_if addresses s x c)) unchosen in
      let pending_now : find is_pending (map (give_one k addresses s) left) ≡ Some (give addresses s p)
      = given_pending k addresses s left (Some p) pending ∙ ap (λ (x : Bool). Some (give_if addresses s x p)) live in
      record {
        current_is = current_now;
        pending_is = pending_now;
        quiet = quiet_now left none_left
            (begun_none (map (give_one k addresses s) left) (Some c) (Some (give addresses s p)) current_now pending_now has);
        uses_are = given_uses k addresses s left uses;
        runs = λ t run. retire_from o s ended [] s.policies t refl h.numbers
            (gives o s k addresses wanted result p left t ended (retired_none left none_left) (begun_none left (Some c) (Some p) (current_left (Some c) e) pending has)
            numbers_left only found live sound run);
      }

-- a use after the others
numbers_after : (n : ℕ) (uses : List PolicyUse) (b : PolicyUse) → PoliciesAreNumbered n uses → b.number ≡ n + length uses → PoliciesAreNumbered n (uses ++ b ∷ [])
numbers_after n [] b h e = (let number : b.number ≡ n = omega arith in number, tt)
numbers_after n (g ∷ uses) b h e =
    let further : b.number ≡ n + 1 + length uses = omega arith in
    (h.0, numbers_after (n + 1) uses b h.1 further)

one_after : (test : PolicyUse → Bool) (uses : List PolicyUse) (b : PolicyUse) → list_any test uses ≡ false → AtMostOne test (uses ++ b ∷ [])
one_after test [] b none = (λ e. refl, tt)
one_after test (g ∷ uses) b none =
    let parts : (test g ≡ false) × (list_any test uses ≡ false) = or_parts (test g) (list_any test uses) none in
    (λ e. absurd (let bad : false ≡ true = sym parts.0 ∙ e in let no_one : ⊥ = (cc) in no_one), one_after test uses b parts.1)

one_still : (test : PolicyUse → Bool) (uses : List PolicyUse) (b : PolicyUse) → AtMostOne test uses → test b ≡ false → AtMostOne test (uses ++ b ∷ [])
one_still test [] b only none = (λ e. refl, tt)
one_still test (g ∷ uses) b only none = (λ e. none_afterwards test uses b (only.0 e) none, one_still test uses b only.1 none)

module _ (o : OpenEntry) (s : Seen) (k : Kind) (addresses : List Address) (is_open : s.shut ≡ false) (wanted : wanted_kind o s ≡ Some k)
    (result : result_of o ≡ Some addresses) (ended : NoneIsToEnd s) (h : UsesAgree s.policies) where
  -- it is for a new one
  abbrev pub begun : PolicyUse
  begun = begun_policy k (with_uses (map (retire_one o s) s.policies) s)

  abbrev pub more : List PolicyUse
  more = map (retire_one o s) s.policies ++ begun ∷ []

  of_kind : is_of_kind k begun ≡ true
  of_kind = eq-eqb (kind_number k) (kind_number k) refl

  no_one : (c p : Bool) → ((c && false) || (p && false)) ≡ false
  no_one true true = refl
  no_one true false = refl
  no_one false true = refl
  no_one false false = refl

  unchosen : CurrentKind o s k addresses is_open wanted result ended h false → PendingKind o s k addresses is_open wanted result ended h false
      → list_any (is_chosen k) (map (retire_one o s) s.policies) ≡ false
  unchosen one two =
      none_all (is_chosen k) (retire_one o s) s.policies
      (all_to (λ (g : PolicyUse). is_chosen k (retire_one o s g) ≡ ((is_current g && false) || (is_pending g && false)))
      (λ (g : PolicyUse). is_chosen k (retire_one o s g) ≡ false)
      (λ g d. d ∙ no_one (is_current g) (is_pending g)) s.policies (chosen_all o s k addresses is_open wanted result ended h false false one two))

  numbers_more : PoliciesAreNumbered 1 more
  numbers_more =
      let number : length (map (retire_one o s) s.policies) + 1 ≡ 1 + length (map (retire_one o s) s.policies) = omega arith in
      numbers_after 1 (map (retire_one o s) s.policies) begun (numbers_left o s k addresses is_open wanted result ended h) number

  none_more : list_any (is_to_retire o s) more ≡ false
  none_more =
      none_afterwards (is_to_retire o s) (map (retire_one o s) s.policies) begun (none_left o s k addresses is_open wanted result ended h)
      (retires_is o s k is_open wanted begun ∙ ap (λ (x : Bool). is_pending begun && not x) of_kind ∙ and_no (is_pending begun))

  -- the session begins it, and gives it the addresses
  begun_first : (c p : Option PolicyUse) (t : Seen) → current_policy (with_uses (map (retire_one o s) s.policies) s) ≡ c
      → pending_policy (with_uses (map (retire_one o s) s.policies) s) ≡ p → list_any (is_of_kind k) (option_to_list c ++ option_to_list p) ≡ false
      → RunsTo o (with_uses more s) t → RunsTo o (with_uses (map (retire_one o s) s.policies) s) t
  begun_first c p t one two none run =
      let u : Seen = with_uses (map (retire_one o s) s.policies) s in
      let retired : next_retired o u ≡ None
      = retired_none o s k addresses is_open wanted result ended h (map (retire_one o s) s.policies) (none_left o s k addresses is_open wanted result ended h) in
      let next : of_policies o u ≡ Some (action.PolicyBegins k)
      = ap (λ (x : Option Action). first_action (x ∷ next_retired o u ∷ next_begun o u ∷ next_given o u ∷ next_shut u ∷ next_added u ∷ [])) ended
      ∙ ap (λ (x : Option Action). first_action (None ∷ x ∷ next_begun o u ∷ next_given o u ∷ next_shut u ∷ next_added u ∷ [])) retired
      ∙ ap (λ (x : Option Action). first_action (None ∷ None ∷ x ∷ next_given o u ∷ next_shut u ∷ next_added u ∷ []))
      (begins o s k addresses is_open wanted result ended h (map (retire_one o s) s.policies) c p one two none) in
      one_more o (action.PolicyBegins k) u t next run

  new_runs : (c p d q : Option PolicyUse) (t : Seen) → CurrentKind o s k addresses is_open wanted result ended h false
      → PendingKind o s k addresses is_open wanted result ended h false
      → current_policy (with_uses (map (retire_one o s) s.policies) s) ≡ c
      → pending_policy (with_uses (map (retire_one o s) s.policies) s) ≡ p → list_any (is_of_kind k) (option_to_list c ++ option_to_list p) ≡ false
      → current_policy (with_uses more s) ≡ d → pending_policy (with_uses more s) ≡ q → list_any (is_of_kind k) (option_to_list d ++ option_to_list q) ≡ true
      → RunsTo o (with_uses (map (give_one k addresses s) more) s) t → RunsTo o s t
  new_runs c p d q t one two current pending none current_more pending_more has run =
      let not_yet : list_any (is_chosen k) (map (retire_one o s) s.policies) ≡ false = unchosen one two in
      retire_from o s ended [] s.policies t refl h.numbers
      (begun_first c p t current pending none
      (gives o s k addresses wanted result begun more t ended (retired_none o s k addresses is_open wanted result ended h more none_more)
      (begun_none o s k addresses is_open wanted result ended h more d q current_more pending_more has)
      numbers_more (one_after (is_chosen k) (map (retire_one o s) s.policies) begun not_yet)
      (find_after (is_chosen k) (map (retire_one o s) s.policies) [] begun not_yet of_kind) of_kind refl run))

  pub for_new_current : current_policy s ≡ None → PendingKind o s k addresses is_open wanted result ended h false
      → UsesNow o s (map (give_one k addresses s) more) (Some (give addresses s begun)) None
  for_new_current e two =
      let uses : List PolicyUse = map (retire_one o s) s.policies in
      let current : find is_current uses ≡ None = current_left o s k addresses is_open wanted result ended h None e in
      let no_current : list_any is_current uses ≡ false = none_found is_current uses current in
      let no_pending : list_any is_pending uses ≡ false = no_pending_left o s k addresses is_open wanted result ended h two in
      let pending : find is_pending uses ≡ None = find_none is_pending uses no_pending in
      let here : is_current begun ≡ true = ap (λ (x : Option PolicyUse). is_some (if is_none x then Some (entry s) else None)) current in
      let not_it : is_pending begun ≡ false = ap (λ (x : Option PolicyUse). is_none (if is_none x then Some (entry s) else None)) current in
      let one : CurrentKind o s k addresses is_open wanted result ended h false = none_passes is_current (λ (g : PolicyUse). is_of_kind k g ≡ false) s.policies (none_found is_current s.policies e) in
      let current_more : find is_current more ≡ Some begun = find_after is_current uses [] begun no_current here in
      let no_pending_more : list_any is_pending more ≡ false = none_afterwards is_pending uses begun no_pending not_it in
      let pending_more : find is_pending more ≡ None = find_none is_pending more no_pending_more in
      let uses_are : UsesAgree more = record {
        numbers = numbers_more;
        one_current = one_after is_current uses begun no_current;
        one_pending = one_of_none is_pending more no_pending_more;
      } in
      let has : list_any (is_of_kind k) (begun ∷ []) ≡ true = ap (λ (x : Bool). x || false) of_kind in
      let current_now : find is_current (map (give_one k addresses s) more) ≡ Some (give addresses s begun)
      = given_current k addresses s more (Some begun) current_more ∙ ap (λ (x : Bool). Some (give_if addresses s x begun)) of_kind in
      let pending_now : find is_pending (map (give_one k addresses s) more) ≡ None = given_pending k addresses s more None pending_more in
      record {
        current_is = current_now;
        pending_is = pending_now;
        quiet = quiet_now o s k addresses is_open wanted result ended h more none_more
            (begun_none o s k addresses is_open wanted result ended h (map (give_one k addresses s) more) (Some (give addresses s begun)) None current_now pending_now has);
        uses_are = given_uses k addresses s more uses_are;
        runs = λ t run. new_runs None None (Some begun) None t one two current pending refl current_more pending_more has run;
      }

  pub for_new_pending : (c : PolicyUse) → current_policy s ≡ Some c → CurrentKind o s k addresses is_open wanted result ended h false
      → PendingKind o s k addresses is_open wanted result ended h false → is_of_kind k c ≡ false
      → UsesNow o s (map (give_one k addresses s) more) (Some c) (Some (give addresses s begun))
  for_new_pending c e one two other =
      let uses : List PolicyUse = map (retire_one o s) s.policies in
      let current : find is_current uses ≡ Some c = current_left o s k addresses is_open wanted result ended h (Some c) e in
      let no_pending : list_any is_pending uses ≡ false = no_pending_left o s k addresses is_open wanted result ended h two in
      let pending : find is_pending uses ≡ None = find_none is_pending uses no_pending in
      let not_it : is_current begun ≡ false = ap (λ (x : Option PolicyUse). is_some (if is_none x then Some (entry s) else None)) current in
      let here : is_pending begun ≡ true = ap (λ (x : Option PolicyUse). is_none (if is_none x then Some (entry s) else None)) current in
      let current_more : find is_current more ≡ Some c
      = find-append is_current uses (begun ∷ []) ∙ ap (λ (x : Option PolicyUse). option_or x (find is_current (begun ∷ []))) current in
      let pending_more : find is_pending more ≡ Some begun = find_after is_pending uses [] begun no_pending here in
      let uses_are : UsesAgree more = record {
        numbers = numbers_more;
        one_current = one_still is_current uses begun (one_current_left o s k addresses is_open wanted result ended h) not_it;
        one_pending = one_after is_pending uses begun no_pending;
      } in
      let unchosen_c : is_chosen k c ≡ false = ap (λ (x : Bool). is_live_policy c && x) other ∙ and_no (is_live_policy c) in
      let none : list_any (is_of_kind k) (c ∷ []) ≡ false = ap (λ (x : Bool). x || false) other in
      let has : list_any (is_of_kind k) (c ∷ begun ∷ []) ≡ true
      = ap (λ (x : Bool). x || (is_of_kind k begun || false)) other ∙ ap (λ (x : Bool). x || false) of_kind in
      let current_now : find is_current (map (give_one k addresses s) more) ≡ Some c
      = given_current k addresses s more (Some c) current_more ∙ ap (λ (x : Bool). Some (give_if addresses s x c)) unchosen_c in
      let pending_now : find is_pending (map (give_one k addresses s) more) ≡ Some (give addresses s begun)
      = given_pending k addresses s more (Some begun) pending_more ∙ ap (λ (x : Bool). Some (give_if addresses s x begun)) of_kind in
      record {
        current_is = current_now;
        pending_is = pending_now;
        quiet = quiet_now o s k addresses is_open wanted result ended h more none_more
            (begun_none o s k addresses is_open wanted result ended h (map (give_one k addresses s) more) (Some c) (Some (give addresses s begun)) current_now pending_now has);
        uses_are = given_uses k addresses s more uses_are;
        runs = λ t run. new_runs (Some c) None (Some c) (Some begun) t one two current pending none current_more pending_more has run;
      }
