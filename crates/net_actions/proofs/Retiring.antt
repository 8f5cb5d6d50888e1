-- Policies that are to be retired are, one after another by their place.
use Rattle.std.proofs.Common.{◌≡◌, ◌+◌, ◌∷◌, ◌++◌, ap, arith, refl, subst, sym, ◌∙◌, Bool, true, false, List, [], Option, None, Some, ℕ, suc, length, map, append_assoc}
use Rattle.std.specs.List.{list_any}
use Rattle.std.specs.Option.{option_map}
use Rattle.net_actions.proofs.Quiet.{retire_if, with_uses}
use Rattle.net_actions.proofs.Running.{find_after, none_afterwards, one_more}
use Rattle.net_actions.proofs.Shutting.{get_after, longer_by_one, set_after}
use Rattle.net_actions.specs.Runs.{NoneIsToEnd, RunsTo}
use Rattle.net_actions.specs.Sees.{PoliciesAreNumbered}
use Rattle.session_actions.specs.Actions.{first_action, of_policies}
use Rattle.session_actions.specs.Entries.{entry}
use Rattle.session_actions.specs.Policies.{is_to_retire, next_begun, next_given, next_retired, policy_retired, retired_in}
use Rattle.session_actions.specs.Subchannels.{next_added, next_shut}
use Rattle.session_actions.specs.Words.{changed, changed_if}
use Rattle.session_actions.specs.declared.action.Action.{Action}
use Rattle.session_actions.specs.declared.entry.OpenEntry.{OpenEntry}
use Rattle.session_actions.specs.declared.policy.PolicyUse.{PolicyUse}
use Rattle.session_actions.specs.declared.seen.Seen.{Seen}
use Rattle.session_actions.specs.declared.action.Action.TheVariants as action

-- what becomes of a use of a policy
abbrev pub retire_one : OpenEntry → Seen → PolicyUse → PolicyUse
retire_one o s g = retire_if (entry s) (is_to_retire o s g) g

pub retire_by : (o : OpenEntry) (s : Seen) (g : PolicyUse) (x : Bool) → is_to_retire o s g ≡ x → is_to_retire o s (retire_if (entry s) x g) ≡ false
retire_by o s g true e = refl
retire_by o s g false e = e

changed_after : (f : PolicyUse → PolicyUse) (prefix rest : List PolicyUse) (g : PolicyUse)
    → changed f (suc (length prefix)) (prefix ++ g ∷ rest) ≡ prefix ++ f g ∷ rest
changed_after f prefix rest g =
    ap (changed_if f (suc (length prefix)) (prefix ++ g ∷ rest)) (get_after prefix rest g) ∙ set_after prefix rest g (f g)

module _ (o : OpenEntry) (s : Seen) (ended : NoneIsToEnd s) where
  retire_next : (prefix rest : List PolicyUse) (g : PolicyUse) → list_any (is_to_retire o s) prefix ≡ false → is_to_retire o s g ≡ true
      → of_policies o (with_uses (prefix ++ g ∷ rest) s) ≡ Some (action.PolicyRetired g.number)
  retire_next prefix rest g none here =
      let t : Seen = with_uses (prefix ++ g ∷ rest) s in
      ap (λ (x : Option Action). first_action (x ∷ next_retired o t ∷ next_begun o t ∷ next_given o t ∷ next_shut t ∷ next_added t ∷ [])) ended
      ∙ ap (λ (x : Option PolicyUse). first_action (None ∷ option_map (λ (h : PolicyUse). action.PolicyRetired h.number) x ∷ next_begun o t ∷ next_given o t ∷ next_shut t ∷ next_added t ∷ []))
      (find_after (is_to_retire o s) prefix rest g none here)

  retire_now : (prefix rest : List PolicyUse) (g : PolicyUse) → g.number ≡ length prefix + 1
      → policy_retired g.number (with_uses (prefix ++ g ∷ rest) s) ≡ with_uses (prefix ++ retired_in (entry s) g ∷ rest) s
  retire_now prefix rest g number =
      let place : g.number ≡ suc (length prefix) = omega arith in
      ap (λ (k : ℕ). policy_retired k (with_uses (prefix ++ g ∷ rest) s)) place
      ∙ ap (λ (l : List PolicyUse). with_uses l s) (changed_after (retired_in (entry s)) prefix rest g)

  retire_here : (prefix rest : List PolicyUse) (t : Seen) (g : PolicyUse) (x : Bool) → list_any (is_to_retire o s) prefix ≡ false
      → g.number ≡ length prefix + 1 → is_to_retire o s g ≡ x
      → RunsTo o (with_uses (prefix ++ retire_if (entry s) x g ∷ rest) s) t → RunsTo o (with_uses (prefix ++ g ∷ rest) s) t
  retire_here prefix rest t g false none number here run = run
  retire_here prefix rest t g true none number here run =
      one_more o (action.PolicyRetired g.number) (with_uses (prefix ++ g ∷ rest) s) t (retire_next prefix rest g none here)
      (subst (λ (v : Seen). RunsTo o v t) (sym (retire_now prefix rest g number)) run)

  pub retire_from : (prefix rest : List PolicyUse) (t : Seen) → list_any (is_to_retire o s) prefix ≡ false → PoliciesAreNumbered (length prefix + 1) rest
      → RunsTo o (with_uses (prefix ++ map (retire_one o s) rest) s) t → RunsTo o (with_uses (prefix ++ rest) s) t
  retire_from prefix [] t none numbers run = run
  retire_from prefix (g ∷ rest) t none numbers run =
      let h : PolicyUse = retire_one o s g in
      let passed : list_any (is_to_retire o s) (prefix ++ h ∷ []) ≡ false
      = none_afterwards (is_to_retire o s) prefix h none (retire_by o s g (is_to_retire o s g) refl) in
      let further : PoliciesAreNumbered (length (prefix ++ h ∷ []) + 1) rest = subst (λ (k : ℕ). PoliciesAreNumbered k rest) (longer_by_one prefix h) numbers.1 in
      let ahead : RunsTo o (with_uses ((prefix ++ h ∷ []) ++ map (retire_one o s) rest) s) t
      = subst (λ (l : List PolicyUse). RunsTo o (with_uses l s) t) (sym (append_assoc prefix (h ∷ []) (map (retire_one o s) rest))) run in
      let next : RunsTo o (with_uses ((prefix ++ h ∷ []) ++ rest) s) t = retire_from (prefix ++ h ∷ []) rest t passed further ahead in
      let moved : RunsTo o (with_uses (prefix ++ h ∷ rest) s) t
      = subst (λ (l : List PolicyUse). RunsTo o (with_uses l s) t) (append_assoc prefix (h ∷ []) rest) next in
      retire_here prefix rest t g (is_to_retire o s g) none numbers.0 refl moved
