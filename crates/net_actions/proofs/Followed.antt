-- The uses of policies after a pending one took over: the one that was current is retired, and the pending one is current.
use Rattle.std.proofs.Common.{◌≡◌, ◌+◌, ◌&&◌, ◌==◌, ap, arith, refl, subst, sym, ◌∙◌, Bool, true, false, List, Option, None, Some, ℕ, suc, if◌then◌else◌, is_none, is_some, map}
use Rattle.std.specs.Option.{option_map, option_map_or}
use Rattle.std.specs.Prelude.{find}
use Rattle.net_actions.proofs.Noting.{found_map, found_passes, numbers_stay, one_as}
use Rattle.net_actions.proofs.Quiet.{and_no, at_number, changed_number, none_after, one_of_none, retire_if, retired_number, with_uses}
use Rattle.net_actions.proofs.Uses.{AllUses, UseAt, all_to, changed_found, get_map, is_of, map_map, map_same, map_uses, reports_that, use_at}
use Rattle.net_actions.specs.Sees.{PoliciesAreNumbered, UsesAgree}
use Rattle.session_actions.specs.Entries.{entry}
use Rattle.session_actions.specs.Policies.{activated_in, current_policy, is_current, is_live_policy, is_pending, pending_policy, policy_retired, policy_took_over, retired_in, with_policy}
use Rattle.session_actions.specs.Words.{changed}
use Rattle.session_actions.specs.declared.policy.PolicyUse.{PolicyUse}
use Rattle.session_actions.specs.declared.seen.Seen.{Seen}

-- the current one is retired, and the pending one activated
abbrev pub over_if : ℕ → Bool → Bool → PolicyUse → PolicyUse
over_if e x y g = if x then activated_in e (retire_if e y g) else retire_if e y g

abbrev pub over : ℕ → PolicyUse → PolicyUse
over e g = over_if e (is_pending g) (is_current g) g

over_number_by : (e : ℕ) (x y : Bool) (g : PolicyUse) → (over_if e x y g).number ≡ g.number
over_number_by e true y g = retired_number e y g
over_number_by e false y g = retired_number e y g

retired_by : (s : Seen) (o : Option PolicyUse) → PoliciesAreNumbered 1 s.policies → current_policy s ≡ o
    → option_map_or (λ (g : PolicyUse). policy_retired g.number s) o s
    ≡ with_uses (map (λ (g : PolicyUse). retire_if (entry s) (is_of o g) g) s.policies) s
retired_by s None h e = ap (λ (l : List PolicyUse). with_uses l s) (sym (map_same s.policies))
retired_by s (Some c) h e = ap (λ (l : List PolicyUse). with_uses l s) (changed_found (retired_in (entry s)) s.policies is_current c h e)

retired_now : (s : Seen) → UsesAgree s.policies
    → option_map_or (λ (g : PolicyUse). policy_retired g.number s) (current_policy s) s
    ≡ with_uses (map (λ (g : PolicyUse). retire_if (entry s) (is_current g) g) s.policies) s
retired_now s h =
    let o : Option PolicyUse = current_policy s in
    retired_by s o h.numbers refl
    ∙ ap (λ (l : List PolicyUse). with_uses l s)
    (map_uses (λ (g : PolicyUse). retire_if (entry s) (is_of o g) g) (λ (g : PolicyUse). retire_if (entry s) (is_current g) g) s.policies
    (all_to (λ (g : PolicyUse). is_of o g ≡ is_current g) (λ (g : PolicyUse). retire_if (entry s) (is_of o g) g ≡ retire_if (entry s) (is_current g) g)
    (λ g e. ap (λ (x : Bool). retire_if (entry s) x g) e) s.policies (reports_that is_current s.policies o h.numbers h.one_current refl)))

-- and the pending one is current
pub taken_over_now : (s : Seen) (p : PolicyUse) → UsesAgree s.policies → pending_policy s ≡ Some p
    → policy_took_over p.number s ≡ with_uses (map (over (entry s)) s.policies) s
taken_over_now s p h e =
    let f : PolicyUse → PolicyUse = λ (g : PolicyUse). retire_if (entry s) (is_current g) g in
    let uses : List PolicyUse = map f s.policies in
    let act : PolicyUse → PolicyUse = activated_in (entry s) in
    let at : UseAt s.policies p 1 = use_at s.policies is_pending 1 p h.numbers e in
    let number : suc at.place ≡ p.number = (let k : p.number ≡ 1 + at.place = at.number_is in omega arith) in
    let numbers : PoliciesAreNumbered 1 uses = numbers_stay f (λ g. retired_number (entry s) (is_current g) g) 1 s.policies h.numbers in
    let there : changed act p.number uses ≡ map (at_number p.number act) uses
    = subst (λ (k : ℕ). changed act k uses ≡ map (at_number k act) uses) number (changed_number at.place act uses (f p) numbers (get_map f s.policies at.place p at.own)) in
    let each : AllUses (λ (g : PolicyUse). at_number p.number act (f g) ≡ over (entry s) g) s.policies
    = all_to (λ (g : PolicyUse). is_of (Some p) g ≡ is_pending g) (λ (g : PolicyUse). at_number p.number act (f g) ≡ over (entry s) g)
    (λ g d. ap (λ (k : ℕ). if k == p.number then act (f g) else f g) (retired_number (entry s) (is_current g) g) ∙ ap (λ (x : Bool). over_if (entry s) x (is_current g) g) d)
    s.policies (reports_that is_pending s.policies (Some p) h.numbers h.one_pending e) in
    ap (λ (t : Seen). with_policy act p.number t) (retired_now s h)
    ∙ ap (λ (l : List PolicyUse). with_uses l s)
    (there ∙ map_map (at_number p.number act) f s.policies ∙ map_uses (λ (g : PolicyUse). at_number p.number act (f g)) (over (entry s)) s.policies each)

-- who is current and pending then
pub never_both : (l : Bool) (a : Option ℕ) → (l && is_none a) ≡ true → (l && is_some a) ≡ true → ⊥
never_both true None e f = absurd (cc)
never_both true (Some n) e f = absurd (cc)
never_both false a e f = absurd (cc)

live_if : (l a : Bool) → (l && a) ≡ true → (l && true) ≡ true
live_if true a e = refl
live_if false a e = absurd (cc)

over_by : (e : ℕ) (g : PolicyUse) (x y : Bool) → is_pending g ≡ x → is_current g ≡ y
    → (is_current (over_if e x y g) ≡ x) × (is_pending (over_if e x y g) ≡ false)
over_by e g true true p c = absurd (never_both (is_live_policy g) g.generation.activated p c)
over_by e g true false p c = (live_if (is_live_policy g) (is_none g.generation.activated) p, and_no (is_live_policy g))
over_by e g false true p c = (refl, refl)
over_by e g false false p c = (c, p)

pub over_current : (e : ℕ) (g : PolicyUse) → is_current (over e g) ≡ is_pending g
over_current e g = (over_by e g (is_pending g) (is_current g) refl refl).0

pub over_pending : (e : ℕ) (g : PolicyUse) → is_pending (over e g) ≡ false
over_pending e g = (over_by e g (is_pending g) (is_current g) refl refl).1

pub over_uses : (e : ℕ) (uses : List PolicyUse) → UsesAgree uses → UsesAgree (map (over e) uses)
over_uses e uses h = record {
  numbers = numbers_stay (over e) (λ g. over_number_by e (is_pending g) (is_current g) g) 1 uses h.numbers;
  one_current = one_as is_current is_pending (over e) (over_current e) uses h.one_pending;
  one_pending = one_of_none is_pending (map (over e) uses) (none_after is_pending (over e) (over_pending e) uses);
}

not_current : (e : ℕ) (g : PolicyUse) (y : Bool) → is_pending g ≡ true → is_current g ≡ y → over_if e true y g ≡ activated_in e g
not_current e g true p c = absurd (never_both (is_live_policy g) g.generation.activated p c)
not_current e g false p c = refl

pub over_is : (e : ℕ) (uses : List PolicyUse) (p : PolicyUse) → find is_pending uses ≡ Some p → find is_current (map (over e) uses) ≡ Some (activated_in e p)
over_is e uses p there =
    let pending : is_pending p ≡ true = found_passes is_pending uses p there in
    found_map is_current is_pending (over e) (over_current e) uses ∙ ap (option_map (over e)) there
    ∙ ap (λ (x : Bool). Some (over_if e x (is_current p) p)) pending ∙ ap (λ (g : PolicyUse). Some g) (not_current e p (is_current p) pending refl)
