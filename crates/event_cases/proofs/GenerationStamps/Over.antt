-- A take-over stamps the policy that was current and the one that is, in both.
use Rattle.std.proofs.Common.{◌≡◌, ◌+◌, ◌&&◌, ap, arith, refl, subst, sym, ◌∙◌, Bool, true, false, List, None, Option, Some, ℕ, find, suc, if◌then◌else◌, is_none, is_some, slice_get}
use Rattle.std.specs.Option.{option_map, option_map_or}
use Rattle.std.specs.Prelude.{option_and_then}
use Rattle.attempt_ledger.specs.declared.ledger.Generation.{Generation}
use Rattle.event_cases.proofs.GenerationStamps.Along.{gens}
use Rattle.event_cases.proofs.GenerationStamps.Written.{written}
use Rattle.event_cases.specs.GenerationStamps.Laws.{TakeOversStampAlike}
use Rattle.channel_net.specs.Stamps.{activated_live, retired_live}
use Rattle.channel_net.specs.Steps.{NetSeen, taken_over_stamps}
use Rattle.grpc_base.specs.declared.address.Address.{Address}
use Rattle.grpc_base.specs.declared.kind.Kind.{Kind}
use Rattle.ledger_stamps.specs.Steps.{activated_generation, changed_at, retired_generation, stamped}
use Rattle.lb_policy.specs.Table.{PolicySeen}
use Rattle.net_actions.proofs.Followed.{never_both}
use Rattle.net_actions.proofs.Noting.{found_passes}
use Rattle.net_actions.proofs.TakingOver.{take_overs_are_same}
use Rattle.net_actions.proofs.Uses.{UseAt, use_at}
use Rattle.net_actions.specs.Sees.{PoliciesAreNumbered, IsUse, Sees}
use Rattle.policy_rack.specs.Steps.{live_of, may_take_over}
use Rattle.policy_rack.specs.declared.live.Live.{Live}
use Rattle.session_actions.specs.Entries.{entry}
use Rattle.session_actions.specs.Policies as policies
use Rattle.session_actions.specs.Policies.{activated_in, current_policy, is_current, is_live_policy, is_pending, pending_policy, policy_of, policy_retired, policy_took_over, retired_in, with_policy}
use Rattle.session_actions.specs.Words.{changed, numbered}
use Rattle.session_actions.specs.declared.action.Action.TheVariants as action
use Rattle.session_actions.specs.declared.action.Action.{Action}
use Rattle.session_actions.specs.declared.policy.PolicyUse.{PolicyUse}
use Rattle.session_actions.specs.declared.seen.Seen.{Seen}
use Rattle.session_order.proofs.Changed.{changed_away}

-- the stamps of one that is live, or of one that is not current yet
pub not_retired : (g : PolicyUse) (b : Bool) → (is_live_policy g && b) ≡ true → g.generation.retired ≡ None
not_retired g b e = by g.generation.retired e
  where
    by : (o : Option ℕ) → (is_none o && b) ≡ true → o ≡ None
    by None e = refl
    by (Some k) e = absurd (cc)

not_activated : (g : PolicyUse) → is_pending g ≡ true → g.generation.activated ≡ None
not_activated g e = by (is_live_policy g) g.generation.activated e
  where
    by : (l : Bool) (o : Option ℕ) → (l && is_none o) ≡ true → o ≡ None
    by true None e = refl
    by true (Some k) e = absurd (cc)
    by false o e = absurd (cc)

pub retires : (e : ℕ) (g : Generation) (o : Option ℕ) → g.retired ≡ o → o ≡ None → record g { retired = Some e } ≡ retired_generation e g
retires e g None is none = ap (λ (o : Option ℕ). record g { retired = stamped e o }) (sym is)
retires e g (Some k) is none = absurd (cc)

activates : (e : ℕ) (g : Generation) (o : Option ℕ) → g.activated ≡ o → o ≡ None → record g { activated = Some e } ≡ activated_generation e g
activates e g None is none = ap (λ (o : Option ℕ). record g { activated = stamped e o }) (sym is)
activates e g (Some k) is none = absurd (cc)

pub number_at : (test : PolicyUse → Bool) (uses : List PolicyUse) (g : PolicyUse) → PoliciesAreNumbered 1 uses → find test uses ≡ Some g → numbered uses g.number ≡ Some g
number_at test uses g numbers e =
    let at : UseAt uses g 1 = use_at uses test 1 g numbers e in
    let number : g.number ≡ suc at.place = (let k : g.number ≡ 1 + at.place = at.number_is in omega arith) in
    ap (numbered uses) number ∙ at.own

pub live_is : (s : Seen) (g : PolicyUse) (live : Option Live) (addresses : List Address) (ps : List PolicySeen) → IsUse (Some g) (Some (policy_of g s)) live addresses ps
    → live_of ps live ≡ Some (g.number, g.generation.kind)
live_is s g None addresses ps u = absurd u
live_is s g (Some live) addresses ps u =
    ap (option_map (λ (p : PolicySeen). (live.generation, p.kind))) u.2 ∙ ap (λ (k : ℕ). Some (k, g.generation.kind)) (sym u.0)

pub live_none : (live : Option Live) (addresses : List Address) (ps : List PolicySeen) → IsUse None None live addresses ps → live_of ps live ≡ None
live_none None addresses ps u = refl
live_none (Some live) addresses ps u = absurd u

-- which one it is
if_number : (x : Bool) (k number : ℕ) → (if x then Some (action.PolicyTakesOver k) else None) ≡ Some (action.PolicyTakesOver number) → k ≡ number
if_number true k number e = (cc)
if_number false k number e = absurd (cc)

pub pending_by : (s : Seen) (number : ℕ) (o : Option PolicyUse) → pending_policy s ≡ o
    → option_and_then (λ (g : PolicyUse). if policies.may_take_over s g then Some (action.PolicyTakesOver g.number) else None) o ≡ Some (action.PolicyTakesOver number)
    → (p : PolicyUse) × ((pending_policy s ≡ Some p) × (p.number ≡ number))
pending_by s number None there e = absurd (cc)
pending_by s number (Some p) there e = (p, (there, if_number (policies.may_take_over s p) p.number number e))

pub may_by : (x : Bool) (o : Option Action) (a : Action) → (if x then o else None) ≡ Some a → x ≡ true
may_by true o a e = refl
may_by false o a e = absurd (cc)

module _ (s : Seen) (n : NetSeen) (h : Sees s n) (p : PolicyUse) (pending : pending_policy s ≡ Some p) where
  abbrev e : ℕ
  e = entry s

  abbrev ps : List PolicySeen
  ps = n.asker.rack.policies

  passes : is_pending p ≡ true
  passes = found_passes is_pending s.policies p pending

  pending_live : live_of ps n.asker.rack.pending ≡ Some (p.number, p.generation.kind)
  pending_live =
      live_is s p n.asker.rack.pending n.pending ps
      (subst (λ (x : Option PolicyUse). IsUse x (option_map (λ (g : PolicyUse). policy_of g s) x) n.asker.rack.pending n.pending ps) pending h.pending_is)

  gets : gens (changed (activated_in e) p.number s.policies) ≡ changed_at (activated_generation e) (gens s.policies) p.number
  gets =
      written (activated_generation e) (activated_in e) p.number s.policies p (number_at is_pending s.policies p h.uses_are.numbers pending)
      (activates e p.generation p.generation.activated refl (not_activated p passes))

  other : (c : PolicyUse) → current_policy s ≡ Some c → p.number ≡ c.number → ⊥
  other c current same =
      let one : ◌≡◌ {A = Option PolicyUse} (Some p) (Some c)
      = sym (number_at is_pending s.policies p h.uses_are.numbers pending) ∙ ap (numbered s.policies) same ∙ number_at is_current s.policies c h.uses_are.numbers current in
      let is : p ≡ c = (cc) in
      never_both (is_live_policy p) p.generation.activated passes (ap is_current is ∙ found_passes is_current s.policies c current)

  both : (c : PolicyUse) → current_policy s ≡ Some c
      → gens (changed (activated_in e) p.number (changed (retired_in e) c.number s.policies))
      ≡ changed_at (activated_generation e) (changed_at (retired_generation e) (gens s.policies) c.number) p.number
  both c current =
      written (activated_generation e) (activated_in e) p.number (changed (retired_in e) c.number s.policies) p
      (changed_away (retired_in e) c.number p.number s.policies (other c current) ∙ number_at is_pending s.policies p h.uses_are.numbers pending)
      (activates e p.generation p.generation.activated refl (not_activated p passes))
      ∙ ap (λ (l : List Generation). changed_at (activated_generation e) l p.number)
      (written (retired_generation e) (retired_in e) c.number s.policies c (number_at is_current s.policies c h.uses_are.numbers current)
      (retires e c.generation c.generation.retired refl (not_retired c (is_some c.generation.activated) (found_passes is_current s.policies c current))))

  by_current : (o : Option PolicyUse) → current_policy s ≡ o
      → gens (with_policy (activated_in e) p.number (option_map_or (λ (g : PolicyUse). policy_retired g.number s) o s)).policies
      ≡ activated_live e (Some (p.number, p.generation.kind)) (retired_live e (live_of ps n.asker.rack.current) (gens s.policies))
  by_current None current =
      gets ∙ ap (λ (l : Option (ℕ × Kind)). activated_live e (Some (p.number, p.generation.kind)) (retired_live e l (gens s.policies)))
      (sym (live_none n.asker.rack.current n.current ps
      (subst (λ (x : Option PolicyUse). IsUse x (option_map (λ (g : PolicyUse). policy_of g s) x) n.asker.rack.current n.current ps) current h.current_is)))
  by_current (Some c) current =
      both c current ∙ ap (λ (l : Option (ℕ × Kind)). activated_live e (Some (p.number, p.generation.kind)) (retired_live e l (gens s.policies)))
      (sym (live_is s c n.asker.rack.current n.current ps
      (subst (λ (x : Option PolicyUse). IsUse x (option_map (λ (g : PolicyUse). policy_of g s) x) n.asker.rack.current n.current ps) current h.current_is)))

  pub over_gens : may_take_over n.asker.rack ≡ true → gens (policy_took_over p.number s).policies ≡ taken_over_stamps e n (gens s.policies)
  over_gens may =
      by_current (current_policy s) refl
      ∙ ap (λ (l : Option (ℕ × Kind)). activated_live e l (retired_live e (live_of ps n.asker.rack.current) (gens s.policies))) (sym pending_live)
      ∙ sym (ap (λ (b : Bool). if b then activated_live e (live_of ps n.asker.rack.pending) (retired_live e (live_of ps n.asker.rack.current) (gens s.policies)) else gens s.policies) may)

pub take_overs_stamp_alike : TakeOversStampAlike
take_overs_stamp_alike s n number h next =
    let it = pending_by s number (pending_policy s) refl next in
    let may : may_take_over n.asker.rack ≡ true
    = may_by (may_take_over n.asker.rack) (option_map (λ (l : Live). action.PolicyTakesOver l.generation) n.asker.rack.pending) (action.PolicyTakesOver number)
    (sym (take_overs_are_same s n h) ∙ next) in
    ap (λ (k : ℕ). gens (policy_took_over k s).policies) (sym it.1.1) ∙ over_gens s n h it.0 it.1.0 may
