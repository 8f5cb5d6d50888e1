-- A shutdown retires the current policy and the pending one, and no other is live: so the ledger of the channel has the stamps of the session.
use Rattle.attempt_ledger.specs.declared.ledger.Generation.{Generation}
use Rattle.channel_actions.proofs.Stamps.{counted_at, numbered_map}
use Rattle.channel_actions.specs.KeptSessions.Kept.{NumbersCountUp}
use Rattle.call_cases.proofs.ConfiguredCalls.Lists.{same_numbered, same_words}
use Rattle.event_cases.proofs.GenerationStamps.Along.{gens}
use Rattle.event_cases.proofs.GenerationStamps.Over.{live_is, live_none}
use Rattle.event_cases.specs.GenerationStamps.Stamps.{dropped_in, generations_after}
use Rattle.channel_core.proofs.BookLaws.{number_changed, number_other}
use Rattle.channel_core.specs.Tables as tables
use Rattle.channel_net.specs.Stamps.{retired_live}
use Rattle.channel_net.specs.Steps.{NetSeen, shut_stamps}
use Rattle.policy_rack.specs.Steps.{live_of}
use Rattle.grpc_base.specs.declared.kind.Kind.{Kind}
use Rattle.grpc_base.specs.declared.address.Address.{Address}
use Rattle.ledger_stamps.specs.Steps.{changed_at, retired_generation, stamped}
use Rattle.net_actions.proofs.Uses.{AllUses, is_of, reports_that}
use Rattle.net_actions.specs.Sees.{PoliciesAreNumbered, UsesAgree, IsUse, Sees}
use Rattle.session_actions.specs.Policies.{current_policy, is_current, is_pending, pending_policy, policy_of}
use Rattle.session_actions.specs.Words.{holds, numbered}
use Rattle.session_actions.specs.declared.policy.PolicyUse.{PolicyUse}
use Rattle.session_actions.specs.declared.seen.Seen.{Seen}
use Rattle.std.proofs.Common.{Bool, List, None, Option, Some, [], ap, eqb-true, false, if◌then◌else◌, is_none, is_some, map, option_map, refl, slice_get, subst, suc, sym, true, zero, ℕ, ◌&&◌, ◌==◌, ◌||◌, ◌∙◌, ◌∷◌, ◌≡◌}
use Rattle.std.proofs.lemmas.Bool.{eqb-false}

-- one of these numbers is retired
abbrev retired_if : Bool → ℕ → Generation → Generation
retired_if b e g = if b then retired_generation e g else g

abbrev retired_of : ℕ → Option PolicyUse → List Generation → List Generation
retired_of e None gs = gs
retired_of e (Some c) gs = changed_at (retired_generation e) gs c.number

abbrev is_at : Option PolicyUse → ℕ → Bool
is_at o k = holds (λ (c : PolicyUse). k == c.number) o

not_retired : (e : ℕ) (o : Option Generation) → o ≡ option_map (retired_if false e) o
not_retired e None = refl
not_retired e (Some g) = refl

at_one : (e k n : ℕ) (gs : List Generation) (b : Bool) → (k == n) ≡ b
    → tables.numbered (changed_at (retired_generation e) gs n) k ≡ option_map (retired_if (k == n) e) (tables.numbered gs k)
at_one e k n gs true is =
    subst (λ (j : ℕ). tables.numbered (changed_at (retired_generation e) gs n) j ≡ option_map (retired_generation e) (tables.numbered gs j)) (sym (eqb-true k n is))
    (number_changed (retired_generation e) gs n)
    ∙ ap (λ (b : Bool). option_map (retired_if b e) (tables.numbered gs k)) (sym is)
at_one e k n gs false is =
    number_other (retired_generation e) gs n k (eqb-false k n is) ∙ not_retired e (tables.numbered gs k)
    ∙ ap (λ (b : Bool). option_map (retired_if b e) (tables.numbered gs k)) (sym is)

at_by : (e k : ℕ) (o : Option PolicyUse) (gs : List Generation) → tables.numbered (retired_of e o gs) k ≡ option_map (retired_if (is_at o k) e) (tables.numbered gs k)
at_by e k None gs = not_retired e (tables.numbered gs k)
at_by e k (Some c) gs = at_one e k c.number gs (k == c.number) refl

-- one that is live is current or pending
stamp_by : (e : ℕ) (g : Generation) (retired activated : Option ℕ) → g.retired ≡ retired
    → (if is_none retired then record g { retired = Some e } else g)
    ≡ retired_if (is_none retired && is_none activated) e (retired_if (is_none retired && is_some activated) e g)
stamp_by e g None None is = ap (λ (o : Option ℕ). record g { retired = stamped e o }) (sym is)
stamp_by e g None (Some n) is = ap (λ (o : Option ℕ). record g { retired = stamped e o }) (sym is)
stamp_by e g (Some n) None is = refl
stamp_by e g (Some n) (Some m) is = refl

and_true : (a b : Bool) → (a && (true || b)) ≡ a
and_true true b = refl
and_true false b = refl

-- what holds of all holds of each
use_at : (P : PolicyUse → Type 0) (uses : List PolicyUse) (i : ℕ) (g : PolicyUse) → slice_get uses i ≡ Some g → AllUses P uses → P g
use_at P [] i g e all = absurd (cc)
use_at P (q ∷ uses) zero g e all = let one : q ≡ g = (cc) in subst P one all.0
use_at P (q ∷ uses) (suc i) g e all = use_at P uses i g e all.1

numbered_use : (P : PolicyUse → Type 0) (uses : List PolicyUse) (k : ℕ) (g : PolicyUse) → numbered uses k ≡ Some g → AllUses P uses → P g
numbered_use P uses zero g e all = absurd (cc)
numbered_use P uses (suc i) g e all = use_at P uses i g e all

module _ (s : Seen) (n : NetSeen) (h : Sees s n) (counted : NumbersCountUp 1 (map (λ (g : PolicyUse). g.number) s.policies)) (e : ℕ) where
  abbrev gs : List Generation
  gs = gens s.policies

  abbrev c : Option PolicyUse
  c = current_policy s

  abbrev p : Option PolicyUse
  p = pending_policy s

  abbrev drop : Generation → Generation
  drop = dropped_in true None e

  -- the generations that the channel retires are of these numbers
  current_by : (o : Option PolicyUse) → c ≡ o → retired_live e (live_of n.asker.rack.policies n.asker.rack.current) gs ≡ retired_of e o gs
  current_by None is =
      ap (λ (l : Option (ℕ × Kind)). retired_live e l gs)
      (live_none n.asker.rack.current n.current n.asker.rack.policies
      (subst (λ (x : Option PolicyUse). IsUse x (option_map (λ (g : PolicyUse). policy_of g s) x) n.asker.rack.current n.current n.asker.rack.policies) is h.current_is))
  current_by (Some g) is =
      ap (λ (l : Option (ℕ × Kind)). retired_live e l gs)
      (live_is s g n.asker.rack.current n.current n.asker.rack.policies
      (subst (λ (x : Option PolicyUse). IsUse x (option_map (λ (g : PolicyUse). policy_of g s) x) n.asker.rack.current n.current n.asker.rack.policies) is h.current_is))

  pending_by : (o : Option PolicyUse) (ls : List Generation) → p ≡ o
      → retired_live e (live_of n.asker.rack.policies n.asker.rack.pending) ls ≡ retired_of e o ls
  pending_by None ls is =
      ap (λ (l : Option (ℕ × Kind)). retired_live e l ls)
      (live_none n.asker.rack.pending n.pending n.asker.rack.policies
      (subst (λ (x : Option PolicyUse). IsUse x (option_map (λ (g : PolicyUse). policy_of g s) x) n.asker.rack.pending n.pending n.asker.rack.policies) is h.pending_is))
  pending_by (Some g) ls is =
      ap (λ (l : Option (ℕ × Kind)). retired_live e l ls)
      (live_is s g n.asker.rack.pending n.pending n.asker.rack.policies
      (subst (λ (x : Option PolicyUse). IsUse x (option_map (λ (g : PolicyUse). policy_of g s) x) n.asker.rack.pending n.pending n.asker.rack.policies) is h.pending_is))

  channel_is : shut_stamps e n.asker.rack gs ≡ retired_of e p (retired_of e c gs)
  channel_is = ap (retired_live e (live_of n.asker.rack.policies n.asker.rack.pending)) (current_by c refl) ∙ pending_by p (retired_of e c gs) refl

  -- of one policy
  module _ (k : ℕ) (g : PolicyUse) (here : numbered s.policies k ≡ Some g) where
    number_is : g.number ≡ k
    number_is = counted_at (λ (q : PolicyUse). q.number) s.policies k g counted here

    is_current_at : is_at c k ≡ is_current g
    is_current_at =
        ap (is_at c) (sym number_is)
        ∙ numbered_use (λ (q : PolicyUse). is_of c q ≡ is_current q) s.policies k g here (reports_that is_current s.policies c h.uses_are.numbers h.uses_are.one_current refl)

    is_pending_at : is_at p k ≡ is_pending g
    is_pending_at =
        ap (is_at p) (sym number_is)
        ∙ numbered_use (λ (q : PolicyUse). is_of p q ≡ is_pending q) s.policies k g here (reports_that is_pending s.policies p h.uses_are.numbers h.uses_are.one_pending refl)

    one : drop g.generation ≡ retired_if (is_at p k) e (retired_if (is_at c k) e g.generation)
    one =
        ap (λ (b : Bool). if b then record g.generation { retired = Some e } else g.generation) (and_true (is_none g.generation.retired) false)
        ∙ stamp_by e g.generation g.generation.retired g.generation.activated refl
        ∙ ap (λ (b : Bool). retired_if b e (retired_if (is_current g) e g.generation)) (sym is_pending_at)
        ∙ ap (λ (b : Bool). retired_if (is_at p k) e (retired_if b e g.generation)) (sym is_current_at)

  each_by : (k : ℕ) (o : Option PolicyUse) → numbered s.policies k ≡ o
      → option_map drop (option_map (λ (g : PolicyUse). g.generation) o)
      ≡ option_map (retired_if (is_at p k) e) (option_map (retired_if (is_at c k) e) (option_map (λ (g : PolicyUse). g.generation) o))
  each_by k None is = refl
  each_by k (Some g) is = ap (λ (x : Generation). Some x) (one k g is)

  gens_at : (k : ℕ) → numbered gs k ≡ option_map (λ (g : PolicyUse). g.generation) (numbered s.policies k)
  gens_at k = numbered_map (λ (g : PolicyUse). g.generation) s.policies k

  each : (k : ℕ) → numbered (map drop gs) k ≡ numbered (shut_stamps e n.asker.rack gs) k
  each k =
      numbered_map drop gs k ∙ ap (option_map drop) (gens_at k) ∙ each_by k (numbered s.policies k) refl
      ∙ ap (λ (o : Option Generation). option_map (retired_if (is_at p k) e) (option_map (retired_if (is_at c k) e) o)) (sym (gens_at k) ∙ sym (same_words gs k))
      ∙ ap (option_map (retired_if (is_at p k) e)) (sym (at_by e k c gs))
      ∙ sym (at_by e k p (retired_of e c gs))
      ∙ same_words (retired_of e p (retired_of e c gs)) k
      ∙ ap (λ (l : List Generation). numbered l k) (sym channel_is)

  pub all_retired : generations_after true None e gs ≡ shut_stamps e n.asker.rack gs
  all_retired = same_numbered (map drop gs) (shut_stamps e n.asker.rack gs) each
