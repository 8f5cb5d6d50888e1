-- A result of the resolver: a pending policy of another kind is retired; who is current, pending and of the result's kind then.
use Rattle.std.proofs.Common.{◌≡◌, ◌||◌, ◌&&◌, not, ap, refl, sym, ◌∙◌, Bool, true, false, Option, None, Some, ℕ, is_none, is_some}
use Rattle.grpc_base.specs.declared.kind.Kind.{Kind}
use Rattle.net_actions.proofs.Followed.{never_both}
use Rattle.net_actions.proofs.Giving.{is_chosen}
use Rattle.net_actions.proofs.Quiet.{and_no, retire_if}
use Rattle.net_actions.proofs.Retiring.{retire_one}
use Rattle.session_actions.specs.Entries.{entry}
use Rattle.session_actions.specs.Policies.{is_current, is_live_policy, is_other_kind, is_pending, is_same_kind, is_to_retire, wanted_kind}
use Rattle.session_actions.specs.Words.{holds}
use Rattle.session_actions.specs.declared.entry.OpenEntry.{OpenEntry}
use Rattle.session_actions.specs.declared.policy.PolicyUse.{PolicyUse}
use Rattle.session_actions.specs.declared.seen.Seen.{Seen}

abbrev pub is_of_kind : Kind → PolicyUse → Bool
is_of_kind k g = is_same_kind g.generation.kind k

live_and : (l a z : Bool) → (l && (false || ((l && a) && z))) ≡ ((l && a) && z)
live_and true a z = refl
live_and false a z = refl

or_end : (x : Bool) → x ≡ (x || false)
or_end true = refl
or_end false = refl

pub first_true : (x y : Bool) → (x && y) ≡ true → x ≡ true
first_true true y e = refl
first_true false y e = absurd (cc)

second_true : (x y : Bool) → (x && y) ≡ true → y ≡ true
second_true true y e = e
second_true false y e = absurd (cc)

not_true : (x : Bool) → not x ≡ true → x ≡ false
not_true true e = absurd (cc)
not_true false e = refl

pub if_false : (x : Bool) → (x ≡ true → ⊥) → x ≡ false
if_false true never = absurd (never refl)
if_false false never = refl

pub pending_not_current : (g : PolicyUse) → is_pending g ≡ true → is_current g ≡ false
pending_not_current g p = if_false (is_current g) (λ c. never_both (is_live_policy g) g.generation.activated p c)

pub current_not_pending : (g : PolicyUse) → is_current g ≡ true → is_pending g ≡ false
current_not_pending g c = if_false (is_pending g) (λ p. never_both (is_live_policy g) g.generation.activated p c)

module _ (o : OpenEntry) (s : Seen) (k : Kind) (is_open : s.shut ≡ false) (wanted : wanted_kind o s ≡ Some k) where
  pub retires_is : (g : PolicyUse) → is_to_retire o s g ≡ (is_pending g && is_other_kind k g)
  retires_is g =
      ap (λ (x : Bool). is_live_policy g && (x || (is_pending g && holds (λ (j : Kind). is_other_kind j g) (wanted_kind o s)))) is_open
      ∙ ap (λ (r : Option Kind). is_live_policy g && (false || (is_pending g && holds (λ (j : Kind). is_other_kind j g) r))) wanted
      ∙ live_and (is_live_policy g) (is_none g.generation.activated) (is_other_kind k g)

  -- a current one stays so, and a pending one does if it is of the kind
  current_by : (g : PolicyUse) (x : Bool) → is_to_retire o s g ≡ x → is_current (retire_if (entry s) x g) ≡ is_current g
  current_by g true e =
      sym (pending_not_current g (first_true (is_pending g) (is_other_kind k g) (sym (retires_is g) ∙ e)))
  current_by g false e = refl

  pub current_still : (g : PolicyUse) → is_current (retire_one o s g) ≡ is_current g
  current_still g = current_by g (is_to_retire o s g) refl

  left_true : (p z : Bool) → (p && not z) ≡ true → false ≡ (p && z)
  left_true true true e = absurd (cc)
  left_true true false e = refl
  left_true false z e = absurd (cc)

  left_false : (p z : Bool) → (p && not z) ≡ false → p ≡ (p && z)
  left_false true true e = refl
  left_false true false e = absurd (cc)
  left_false false z e = refl

  pending_by : (g : PolicyUse) (x : Bool) → is_to_retire o s g ≡ x → is_pending (retire_if (entry s) x g) ≡ (is_pending g && is_of_kind k g)
  pending_by g true e = left_true (is_pending g) (is_of_kind k g) (sym (retires_is g) ∙ e)
  pending_by g false e = left_false (is_pending g) (is_of_kind k g) (sym (retires_is g) ∙ e)

  pub pending_left : (g : PolicyUse) → is_pending (retire_one o s g) ≡ (is_pending g && is_of_kind k g)
  pending_left g = pending_by g (is_to_retire o s g) refl

  chosen_by : (g : PolicyUse) (x : Bool) → is_to_retire o s g ≡ x → is_chosen k (retire_if (entry s) x g) ≡ is_chosen k g
  chosen_by g true e =
      let other : is_of_kind k g ≡ false
      = not_true (is_of_kind k g) (second_true (is_pending g) (is_other_kind k g) (sym (retires_is g) ∙ e)) in
      sym (ap (λ (x : Bool). is_live_policy g && x) other ∙ and_no (is_live_policy g))
  chosen_by g false e = refl

  chosen_still : (g : PolicyUse) → is_chosen k (retire_one o s g) ≡ is_chosen k g
  chosen_still g = chosen_by g (is_to_retire o s g) refl

  -- which one is of the kind: the current one, the pending one, or none
  live_split : (l z x y : Bool) (a : Option ℕ) → ((l && is_some a) ≡ true → z ≡ x) → ((l && is_none a) ≡ true → z ≡ y)
      → (l && z) ≡ (((l && is_some a) && x) || ((l && is_none a) && y))
  live_split true z x y (Some n) c p = c refl ∙ or_end x
  live_split true z x y None c p = p refl
  live_split false z x y (Some n) c p = refl
  live_split false z x y None c p = refl

  pub chosen_is : (x y : Bool) (g : PolicyUse) → (is_current g ≡ true → is_of_kind k g ≡ x) → (is_pending g ≡ true → is_of_kind k g ≡ y)
      → is_chosen k (retire_one o s g) ≡ ((is_current g && x) || (is_pending g && y))
  chosen_is x y g c p = chosen_still g ∙ live_split (is_live_policy g) (is_of_kind k g) x y g.generation.activated c p
