-- Where nothing is due, nothing happens.
use Rattle.std.proofs.Common.{◌≡◌, ℕ, ◌==◌, Bool, true, false, List, [], ◌∷◌, Option, Some, None, ap, arith, length, refl, sym}
use Rattle.std.specs.Prelude.{if◌then◌else◌, is_some, nat_le}
use Rattle.std.specs.Option.{option_eq}
use Rattle.picker_gate.specs.Pairs.{first_due, next_moment}
use Rattle.channel_core.specs.States.{StateSeen}
use Rattle.channel_core.specs.Steps.{all_configured, all_unconfigured, unconfigured_served, overdue_ended, round_made}
use Rattle.channel_core.specs.Timing.{due_keys, is_same_moment, later, sorted_into}

-- both stand for one moment, or for none
pub same_moment : (one other : Option ℕ) → is_same_moment one other ≡ option_eq (λ m n. m == n) one other
same_moment None None = refl
same_moment None (Some n) = refl
same_moment (Some m) None = refl
same_moment (Some m) (Some n) = refl

-- the first timer is not due
not_due : (t : ℕ × ℕ) (ts rest : List (ℕ × ℕ)) (keys : List ℕ) (due : Bool) → ◌≡◌ {A = Option (ℕ × ℕ)} None (if due then Some t else None) → ((if due then t.1 ∷ keys else []) ≡ []) × ((if due then rest else t ∷ ts) ≡ t ∷ ts)
not_due t ts rest keys true h = absurd (cc h)
not_due t ts rest keys false h = (refl, refl)

none_due : (moment : ℕ) (timers : List (ℕ × ℕ)) → None ≡ first_due timers moment → (due_keys moment timers ≡ []) × (later moment timers ≡ timers)
none_due moment [] h = (refl, refl)
none_due moment (t ∷ ts) h = not_due t ts (later moment ts) (due_keys moment ts) (nat_le t.0 moment) h

pub nothing_made : (s : StateSeen) → None ≡ first_due s.dues s.book.moment → round_made s ≡ record { state = s; moved = false }
nothing_made s h =
    let none = none_due s.book.moment s.dues h in
    rw (none.0, none.1) refl

pub none_overdue : (s : StateSeen) → None ≡ first_due s.deadlines s.book.moment → overdue_ended s ≡ s
unfolding overdue_ended
none_overdue s h =
    let none = none_due s.book.moment s.deadlines h in
    rw (none.0, none.1) refl

no_timer : (timers : List (ℕ × ℕ)) → None ≡ next_moment timers → timers ≡ []
no_timer [] h = refl
no_timer (t ∷ ts) h = absurd (cc h)

none_of : (moment : ℕ) (timers : List (ℕ × ℕ)) → timers ≡ [] → (due_keys moment timers ≡ []) × (later moment timers ≡ timers)
none_of moment [] h = (refl, refl)
none_of moment (t ∷ ts) h = absurd (cc h)

served_if : (held unconfigured : Bool) (s : StateSeen) → s.awaiting_config ≡ [] → s.fail_fast ≡ [] →
    (if held then all_configured (due_keys 0 s.awaiting_config) (record s { awaiting_config = later 0 s.awaiting_config; fail_fast = [] })
    else if unconfigured then all_unconfigured (due_keys 0 s.fail_fast) (record s { fail_fast = later 0 s.fail_fast })
    else s) ≡ s
served_if true unconfigured s awaiting_config fail_fast =
    let none = none_of 0 s.awaiting_config awaiting_config in
    rw (none.0, none.1) (ap (λ timers. record s { fail_fast = timers }) (sym fail_fast))
served_if false true s awaiting_config fail_fast =
    let none = none_of 0 s.fail_fast fail_fast in
    rw (none.0, none.1) refl
served_if false false s awaiting_config fail_fast = refl

pub none_unconfigured : (s : StateSeen) → None ≡ next_moment s.awaiting_config → None ≡ next_moment s.fail_fast → unconfigured_served s ≡ s
unfolding unconfigured_served
none_unconfigured s awaiting_config fail_fast = served_if (is_some s.held) s.unconfigured s (no_timer s.awaiting_config awaiting_config) (no_timer s.fail_fast fail_fast)

-- one call alone is sorted
pub alone_sorted : (calls : List ℕ) → length calls ≡ 1 → calls ≡ due_keys 0 (sorted_into [] calls)
alone_sorted [] h = absurd (omega arith)
alone_sorted (call ∷ []) h = refl
alone_sorted (call ∷ other ∷ calls) h = absurd (omega arith)
