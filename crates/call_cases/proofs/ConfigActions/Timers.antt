-- A timer that moves twice, and is gone then, is as one that goes at once.
use Rattle.std.proofs.Common.{◌≡◌, ◌&&◌, ◌==◌, ◌∷◌, ap, arith, refl, sym, ◌∙◌, Bool, true, false, cond, List, [], Option, None, Some, ℕ, if◌then◌else◌, not}
use Rattle.std.proofs.lemmas.Bool.{or_parts}
use Rattle.std.proofs.lemmas.Bool.Decides.{nat_tests}
use Rattle.std.specs.BTreeSet.{insert_key}
use Rattle.std.specs.Ordering.{is_eq, match_ordering}
use Rattle.std.specs.Set.{remove_key}
use Rattle.std.specs.declared.cmp.Ordering.{Ordering}
use Rattle.std.specs.declared.cmp.Ordering.TheVariants.{Equal, Greater, Less}
use Rattle.channel_actions.proofs.Links.Settings.Keys.{head_out}
use Rattle.channel_actions.proofs.Links.Settings.Pairs.{has_remove}
use Rattle.channel_actions.specs.Sets.{PairsAreRising}
use Rattle.channel_core.specs.Timing.{is_same_moment, timer_moved, timer_off, timer_on}
use Rattle.picker_gate.specs.Pairs.{has, is_same, pair_cmp}
use Rattle.session_actions.specs.Words.{is_number}

-- a pair that is not there is not taken out
kept_by : (p q : ℕ × ℕ) (rest : List (ℕ × ℕ)) (b : Bool) → is_same p q ≡ b → b ≡ false → remove_key (is_same p) rest ≡ rest → cond b rest (q ∷ remove_key (is_same p) rest) ≡ q ∷ rest
kept_by p q rest true e f more = absurd (cc)
kept_by p q rest false e f more = ap (λ (l : List (ℕ × ℕ)). q ∷ l) more

pub remove_none : (p : ℕ × ℕ) (pairs : List (ℕ × ℕ)) → has pairs p ≡ false → remove_key (is_same p) pairs ≡ pairs
remove_none p [] e = refl
remove_none p (q ∷ rest) e =
    let parts = or_parts (is_same p q) (has rest p) e in kept_by p q rest (is_same p q) refl parts.0 (remove_none p rest parts.1)

-- and one that was put in is
equal_same : (p q : ℕ × ℕ) → pair_cmp p q ≡ Equal → is_same p q ≡ true
equal_same p q e = ap is_eq e

insert_by : (p r : ℕ × ℕ) (rest : List (ℕ × ℕ)) (o : Ordering) → pair_cmp p r ≡ o → is_same p r ≡ false → remove_key (is_same p) (insert_key pair_cmp rest p) ≡ rest
    → remove_key (is_same p) (match_ordering o (p ∷ r ∷ rest) (r ∷ rest) (r ∷ insert_key pair_cmp rest p)) ≡ r ∷ rest
insert_by p r rest Less e off more = head_out p (r ∷ rest)
insert_by p r rest Equal e off more = absurd (let bad : true ≡ false = sym (equal_same p r e) ∙ off in (cc))
insert_by p r rest Greater e off more =
    ap (λ (b : Bool). cond b (insert_key pair_cmp rest p) (r ∷ remove_key (is_same p) (insert_key pair_cmp rest p))) off ∙ ap (λ (l : List (ℕ × ℕ)). r ∷ l) more

pub remove_insert : (pairs : List (ℕ × ℕ)) (p : ℕ × ℕ) → has pairs p ≡ false → remove_key (is_same p) (insert_key pair_cmp pairs p) ≡ pairs
remove_insert [] p e = head_out p []
remove_insert (r ∷ rest) p e =
    let parts = or_parts (is_same p r) (has rest p) e in insert_by p r rest (pair_cmp p r) refl parts.0 (remove_insert rest p parts.1)

equal_numbers : (n m : ℕ) → (n == m) ≡ true → n ≡ m
equal_numbers n m e = grind (arith, nat_tests)

same_moment : (a b : Option ℕ) → is_same_moment a b ≡ true → a ≡ b
same_moment None None e = refl
same_moment None (Some n) e = absurd (cc)
same_moment (Some m) None e = absurd (cc)
same_moment (Some m) (Some n) e = ap (λ (k : ℕ). Some k) (equal_numbers m n e)

and_some : (a b : Bool) → a ≡ false → (a && b) ≡ false
and_some true b e = absurd (cc)
and_some false b e = refl

module _ (n : ℕ) (d : List (ℕ × ℕ)) (rising : PairsAreRising d) where
  -- the pair of another moment is not there, once the first is gone
  off_has : (a : Option ℕ) (m : ℕ) → has d (m, n) ≡ false → has (timer_off n a d) (m, n) ≡ false
  off_has None m e = e
  off_has (Some k) m e = has_remove d (k, n) (m, n) rising ∙ and_some (has d (m, n)) (not (is_same (k, n) (m, n))) e

  gone_once : (a : Option ℕ) → timer_moved n a None d ≡ timer_off n a d
  gone_once None = refl
  gone_once (Some k) = refl

  then_gone : (a b : Option ℕ) → is_same_moment a b ≡ false → ((m : ℕ) → b ≡ Some m → has d (m, n) ≡ false) → timer_moved n b None (timer_on n b (timer_off n a d)) ≡ timer_off n a d
  then_gone a None off none = refl
  then_gone a (Some m) off none = remove_insert (timer_off n a d) (m, n) (off_has a m (none m refl))

  join_by : (a b : Option ℕ) (q : Bool) → is_same_moment a b ≡ q → ((m : ℕ) → b ≡ Some m → q ≡ false → has d (m, n) ≡ false)
      → timer_moved n b None (if q then d else timer_on n b (timer_off n a d)) ≡ timer_moved n a None d
  join_by a b true e none = ap (λ (t : Option ℕ). timer_moved n t None d) (sym (same_moment a b e))
  join_by a b false e none = then_gone a b e (λ m f. none m f refl) ∙ sym (gone_once a)

  other_by : (a b : Option ℕ) → is_same_moment a b ≡ false → (m : ℕ) → b ≡ Some m → is_number m a ≡ false
  other_by None b off m e = refl
  other_by (Some k) b off m e = sym (ap (is_same_moment (Some k)) e) ∙ off

  pub timers_join : (a b : Option ℕ) → ((m : ℕ) → has d (m, n) ≡ is_number m a) → timer_moved n b None (timer_moved n a b d) ≡ timer_moved n a None d
  timers_join a b was =
      join_by a b (is_same_moment a b) refl (λ m e off. was m ∙ other_by a b off m e)
