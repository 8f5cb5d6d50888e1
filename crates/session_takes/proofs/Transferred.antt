-- To which attempts a call is committed, said of the list of attempts: all have one number. One with a later one of its number never left the client, for one that
-- the server did not process is retried only while its call is not committed.
use Rattle.attempt_ledger.specs.TransparentRows.{is_unsent}
use Rattle.attempt_ledger.specs.declared.row.RowEnd.{RowEnd}
use Rattle.channel_actions.proofs.Streams.Own.Parts.{from_changed}
use Rattle.channel_actions.proofs.TransparentRetries.Rows.{HasLater, SameNumber}
use Rattle.channel_actions.specs.TransparentRetries.Laws.{was_unsent}
use Rattle.session_actions.specs.Commitments.{with_commitment}
use Rattle.session_actions.specs.Words.{changed, holds, numbered}
use Rattle.session_actions.specs.declared.attempt.Attempt.{Attempt}
use Rattle.session_order.proofs.SessionLaws.Found.{same_of}
use Rattle.session_order.proofs.SessionLaws.Lists.{past}
use Rattle.session_takes.proofs.Prefixes.{inside}
use Rattle.std.proofs.Common.{Bool, List, None, Option, Some, [], ap, arith, false, inl, inr, is_some, length, refl, slice_get, subst, suc, sym, true, ℕ, ◌++◌, ◌<◌, ◌==◌, ◌∙◌, ◌∷◌, ◌≡◌, ◌≤◌, ◌⊎◌}

-- an attempt that was retried though it left the client, and all of its number before it, are not committed
pub record CommitmentPasses (xs : List Attempt) : Type 0 where
  pub free : (i j : ℕ) (y x : Attempt) → slice_get xs i ≡ Some y → slice_get xs j ≡ Some x → i ≤ j → SameNumber y x → HasLater xs j x → was_unsent x ≡ false
      → is_some y.row.committed ≡ false
  pub one : (i j : ℕ) (a b : Attempt) → slice_get xs i ≡ Some a → slice_get xs j ≡ Some b → a.row.call ≡ b.row.call → is_some a.row.committed ≡ true
      → is_some b.row.committed ≡ true → a.row.number ≡ b.row.number

-- what becomes of an attempt: it keeps its call, its number, whether it is committed to, and its end
pub record KeepsRow (a b : Attempt) : Type 0 where
  pub call : b.row.call ≡ a.row.call
  pub number : b.row.number ≡ a.row.number
  pub committed : is_some b.row.committed ≡ is_some a.row.committed
  pub ended : is_some a.row.ended ≡ true → b.row.ended ≡ a.row.ended

pub keeps_self : (a : Attempt) → KeepsRow a a
keeps_self a = record { call = refl; number = refl; committed = refl; ended = λ e. refl }

abbrev pub AllKeep : List Attempt → List Attempt → Type 0
AllKeep xs ys = (i : ℕ) (b : Attempt) → slice_get ys i ≡ Some b → (a : Attempt) × (slice_get xs i ≡ Some a) × KeepsRow a b

-- those with a later one of their number have ended
abbrev pub FollowedEnd : List Attempt → Type 0
FollowedEnd xs = (i : ℕ) (a : Attempt) → slice_get xs i ≡ Some a → HasLater xs i a → is_some a.row.ended ≡ true

pub some_holds : {X : Type 0} (test : X → Bool) (o : Option X) → holds test o ≡ true → is_some o ≡ true
some_holds test None e = absurd (cc)
some_holds test (Some x) e = refl

module _ (xs ys : List Attempt) (keeps : AllKeep xs ys) (follow : FollowedEnd xs) (h : CommitmentPasses xs) where
  later_was : (i : ℕ) (a b : Attempt) → KeepsRow a b → HasLater ys i b → HasLater xs i a
  later_was i a b k l =
      let q : (z : Attempt) × (slice_get xs l.index ≡ Some z) × KeepsRow z l.later = keeps l.index l.later l.here in
      record {
        index = l.index;
        later = q.0;
        here = q.1;
        afterwards = l.afterwards;
        same = (sym k.call ∙ l.same.0 ∙ q.2.call, sym k.number ∙ l.same.1 ∙ q.2.number);
      }

  pub kept_on : CommitmentPasses ys
  kept_on = record {
    free = λ i j y x first second less same l sent.
        (let p : (a : Attempt) × (slice_get xs i ≡ Some a) × KeepsRow a y = keeps i y first in
        let q : (a : Attempt) × (slice_get xs j ≡ Some a) × KeepsRow a x = keeps j x second in
        let m : HasLater xs j q.0 = later_was j q.0 x q.2 l in
        let stays : x.row.ended ≡ q.0.row.ended = q.2.ended (follow j q.0 q.1 m) in
        let number : SameNumber p.0 q.0 = (sym p.2.call ∙ same.0 ∙ q.2.call, sym p.2.number ∙ same.1 ∙ q.2.number) in
        p.2.committed ∙ h.free i j p.0 q.0 p.1 q.1 less number m (ap (holds (λ (e : RowEnd). is_unsent e.cause)) (sym stays) ∙ sent));
    one = λ i j a b first second call c d.
        (let p : (z : Attempt) × (slice_get xs i ≡ Some z) × KeepsRow z a = keeps i a first in
        let q : (z : Attempt) × (slice_get xs j ≡ Some z) × KeepsRow z b = keeps j b second in
        p.2.number ∙ h.one i j p.0 q.0 p.1 q.1 (sym p.2.call ∙ call ∙ q.2.call) (sym p.2.committed ∙ c) (sym q.2.committed ∙ d) ∙ sym q.2.number);
  }

-- one that changed
changed_by : (f : Attempt → Attempt) (n : ℕ) (xs : List Attempt) → ((a : Attempt) → numbered xs n ≡ Some a → KeepsRow a (f a)) → (i : ℕ) (b : Attempt)
    → (numbered xs (suc i) ≡ Some b) ⊎ ((suc i ≡ n) × ((a : Attempt) × (numbered xs (suc i) ≡ Some a) × (b ≡ f a)))
    → (a : Attempt) × (slice_get xs i ≡ Some a) × KeepsRow a b
changed_by f n xs each i b (inl e) = (b, e, keeps_self b)
changed_by f n xs each i b (inr e) =
    let at : numbered xs n ≡ Some e.1.0 = sym (ap (numbered xs) e.0) ∙ e.1.1 in
    (e.1.0, e.1.1, subst (λ (z : Attempt). KeepsRow e.1.0 z) (sym e.1.2) (each e.1.0 at))

pub all_keep : (f : Attempt → Attempt) (n : ℕ) (xs : List Attempt) → ((a : Attempt) → numbered xs n ≡ Some a → KeepsRow a (f a)) → AllKeep xs (changed f n xs)
all_keep f n xs each i b got = changed_by f n xs each i b (from_changed f n xs (suc i) b (suc i == n) refl got)

-- ---- a commitment
-- an attempt that is committed to is not one that was retried though it left the client, nor before such a one; and it has the number of all others
module _ (stamp n : ℕ) (xs : List Attempt) (a : Attempt) (there : numbered xs n ≡ Some a)
    (joins : (j : ℕ) (x : Attempt) → slice_get xs j ≡ Some x → n ≤ suc j → SameNumber a x → HasLater xs j x → was_unsent x ≡ false → ⊥)
    (alike : (j : ℕ) (b : Attempt) → slice_get xs j ≡ Some b → a.row.call ≡ b.row.call → is_some b.row.committed ≡ true → a.row.number ≡ b.row.number)
    (h : CommitmentPasses xs) where
  abbrev ys : List Attempt
  ys = changed (with_commitment stamp) n xs

  -- each is one that was there, committed to as before, or it is this one
  record IsOf (i : ℕ) (b : Attempt) : Type 0 where
    was : Attempt
    at : slice_get xs i ≡ Some was
    call : b.row.call ≡ was.row.call
    number : b.row.number ≡ was.row.number
    ended : b.row.ended ≡ was.row.ended
    committed : (is_some b.row.committed ≡ is_some was.row.committed) ⊎ ((suc i ≡ n) × (was ≡ a))

  of_by : (i : ℕ) (b : Attempt) → (numbered xs (suc i) ≡ Some b) ⊎ ((suc i ≡ n) × ((z : Attempt) × (numbered xs (suc i) ≡ Some z) × (b ≡ with_commitment stamp z))) → IsOf i b
  of_by i b (inl e) = record { was = b; at = e; call = refl; number = refl; ended = refl; committed = inl refl }
  of_by i b (inr e) = record {
    was = e.1.0;
    at = e.1.1;
    call = ap (λ (z : Attempt). z.row.call) e.1.2;
    number = ap (λ (z : Attempt). z.row.number) e.1.2;
    ended = ap (λ (z : Attempt). z.row.ended) e.1.2;
    committed = inr (e.0, same_of (numbered xs n) e.1.0 a (sym (ap (numbered xs) e.0) ∙ e.1.1) there);
  }

  of_at : (i : ℕ) (b : Attempt) → slice_get ys i ≡ Some b → IsOf i b
  of_at i b got = of_by i b (from_changed (with_commitment stamp) n xs (suc i) b (suc i == n) refl got)

  later_of_was : (i : ℕ) (b : Attempt) (k : IsOf i b) → HasLater ys i b → HasLater xs i k.was
  later_of_was i b k l =
      let q : IsOf l.index l.later = of_at l.index l.later l.here in
      record {
        index = l.index;
        later = q.was;
        here = q.at;
        afterwards = l.afterwards;
        same = (sym k.call ∙ l.same.0 ∙ q.call, sym k.number ∙ l.same.1 ∙ q.number);
      }

  free_by : (i j : ℕ) (y x : Attempt) (p : IsOf i y) (q : IsOf j x) → i ≤ j → SameNumber p.was q.was → HasLater xs j q.was → was_unsent q.was ≡ false
      → (is_some y.row.committed ≡ is_some p.was.row.committed) ⊎ ((suc i ≡ n) × (p.was ≡ a)) → is_some y.row.committed ≡ false
  free_by i j y x p q less same l sent (inl e) = e ∙ h.free i j p.was q.was p.at q.at less same l sent
  free_by i j y x p q less same l sent (inr e) =
      let here : suc i ≡ n = e.0 in
      let before : n ≤ suc j = omega (arith, here, less) in
      absurd (joins j q.was q.at before (subst (λ (z : Attempt). SameNumber z q.was) e.1 same) l sent)

  one_by : (i j : ℕ) (b d : Attempt) (p : IsOf i b) (q : IsOf j d) → p.was.row.call ≡ q.was.row.call → is_some b.row.committed ≡ true → is_some d.row.committed ≡ true
      → (is_some b.row.committed ≡ is_some p.was.row.committed) ⊎ ((suc i ≡ n) × (p.was ≡ a))
      → (is_some d.row.committed ≡ is_some q.was.row.committed) ⊎ ((suc j ≡ n) × (q.was ≡ a)) → p.was.row.number ≡ q.was.row.number
  one_by i j b d p q call c e (inl f) (inl g) = h.one i j p.was q.was p.at q.at call (sym f ∙ c) (sym g ∙ e)
  one_by i j b d p q call c e (inr f) (inl g) =
      ap (λ (z : Attempt). z.row.number) f.1 ∙ alike j q.was q.at (sym (ap (λ (z : Attempt). z.row.call) f.1) ∙ call) (sym g ∙ e)
  one_by i j b d p q call c e (inl f) (inr g) =
      sym (ap (λ (z : Attempt). z.row.number) g.1 ∙ alike i p.was p.at (sym (ap (λ (z : Attempt). z.row.call) g.1) ∙ sym call) (sym f ∙ c))
  one_by i j b d p q call c e (inr f) (inr g) = ap (λ (z : Attempt). z.row.number) (f.1 ∙ sym g.1)

  pub committed_on : CommitmentPasses ys
  committed_on = record {
    free = λ i j y x first second less same l sent.
        (let p : IsOf i y = of_at i y first in
        let q : IsOf j x = of_at j x second in
        free_by i j y x p q less (sym p.call ∙ same.0 ∙ q.call, sym p.number ∙ same.1 ∙ q.number) (later_of_was j x q l)
        (ap (holds (λ (e : RowEnd). is_unsent e.cause)) (sym q.ended) ∙ sent) p.committed);
    one = λ i j b d first second call c e.
        (let p : IsOf i b = of_at i b first in
        let q : IsOf j d = of_at j d second in
        p.number ∙ one_by i j b d p q (sym p.call ∙ call ∙ q.call) c e p.committed q.committed ∙ sym q.number);
  }

-- ---- one more attempt, which is committed to by no call yet
module _ (xs : List Attempt) (z : Attempt) (fresh : z.row.committed ≡ None)
    -- where it has the number of one that left the client, that one and those before it are not committed
    (retries : (i j : ℕ) (y x : Attempt) → slice_get xs i ≡ Some y → slice_get xs j ≡ Some x → i ≤ j → SameNumber y x → SameNumber x z → was_unsent x ≡ false
    → is_some y.row.committed ≡ false)
    (h : CommitmentPasses xs) where
  abbrev zs : List Attempt
  zs = xs ++ z ∷ []

  uncommitted : (b : Attempt) → z ≡ b → is_some b.row.committed ≡ false
  uncommitted b e = ap (λ (q : Attempt). is_some q.row.committed) (sym e) ∙ ap (λ (o : Option ℕ). is_some o) fresh

  later_split : (j : ℕ) (x : Attempt) (l : HasLater zs j x) → (slice_get xs l.index ≡ Some l.later) ⊎ ((l.index ≡ length xs) × (z ≡ l.later)) → HasLater xs j x ⊎ SameNumber x z
  later_split j x l (inl e) = inl (record { index = l.index; later = l.later; here = e; afterwards = l.afterwards; same = l.same })
  later_split j x l (inr e) = inr (subst (λ (q : Attempt). SameNumber x q) (sym e.1) l.same)

  index_by : (l : ℕ) (b : Attempt) → (slice_get xs l ≡ Some b) ⊎ ((l ≡ length xs) × (z ≡ b)) → l ≤ length xs
  index_by l b (inl e) = let most : suc l ≤ length xs = inside xs l b e in omega (arith, most)
  index_by l b (inr e) = let same : l ≡ length xs = e.0 in omega (arith, same)

  never_last : (j : ℕ) (x : Attempt) → j ≡ length xs → HasLater zs j x → ⊥
  never_last j x here l =
      let most : l.index ≤ length xs = index_by l.index l.later (past xs z l.later l.index l.here) in
      let less : j < l.index = l.afterwards in omega (arith, most, less, here)

  free_more : (i j : ℕ) (y x : Attempt) → (slice_get xs i ≡ Some y) ⊎ ((i ≡ length xs) × (z ≡ y)) → (slice_get xs j ≡ Some x) ⊎ ((j ≡ length xs) × (z ≡ x)) → i ≤ j
      → SameNumber y x → HasLater zs j x → was_unsent x ≡ false → is_some y.row.committed ≡ false
  free_more i j y x (inr e) q less same l sent = uncommitted y e.1
  free_more i j y x (inl e) (inr f) less same l sent = absurd (never_last j x f.0 l)
  free_more i j y x (inl e) (inl f) less same l sent =
      elim (later_split j x l (past xs z l.later l.index l.here)) [
        | inl was ↦ h.free i j y x e f less same was sent
        | inr number ↦ retries i j y x e f less same number sent
      ]

  not_both : (b : Attempt) → z ≡ b → is_some b.row.committed ≡ true → ⊥
  not_both b e c = let bad : false ≡ true = sym (uncommitted b e) ∙ c in (cc)

  one_more : (i j : ℕ) (a b : Attempt) → (slice_get xs i ≡ Some a) ⊎ ((i ≡ length xs) × (z ≡ a)) → (slice_get xs j ≡ Some b) ⊎ ((j ≡ length xs) × (z ≡ b)) → a.row.call ≡ b.row.call
      → is_some a.row.committed ≡ true → is_some b.row.committed ≡ true → a.row.number ≡ b.row.number
  one_more i j a b (inl e) (inl f) call c d = h.one i j a b e f call c d
  one_more i j a b (inr e) q call c d = absurd (not_both a e.1 c)
  one_more i j a b (inl e) (inr f) call c d = absurd (not_both b f.1 d)

  pub more_on : CommitmentPasses (xs ++ z ∷ [])
  more_on = record {
    free = λ i j y x first second less same l sent. free_more i j y x (past xs z y i first) (past xs z x j second) less same l sent;
    one = λ i j a b first second call c d. one_more i j a b (past xs z a i first) (past xs z b j second) call c d;
  }
