-- The first of a list that passes a test, what is left to take where nothing came before, and lines by whether they are that of heads.
use Rattle.std.proofs.Common.{◌≡◌, ◌++◌, ◌∷◌, ap, refl, subst, sym, ◌∙◌, Bool, true, false, List, [], Option, None, Some, ℕ, zero, suc, cond, slice_get}
use Rattle.std.specs.Prelude.{find}
use Rattle.call_actions.specs.TakeActions.Serves.{IsLeft}
use Rattle.grpc_base.specs.declared.event.Reply.{Reply}
use Rattle.session_actions.specs.Words.{numbered}
use Rattle.session_order.specs.Lines.{is_line}
use Rattle.session_order.specs.declared.line.Line.{Line}
use Rattle.session_order.specs.declared.line.Line.TheVariants as line

-- the only one that passes
module _ {X : Type 0} (p : X → Bool) (a : X) (pass : p a ≡ true) where
  found_by : (x : X) (xs : List X) (b : Bool) → p x ≡ b → (b ≡ true → x ≡ a) → (b ≡ false → find p xs ≡ Some a) → cond b (Some x) (find p xs) ≡ Some a
  found_by x xs true e one rest = ap (λ (z : X). Some z) (one refl)
  found_by x xs false e one rest = rest refl

  found_in : (xs : List X) (i : ℕ) → slice_get xs i ≡ Some a → ((j : ℕ) (x : X) → slice_get xs j ≡ Some x → p x ≡ true → x ≡ a) → find p xs ≡ Some a
  found_in [] i at only = absurd (let bad : None ≡ Some a = at in (cc))
  found_in (x ∷ xs) zero at only =
      found_by x xs (p x) refl (λ e. only 0 x refl e)
      (λ e. let same : x ≡ a = (cc) in absurd (let bad : true ≡ false = sym pass ∙ ap p (sym same) ∙ e in let no : ⊥ = (cc) in no))
  found_in (x ∷ xs) (suc i) at only = found_by x xs (p x) refl (λ e. only 0 x refl e) (λ e. found_in xs i at (λ j y there. only (suc j) y there))

  pub found_only : (xs : List X) (n : ℕ) → numbered xs n ≡ Some a → ((j : ℕ) (x : X) → numbered xs j ≡ Some x → p x ≡ true → x ≡ a) → find p xs ≡ Some a
  found_only xs zero at only = absurd (let bad : None ≡ Some a = at in (cc))
  found_only xs (suc i) at only = found_in xs i at (λ j x there. only (suc j) x there)

-- nothing came before
both_none : (xs ys : List Reply) → [] ≡ xs ++ ys → (xs ≡ []) × (ys ≡ [])
both_none [] ys e = (refl, sym e)
both_none (x ∷ xs) ys e = absurd (let bad : [] ≡ x ∷ (xs ++ ys) = e in (cc))

pub none_left : (taken : ℕ) (hs ms : List Reply) → IsLeft [] taken (hs ++ ms) → ms ≡ []
none_left taken hs ms is = (both_none hs ms (sym (both_none is.prefix (hs ++ ms) is.joined).1)).1

pub first_left : (taken : ℕ) (hs ms : List Reply) (r : Reply) → IsLeft [] taken (hs ++ ms) → IsLeft (r ∷ []) taken (r ∷ ms)
first_left taken hs ms r is = record {
  prefix = is.prefix;
  count = is.count;
  joined = ap (λ (rs : List Reply). r ∷ rs) (sym (none_left taken hs ms is)) ∙ ap (λ (xs : List Reply). xs ++ (r ∷ ms)) (sym (both_none is.prefix (hs ++ ms) is.joined).0);
}

-- the line of heads, and the others
pub head_or_other : (P : Line → Type 0) → P line.Head → ((k : Line) → is_line k line.Head ≡ false → P k) → (k : Line) → P k
head_or_other P here other line.Head = here
head_or_other P here other line.Cut = other line.Cut refl
head_or_other P here other line.Transparent = other line.Transparent refl
head_or_other P here other line.Inherited = other line.Inherited refl
head_or_other P here other line.Row = other line.Row refl
head_or_other P here other line.Final = other line.Final refl
head_or_other P here other line.Cancelled = other line.Cancelled refl
head_or_other P here other line.Request = other line.Request refl
head_or_other P here other line.Overflow = other line.Overflow refl
head_or_other P here other line.Response = other line.Response refl
head_or_other P here other line.Pick = other line.Pick refl
head_or_other P here other line.Link = other line.Link refl
head_or_other P here other line.WireEnd = other line.WireEnd refl
head_or_other P here other line.Reset = other line.Reset refl
head_or_other P here other line.Shut = other line.Shut refl
head_or_other P here other line.Retire = other line.Retire refl
head_or_other P here other line.Begin = other line.Begin refl
head_or_other P here other line.Give = other line.Give refl
head_or_other P here other line.Drop = other line.Drop refl
head_or_other P here other line.Add = other line.Add refl
