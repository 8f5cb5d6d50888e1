-- Between the functions of this crate: what a call of one side's work does to what it borrows. The promises of the crate don't name these.
use Rattle.std.specs.Prelude.{◌≡◌, Bool}
use denote.Param.Members.{Shared}
use denote.Ref.{MutBor}

module _ {F A L : Type 0} (g : Shared F (MutBor A × (MutBor L × Unit {0})) (Bool × (MutBor A × (MutBor L × Unit {0})))) (f : F) where
  -- f may be called with a `&mut` to x and one to y
  abbrev pub AcceptsTwo : A → L → Type 0
  AcceptsTwo x y = (p : MutBor A) (q : MutBor L) → p.now ≡ x → q.now ≡ y → g.pre f (p, (q, tt))

  -- a call of f with these may give r, and leave these values there
  pub record ChangesTwo (x : A) (y : L) (x' : A) (y' : L) (r : Bool) : Type 0 where
    pub first : MutBor A
    pub first_is : first.now ≡ x
    pub other : MutBor L
    pub other_is : other.now ≡ y
    pub first_after : MutBor A
    pub other_after : MutBor L
    pub call : g.post f (first, (other, tt)) (r, (first_after, (other_after, tt)))
    pub first_left : first_after.now ≡ x'
    pub other_left : other_after.now ≡ y'
