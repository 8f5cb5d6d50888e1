-- Links that are stamped where they pass a test: what a stamp leaves, and that none is stamped twice.
use Rattle.std.proofs.Common.{◌≡◌, ◌&&◌, ◌+◌, ◌∷◌, ap, arith, refl, ◌∙◌, Bool, true, false, List, [], Option, None, Some, ℕ, zero, suc, if◌then◌else◌, is_none, slice_get}
use Rattle.std.proofs.lemmas.Option.{slice_get-map}
use Rattle.std.specs.List.{list_all}
use Rattle.std.specs.Option.{option_map}
use Rattle.std.specs.Prelude.{map}
use Rattle.channel_actions.proofs.Opening.{stamp}
use Rattle.channel_actions.specs.KeptSessions.Kept.{NumbersCountUp}
use Rattle.session_actions.specs.Words.{numbered}
use Rattle.session_actions.specs.declared.link.Link.{Link}

pub map_same : {X Y : Type 0} (f g : X → Y) → ((x : X) → f x ≡ g x) → (xs : List X) → map f xs ≡ map g xs
map_same f g same [] = refl
map_same f g same (x ∷ xs) = ap (λ (y : _). y ∷ map f xs) (same x) ∙ ap (λ (l : List _). g x ∷ l) (map_same f g same xs)

pub all_mapped : {X : Type 0} (p : X → Bool) (f : X → X) → ((x : X) → p (f x) ≡ p x) → (xs : List X) → list_all p (map f xs) ≡ list_all p xs
all_mapped p f same [] = refl
all_mapped p f same (x ∷ xs) = ap (λ (b : Bool). b && list_all p (map f xs)) (same x) ∙ ap (λ (b : Bool). p x && b) (all_mapped p f same xs)

pub numbered_map : {X Y : Type 0} (f : X → Y) (xs : List X) (n : ℕ) → numbered (map f xs) n ≡ option_map f (numbered xs n)
numbered_map f xs zero = refl
numbered_map f xs (suc i) = slice_get-map f xs i

pub map_same_some : {X Y : Type 0} (f g : X → Y) → ((x : X) → f x ≡ g x) → (o : Option X) → option_map f o ≡ option_map g o
map_same_some f g same None = refl
map_same_some f g same (Some x) = ap (λ (y : _). Some y) (same x)

-- things that are numbered by their places
counted_from : {X : Type 0} (f : X → ℕ) (xs : List X) (n i : ℕ) (x : X) → NumbersCountUp (suc n) (map f xs) → slice_get xs i ≡ Some x → f x ≡ suc (n + i)
counted_from f [] n i x h e = absurd (cc)
counted_from f (y ∷ xs) n zero x h e =
    let one : x ≡ y = (cc) in ap f one ∙ h.0 ∙ (let up : suc n ≡ suc (n + 0) = omega arith in up)
counted_from f (y ∷ xs) n (suc i) x h e = counted_from f xs (suc n) i x h.1 e ∙ (let up : suc (suc n + i) ≡ suc (n + suc i) = omega arith in up)

pub counted_at : {X : Type 0} (f : X → ℕ) (xs : List X) (n : ℕ) (x : X) → NumbersCountUp 1 (map f xs) → numbered xs n ≡ Some x → f x ≡ n
counted_at f xs zero x h e = absurd (cc)
counted_at f xs (suc i) x h e = counted_from f xs 0 i x h e ∙ (let up : suc (0 + i) ≡ suc i = omega arith in up)

module _ (test : Link → Bool) (blind : (l : Link) (z : Option ℕ) → test (record l { gone = z }) ≡ test l) where
  -- what does not look at the stamp
  keeps_by : {Y : Type 0} (F : Link → Y) → ((l : Link) (z : Option ℕ) → F (record l { gone = z }) ≡ F l) → (n : ℕ) (l : Link) (b : Bool)
      → F (if b then record l { gone = Some n } else l) ≡ F l
  keeps_by F same n l true = same l (Some n)
  keeps_by F same n l false = refl

  pub stamp_keeps : {Y : Type 0} (F : Link → Y) → ((l : Link) (z : Option ℕ) → F (record l { gone = z }) ≡ F l) → (n : ℕ) (l : Link) → F (stamp test n l) ≡ F l
  stamp_keeps F same n l = keeps_by F same n l (is_none l.gone && test l)

  form_by : (n : ℕ) (l : Link) (b : Bool)
      → (if b then record l { gone = Some n } else l) ≡ record l { gone = (if b then record l { gone = Some n } else l).gone; owed = l.owed }
  form_by n l true = refl
  form_by n l false = refl

  pub stamp_form : (n : ℕ) (l : Link) → stamp test n l ≡ record l { gone = (stamp test n l).gone; owed = l.owed }
  stamp_form n l = form_by n l (is_none l.gone && test l)

  twice_by : (n m : ℕ) (l : Link) (b : Bool) → (is_none l.gone && test l) ≡ b → stamp test m (if b then record l { gone = Some n } else l) ≡ (if b then record l { gone = Some n } else l)
  twice_by n m l true e = refl
  twice_by n m l false e = ap (λ (b : Bool). if b then record l { gone = Some m } else l) e

  pub stamp_twice : (n m : ℕ) (l : Link) → stamp test m (stamp test n l) ≡ stamp test n l
  stamp_twice n m l = twice_by n m l (is_none l.gone && test l) refl
