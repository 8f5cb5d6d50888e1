-- What stays quiet where an entry goes on to its settling: the lines that look at the event give nothing more.
use Rattle.std.proofs.Common.{◌≡◌, ◌∷◌, ap, refl, sym, ◌∙◌, Bool, true, false, List, [], Option, None, Some, cond}
use Rattle.std.specs.Option.{option_map, option_or}
use Rattle.std.specs.Prelude.{find}

-- the first of several is nothing where none is something
pub or_parts_none : {X : Type 0} (a b : Option X) → option_or a b ≡ None → (a ≡ None) × (b ≡ None)
or_parts_none None b h = (refl, h)
or_parts_none (Some x) b h = absurd (cc)

pub or_both_none : {X : Type 0} (a b : Option X) → a ≡ None → b ≡ None → option_or a b ≡ None
or_both_none a b p q = ap (λ (o : Option _). option_or o b) p ∙ q

-- where no one passes a test, no one passes a stronger one
find_step : {X : Type 0} (p q : X → Bool) (x : X) (xs : List X) (b c : Bool) → p x ≡ b → q x ≡ c → (b ≡ true → c ≡ true)
    → (find q xs ≡ None → find p xs ≡ None) → find q (x ∷ xs) ≡ None → find p (x ∷ xs) ≡ None
find_step p q x xs b true e f restricted rest h = absurd (let bad : Some x ≡ None = sym (ap (λ (z : Bool). cond z (Some x) (find q xs)) f) ∙ h in (cc))
find_step p q x xs true false e f restricted rest h = absurd (let bad : false ≡ true = restricted refl in (cc))
find_step p q x xs false false e f restricted rest h =
    ap (λ (z : Bool). cond z (Some x) (find p xs)) e ∙ rest (sym (ap (λ (z : Bool). cond z (Some x) (find q xs)) f) ∙ h)

pub find_restricted : {X : Type 0} (p q : X → Bool) (xs : List X) → ((x : X) → p x ≡ true → q x ≡ true) → find q xs ≡ None → find p xs ≡ None
find_restricted p q [] restricted h = refl
find_restricted p q (x ∷ xs) restricted h = find_step p q x xs (p x) (q x) refl refl (restricted x) (find_restricted p q xs restricted) h

map_none : {X Y : Type 0} (f : X → Y) (o : Option X) → option_map f o ≡ None → o ≡ None
map_none f None h = refl
map_none f (Some x) h = absurd (cc)

pub mapped_restricted : {X Y : Type 0} (f g : X → Y) (p q : X → Bool) (xs : List X) → ((x : X) → p x ≡ true → q x ≡ true)
    → option_map f (find q xs) ≡ None → option_map g (find p xs) ≡ None
mapped_restricted f g p q xs restricted h = ap (option_map g) (find_restricted p q xs restricted (map_none f (find q xs) h))

never_step : {X : Type 0} (p : X → Bool) (x : X) (xs : List X) (b : Bool) → p x ≡ b → (p x ≡ true → ⊥) → find p xs ≡ None → find p (x ∷ xs) ≡ None
never_step p x xs true e never_so rest = absurd (never_so e)
never_step p x xs false e never_so rest = ap (λ (z : Bool). cond z (Some x) (find p xs)) e ∙ rest

pub never : {X : Type 0} (p : X → Bool) (xs : List X) → ((x : X) → p x ≡ true → ⊥) → find p xs ≡ None
never p [] never_so = refl
never p (x ∷ xs) never_so = never_step p x xs (p x) refl (never_so x) (never p xs never_so)
