-- Lists that grow, for any notion of a later element.
use Rattle.std.proofs.Common.{◌≡◌, ℕ, zero, suc, Option, Some, None, List, [], ◌∷◌, ◌++◌, length, refl, ap, sym, ◌∙◌}
use Rattle.std.specs.Option.{option_map_or}
use Rattle.ledger_stamps.specs.Later.{Grown, Written}
use Rattle.ledger_stamps.specs.Steps.{changed, changed_at, index_at, stamped}

-- stamps
pub written_same : {X : Type 0} (at : X → ℕ) (n : ℕ) (o : Option X) → Written at n o o
written_same at n None = tt
written_same at n (Some x) = refl

rewritten : {X : Type 0} (at : X → ℕ) (n : ℕ) (x : X) (b c : Option X) → b ≡ Some x → Written at n b c → c ≡ Some x
rewritten at n x None c first second = absurd (cc)
rewritten at n x (Some y) c first second = second ∙ first

pub written_then : {X : Type 0} (at : X → ℕ) (n : ℕ) (a b c : Option X) → Written at n a b → Written at n b c → Written at n a c
written_then at n None None c first second = second
written_then at n None (Some y) (Some z) first second = let same : z ≡ y = (cc) in ap at same ∙ first
written_then at n None (Some y) None first second = absurd (cc)
written_then at n (Some x) b c first second = rewritten at n x b c first second

pub written_stamped : {X : Type 0} (at : X → ℕ) (n : ℕ) (x : X) (o : Option X) → at x ≡ n → Written at n o (stamped x o)
written_stamped at n x None e = e
written_stamped at n x (Some y) e = refl

-- lists
pub grown_same : {X : Type 0} (L : X → X → Type 0) (N : X → Type 0) (xs : List X) → ((x : X) → L x x) → Grown L N xs xs
grown_same L N [] same = tt
grown_same L N (x ∷ xs) same = (same x, grown_same L N xs same)

grown_new : {X : Type 0} (L : X → X → Type 0) (N : X → Type 0) (ys zs : List X) → ((x y : X) → N x → L x y → N y) → Grown L N [] ys → Grown L N ys zs → Grown L N [] zs
grown_new L N [] zs more first second = second
grown_new L N (y ∷ ys) [] more first second = absurd second
grown_new L N (y ∷ ys) (z ∷ zs) more first second = (more y z first.0 second.0, grown_new L N ys zs more first.1 second.1)

pub grown_then : {X : Type 0} (L : X → X → Type 0) (N : X → Type 0) (xs ys zs : List X) → ((x y z : X) → L x y → L y z → L x z) → ((x y : X) → N x → L x y → N y) → Grown L N xs ys → Grown L N ys zs → Grown L N xs zs
grown_then L N [] ys zs later more first second = grown_new L N ys zs more first second
grown_then L N (x ∷ xs) [] zs later more first second = absurd first
grown_then L N (x ∷ xs) (y ∷ ys) [] later more first second = absurd second
grown_then L N (x ∷ xs) (y ∷ ys) (z ∷ zs) later more first second =
    (later x y z first.0 second.0, grown_then L N xs ys zs later more first.1 second.1)

pub grown_more : {X : Type 0} (L : X → X → Type 0) (N : X → Type 0) (xs : List X) (new : X) → ((x : X) → L x x) → N new → Grown L N xs (xs ++ new ∷ [])
grown_more L N [] new same fresh = (fresh, tt)
grown_more L N (x ∷ xs) new same fresh = (same x, grown_more L N xs new same fresh)

grown_changed : {X : Type 0} (L : X → X → Type 0) (N : X → Type 0) (f : X → X) (xs : List X) (index : ℕ) → ((x : X) → L x x) → ((x : X) → L x (f x)) → Grown L N xs (changed f xs index)
grown_changed L N f [] index same step = tt
grown_changed L N f (x ∷ xs) zero same step = (step x, grown_same L N xs same)
grown_changed L N f (x ∷ xs) (suc index) same step = (same x, grown_changed L N f xs index same step)

grown_index : {X : Type 0} (L : X → X → Type 0) (N : X → Type 0) (f : X → X) (xs : List X) (index : Option ℕ) → ((x : X) → L x x) → ((x : X) → L x (f x)) → Grown L N xs (option_map_or (λ i. changed f xs i) index xs)
grown_index L N f xs None same step = grown_same L N xs same
grown_index L N f xs (Some index) same step = grown_changed L N f xs index same step

pub grown_at : {X : Type 0} (L : X → X → Type 0) (N : X → Type 0) (f : X → X) (xs : List X) (place : ℕ) → ((x : X) → L x x) → ((x : X) → L x (f x)) → Grown L N xs (changed_at f xs place)
grown_at L N f xs place same step = grown_index L N f xs (index_at place (length xs)) same step
