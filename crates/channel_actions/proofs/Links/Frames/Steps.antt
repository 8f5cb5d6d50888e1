-- Lists of attempts of which each has one in the other stay in step, however they are chosen and sorted, where places and streams are the same.
use Rattle.std.proofs.Common.{◌≡◌, ◌∷◌, ap, refl, subst, sym, ◌∙◌, Bool, List, [], Option, ℕ, cond, filter, if◌then◌else◌, map, nat_lt, unwrap_or}
use Rattle.link_actions.proofs.Lists.{both_if}
use Rattle.link_actions.specs.Sees.{by_stream, put_by_stream}
use Rattle.session_actions.specs.Links.{stream_number}
use Rattle.session_actions.specs.declared.attempt.Attempt.{Attempt}

module _ (R : Attempt → Attempt → Type 0) (place_of : (a b : Attempt) → R a b → b.place ≡ a.place) (stream_of : (a b : Attempt) → R a b → b.row.stream ≡ a.row.stream) where
  abbrev pub InStep : List Attempt → List Attempt → Type 0
  InStep [] [] = Unit {0}
  InStep (a ∷ as_) (b ∷ bs) = R a b × InStep as_ bs
  InStep _ _ = ⊥

  -- chosen by their streams
  pub chosen_step : (p : Option ℕ → Bool) (xs ys : List Attempt) → InStep xs ys → InStep (filter (λ a. p a.row.stream) xs) (filter (λ a. p a.row.stream) ys)
  chosen_step p [] [] are = tt
  chosen_step p (a ∷ as_) (b ∷ bs) are =
      let fa : List Attempt = filter (λ (x : Attempt). p x.row.stream) as_ in
      let fb : List Attempt = filter (λ (x : Attempt). p x.row.stream) bs in
      let rest : InStep fa fb = chosen_step p as_ bs are.1 in
      subst (λ (c : Bool). InStep (cond (p a.row.stream) (a ∷ fa) fa) (cond c (b ∷ fb) fb)) (sym (ap p (stream_of a b are.0)))
      (both_if InStep (p a.row.stream) (a ∷ fa) fa (b ∷ fb) fb (λ e. (are.0, rest)) (λ e. rest))
  chosen_step p [] (b ∷ bs) are = absurd are
  chosen_step p (a ∷ as_) [] are = absurd are

  -- sorted by them
  before_alike : (a b x y : Attempt) → R a b → R x y → nat_lt (stream_number y) (stream_number b) ≡ nat_lt (stream_number x) (stream_number a)
  before_alike a b x y is other =
      ap (λ (o : Option ℕ). nat_lt (unwrap_or o 0) (stream_number b)) (stream_of x y other)
      ∙ ap (λ (o : Option ℕ). nat_lt (stream_number x) (unwrap_or o 0)) (stream_of a b is)

  put_step : (a b : Attempt) (xs ys : List Attempt) → R a b → InStep xs ys → InStep (put_by_stream a xs) (put_by_stream b ys)
  put_step a b [] [] is are = (is, tt)
  put_step a b (x ∷ xs) (y ∷ ys) is are =
      subst (λ (c : Bool). InStep (put_by_stream a (x ∷ xs)) (if c then y ∷ put_by_stream b ys else b ∷ y ∷ ys)) (sym (before_alike a b x y is are.0))
      (both_if InStep (nat_lt (stream_number x) (stream_number a)) (x ∷ put_by_stream a xs) (a ∷ x ∷ xs) (y ∷ put_by_stream b ys) (b ∷ y ∷ ys)
      (λ e. (are.0, put_step a b xs ys is are.1)) (λ e. (is, are)))
  put_step a b [] (y ∷ ys) is are = absurd are
  put_step a b (x ∷ xs) [] is are = absurd are

  pub sorted_step : (xs ys : List Attempt) → InStep xs ys → InStep (by_stream xs) (by_stream ys)
  sorted_step [] [] are = tt
  sorted_step (a ∷ as_) (b ∷ bs) are = put_step a b (by_stream as_) (by_stream bs) are.0 (sorted_step as_ bs are.1)
  sorted_step [] (b ∷ bs) are = absurd are
  sorted_step (a ∷ as_) [] are = absurd are

  pub same_places : (xs ys : List Attempt) → InStep xs ys → map (λ (a : Attempt). a.place) ys ≡ map (λ (a : Attempt). a.place) xs
  same_places [] [] are = refl
  same_places (a ∷ as_) (b ∷ bs) are =
      ap (λ (n : ℕ). n ∷ map (λ (x : Attempt). x.place) bs) (place_of a b are.0) ∙ ap (λ (ns : List ℕ). a.place ∷ ns) (same_places as_ bs are.1)
  same_places [] (b ∷ bs) are = absurd are
  same_places (a ∷ as_) [] are = absurd are
