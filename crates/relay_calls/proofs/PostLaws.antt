-- Asks that are posted one after the other.
use Rattle.std.proofs.Common.{◌≡◌, Result, Ok, Err, List, [], ◌∷◌, ◌++◌, inl, inr, refl, sym, subst}
use Rattle.relay_asks.specs.declared.ask.RelayAsk.{RelayAsk}
use Rattle.relay_calls.specs.Calls.{Calls}
use Rattle.relay_calls.specs.Posting.{Eyes, PostsAll, PostsAsk, PostsTurn}
use Rattle.relay_calls.specs.declared.fault.CallsFault.{CallsFault}

-- an ask that is posted, before those that are left
pub posts_first : {P : Type 0} (eyes : Eyes P) (left : List RelayAsk) (a : RelayAsk) (asks : List RelayAsk) (c next after : Calls) (p q r : P) (result : Result Unit CallsFault)
    → left ≡ a ∷ asks → PostsAsk eyes c a p next q (Ok tt) → PostsAll eyes next q asks after r result → PostsAll eyes c p left after r result
posts_first eyes left a asks c next after p q r result is first later =
    subst (λ (l : List RelayAsk). PostsAll eyes c p l after r result) (sym is) (inl (next, q, first, later))

-- an ask that ends the posts
pub posts_fault : {P : Type 0} (eyes : Eyes P) (left : List RelayAsk) (a : RelayAsk) (asks : List RelayAsk) (c after : Calls) (p r : P) (f : CallsFault)
    → left ≡ a ∷ asks → PostsAsk eyes c a p after r (Err f) → PostsAll eyes c p left after r (Err f)
posts_fault eyes left a asks c after p r f is first = subst (λ (l : List RelayAsk). PostsAll eyes c p l after r (Err f)) (sym is) (inr (f, first, refl))

-- no ask is left
pub posts_none : {P : Type 0} (eyes : Eyes P) (left : List RelayAsk) (c : Calls) (p : P) → left ≡ [] → PostsAll eyes c p left c p (Ok tt)
posts_none eyes left c p is = subst (λ (l : List RelayAsk). PostsAll eyes c p l c p (Ok tt)) (sym is) (refl, refl, refl)

-- some asks, and then others
pub posts_then : {P : Type 0} (eyes : Eyes P) (first later : List RelayAsk) (c next after : Calls) (p q r : P) (result : Result Unit CallsFault)
    → PostsAll eyes c p first next q (Ok tt) → PostsAll eyes next q later after r result → PostsAll eyes c p (first ++ later) after r result
posts_then {P} eyes [] later c next after p q r result h k =
    subst (λ (x : Calls). PostsAll eyes x p later after r result) h.0 (subst (λ (x : P). PostsAll eyes next x later after r result) h.1 k)
posts_then eyes (a ∷ first) later c next after p q r result (inl h) k =
    inl (h.0, h.1, h.2, posts_then eyes first later h.0 next after h.1 q r result h.3 k)
posts_then eyes (a ∷ first) later c next after p q r result (inr h) k = absurd (let no : ⊥ = (cc) in no)

-- some asks, the last of which ends the posts
pub posts_cut : {P : Type 0} (eyes : Eyes P) (first later : List RelayAsk) (c after : Calls) (p r : P) (f : CallsFault)
    → PostsAll eyes c p first after r (Err f) → PostsAll eyes c p (first ++ later) after r (Err f)
posts_cut eyes [] later c after p r f h = absurd (let no : ⊥ = (cc) in no)
posts_cut eyes (a ∷ first) later c after p r f (inl h) = inl (h.0, h.1, h.2, posts_cut eyes first later h.0 after h.1 r f h.3)
posts_cut eyes (a ∷ first) later c after p r f (inr h) = inr h

-- the asks that wait, and then others
pub posts_turn : {P : Type 0} (eyes : Eyes P) (c start next after : Calls) (waited asks : List RelayAsk) (p q r : P) (result : Result Unit CallsFault)
    → waited ≡ c.waiting → start ≡ record c { waiting = [] } → PostsAll eyes start p waited next q (Ok tt) → PostsAll eyes next q asks after r result → PostsTurn eyes c p asks after r result
posts_turn eyes c start next after waited asks p q r result is begins h k =
    posts_then eyes c.waiting asks (record c { waiting = [] }) next after p q r result
    (subst (λ (l : List RelayAsk). PostsAll eyes (record c { waiting = [] }) p l next q (Ok tt)) is (subst (λ (x : Calls). PostsAll eyes x p waited next q (Ok tt)) begins h)) k

pub posts_turn_cut : {P : Type 0} (eyes : Eyes P) (c start after : Calls) (waited asks : List RelayAsk) (p r : P) (f : CallsFault)
    → waited ≡ c.waiting → start ≡ record c { waiting = [] } → PostsAll eyes start p waited after r (Err f) → PostsTurn eyes c p asks after r (Err f)
posts_turn_cut eyes c start after waited asks p r f is begins h =
    posts_cut eyes c.waiting asks (record c { waiting = [] }) after p r f
    (subst (λ (l : List RelayAsk). PostsAll eyes (record c { waiting = [] }) p l after r (Err f)) is (subst (λ (x : Calls). PostsAll eyes x p waited after r (Err f)) begins h))
