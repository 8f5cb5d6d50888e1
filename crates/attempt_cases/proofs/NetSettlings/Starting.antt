-- A policy is in the same state whether a subchannel of its view is IDLE or CONNECTING.
use Rattle.std.proofs.Common.{◌≡◌, ◌&&◌, ◌*◌, ◌+◌, ◌==◌, ◌||◌, ◌∷◌, ap, refl, sym, ◌∙◌, Bool, true, false, List, [], Option, Some, ℕ, drop, cond, is_some, length, map, not, suc, take, zero, if◌then◌else◌}
use Rattle.std.specs.List.{list_all, list_any, position_from, range_with_len}
use Rattle.grpc_base.specs.declared.event.Conn.TheVariants as conn
use Rattle.grpc_base.specs.declared.kind.Kind.{Kind}
use Rattle.grpc_base.specs.declared.kind.Kind.TheVariants as kind
use Rattle.lb_policy.specs.Steps.{noted, noted_sub}
use Rattle.lb_policy.specs.Table.{PolicySeen, first_tier, has_state, is_among, is_one_of, is_open, is_ready, state_by, state_of, state_of_kind, tier, tier_has_failed, tier_is_ready}
use Rattle.lb_policy.specs.declared.seen.SubSeen.{SubSeen}

-- two views that policies cannot distinguish by their states
pub record IsLike (a b : SubSeen) : Type 0 where
  pub number : b.sub ≡ a.sub
  pub ready : is_ready b.state ≡ is_ready a.state
  pub open_ : is_open b.state ≡ is_open a.state

abbrev pub AreLike : List SubSeen → List SubSeen → Type 0
AreLike [] [] = Unit {0}
AreLike (a ∷ as_) (b ∷ bs) = IsLike a b × AreLike as_ bs
AreLike _ _ = ⊥

like_take : (n : ℕ) (xs ys : List SubSeen) → AreLike xs ys → AreLike (take n xs) (take n ys)
like_take zero xs ys h = tt
like_take (suc n) [] [] h = tt
like_take (suc n) (a ∷ xs) (b ∷ ys) h = (h.0, like_take n xs ys h.1)
like_take (suc n) [] (b ∷ ys) h = absurd h
like_take (suc n) (a ∷ xs) [] h = absurd h

like_drop : (n : ℕ) (xs ys : List SubSeen) → AreLike xs ys → AreLike (drop n xs) (drop n ys)
like_drop zero xs ys h = h
like_drop (suc n) [] [] h = tt
like_drop (suc n) (a ∷ xs) (b ∷ ys) h = like_drop n xs ys h.1
like_drop (suc n) [] (b ∷ ys) h = absurd h
like_drop (suc n) (a ∷ xs) [] h = absurd h

like_length : (xs ys : List SubSeen) → AreLike xs ys → length ys ≡ length xs
like_length [] [] h = refl
like_length (a ∷ xs) (b ∷ ys) h = ap suc (like_length xs ys h.1)
like_length [] (b ∷ ys) h = absurd h
like_length (a ∷ xs) [] h = absurd h

-- tests that two such do alike
module _ (test : SubSeen → Bool) (same : (a b : SubSeen) → IsLike a b → test b ≡ test a) where
  like_any : (xs ys : List SubSeen) → AreLike xs ys → list_any test ys ≡ list_any test xs
  like_any [] [] h = refl
  like_any (a ∷ xs) (b ∷ ys) h = ap (λ (z : Bool). z || list_any test ys) (same a b h.0) ∙ ap (λ (z : Bool). test a || z) (like_any xs ys h.1)
  like_any [] (b ∷ ys) h = absurd h
  like_any (a ∷ xs) [] h = absurd h

  like_all : (xs ys : List SubSeen) → AreLike xs ys → list_all test ys ≡ list_all test xs
  like_all [] [] h = refl
  like_all (a ∷ xs) (b ∷ ys) h = ap (λ (z : Bool). z && list_all test ys) (same a b h.0) ∙ ap (λ (z : Bool). test a && z) (like_all xs ys h.1)
  like_all [] (b ∷ ys) h = absurd h
  like_all (a ∷ xs) [] h = absurd h

among_same : (failed : List ℕ) (a b : SubSeen) → IsLike a b → is_among failed b ≡ is_among failed a
among_same failed a b h = ap (is_one_of failed) h.number

-- tiers
module _ (width : ℕ) (xs ys : List SubSeen) (h : AreLike xs ys) where
  tier_like : (t : ℕ) → AreLike (tier width xs t) (tier width ys t)
  tier_like t = like_take width (drop (t * width) xs) (drop (t * width) ys) (like_drop (t * width) xs ys h)

  module _ (test : List SubSeen → Bool) (same : (as_ bs : List SubSeen) → AreLike as_ bs → test bs ≡ test as_) where
    places : (n : ℕ) (ts : List ℕ) → position_from test n (map (tier width ys) ts) ≡ position_from test n (map (tier width xs) ts)
    places n [] = refl
    places n (t ∷ ts) =
        ap (λ (z : Bool). cond z (Some n) (position_from test (n + 1) (map (tier width ys) ts))) (same (tier width xs t) (tier width ys t) (tier_like t))
        ∙ ap (λ (o : Option ℕ). cond (test (tier width xs t)) (Some n) o) (places (n + 1) ts)

    pub first_same : first_tier test width ys ≡ first_tier test width xs
    first_same =
        ap (λ (len : ℕ). position_from test 0 (map (tier width ys) (range_with_len 0 len))) (like_length xs ys h)
        ∙ places 0 (range_with_len 0 (length xs))

tier_ready : (as_ bs : List SubSeen) → AreLike as_ bs → tier_is_ready bs ≡ tier_is_ready as_
tier_ready as_ bs h = like_any (λ (s : SubSeen). is_ready s.state) (λ a b k. k.ready) as_ bs h

tier_up : (failed : List ℕ) (as_ bs : List SubSeen) → AreLike as_ bs → not (tier_has_failed failed bs) ≡ not (tier_has_failed failed as_)
tier_up failed as_ bs h =
    ap (λ (z : Bool). not (not z && list_all (is_among failed) bs)) (tier_ready as_ bs h)
    ∙ ap (λ (z : Bool). not (not (tier_is_ready as_) && z)) (like_all (is_among failed) (among_same failed) as_ bs h)

by_both : (r q h k : Bool) → r ≡ q → h ≡ k → state_by r h ≡ state_by q k
by_both r q h k e f = ap (λ (z : Bool). state_by z h) e ∙ ap (state_by q) f

pub state_like : (k : Kind) (width : ℕ) (failed : List ℕ) (xs ys : List SubSeen) → AreLike xs ys → state_of_kind k width failed ys ≡ state_of_kind k width failed xs
state_like kind.PickFirst width failed xs ys h =
    by_both (has_state is_ready ys) (has_state is_ready xs) (list_any (λ (s : SubSeen). not (is_among failed s)) ys) (list_any (λ (s : SubSeen). not (is_among failed s)) xs)
    (like_any (λ (s : SubSeen). is_ready s.state) (λ a b k. k.ready) xs ys h)
    (like_any (λ (s : SubSeen). not (is_among failed s)) (λ a b k. ap not (among_same failed a b k)) xs ys h)
state_like kind.RoundRobin width failed xs ys h =
    by_both (has_state is_ready ys) (has_state is_ready xs) (has_state is_open ys) (has_state is_open xs)
    (like_any (λ (s : SubSeen). is_ready s.state) (λ a b k. k.ready) xs ys h) (like_any (λ (s : SubSeen). is_open s.state) (λ a b k. k.open_) xs ys h)
state_like kind.Priority width failed xs ys h =
    by_both (is_some (first_tier tier_is_ready width ys)) (is_some (first_tier tier_is_ready width xs))
    (is_some (first_tier (λ t. not (tier_has_failed failed t)) width ys)) (is_some (first_tier (λ t. not (tier_has_failed failed t)) width xs))
    (ap (λ (o : Option ℕ). is_some o) (first_same width xs ys h tier_is_ready tier_ready))
    (ap (λ (o : Option ℕ). is_some o) (first_same width xs ys h (λ t. not (tier_has_failed failed t)) (tier_up failed)))

-- one that is IDLE becomes CONNECTING
abbrev pub IsIdleIn : ℕ → SubSeen → Type 0
IsIdleIn sub e = (e.sub == sub) ≡ true → e.state ≡ conn.Idle

abbrev pub AreIdleIn : ℕ → List SubSeen → Type 0
AreIdleIn sub [] = Unit {0}
AreIdleIn sub (e ∷ view) = IsIdleIn sub e × AreIdleIn sub view

like_if : (sub : ℕ) (e : SubSeen) (b : Bool) → (e.sub == sub) ≡ b → IsIdleIn sub e → IsLike e (if b then record e { state = conn.Connecting } else e)
like_if sub e true is idle =
    let was : e.state ≡ conn.Idle = idle is in
    record { number = refl; ready = sym (ap is_ready was); open_ = sym (ap is_open was) }
like_if sub e false is idle = record { number = refl; ready = refl; open_ = refl }

noted_like : (sub : ℕ) (view : List SubSeen) → AreIdleIn sub view → AreLike view (map (noted_sub sub conn.Connecting) view)
noted_like sub [] h = tt
noted_like sub (e ∷ view) h = (like_if sub e (e.sub == sub) refl h.0, noted_like sub view h.1)

pub starting_state : (sub : ℕ) (p : PolicySeen) → AreIdleIn sub p.view → state_of (noted sub conn.Connecting p) ≡ state_of p
starting_state sub p h = state_like p.kind p.width p.failed p.view (map (noted_sub sub conn.Connecting) p.view) (noted_like sub p.view h)
