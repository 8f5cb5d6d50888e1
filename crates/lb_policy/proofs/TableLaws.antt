-- The laws of the table.
use Rattle.std.proofs.Common.{◌≡◌, ℕ, zero, suc, ◌+◌, ◌*◌, ◌%◌, ◌<◌, ◌∙◌, Bool, true, false, not, ◌||◌, is_some, cond, if◌then◌else◌, Option, Some, None, List, [], ◌∷◌, length, map, take, drop, get_or, slice_get, refl, ap, sym, subst, arith}
use Rattle.std.specs.List.{filter, position_from, range_with_len}
use Rattle.std.specs.Option.{option_map_or}
use Rattle.std.proofs.lemmas.Option.{none-some, same_Some, slice_get-get_or}
use Rattle.std.proofs.Math.Nat.{add-mod_right, mod-lt}
use Rattle.grpc_base.specs.declared.event.Conn.{Conn}
use Rattle.grpc_base.specs.declared.event.Conn.TheVariants as conn
use Rattle.grpc_base.specs.declared.kind.Kind.{Kind}
use Rattle.grpc_base.specs.declared.kind.Kind.TheVariants as kind
use Rattle.grpc_base.specs.declared.kind.Pick.TheVariants as pick
use Rattle.lb_policy.specs.declared.seen.SubSeen.{SubSeen}
use Rattle.lb_policy.specs.Table.{is_ready, is_open, is_starting, subs_in, has_state, tier, first_tier, tier_is_ready, tier_has_failed, state_by, state_of_view, state_of_kind, wish_by, pick_at, pick_by, pick_without}
use Rattle.lb_policy.specs.Laws.{IsIn, FitsState, PicksFollowState, WishesAreInView, RoundRobinGoesRound}

-- a subchannel of a view, in such a state and with this number
abbrev pub Found : (Conn → Bool) → List SubSeen → ℕ → Type 0
Found test view n = (s : SubSeen) × IsIn view s × (test s.state ≡ true) × (s.sub ≡ n)

found-later : (test : Conn → Bool) (s : SubSeen) (view : List SubSeen) (n : ℕ) → Found test view n → Found test (s ∷ view) n
found-later test s view n h = (h.0, record { place = suc h.1.place; at = h.1.at }, h.2, h.3)

found-step : (test : Conn → Bool) (s : SubSeen) (view : List SubSeen) (i n : ℕ) (b : Bool) → test s.state ≡ b → slice_get (map (λ (t : SubSeen). t.sub) (cond b (s ∷ filter (λ (t : SubSeen). test t.state) view) (filter (λ (t : SubSeen). test t.state) view))) i ≡ Some n → ((j : ℕ) → slice_get (subs_in test view) j ≡ Some n → Found test view n) → Found test (s ∷ view) n
found-step test s view zero n true t e next = (s, record { place = zero; at = refl }, t, same_Some _ _ e)
found-step test s view (suc i) n true t e next = found-later test s view n (next i e)
found-step test s view i n false t e next = found-later test s view n (next i e)

pub found : (test : Conn → Bool) (view : List SubSeen) (i n : ℕ) → slice_get (subs_in test view) i ≡ Some n → Found test view n
found test [] i n e = absurd (none-some n e)
found test (s ∷ view) i n e = found-step test s view i n (test s.state) refl e (λ j. found test view j n)

no-case : (A : Type 0) → false ≡ true → A
no-case A e = let g : ⊥ = (cc) in absurd g

-- whether there is one
some-step : (test : Conn → Bool) (s : SubSeen) (view : List SubSeen) (b : Bool) → (b || has_state test view) ≡ true → (has_state test view ≡ true → 0 < length (subs_in test view)) → 0 < length (map (λ (t : SubSeen). t.sub) (cond b (s ∷ filter (λ (t : SubSeen). test t.state) view) (filter (λ (t : SubSeen). test t.state) view)))
some-step test s view true h next = omega arith
some-step test s view false h next = next h

pub some-in : (test : Conn → Bool) (view : List SubSeen) → has_state test view ≡ true → 0 < length (subs_in test view)
some-in test [] h = no-case (0 < length (subs_in test [])) h
some-in test (s ∷ view) h = some-step test s view (test s.state) h (some-in test view)

none-step : (test : Conn → Bool) (s : SubSeen) (view : List SubSeen) (b : Bool) → (b || has_state test view) ≡ false → (has_state test view ≡ false → subs_in test view ≡ []) → map (λ (t : SubSeen). t.sub) (cond b (s ∷ filter (λ (t : SubSeen). test t.state) view) (filter (λ (t : SubSeen). test t.state) view)) ≡ []
none-step test s view true h next = search
none-step test s view false h next = next h

pub none-in : (test : Conn → Bool) (view : List SubSeen) → has_state test view ≡ false → subs_in test view ≡ []
none-in test [] h = refl
none-in test (s ∷ view) h = none-step test s view (test s.state) h (none-in test view)

-- a part of a list
pub taken-in : (m : ℕ) (view : List SubSeen) (i : ℕ) (s : SubSeen) → slice_get (take m view) i ≡ Some s → (i < m) × (slice_get view i ≡ Some s)
taken-in zero view i s e = absurd (none-some s e)
taken-in (suc m) [] i s e = absurd (none-some s e)
taken-in (suc m) (t ∷ view) zero s e = (omega arith, e)
taken-in (suc m) (t ∷ view) (suc i) s e =
    let h : (i < m) × (slice_get view i ≡ Some s) = taken-in m view i s e in
    let within : i < m = h.0 in
    (omega (arith, within), h.1)

pub dropped-in : (d : ℕ) (view : List SubSeen) (i : ℕ) (s : SubSeen) → slice_get (drop d view) i ≡ Some s → slice_get view (d + i) ≡ Some s
dropped-in zero view i s e = let h : i ≡ 0 + i = omega arith in subst (λ (k : ℕ). slice_get view k ≡ Some s) h e
dropped-in (suc d) [] i s e = absurd (none-some s e)
dropped-in (suc d) (t ∷ view) i s e =
    let h : suc (d + i) ≡ suc d + i = omega arith in
    subst (λ (k : ℕ). slice_get (t ∷ view) k ≡ Some s) h (dropped-in d view i s e)

found-taken : (test : Conn → Bool) (m : ℕ) (view : List SubSeen) (n : ℕ) → Found test (take m view) n → Found test view n
found-taken test m view n h = (h.0, record { place = h.1.place; at = (taken-in m view h.1.place h.0 h.1.at).1 }, h.2, h.3)

found-tier : (test : Conn → Bool) (w t : ℕ) (view : List SubSeen) (n : ℕ) → Found test (tier w view t) n → Found test view n
found-tier test w t view n h =
    let g : Found test (drop (t * w) view) n = found-taken test w (drop (t * w) view) n h in
    (g.0, record { place = t * w + g.1.place; at = dropped-in (t * w) view g.1.place g.0 g.1.at }, g.2, g.3)

-- the first tier that passes a test passes it
passes-step : (test : List SubSeen → Bool) (f : ℕ → List SubSeen) (k t : ℕ) (b : Bool) (rest : Option ℕ) → test (f k) ≡ b → cond b (Some k) rest ≡ Some t → (rest ≡ Some t → test (f t) ≡ true) → test (f t) ≡ true
passes-step test f k t true rest h e next = subst (λ (j : ℕ). test (f j) ≡ true) (same_Some k t e) h
passes-step test f k t false rest h e next = next e

passes : (test : List SubSeen → Bool) (f : ℕ → List SubSeen) (n k t : ℕ) → position_from test k (map f (range_with_len k n)) ≡ Some t → test (f t) ≡ true
passes test f zero k t e = absurd (none-some t e)
passes test f (suc n) k t e = passes-step test f k t (test (f k)) _ refl e (passes test f n (k + 1) t)

-- a READY subchannel is picked where there is one, and else what the state says
ready-state : (s : Conn) → is_ready s ≡ true → s ≡ conn.Ready
ready-state conn.Ready e = refl
ready-state conn.Idle e = search
ready-state conn.Connecting e = search
ready-state conn.Failure e = search
ready-state conn.Shutdown e = search

abbrev AreReady : List SubSeen → List ℕ → Type 0
AreReady view choices = (i n : ℕ) → slice_get choices i ≡ Some n → Found is_ready view n

fits-ready : (view : List SubSeen) (choices : List ℕ) (place n : ℕ) (state : Conn) → Found is_ready view n → slice_get choices place ≡ Some n → FitsState view conn.Ready (pick_at choices place state)
fits-ready view choices place n state h e =
    (h.0, h.1, ready-state h.0.state h.2, ap (λ (o : Option ℕ). option_map_or pick.Place o (pick_without state)) e ∙ ap pick.Place (sym h.3))

without : (view : List SubSeen) (hope : Bool) → FitsState view (state_by false hope) (pick_without (state_by false hope))
without view true = refl
without view false = refl

fits : (view : List SubSeen) (ready hope : Bool) (choices : List ℕ) (place : ℕ) → AreReady view choices → (ready ≡ true → place < length choices) → (ready ≡ false → choices ≡ []) → FitsState view (state_by ready hope) (pick_at choices place (state_by ready hope))
fits view true hope choices place from some none =
    let e : slice_get choices place ≡ Some (get_or choices place 0) = slice_get-get_or choices place 0 (some refl) in
    fits-ready view choices place (get_or choices place 0) conn.Ready (from place (get_or choices place 0) e) e
fits view false hope choices place from some none =
    subst (λ (ns : List ℕ). FitsState view (state_by false hope) (pick_at ns place (state_by false hope))) (sym (none refl)) (without view hope)

ready-choices : (view : List SubSeen) → AreReady view (subs_in is_ready view)
ready-choices view i n e = found is_ready view i n e

abbrev pub choices_of : ℕ → List SubSeen → Option ℕ → List ℕ
choices_of w view o = option_map_or (λ t. subs_in is_ready (tier w view t)) o []

abbrev ArePassed : ℕ → List SubSeen → Option ℕ → Type 0
ArePassed w view o = (t : ℕ) → o ≡ Some t → tier_is_ready (tier w view t) ≡ true

fits-tiers : (w : ℕ) (view : List SubSeen) (turns : ℕ) (hope : Bool) (o : Option ℕ) → ArePassed w view o → FitsState view (state_by (is_some o) hope) (pick_at (choices_of w view o) (turns % length (choices_of w view o)) (state_by (is_some o) hope))
fits-tiers w view turns hope None passed = without view hope
fits-tiers w view turns hope (Some t) passed =
    fits view true hope (choices_of w view (Some t)) _ (λ i n e. found-tier is_ready w t view n (found is_ready (tier w view t) i n e)) (λ e. mod-lt turns (some-in is_ready (tier w view t) (passed t refl))) (λ e. no-case _ (sym e))

follow : (k : Kind) (w : ℕ) (failed : List ℕ) (view : List SubSeen) (turns : ℕ) → FitsState view (state_of_kind k w failed view) (pick_by k w failed view turns)
follow kind.PickFirst w failed view turns =
    fits view (has_state is_ready view) _ (subs_in is_ready view) 0 (ready-choices view) (some-in is_ready view) (none-in is_ready view)
follow kind.RoundRobin w failed view turns =
    fits view (has_state is_ready view) _ (subs_in is_ready view) _ (ready-choices view) (λ e. mod-lt turns (some-in is_ready view e)) (none-in is_ready view)
follow kind.Priority w failed view turns =
    fits-tiers w view turns _ (first_tier tier_is_ready w view) (λ t e. passes tier_is_ready (tier w view) (length view) 0 t e)

pub picks-follow : PicksFollowState
picks-follow p = follow p.kind p.width p.failed p.view p.turns

-- what is wished is in the view
abbrev InView : List SubSeen → ℕ → Type 0
InView view n = (s : SubSeen) × IsIn view s × (s.sub ≡ n)

found-in : (test : Conn → Bool) (view : List SubSeen) (n : ℕ) → Found test view n → InView view n
found-in test view n h = (h.0, h.1, h.3)

first-only : (ns : List ℕ) (i n : ℕ) → slice_get (take 1 ns) i ≡ Some n → slice_get ns i ≡ Some n
first-only [] i n e = e
first-only (m ∷ ns) zero n e = e
first-only (m ∷ ns) (suc i) n e = absurd (none-some n e)

wishes-first : (view : List SubSeen) (r : Bool) (i n : ℕ) → slice_get (if r then [] else take 1 (subs_in is_open view)) i ≡ Some n → InView view n
wishes-first view true i n e = absurd (none-some n e)
wishes-first view false i n e = found-in is_open view n (found is_open view i n (first-only (subs_in is_open view) i n e))

wishes-tiers : (w : ℕ) (view : List SubSeen) (o : Option ℕ) (i n : ℕ) → slice_get (subs_in is_starting (option_map_or (λ k. take ((k + 1) * w) view) o view)) i ≡ Some n → InView view n
wishes-tiers w view None i n e = found-in is_starting view n (found is_starting view i n e)
wishes-tiers w view (Some k) i n e =
    found-in is_starting view n (found-taken is_starting ((k + 1) * w) view n (found is_starting (take ((k + 1) * w) view) i n e))

wishes-by : (k : Kind) (w : ℕ) (failed : List ℕ) (view : List SubSeen) (i n : ℕ) → slice_get (wish_by k w failed view) i ≡ Some n → InView view n
wishes-by kind.PickFirst w failed view i n e = wishes-first view (has_state is_ready view) i n e
wishes-by kind.RoundRobin w failed view i n e = found-in is_starting view n (found is_starting view i n e)
wishes-by kind.Priority w failed view i n e = wishes-tiers w view (first_tier (λ t. not (tier_has_failed failed t)) w view) i n e

pub wishes-in : WishesAreInView
wishes-in p i n e = wishes-by p.kind p.width p.failed p.view i n e

round-by : (w : ℕ) (failed : List ℕ) (view : List SubSeen) (turns : ℕ) → pick_by kind.RoundRobin w failed view (turns + length (subs_in is_ready view)) ≡ pick_by kind.RoundRobin w failed view turns
round-by w failed view turns =
    ap (λ (place : ℕ). pick_at (subs_in is_ready view) place (state_of_view view)) (add-mod_right turns (length (subs_in is_ready view)))

pub goes-round : RoundRobinGoesRound
goes-round p e =
    subst (λ (k : Kind). pick_by k p.width p.failed p.view (p.turns + length (subs_in is_ready p.view)) ≡ pick_by k p.width p.failed p.view p.turns) (sym e) (round-by p.width p.failed p.view p.turns)
