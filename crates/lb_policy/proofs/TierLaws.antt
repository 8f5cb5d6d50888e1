-- The tiers of a view, by places; and the laws of priority.
use Rattle.std.proofs.Common.{◌≡◌, ℕ, zero, suc, ◌+◌, ◌*◌, ◌/◌, ◌≤◌, ◌<◌, ◌==◌, ◌∙◌, Bool, true, false, not, ◌||◌, ◌&&◌, is_some, cond, Option, Some, None, List, [], ◌∷◌, length, map, take, drop, slice_get, refl, ap, sym, subst, arith}
use Rattle.std.specs.List.{list_any, list_all, position_from, range_with_len}
use Rattle.std.specs.Option.{option_map, option_map_or}
use Rattle.std.proofs.lemmas.Option.{none-some, same_Some, slice_get-map}
use Rattle.std.proofs.lemmas.List.{drop-drop, drop_all}
use Rattle.std.proofs.lemmas.Bool.{or_parts, eqb-true, eq-eqb}
use Rattle.std.proofs.lemmas.Nat.{div-mul-add, le-div}
use Rattle.std.proofs.Math.Nat.{add-mul, add-div_left, div-eq_of_lt, div-mul-le_self, div-lt_iff_lt-mul, lt_of_not-le}
use Rattle.grpc_base.specs.declared.event.Conn.{Conn}
use Rattle.grpc_base.specs.declared.event.Conn.TheVariants as conn
use Rattle.grpc_base.specs.declared.kind.Kind.{Kind}
use Rattle.grpc_base.specs.declared.kind.Pick.TheVariants as pick
use Rattle.lb_policy.specs.declared.seen.SubSeen.{SubSeen}
use Rattle.lb_policy.specs.Table.{PolicySeen, is_ready, is_starting, is_among, subs_in, tier, tiers, first_tier, tier_is_ready, tier_has_failed, upholds_tier, state_by, lasting_state, state_of_tiers, state_of_kind, wish_by, pick_without, pick_at, pick_by, pick_of, state_of, IsWithoutRepeats}
use Rattle.lb_policy.specs.Steps.{noted, noted_sub}
use Rattle.lb_policy.specs.Laws.{FitsState, StandsAt, HasTiers, NoneIsReadyBefore, AllFailedBefore, NoPickPassesAReadyTier, NoWishPassesATierThatHasNotFailed, ARecoveredTierIsUsed}
use Rattle.lb_policy.proofs.TableLaws.{Found, found, taken-in, dropped-in, choices_of, picks-follow}
use Rattle.lb_policy.proofs.NoteLaws.{noted-by}

-- the first place that passes a test, counted from elsewhere
shift-step : (test : SubSeen → Bool) (j m : ℕ) (b : Bool) (rest rest' : Option ℕ) → rest' ≡ option_map (λ (i : ℕ). m + i) rest → cond b (Some (j + m)) rest' ≡ option_map (λ (i : ℕ). m + i) (cond b (Some j) rest)
shift-step test j m true rest rest' e = let h : j + m ≡ m + j = omega arith in ap Some h
shift-step test j m false rest rest' e = e

shift : (test : SubSeen → Bool) (j m : ℕ) (view : List SubSeen) → position_from test (j + m) view ≡ option_map (λ (i : ℕ). m + i) (position_from test j view)
shift test j m [] = refl
shift test j m (s ∷ view) =
    let h : j + m + 1 ≡ j + 1 + m = omega arith in
    shift-step test j m (test s) (position_from test (j + 1) view) (position_from test (j + m + 1) view) (ap (λ (k : ℕ). position_from test k view) h ∙ shift test (j + 1) m view)

-- it is before a place, or after
prefix-step : (test : SubSeen → Bool) (j w : ℕ) (view : List SubSeen) (b : Bool) → (b || list_any test (take w view)) ≡ true → (list_any test (take w view) ≡ true → (i : ℕ) × (i < w) × (position_from test (j + 1) view ≡ Some (j + 1 + i))) → (i : ℕ) × (i < suc w) × (cond b (Some j) (position_from test (j + 1) view) ≡ Some (j + i))
prefix-step test j w view true h next = let e : j ≡ j + 0 = omega arith in (0, omega arith, ap Some e)
prefix-step test j w view false h next =
    let g : (i : ℕ) × (i < w) × (position_from test (j + 1) view ≡ Some (j + 1 + i)) = next h in
    let within : g.0 < w = g.1 in
    let e : j + 1 + g.0 ≡ j + suc g.0 = omega arith in
    (suc g.0, omega (arith, within), g.2 ∙ ap Some e)

prefix : (test : SubSeen → Bool) (j w : ℕ) (view : List SubSeen) → list_any test (take w view) ≡ true → (i : ℕ) × (i < w) × (position_from test j view ≡ Some (j + i))
prefix test j zero view h = let g : ⊥ = (cc) in absurd g
prefix test j (suc w) [] h = let g : ⊥ = (cc) in absurd g
prefix test j (suc w) (s ∷ view) h = prefix-step test j w view (test s) h (prefix test (j + 1) w view)

afterwards : (test : SubSeen → Bool) (j w : ℕ) (view : List SubSeen) → list_any test (take w view) ≡ false → position_from test j view ≡ position_from test (j + w) (drop w view)
afterwards test j zero view h = let e : j ≡ j + 0 = omega arith in ap (λ (k : ℕ). position_from test k view) e
afterwards test j (suc w) [] h = refl
afterwards test j (suc w) (s ∷ view) h =
    let parts : (test s ≡ false) × (list_any test (take w view) ≡ false) = or_parts (test s) (list_any test (take w view)) h in
    let e : j + 1 + w ≡ j + suc w = omega arith in
    ap (λ (b : Bool). cond b (Some j) (position_from test (j + 1) view)) parts.0 ∙ afterwards test (j + 1) w view parts.1 ∙ ap (λ (k : ℕ). position_from test k (drop w view)) e

-- the first tier with a subchannel that passes a test is that of the first such subchannel
one-further : (w k : ℕ) → 0 < w → (o : Option ℕ) → option_map (λ (i : ℕ). k + 1 + i / w) o ≡ option_map (λ (i : ℕ). k + i / w) (option_map (λ (i : ℕ). w + i) o)
one-further w k h None = refl
one-further w k h (Some i) =
    let e : (w + i) / w ≡ i / w + 1 = add-div_left i h in
    let g : k + 1 + i / w ≡ k + (w + i) / w = omega (arith, e) in
    ap Some g

tier-step : (test : SubSeen → Bool) (w k : ℕ) (view : List SubSeen) (b : Bool) (rest : Option ℕ) → 0 < w → list_any test (take w view) ≡ b → rest ≡ option_map (λ (i : ℕ). k + 1 + i / w) (position_from test 0 (drop w view)) → cond b (Some k) rest ≡ option_map (λ (i : ℕ). k + i / w) (position_from test 0 view)
tier-step test w k view true rest h e next =
    let g : (i : ℕ) × (i < w) × (position_from test 0 view ≡ Some (0 + i)) = prefix test 0 w view e in
    let at : 0 + g.0 ≡ g.0 = omega arith in
    let first : g.0 / w ≡ 0 = div-eq_of_lt g.1 in
    let same : k ≡ k + g.0 / w = omega (arith, first) in
    ap Some same ∙ sym (ap (option_map (λ (i : ℕ). k + i / w)) (g.2 ∙ ap Some at))
tier-step test w k view false rest h e next =
    next ∙ one-further w k h (position_from test 0 (drop w view)) ∙ ap (option_map (λ (i : ℕ). k + i / w)) (sym (afterwards test 0 w view e ∙ shift test 0 w (drop w view)))

tier-from : (test : SubSeen → Bool) (w : ℕ) (view : List SubSeen) → 0 < w → (n k : ℕ) → length view ≤ k * w + n → position_from (λ (members : List SubSeen). list_any test members) k (map (tier w view) (range_with_len k n)) ≡ option_map (λ (i : ℕ). k + i / w) (position_from test 0 (drop (k * w) view))
tier-from test w view h zero k long =
    let past : length view ≤ k * w = omega (arith, long) in
    sym (ap (λ (rest : List SubSeen). option_map (λ (i : ℕ). k + i / w) (position_from test 0 rest)) (drop_all (k * w) view past))
tier-from test w view h (suc n) k long =
    let more : (k + 1) * w ≡ k * w + 1 * w = add-mul k 1 w in
    let one : 1 * w ≡ w = omega arith in
    let next : length view ≤ (k + 1) * w + n = omega (arith, more, one, long, h) in
    let on : k * w + w ≡ (k + 1) * w = omega (arith, more, one) in
    let dropped : drop ((k + 1) * w) view ≡ drop w (drop (k * w) view) = sym (drop-drop w (k * w) view ∙ ap (λ (d : ℕ). drop d view) on) in
    tier-step test w k (drop (k * w) view) (list_any test (take w (drop (k * w) view))) _ h refl (tier-from test w view h n (k + 1) next ∙ ap (λ (rest : List SubSeen). option_map (λ (i : ℕ). k + 1 + i / w) (position_from test 0 rest)) dropped)

zero-map : (w : ℕ) (o : Option ℕ) → option_map (λ (i : ℕ). 0 + i / w) o ≡ option_map (λ (i : ℕ). i / w) o
zero-map w None = refl
zero-map w (Some i) = let e : 0 + i / w ≡ i / w = omega arith in ap Some e

pub tier-of-first : (test : SubSeen → Bool) (w : ℕ) (view : List SubSeen) → 0 < w → first_tier (λ (members : List SubSeen). list_any test members) w view ≡ option_map (λ (i : ℕ). i / w) (position_from test 0 view)
tier-of-first test w view h =
    let none : 0 * w ≡ 0 = omega arith in
    let long : length view ≤ 0 * w + length view = omega arith in
    tier-from test w view h (length view) 0 long ∙ zero-map w (position_from test 0 (drop (0 * w) view)) ∙ ap (λ (d : ℕ). option_map (λ (i : ℕ). i / w) (position_from test 0 (drop d view))) none

-- a tier has not failed if one of its subchannels upholds it
tier-stands-step : (r a any all some : Bool) → not (not any && all) ≡ some → not (not (r || any) && (a && all)) ≡ ((r || not a) || some)
tier-stands-step true a any all some e = refl
tier-stands-step false true any all some e = e
tier-stands-step false false true all some e = refl
tier-stands-step false false false all some e = refl

tier-stands : (failed : List ℕ) (members : List SubSeen) → not (tier_has_failed failed members) ≡ list_any (upholds_tier failed) members
tier-stands failed [] = refl
tier-stands failed (s ∷ members) =
    tier-stands-step (is_ready s.state) (is_among failed s) (tier_is_ready members) (list_all (is_among failed) members) (list_any (upholds_tier failed) members) (tier-stands failed members)

position-same : {A : Type 0} (t u : A → Bool) → ((x : A) → t x ≡ u x) → (k : ℕ) (xs : List A) → position_from t k xs ≡ position_from u k xs
position-same t u same k [] = refl
position-same t u same k (x ∷ xs) =
    ap (λ (b : Bool). cond b (Some k) (position_from t (k + 1) xs)) (same x) ∙ ap (λ (o : Option ℕ). cond (u x) (Some k) o) (position-same t u same (k + 1) xs)

pub standing-tier : (failed : List ℕ) (w : ℕ) (view : List SubSeen) → 0 < w → first_tier (λ (t : List SubSeen). not (tier_has_failed failed t)) w view ≡ option_map (λ (i : ℕ). i / w) (position_from (upholds_tier failed) 0 view)
standing-tier failed w view h =
    position-same (λ (t : List SubSeen). not (tier_has_failed failed t)) (λ (t : List SubSeen). list_any (upholds_tier failed) t) (tier-stands failed) 0 (tiers w view) ∙ tier-of-first (upholds_tier failed) w view h

pub ready-tier : (w : ℕ) (view : List SubSeen) → 0 < w → first_tier tier_is_ready w view ≡ option_map (λ (i : ℕ). i / w) (position_from (λ (s : SubSeen). is_ready s.state) 0 view)
ready-tier w view h = tier-of-first (λ (s : SubSeen). is_ready s.state) w view h

-- the state of tiers is that of pick_first
some-map : (w : ℕ) (o : Option ℕ) → is_some (option_map (λ (i : ℕ). i / w) o) ≡ is_some o
some-map w None = refl
some-map w (Some i) = refl

some-place-step : (b any : Bool) (k : ℕ) (o : Option ℕ) → is_some o ≡ any → is_some (cond b (Some k) o) ≡ (b || any)
some-place-step true any k o e = refl
some-place-step false any k o e = e

some-place : (test : SubSeen → Bool) (k : ℕ) (view : List SubSeen) → is_some (position_from test k view) ≡ list_any test view
some-place test k [] = refl
some-place test k (s ∷ view) = some-place-step (test s) (list_any test view) k _ (some-place test (k + 1) view)

any-stands-step : (r a any hope some : Bool) → some ≡ (any || hope) → ((r || not a) || some) ≡ ((r || any) || (not a || hope))
any-stands-step true a any hope some e = refl
any-stands-step false true any hope some e = e
any-stands-step false false true hope some e = refl
any-stands-step false false false hope some e = refl

any-stands : (failed : List ℕ) (view : List SubSeen) → list_any (upholds_tier failed) view ≡ (tier_is_ready view || list_any (λ (s : SubSeen). not (is_among failed s)) view)
any-stands failed [] = refl
any-stands failed (s ∷ view) =
    any-stands-step (is_ready s.state) (is_among failed s) (tier_is_ready view) (list_any (λ (t : SubSeen). not (is_among failed t)) view) (list_any (upholds_tier failed) view) (any-stands failed view)

same-state : (ready hope : Bool) → state_by ready (ready || hope) ≡ state_by ready hope
same-state true hope = refl
same-state false hope = refl

pub tiers-last : (w : ℕ) (failed : List ℕ) (view : List SubSeen) → 0 < w → state_of_tiers w failed view ≡ lasting_state failed view
tiers-last w failed view h =
    let ready : is_some (first_tier tier_is_ready w view) ≡ tier_is_ready view =
    ap is_some (ready-tier w view h) ∙ some-map w (position_from (λ (s : SubSeen). is_ready s.state) 0 view) ∙ some-place (λ (s : SubSeen). is_ready s.state) 0 view in
    let hope : is_some (first_tier (λ (t : List SubSeen). not (tier_has_failed failed t)) w view) ≡ (tier_is_ready view || list_any (λ (s : SubSeen). not (is_among failed s)) view) =
    ap is_some (standing-tier failed w view h) ∙ some-map w (position_from (upholds_tier failed) 0 view) ∙ some-place (upholds_tier failed) 0 view ∙ any-stands failed view in
    ap (λ (b : Bool). state_by b (is_some (first_tier (λ (t : List SubSeen). not (tier_has_failed failed t)) w view))) ready ∙ ap (state_by (tier_is_ready view)) hope ∙ same-state (tier_is_ready view) (list_any (λ (s : SubSeen). not (is_among failed s)) view)

-- no place before the first passes
before-step : (test : SubSeen → Bool) (j m i : ℕ) (s t : SubSeen) (view : List SubSeen) (b : Bool) → test t ≡ b → cond b (Some j) (position_from test (j + 1) view) ≡ Some m → slice_get (t ∷ view) i ≡ Some s → j + i < m → ((k : ℕ) → position_from test (j + 1) view ≡ Some m → slice_get view k ≡ Some s → j + 1 + k < m → test s ≡ false) → test s ≡ false
before-step test j m i s t view true h e at within next = let same : j ≡ m = same_Some j m e in let g : ⊥ = omega (arith, within, same) in absurd g
before-step test j m zero s t view false h e at within next = subst (λ (x : SubSeen). test x ≡ false) (same_Some t s at) h
before-step test j m (suc i) s t view false h e at within next = next i e at (omega (arith, within))

before : (test : SubSeen → Bool) (j m : ℕ) (view : List SubSeen) (i : ℕ) (s : SubSeen) → position_from test j view ≡ Some m → slice_get view i ≡ Some s → j + i < m → test s ≡ false
before test j m [] i s e at within = absurd (none-some s at)
before test j m (t ∷ view) i s e at within = before-step test j m i s t view (test t) refl e at within (λ k p q r. before test (j + 1) m view k s p q r)

nowhere-step : (test : SubSeen → Bool) (j i : ℕ) (s t : SubSeen) (view : List SubSeen) (b : Bool) → test t ≡ b → cond b (Some j) (position_from test (j + 1) view) ≡ None → slice_get (t ∷ view) i ≡ Some s → ((k : ℕ) → position_from test (j + 1) view ≡ None → slice_get view k ≡ Some s → test s ≡ false) → test s ≡ false
nowhere-step test j i s t view true h e at next = absurd (none-some j (sym e))
nowhere-step test j zero s t view false h e at next = subst (λ (x : SubSeen). test x ≡ false) (same_Some t s at) h
nowhere-step test j (suc i) s t view false h e at next = next i e at

nowhere : (test : SubSeen → Bool) (j : ℕ) (view : List SubSeen) (i : ℕ) (s : SubSeen) → position_from test j view ≡ None → slice_get view i ≡ Some s → test s ≡ false
nowhere test j [] i s e at = absurd (none-some s at)
nowhere test j (t ∷ view) i s e at = nowhere-step test j i s t view (test t) refl e at (λ k p q. nowhere test (j + 1) view k s p q)

-- so none of an earlier tier than the first does
div-up : (m i w : ℕ) → 0 < w → m ≤ i → m / w ≤ i / w
div-up m i w h le =
    let floor : m / w * w ≤ m = div-mul-le_self m w in
    le-div (m / w) i w h (omega (arith, floor, le))

in-prefix : (test : SubSeen → Bool) (w t : ℕ) (view : List SubSeen) → 0 < w → (o : Option ℕ) → position_from test 0 view ≡ o → option_map (λ (i : ℕ). i / w) o ≡ Some t → (i : ℕ) (s : SubSeen) → slice_get view i ≡ Some s → i / w < t → test s ≡ false
in-prefix test w t view h None e f i s at early = absurd (none-some t f)
in-prefix test w t view h (Some m) e f i s at early =
    let same : m / w ≡ t = same_Some (m / w) t f in
    let order : i < m = lt_of_not-le (λ (le : m ≤ i). let up : m / w ≤ i / w = div-up m i w h le in let g : ⊥ = omega (arith, up, same, early) in g) in
    before test 0 m view i s e at (omega (arith, order))

no-tier : (test : SubSeen → Bool) (w : ℕ) (view : List SubSeen) → (o : Option ℕ) → position_from test 0 view ≡ o → option_map (λ (i : ℕ). i / w) o ≡ None → (i : ℕ) (s : SubSeen) → slice_get view i ≡ Some s → test s ≡ false
no-tier test w view None e f i s at = nowhere test 0 view i s e at
no-tier test w view (Some m) e f i s at = absurd (none-some (m / w) (sym f))

-- no pick names a tier while an earlier one is ready
not-placed : (state : Conn) (n : ℕ) → pick_without state ≡ pick.Place n → ⊥
not-placed conn.Failure n e = (cc)
not-placed conn.Idle n e = (cc)
not-placed conn.Connecting n e = (cc)
not-placed conn.Ready n e = (cc)
not-placed conn.Shutdown n e = (cc)

place-of : (o : Option ℕ) (state : Conn) (n : ℕ) → option_map_or pick.Place o (pick_without state) ≡ pick.Place n → o ≡ Some n
place-of None state n e = absurd (not-placed state n e)
place-of (Some m) state n e = ap Some (cc)

picked : (p : PolicySeen) (n place : ℕ) (state : Conn) (o : Option ℕ) → 0 < p.width → first_tier tier_is_ready p.width p.view ≡ o → pick_at (choices_of p.width p.view o) place state ≡ pick.Place n → (t : ℕ) × (s : SubSeen) × StandsAt p t s × (s.sub ≡ n) × (is_ready s.state ≡ true) × NoneIsReadyBefore p t
picked p n place state None h first e = absurd (not-placed state n e)
picked p n place state (Some t) h first e =
    let g : Found is_ready (tier p.width p.view t) n = found is_ready (tier p.width p.view t) place n (place-of (slice_get (subs_in is_ready (tier p.width p.view t)) place) state n e) in
    let taken : (g.1.place < p.width) × (slice_get (drop (t * p.width) p.view) g.1.place ≡ Some g.0) = taken-in p.width (drop (t * p.width) p.view) g.1.place g.0 g.1.at in
    let stands-at : StandsAt p t g.0 = record { place = t * p.width + g.1.place; at = dropped-in (t * p.width) p.view g.1.place g.0 taken.1; within = div-mul-add t p.width g.1.place taken.0 } in
    (t, g.0, stands-at, g.3, g.2, λ u r early at. in-prefix (λ (s : SubSeen). is_ready s.state) p.width t p.view h (position_from (λ (s : SubSeen). is_ready s.state) 0 p.view) refl (sym (ready-tier p.width p.view h) ∙ first) at.place r at.at (let same : at.place / p.width ≡ u = at.within in omega (arith, same, early)))

pub no-pick-passes : NoPickPassesAReadyTier
no-pick-passes p n h e =
    picked p n _ _ (first_tier tier_is_ready p.width p.view) h.wide refl (subst (λ (k : Kind). pick_by k p.width p.failed p.view p.turns ≡ pick.Place n) h.kind e)

-- a later tier is wished only where every earlier one has failed
failed-part : (ready failed : Bool) → (ready || not failed) ≡ false → (ready ≡ false) × (failed ≡ true)
failed-part false true e = (refl, refl)
failed-part false false e = let g : ⊥ = (cc) in absurd g
failed-part true failed e = let g : ⊥ = (cc) in absurd g

wished : (p : PolicySeen) (i n : ℕ) (o : Option ℕ) → 0 < p.width → first_tier (λ (t : List SubSeen). not (tier_has_failed p.failed t)) p.width p.view ≡ o → slice_get (subs_in is_starting (option_map_or (λ (k : ℕ). take ((k + 1) * p.width) p.view) o p.view)) i ≡ Some n → (t : ℕ) × (s : SubSeen) × StandsAt p t s × (s.sub ≡ n) × AllFailedBefore p t
wished p i n None h first e =
    let g : Found is_starting p.view n = found is_starting p.view i n e in
    (g.1.place / p.width, g.0, record { place = g.1.place; at = g.1.at; within = refl }, g.3, λ u r early at. failed-part (is_ready r.state) (is_among p.failed r) (no-tier (upholds_tier p.failed) p.width p.view (position_from (upholds_tier p.failed) 0 p.view) refl (sym (standing-tier p.failed p.width p.view h) ∙ first) at.place r at.at))
wished p i n (Some k) h first e =
    let g : Found is_starting (take ((k + 1) * p.width) p.view) n = found is_starting (take ((k + 1) * p.width) p.view) i n e in
    let taken : (g.1.place < (k + 1) * p.width) × (slice_get p.view g.1.place ≡ Some g.0) = taken-in ((k + 1) * p.width) p.view g.1.place g.0 g.1.at in
    let within : g.1.place / p.width < k + 1 = (div-lt_iff_lt-mul {x = g.1.place} {y = k + 1} h).1 taken.0 in
    (g.1.place / p.width, g.0, record { place = g.1.place; at = taken.1; within = refl }, g.3, λ u r early at. failed-part (is_ready r.state) (is_among p.failed r) (in-prefix (upholds_tier p.failed) p.width k p.view h (position_from (upholds_tier p.failed) 0 p.view) refl (sym (standing-tier p.failed p.width p.view h) ∙ first) at.place r at.at (let same : at.place / p.width ≡ u = at.within in omega (arith, same, early, within))))

pub no-wish-passes : NoWishPassesATierThatHasNotFailed
no-wish-passes p i n h e =
    wished p i n (first_tier (λ (t : List SubSeen). not (tier_has_failed p.failed t)) p.width p.view) h.wide refl (subst (λ (k : Kind). slice_get (wish_by k p.width p.failed p.view) i ≡ Some n) h.kind e)

-- a tier that recovers while no earlier one is ready is used
any-step : (test : SubSeen → Bool) (b : Bool) (view : List SubSeen) → b ≡ true → (b || list_any test view) ≡ true
any-step test true view e = refl
any-step test false view e = let g : ⊥ = (cc) in absurd g

any-later : (b any : Bool) → any ≡ true → (b || any) ≡ true
any-later true any e = refl
any-later false any e = e

any-at : (test : SubSeen → Bool) (view : List SubSeen) (i : ℕ) (s : SubSeen) → slice_get view i ≡ Some s → test s ≡ true → list_any test view ≡ true
any-at test [] i s e t = absurd (none-some s e)
any-at test (x ∷ view) zero s e t = any-step test (test x) view (ap test (same_Some x s e) ∙ t)
any-at test (x ∷ view) (suc i) s e t = any-later (test x) (list_any test view) (any-at test view i s e t)

not-both : (b : Bool) → b ≡ true → b ≡ false → ⊥
not-both b t f = (cc)

one-place : (view : List SubSeen) (i j : ℕ) (s u : SubSeen) → IsWithoutRepeats view → slice_get view i ≡ Some s → slice_get view j ≡ Some u → u.sub ≡ s.sub → i ≡ j
one-place [] i j s u h at au e = absurd (none-some s at)
one-place (x ∷ view) zero zero s u h at au e = refl
one-place (x ∷ view) zero (suc j) s u h at au e =
    let same : u.sub ≡ x.sub = e ∙ sym (ap (λ (t : SubSeen). t.sub) (same_Some x s at)) in
    absurd (not-both (list_any (λ (t : SubSeen). t.sub == x.sub) view) (any-at (λ (t : SubSeen). t.sub == x.sub) view j u au (eq-eqb u.sub x.sub same)) h.0)
one-place (x ∷ view) (suc i) zero s u h at au e =
    let same : s.sub ≡ x.sub = sym e ∙ sym (ap (λ (t : SubSeen). t.sub) (same_Some x u au)) in
    absurd (not-both (list_any (λ (t : SubSeen). t.sub == x.sub) view) (any-at (λ (t : SubSeen). t.sub == x.sub) view i s at (eq-eqb s.sub x.sub same)) h.0)
one-place (x ∷ view) (suc i) (suc j) s u h at au e = ap suc (one-place view i j s u h.1 at au e)

map-from : (f : SubSeen → SubSeen) (view : List SubSeen) (i : ℕ) (r : SubSeen) → slice_get (map f view) i ≡ Some r → (u : SubSeen) × (slice_get view i ≡ Some u) × (f u ≡ r)
map-from f [] i r e = absurd (none-some r e)
map-from f (t ∷ view) zero r e = (t, refl, same_Some (f t) r e)
map-from f (t ∷ view) (suc i) r e = map-from f view i r e

self-noted : (s : SubSeen) → is_ready (noted_sub s.sub conn.Ready s).state ≡ true
self-noted s = ap (λ (t : SubSeen). is_ready t.state) (noted-by s.sub conn.Ready s true (eq-eqb s.sub s.sub refl))

abbrev recovered : PolicySeen → SubSeen → PolicySeen
recovered p s = noted s.sub conn.Ready p

recovered-at : (p : PolicySeen) (tier : ℕ) (s : SubSeen) → StandsAt p tier s → StandsAt (recovered p s) tier (noted_sub s.sub conn.Ready s)
recovered-at p tier s at = record {
  place = at.place;
  at = slice_get-map (noted_sub s.sub conn.Ready) p.view at.place ∙ ap (option_map (noted_sub s.sub conn.Ready)) at.at;
  within = at.within;
}

recovered-state : (p : PolicySeen) (tier : ℕ) (s : SubSeen) → HasTiers p → StandsAt p tier s → state_of (recovered p s) ≡ conn.Ready
recovered-state p tier s h at =
    let q : StandsAt (recovered p s) tier (noted_sub s.sub conn.Ready s) = recovered-at p tier s at in
    let any : tier_is_ready (recovered p s).view ≡ true = any-at (λ (t : SubSeen). is_ready t.state) (recovered p s).view q.place _ q.at (self-noted s) in
    ap (λ (k : Kind). state_of_kind k p.width (recovered p s).failed (recovered p s).view) h.kind ∙ tiers-last p.width (recovered p s).failed (recovered p s).view h.wide ∙ ap (λ (b : Bool). state_by b (list_any (λ (t : SubSeen). not (is_among (recovered p s).failed t)) (recovered p s).view)) any

not-later : (p : PolicySeen) (tier t : ℕ) (s : SubSeen) → StandsAt p tier s → NoneIsReadyBefore (recovered p s) t → tier + 1 ≤ t → ⊥
not-later p tier t s at none later =
    not-both _ (self-noted s) (none tier (noted_sub s.sub conn.Ready s) (omega (arith, later)) (recovered-at p tier s at))

not-earlier : (p : PolicySeen) (tier t j : ℕ) (s u r : SubSeen) (b : Bool) → IsWithoutRepeats p.view → StandsAt p tier s → NoneIsReadyBefore p tier → slice_get p.view j ≡ Some u → j / p.width ≡ t → noted_sub s.sub conn.Ready u ≡ r → is_ready r.state ≡ true → (u.sub == s.sub) ≡ b → t + 1 ≤ tier → ⊥
not-earlier p tier t j s u r true once at none au within e ready same early =
    let place : at.place ≡ j = one-place p.view at.place j s u once at.at au (eqb-true u.sub s.sub same) in
    let tiers-same : at.place / p.width ≡ j / p.width = ap (λ (i : ℕ). i / p.width) place in
    let here : at.place / p.width ≡ tier = at.within in
    let g : ⊥ = omega (arith, tiers-same, here, within, early) in g
not-earlier p tier t j s u r false once at none au within e ready same early =
    let still : u ≡ r = sym (noted-by s.sub conn.Ready u false same) ∙ e in
    not-both (is_ready u.state) (ap (λ (x : SubSeen). is_ready x.state) still ∙ ready) (none t u (omega (arith, early)) (record { place = j; at = au; within = within }))

same-number : (t tier : ℕ) → (tier + 1 ≤ t → ⊥) → (t + 1 ≤ tier → ⊥) → t ≡ tier
same-number t tier later earlier =
    let up : t < tier + 1 = lt_of_not-le later in
    let down : tier < t + 1 = lt_of_not-le earlier in
    omega (arith, up, down)

used-by : (p : PolicySeen) (tier n : ℕ) (s : SubSeen) → HasTiers p → IsWithoutRepeats p.view → StandsAt p tier s → NoneIsReadyBefore p tier → pick_of (recovered p s) ≡ pick.Place n → (r : SubSeen) × StandsAt (recovered p s) tier r × (pick_of (recovered p s) ≡ pick.Place r.sub)
used-by p tier n s h once at none e =
    let g : (t : ℕ) × (r : SubSeen) × StandsAt (recovered p s) t r × (r.sub ≡ n) × (is_ready r.state ≡ true) × NoneIsReadyBefore (recovered p s) t = no-pick-passes (recovered p s) n (record { kind = h.kind; wide = h.wide }) e in
    let was : (u : SubSeen) × (slice_get p.view g.2.place ≡ Some u) × (noted_sub s.sub conn.Ready u ≡ g.1) = map-from (noted_sub s.sub conn.Ready) p.view g.2.place g.1 g.2.at in
    let same : g.0 ≡ tier = same-number g.0 tier (not-later p tier g.0 s at g.5) (not-earlier p tier g.0 g.2.place s was.0 g.1 (was.0.sub == s.sub) once at none was.1 g.2.within was.2 g.4 refl) in
    (g.1, subst (λ (t : ℕ). StandsAt (recovered p s) t g.1) same g.2, e ∙ ap pick.Place (sym g.3))

pub recovered-is-used : ARecoveredTierIsUsed
recovered-is-used p tier s h once at none =
    let fit : FitsState (recovered p s).view conn.Ready (pick_of (recovered p s)) = subst (λ (state : Conn). FitsState (recovered p s).view state (pick_of (recovered p s))) (recovered-state p tier s h at) (picks-follow (recovered p s)) in
    used-by p tier fit.0.sub s h once at none fit.3
