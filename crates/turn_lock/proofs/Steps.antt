-- Each kind of step keeps the rule of the table, and shows what it says.
use Rattle.std.proofs.Common.{◌≡◌, ◌≢◌, ◌⊎◌, ℕ, zero, suc, ◌+◌, ◌*◌, ◌<◌, ◌≤◌, ◌%◌, Bool, true, false, true≢false, cond, eqb, MatchBool, List, [], ◌∷◌, ◌++◌, length, drop, get_or, set, refl, sym, ap, ◌∙◌, subst, inl, inr, ⊎_elim, Option, Some, arith, le_refl, length-set, get_or-set_other, get_or-set_same, eq-eqb, ne_eqb}
use Rattle.std.proofs.lemmas.List.{set-get_or}
use Rattle.std.proofs.lemmas.Bool.Decides.{nat_tests}
use mathlib.Core.Option.{Option as Place, some, none, some-injective, some-ne-none}
use lib.ListN.{get_elem?}
use prog.Atomic.{either}
use Rattle.atomic_table.specs.Table.{State, Me, Step, step, keeps, takes, gives, stepped, Allows, Splits, Joins, opening}
use Rattle.atomic_table.proofs.Lists.{at_set, at_snoc, at_longer, set_here, set_else, exchanged}
use Rattle.turn_lock.specs.declared.rule.View.{View}
use Rattle.turn_lock.specs.History.{StartsWith, places, times, Stands, Ascends, once_below, Owns}
use Rattle.turn_lock.specs.Rule.{total, IsFree, IsTaken, Kept, Holds, Hand, first_view, parted, newcomer, joined, spent, numbered, looked, Won, Lost, claimed, published, released}
use Rattle.turn_lock.proofs.Places.{times-append, times-places, times-merged, stands-later, stands-append, stands-places, stands-merged, ascends-places, ascends-append, ascends-merged, starts_self, starts_empty, starts_longer, rest_is, length_later, merged_none}
use Rattle.turn_lock.proofs.Totals.{total-set, total-snoc, total-alone, at_least}

module _ {V : Type 0} where
  each_set : (P : ℕ → V → Type 0) (vs : List V) (id : ℕ) (w : V) → P id w → ((j : ℕ) (u : V) → j ≢ id → get_elem? vs j ≡ some u → P j u)
      → (j : ℕ) (u : V) → get_elem? (set vs id w) j ≡ some u → P j u
  each_set P vs id w mine others j u e = ⊎_elim (λ (x : (j ≡ id) × (w ≡ u)). subst (λ (y : ℕ × V). P y.0 y.1) (λ i. (sym x.0 i, x.1 i)) mine)
      (λ (x : (j ≢ id) × (get_elem? vs j ≡ some u)). others j u x.0 x.1) (at_set vs id j w u e)

  each_snoc : (P : ℕ → V → Type 0) (vs : List V) (w : V) → ((j : ℕ) → P j w) → ((j : ℕ) (u : V) → get_elem? vs j ≡ some u → P j u)
      → (j : ℕ) (u : V) → get_elem? (vs ++ w ∷ []) j ≡ some u → P j u
  each_snoc P vs w mine others j u e = ⊎_elim (λ (x : get_elem? vs j ≡ some u). others j u x) (λ (x : w ≡ u). subst (λ (y : V). P j y) x (mine j)) (at_snoc vs w u j e)

  put_here : (vs : List V) (id : ℕ) (v w : V) → get_elem? vs id ≡ some v → get_elem? (set vs id w) id ≡ some w
  put_here [] id v w e = absurd (some-ne-none v (sym e))
  put_here (x ∷ xs) zero v w e = refl
  put_here (x ∷ xs) (suc id) v w e = put_here xs id v w e

  same_total : (f : V → ℕ) (vs : List V) (id : ℕ) (v w : V) → get_elem? vs id ≡ some v → f w ≡ f v → total f (set vs id w) ≡ total f vs
  same_total f vs id v w at e = let t = total-set f vs id v w at in omega (arith, t, e)

  only_one : (P : V → Type 0) (v : V) → P v → (j : ℕ) (u : V) → get_elem? (v ∷ []) j ≡ some u → P u
  only_one P v p j u e = each_snoc (λ _ (y : V). P y) [] v (λ _. p) (λ i x h. absurd (some-ne-none x (sym h))) j u e

below_once : (x n : ℕ) → once_below x n ≤ 1
below_once x n = grind (arith, nat_tests)

not_true : (b : Bool) → b ≢ true → b ≡ false
not_true true n = absurd (n refl)
not_true false n = refl

module _ {S E : Type 0} (entries : S → List E) (mark : List E → ℕ) (origin : S → List ℕ) (root : List ℕ) where
  abbrev V : Type 0
  V = View E

  abbrev St : Type 0
  St = State (Option S) V

  abbrev M : Type 0
  M = Hand S E

  abbrev Rule : St → Type 0
  Rule = Holds entries mark origin root

  abbrev HasRoot : ℕ → V → Type 0
  HasRoot _ v = 0 < v.parts → v.origin ≡ root

  abbrev Turn : ℕ → List (Place (Option S)) → List V → List E → Type 0
  Turn word homes vs h = IsFree entries origin root word homes vs h ⊎ IsTaken word vs h

  -- a view without the turn changes to one without it
  turn_stays : (word : ℕ) (homes : List (Place (Option S))) (vs : List V) (h : List E) (id : ℕ) (v w : V) → get_elem? vs id ≡ some v → v.turn ≡ false → w.turn ≡ false → Turn word homes vs h → Turn word homes (set vs id w) h
  turn_stays word homes vs h id v w at vt wt = ⊎_elim
      (λ (f : IsFree entries origin root word homes vs h). inl record { zero = f.zero; none_has = each_set (λ _ (u : V). u.turn ≡ false) vs id w wt (λ j u _ e. f.none_has j u e); state = f.state; home = f.home; whole = f.whole; rooted = f.rooted })
      (λ (t : IsTaken word vs h).
      let other : t.seat ≢ id = λ e. true≢false (sym t.has ∙ (ap (λ (u : V). u.turn) (some-injective t.holder v (sym t.at ∙ (ap (get_elem? vs) e ∙ at))) ∙ vt)) in
      inr record {
        some_one = t.some_one;
        seat = t.seat;
        holder = t.holder;
        at = set_else vs id t.seat w other ∙ t.at;
        has = t.has;
        number = t.number;
        seen = t.seen;
        only = each_set (λ j (u : V). u.turn ≡ true → j ≡ t.seat) vs id w (λ y. absurd (true≢false (sym y ∙ wt))) (λ j u _ e. t.only j u e);
      })

  -- a view without the turn is added
  turn_more : (word : ℕ) (homes : List (Place (Option S))) (vs : List V) (h : List E) (w : V) → w.turn ≡ false → Turn word homes vs h → Turn word homes (vs ++ w ∷ []) h
  turn_more word homes vs h w wt = ⊎_elim
      (λ (f : IsFree entries origin root word homes vs h). inl record { zero = f.zero; none_has = each_snoc (λ _ (u : V). u.turn ≡ false) vs w (λ _. wt) f.none_has; state = f.state; home = f.home; whole = f.whole; rooted = f.rooted })
      (λ (t : IsTaken word vs h). inr record {
        some_one = t.some_one;
        seat = t.seat;
        holder = t.holder;
        at = at_longer vs (w ∷ []) t.seat t.holder t.at;
        has = t.has;
        number = t.number;
        seen = t.seen;
        only = each_snoc (λ j (u : V). u.turn ≡ true → j ≡ t.seat) vs w (λ j y. absurd (true≢false (sym y ∙ wt))) t.only;
      })

  owns_all : (s : St) (h : List E) → Kept entries mark origin root s h → (id : ℕ) (v : V) → get_elem? s.views id ≡ some v → Owns v.parts v.own h
  owns_all s h k id v at = record {
    stands = (k.stand id v at).0;
    ascends = (k.stand id v at).1;
    once = λ x. let a = at_least (λ (u : V). times x u.own) s.views id v at in let o = k.own x in let b = below_once x (length h) in omega (arith, a, o, b);
    whole = λ all x. sym (total-alone (λ (u : V). times x u.own) (λ (u : V). u.parts) s.views id v at (k.parts ∙ sym all) (λ j u e z. ap (times x) (k.idle j u e z))) ∙ k.own x;
  }

  -- a step that changes neither the prefix nor the holder, and of a view without the turn neither entries nor parts
  kept_view : (s : St) (h : List E) → Kept entries mark origin root s h → (ws : List ℕ) → length ws ≡ 3 → get_or ws 0 0 ≡ get_or s.words 0 0 → get_or ws 1 0 ≡ get_or s.words 1 0 → (id : ℕ) (v w : V)
      → get_elem? s.views id ≡ some v → v.turn ≡ false → w.turn ≡ false → StartsWith h w.seen × StartsWith h w.reported → w.own ≡ v.own → w.parts ≡ v.parts → w.origin ≡ v.origin
      → Kept entries mark origin root record { words = ws; homes = s.homes; views = set s.views id w } h
  kept_view s h k ws wide w0 w1 id v w at vt wt sees own parts origins = record {
    wide = wide;
    front = w0 ∙ k.front;
    small = k.small;
    seen = each_set (λ _ (u : V). StartsWith h u.seen × StartsWith h u.reported) s.views id w sees (λ j u _ e. k.seen j u e);
    own = λ x. same_total (λ (u : V). times x u.own) s.views id v w at (ap (times x) own) ∙ k.own x;
    stand = each_set (λ _ (u : V). Stands h u.own × Ascends 0 u.own) s.views id w (subst (λ (ps : List (ℕ × E)). Stands h ps × Ascends 0 ps) (sym own) (k.stand id v at)) (λ j u _ e. k.stand j u e);
    parts = same_total (λ (u : V). u.parts) s.views id v w at parts ∙ k.parts;
    idle = each_set (λ _ (u : V). u.parts ≡ 0 → u.own ≡ []) s.views id w (λ z. own ∙ k.idle id v at (sym parts ∙ z)) (λ j u _ e. k.idle j u e);
    origins = each_set HasRoot s.views id w (λ some_part. origins ∙ k.origins id v at (omega (arith, parts, some_part))) (λ j u _ e. k.origins j u e);
    turn = subst (λ (n : ℕ). Turn n s.homes (set s.views id w) h) (sym w1) (turn_stays (get_or s.words 1 0) s.homes s.views h id v w at vt wt k.turn);
  }

  -- the same, where no word changes
  kept_same : (s : St) (h : List E) → Kept entries mark origin root s h → (i id : ℕ) (v w : V) → get_elem? s.views id ≡ some v → v.turn ≡ false → w.turn ≡ false → StartsWith h w.seen × StartsWith h w.reported → w.own ≡ v.own → w.parts ≡ v.parts → w.origin ≡ v.origin
      → Kept entries mark origin root record { words = set s.words i (get_or s.words i 0); homes = s.homes; views = set s.views id w } h
  kept_same s h k i id v w at vt wt sees own parts origins = let e = set-get_or s.words i 0 in
      kept_view s h k (set s.words i (get_or s.words i 0)) (ap length e ∙ k.wide) (ap (λ (ws : List ℕ). get_or ws 0 0) e) (ap (λ (ws : List ℕ). get_or ws 1 0) e) id v w at vt wt sees own parts origins

  pub numbers : (slots id : ℕ) (me : M) → me.0.turn ≡ false → Allows Rule slots id me 2 (λ n. (n + 1) % 18446744073709551616) (numbered (step slots 2 1 0 none) me)
  numbers slots id me waits s r _ at _ = let n : ℕ = get_or s.words 2 0 in let next : ℕ = (n + 1) % 18446744073709551616 in let w : V = record me.0 { number = cond (eqb n 0) 1 n } in (
    w,
    keeps,
    tt,
    (
      r.0,
      kept_view s r.0 r.1 (set s.words 2 next) (length-set s.words 2 next ∙ r.1.wide) (get_or-set_other s.words 2 0 next 0 (λ e. omega arith)) (get_or-set_other s.words 2 1 next 0 (λ e. omega arith))
          id me.0 w at waits waits (r.1.seen id me.0 at) refl refl refl,
    ),
    refl,
  )

  pub looks : (slots id : ℕ) (me : M) → me.0.turn ≡ false → Allows Rule slots id me 0 (λ n. n) (looked mark (step slots 0 0 0 none) me)
  looks slots id me waits s r _ at _ = let w : V = record me.0 { seen = r.0; reported = [] } in let seen = r.1.seen id me.0 at in (
    w,
    keeps,
    tt,
    (r.0, kept_same s r.0 r.1 0 id me.0 w at waits waits (starts_self r.0, starts_empty r.0) refl refl refl),
    (r.0, seen.0, seen.1, r.1.front, r.1.small, owns_all s r.0 r.1 id me.0 at, refl),
  )

  -- what a claim is to show, where word 1 becomes n
  abbrev Claims : Step (Option S) → St → ℕ → M → ℕ → Type 0
  Claims st s id me n = (w : V) × (a : Rattle.atomic_table.specs.Table.Act (Option S)) × Rattle.atomic_table.specs.Table.Valid s.homes me.1 a × Rule (stepped s 1 n id me.1 w a) × claimed entries origin st me (get_or s.words 1 0) (w, Rattle.atomic_table.specs.Table.carried_after me.1 a)

  wins : (st : Step (Option S)) (s : St) (h : List E) → Kept entries mark origin root s h → (id : ℕ) (me : M) (number : ℕ) → get_elem? s.views id ≡ some me.0 → me.0.number ≡ number → number ≢ 0 → 0 < me.0.parts → get_or s.words 1 0 ≡ 0
      → IsFree entries origin root (get_or s.words 1 0) s.homes s.views h → Claims st s id me number
  wins st s h k id me number at mine some_number some_part is f = let w : V = record me.0 { seen = entries f.state; turn = true } in let seen = k.seen id me.0 at in let wide = k.wide in
      let now : get_or (set s.words 1 number) 1 0 ≡ number = get_or-set_same s.words 1 number 0 (omega arith) in
      let won : Won entries origin me (w, (0, Some f.state) ∷ me.1) = (f.state, subst (λ (l : List E). StartsWith l me.0.seen) (sym f.whole) seen.0, subst (λ (l : List E). Owns me.0.parts me.0.own l) (sym f.whole) (owns_all s h k id me.0 at), f.rooted ∙ sym (k.origins id me.0 at some_part), refl) in (
        w,
        takes 0 (Some f.state),
        f.home,
        (
          h,
          record {
            wide = length-set s.words 1 number ∙ wide;
            front = get_or-set_other s.words 1 0 number 0 (λ e. omega arith) ∙ k.front;
            small = k.small;
            seen = each_set (λ _ (u : V). StartsWith h u.seen × StartsWith h u.reported) s.views id w (subst (λ (l : List E). StartsWith h l) (sym f.whole) (starts_self h), seen.1) (λ j u _ e. k.seen j u e);
            own = λ x. same_total (λ (u : V). times x u.own) s.views id me.0 w at refl ∙ k.own x;
            stand = each_set (λ _ (u : V). Stands h u.own × Ascends 0 u.own) s.views id w (k.stand id me.0 at) (λ j u _ e. k.stand j u e);
            parts = same_total (λ (u : V). u.parts) s.views id me.0 w at refl ∙ k.parts;
            idle = each_set (λ _ (u : V). u.parts ≡ 0 → u.own ≡ []) s.views id w (k.idle id me.0 at) (λ j u _ e. k.idle j u e);
            origins = each_set HasRoot s.views id w (k.origins id me.0 at) (λ j u _ e. k.origins j u e);
            turn = inr record {
              some_one = λ e. some_number (sym now ∙ e);
              seat = id;
              holder = w;
              at = put_here s.views id me.0 w at;
              has = refl;
              number = mine ∙ sym now;
              seen = f.whole;
              only = each_set (λ j (u : V). u.turn ≡ true → j ≡ id) s.views id w (λ _. refl) (λ j u _ e y. absurd (true≢false (sym y ∙ f.none_has j u e)));
            };
          },
        ),
        subst (λ (b : Bool). MatchBool b (Won entries origin me (w, (0, Some f.state) ∷ me.1)) (Lost me (get_or s.words 1 0) (w, (0, Some f.state) ∷ me.1))) (sym (eq-eqb (get_or s.words 1 0) 0 is)) won,
      )

  loses : (st : Step (Option S)) (s : St) (h : List E) → Kept entries mark origin root s h → (id : ℕ) (me : M) → get_elem? s.views id ≡ some me.0 → me.0.turn ≡ false → get_or s.words 1 0 ≢ 0 → Claims st s id me (get_or s.words 1 0)
  loses st s h k id me at waits miss = let n : ℕ = get_or s.words 1 0 in let w : V = record me.0 { found = me.0.found ++ n ∷ [] } in let lost : Lost me n (w, me.1) = (miss, refl) in (
    w,
    keeps,
    tt,
    (h, kept_same s h k 1 id me.0 w at waits waits (k.seen id me.0 at) refl refl refl),
    subst (λ (b : Bool). MatchBool b (Won entries origin me (w, me.1)) (Lost me n (w, me.1))) (sym (ne_eqb n 0 miss)) lost,
  )

  pub claims : (slots id : ℕ) (me : M) (number : ℕ) → me.0.turn ≡ false → me.0.number ≡ number → 0 < number → 0 < me.0.parts → Allows Rule slots id me 1 (λ n. either (eqb n 0) number n) (claimed entries origin (step slots 1 0 number none) me)
  claims slots id me number waits mine some_number some_part s r _ at _ = let st = step slots 1 0 number none in exchanged (get_or s.words 1 0) 0 number (Claims st s id me)
      (λ hit. ⊎_elim (λ (f : IsFree entries origin root (get_or s.words 1 0) s.homes s.views r.0). wins st s r.0 r.1 id me number at mine (λ e. omega arith) some_part hit f)
      (λ (t : IsTaken (get_or s.words 1 0) s.views r.0). absurd (t.some_one hit)) r.1.turn)
      (λ miss. loses st s r.0 r.1 id me at waits miss)

  -- who has the turn is the one that the word names, and has seen the published history
  holds_turn : (s : St) (h : List E) → Kept entries mark origin root s h → (id : ℕ) (v : V) → get_elem? s.views id ≡ some v → v.turn ≡ true
      → (get_or s.words 1 0 ≢ 0) × (v.number ≡ get_or s.words 1 0) × (v.seen ≡ h) × ((j : ℕ) (u : V) → get_elem? s.views j ≡ some u → u.turn ≡ true → j ≡ id)
  holds_turn s h k id v at has = ⊎_elim (λ (f : IsFree entries origin root (get_or s.words 1 0) s.homes s.views h). absurd (true≢false (sym has ∙ f.none_has id v at)))
      (λ (t : IsTaken (get_or s.words 1 0) s.views h). let here : id ≡ t.seat = t.only id v at has in
      let same : v ≡ t.holder = some-injective v t.holder (sym at ∙ (ap (get_elem? s.views) here ∙ t.at)) in
      (t.some_one, ap (λ (u : V). u.number) same ∙ t.number, ap (λ (u : V). u.seen) same ∙ t.seen, λ j u e y. t.only j u e y ∙ sym here)) k.turn

  all_own : (x : ℕ) (h later : List E) (own : List (ℕ × E)) (before after : ℕ) (seen : List E) → seen ≡ h → (later_is : StartsWith later seen)
      → after + times x own ≡ before + times x (own ++ places (length seen) (drop (length seen) later)) → before ≡ once_below x (length h) → after ≡ once_below x (length later)
  all_own x h later own before after seen is w t b =
      let d : List E = drop (length seen) later in
      let a = times-append x own (places (length seen) d) in
      let p = times-places x (length seen) d in
      let n : once_below x (length seen) ≡ once_below x (length h) = ap (λ (l : List E). once_below x (length l)) is in
      let long : length seen + length d ≡ length later = ap (λ (l : List E). length seen + length l) (rest_is seen later w) ∙ sym (length_later seen later w) in
      let m : once_below x (length seen + length d) ≡ once_below x (length later) = ap (once_below x) long in
      omega (arith, t, b, a, p, n, m)

  pub publishes : (slots id : ℕ) (me : M) (state : S) (front : ℕ) → me.0.turn ≡ true → 0 < me.0.parts → me.1 ≡ (0, Some state) ∷ [] → StartsWith (entries state) me.0.seen
      → front ≡ 8 * length (entries state) + mark (entries state) → mark (entries state) < 8 → Allows Rule slots id me 0 (λ _. front) (λ _. published entries (step slots 0 front 0 none) me front)
  publishes slots id me state front has some_part held ext is small s r _ at _ = let h : List E = r.0 in let k = r.1 in let l : List E = entries state in let wide = k.wide in
      let t = holds_turn s h k id me.0 at has in let sees : me.0.seen ≡ h = t.2 in let d : List E = drop (length me.0.seen) l in let mine = k.stand id me.0 at in
      let w : V = record me.0 { seen = l; own = me.0.own ++ places (length me.0.seen) d } in
      let later : StartsWith l h = subst (λ (f : List E). StartsWith l f) sees ext in
      let whole : l ≡ me.0.seen ++ d = ext.1 ∙ ap (λ (f : List E). me.0.seen ++ f) (sym (rest_is me.0.seen l ext)) in
      let still : get_or (set s.words 0 front) 1 0 ≡ get_or s.words 1 0 = get_or-set_other s.words 0 1 front 0 (λ e. omega arith) in (
        w,
        keeps,
        tt,
        (
          l,
          record {
            wide = length-set s.words 0 front ∙ wide;
            front = get_or-set_same s.words 0 front 0 (omega arith) ∙ is;
            small = small;
            seen = each_set (λ _ (u : V). StartsWith l u.seen × StartsWith l u.reported) s.views id w (starts_self l, starts_longer me.0.reported h l (k.seen id me.0 at).1 later)
                (λ j u _ e. (starts_longer u.seen h l (k.seen j u e).0 later, starts_longer u.reported h l (k.seen j u e).1 later));
            own = λ x. all_own x h l me.0.own (total (λ (u : V). times x u.own) s.views) (total (λ (u : V). times x u.own) (set s.views id w)) me.0.seen sees ext (total-set (λ (u : V). times x u.own) s.views id me.0 w at) (k.own x);
            stand = each_set (λ _ (u : V). Stands l u.own × Ascends 0 u.own) s.views id w (stands-append l me.0.own (places (length me.0.seen) d) (stands-later h l me.0.own later mine.0) (stands-places me.0.seen l d whole), ascends-append me.0.seen 0 me.0.own (places (length me.0.seen) d) (omega arith) (subst (λ (f : List E). Stands f me.0.own) (sym sees) mine.0) mine.1 (ascends-places (length me.0.seen) (length me.0.seen) d (le_refl (length me.0.seen))))
                (λ j u _ e. (stands-later h l u.own later (k.stand j u e).0, (k.stand j u e).1));
            parts = same_total (λ (u : V). u.parts) s.views id me.0 w at refl ∙ k.parts;
            idle = each_set (λ _ (u : V). u.parts ≡ 0 → u.own ≡ []) s.views id w (λ z. absurd (omega arith)) (λ j u _ e. k.idle j u e);
            origins = each_set HasRoot s.views id w (k.origins id me.0 at) (λ j u _ e. k.origins j u e);
            turn = inr record {
              some_one = λ e. t.0 (sym still ∙ e);
              seat = id;
              holder = w;
              at = put_here s.views id me.0 w at;
              has = has;
              number = t.1 ∙ sym still;
              seen = refl;
              only = each_set (λ j (u : V). u.turn ≡ true → j ≡ id) s.views id w (λ _. refl) (λ j u _ e y. t.3 j u e y);
            };
          },
        ),
        (state, held, refl),
      )

  gives_back : (st : Step (Option S)) (slots id : ℕ) (v : V) (state : S) → v.turn ≡ true → entries state ≡ v.seen → origin state ≡ v.origin → 0 < v.parts → slots ≡ 1 → Allows Rule slots id (v, (0, Some state) ∷ []) 1 (λ _. 0) (λ _. released st (v, (0, Some state) ∷ []) 0)
  gives_back st slots id v state has sees from some_part one s r long at _ = let h : List E = r.0 in let k = r.1 in let t = holds_turn s h k id v at has in let w : V = record v { turn = false } in let wide = k.wide in (
    w,
    gives,
    tt,
    (
      h,
      record {
        wide = length-set s.words 1 0 ∙ wide;
        front = get_or-set_other s.words 1 0 0 0 (λ e. omega arith) ∙ k.front;
        small = k.small;
        seen = each_set (λ _ (u : V). StartsWith h u.seen × StartsWith h u.reported) s.views id w (k.seen id v at) (λ j u _ e. k.seen j u e);
        own = λ x. same_total (λ (u : V). times x u.own) s.views id v w at refl ∙ k.own x;
        stand = each_set (λ _ (u : V). Stands h u.own × Ascends 0 u.own) s.views id w (k.stand id v at) (λ j u _ e. k.stand j u e);
        parts = same_total (λ (u : V). u.parts) s.views id v w at refl ∙ k.parts;
        idle = each_set (λ _ (u : V). u.parts ≡ 0 → u.own ≡ []) s.views id w (k.idle id v at) (λ j u _ e. k.idle j u e);
        origins = each_set HasRoot s.views id w (k.origins id v at) (λ j u _ e. k.origins j u e);
        turn = inl record {
          zero = get_or-set_same s.words 1 0 0 (omega arith);
          none_has = each_set (λ _ (u : V). u.turn ≡ false) s.views id w refl (λ j u other e. not_true u.turn (λ y. other (t.3 j u e y)));
          state = state;
          home = set_here s.homes 0 (some (Some state)) (omega arith);
          whole = sees ∙ t.2;
          rooted = from ∙ k.origins id v at some_part;
        };
      },
    ),
    refl,
  )

  pub releases : (slots id : ℕ) (me : M) (state : S) → me.0.turn ≡ true → me.1 ≡ (0, Some state) ∷ [] → entries state ≡ me.0.seen → origin state ≡ me.0.origin → 0 < me.0.parts → slots ≡ 1 → Allows Rule slots id me 1 (λ _. 0) (λ _. released (step slots 1 0 0 none) me 0)
  releases slots id me state has held sees from some_part one = let st = step slots 1 0 0 none in subst (λ (c : List (ℕ × Option S)). Allows Rule slots id (me.0, c) 1 (λ _. 0) (λ _. released st (me.0, c) 0)) (sym held) (gives_back st slots id me.0 state has sees from some_part one)

  pub splits : (id : ℕ) (v : V) → v.turn ≡ false → 2 ≤ v.parts → Splits Rule id v (parted v) (newcomer v)
  splits id v waits two s r at = let h : List E = r.0 in let k = r.1 in let l : V = parted v in let n : V = newcomer v in let vs : List V = set s.views id l in (
    h,
    record {
      wide = k.wide;
      front = k.front;
      small = k.small;
      seen = each_snoc (λ _ (u : V). StartsWith h u.seen × StartsWith h u.reported) vs n (λ _. ((k.seen id v at).0, starts_empty h)) (each_set (λ _ (u : V). StartsWith h u.seen × StartsWith h u.reported) s.views id l (k.seen id v at) (λ j u _ e. k.seen j u e));
      own = λ x. let a = total-snoc (λ (u : V). times x u.own) vs n in let b = same_total (λ (u : V). times x u.own) s.views id v l at refl in let o = k.own x in omega (arith, a, b, o);
      stand = each_snoc (λ _ (u : V). Stands h u.own × Ascends 0 u.own) vs n (λ _. (tt, tt)) (each_set (λ _ (u : V). Stands h u.own × Ascends 0 u.own) s.views id l (k.stand id v at) (λ j u _ e. k.stand j u e));
      parts = let a = total-snoc (λ (u : V). u.parts) vs n in let b = total-set (λ (u : V). u.parts) s.views id v l at in let p = k.parts in omega (arith, a, b, p);
      idle = each_snoc (λ _ (u : V). u.parts ≡ 0 → u.own ≡ []) vs n (λ _ _. refl) (each_set (λ _ (u : V). u.parts ≡ 0 → u.own ≡ []) s.views id l (λ z. absurd (omega arith)) (λ j u _ e. k.idle j u e));
      origins = let mine : v.origin ≡ root = k.origins id v at (omega (arith, two)) in each_snoc HasRoot vs n (λ _ _. mine) (each_set HasRoot s.views id l (λ _. mine) (λ j u _ e. k.origins j u e));
      turn = turn_more (get_or s.words 1 0) s.homes vs h n refl (turn_stays (get_or s.words 1 0) s.homes s.views h id v l at waits waits k.turn);
    },
  )

  pub joins : (id : ℕ) (v : V) (other : ℕ) (w : V) → v.turn ≡ false → w.turn ≡ false → 0 < v.parts → Joins Rule id v other w (joined v w) spent
  joins id v other w vt wt some_part s r at apart at' = let h : List E = r.0 in let k = r.1 in let b : V = joined v w in let vs : List V = set s.views id b in
      let was : get_elem? s.views other ≡ some w = sym (set_else s.views id other b apart) ∙ at' in
      let every = λ (P : ℕ → V → Type 0) (mine : P id b) (none : P other spent) (rest : (j : ℕ) (u : V) → get_elem? s.views j ≡ some u → P j u). each_set P vs other spent none (λ j u _ e. each_set P s.views id b mine (λ i x _ f. rest i x f) j u e) in (
        h,
        record {
          wide = k.wide;
          front = k.front;
          small = k.small;
          seen = every (λ _ u. StartsWith h u.seen × StartsWith h u.reported) ((k.seen id v at).0, (k.seen other w was).0) (starts_empty h, starts_empty h) k.seen;
          own = λ x. let p = total-set (λ (u : V). times x u.own) s.views id v b at in let q = total-set (λ (u : V). times x u.own) vs other w spent at' in let m = times-merged x v.own w.own in let o = k.own x in omega (arith, p, q, m, o);
          stand = every (λ _ u. Stands h u.own × Ascends 0 u.own) (stands-merged h v.own w.own (k.stand id v at).0 (k.stand other w was).0, ascends-merged v.own w.own (k.stand id v at).1 (k.stand other w was).1) (tt, tt) k.stand;
          parts = let p = total-set (λ (u : V). u.parts) s.views id v b at in let q = total-set (λ (u : V). u.parts) vs other w spent at' in let o = k.parts in omega (arith, p, q, o);
          idle = every (λ _ u. u.parts ≡ 0 → u.own ≡ []) (λ z. merged_none v.own w.own (k.idle id v at (omega arith)) (k.idle other w was (omega arith))) (λ _. refl) k.idle;
          origins = every HasRoot (λ _. k.origins id v at some_part) (λ none. absurd (omega (arith, none))) k.origins;
          turn = turn_stays (get_or s.words 1 0) s.homes vs h other w spent at' wt refl (turn_stays (get_or s.words 1 0) s.homes s.views h id v b at vt vt k.turn);
        },
      )

  pub begins : (state : S) (front : ℕ) → origin state ≡ root → front ≡ 8 * length (entries state) + mark (entries state) → mark (entries state) < 8
      → Rule (opening (front ∷ 0 ∷ 1 ∷ []) (Some state ∷ []) (first_view root (entries state)))
  begins state front from is small = let l : List E = entries state in let v : V = first_view root l in (
    l,
    record {
      wide = refl;
      front = is;
      small = small;
      seen = only_one (λ (u : V). StartsWith l u.seen × StartsWith l u.reported) v (starts_self l, starts_empty l);
      own = λ x. let p = times-places x 0 l in let z : once_below x 0 ≡ 0 = grind (arith, nat_tests) in let e : 0 + length l ≡ length l = omega arith in let m = ap (once_below x) e in omega (arith, p, z, m);
      stand = only_one (λ (u : V). Stands l u.own × Ascends 0 u.own) v (stands-places [] l l refl, ascends-places 0 0 l (le_refl 0));
      parts = refl;
      idle = only_one (λ (u : V). u.parts ≡ 0 → u.own ≡ []) v (λ z. absurd (omega arith));
      origins = only_one (λ (u : V). 0 < u.parts → u.origin ≡ root) v (λ _. refl);
      turn = inl record { zero = refl; none_has = only_one (λ (u : V). u.turn ≡ false) v refl; state = state; home = refl; whole = refl; rooted = from };
    },
  )
