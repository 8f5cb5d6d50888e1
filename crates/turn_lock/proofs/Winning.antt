-- What a turn is, from its claim to its release.
use Rattle.std.proofs.Common.{◌≡◌, ℕ, Bool, true, false, eqb, MatchBool, List, [], ◌∷◌, ◌++◌, length, drop, refl, sym, ap, ◌∙◌, subst, Option, Some, None, eq-eqb}
use Rattle.atomic_table.specs.Table.{rest}
use Rattle.atomic_table.specs.Seated.{TableId}
use Rattle.turn_lock.specs.declared.rule.View.{View}
use Rattle.turn_lock.specs.History.{LockId, SeatSeen, StartsWith, places, Owns}
use Rattle.turn_lock.specs.Rule.{Hand, Won, Lost, RunsTurn}
use Rattle.turn_lock.specs.Turn.{TakesTurn}
use Rattle.turn_lock.proofs.Places.{rest_is}

module _ {S : Type 0} where
  abbrev said : S → Option S → S
  said d None = d
  said d (Some x) = x

  abbrev first_of : S → List (ℕ × Option S) → S
  first_of d [] = d
  first_of d (p ∷ ps) = said d p.1

  same_state : (c : List (ℕ × Option S)) (x y : S) (r : Option S) → c ≡ (0, Some x) ∷ [] → c ≡ (0, r) ∷ rest c → r ≡ Some y → x ≡ y
  same_state c x y r a b e = ap (first_of x) (sym a ∙ b) ∙ ap (said x) e

  pub in_hand : (c : List (ℕ × Option S)) (x : ℕ × Option S) (d : List (ℕ × Option S)) → c ≡ x ∷ d → c ≡ x ∷ rest c
  in_hand c x d e = e ∙ ap (λ (l : List (ℕ × Option S)). x ∷ l) (sym (ap rest e))

abbrev pub seat_seen : {E : Type 0} → TableId → View E → SeatSeen E
seat_seen lock v = record { lock = record { table = lock; origin = v.origin }; seen = v.seen; own = v.own; parts = v.parts; found = v.found }

module _ {S E : Type 0} where
  pub won_from : (entries : S → List E) (origin : S → List ℕ) (m m' : Hand S E) (found : ℕ) → MatchBool (eqb found 0) (Won entries origin m m') (Lost m found m') → found ≡ 0 → Won entries origin m m'
  won_from entries origin m m' found h e = subst (λ (b : Bool). MatchBool b (Won entries origin m m') (Lost m found m')) (eq-eqb found 0 e) h

  -- the state that the job left lies in hand, and its list begins with the one that was won
  pub record Ready (entries : S → List E) (origin : S → List ℕ) (m m2 : Hand S E) (start end : S) : Type 0 where
    pub held : m.1 ≡ (0, Some start) ∷ []
    pub sees : entries start ≡ m.0.seen
    pub from : origin start ≡ m.0.origin
    pub kept : origin end ≡ origin start
    pub hand : m2 ≡ (m.0, (0, Some end) ∷ [])
    pub later : StartsWith (entries end) m2.0.seen

  pub ready : (entries : S → List E) (origin : S → List ℕ) (m m1 m2 : Hand S E) (x start end : S) (r : Option S) → m.1 ≡ (0, Some x) ∷ [] → entries x ≡ m.0.seen → origin x ≡ m.0.origin → m.1 ≡ (0, r) ∷ rest m.1 → r ≡ Some start
      → m1 ≡ (m.0, (0, None) ∷ rest m.1) → m2 ≡ (m1.0, (0, Some end) ∷ rest m1.1) → StartsWith (entries end) (entries start) → origin end ≡ origin start → Ready entries origin m m2 start end
  ready entries origin m m1 m2 x start end r held sees from out is put back later kept =
      let same : x ≡ start = same_state m.1 x start r held out is in
      let none : rest m.1 ≡ [] = ap rest held in
      let first : m1.0 ≡ m.0 = ap (λ (h : Hand S E). h.0) put in
      let left : rest m1.1 ≡ [] = ap (λ (h : Hand S E). rest h.1) put ∙ none in
      let hand : m2 ≡ (m.0, (0, Some end) ∷ []) = back ∙ (λ i. (first i, (0, Some end) ∷ left i)) in
      let sees' : entries start ≡ m.0.seen = ap entries (sym same) ∙ sees in
      record {
        held = held ∙ ap (λ (z : S). (0, Some z) ∷ []) same;
        sees = sees';
        from = ap origin (sym same) ∙ from;
        kept = kept;
        hand = hand;
        later = subst (λ (l : List E). StartsWith (entries end) l) (sees' ∙ sym (ap (λ (h : Hand S E). h.0.seen) hand)) later;
      }

  -- what was published in such a turn: the state in hand has the handle's origin
  pub published_from : (entries : S → List E) (origin : S → List ℕ) (m m2 m3 : Hand S E) (start end : S) → Ready entries origin m m2 start end
      → (p : (state : S) × (m2.1 ≡ (0, Some state) ∷ []) × (m3 ≡ (record m2.0 { seen = entries state; own = m2.0.own ++ places (length m2.0.seen) (drop (length m2.0.seen) (entries state)) }, m2.1)))
      → (origin p.0 ≡ m3.0.origin) × (m3.0.parts ≡ m.0.parts)
  published_from entries origin m m2 m3 start end y p =
      let same : end ≡ p.0 = same_state m2.1 end p.0 (Some p.0) (ap (λ (h : Hand S E). h.1) y.hand) (in_hand m2.1 (0, Some p.0) [] p.1) refl in
      let first : m2.0 ≡ m.0 = ap (λ (h : Hand S E). h.0) y.hand in
      let third : m3.0.origin ≡ m2.0.origin = ap (λ (h : Hand S E). h.0.origin) p.2 in
      (ap origin (sym same) ∙ y.kept ∙ y.from ∙ sym (third ∙ ap (λ (v : View E). v.origin) first), ap (λ (h : Hand S E). h.0.parts) p.2 ∙ ap (λ (v : View E). v.parts) first)

  module _ {A J : Type 0} (entries : S → List E) (origin : S → List ℕ) (runs : J → S → A → J → S → Type 0) (job : J) (answer : A) (job' : J) where
    pub takes_turn : (lock lock' : TableId) (m m' m2 : Hand S E) (before : SeatSeen E) → seat_seen lock m.0 ≡ before → lock' ≡ lock → Won entries origin m m' → RunsTurn entries origin runs job m' answer job' m2
        → TakesTurn entries origin runs job before answer job' (seat_seen lock' m2.0)
    takes_turn lock lock' m m' m2 before is one w r =
        let won : m'.0 ≡ record m.0 { seen = entries w.0; turn = true } = ap (λ (h : Hand S E). h.0) w.4 in
        let same : entries w.0 ≡ entries r.start = sym (r.sees ∙ ap (λ (v : View E). v.seen) won) in
        let v2 : m2.0 ≡ record m'.0 { seen = entries r.end; own = m'.0.own ++ places (length m'.0.seen) (drop (length m'.0.seen) (entries r.end)); turn = false } = ap (λ (h : Hand S E). h.0) r.hand in
        let own : m2.0.own ≡ m.0.own ++ places (length (entries r.start)) r.appends.0 = ap (λ (v : View E). v.own) v2
        ∙ (ap (λ (l : List E). m'.0.own ++ places (length l) (drop (length l) (entries r.end))) (sym r.sees)
        ∙ (ap (λ (v : View E). v.own ++ places (length (entries r.start)) (drop (length (entries r.start)) (entries r.end))) won
        ∙ ap (λ (l : List E). m.0.own ++ places (length (entries r.start)) l) (rest_is (entries r.start) (entries r.end) r.appends))) in
        let seen : m2.0.seen ≡ entries r.end = ap (λ (v : View E). v.seen) v2 in
        let parts : m2.0.parts ≡ m.0.parts = ap (λ (v : View E). v.parts) v2 ∙ ap (λ (v : View E). v.parts) won in
        let found : m2.0.found ≡ m.0.found = ap (λ (v : View E). v.found) v2 ∙ ap (λ (v : View E). v.found) won in
        let root : m2.0.origin ≡ m.0.origin = ap (λ (v : View E). v.origin) v2 ∙ ap (λ (v : View E). v.origin) won in
        let locks : (let l : LockId = record { table = lock'; origin = m2.0.origin } in l) ≡ record { table = lock; origin = m.0.origin } = λ i. record { table = one i; origin = root i } in
        subst (λ (b : SeatSeen E). TakesTurn entries origin runs job b answer job' (seat_seen lock' m2.0)) is record {
          start = r.start;
          end = r.end;
          sees = subst (λ (l : List E). StartsWith l m.0.seen) same w.1;
          owns = subst (λ (l : List E). Owns m.0.parts m.0.own l) same w.2;
          from = r.from ∙ ap (λ (v : View E). v.origin) won;
          ran = r.ran;
          kept = r.kept;
          made = r.appends.0;
          appends = r.appends.1;
          seat = λ i. record { lock = locks i; seen = seen i; own = own i; parts = parts i; found = found i };
        }
