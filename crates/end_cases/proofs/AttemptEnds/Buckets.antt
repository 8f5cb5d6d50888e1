-- The tokens of one call's run change in the channel as in the session: its bucket is that of its run, and of no other.
use Rattle.std.proofs.Common.{◌≡◌, ◌∙◌, ◌==◌, ◌∷◌, Bool, true, false, List, [], Option, None, Some, ℕ, zero, suc, ap, arith, refl, sym, subst, if◌then◌else◌, is_some, length, map, take, slice_get, slice_set}
use Rattle.std.proofs.lemmas.Bool.{and_parts, eqb-true}
use Rattle.std.proofs.lemmas.Bool.Decides.{nat_tests}
use Rattle.std.specs.Option.{option_map_or}
use Rattle.std.specs.Prelude.{nat_lt, option_and_then}
use Rattle.a6_numbers.specs.Throttling.{Bucket}
use Rattle.call_actions.specs.CallsApart.Apart.{has_config, run_number}
use Rattle.channel_actions.proofs.Links.Settings.Slots.{set_twice}
use Rattle.channel_actions.specs.Configs.{SeesBuckets, bucket_in, bucket_place, is_same_run, runs_after, runs_in_turn}
use Rattle.end_cases.specs.AttemptEnds.Runs.{RunsRise, rise}
use Rattle.channel_core.specs.Tables.{BucketsSeen, with_tokens}
use Rattle.session_actions.specs.Words.{is_number, last_of, numbered}
use Rattle.session_actions.specs.declared.call.Call.{Call}
use Rattle.session_actions.specs.declared.config.HeldConfig.{HeldConfig}
use Rattle.session_actions.specs.declared.seen.Seen.{Seen}

-- the runs in turn: up to a config the last one is its run
same_run : (m n : Option ℕ) → is_same_run m n ≡ true → m ≡ n
same_run None None e = refl
same_run None (Some n) e = absurd (cc)
same_run (Some m) None e = absurd (cc)
same_run (Some m) (Some n) e = ap (λ (k : ℕ). Some k) (eqb-true m n e)

abbrev last_run : Option ℕ → List HeldConfig → ℕ → Option (Option ℕ)
last_run run configs i = slice_get (run ∷ runs_after run configs) (length (runs_after run (take i configs)))

turn_by : (run : Option ℕ) (g h : HeldConfig) (configs : List HeldConfig) (j : ℕ) (b : Bool) → is_same_run run g.run ≡ b
    → ((r : Option ℕ) → g.run ≡ r → last_run r configs j ≡ Some h.run)
    → slice_get (run ∷ (if b then runs_after run configs else g.run ∷ runs_after g.run configs)) (length (if b then runs_after run (take j configs) else g.run ∷ runs_after g.run (take j configs)))
    ≡ Some h.run
turn_by run g h configs j true e rest = rest run (sym (same_run run g.run e))
turn_by run g h configs j false e rest = rest g.run refl

runs_turn : (configs : List HeldConfig) (i : ℕ) (first h : HeldConfig) (run : Option ℕ) → first.run ≡ run → slice_get (first ∷ configs) i ≡ Some h → last_run run configs i ≡ Some h.run
runs_turn configs zero first h run is got =
    let one : first ≡ h = (cc) in ap (λ (r : Option ℕ). Some r) (sym is ∙ ap (λ (g : HeldConfig). g.run) one)
runs_turn [] (suc j) first h run is got = absurd (cc)
runs_turn (g ∷ configs) (suc j) first h run is got =
    turn_by run g h configs j (is_same_run run g.run) refl (λ r here. runs_turn configs j g h r here got)

record IsTurn (configs : List HeldConfig) (i : ℕ) (h : HeldConfig) : Type 0 where
  turn : ℕ
  place : length (runs_in_turn (take (suc i) configs)) ≡ suc turn
  run : slice_get (runs_in_turn configs) turn ≡ Some h.run

run_at : (configs : List HeldConfig) (i : ℕ) (h : HeldConfig) → slice_get configs i ≡ Some h → IsTurn configs i h
run_at [] i h got = absurd (cc)
run_at (g ∷ configs) i h got = record { turn = length (runs_after g.run (take i configs)); place = refl; run = runs_turn configs i g h g.run refl got }

-- rising numbers are no two the same
above : (last : ℕ) (runs : List (Option ℕ)) (i m : ℕ) → rise last runs ≡ true → slice_get runs i ≡ Some (Some m) → nat_lt last m ≡ true
above last [] i m up got = absurd (cc)
above last (None ∷ runs) zero m up got = absurd (cc)
above last (None ∷ runs) (suc i) m up got = above last runs i m up got
above last (Some r ∷ runs) zero m up got =
    let same : r ≡ m = (cc) in subst (λ (k : ℕ). nat_lt last k ≡ true) same (and_parts (nat_lt last r) (rise r runs) up).0
above last (Some r ∷ runs) (suc i) m up got =
    let both = and_parts (nat_lt last r) (rise r runs) up in
    let more : nat_lt r m ≡ true = above r runs i m both.1 got in
    let one : nat_lt last r ≡ true = both.0 in
    up_on last r m one more
  where
    up_on : (l r m : ℕ) → nat_lt l r ≡ true → nat_lt r m ≡ true → nat_lt l m ≡ true
    up_on l r m e f = grind (arith, nat_tests)

apart_of : (r m : ℕ) → nat_lt r m ≡ true → (r == m) ≡ false
apart_of r m e = grind (arith, nat_tests)

apart_from : (r m : ℕ) → nat_lt r m ≡ true → (m == r) ≡ false
apart_from r m e = grind (arith, nat_tests)

below_apart : (j k : ℕ) → (suc j == suc k) ≡ false → (j == k) ≡ false
below_apart j k e = grind (arith, nat_tests, e)

above_apart : (j k : ℕ) → (j == k) ≡ false → (suc j == suc k) ≡ false
above_apart j k e = grind (arith, nat_tests, e)

distinct : (last : ℕ) (runs : List (Option ℕ)) (j k m n : ℕ) → rise last runs ≡ true → slice_get runs j ≡ Some (Some m) → slice_get runs k ≡ Some (Some n) → (j == k) ≡ false
    → (m == n) ≡ false
distinct last [] j k m n up one two off = absurd (cc)
distinct last (None ∷ runs) zero k m n up one two off = absurd (cc)
distinct last (None ∷ runs) (suc j) zero m n up one two off = absurd (cc)
distinct last (None ∷ runs) (suc j) (suc k) m n up one two off = distinct last runs j k m n up one two (below_apart j k off)
distinct last (Some r ∷ runs) zero zero m n up one two off = absurd (cc)
distinct last (Some r ∷ runs) zero (suc k) m n up one two off =
    let same : r ≡ m = (cc) in
    subst (λ (i : ℕ). (i == n) ≡ false) same (apart_of r n (above r runs k n (and_parts (nat_lt last r) (rise r runs) up).1 two))
distinct last (Some r ∷ runs) (suc j) zero m n up one two off =
    let same : r ≡ n = (cc) in
    subst (λ (i : ℕ). (m == i) ≡ false) same (apart_from r m (above r runs j m (and_parts (nat_lt last r) (rise r runs) up).1 one))
distinct last (Some r ∷ runs) (suc j) (suc k) m n up one two off =
    distinct r runs j k m n (and_parts (nat_lt last r) (rise r runs) up).1 one two (below_apart j k off)

-- one of a list is put in, and the others are as they were
map_in : {X Y : Type 0} (f g : X → Y) (xs : List X) → ((j : ℕ) (q : X) → slice_get xs j ≡ Some q → f q ≡ g q) → map f xs ≡ map g xs
map_in f g [] each = refl
map_in f g (x ∷ xs) each = ap (λ (y : _). y ∷ map f xs) (each 0 x refl) ∙ ap (λ (l : List _). g x ∷ l) (map_in f g xs (λ j q at. each (suc j) q at))

put_in : {X Y : Type 0} (f g : X → Y) (v : Y) (xs : List X) (k : ℕ) (q : X) → slice_get xs k ≡ Some q → v ≡ g q
    → ((j : ℕ) (p : X) → slice_get xs j ≡ Some p → (j == k) ≡ false → f p ≡ g p) → slice_set (map f xs) k v ≡ map g xs
put_in f g v [] k q got is others = absurd (cc)
put_in f g v (x ∷ xs) zero q got is others =
    let same : x ≡ q = (cc) in
    ap (λ (y : _). y ∷ map f xs) (is ∙ ap g (sym same)) ∙ ap (λ (l : List _). g x ∷ l) (map_in f g xs (λ j p at. others (suc j) p at (let off : (suc j == 0) ≡ false = grind (arith, nat_tests) in off)))
put_in f g v (x ∷ xs) (suc k) q got is others =
    ap (λ (y : _). y ∷ slice_set (map f xs) k v) (others 0 x refl (let off : (0 == suc k) ≡ false = grind (arith, nat_tests) in off))
    ∙ ap (λ (l : List _). g x ∷ l) (put_in f g v xs k q got is (λ j p at off. others (suc j) p at (above_apart j k off)))

module _ (s t : Seen) (c : Call) (b : BucketsSeen) (v : Option Bucket) (sees : SeesBuckets b s) (configs : t.configs ≡ s.configs) (rising : RunsRise s) (is_there : has_config s c ≡ true)
    (own : v ≡ bucket_in t (run_number c s)) (others : (k : ℕ) → is_number k (run_number c s) ≡ false → bucket_in t (Some k) ≡ bucket_in s (Some k)) where
  abbrev turns : List (Option ℕ)
  turns = runs_in_turn s.configs

  abbrev place : ℕ
  place = bucket_place s c

  other_by : (o p : Option ℕ) → run_number c s ≡ p → ((k m : ℕ) → o ≡ Some k → p ≡ Some m → (m == k) ≡ false) → bucket_in s o ≡ bucket_in t o
  other_by None p e apart = refl
  other_by (Some k) None e apart = sym (others k (ap (is_number k) e))
  other_by (Some k) (Some m) e apart = sym (others k (ap (is_number k) e ∙ apart k m refl refl))

  -- without a config there is no bucket
  no_run : (p : Option ℕ) → run_number c s ≡ p → p ≡ None → slice_set (None ∷ map (bucket_in s) turns) 0 v ≡ None ∷ map (bucket_in t) turns
  no_run p e none =
      ap (λ (q : Option Bucket). q ∷ map (bucket_in s) turns) (own ∙ ap (bucket_in t) (e ∙ none))
      ∙ ap (λ (l : List (Option Bucket)). None ∷ l) (map_in (bucket_in s) (bucket_in t) turns (λ j q at. other_by q p e (λ k m one two. absurd (let both : None ≡ Some m = sym none ∙ two in (cc)))))

  of_run : (i : ℕ) (h : HeldConfig) → slice_get s.configs i ≡ Some h → run_number c s ≡ h.run
      → slice_set (None ∷ map (bucket_in s) turns) (length (runs_in_turn (take (suc i) s.configs))) v ≡ None ∷ map (bucket_in t) turns
  of_run i h at is =
      let k : IsTurn s.configs i h = run_at s.configs i h at in
      ap (λ (n : ℕ). slice_set (None ∷ map (bucket_in s) turns) n v) k.place
      ∙ ap (λ (l : List (Option Bucket)). None ∷ l)
      (put_in (bucket_in s) (bucket_in t) v turns k.turn h.run k.run (own ∙ ap (bucket_in t) is)
      (λ j q got off. other_by q h.run is
      (λ m n one two. turned n m (distinct 0 turns j k.turn m n rising (got ∙ ap (λ (z : Option ℕ). Some z) one) (k.run ∙ ap (λ (z : Option ℕ). Some z) two) off))))
    where
      turned : (n m : ℕ) → (m == n) ≡ false → (n == m) ≡ false
      turned n m e = grind (arith, nat_tests, e)

  set_by : (q : Option ℕ) → c.config ≡ q → option_map_or (λ (k : ℕ). is_some (numbered s.configs k)) q true ≡ true
      → slice_set (None ∷ map (bucket_in s) turns) (option_map_or (λ (number : ℕ). length (runs_in_turn (take number s.configs))) q 0) v ≡ None ∷ map (bucket_in t) turns
  set_by None e has = no_run (run_number c s) refl (ap (λ (k : Option ℕ). option_and_then (λ (h : HeldConfig). h.run) (option_and_then (numbered s.configs) k)) e)
  set_by (Some zero) e has = absurd (cc)
  set_by (Some (suc i)) e has = set_at (slice_get s.configs i) refl has
    where
      set_at : (o : Option HeldConfig) → slice_get s.configs i ≡ o → is_some o ≡ true
          → slice_set (None ∷ map (bucket_in s) turns) (length (runs_in_turn (take (suc i) s.configs))) v ≡ None ∷ map (bucket_in t) turns
      set_at None at has = absurd (cc)
      set_at (Some h) at has =
          of_run i h at
          (ap (λ (k : Option ℕ). option_and_then (λ (g : HeldConfig). g.run) (option_and_then (numbered s.configs) k)) e ∙ ap (option_and_then (λ (g : HeldConfig). g.run)) at)

  pub buckets_set : SeesBuckets (with_tokens place v (with_tokens place None b)) t
  buckets_set = record {
    runs =
        ap (λ (configs : List HeldConfig). None ∷ map (bucket_in t) (runs_in_turn configs)) configs
        ∙ sym (set_twice b.runs place None v
        ∙ ap (λ (l : List (Option Bucket)). slice_set l place v) (sym sees.runs) ∙ set_by c.config refl is_there);
    throttle = ap (λ (configs : List HeldConfig). option_and_then (λ (h : HeldConfig). h.config.throttle) (last_of configs)) configs ∙ sees.throttle;
  }
