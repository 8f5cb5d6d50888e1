-- A call's bucket is that of the run of its config; its place among the buckets stays as configs come.
use Rattle.a6_numbers.specs.Throttling.{Bucket}
use Rattle.call_actions.proofs.Places.{places_below}
use Rattle.call_actions.specs.CallsApart.Apart.{has_config, run_number}
use Rattle.call_actions.specs.CallsApart.Laws.{tokens_in_run}
use Rattle.channel_actions.specs.Configs.{SeesBuckets, bucket_in, bucket_place, is_same_run, runs_after, runs_in_turn}
use Rattle.channel_core.specs.Tables.{BucketsSeen, tokens_in}
use Rattle.call_cases.proofs.OtherCalls.Grows.{IsMore}
use Rattle.call_cases.specs.OtherCalls.Laws.{BucketsAreOfRuns}
use Rattle.session_actions.specs.Words.{numbered}
use Rattle.session_actions.specs.declared.call.Call.{Call}
use Rattle.session_actions.specs.declared.config.HeldConfig.{HeldConfig}
use Rattle.session_actions.specs.declared.seen.Seen.{Seen}
use Rattle.std.proofs.Common.{Bool, List, None, Option, Some, [], ap, eqb-true, false, if◌then◌else◌, is_some, length, map, option_and_then, option_map, refl, slice_get, suc, sym, take, true, zero, ℕ, ◌∙◌, ◌∷◌, ◌≡◌}
use Rattle.std.proofs.lemmas.List.{take-append-le}
use Rattle.std.proofs.lemmas.Option.{slice_get-map}
use Rattle.std.specs.Option.{option_map_or}

-- the runs in turn: up to a config the last one is its run
same_run : (m n : Option ℕ) → is_same_run m n ≡ true → m ≡ n
same_run None None e = refl
same_run None (Some n) e = absurd (cc)
same_run (Some m) None e = absurd (cc)
same_run (Some m) (Some n) e = ap (λ (k : ℕ). Some k) (eqb-true m n e)

abbrev last_run : Option ℕ → List HeldConfig → ℕ → Option (Option ℕ)
last_run run configs i = slice_get (run ∷ runs_after run configs) (length (runs_after run (take i configs)))

turn_by : (run : Option ℕ) (g h : HeldConfig) (configs : List HeldConfig) (j : ℕ) (b : Bool) → is_same_run run g.run ≡ b
    → ((r : Option ℕ) → g.run ≡ r → last_run r configs j ≡ Some h.run)
    → slice_get (run ∷ (if b then runs_after run configs else g.run ∷ runs_after g.run configs)) (length (if b then runs_after run (take j configs) else g.run ∷ runs_after g.run (take j configs)))
    ≡ Some h.run
turn_by run g h configs j true e rest = rest run (sym (same_run run g.run e))
turn_by run g h configs j false e rest = rest g.run refl

runs_turn : (configs : List HeldConfig) (i : ℕ) (first h : HeldConfig) (run : Option ℕ) → first.run ≡ run → slice_get (first ∷ configs) i ≡ Some h → last_run run configs i ≡ Some h.run
runs_turn configs zero first h run is got =
    let one : first ≡ h = (cc) in ap (λ (r : Option ℕ). Some r) (sym is ∙ ap (λ (g : HeldConfig). g.run) one)
runs_turn [] (suc j) first h run is got = absurd (cc)
runs_turn (g ∷ configs) (suc j) first h run is got =
    turn_by run g h configs j (is_same_run run g.run) refl (λ r here. runs_turn configs j g h r here got)

run_at : (configs : List HeldConfig) (i : ℕ) (h : HeldConfig) → slice_get configs i ≡ Some h
    → (k : ℕ) × (length (runs_in_turn (take (suc i) configs)) ≡ suc k) × (slice_get (runs_in_turn configs) k ≡ Some h.run)
run_at [] i h got = absurd (cc)
run_at (g ∷ configs) i h got = (length (runs_after g.run (take i configs)), refl, runs_turn configs i g h g.run refl got)

module _ (t : Seen) where
  bucket_here : (i : ℕ) (h : HeldConfig) → slice_get t.configs i ≡ Some h
      → option_map_or (λ (z : Option Bucket). z) (slice_get (None ∷ map (bucket_in t) (runs_in_turn t.configs)) (length (runs_in_turn (take (suc i) t.configs)))) None ≡ bucket_in t h.run
  bucket_here i h got =
      let at : (k : ℕ) × (length (runs_in_turn (take (suc i) t.configs)) ≡ suc k) × (slice_get (runs_in_turn t.configs) k ≡ Some h.run) = run_at t.configs i h got in
      ap (λ (n : ℕ). option_map_or (λ (z : Option Bucket). z) (slice_get (None ∷ map (bucket_in t) (runs_in_turn t.configs)) n) None) at.1
      ∙ ap (λ (o : Option (Option Bucket)). option_map_or (λ (z : Option Bucket). z) o None) (slice_get-map (bucket_in t) (runs_in_turn t.configs) at.0 ∙ ap (option_map (bucket_in t)) at.2)

  bucket_at : (i : ℕ) (o : Option HeldConfig) → slice_get t.configs i ≡ o → is_some o ≡ true
      → option_map_or (λ (z : Option Bucket). z) (slice_get (None ∷ map (bucket_in t) (runs_in_turn t.configs)) (length (runs_in_turn (take (suc i) t.configs)))) None
      ≡ bucket_in t (option_and_then (λ (h : HeldConfig). h.run) o)
  bucket_at i None got there = absurd (cc)
  bucket_at i (Some h) got there = bucket_here i h got

  bucket_by : (o : Option ℕ) → option_map_or (λ (k : ℕ). is_some (numbered t.configs k)) o true ≡ true
      → option_map_or (λ (z : Option Bucket). z) (slice_get (None ∷ map (bucket_in t) (runs_in_turn t.configs)) (option_map_or (λ (n : ℕ). length (runs_in_turn (take n t.configs))) o 0)) None
      ≡ bucket_in t (option_and_then (λ (h : HeldConfig). h.run) (option_and_then (numbered t.configs) o))
  bucket_by None there = refl
  bucket_by (Some zero) there = absurd (cc)
  bucket_by (Some (suc i)) there = bucket_at i (slice_get t.configs i) refl there

  -- what the bucket of a call holds
  pub tokens_same : (b : BucketsSeen) (c : Call) → SeesBuckets b t → has_config t c ≡ true → tokens_in b (bucket_place t c) ≡ tokens_in_run t (run_number c t)
  tokens_same b c h there =
      ap (λ (l : List (Option Bucket)). option_map_or (λ (z : Option Bucket). z) (slice_get l (bucket_place t c)) None) (sym h.runs) ∙ bucket_by c.config there

-- its place
take_by : (configs now : List HeldConfig) (n : ℕ) (o : Option HeldConfig) → numbered configs n ≡ o → is_some o ≡ true → IsMore configs now → take n now ≡ take n configs
take_by configs now n None got there more = absurd (cc)
take_by configs now n (Some h) got there more =
    ap (take n) more.joined ∙ take-append-le n configs more.more (places_below configs n h got)

place_by : (s t : Seen) (o : Option ℕ) → option_map_or (λ (k : ℕ). is_some (numbered s.configs k)) o true ≡ true → IsMore s.configs t.configs
    → option_map_or (λ (n : ℕ). length (runs_in_turn (take n t.configs))) o 0 ≡ option_map_or (λ (n : ℕ). length (runs_in_turn (take n s.configs))) o 0
place_by s t None there more = refl
place_by s t (Some n) there more = ap (λ (l : List HeldConfig). length (runs_in_turn l)) (take_by s.configs t.configs n (numbered s.configs n) refl there more)

pub place_same : (s t : Seen) (c : Call) → has_config s c ≡ true → IsMore s.configs t.configs → bucket_place t c ≡ bucket_place s c
place_same s t c there more = place_by s t c.config there more

pub buckets_are_of_runs : BucketsAreOfRuns
buckets_are_of_runs s b c h there = tokens_same s b c h there
