-- The buckets of tokens after a config was read: it joins the run of the one before, where both have the same throttle settings or none, or begins a bucket.
use Rattle.std.proofs.Common.{◌≡◌, ◌&&◌, ◌==◌, ◌++◌, ◌+◌, ◌∷◌, ap, append-nil, arith, refl, subst, sym, ◌∙◌, Bool, true, false, List, [], None, Option, Some, ℕ, suc, zero, fold, if◌then◌else◌, is_some, length, map, nat_le, nat_lt, not, slice_get}
use Rattle.std.proofs.lemmas.Bool.Decides.{nat_tests}
use Rattle.std.proofs.lemmas.Bool.{and_parts, eqb-true}
use Rattle.std.specs.List.{list_all}
use Rattle.std.specs.Option.{option_map, option_map_or}
use Rattle.std.specs.Prelude.{option_and_then}
use Rattle.a6_numbers.specs.Throttling.{Bucket, full}
use Rattle.attempt_ledger.specs.declared.row.RowEnd.{RowEnd}
use Rattle.call_actions.proofs.CallsApart.Seen.{all_numbered}
use Rattle.call_actions.specs.CallsApart.Apart.{IsBook, has_run}
use Rattle.call_actions.specs.Sees.{bucket_of}
use Rattle.channel_actions.specs.Configs.{SeesBuckets, bucket_in, is_same_run, runs_after, runs_in_turn}
use Rattle.end_cases.proofs.AttemptEnds.Rising.{final, final_is, joined, low_number, more, nothing_more, same_self_run}
use Rattle.event_cases.proofs.ConfigReads.After.{last_more, longer, numbered_more, plan_same}
use Rattle.event_cases.specs.ConfigReads.Throttled.{BucketsFollowConfigs}
use Rattle.channel_core.specs.Tables.{BucketsSeen, followed, goes_on}
use Rattle.channel_core.specs.Tables as channel
use Rattle.grpc_base.specs.declared.plan.CallPlan.TheVariants as plan
use Rattle.grpc_base.specs.declared.plan.CallPlan.{CallPlan}
use Rattle.grpc_base.specs.declared.plan.Throttle.{Throttle}
use Rattle.net_actions.proofs.Shutting.{get_after}
use Rattle.service_config.specs.declared.config.Config.{Config}
use Rattle.session_actions.specs.Attempts.{call_of}
use Rattle.session_actions.specs.Configs.{held_config, is_same_throttle, plan_of, run_to_join, with_config, with_held, with_throttled}
use Rattle.session_actions.specs.Tokens.{plan_of_attempt, tokens_after, tokens_by, tokens_in, tokens_with}
use Rattle.session_actions.specs.Words.{holds, last_of, numbered}
use Rattle.session_actions.specs.declared.attempt.Attempt.{Attempt}
use Rattle.session_actions.specs.declared.call.Call.{Call}
use Rattle.session_actions.specs.declared.config.HeldConfig.{HeldConfig}
use Rattle.session_actions.specs.declared.config.ThrottleRun.{ThrottleRun}
use Rattle.session_actions.specs.declared.seen.Seen.{Seen}

or_in : {Y : Type 0} (g h : Call → Y) (d : Y) (o : Option Call) → ((c : Call) → o ≡ Some c → g c ≡ h c) → option_map_or g o d ≡ option_map_or h o d
or_in g h d None same = refl
or_in g h d (Some c) same = same c refl

or_map : {X Y : Type 0} (g h : X → Y) (d : Y) → ((x : X) → g x ≡ h x) → (o : Option X) → option_map_or g o d ≡ option_map_or h o d
or_map g h d same None = refl
or_map g h d same (Some x) = same x

fold_same : (f g : ℕ → ℕ → ℕ) → ((n k : ℕ) → f n k ≡ g n k) → (n : ℕ) (ks : List ℕ) → fold f n ks ≡ fold g n ks
fold_same f g same n [] = refl
fold_same f g same n (k ∷ ks) = ap (λ (m : ℕ). fold f m ks) (same n k) ∙ fold_same f g same (g n k) ks

map_append : {X Y : Type 0} (f : X → Y) (xs : List X) (x : X) → map f (xs ++ x ∷ []) ≡ map f xs ++ f x ∷ []
map_append f [] x = refl
map_append f (y ∷ xs) x = ap (λ (l : List _). f y ∷ l) (map_append f xs x)

many : (n : ℕ) → nat_le (suc (suc n)) 1 ≡ false
many n = grind (arith, nat_tests)

-- the runs in turn, by whether there is a config before
module _ (h : HeldConfig) where
  runs_more : (cs : List HeldConfig) (g : HeldConfig) → last_of cs ≡ Some g → runs_in_turn (cs ++ h ∷ []) ≡ runs_in_turn cs ++ joined g.run h.run
  runs_more [] g e = absurd (cc)
  runs_more (f ∷ rest) g e =
      ap (λ (l : List (Option ℕ)). f.run ∷ l) (more f.run rest h ∙ ap (λ (r : Option ℕ). runs_after f.run rest ++ joined r h.run) (final_is rest f g e))

  some_last : (f : HeldConfig) (rest : List HeldConfig) → is_some (slice_get (f ∷ rest) (length rest)) ≡ true
  some_last f [] = refl
  some_last f (g ∷ rest) = some_last g rest

  none_before : (cs : List HeldConfig) → last_of cs ≡ None → cs ≡ []
  none_before [] e = refl
  none_before (f ∷ rest) e = absurd (let bad : true ≡ false = sym (some_last f rest) ∙ ap (λ (o : Option HeldConfig). is_some o) e in (cc))

long_runs : (F : Option ℕ → Option Bucket) (cs : List HeldConfig) (g : HeldConfig) → last_of cs ≡ Some g → nat_le (length (None ∷ map F (runs_in_turn cs))) 1 ≡ false
long_runs F [] g e = absurd (cc)
long_runs F (f ∷ rest) g e = many (length (map F (runs_after f.run rest)))

same_settings : (u v : Throttle) → ((u.start == v.start) && (u.ratio == v.ratio)) ≡ true → u ≡ v
same_settings u v e =
    let both = and_parts (u.start == v.start) (u.ratio == v.ratio) e in
    ap (λ (n : ℕ). record { start = n; ratio = u.ratio }) (eqb-true u.start v.start both.0)
    ∙ ap (λ (n : ℕ). record { start = v.start; ratio = n }) (eqb-true u.ratio v.ratio both.1)

same_throttle : (a b : Option Throttle) → channel.is_same_throttle a b ≡ true → a ≡ b
same_throttle None None e = refl
same_throttle None (Some u) e = absurd (cc)
same_throttle (Some u) None e = absurd (cc)
same_throttle (Some u) (Some v) e = ap (λ (w : Throttle). Some w) (same_settings u v e)

turned : (n m : ℕ) → (n == m) ≡ (m == n)
turned n m = grind (arith, nat_tests)

throttles_turned : (u v : Throttle) → is_same_throttle u v ≡ channel.is_same_throttle (Some v) (Some u)
throttles_turned u v =
    ap (λ (b : Bool). b && (u.ratio == v.ratio)) (turned u.start v.start) ∙ ap (λ (b : Bool). (v.start == u.start) && b) (turned u.ratio v.ratio)

module _ (s : Seen) (b : BucketsSeen) (sees : SeesBuckets b s) (book : IsBook s) (throttled : BucketsFollowConfigs s) where
  after_by : (r : Option ℕ) (g : HeldConfig) (configs : List HeldConfig) (x : Bool) → option_map_or (λ (k : ℕ). is_some (numbered s.runs k)) g.run true ≡ true
      → list_all (λ (q : Option ℕ). option_map_or (λ (k : ℕ). is_some (numbered s.runs k)) q true) (runs_after r configs) ≡ true
      → list_all (λ (q : Option ℕ). option_map_or (λ (k : ℕ). is_some (numbered s.runs k)) q true) (runs_after g.run configs) ≡ true
      → list_all (λ (q : Option ℕ). option_map_or (λ (k : ℕ). is_some (numbered s.runs k)) q true) (if x then runs_after r configs else g.run ∷ runs_after g.run configs) ≡ true
  after_by r g configs true here one two = one
  after_by r g configs false here one two = ap (λ (y : Bool). y && list_all (λ (q : Option ℕ). option_map_or (λ (k : ℕ). is_some (numbered s.runs k)) q true) (runs_after g.run configs)) here ∙ two

  all_after : (r : Option ℕ) (configs : List HeldConfig) → list_all (has_run s) configs ≡ true
      → list_all (λ (q : Option ℕ). option_map_or (λ (k : ℕ). is_some (numbered s.runs k)) q true) (runs_after r configs) ≡ true
  all_after r [] all = refl
  all_after r (g ∷ configs) all =
      let both = and_parts (has_run s g) (list_all (has_run s) configs) all in
      after_by r g configs (is_same_run r g.run) both.0 (all_after r configs both.1) (all_after g.run configs both.1)

  all_turns : (configs : List HeldConfig) → list_all (has_run s) configs ≡ true
      → list_all (λ (q : Option ℕ). option_map_or (λ (k : ℕ). is_some (numbered s.runs k)) q true) (runs_in_turn configs) ≡ true
  all_turns [] all = refl
  all_turns (g ∷ configs) all =
      let both = and_parts (has_run s g) (list_all (has_run s) configs) all in
      ap (λ (y : Bool). y && list_all (λ (q : Option ℕ). option_map_or (λ (k : ℕ). is_some (numbered s.runs k)) q true) (runs_after g.run configs)) both.0 ∙ all_after g.run configs both.1

  module _ (h : HeldConfig) (adds : List ThrottleRun) where
    abbrev t : Seen
    t = longer h adds s

    -- the tokens of a run are as before
    plan_att : (a : Attempt) → plan_of_attempt a t ≡ plan_of_attempt a s
    plan_att a =
        or_in (λ (c : Call). plan_of c t) (λ (c : Call). plan_of c s) plan.None (numbered s.calls a.row.call) (λ c there. plan_same s h adds book a.row.call c there)

    by_is : (run : ThrottleRun) (n : ℕ) (o : Option Attempt) → tokens_by run t n o ≡ tokens_by run s n o
    by_is run n None = refl
    by_is run n (Some a) =
        or_map (tokens_with run t n a) (tokens_with run s n a) n (λ e. ap (λ (p : CallPlan). tokens_after run.throttle p e.code e.pushback n) (plan_att a)) a.row.ended

    tokens_are : (run : ThrottleRun) → tokens_in run t ≡ tokens_in run s
    tokens_are run =
        fold_same (λ (n k : ℕ). tokens_by run t n (numbered s.attempts k)) (λ (n k : ℕ). tokens_by run s n (numbered s.attempts k))
        (λ n k. by_is run n (numbered s.attempts k)) run.throttle.start run.ends

    bucket_is : (run : ThrottleRun) → bucket_of t run ≡ bucket_of s run
    bucket_is run = ap (λ (n : ℕ). record { start = run.throttle.start; ratio = run.throttle.ratio; count = n }) (tokens_are run)

    map_bucket : (o : Option ThrottleRun) → option_map (bucket_of t) o ≡ option_map (bucket_of s) o
    map_bucket None = refl
    map_bucket (Some run) = ap (λ (x : Bucket). Some x) (bucket_is run)

    in_is : (r : Option ℕ) → option_map_or (λ (k : ℕ). is_some (numbered s.runs k)) r true ≡ true → bucket_in t r ≡ bucket_in s r
    in_is None there = refl
    in_is (Some k) there = ap (option_map (bucket_of t)) (numbered_more s.runs adds k there) ∙ map_bucket (numbered s.runs k)

    all_in : (rs : List (Option ℕ)) → list_all (λ (q : Option ℕ). option_map_or (λ (k : ℕ). is_some (numbered s.runs k)) q true) rs ≡ true
        → map (bucket_in t) rs ≡ map (bucket_in s) rs
    all_in [] all = refl
    all_in (r ∷ rs) all =
        let both = and_parts (option_map_or (λ (k : ℕ). is_some (numbered s.runs k)) r true) (list_all (λ (q : Option ℕ). option_map_or (λ (k : ℕ). is_some (numbered s.runs k)) q true) rs) all in
        ap (λ (x : Option Bucket). x ∷ map (bucket_in t) rs) (in_is r both.0) ∙ ap (λ (l : List (Option Bucket)). bucket_in s r ∷ l) (all_in rs both.1)

    old : None ∷ map (bucket_in t) (runs_in_turn s.configs) ≡ b.runs
    old = ap (λ (l : List (Option Bucket)). None ∷ l) (all_in (runs_in_turn s.configs) (all_turns s.configs book.runs)) ∙ sees.runs

    throttle_now : option_and_then (λ (g : HeldConfig). g.config.throttle) (held_config t) ≡ h.config.throttle
    throttle_now = ap (option_and_then (λ (g : HeldConfig). g.config.throttle)) (last_more s.configs h)

    held_is : (g : HeldConfig) → last_of s.configs ≡ Some g → b.throttle ≡ g.config.throttle
    held_is g last = sym sees.throttle ∙ ap (option_and_then (λ (x : HeldConfig). x.config.throttle)) last

    -- it joins the run of the one before
    joins : (g : HeldConfig) → last_of s.configs ≡ Some g → h.run ≡ g.run → channel.is_same_throttle g.config.throttle h.config.throttle ≡ true
        → SeesBuckets (followed h.config.throttle b) t
    joins g last run same =
        let on : goes_on h.config.throttle b ≡ true
        = ap (λ (l : List (Option Bucket)). not (nat_le (length l) 1) && channel.is_same_throttle b.throttle h.config.throttle) (sym sees.runs)
        ∙ ap (λ (x : Bool). not x && channel.is_same_throttle b.throttle h.config.throttle) (long_runs (bucket_in s) s.configs g last)
        ∙ ap (λ (x : Option Throttle). channel.is_same_throttle x h.config.throttle) (held_is g last) ∙ same in
        let turn : runs_in_turn (s.configs ++ h ∷ []) ≡ runs_in_turn s.configs
        = runs_more h s.configs g last
        ∙ ap (λ (x : Option ℕ). runs_in_turn s.configs ++ (if is_same_run g.run x then [] else x ∷ [])) run
        ∙ ap (λ (x : Bool). runs_in_turn s.configs ++ (if x then [] else g.run ∷ [])) (same_self_run g.run) ∙ nothing_more (runs_in_turn s.configs) in
        subst (λ (x : Bool). SeesBuckets (if x then b else record { runs = b.runs ++ option_map full h.config.throttle ∷ []; throttle = h.config.throttle }) t) (sym on)
        (record {
          runs = ap (λ (l : List (Option ℕ)). None ∷ map (bucket_in t) l) turn ∙ old;
          throttle = throttle_now ∙ sym (held_is g last ∙ same_throttle g.config.throttle h.config.throttle same);
        })

    -- or begins a bucket
    begins_by : goes_on h.config.throttle b ≡ false → runs_in_turn (s.configs ++ h ∷ []) ≡ runs_in_turn s.configs ++ h.run ∷ []
        → bucket_in t h.run ≡ option_map full h.config.throttle → SeesBuckets (followed h.config.throttle b) t
    begins_by off turn new =
        subst (λ (x : Bool). SeesBuckets (if x then b else record { runs = b.runs ++ option_map full h.config.throttle ∷ []; throttle = h.config.throttle }) t) (sym off)
        (record {
          runs =
              ap (λ (l : List (Option ℕ)). None ∷ map (bucket_in t) l) turn
              ∙ ap (λ (l : List (Option Bucket)). None ∷ l) (map_append (bucket_in t) (runs_in_turn s.configs) h.run)
              ∙ ap (λ (x : Option Bucket). (None ∷ map (bucket_in t) (runs_in_turn s.configs)) ++ x ∷ []) new
              ∙ ap (λ (l : List (Option Bucket)). l ++ option_map full h.config.throttle ∷ []) old;
          throttle = throttle_now;
        })

    begins : (g : HeldConfig) → last_of s.configs ≡ Some g → is_same_run g.run h.run ≡ false → channel.is_same_throttle g.config.throttle h.config.throttle ≡ false
        → bucket_in t h.run ≡ option_map full h.config.throttle → SeesBuckets (followed h.config.throttle b) t
    begins g last other differ new =
        begins_by
        (ap (λ (x : Option Throttle). not (nat_le (length b.runs) 1) && channel.is_same_throttle x h.config.throttle) (held_is g last)
        ∙ ap (λ (x : Bool). not (nat_le (length b.runs) 1) && x) differ ∙ and_off (not (nat_le (length b.runs) 1)))
        (runs_more h s.configs g last ∙ ap (λ (x : Bool). runs_in_turn s.configs ++ (if x then [] else h.run ∷ [])) other) new
      where
        and_off : (x : Bool) → (x && false) ≡ false
        and_off true = refl
        and_off false = refl

    first : last_of s.configs ≡ None → bucket_in t h.run ≡ option_map full h.config.throttle → SeesBuckets (followed h.config.throttle b) t
    first last new =
        let none : s.configs ≡ [] = none_before h s.configs last in
        begins_by
        (ap (λ (l : List (Option Bucket)). not (nat_le (length l) 1) && channel.is_same_throttle b.throttle h.config.throttle)
        (sym sees.runs ∙ ap (λ (l : List HeldConfig). None ∷ map (bucket_in s) (runs_in_turn l)) none))
        (ap (λ (l : List HeldConfig). runs_in_turn (l ++ h ∷ [])) none ∙ sym (ap (λ (l : List HeldConfig). runs_in_turn l ++ h.run ∷ []) none)) new

  -- which of them it is: a config without throttle settings
  run_of : (g : HeldConfig) → last_of s.configs ≡ Some g → is_some g.run ≡ is_some g.config.throttle
  run_of g last = throttled (length s.configs) g last

  none_run : (o : Option ℕ) → is_some o ≡ false → o ≡ None
  none_run None e = refl
  none_run (Some k) e = absurd (cc)

  some_run : (o : Option ℕ) → is_some o ≡ true → is_same_run o None ≡ false
  some_run None e = absurd (cc)
  some_run (Some k) e = refl

  plain_by : (config : Config) (g : HeldConfig) → last_of s.configs ≡ Some g → config.throttle ≡ None → (u : Option Throttle) → g.config.throttle ≡ u
      → SeesBuckets (followed config.throttle b) (longer (record { config = config; run = None }) [] s)
  plain_by config g last none None is =
      joins (record { config = config; run = None }) [] g last (sym (none_run g.run (run_of g last ∙ ap (λ (o : Option Throttle). is_some o) is)))
      (ap (λ (x : Option Throttle). channel.is_same_throttle x config.throttle) is ∙ ap (channel.is_same_throttle None) none)
  plain_by config g last none (Some u) is =
      begins (record { config = config; run = None }) [] g last (some_run g.run (run_of g last ∙ ap (λ (o : Option Throttle). is_some o) is))
      (ap (λ (x : Option Throttle). channel.is_same_throttle x config.throttle) is ∙ ap (channel.is_same_throttle (Some u)) none)
      (sym (ap (option_map full) none))

  plain : (config : Config) → config.throttle ≡ None → (o : Option HeldConfig) → last_of s.configs ≡ o
      → SeesBuckets (followed config.throttle b) (longer (record { config = config; run = None }) [] s)
  plain config none None last = first (record { config = config; run = None }) [] last (sym (ap (option_map full) none))
  plain config none (Some g) last = plain_by config g last none g.config.throttle refl

  -- one with such settings, which joins the run of the one before, or begins one
  joined_by : (config : Config) (v : Throttle) (r : ℕ) → config.throttle ≡ Some v → (o : Option HeldConfig) → last_of s.configs ≡ o
      → option_and_then (λ (h : HeldConfig). if holds (is_same_throttle v) h.config.throttle then h.run else None) o ≡ Some r
      → SeesBuckets (followed config.throttle b) (longer (record { config = config; run = Some r }) [] s)
  joined_by config v r is None last e = absurd (cc)
  joined_by config v r is (Some g) last e = by g.config.throttle refl (holds (is_same_throttle v) g.config.throttle) refl e
    where
      by : (u : Option Throttle) → g.config.throttle ≡ u → (x : Bool) → holds (is_same_throttle v) g.config.throttle ≡ x → (if x then g.run else None) ≡ Some r
          → SeesBuckets (followed config.throttle b) (longer (record { config = config; run = Some r }) [] s)
      by u has false same f = absurd (cc)
      by None has true same f = absurd (let bad : false ≡ true = sym (ap (holds (is_same_throttle v)) has) ∙ same in (cc))
      by (Some u) has true same f =
          joins (record { config = config; run = Some r }) [] g last (sym f)
          (ap (λ (x : Option Throttle). channel.is_same_throttle x config.throttle) has ∙ ap (channel.is_same_throttle (Some u)) is
          ∙ sym (throttles_turned v u) ∙ sym (ap (holds (is_same_throttle v)) has) ∙ same)

  abbrev new : ℕ
  new = length s.runs + 1

  abbrev with_new : Config → Throttle → Seen
  with_new config v = longer (record { config = config; run = Some new }) (record { throttle = v; ends = [] } ∷ []) s

  new_bucket : (config : Config) (v : Throttle) → config.throttle ≡ Some v → bucket_in (with_new config v) (Some new) ≡ option_map full config.throttle
  new_bucket config v is =
      let number : new ≡ suc (length s.runs) = omega arith in
      ap (λ (k : ℕ). option_map (bucket_of (with_new config v)) (numbered (with_new config v).runs k)) number
      ∙ ap (option_map (bucket_of (with_new config v))) (get_after s.runs [] (record { throttle = v; ends = [] }))
      ∙ sym (ap (option_map full) is)

  low : (k : ℕ) → nat_lt k new ≡ true → (k == new) ≡ false
  low k e = grind (arith, nat_tests, e)

  not_new : (o : Option ℕ) → option_map_or (λ (k : ℕ). is_some (numbered s.runs k)) o true ≡ true → is_same_run o (Some new) ≡ false
  not_new None there = refl
  not_new (Some k) there = low k (low_number s.runs k there)

  new_by : (config : Config) (v : Throttle) → config.throttle ≡ Some v → (o : Option HeldConfig) → last_of s.configs ≡ o
      → option_and_then (λ (h : HeldConfig). if holds (is_same_throttle v) h.config.throttle then h.run else None) o ≡ None
      → SeesBuckets (followed config.throttle b) (with_new config v)
  new_by config v is None last e = first (record { config = config; run = Some new }) (record { throttle = v; ends = [] } ∷ []) last (new_bucket config v is)
  new_by config v is (Some g) last e =
      begins (record { config = config; run = Some new }) (record { throttle = v; ends = [] } ∷ []) g last
      (not_new g.run (all_numbered (has_run s) s.configs (length s.configs) g book.runs last))
      (ap (channel.is_same_throttle g.config.throttle) is ∙ differs g.config.throttle refl (holds (is_same_throttle v) g.config.throttle) refl e)
      (new_bucket config v is)
    where
      differs : (u : Option Throttle) → g.config.throttle ≡ u → (x : Bool) → holds (is_same_throttle v) g.config.throttle ≡ x → (if x then g.run else None) ≡ None
          → channel.is_same_throttle g.config.throttle (Some v) ≡ false
      differs None has x same f = ap (λ (o : Option Throttle). channel.is_same_throttle o (Some v)) has
      differs (Some u) has true same f =
          absurd (let bad : false ≡ true = sym (ap (λ (o : Option ℕ). is_some o) f) ∙ run_of g last ∙ ap (λ (o : Option Throttle). is_some o) has in (cc))
      differs (Some u) has false same f =
          ap (λ (o : Option Throttle). channel.is_same_throttle o (Some v)) has ∙ sym (throttles_turned v u) ∙ sym (ap (holds (is_same_throttle v)) has) ∙ same

  longer_same : (h : HeldConfig) → longer h [] s ≡ record s { configs = s.configs ++ h ∷ [] }
  longer_same h = ap (λ (l : List ThrottleRun). record s { configs = s.configs ++ h ∷ []; runs = l }) (append-nil s.runs)

  throttled_sees : (config : Config) (v : Throttle) → config.throttle ≡ Some v → (o : Option ℕ) → run_to_join v s ≡ o
      → SeesBuckets (followed config.throttle b) (with_throttled config v o s)
  throttled_sees config v is (Some r) e =
      subst (SeesBuckets (followed config.throttle b)) (longer_same (record { config = config; run = Some r })) (joined_by config v r is (last_of s.configs) refl e)
  throttled_sees config v is None e = new_by config v is (last_of s.configs) refl e

  held_sees_by : (config : Config) (o : Option Throttle) → config.throttle ≡ o → SeesBuckets (followed config.throttle b) (with_held config o s)
  held_sees_by config None is =
      subst (SeesBuckets (followed config.throttle b)) (longer_same (record { config = config; run = None })) (plain config is (last_of s.configs) refl)
  held_sees_by config (Some v) is = throttled_sees config v is (run_to_join v s) refl

  pub held_sees : (config : Config) → SeesBuckets (followed config.throttle b) (with_held config config.throttle s)
  held_sees config = held_sees_by config config.throttle refl
