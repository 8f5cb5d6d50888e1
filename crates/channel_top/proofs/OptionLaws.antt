-- The number that an option was given.
use Rattle.std.proofs.Common.{◌≡◌, ◌∙◌, ◌≤◌, ℕ, List, Option, Some, None, sym, subst, arith, refl}
use Rattle.std.specs.Prelude.{Result, Ok, Err, IfNone, IfSome, IsSomeAnd, codes}
use Rattle.std.specs.Str.Parse.{ExplainsUnsignedError, HasUnsignedDigitsIfOk, ParsesUnsigned}
use Rattle.std.specs.declared.num.ParseIntError.{ParseIntError}
use Rattle.clap.specs.Words.{ReadsOne, Row, rows_of}
use Rattle.clap.specs.Matches.{one_text}
use Rattle.clap.specs.declared.parser.matches.Found.{Found}
use Rattle.clap.proofs.WalkLemmas.{one_text-rows}
use Rattle.channel_top.specs.declared.words.Mode.{Mode}
use Rattle.channel_top.specs.declared.words.Mode.TheVariants as mode
use Rattle.channel_top.specs.Words.{IsLoadBy, IsLoadOf, IsOption, IsRelayBy, IsServeBy}

some_none : {X : Type 0} (x : X) → Some x ≡ None → ⊥
some_none x e = (cc)

-- how a number of 64 bits is read, as its own text says
abbrev pub GivesNumber : List ℕ → Result ℕ ParseIntError → Type 0
GivesNumber t r = ParsesUnsigned 64 10 t r × ExplainsUnsignedError 10 t r × HasUnsignedDigitsIfOk t r

pub reads_number : (t : List ℕ) (r : Result ℕ ParseIntError) → GivesNumber t r → ParsesUnsigned 64 10 t r
reads_number t r h = h.0

-- how a number of 64 bits is read
abbrev pub IsReading : {E : Type 0} → (List ℕ → Result ℕ E → Type 0) → Type 0
IsReading {E} gives = (t : List ℕ) (r : Result ℕ E) → gives t r → ParsesUnsigned 64 10 t r

-- a number that was read and is within the bounds
pub option_some : {E : Type 0} (gives : List ℕ → Result ℕ E → Type 0) (f : Found) (id : List ℕ) (low high v : ℕ) (r : Option ℕ) → IsReading gives → r ≡ Some v → (one_text f id ≡ None → r ≡ None) → ((t : List ℕ) → one_text f id ≡ Some t → ReadsOne gives t r) → low ≤ v → v ≤ high → IsOption id low high (rows_of f) v
option_some {E} gives f id low high v r reads is none value above below = by_text (one_text f id) refl
  where
    parsed : (t : List ℕ) → one_text f id ≡ Some t → ParsesUnsigned {E = E} 64 10 t (Ok v)
    parsed t given = reads t (Ok v) (subst (ReadsOne gives t) is (value t given))

    by_text : (o : Option (List ℕ)) → one_text f id ≡ o → IsOption id low high (rows_of f) v
    by_text None given = absurd (some_none v (sym is ∙ none given))
    by_text (Some t) given =
        let p : ParsesUnsigned {E = E} 64 10 t (Ok v) = parsed t given in
        record {
          text = t;
          given = sym (one_text-rows f id) ∙ given;
          within = (p.0.0, p.0.1, omega (arith, p.1, above), omega (arith, p.1, below));
          value = p.1;
        }

-- no number was read
pub option_none : {E : Type 0} (gives : List ℕ → Result ℕ E → Type 0) (f : Found) (id : List ℕ) (low high : ℕ) (r : Option ℕ) → IsReading gives → r ≡ None → ((t : List ℕ) → one_text f id ≡ Some t → ReadsOne gives t r) → (n : ℕ) → IsOption id low high (rows_of f) n → ⊥
option_none {E} gives f id low high r reads is value n option =
    let read : ReadsOne {T = ℕ} {E = E} gives option.text None = subst (ReadsOne gives option.text) is (value option.text (one_text-rows f id ∙ option.given)) in
    reads option.text (Err read.0) read.1 (option.within.0, option.within.1)

-- a number was read that is not within the bounds
pub option_outside : {E : Type 0} (gives : List ℕ → Result ℕ E → Type 0) (f : Found) (id : List ℕ) (low high v : ℕ) (r : Option ℕ) → IsReading gives → r ≡ Some v → ((t : List ℕ) → one_text f id ≡ Some t → ReadsOne gives t r) → (low ≤ v → v ≤ high → ⊥) → (n : ℕ) → IsOption id low high (rows_of f) n → ⊥
option_outside {E} gives f id low high v r reads is value outside n option =
    let read : ParsesUnsigned {E = E} 64 10 option.text (Ok v) = reads option.text (Ok v) (subst (ReadsOne gives option.text) is (value option.text (one_text-rows f id ∙ option.given))) in
    outside (omega (arith, read.1, option.within.2)) (omega (arith, read.1, option.within.3))

-- what is within the bounds of a number that was read
pub within_some : {E : Type 0} (gives : List ℕ → Result ℕ E → Type 0) (f : Found) (id : List ℕ) (low high v : ℕ) (r w : Option ℕ) → IsReading gives → r ≡ Some v → (one_text f id ≡ None → r ≡ None) → ((t : List ℕ) → one_text f id ≡ Some t → ReadsOne gives t r) → IfSome w (λ n. (n ≡ v) × (low ≤ n) × (n ≤ high)) → IfSome w (IsOption id low high (rows_of f))
within_some gives f id low high v r None reads is none value reported = tt
within_some gives f id low high v r (Some n) reads is none value reported =
    subst (IsOption id low high (rows_of f)) (sym reported.0) (option_some gives f id low high v r reads is none value (omega (arith, reported.0, reported.1)) (omega (arith, reported.0, reported.2)))

pub within_none : {E : Type 0} (gives : List ℕ → Result ℕ E → Type 0) (f : Found) (id : List ℕ) (low high v : ℕ) (r w : Option ℕ) → IsReading gives → r ≡ Some v → ((t : List ℕ) → one_text f id ≡ Some t → ReadsOne gives t r) → IfNone w (low ≤ v → v ≤ high → ⊥) → IfNone w ((n : ℕ) → IsOption id low high (rows_of f) n → ⊥)
within_none gives f id low high v r (Some n) reads is value reported = tt
within_none gives f id low high v r None reads is value reported = option_outside gives f id low high v r reads is value reported

-- an option that is not there
pub no_port : (rows : List Row) → ((n : ℕ) → IsOption (codes "port") 0 65535 rows n → ⊥) → (m : Mode) → IsServeBy rows m → ⊥
no_port rows none (mode.Serve port links) is = none port is.0
no_port rows none m is = absurd is

pub no_links : (rows : List Row) → ((n : ℕ) → IsOption (codes "links") 1 1024 rows n → ⊥) → (m : Mode) → IsServeBy rows m → ⊥
no_links rows none (mode.Serve port links) is = none links is.1
no_links rows none m is = absurd is

pub no_seed : (rows : List Row) → ((n : ℕ) → IsOption (codes "seed") 0 18446744073709551615 rows n → ⊥) → (m : Mode) → IsLoadBy rows m → ⊥
no_seed rows none (mode.Load load) is = none load.seed is.0
no_seed rows none m is = absurd is

pub no_calls : (rows : List Row) → ((n : ℕ) → IsOption (codes "calls") 1 10000 rows n → ⊥) → (m : Mode) → IsLoadBy rows m → ⊥
no_calls rows none (mode.Load load) is = none load.calls is.1
no_calls rows none m is = absurd is

-- the number of an option is within its bounds
pub option_above : (id : List ℕ) (low high : ℕ) (rows : List Row) (n : ℕ) → IsOption id low high rows n → low ≤ n
option_above id low high rows n option = omega (arith, option.within.2, option.value)

pub option_below : (id : List ℕ) (low high : ℕ) (rows : List Row) (n : ℕ) → IsOption id low high rows n → n ≤ high
option_below id low high rows n option = omega (arith, option.within.3, option.value)

-- the mode `load` of the numbers that its options were given
pub load_given : (rows : List Row) (seed calls : ℕ) (r : Option Mode) → IsOption (codes "seed") 0 18446744073709551615 rows seed → IsOption (codes "calls") 1 10000 rows calls → IsSomeAnd r (IsLoadOf seed calls) → IfSome r (IsLoadBy rows)
load_given rows seed calls None s c made = tt
load_given rows seed calls (Some (mode.Load load)) s c made = (
  subst (IsOption (codes "seed") 0 18446744073709551615 rows) (sym made.0) s,
  subst (IsOption (codes "calls") 1 10000 rows) (sym made.1) c,
)
load_given rows seed calls (Some m) s c made = absurd made

pub load_there : (P : Type 0) (seed calls : ℕ) (r : Option Mode) → IsSomeAnd r (IsLoadOf seed calls) → IfNone r P
load_there P seed calls None made = absurd made
load_there P seed calls (Some m) made = tt

-- an option of the mode `relay` that is not there
pub no_relay_port : (rows : List Row) → ((n : ℕ) → IsOption (codes "port") 0 65535 rows n → ⊥) → (m : Mode) → IsRelayBy rows m → ⊥
no_relay_port rows none (mode.Relay settings) is = none settings.port is.0
no_relay_port rows none m is = absurd is

pub no_relay_links : (rows : List Row) → ((n : ℕ) → IsOption (codes "links") 1 1024 rows n → ⊥) → (m : Mode) → IsRelayBy rows m → ⊥
no_relay_links rows none (mode.Relay settings) is = none settings.links is.1
no_relay_links rows none m is = absurd is

pub no_relay_seed : (rows : List Row) → ((n : ℕ) → IsOption (codes "seed") 0 18446744073709551615 rows n → ⊥) → (m : Mode) → IsRelayBy rows m → ⊥
no_relay_seed rows none (mode.Relay settings) is = none settings.seed is.2
no_relay_seed rows none m is = absurd is

pub no_relay_nets : (rows : List Row) → ((n : ℕ) → IsOption (codes "nets") 1 4 rows n → ⊥) → (m : Mode) → IsRelayBy rows m → ⊥
no_relay_nets rows none (mode.Relay settings) is = none settings.nets is.3
no_relay_nets rows none m is = absurd is
