-- What an option was given that may be left out, and the options of `live`.
use Rattle.std.proofs.Common.{◌≡◌, ◌≢◌, ◌∙◌, ◌≤◌, ℕ, List, Option, Some, None, sym, subst, arith, inl, inr, refl}
use Rattle.std.specs.Prelude.{Result, Ok, Err, codes}
use Rattle.std.specs.Str.Parse.{ParsesUnsigned}
use Rattle.clap.specs.Words.{Row, TriesOne, one_of, rows_of}
use Rattle.clap.specs.Matches.{one_text}
use Rattle.clap.specs.declared.parser.matches.Found.{Found}
use Rattle.clap.proofs.WalkLemmas.{one_text-rows}
use Rattle.keepalive_core.specs.declared.rule.KeepRule.{KeepRule}
use Rattle.channel_top.specs.declared.words.Mode.{Mode}
use Rattle.channel_top.specs.declared.words.Mode.TheVariants as mode
use Rattle.channel_top.specs.Words.{IsChoice, IsKeepBy, IsLiveBy, IsOption}
use Rattle.channel_top.proofs.OptionLaws.{IsReading}

some_none : {X : Type 0} (x : X) → Some x ≡ None → ⊥
some_none x e = (cc)

-- an answer is one alone
number_nothing : {E : Type 0} (v : ℕ) (r : Result (Option ℕ) E) → r ≡ Ok (Some v) → r ≡ Ok None → ⊥
number_nothing v r e f = (cc)

pub number_again : {E : Type 0} (r : Result (Option ℕ) E) (o : Option ℕ) (v w : ℕ) → r ≡ Ok o → o ≡ Some v → w ≡ v → r ≡ Ok (Some w)
number_again r o v w e f g = (cc)

fault_nothing : {E : Type 0} (x : E) (r : Result (Option ℕ) E) → r ≡ Err x → r ≡ Ok None → ⊥
fault_nothing x r e f = (cc)

-- nothing was given
pub given_nothing : {E : Type 0} (gives : List ℕ → Result ℕ E → Type 0) (f : Found) (id : List ℕ) (r : Result (Option ℕ) E) → r ≡ Ok None → ((t : List ℕ) → one_text f id ≡ Some t → TriesOne gives t r) → one_of id (rows_of f) ≡ None
given_nothing {E} gives f id r is value = by_text (one_text f id) refl
  where
    by_text : (o : Option (List ℕ)) → one_text f id ≡ o → one_of id (rows_of f) ≡ None
    by_text None given = sym (one_text-rows f id) ∙ given
    by_text (Some t) given = absurd (subst (TriesOne gives t) is (value t given))

-- the text that a number was read of
read_of : {E : Type 0} (gives : List ℕ → Result ℕ E → Type 0) (f : Found) (id : List ℕ) (v : ℕ) (r : Result (Option ℕ) E) → IsReading gives → r ≡ Ok (Some v) → (one_text f id ≡ None → r ≡ Ok None) → ((t : List ℕ) → one_text f id ≡ Some t → TriesOne gives t r) → (t : List ℕ) × (one_text f id ≡ Some t) × ParsesUnsigned {E = E} 64 10 t (Ok v)
read_of {E} gives f id v r reads is none value = by_text (one_text f id) refl
  where
    by_text : (o : Option (List ℕ)) → one_text f id ≡ o → (t : List ℕ) × (one_text f id ≡ Some t) × ParsesUnsigned {E = E} 64 10 t (Ok v)
    by_text None given = absurd (number_nothing v r is (none given))
    by_text (Some t) given = (t, given, reads t (Ok v) (subst (TriesOne gives t) is (value t given)))

-- a number within the bounds
pub given_number : {E : Type 0} (gives : List ℕ → Result ℕ E → Type 0) (f : Found) (id : List ℕ) (low high v : ℕ) (r : Result (Option ℕ) E) → IsReading gives → r ≡ Ok (Some v) → (one_text f id ≡ None → r ≡ Ok None) → ((t : List ℕ) → one_text f id ≡ Some t → TriesOne gives t r) → low ≤ v → v ≤ high → IsOption id low high (rows_of f) v
given_number {E} gives f id low high v r reads is none value above below =
    let read = read_of gives f id v r reads is none value in
    let p : ParsesUnsigned {E = E} 64 10 read.0 (Ok v) = read.2 in
    record {
      text = read.0;
      given = sym (one_text-rows f id) ∙ read.1;
      within = (p.0.0, p.0.1, omega (arith, p.1, above), omega (arith, p.1, below));
      value = p.1;
    }

-- a number that is not
pub given_outside : {E : Type 0} (gives : List ℕ → Result ℕ E → Type 0) (f : Found) (id : List ℕ) (low high v : ℕ) (r : Result (Option ℕ) E) → IsReading gives → r ≡ Ok (Some v) → (one_text f id ≡ None → r ≡ Ok None) → ((t : List ℕ) → one_text f id ≡ Some t → TriesOne gives t r) → (low ≤ v → v ≤ high → ⊥) → (one_of id (rows_of f) ≢ None) × ((n : ℕ) → IsOption id low high (rows_of f) n → ⊥)
given_outside {E} gives f id low high v r reads is none value outside =
    let read = read_of gives f id v r reads is none value in (
      (λ gone. some_none read.0 (sym read.1 ∙ (one_text-rows f id ∙ gone))),
      (λ n option.
          let here : ParsesUnsigned {E = E} 64 10 option.text (Ok v) = reads option.text (Ok v) (subst (TriesOne gives option.text) is (value option.text (one_text-rows f id ∙ option.given))) in
          outside (omega (arith, here.1, option.within.2)) (omega (arith, here.1, option.within.3))),
    )

-- a text that is no number
pub given_no_number : {E : Type 0} (gives : List ℕ → Result ℕ E → Type 0) (f : Found) (id : List ℕ) (low high : ℕ) (e : E) (r : Result (Option ℕ) E) → IsReading gives → r ≡ Err e → (one_text f id ≡ None → r ≡ Ok None) → ((t : List ℕ) → one_text f id ≡ Some t → TriesOne gives t r) → (one_of id (rows_of f) ≢ None) × ((n : ℕ) → IsOption id low high (rows_of f) n → ⊥)
given_no_number {E} gives f id low high e r reads is none value = (
  (λ gone. fault_nothing e r is (none (one_text-rows f id ∙ gone))),
  (λ n option.
      let read : ParsesUnsigned {E = E} 64 10 option.text (Err e) = reads option.text (Err e) (subst (TriesOne gives option.text) is (value option.text (one_text-rows f id ∙ option.given))) in
      read (option.within.0, option.within.1)),
)

-- ---- choices

pub choice_wrong : (id : List ℕ) (low high default : ℕ) (rows : List Row) → (one_of id rows ≢ None) × ((n : ℕ) → IsOption id low high rows n → ⊥) → (n : ℕ) → IsChoice id low high default rows n → ⊥
choice_wrong id low high default rows wrong n (inl option) = wrong.1 n option
choice_wrong id low high default rows wrong n (inr none) = wrong.0 none.0

-- ---- keepalives

given_there : (id : List ℕ) (low high : ℕ) (rows : List Row) (n : ℕ) → IsOption id low high rows n → one_of id rows ≡ None → ⊥
given_there id low high rows n option none = some_none option.text (sym option.given ∙ none)

pub keep_wrong : (rows : List Row) → (one_of (codes "keepalive") rows ≢ None) × ((n : ℕ) → IsOption (codes "keepalive") 1 86400000 rows n → ⊥) → (keep : Option KeepRule) → IsKeepBy rows keep → ⊥
keep_wrong rows wrong None is = wrong.0 is.0
keep_wrong rows wrong (Some rule) is = wrong.1 is.0 is.2

pub keep_alone : (rows : List Row) → one_of (codes "keepalive") rows ≡ None → (one_of (codes "keepalive-timeout") rows ≡ None → ⊥) → (keep : Option KeepRule) → IsKeepBy rows keep → ⊥
keep_alone rows none some None is = some is.1
keep_alone rows none some (Some rule) is = given_there (codes "keepalive") 1 86400000 rows is.0 is.2 none

pub timeout_given : (rows : List Row) (n : ℕ) → IsOption (codes "keepalive-timeout") 1 86400000 rows n → one_of (codes "keepalive-timeout") rows ≡ None → ⊥
timeout_given rows n option none = given_there (codes "keepalive-timeout") 1 86400000 rows n option none

pub keep_no_timeout : (rows : List Row) (time : ℕ) → IsOption (codes "keepalive") 1 86400000 rows time → ((n : ℕ) → IsChoice (codes "keepalive-timeout") 1 86400000 20000 rows n → ⊥) → (keep : Option KeepRule) → IsKeepBy rows keep → ⊥
keep_no_timeout rows time option never None is = given_there (codes "keepalive") 1 86400000 rows time option is.0
keep_no_timeout rows time option never (Some rule) is = never is.1 is.3

-- ---- the mode

pub no_seed : (rows : List Row) → ((n : ℕ) → IsChoice (codes "seed") 0 18446744073709551615 1 rows n → ⊥) → (m : Mode) → IsLiveBy rows m → ⊥
no_seed rows never (mode.Live settings) is = never settings.seed is.0
no_seed rows never m is = absurd is

pub no_nets : (rows : List Row) → ((n : ℕ) → IsChoice (codes "nets") 1 4 2 rows n → ⊥) → (m : Mode) → IsLiveBy rows m → ⊥
no_nets rows never (mode.Live settings) is = never settings.nets is.1
no_nets rows never m is = absurd is

pub no_keep : (rows : List Row) → ((keep : Option KeepRule) → IsKeepBy rows keep → ⊥) → (m : Mode) → IsLiveBy rows m → ⊥
no_keep rows never (mode.Live settings) is = never settings.keep is.2
no_keep rows never m is = absurd is
