-- What clap answers to the plain words, and what a mode's words are.
use Rattle.std.proofs.Common.{◌≡◌, ◌≢◌, ℕ, List, [], ◌∷◌, Option, Some, None, Bool, true, false, refl, ap, sym, subst, inl, inr, ◌⊎◌, codes, ◌∙◌}
use Rattle.std.specs.Str.{bytes_eq}
use Rattle.std.specs.Prelude.{if◌then◌else◌, IfSome, IfNone}
use Rattle.std.proofs.lemmas.Slice.Eq.{bytes_eq-Decides}
use Rattle.clap.proofs.OnLiterals.{clap_on_literals}
use Rattle.clap.specs.Simple.{is_simple}
use Rattle.clap.specs.Words.{Row, is_simple_and_free, matches_of}
use Rattle.clap.specs.Kinds.{Kinds, HasKind, IsAmong}
use Rattle.clap.specs.Values.{kind_of}
use Rattle.clap.specs.declared.error.Error.{Error}
use Rattle.clap.specs.declared.error.kind.ErrorKind.{ErrorKind}
use Rattle.clap.specs.declared.error.kind.ErrorKind.TheVariants as kind
use Rattle.channel_top.specs.declared.words.Mode.{Mode}
use Rattle.channel_top.specs.declared.words.Mode.TheVariants as mode
use Rattle.channel_top.specs.declared.words.ModeName.{ModeName}
use Rattle.channel_top.specs.declared.words.ModeName.TheVariants as name
use Rattle.channel_top.specs.Words.{WordsAreWrong, AskForText, AskPlainly, IsAlone, IsAskWord, IsLiveBy, IsLoadBy, IsRelayBy, IsServeBy, Runs, RunsPlain, app_for, mode_command, dashes, kinds_at, kinds_of, mode_named, mode_of, name_of, name_text}

-- each command is of the form whose answers clap states exactly
pub is_free : (m : Option ModeName) → is_simple_and_free (app_for m) ≡ true
unfolding clap_on_literals app_for mode_command
is_free (Some name.Replay) = refl
is_free (Some name.Config) = refl
is_free (Some name.Migrate) = refl
is_free (Some name.Serve) = refl
is_free (Some name.Load) = refl
is_free (Some name.Live) = refl
is_free (Some name.Relay) = refl
is_free None = refl

pub is_plain : (m : Option ModeName) → is_simple (app_for m) ≡ true
unfolding clap_on_literals app_for mode_command
is_plain (Some name.Replay) = refl
is_plain (Some name.Config) = refl
is_plain (Some name.Migrate) = refl
is_plain (Some name.Serve) = refl
is_plain (Some name.Load) = refl
is_plain (Some name.Live) = refl
is_plain (Some name.Relay) = refl
is_plain None = refl

-- the modes without options
abbrev pub HasNone : ModeName → Type 0
HasNone name.Serve = ⊥
HasNone name.Load = ⊥
HasNone name.Live = ⊥
HasNone name.Relay = ⊥
HasNone m = Unit {0}

-- their words are taken
taken_alone : (m : ModeName) → HasNone m → kinds_at (Some m) (name_text m ∷ []) ≡ []
unfolding clap_on_literals app_for mode_command kinds_at
taken_alone name.Replay none = refl
taken_alone name.Config none = refl
taken_alone name.Migrate none = refl
taken_alone name.Serve none = absurd none
taken_alone name.Load none = absurd none
taken_alone name.Live none = absurd none
taken_alone name.Relay none = absurd none

taken_dashes : (m : ModeName) → HasNone m → kinds_at (Some m) (name_text m ∷ dashes ∷ []) ≡ []
unfolding clap_on_literals app_for mode_command kinds_at
taken_dashes name.Replay none = refl
taken_dashes name.Config none = refl
taken_dashes name.Migrate none = refl
taken_dashes name.Serve none = absurd none
taken_dashes name.Load none = absurd none
taken_dashes name.Live none = absurd none
taken_dashes name.Relay none = absurd none

named : (m : ModeName) (rest : List (List ℕ)) → mode_of (name_text m ∷ rest) ≡ Some m
named name.Replay rest = refl
named name.Config rest = refl
named name.Migrate rest = refl
named name.Serve rest = refl
named name.Load rest = refl
named name.Live rest = refl
named name.Relay rest = refl

taken_of : (m : ModeName) (rest : List (List ℕ)) → kinds_at (Some m) (name_text m ∷ rest) ≡ [] → kinds_of (name_text m ∷ rest) ≡ []
taken_of m rest e = ap (λ (o : Option ModeName). kinds_at o (name_text m ∷ rest)) (named m rest) ∙ e

plain_are_taken : (m : ModeName) (words : List (List ℕ)) → HasNone m → RunsPlain m words → kinds_of words ≡ []
plain_are_taken m words none (inl e) = ap kinds_of e ∙ taken_of m [] (taken_alone m none)
plain_are_taken m words none (inr e) = ap kinds_of e ∙ taken_of m (dashes ∷ []) (taken_dashes m none)

pub runs_are_taken : (m : Mode) (words : List (List ℕ)) → Runs m words → kinds_of words ≡ []
runs_are_taken mode.Replay words runs = plain_are_taken name.Replay words tt runs
runs_are_taken mode.Config words runs = plain_are_taken name.Config words tt runs
runs_are_taken mode.Migrate words runs = plain_are_taken name.Migrate words tt runs
runs_are_taken (mode.Serve port links) words runs = ap (λ (o : Option ModeName). kinds_at o words) runs.named ∙ runs.taken
runs_are_taken (mode.Load load) words runs = ap (λ (o : Option ModeName). kinds_at o words) runs.named ∙ runs.taken
runs_are_taken (mode.Live settings) words runs = ap (λ (o : Option ModeName). kinds_at o words) runs.named ∙ runs.taken
runs_are_taken (mode.Relay settings) words runs = ap (λ (o : Option ModeName). kinds_at o words) runs.named ∙ runs.taken

-- one kind, that of a text
abbrev pub IsText : Kinds → Type 0
IsText kinds = (kinds ≡ kind.DisplayHelp ∷ []) ⊎ (kinds ≡ kind.DisplayVersion ∷ [])

ask_alone : (word : List ℕ) → IsAskWord word → IsText (kinds_of (word ∷ []))
unfolding clap_on_literals app_for mode_command kinds_at
ask_alone word (inl e) = inl (ap (λ (w : List ℕ). kinds_of (w ∷ [])) e ∙ refl)
ask_alone word (inr (inl e)) = inl (ap (λ (w : List ℕ). kinds_of (w ∷ [])) e ∙ refl)
ask_alone word (inr (inr (inl e))) = inr (ap (λ (w : List ℕ). kinds_of (w ∷ [])) e ∙ refl)
ask_alone word (inr (inr (inr e))) = inr (ap (λ (w : List ℕ). kinds_of (w ∷ [])) e ∙ refl)

ask_after : (m : ModeName) (word : List ℕ) → IsAskWord word → IsText (kinds_of (name_text m ∷ word ∷ []))
unfolding clap_on_literals app_for mode_command kinds_at
ask_after name.Replay word (inl e) = inl (ap (λ (w : List ℕ). kinds_of (codes "replay" ∷ w ∷ [])) e ∙ refl)
ask_after name.Replay word (inr (inl e)) = inl (ap (λ (w : List ℕ). kinds_of (codes "replay" ∷ w ∷ [])) e ∙ refl)
ask_after name.Replay word (inr (inr (inl e))) = inr (ap (λ (w : List ℕ). kinds_of (codes "replay" ∷ w ∷ [])) e ∙ refl)
ask_after name.Replay word (inr (inr (inr e))) = inr (ap (λ (w : List ℕ). kinds_of (codes "replay" ∷ w ∷ [])) e ∙ refl)
ask_after name.Config word (inl e) = inl (ap (λ (w : List ℕ). kinds_of (codes "config" ∷ w ∷ [])) e ∙ refl)
ask_after name.Config word (inr (inl e)) = inl (ap (λ (w : List ℕ). kinds_of (codes "config" ∷ w ∷ [])) e ∙ refl)
ask_after name.Config word (inr (inr (inl e))) = inr (ap (λ (w : List ℕ). kinds_of (codes "config" ∷ w ∷ [])) e ∙ refl)
ask_after name.Config word (inr (inr (inr e))) = inr (ap (λ (w : List ℕ). kinds_of (codes "config" ∷ w ∷ [])) e ∙ refl)
ask_after name.Migrate word (inl e) = inl (ap (λ (w : List ℕ). kinds_of (codes "migrate" ∷ w ∷ [])) e ∙ refl)
ask_after name.Migrate word (inr (inl e)) = inl (ap (λ (w : List ℕ). kinds_of (codes "migrate" ∷ w ∷ [])) e ∙ refl)
ask_after name.Migrate word (inr (inr (inl e))) = inr (ap (λ (w : List ℕ). kinds_of (codes "migrate" ∷ w ∷ [])) e ∙ refl)
ask_after name.Migrate word (inr (inr (inr e))) = inr (ap (λ (w : List ℕ). kinds_of (codes "migrate" ∷ w ∷ [])) e ∙ refl)
ask_after name.Serve word (inl e) = inl (ap (λ (w : List ℕ). kinds_of (codes "serve" ∷ w ∷ [])) e ∙ refl)
ask_after name.Serve word (inr (inl e)) = inl (ap (λ (w : List ℕ). kinds_of (codes "serve" ∷ w ∷ [])) e ∙ refl)
ask_after name.Serve word (inr (inr (inl e))) = inr (ap (λ (w : List ℕ). kinds_of (codes "serve" ∷ w ∷ [])) e ∙ refl)
ask_after name.Serve word (inr (inr (inr e))) = inr (ap (λ (w : List ℕ). kinds_of (codes "serve" ∷ w ∷ [])) e ∙ refl)
ask_after name.Load word (inl e) = inl (ap (λ (w : List ℕ). kinds_of (codes "load" ∷ w ∷ [])) e ∙ refl)
ask_after name.Load word (inr (inl e)) = inl (ap (λ (w : List ℕ). kinds_of (codes "load" ∷ w ∷ [])) e ∙ refl)
ask_after name.Load word (inr (inr (inl e))) = inr (ap (λ (w : List ℕ). kinds_of (codes "load" ∷ w ∷ [])) e ∙ refl)
ask_after name.Load word (inr (inr (inr e))) = inr (ap (λ (w : List ℕ). kinds_of (codes "load" ∷ w ∷ [])) e ∙ refl)
ask_after name.Live word (inl e) = inl (ap (λ (w : List ℕ). kinds_of (codes "live" ∷ w ∷ [])) e ∙ refl)
ask_after name.Live word (inr (inl e)) = inl (ap (λ (w : List ℕ). kinds_of (codes "live" ∷ w ∷ [])) e ∙ refl)
ask_after name.Live word (inr (inr (inl e))) = inr (ap (λ (w : List ℕ). kinds_of (codes "live" ∷ w ∷ [])) e ∙ refl)
ask_after name.Live word (inr (inr (inr e))) = inr (ap (λ (w : List ℕ). kinds_of (codes "live" ∷ w ∷ [])) e ∙ refl)
ask_after name.Relay word (inl e) = inl (ap (λ (w : List ℕ). kinds_of (codes "relay" ∷ w ∷ [])) e ∙ refl)
ask_after name.Relay word (inr (inl e)) = inl (ap (λ (w : List ℕ). kinds_of (codes "relay" ∷ w ∷ [])) e ∙ refl)
ask_after name.Relay word (inr (inr (inl e))) = inr (ap (λ (w : List ℕ). kinds_of (codes "relay" ∷ w ∷ [])) e ∙ refl)
ask_after name.Relay word (inr (inr (inr e))) = inr (ap (λ (w : List ℕ). kinds_of (codes "relay" ∷ w ∷ [])) e ∙ refl)

by_place : (words : List (List ℕ)) (word : List ℕ) → IsAskWord word → (words ≡ word ∷ []) ⊎ ((m : ModeName) × (words ≡ name_text m ∷ word ∷ [])) → IsText (kinds_of words)
by_place words word is (inl e) = subst (λ (ws : List (List ℕ)). IsText (kinds_of ws)) (sym e) (ask_alone word is)
by_place words word is (inr p) = subst (λ (ws : List (List ℕ)). IsText (kinds_of ws)) (sym p.1) (ask_after p.0 word is)

pub plain_are_text : (words : List (List ℕ)) → AskPlainly words → IsText (kinds_of words)
plain_are_text words p = by_place words p.0 p.1 p.2

-- words that clap takes ask for no text
pub no_text : (kinds : Kinds) → kinds ≡ [] → IsText kinds → ⊥
no_text kinds none (inl e) = (cc)
no_text kinds none (inr e) = (cc)

-- words that clap takes, which run no mode
pub wrong_of_taken : (words : List (List ℕ)) → kinds_of words ≡ [] → ((m : Mode) → Runs m words → ⊥) → WordsAreWrong words
wrong_of_taken words none never = (never, (λ p. no_text (kinds_of words) none (plain_are_text words p)))

-- a kind among none, and among the one of a text
not_among : (k : ErrorKind) (kinds : Kinds) → kinds ≡ [] → k ≢ kind.OutOfMemory → (k ≡ kind.OutOfMemory) ⊎ IsAmong k kinds → ⊥
not_among k kinds none memory (inl e) = memory e
not_among k kinds none memory (inr among) = subst (λ (ks : Kinds). IsAmong k ks) none among

only : (k x : ErrorKind) (kinds : Kinds) → kinds ≡ x ∷ [] → k ≢ kind.OutOfMemory → k ≢ x → (k ≡ kind.OutOfMemory) ⊎ IsAmong k kinds → ⊥
only k x kinds one memory other (inl e) = memory e
only k x kinds one memory other (inr among) = at_one (subst (λ (ks : Kinds). IsAmong k ks) one among)
  where
    at_one : IsAmong k (x ∷ []) → ⊥
    at_one (inl e) = other e
    at_one (inr none) = none

not_text : (k : ErrorKind) (kinds : Kinds) → k ≢ kind.OutOfMemory → k ≢ kind.DisplayHelp → k ≢ kind.DisplayVersion → (k ≡ kind.OutOfMemory) ⊎ IsAmong k kinds → IsText kinds → ⊥
not_text k kinds memory help version has (inl e) = only k kind.DisplayHelp kinds e memory help has
not_text k kinds memory help version has (inr e) = only k kind.DisplayVersion kinds e memory version has

-- words that clap refuses
pub wrong_of_refused : (words : List (List ℕ)) (k : ErrorKind) → k ≢ kind.OutOfMemory → k ≢ kind.DisplayHelp → k ≢ kind.DisplayVersion → (k ≡ kind.OutOfMemory) ⊎ IsAmong k (kinds_of words) → WordsAreWrong words
wrong_of_refused words k memory help version has = (
  (λ m runs. not_among k (kinds_of words) (runs_are_taken m words runs) memory has),
  (λ p. not_text k (kinds_of words) memory help version has (plain_are_text words p)),
)

pub the_some : {X : Type 0} (x y : X) → Some x ≡ Some y → x ≡ y
the_some x y e = (cc)

mode_of_plain : (m : ModeName) (words : List (List ℕ)) → RunsPlain m words → mode_of words ≡ Some m
mode_of_plain m words (inl e) = ap mode_of e ∙ named m []
mode_of_plain m words (inr e) = ap mode_of e ∙ named m (dashes ∷ [])

pub mode_of_runs : (m : Mode) (words : List (List ℕ)) → Runs m words → mode_of words ≡ Some (name_of m)
mode_of_runs mode.Replay words runs = mode_of_plain name.Replay words runs
mode_of_runs mode.Config words runs = mode_of_plain name.Config words runs
mode_of_runs mode.Migrate words runs = mode_of_plain name.Migrate words runs
mode_of_runs (mode.Serve port links) words runs = runs.named
mode_of_runs (mode.Load load) words runs = runs.named
mode_of_runs (mode.Live settings) words runs = runs.named
mode_of_runs (mode.Relay settings) words runs = runs.named

-- the answer of the mode `serve`
pub serve_some : (n : ModeName) (words : List (List ℕ)) (rows : List Row) (r : Option Mode) → n ≡ name.Serve → mode_of words ≡ Some n → kinds_at (Some n) words ≡ [] → rows ≡ matches_of (app_for (Some n)) words → IfSome r (IsServeBy rows) → IfSome r (λ x. Runs x words)
serve_some n words rows None same is taken matches reported = tt
serve_some n words rows (Some (mode.Serve port links)) same is taken matches reported = record {
  named = is ∙ ap (λ (k : ModeName). Some k) same;
  taken = subst (λ (k : ModeName). kinds_at (Some k) words ≡ []) same taken;
  given = subst (λ (k : ModeName). IsServeBy (matches_of (app_for (Some k)) words) (mode.Serve port links)) same
      (subst (λ (rs : List Row). IsServeBy rs (mode.Serve port links)) matches reported);
}
serve_some n words rows (Some m) same is taken matches reported = absurd reported

pub serve_none : (n : ModeName) (words : List (List ℕ)) (rows : List Row) (r : Option Mode) → n ≡ name.Serve → mode_of words ≡ Some n → rows ≡ matches_of (app_for (Some n)) words → IfNone r ((m : Mode) → IsServeBy rows m → ⊥) → IfNone r ((m : Mode) → Runs m words → ⊥)
serve_none n words rows (Some x) same is matches reported = tt
serve_none n words rows None same is matches reported = by_mode
  where
    other : (k : ModeName) → (name.Serve ≡ k → ⊥) → Some n ≡ Some k → ⊥
    other k apart e = apart (sym same ∙ the_some n k e)

    by_mode : (m : Mode) → Runs m words → ⊥
    by_mode (mode.Serve port links) runs =
        reported (mode.Serve port links) (subst (λ (rs : List Row). IsServeBy rs (mode.Serve port links)) (sym matches)
        (subst (λ (k : ModeName). IsServeBy (matches_of (app_for (Some k)) words) (mode.Serve port links)) (sym same) runs.given))
    by_mode mode.Replay runs = other name.Replay (λ e. absurd (cc)) (sym is ∙ mode_of_runs mode.Replay words runs)
    by_mode mode.Config runs = other name.Config (λ e. absurd (cc)) (sym is ∙ mode_of_runs mode.Config words runs)
    by_mode mode.Migrate runs = other name.Migrate (λ e. absurd (cc)) (sym is ∙ mode_of_runs mode.Migrate words runs)
    by_mode (mode.Load load) runs = other name.Load (λ e. absurd (cc)) (sym is ∙ mode_of_runs (mode.Load load) words runs)
    by_mode (mode.Live settings) runs = other name.Live (λ e. absurd (cc)) (sym is ∙ mode_of_runs (mode.Live settings) words runs)
    by_mode (mode.Relay settings) runs = other name.Relay (λ e. absurd (cc)) (sym is ∙ mode_of_runs (mode.Relay settings) words runs)

-- the answer of the mode `load`
pub load_some : (n : ModeName) (words : List (List ℕ)) (rows : List Row) (r : Option Mode) → n ≡ name.Load → mode_of words ≡ Some n → kinds_at (Some n) words ≡ [] → rows ≡ matches_of (app_for (Some n)) words → IfSome r (IsLoadBy rows) → IfSome r (λ x. Runs x words)
load_some n words rows None same is taken matches reported = tt
load_some n words rows (Some (mode.Load load)) same is taken matches reported = record {
  named = is ∙ ap (λ (k : ModeName). Some k) same;
  taken = subst (λ (k : ModeName). kinds_at (Some k) words ≡ []) same taken;
  given = subst (λ (k : ModeName). IsLoadBy (matches_of (app_for (Some k)) words) (mode.Load load)) same
      (subst (λ (rs : List Row). IsLoadBy rs (mode.Load load)) matches reported);
}
load_some n words rows (Some m) same is taken matches reported = absurd reported

pub load_none : (n : ModeName) (words : List (List ℕ)) (rows : List Row) (r : Option Mode) → n ≡ name.Load → mode_of words ≡ Some n → rows ≡ matches_of (app_for (Some n)) words → IfNone r ((m : Mode) → IsLoadBy rows m → ⊥) → IfNone r ((m : Mode) → Runs m words → ⊥)
load_none n words rows (Some x) same is matches reported = tt
load_none n words rows None same is matches reported = by_mode
  where
    other : (k : ModeName) → (name.Load ≡ k → ⊥) → Some n ≡ Some k → ⊥
    other k apart e = apart (sym same ∙ the_some n k e)

    by_mode : (m : Mode) → Runs m words → ⊥
    by_mode (mode.Load load) runs =
        reported (mode.Load load) (subst (λ (rs : List Row). IsLoadBy rs (mode.Load load)) (sym matches)
        (subst (λ (k : ModeName). IsLoadBy (matches_of (app_for (Some k)) words) (mode.Load load)) (sym same) runs.given))
    by_mode mode.Replay runs = other name.Replay (λ e. absurd (cc)) (sym is ∙ mode_of_runs mode.Replay words runs)
    by_mode mode.Config runs = other name.Config (λ e. absurd (cc)) (sym is ∙ mode_of_runs mode.Config words runs)
    by_mode mode.Migrate runs = other name.Migrate (λ e. absurd (cc)) (sym is ∙ mode_of_runs mode.Migrate words runs)
    by_mode (mode.Serve port links) runs = other name.Serve (λ e. absurd (cc)) (sym is ∙ mode_of_runs (mode.Serve port links) words runs)
    by_mode (mode.Live settings) runs = other name.Live (λ e. absurd (cc)) (sym is ∙ mode_of_runs (mode.Live settings) words runs)
    by_mode (mode.Relay settings) runs = other name.Relay (λ e. absurd (cc)) (sym is ∙ mode_of_runs (mode.Relay settings) words runs)

-- the answer of the mode `live`
pub live_some : (n : ModeName) (words : List (List ℕ)) (rows : List Row) (r : Option Mode) → n ≡ name.Live → mode_of words ≡ Some n → kinds_at (Some n) words ≡ [] → rows ≡ matches_of (app_for (Some n)) words → IfSome r (IsLiveBy rows) → IfSome r (λ x. Runs x words)
live_some n words rows None same is taken matches reported = tt
live_some n words rows (Some (mode.Live settings)) same is taken matches reported = record {
  named = is ∙ ap (λ (k : ModeName). Some k) same;
  taken = subst (λ (k : ModeName). kinds_at (Some k) words ≡ []) same taken;
  given = subst (λ (k : ModeName). IsLiveBy (matches_of (app_for (Some k)) words) (mode.Live settings)) same
      (subst (λ (rs : List Row). IsLiveBy rs (mode.Live settings)) matches reported);
}
live_some n words rows (Some m) same is taken matches reported = absurd reported

pub live_none : (n : ModeName) (words : List (List ℕ)) (rows : List Row) (r : Option Mode) → n ≡ name.Live → mode_of words ≡ Some n → rows ≡ matches_of (app_for (Some n)) words → IfNone r ((m : Mode) → IsLiveBy rows m → ⊥) → IfNone r ((m : Mode) → Runs m words → ⊥)
live_none n words rows (Some x) same is matches reported = tt
live_none n words rows None same is matches reported = by_mode
  where
    other : (k : ModeName) → (name.Live ≡ k → ⊥) → Some n ≡ Some k → ⊥
    other k apart e = apart (sym same ∙ the_some n k e)

    by_mode : (m : Mode) → Runs m words → ⊥
    by_mode (mode.Live settings) runs =
        reported (mode.Live settings) (subst (λ (rs : List Row). IsLiveBy rs (mode.Live settings)) (sym matches)
        (subst (λ (k : ModeName). IsLiveBy (matches_of (app_for (Some k)) words) (mode.Live settings)) (sym same) runs.given))
    by_mode mode.Replay runs = other name.Replay (λ e. absurd (cc)) (sym is ∙ mode_of_runs mode.Replay words runs)
    by_mode mode.Config runs = other name.Config (λ e. absurd (cc)) (sym is ∙ mode_of_runs mode.Config words runs)
    by_mode mode.Migrate runs = other name.Migrate (λ e. absurd (cc)) (sym is ∙ mode_of_runs mode.Migrate words runs)
    by_mode (mode.Serve port links) runs = other name.Serve (λ e. absurd (cc)) (sym is ∙ mode_of_runs (mode.Serve port links) words runs)
    by_mode (mode.Load load) runs = other name.Load (λ e. absurd (cc)) (sym is ∙ mode_of_runs (mode.Load load) words runs)
    by_mode (mode.Relay settings) runs = other name.Relay (λ e. absurd (cc)) (sym is ∙ mode_of_runs (mode.Relay settings) words runs)

-- the answer of the mode `relay`
pub relay_some : (n : ModeName) (words : List (List ℕ)) (rows : List Row) (r : Option Mode) → n ≡ name.Relay → mode_of words ≡ Some n → kinds_at (Some n) words ≡ [] → rows ≡ matches_of (app_for (Some n)) words → IfSome r (IsRelayBy rows) → IfSome r (λ x. Runs x words)
relay_some n words rows None same is taken matches reported = tt
relay_some n words rows (Some (mode.Relay settings)) same is taken matches reported = record {
  named = is ∙ ap (λ (k : ModeName). Some k) same;
  taken = subst (λ (k : ModeName). kinds_at (Some k) words ≡ []) same taken;
  given = subst (λ (k : ModeName). IsRelayBy (matches_of (app_for (Some k)) words) (mode.Relay settings)) same
      (subst (λ (rs : List Row). IsRelayBy rs (mode.Relay settings)) matches reported);
}
relay_some n words rows (Some m) same is taken matches reported = absurd reported

pub relay_none : (n : ModeName) (words : List (List ℕ)) (rows : List Row) (r : Option Mode) → n ≡ name.Relay → mode_of words ≡ Some n → rows ≡ matches_of (app_for (Some n)) words → IfNone r ((m : Mode) → IsRelayBy rows m → ⊥) → IfNone r ((m : Mode) → Runs m words → ⊥)
relay_none n words rows (Some x) same is matches reported = tt
relay_none n words rows None same is matches reported = by_mode
  where
    other : (k : ModeName) → (name.Relay ≡ k → ⊥) → Some n ≡ Some k → ⊥
    other k apart e = apart (sym same ∙ the_some n k e)

    by_mode : (m : Mode) → Runs m words → ⊥
    by_mode (mode.Relay settings) runs =
        reported (mode.Relay settings) (subst (λ (rs : List Row). IsRelayBy rs (mode.Relay settings)) (sym matches)
        (subst (λ (k : ModeName). IsRelayBy (matches_of (app_for (Some k)) words) (mode.Relay settings)) (sym same) runs.given))
    by_mode mode.Replay runs = other name.Replay (λ e. absurd (cc)) (sym is ∙ mode_of_runs mode.Replay words runs)
    by_mode mode.Config runs = other name.Config (λ e. absurd (cc)) (sym is ∙ mode_of_runs mode.Config words runs)
    by_mode mode.Migrate runs = other name.Migrate (λ e. absurd (cc)) (sym is ∙ mode_of_runs mode.Migrate words runs)
    by_mode (mode.Serve port links) runs = other name.Serve (λ e. absurd (cc)) (sym is ∙ mode_of_runs (mode.Serve port links) words runs)
    by_mode (mode.Load load) runs = other name.Load (λ e. absurd (cc)) (sym is ∙ mode_of_runs (mode.Load load) words runs)
    by_mode (mode.Live settings) runs = other name.Live (λ e. absurd (cc)) (sym is ∙ mode_of_runs (mode.Live settings) words runs)

-- words that clap takes at the command of their first word
pub taken_here : (words : List (List ℕ)) (m : Option ModeName) → m ≡ mode_of words → kinds_at m words ≡ [] → kinds_of words ≡ []
taken_here words m is none = ap (λ (o : Option ModeName). kinds_at o words) (sym is) ∙ none

-- the kind of an answer at that command
pub refused_here : (words : List (List ℕ)) (m : Option ModeName) (k : ErrorKind) (e : Error) → m ≡ mode_of words → k ≡ kind_of e → HasKind (kinds_at m words) e → (k ≡ kind.OutOfMemory) ⊎ IsAmong k (kinds_of words)
refused_here words m k e is same has =
    subst (λ (o : Option ModeName). (k ≡ kind.OutOfMemory) ⊎ IsAmong k (kinds_at o words)) is
    (subst (λ (x : ErrorKind). (x ≡ kind.OutOfMemory) ⊎ IsAmong x (kinds_at m words)) (sym same) has)

pub names_no_mode : (words : List (List ℕ)) (o : Option ModeName) → o ≡ mode_of words → o ≡ None → (m : Mode) → Runs m words → ⊥
names_no_mode words o is none m runs = some_none (name_of m) (sym (mode_of_runs m words runs) ∙ sym is ∙ none)
  where
    some_none : (x : ModeName) → Some x ≡ None → ⊥
    some_none x e = (cc)
