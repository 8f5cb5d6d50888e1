-- What the words of a command line ask for: a mode, or the text of help or of the version.
use Rattle.std.specs.Prelude.{◌≡◌, ◌≢◌, ◌⊎◌, ℕ, ◌*◌, true, if◌then◌else◌, Option, Some, None, List, [], ◌∷◌, ◌++◌, codes, Result, Ok, Err}
use Rattle.std.specs.Str.{bytes_eq}
use Rattle.std.specs.Str.Parse.{digits_value, without_leading_plus}
use Rattle.clap.specs.Values.{IsUnsignedIn}
use Rattle.clap.specs.Words.{App, Row, Rule, fault_of, matches_of, new_app, new_rule, one_of, with_rule}
use Rattle.clap.specs.Kinds.{Kinds, IsAmong}
use Rattle.clap.specs.declared.error.kind.ErrorKind.TheVariants as kind
use Rattle.keepalive_core.specs.declared.rule.KeepRule.{KeepRule}
use Rattle.channel_top.specs.declared.live_words.Given.{Given}
use Rattle.channel_top.specs.declared.live_words.Given.TheVariants as was
use Rattle.channel_top.specs.declared.words.Mode.{Mode}
use Rattle.channel_top.specs.declared.words.Mode.TheVariants as mode
use Rattle.channel_top.specs.declared.words.ModeName.{ModeName}
use Rattle.channel_top.specs.declared.words.ModeName.TheVariants as name
use Rattle.channel_top.specs.declared.words.Asked.{Asked}
use Rattle.channel_top.specs.declared.words.Asked.TheVariants as asked
use Rattle.channel_top.specs.declared.words.WordsFault.{WordsFault}
use Rattle.channel_top.specs.declared.words.WordsFault.TheVariants as fault

-- the first word of a mode
abbrev pub name_text : ModeName → List ℕ
name_text name.Replay = codes "replay"
name_text name.Config = codes "config"
name_text name.Migrate = codes "migrate"
name_text name.Serve = codes "serve"
name_text name.Load = codes "load"
name_text name.Live = codes "live"
name_text name.Relay = codes "relay"

abbrev pub mode_named : List ℕ → Option ModeName
mode_named word =
    if bytes_eq word (name_text name.Replay) then Some name.Replay
    else if bytes_eq word (name_text name.Config) then Some name.Config
    else if bytes_eq word (name_text name.Migrate) then Some name.Migrate
    else if bytes_eq word (name_text name.Serve) then Some name.Serve
    else if bytes_eq word (name_text name.Load) then Some name.Load
    else if bytes_eq word (name_text name.Live) then Some name.Live
    else if bytes_eq word (name_text name.Relay) then Some name.Relay
    else None

-- the mode of the first word, if it is a mode's name
abbrev pub mode_of : List (List ℕ) → Option ModeName
mode_of [] = None
mode_of (word ∷ words) = mode_named word

-- the word after which no option stands
abbrev pub dashes : List ℕ
dashes = codes "--"

-- nothing stands after the first word but the end of the options
abbrev pub IsAlone : List (List ℕ) → Type 0
IsAlone [] = ⊥
IsAlone (word ∷ []) = Unit {0}
IsAlone (word ∷ (last ∷ [])) = last ≡ dashes
IsAlone (word ∷ (last ∷ (more ∷ rest))) = ⊥

-- a simple command without options of its own, which has a version: that of a mode begins at the mode's name; that of the
-- program, where no mode is named, begins after the program's name
abbrev pub app_named : List ℕ → App
app_named name = record (new_app name) { top = record (new_app name).top { has_version = true } }

-- the command of a mode without its options
unfoldable pub mode_command : Option ModeName → App
mode_command (Some name.Replay) = app_named (codes "grpcc replay")
mode_command (Some name.Config) = app_named (codes "grpcc config")
mode_command (Some name.Migrate) = app_named (codes "grpcc migrate")
mode_command (Some name.Serve) = app_named (codes "grpcc serve")
mode_command (Some name.Load) = app_named (codes "grpcc load")
mode_command (Some name.Live) = app_named (codes "grpcc live")
mode_command (Some name.Relay) = app_named (codes "grpcc relay")
mode_command None = record (app_named (codes "grpcc")) { top = record (app_named (codes "grpcc")).top { no_binary_name = true } }

-- an option that has to be there and takes one value
abbrev pub option_rule : List ℕ → Rule
option_rule id = record (new_rule id) { long = Some id; required = true; value_names = 1 }

-- an option that may be left out and takes one value
abbrev pub choice_rule : List ℕ → Rule
choice_rule id = record (new_rule id) { long = Some id; value_names = 1 }

-- a command with the options of `live`: the seed and the number of net workers, and the times of keepalives
abbrev pub with_workers : App → App
with_workers app = with_rule (with_rule app (choice_rule (codes "seed"))) (choice_rule (codes "nets"))

abbrev pub with_keepalives : App → App
with_keepalives app = with_rule (with_rule app (choice_rule (codes "keepalive"))) (choice_rule (codes "keepalive-timeout"))

abbrev pub with_live : App → App
with_live app = with_keepalives (with_workers app)

-- a command with the options of `relay`
abbrev pub with_relay : App → App
with_relay app =
    with_rule (with_rule (with_rule (with_rule app (option_rule (codes "port"))) (option_rule (codes "links"))) (option_rule (codes "seed"))) (option_rule (codes "nets"))

-- the command of a mode: options are those of `serve`, `load`, `live` and `relay`
unfoldable pub app_for : Option ModeName → App
app_for (Some name.Serve) = with_rule (with_rule (mode_command (Some name.Serve)) (option_rule (codes "port"))) (option_rule (codes "links"))
app_for (Some name.Load) = with_rule (with_rule (mode_command (Some name.Load)) (option_rule (codes "seed"))) (option_rule (codes "calls"))
app_for (Some name.Live) = with_live (mode_command (Some name.Live))
app_for (Some name.Relay) = with_relay (mode_command (Some name.Relay))
app_for m = mode_command m

-- the kinds of error that clap gives for the words at such a command, by clap's own definitions; none where it takes them
unfoldable pub kinds_at : Option ModeName → List (List ℕ) → Kinds
kinds_at m words = fault_of (app_for m) words

abbrev pub kinds_of : List (List ℕ) → Kinds
kinds_of words = kinds_at (mode_of words) words

-- an option was given a number in decimal within these bounds
pub record IsOption (id : List ℕ) (low high : ℕ) (rows : List Row) (n : ℕ) : Type 0 where
  pub text : List ℕ
  pub given : one_of id rows ≡ Some text
  pub within : IsUnsignedIn low high text
  pub value : n ≡ digits_value 10 (without_leading_plus text)

-- the line that reports wrong words
abbrev pub words_fault_text : List ℕ
words_fault_text = codes "fault words" ++ 10 ∷ []

-- the words run a mode without options: its name, after which at most the word stands that ends the options
abbrev pub RunsPlain : ModeName → List (List ℕ) → Type 0
RunsPlain m words = (words ≡ name_text m ∷ []) ⊎ (words ≡ name_text m ∷ dashes ∷ [])

-- the mode `serve` with the values of its options
abbrev pub IsServeBy : List Row → Mode → Type 0
IsServeBy rows (mode.Serve port links) = IsOption (codes "port") 0 65535 rows port × IsOption (codes "links") 1 1024 rows links
IsServeBy rows m = ⊥

-- the mode `load` with the values of its options: a seed of 64 bits, and from 1 to 10,000 calls
abbrev pub IsLoadBy : List Row → Mode → Type 0
IsLoadBy rows (mode.Load load) = IsOption (codes "seed") 0 18446744073709551615 rows load.seed × IsOption (codes "calls") 1 10000 rows load.calls
IsLoadBy rows m = ⊥

-- the mode `load` of a seed with so many calls
abbrev pub IsLoadOf : ℕ → ℕ → Mode → Type 0
IsLoadOf seed calls (mode.Load load) = (load.seed ≡ seed) × (load.calls ≡ calls)
IsLoadOf seed calls m = ⊥

-- an option was given such a number, or was not given and counts as the default
abbrev pub IsChoice : List ℕ → ℕ → ℕ → ℕ → List Row → ℕ → Type 0
IsChoice id low high default rows n = IsOption id low high rows n ⊎ ((one_of id rows ≡ None) × (n ≡ default))

-- what an option was given: nothing, a number within its bounds, or what is none
abbrev pub IsGiven : List ℕ → ℕ → ℕ → List Row → Given → Type 0
IsGiven id low high rows was.Nothing = one_of id rows ≡ None
IsGiven id low high rows (was.Number n) = IsOption id low high rows n
IsGiven id low high rows was.Wrong = (one_of id rows ≢ None) × ((n : ℕ) → IsOption id low high rows n → ⊥)

-- the options of keepalives, in milliseconds: the timeout stands beside the time alone, and is 20 s where it is not given
abbrev pub IsKeepBy : List Row → Option KeepRule → Type 0
IsKeepBy rows None = (one_of (codes "keepalive") rows ≡ None) × (one_of (codes "keepalive-timeout") rows ≡ None)
IsKeepBy rows (Some rule) =
    (time : ℕ) × (timeout : ℕ) × IsOption (codes "keepalive") 1 86400000 rows time × IsChoice (codes "keepalive-timeout") 1 86400000 20000 rows timeout
    × (rule ≡ record { time = time * 1000000; timeout = timeout * 1000000 })

-- the mode `live` with the values of its options
abbrev pub IsLiveBy : List Row → Mode → Type 0
IsLiveBy rows (mode.Live settings) =
    IsChoice (codes "seed") 0 18446744073709551615 1 rows settings.seed × IsChoice (codes "nets") 1 4 2 rows settings.nets × IsKeepBy rows settings.keep
IsLiveBy rows m = ⊥

-- the mode `relay` with the values of its options
abbrev pub IsRelayBy : List Row → Mode → Type 0
IsRelayBy rows (mode.Relay settings) =
    IsOption (codes "port") 0 65535 rows settings.port × IsOption (codes "links") 1 1024 rows settings.links
    × IsOption (codes "seed") 0 18446744073709551615 rows settings.seed × IsOption (codes "nets") 1 4 rows settings.nets
IsRelayBy rows m = ⊥

-- the words run a mode with options: clap takes them at its command, and their matches there give the options their values
pub record RunsByOptions (n : ModeName) (IsBy : List Row → Type 0) (words : List (List ℕ)) : Type 0 where
  pub named : mode_of words ≡ Some n
  pub taken : kinds_at (Some n) words ≡ []
  pub given : IsBy (matches_of (app_for (Some n)) words)

-- the words run a mode
abbrev pub Runs : Mode → List (List ℕ) → Type 0
Runs mode.Replay words = RunsPlain name.Replay words
Runs mode.Config words = RunsPlain name.Config words
Runs mode.Migrate words = RunsPlain name.Migrate words
Runs (mode.Serve port links) words = RunsByOptions name.Serve (λ rows. IsServeBy rows (mode.Serve port links)) words
Runs (mode.Load load) words = RunsByOptions name.Load (λ rows. IsLoadBy rows (mode.Load load)) words
Runs (mode.Live settings) words = RunsByOptions name.Live (λ rows. IsLiveBy rows (mode.Live settings)) words
Runs (mode.Relay settings) words = RunsByOptions name.Relay (λ rows. IsRelayBy rows (mode.Relay settings)) words

-- the name of a mode
abbrev pub name_of : Mode → ModeName
name_of mode.Replay = name.Replay
name_of mode.Config = name.Config
name_of mode.Migrate = name.Migrate
name_of (mode.Serve port links) = name.Serve
name_of (mode.Load load) = name.Load
name_of (mode.Live settings) = name.Live
name_of (mode.Relay settings) = name.Relay

-- clap answers the words with the text of help or of the version
abbrev pub AskForText : List (List ℕ) → Type 0
AskForText words = IsAmong kind.DisplayHelp (kinds_of words) ⊎ IsAmong kind.DisplayVersion (kinds_of words)

-- the words that ask for such a text in the plain way
abbrev pub IsAskWord : List ℕ → Type 0
IsAskWord word = (word ≡ codes "--help") ⊎ ((word ≡ codes "-h") ⊎ ((word ≡ codes "--version") ⊎ (word ≡ codes "-V")))

abbrev pub AskPlainly : List (List ℕ) → Type 0
AskPlainly words = (word : List ℕ) × IsAskWord word × ((words ≡ word ∷ []) ⊎ ((m : ModeName) × (words ≡ name_text m ∷ word ∷ [])))

-- the words are wrong: they run no mode, and ask for no text in the plain way
abbrev pub WordsAreWrong : List (List ℕ) → Type 0
WordsAreWrong words = ((m : Mode) → Runs m words → ⊥) × (AskPlainly words → ⊥)

-- what is reported of the words
abbrev pub IsAskedBy : List (List ℕ) → Result Asked WordsFault → Type 0
IsAskedBy words (Ok (asked.Run m)) = Runs m words
IsAskedBy words (Ok (asked.Print text)) = AskForText words
IsAskedBy words (Err fault.Wrong) = WordsAreWrong words
IsAskedBy words (Err fault.NoMemory) = Unit {0}
