-- What each mode reads. By it is said how a mode ends, where no device fails.
-- Example: `migrate` reads a report. It ends with status 0, or with 6 for want of memory. Given the line `channel 3 x`, which is none, it ends with 3 or 6.
use Rattle.std.specs.Prelude.{◌≡◌, ◌⊎◌, true, ℕ, IsSomeAnd, Option, Some, List, [], Ok}
use Rattle.grpc_base.specs.Kinds.{has_kind}
use Rattle.grpc_base.specs.declared.event.Stamped.{Stamped}
use Rattle.grpc_base.specs.declared.kind.Kind.TheVariants as kind
use Rattle.grpc_base.specs.declared.script.AnswerLine.{AnswerLine}
use Rattle.lb_policy.specs.Table.{PolicySeen}
use Rattle.policy_rack.specs.Kinds.{kinds_of}
use Rattle.resolver_core.specs.declared.any_target.Target.{Target}
use Rattle.script_input.specs.Lives.{IsLive}
use Rattle.script_input.specs.Scripts.{IsScript}
use Rattle.script_input.specs.Servers.{IsServer}
use Rattle.script_input.specs.declared.form.Form.{Form}
use Rattle.script_input.specs.declared.form.Form.TheVariants as form
use Rattle.script_input.specs.declared.live_script.LiveScript.{LiveScript}
use Rattle.service_config.specs.Reading.{config_of}
use Rattle.service_config.specs.declared.config.Config.{Config}
use Rattle.channel_top.specs.Words.{Runs, name_of}
use Rattle.channel_top.specs.declared.words.Mode.{Mode}
use Rattle.channel_top.specs.declared.words.ModeName.{ModeName}
use Rattle.channel_top.specs.declared.words.ModeName.TheVariants as name

-- no bytes, or a script; or the report that holds one
abbrev pub IsAnyScript : Form → List ℕ → Type 0
IsAnyScript f input = (input ≡ []) ⊎ ((target : List ℕ) × (value : Target) × (events : List Stamped) × IsScript f input target value events)

-- what a mode reads, all of which is known: a script; a service config without a fault, where the kinds of these policies are supported. A
-- script or a report; a server script; a live script; a live script without calls. `load` reads nothing
abbrev pub IsInputOf : List PolicySeen → ModeName → Option (List ℕ) → Type 0
IsInputOf policies name.Replay left = IsSomeAnd left (IsAnyScript form.Script)
IsInputOf policies name.Config left = IsSomeAnd left (λ input. (config : Config) × (config_of (kinds_of policies) input ≡ Ok config))
IsInputOf policies name.Migrate left = IsSomeAnd left (IsAnyScript form.Report)
IsInputOf policies name.Serve left = IsSomeAnd left (λ input. (answers : List AnswerLine) × IsServer input answers)
IsInputOf policies name.Load left = Unit {0}
IsInputOf policies name.Live left = IsSomeAnd left (λ input. (script : LiveScript) × IsLive input script)
IsInputOf policies name.Relay left = IsSomeAnd left (λ input. (script : LiveScript) × IsLive input script × (script.calls.items ≡ []))

-- the policies that a mode wants are there: `load` wants `round_robin`
abbrev pub HasItsPolicies : List PolicySeen → ModeName → Type 0
HasItsPolicies policies name.Load = has_kind (kinds_of policies) kind.RoundRobin ≡ true
HasItsPolicies policies n = Unit {0}

-- the words run a mode that is given what it reads
pub record IsGivenItsInput (policies : List PolicySeen) (words : List (List ℕ)) (left : Option (List ℕ)) : Type 0 where
  pub mode : Mode
  pub runs : Runs mode words
  pub policies_are : HasItsPolicies policies (name_of mode)
  pub input : IsInputOf policies (name_of mode) left

-- the words run a mode that is given anything else
pub record IsGivenOther (policies : List PolicySeen) (words : List (List ℕ)) (left : Option (List ℕ)) : Type 0 where
  pub mode : Mode
  pub input : List ℕ
  pub runs : Runs mode words
  pub left_is : left ≡ Some input
  pub other : IsInputOf policies (name_of mode) left → ⊥

-- a mode has a session, whose journal may get full
abbrev pub HasSession : ModeName → Type 0
HasSession name.Config = ⊥
HasSession name.Migrate = ⊥
HasSession name.Serve = ⊥
HasSession n = Unit {0}
