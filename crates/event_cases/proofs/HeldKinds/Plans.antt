-- Each config that was held was read from a text, or is the empty one: its plans allow 5 attempts at most.
use Rattle.attempt_ledger.specs.Numbering.{most_attempts}
use Rattle.event_cases.proofs.HeldKinds.Along.{Each, Reads, each_if, none_held, same_by}
use Rattle.event_cases.proofs.HeldKinds.Events.{config_is_of_event}
use Rattle.event_cases.specs.HeldKinds.Laws.{HeldPlansAreShort}
use Rattle.channel_actions.proofs.ReadConfigs.{allowed}
use Rattle.service_config.specs.Choice.{chosen_for}
use Rattle.service_config.specs.declared.config.Config.{Config}
use Rattle.session_actions.specs.Actions.{after}
use Rattle.session_actions.specs.Configs.{kinds_in, no_choice, read_config}
use Rattle.session_actions.specs.Sessions.{Does, IsNext, new_session}
use Rattle.session_actions.specs.Words.{numbered}
use Rattle.session_actions.specs.declared.action.Action.TheVariants as action
use Rattle.session_actions.specs.declared.action.Action.{Action}
use Rattle.session_actions.specs.declared.config.HeldConfig.{HeldConfig}
use Rattle.session_actions.specs.declared.seen.Seen.{Seen}
use Rattle.std.proofs.Common.{List, None, Ok, Option, Some, [], ap, arith, option_and_then, refl, sym, ℕ, ◌∙◌, ◌∷◌, ◌≡◌, ◌≤◌}
use Rattle.std.specs.Option.{option_map_or}

abbrev IsShort : HeldConfig → Type 0
IsShort h = (path : List ℕ) → most_attempts (chosen_for h.config path).plan ≤ 5

short_of : (text : Option (List ℕ)) (s : Seen) (config : Config) → read_config text s ≡ Ok config → (path : List ℕ) → most_attempts (chosen_for config path).plan ≤ 5
short_of None s config e path = (allowed config (kinds_in s.setup.policies) None e path).most
short_of (Some text) s config e path = (allowed config (kinds_in s.setup.policies) (Some text) e path).most

short_read : (s : Seen) (a : Action) → IsNext a s → Reads IsShort a
short_read s (action.ConfigRead r) next =
    λ config is run e path.
    (let of_event = config_is_of_event s r next in
    short_of of_event.0 s config (sym of_event.1 ∙ is) path)
short_read s a next = tt

short_along : (actions : List Action) (s t : Seen) → Each IsShort s.configs → Does actions s t → Each IsShort t.configs
short_along [] s t all does = same_by IsShort s t (ap (λ (v : Seen). v.configs) does) all
short_along (a ∷ actions) s t all does = short_along actions (after a s) t (each_if IsShort s.current a s (short_read s a does.0) all) does.1

plan_by : (path : List ℕ) (configs : List HeldConfig) (k : ℕ) (o : Option HeldConfig) → numbered configs k ≡ o → Each IsShort configs
    → most_attempts (option_map_or (λ (h : HeldConfig). chosen_for h.config path) o no_choice).plan ≤ 5
plan_by path configs k None got all = omega arith
plan_by path configs k (Some h) got all = all k h got path

plan_short : (path : List ℕ) (configs : List HeldConfig) (o : Option ℕ) → Each IsShort configs
    → most_attempts (option_map_or (λ (h : HeldConfig). chosen_for h.config path) (option_and_then (numbered configs) o) no_choice).plan ≤ 5
plan_short path configs None all = omega arith
plan_short path configs (Some k) all = plan_by path configs k (numbered configs k) refl all

pub held_plans_are_short : HeldPlansAreShort
held_plans_are_short setup actions s does k c there =
    plan_short c.request.path s.configs c.config (short_along actions (new_session setup) s (none_held IsShort) does)
