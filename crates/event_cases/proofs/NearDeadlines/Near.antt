-- Timeouts of requests and configs are short, so deadlines are near.
use Rattle.channel_actions.proofs.KeptSessions.Lists.{all_wide}
use Rattle.channel_actions.specs.DrainLends.Laws.{DeadlinesAreClose}
use Rattle.event_cases.proofs.HeldKinds.Along.{Each, Reads, each_if, none_held, same_by}
use Rattle.event_cases.proofs.HeldKinds.Events.{config_is_of_event}
use Rattle.event_cases.proofs.NearDeadlines.Timed.{IsTimed, is_timed, timed}
use Rattle.event_cases.proofs.NearDeadlines.Timeouts.{IsShort, chosen_is_short, read_is_short}
use Rattle.event_cases.specs.NearDeadlines.Laws.{DeadlinesAreNear, KnownDeadlinesAreNear}
use Rattle.grpc_base.specs.Limits.{duration_limit}
use Rattle.service_config.specs.Choice.{chosen_for, empty_config}
use Rattle.service_config.specs.declared.config.Config.{Config}
use Rattle.session_actions.specs.Actions.{after}
use Rattle.session_actions.specs.Configs.{chosen_of, config_of_call, deadline, kinds_in, no_choice, read_config}
use Rattle.session_actions.specs.Entries.{now}
use Rattle.session_actions.specs.Sessions.{Does, IsNext, new_session}
use Rattle.session_actions.specs.Words.{numbered, sooner}
use Rattle.session_actions.specs.declared.action.Action.TheVariants as action
use Rattle.session_actions.specs.declared.action.Action.{Action}
use Rattle.session_actions.specs.declared.call.Call.{Call}
use Rattle.session_actions.specs.declared.config.HeldConfig.{HeldConfig}
use Rattle.session_actions.specs.declared.seen.Seen.{Seen}
use Rattle.std.proofs.Common.{Bool, List, None, Ok, Option, Some, [], ap, arith, min, nat_le, option_and_then, option_map, refl, subst, sym, true, ℕ, ◌&&◌, ◌+◌, ◌∙◌, ◌∷◌, ◌≡◌, ◌≤◌}
use Rattle.std.proofs.lemmas.Bool.{and_parts, le-leb, leb-true}
use Rattle.std.specs.Option.{option_map_or}

-- a config whose timeouts are short, whatever is chosen of it
abbrev IsShortly : HeldConfig → Type 0
IsShortly h = (path : List ℕ) → IsShort (chosen_for h.config path).timeout

of_text : (text : Option (List ℕ)) (s : Seen) (config : Config) → read_config text s ≡ Ok config → (path : List ℕ) → IsShort (chosen_for config path).timeout
of_text None s config e path = (let same : empty_config ≡ config = (cc) in subst (λ (c : Config). IsShort (chosen_for c path).timeout) same (chosen_is_short empty_config path tt))
of_text (Some text) s config e path = chosen_is_short config path (read_is_short (kinds_in s.setup.policies) text config e)

short_read : (s : Seen) (a : Action) → IsNext a s → Reads IsShortly a
short_read s (action.ConfigRead r) next = λ config is run e. (let of_event = config_is_of_event s r next in of_text of_event.0 s config (sym of_event.1 ∙ is))
short_read s a next = tt

short_along : (actions : List Action) (s t : Seen) → Each IsShortly s.configs → Does actions s t → Each IsShortly t.configs
short_along [] s t all does = same_by IsShortly s t (ap (λ (v : Seen). v.configs) does) all
short_along (a ∷ actions) s t all does = short_along actions (after a s) t (each_if IsShortly s.current a s (short_read s a does.0) all) does.1

-- the lesser of two timeouts
request_short : (o : Option ℕ) → option_map_or (λ (t : ℕ). nat_le t duration_limit) o true ≡ true → IsShort o
request_short None e = tt
request_short (Some t) e = leb-true t duration_limit e

lesser : (n : ℕ) (o : Option ℕ) → n ≤ duration_limit → option_map_or (λ (m : ℕ). min n m) o n ≤ duration_limit
lesser n None h = h
lesser n (Some m) h = omega (arith, h)

sooner_short : (a b : Option ℕ) → IsShort a → IsShort b → IsShort (sooner a b)
sooner_short None b h k = k
sooner_short (Some n) b h k = lesser n b h

-- what a call's config chooses
of_held : (path : List ℕ) (o : Option HeldConfig) → ((h : HeldConfig) → o ≡ Some h → IsShortly h) → IsShort (option_map_or (λ (h : HeldConfig). chosen_for h.config path) o no_choice).timeout
of_held path None all = tt
of_held path (Some h) all = all h refl path

held_by : (configs : List HeldConfig) (o : Option ℕ) (h : HeldConfig) → Each IsShortly configs → option_and_then (numbered configs) o ≡ Some h → IsShortly h
held_by configs None h all e = absurd (let no : None ≡ Some h = e in (cc))
held_by configs (Some k) h all e = all k h e

ahead : (n begun : ℕ) (o : Option ℕ) → begun ≤ n → IsShort o → option_map_or (λ (t : ℕ). nat_le t (n + duration_limit)) (option_map (λ (timeout : ℕ). begun + timeout) o) true ≡ true
ahead n begun None e h = refl
ahead n begun (Some t) e h = le-leb (begun + t) (n + duration_limit) (omega (arith, e, h))

one_near : (s : Seen) → Each IsShortly s.configs → (c : Call) → is_timed (now s) c ≡ true
    → option_map_or (λ (t : ℕ). nat_le t (now s + duration_limit)) (deadline c s) true ≡ true
one_near s all c e =
    let both = and_parts (nat_le c.begun_at (now s)) (option_map_or (λ (t : ℕ). nat_le t duration_limit) c.request.timeout true) e in
    ahead (now s) c.begun_at (sooner c.request.timeout (chosen_of c s).timeout) (leb-true c.begun_at (now s) both.0)
    (sooner_short c.request.timeout (chosen_of c s).timeout (request_short c.request.timeout both.1)
    (of_held c.request.path (config_of_call c s) (λ h there. held_by s.configs c.config h all there)))

pub deadlines_are_near : DeadlinesAreNear
deadlines_are_near setup actions s does posted =
    let k : IsTimed s = timed setup actions s does posted in
    let configs : Each IsShortly s.configs = short_along actions (new_session setup) s (none_held IsShortly) does in
    all_wide (is_timed (now s)) (λ (c : Call). option_map_or (λ (t : ℕ). nat_le t (now s + duration_limit)) (deadline c s) true) (one_near s configs) s.calls k.calls

pub known_deadlines : KnownDeadlinesAreNear
known_deadlines x s known = deadlines_are_near known.reached.setup known.reached.actions s known.reached.does known.posted
