-- Configuration: the resolver's results, the valid service configs, and what each call gets of one (gRPC, "Service Config in gRPC": waitForReady,
-- timeout, maxRequestMessageBytes, maxResponseMessageBytes, retryThrottling, and "Service Config Changes"; "gRPC Wait for Ready Semantics"; gRFC A6,
-- "Integration with Service Config" and "Throttling Retry Attempts and Hedged RPCs").
-- Example: configs 1 and 2 with maxTokens 10 and tokenRatio 0.1 share run 1. Config 3 has no throttling, and config 4, equal to 1, begins run 2.
-- A call begun at 5 with the timeouts 10 of its application and 7 of its config has the deadline 12.
use Rattle.std.specs.Option.{option_map_or, option_or}
use Rattle.std.specs.Prelude.{Bool, Err, List, None, Ok, Option, Result, Some, [], false, if◌then◌else◌, is_none, is_some, length, nat_lt, option_and_then, option_map, true, unwrap_or, ℕ, ◌&&◌, ◌++◌, ◌+◌, ◌==◌, ◌∷◌}
use Rattle.grpc_base.specs.Kinds.{KindsSeen, no_kinds, with_kind}
use Rattle.grpc_base.specs.declared.event.ConfigFault.{ConfigFault}
use Rattle.grpc_base.specs.declared.plan.CallPlan.{CallPlan}
use Rattle.grpc_base.specs.declared.plan.Chosen.{Chosen}
use Rattle.grpc_base.specs.declared.plan.Throttle.{Throttle}
use Rattle.service_config.specs.Choice.{chosen_for, empty_config, taken}
use Rattle.service_config.specs.Reading.{config_of}
use Rattle.service_config.specs.declared.config.Config.{Config}
use Rattle.session_actions.specs.Calls.{marked, with_call}
use Rattle.session_actions.specs.Entries.{entry, replied}
use Rattle.session_actions.specs.Words.{holds, last_of, numbered, sooner}
use Rattle.session_actions.specs.declared.call.Call.{Call}
use Rattle.session_actions.specs.declared.config.HeldConfig.{HeldConfig}
use Rattle.session_actions.specs.declared.seen.PolicyKind.{PolicyKind}
use Rattle.session_actions.specs.declared.seen.Seen.{Seen}
use Rattle.session_actions.specs.declared.call.MarkKind.TheVariants as mark
use Rattle.grpc_base.specs.declared.event.Reply.TheVariants as reply

-- the kinds of policy that the channel was given
abbrev pub kinds_in : List PolicyKind → KindsSeen
kinds_in [] = no_kinds
kinds_in (p ∷ policies) = with_kind (kinds_in policies) p.kind

-- what a result's config is read as; a result without one gives the empty config
abbrev pub read_config : Option (List ℕ) → Seen → Result Config ConfigFault
read_config None s = Ok empty_config
read_config (Some text) s = config_of (kinds_in s.setup.policies) text

-- the config that is held: the last valid one
abbrev pub held_config : Seen → Option HeldConfig
held_config s = last_of s.configs

-- the resolver has answered, and no valid config came yet
abbrev pub is_unconfigured : Seen → Bool
is_unconfigured s = s.answered && is_none (held_config s)

-- what a call's config chooses for its path; before it has one, nothing
abbrev pub config_of_call : Call → Seen → Option HeldConfig
config_of_call c s = option_and_then (numbered s.configs) c.config

abbrev pub no_choice : Chosen
no_choice = taken None None

abbrev pub chosen_of : Call → Seen → Chosen
chosen_of c s = option_map_or (λ h. chosen_for h.config c.request.path) (config_of_call c s) no_choice

abbrev pub plan_of : Call → Seen → CallPlan
plan_of c s = (chosen_of c s).plan

-- whether a call waits for ready ("gRPC Wait for Ready Semantics"): what the application says decides before the config
abbrev pub waits_for_ready : Call → Seen → Bool
waits_for_ready c s = unwrap_or (option_or c.request.wait (chosen_of c s).wait) false

-- the deadline: the lesser of both timeouts, from the begin on
abbrev pub deadline : Call → Seen → Option ℕ
deadline c s = option_map (λ timeout. c.begun_at + timeout) (sooner c.request.timeout (chosen_of c s).timeout)

-- a message of a request is longer than the call's config allows
abbrev pub is_too_long : List ℕ → Call → Seen → Bool
is_too_long message c s = is_some c.config && nat_lt (chosen_of c s).request (length message)

-- the run of equal throttle settings that a config joins: that of the config before it, if its settings are the same
-- (gRFC A6, "Throttling Retry Attempts and Hedged RPCs")
abbrev pub is_same_throttle : Throttle → Throttle → Bool
is_same_throttle t u = (t.start == u.start) && (t.ratio == u.ratio)

abbrev pub run_to_join : Throttle → Seen → Option ℕ
run_to_join t s = option_and_then (λ h. if holds (is_same_throttle t) h.config.throttle then h.run else None) (held_config s)

abbrev pub with_config : Config → Option ℕ → Seen → Seen
with_config config run s = record s { configs = s.configs ++ record { config = config; run = run } ∷ [] }

abbrev pub with_run : Throttle → Seen → Seen
with_run t s = record s { runs = s.runs ++ record { throttle = t; ends = [] } ∷ [] }

abbrev pub with_throttled : Config → Throttle → Option ℕ → Seen → Seen
with_throttled config t (Some run) s = with_config config (Some run) s
with_throttled config t None s = with_config config (Some (length s.runs + 1)) (with_run t s)

abbrev pub with_held : Config → Option Throttle → Seen → Seen
with_held config None s = with_config config None s
with_held config (Some t) s = with_throttled config t (run_to_join t s) s

-- a result is read: a valid config is held from now on. A fault leaves the one that is held, whose kind then gets the addresses of the result; where
-- none was ever held, the channel is unconfigured, as after a resolution that failed
abbrev pub resolver_answered : Seen → Seen
resolver_answered s = record s { answered = true; wants = false }

abbrev pub config_read : Result Config ConfigFault → Seen → Seen
config_read (Ok config) s = with_held config config.throttle (replied reply.Done (resolver_answered s))
config_read (Err fault) s = replied (reply.BadConfig fault) (resolver_answered s)

abbrev pub resolution_failed : Seen → Seen
resolution_failed s = replied reply.Done (resolver_answered s)

-- a call without a configuration gets the config that is held
abbrev pub is_to_configure : Seen → Call → Bool
is_to_configure s c = is_none c.end && is_none c.config && is_some (held_config s)

abbrev pub call_configured : ℕ → ℕ → Seen → Seen
call_configured call config s =
    with_call (λ c. record c { config = Some config; configured = Some (entry s) }) call (marked mark.Configured call s)
