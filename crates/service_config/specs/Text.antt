-- The text of a reading: a line for the policy, one for the throttling, one for each name, and the count of names; or
-- the line of a fault. Durations are in nanoseconds.
use Rattle.std.specs.Prelude.{ℕ, if◌then◌else◌, List, [], ◌∷◌, ◌++◌, length, flat_map, Option, Some, None, codes, decimal}
use Rattle.grpc_base.specs.Codes.{CodesSeen, code_number, has_code}
use Rattle.grpc_base.specs.Kinds.{kind_name}
use Rattle.grpc_base.specs.Waits.{wait_text}
use Rattle.grpc_base.specs.declared.code.Code.{Code}
use Rattle.grpc_base.specs.declared.code.Code.TheVariants as code
use Rattle.grpc_base.specs.declared.plan.CallPlan.{CallPlan}
use Rattle.grpc_base.specs.declared.plan.CallPlan.TheVariants as plan
use Rattle.grpc_base.specs.declared.plan.Throttle.{Throttle}
use Rattle.grpc_base.specs.declared.event.JsonFault.{JsonFault}
use Rattle.grpc_base.specs.declared.event.JsonFault.TheVariants as json
use Rattle.grpc_base.specs.declared.event.ConfigFault.{ConfigFault}
use Rattle.grpc_base.specs.declared.event.ConfigFault.TheVariants as fault
use Rattle.config_values.specs.Codes.{failures}
use Rattle.service_config.specs.declared.config.Config.{Config}
use Rattle.service_config.specs.declared.config.Method.{Method}

-- words after another, each after one space
abbrev pub spaced : List (List ℕ) → List ℕ
spaced [] = []
spaced (w ∷ ws) = 32 ∷ (w ++ spaced ws)

-- what stands for nothing
abbrev pub dash : List ℕ
dash = codes "-"

abbrev pub number_or_dash : Option ℕ → List ℕ
number_or_dash None = dash
number_or_dash (Some n) = decimal n

-- a service or a method, a star where it is empty
abbrev pub text_or_star : List ℕ → List ℕ
text_or_star [] = codes "*"
text_or_star (b ∷ bs) = b ∷ bs

unfoldable pub name_text : List ℕ → List ℕ → List ℕ
name_text service method = text_or_star service ++ 47 ∷ text_or_star method

-- the numbers of those of these codes that a set has, each after a comma
abbrev pub more_codes : CodesSeen → List Code → List ℕ
more_codes set [] = []
more_codes set (c ∷ cs) = if has_code set c then 44 ∷ (decimal (code_number c) ++ more_codes set cs) else more_codes set cs

-- the same with commas between, a dash where there are none
abbrev pub codes_among : CodesSeen → List Code → List ℕ
codes_among set [] = dash
codes_among set (c ∷ cs) = if has_code set c then decimal (code_number c) ++ more_codes set cs else codes_among set cs

-- a set of codes: their numbers going up
unfoldable pub set_text : CodesSeen → List ℕ
set_text set = codes_among set (code.Ok ∷ failures)

abbrev pub plan_words : CallPlan → List (List ℕ)
plan_words plan.None = codes "none" ∷ []
plan_words (plan.Retry p) = codes "retry" ∷ decimal p.max ∷ decimal p.initial ∷ decimal p.limit ∷ decimal p.multiplier ∷ set_text p.codes ∷ []
plan_words (plan.Hedge p) = codes "hedge" ∷ decimal p.max ∷ decimal p.delay ∷ set_text p.codes ∷ []

unfoldable pub method_words : Method → List (List ℕ)
method_words m =
    name_text m.service m.method ∷ wait_text m.wait ∷ number_or_dash m.timeout ∷ number_or_dash m.request ∷ number_or_dash m.response ∷ plan_words m.plan

unfoldable pub method_line : Method → List ℕ
method_line m = codes "method" ++ (spaced (method_words m) ++ 10 ∷ [])

abbrev pub throttle_words : Option Throttle → List (List ℕ)
throttle_words None = dash ∷ dash ∷ []
throttle_words (Some t) = decimal t.start ∷ decimal t.ratio ∷ []

unfoldable pub throttle_line : Option Throttle → List ℕ
throttle_line t = codes "throttle" ++ (spaced (throttle_words t) ++ 10 ∷ [])

-- the text of a valid config
unfoldable pub config_text : Config → List ℕ
config_text c =
    codes "policy " ++ (kind_name c.kind ++ 10 ∷ (throttle_line c.throttle ++ (flat_map method_line c.methods
    ++ (codes "end " ++ (decimal (length c.methods) ++ 10 ∷ [])))))

-- a fault of a JSON text: its number, a colon and its offset
abbrev pub json_fault_text : JsonFault → List ℕ
json_fault_text (json.Syntax at) = codes "1:" ++ decimal at
json_fault_text (json.RepeatedKey at) = codes "2:" ++ decimal at
json_fault_text (json.TooDeep at) = codes "3:" ++ decimal at
json_fault_text (json.Number at) = codes "4:" ++ decimal at
json_fault_text json.TooLong = codes "5:65536"
json_fault_text json.NoMemory = dash

-- a fault of a config: its number and what it names
abbrev pub config_fault_words : ConfigFault → List (List ℕ)
config_fault_words (fault.Json f) = codes "1" ∷ json_fault_text f ∷ []
config_fault_words (fault.Field path) = codes "2" ∷ path ∷ []
config_fault_words (fault.BothPolicies path) = codes "3" ∷ path ∷ []
config_fault_words (fault.RepeatedName path) = codes "4" ∷ path ∷ []
config_fault_words fault.NoSupportedPolicy = codes "5" ∷ dash ∷ []
config_fault_words fault.NoMemory = dash ∷ []

-- the text of a fault
abbrev pub fault_text : ConfigFault → List ℕ
fault_text f = codes "fault config" ++ (spaced (config_fault_words f) ++ 10 ∷ [])
