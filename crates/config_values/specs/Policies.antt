-- The policies and the throttling of a config: which fields are read, in which order, and the first fault (gRFC A6,
-- "Service Config Changes").
use Rattle.std.specs.Prelude.{ℕ, ◌+◌, List, [], ◌∷◌, Option, Some, None, option_and_then, option_map, Result, Ok, Err}
use Rattle.std.specs.Option.{ok_or}
use Rattle.grpc_base.specs.Codes.{CodesSeen, no_codes, with_code}
use Rattle.grpc_base.specs.declared.plan.CallPlan.{CallPlan}
use Rattle.grpc_base.specs.declared.plan.CallPlan.TheVariants as plan
use Rattle.grpc_base.specs.declared.plan.RetryPolicy.{RetryPolicy}
use Rattle.grpc_base.specs.declared.plan.HedgePolicy.{HedgePolicy}
use Rattle.grpc_base.specs.declared.plan.Throttle.{Throttle}
use Rattle.json_text.specs.Tree.{Tree}
use Rattle.json_text.specs.Parts.{values_in, members_in, member_of}
use Rattle.config_values.specs.Values.{duration, backoff, attempts, multiplier, tokens, ratio}
use Rattle.config_values.specs.Codes.{failure_in}
use Rattle.config_values.specs.Places.{field_name}
use Rattle.config_values.specs.declared.place.Field.{Field}
use Rattle.config_values.specs.declared.place.Field.TheVariants as field
use Rattle.config_values.specs.declared.place.Object.{Object}
use Rattle.config_values.specs.declared.place.Object.TheVariants as object
use Rattle.config_values.specs.declared.place.Place.{Place}
use Rattle.config_values.specs.declared.place.Place.TheVariants as place
use Rattle.config_values.specs.declared.place.Fault.{Fault}
use Rattle.config_values.specs.declared.place.Fault.TheVariants as fault

-- the members of an object: names and values
abbrev pub Fields : Type 0
Fields = List (List ℕ × Tree)

-- what follows a reading; the first fault is the answer
infixl 10 ◌>>=◌
abbrev pub ◌>>=◌ : {A B : Type 0} → Result A Fault → (A → Result B Fault) → Result B Fault
(Ok x) >>= f = f x
(Err e) >>= f = Err e

-- a result whose value is seen by view
abbrev pub seen_by : {A B : Type 0} → (A → B) → Result A Fault → Result B Fault
seen_by view (Ok x) = Ok (view x)
seen_by view (Err e) = Err e

-- a value at a place, or that it is wrong there
abbrev pub found_at : {X : Type 0} → Place → Option X → Result X Fault
found_at p found = ok_or found (fault.Wrong p)

-- the value of a field, where it is there
abbrev pub value_of : Field → Fields → Option Tree
value_of f fields = member_of (field_name f) fields

-- a field that has to be there; where it is absent the fault has its own place
abbrev pub required : {X : Type 0} → (Tree → Option X) → Object → Field → Fields → Result X Fault
required read o f fields = found_at (place.Field o f) (option_and_then read (value_of f fields))

-- a field that may be absent
abbrev pub read_if : {X : Type 0} → (Tree → Option X) → Object → Field → Option Tree → Result (Option X) Fault
read_if read o f None = Ok None
read_if read o f (Some v) = found_at (place.Field o f) (option_map (λ x. Some x) (read v))

abbrev pub optional : {X : Type 0} → (Tree → Option X) → Object → Field → Fields → Result (Option X) Fault
optional read o f fields = read_if read o f (value_of f fields)

-- the codes of a list's values, the first of which has this place, added to these
abbrev pub codes_from : Object → Field → ℕ → CodesSeen → List Tree → Result CodesSeen Fault
codes_from o f i known [] = Ok known
codes_from o f i known (v ∷ vs) = found_at (place.Element o f i) (failure_in v) >>= λ code. codes_from o f (i + 1) (with_code known code) vs

-- a list that is not empty
abbrev pub not_empty : List Tree → Option (List Tree)
not_empty [] = None
not_empty (v ∷ vs) = Some (v ∷ vs)

-- the codes of a retry policy: one at least
abbrev pub some_values : Tree → Option (List Tree)
some_values v = option_and_then not_empty (values_in v)

unfoldable pub retryable : Object → Fields → Result CodesSeen Fault
retryable o fields = required some_values o field.RetryableStatusCodes fields >>= λ vs. codes_from o field.RetryableStatusCodes 0 no_codes vs

-- the codes of a hedging policy: none where they are absent
abbrev pub codes_if : Object → Option (List Tree) → Result CodesSeen Fault
codes_if o None = Ok no_codes
codes_if o (Some vs) = codes_from o field.NonFatalStatusCodes 0 no_codes vs

unfoldable pub non_fatal : Object → Fields → Result CodesSeen Fault
non_fatal o fields = optional values_in o field.NonFatalStatusCodes fields >>= λ vs. codes_if o vs

-- a retry policy
unfoldable pub retry_in : Object → Fields → Result RetryPolicy Fault
retry_in o fields =
    required backoff o field.InitialBackoff fields >>= λ initial.
    required backoff o field.MaxBackoff fields >>= λ limit.
    required attempts o field.MaxAttempts fields >>= λ max.
    required multiplier o field.BackoffMultiplier fields >>= λ multiplier.
    retryable o fields >>= λ codes.
    Ok (record { max = max; initial = initial; limit = limit; multiplier = multiplier; codes = codes })

-- a delay, 0 where it is absent
abbrev pub delay_of : Option ℕ → ℕ
delay_of None = 0
delay_of (Some n) = n

-- a hedging policy
unfoldable pub hedge_in : Object → Fields → Result HedgePolicy Fault
hedge_in o fields =
    optional duration o field.HedgingDelay fields >>= λ delay.
    required attempts o field.MaxAttempts fields >>= λ max.
    non_fatal o fields >>= λ codes.
    Ok (record { max = max; delay = delay_of delay; codes = codes })

-- the fields of an object at its own place
abbrev pub fields_at : Object → Tree → Result Fields Fault
fields_at o v = found_at (place.Whole o) (members_in v)

abbrev pub retry_if : ℕ → Option Tree → Result (Option RetryPolicy) Fault
retry_if i None = Ok None
retry_if i (Some v) = fields_at (object.RetryPolicy i) v >>= λ fields. retry_in (object.RetryPolicy i) fields >>= λ p. Ok (Some p)

abbrev pub hedge_if : ℕ → Option Tree → Result (Option HedgePolicy) Fault
hedge_if i None = Ok None
hedge_if i (Some v) = fields_at (object.HedgingPolicy i) v >>= λ fields. hedge_in (object.HedgingPolicy i) fields >>= λ p. Ok (Some p)

-- one of both at most
abbrev pub plan_of : ℕ → Option RetryPolicy → Option HedgePolicy → Result CallPlan Fault
plan_of i None None = Ok plan.None
plan_of i (Some p) None = Ok (plan.Retry p)
plan_of i None (Some p) = Ok (plan.Hedge p)
plan_of i (Some p) (Some q) = Err (fault.BothPolicies i)

-- the plan of an entry of methodConfig: the fields of both policies are tested before that there are both
unfoldable pub plan_in : ℕ → Fields → Result CallPlan Fault
plan_in i fields =
    retry_if i (value_of field.RetryPolicy fields) >>= λ retry.
    hedge_if i (value_of field.HedgingPolicy fields) >>= λ hedge.
    plan_of i retry hedge

-- the throttling
abbrev pub throttle_of : Fields → Result (Option Throttle) Fault
throttle_of fields =
    required tokens object.Throttling field.MaxTokens fields >>= λ start.
    required ratio object.Throttling field.TokenRatio fields >>= λ ratio.
    Ok (Some (record { start = start; ratio = ratio }))

abbrev pub throttle_if : Option Tree → Result (Option Throttle) Fault
throttle_if None = Ok None
throttle_if (Some v) = fields_at object.Throttling v >>= λ fields. throttle_of fields

unfoldable pub throttle_in : Fields → Result (Option Throttle) Fault
throttle_in fields = throttle_if (value_of field.RetryThrottling fields)
