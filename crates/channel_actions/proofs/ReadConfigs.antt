-- A config allows from one to five attempts of a call (gRFC A6, "Maximum Number of Retries").
use Rattle.std.proofs.Common.{◌≡◌, ◌≤◌, ℕ, ◌+◌, Bool, true, false, nat_le, min, ◌&&◌, if◌then◌else◌, Option, Some, None, IfSome, Result, Ok, Err, IfOk, List, [], ◌∷◌, ◌++◌, refl, subst, arith}
use Rattle.std.proofs.Math.Nat.{min-le_right}
use Rattle.std.proofs.lemmas.Bool.{leb-true}
use Rattle.std.specs.List.{AllByRecursion, find}
use Rattle.std.specs.Option.{option_or}
use Rattle.std.specs.Prelude.{option_and_then, unwrap_or}
use Rattle.std.specs.Str.{bytes_eq}
use Rattle.grpc_base.specs.Kinds.{KindsSeen}
use Rattle.grpc_base.specs.Limits.{message_limit}
use Rattle.grpc_base.specs.Requests.{names_of_path}
use Rattle.grpc_base.specs.declared.event.ConfigFault.{ConfigFault}
use Rattle.grpc_base.specs.declared.event.JsonFault.{JsonFault}
use Rattle.grpc_base.specs.declared.plan.CallPlan.{CallPlan}
use Rattle.grpc_base.specs.declared.plan.HedgePolicy.{HedgePolicy}
use Rattle.grpc_base.specs.declared.plan.RetryPolicy.{RetryPolicy}
use Rattle.grpc_base.specs.declared.plan.Throttle.{Throttle}
use Rattle.attempt_ledger.specs.Numbering.{most_attempts}
use Rattle.json_text.specs.Tree.{Tree}
use Rattle.json_text.specs.Reading.{reading}
use Rattle.json_text.specs.Parts.{flag_in, number_in, values_in}
use Rattle.config_values.specs.Policies.{Fields, ◌>>=◌, fields_at, found_at, hedge_if, hedge_in, non_fatal, optional, plan_in, plan_of, required, retry_if, retry_in, retryable, throttle_in, value_of}
use Rattle.config_values.specs.Values.{attempts, attempts_of, backoff, duration, multiplier, size, whole}
use Rattle.config_values.specs.declared.place.Fault.{Fault}
use Rattle.config_values.specs.declared.place.Fault.TheVariants as fault
use Rattle.config_values.specs.declared.place.Field.{Field}
use Rattle.config_values.specs.declared.place.Field.TheVariants as field
use Rattle.config_values.specs.declared.place.Object.{Object}
use Rattle.config_values.specs.declared.place.Object.TheVariants as object
use Rattle.config_values.specs.declared.place.Place.{Place}
use Rattle.config_values.specs.declared.place.Place.TheVariants as place
use Rattle.service_config.specs.Choice.{chosen_for, empty_config, entry_for, entry_of, taken}
use Rattle.service_config.specs.Entries.{NameSeen, added, added_from, entries_from, entries_if, entry_at, has_name, method_of, methods_in, names_in, read_entry, settings_in}
use Rattle.service_config.specs.Reading.{config_at, config_in, config_in_tree, config_of, kind_in, reported_by}
use Rattle.service_config.specs.declared.config.Config.{Config}
use Rattle.service_config.specs.declared.config.Method.{Method}
use Rattle.service_config.specs.declared.entry.Settings.{Settings}
use Rattle.grpc_base.specs.declared.plan.Chosen.{Chosen}
use Rattle.channel_core.specs.Applying.{config_read}

-- what is known of what is read
bound : {A B : Type 0} (P : A → Type 0) (Q : B → Type 0) (r : Result A Fault) (f : A → Result B Fault) → IfOk r P → ((x : A) → P x → IfOk (f x) Q) → IfOk (r >>= f) Q
bound P Q (Ok x) f h next = next x h
bound P Q (Err e) f h next = tt

abbrev Anything : {A : Type 0} → A → Type 0
Anything x = Unit {0}

any : {A : Type 0} (r : Result A Fault) → IfOk r Anything
any (Ok x) = tt
any (Err e) = tt

-- so many attempts
pub record IsCount (n : ℕ) : Type 0 where
  pub least : 1 ≤ n
  pub most : n ≤ 5

count_if : (n : ℕ) (b : Bool) → nat_le 2 n ≡ b → IfSome (if b then Some (min n 5) else None) IsCount
count_if n true e = (let le : 2 ≤ n = leb-true 2 n e in record { least = omega (arith, le); most = omega arith })
count_if n false e = tt

count_of : (n : ℕ) → IfSome (attempts_of n) IsCount
count_of n = count_if n (nat_le 2 n) refl

count_in : (o : Option ℕ) → IfSome (option_and_then attempts_of o) IsCount
count_in None = tt
count_in (Some n) = count_of n

found_is : (p : Place) (o : Option ℕ) → IfSome o IsCount → IfOk (found_at p o) IsCount
found_is p None h = tt
found_is p (Some n) h = h

tree_count : (o : Option Tree) → IfSome (option_and_then attempts o) IsCount
tree_count None = tt
tree_count (Some v) = count_in (option_and_then whole (number_in v))

required_count : (o : Object) (f : Field) (fields : Fields) → IfOk (required attempts o f fields) IsCount
required_count o f fields = found_is (place.Field o f) (option_and_then attempts (value_of f fields)) (tree_count (value_of f fields))

abbrev IsRetry : RetryPolicy → Type 0
IsRetry p = IsCount p.max

abbrev IsHedge : HedgePolicy → Type 0
IsHedge p = IsCount p.max

-- policies
retry_count : (o : Object) (fields : Fields) → IfOk (retry_in o fields) IsRetry
unfolding retry_in
retry_count o fields =
    bound Anything IsRetry (required backoff o field.InitialBackoff fields) _ (any (required backoff o field.InitialBackoff fields)) (λ initial u.
    bound Anything IsRetry (required backoff o field.MaxBackoff fields) _ (any (required backoff o field.MaxBackoff fields)) (λ limit v.
    bound IsCount IsRetry (required attempts o field.MaxAttempts fields) _ (required_count o field.MaxAttempts fields) (λ max is.
    bound Anything IsRetry (required multiplier o field.BackoffMultiplier fields) _ (any (required multiplier o field.BackoffMultiplier fields)) (λ multiplier w.
    bound Anything IsRetry (retryable o fields) _ (any (retryable o fields)) (λ codes x. is)))))

hedge_count : (o : Object) (fields : Fields) → IfOk (hedge_in o fields) IsHedge
unfolding hedge_in
hedge_count o fields =
    bound Anything IsHedge (optional duration o field.HedgingDelay fields) _ (any (optional duration o field.HedgingDelay fields)) (λ delay u.
    bound IsCount IsHedge (required attempts o field.MaxAttempts fields) _ (required_count o field.MaxAttempts fields) (λ max is.
    bound Anything IsHedge (non_fatal o fields) _ (any (non_fatal o fields)) (λ codes x. is)))

abbrev MayRetry : Option RetryPolicy → Type 0
MayRetry r = IfSome r IsRetry

abbrev MayHedge : Option HedgePolicy → Type 0
MayHedge h = IfSome h IsHedge

abbrev pub IsPlan : CallPlan → Type 0
IsPlan p = IsCount (most_attempts p)

retry_if_count : (i : ℕ) (o : Option Tree) → IfOk (retry_if i o) MayRetry
retry_if_count i None = tt
retry_if_count i (Some v) =
    bound Anything MayRetry (fields_at (object.RetryPolicy i) v) _ (any (fields_at (object.RetryPolicy i) v)) (λ fields u.
    bound IsRetry MayRetry (retry_in (object.RetryPolicy i) fields) _ (retry_count (object.RetryPolicy i) fields) (λ p is. is))

hedge_if_count : (i : ℕ) (o : Option Tree) → IfOk (hedge_if i o) MayHedge
hedge_if_count i None = tt
hedge_if_count i (Some v) =
    bound Anything MayHedge (fields_at (object.HedgingPolicy i) v) _ (any (fields_at (object.HedgingPolicy i) v)) (λ fields u.
    bound IsHedge MayHedge (hedge_in (object.HedgingPolicy i) fields) _ (hedge_count (object.HedgingPolicy i) fields) (λ p is. is))

plan_count : (i : ℕ) (r : Option RetryPolicy) (h : Option HedgePolicy) → MayRetry r → MayHedge h → IfOk (plan_of i r h) IsPlan
plan_count i None None a b = record { least = omega arith; most = omega arith }
plan_count i (Some p) None a b = a
plan_count i None (Some p) a b = b
plan_count i (Some p) (Some q) a b = tt

plan_in_count : (i : ℕ) (fields : Fields) → IfOk (plan_in i fields) IsPlan
unfolding plan_in
plan_in_count i fields =
    bound MayRetry IsPlan (retry_if i (value_of field.RetryPolicy fields)) _ (retry_if_count i (value_of field.RetryPolicy fields)) (λ r a.
    bound MayHedge IsPlan (hedge_if i (value_of field.HedgingPolicy fields)) _ (hedge_if_count i (value_of field.HedgingPolicy fields)) (λ h b. plan_count i r h a b))

-- entries
abbrev AreSettings : Settings → Type 0
AreSettings s = IsPlan s.plan

abbrev IsEntry : List NameSeen × Settings → Type 0
IsEntry e = IsPlan e.1.plan

abbrev IsMethod : Method → Type 0
IsMethod m = IsPlan m.plan

settings_count : (i : ℕ) (fields : Fields) → IfOk (settings_in i fields) AreSettings
unfolding settings_in
settings_count i fields =
    bound Anything AreSettings (optional flag_in (object.Entry i) field.WaitForReady fields) _ (any (optional flag_in (object.Entry i) field.WaitForReady fields)) (λ wait a.
    bound Anything AreSettings (optional duration (object.Entry i) field.Timeout fields) _ (any (optional duration (object.Entry i) field.Timeout fields)) (λ timeout b.
    bound Anything AreSettings (optional size (object.Entry i) field.MaxRequestMessageBytes fields) _ (any (optional size (object.Entry i) field.MaxRequestMessageBytes fields)) (λ request c.
    bound Anything AreSettings (optional size (object.Entry i) field.MaxResponseMessageBytes fields) _ (any (optional size (object.Entry i) field.MaxResponseMessageBytes fields)) (λ response d.
    bound IsPlan AreSettings (plan_in i fields) _ (plan_in_count i fields) (λ plan is. is)))))

abbrev pub ArePlans : List Method → Type 0
ArePlans methods = AllByRecursion IsMethod methods

plans_more : (methods : List Method) (m : Method) → ArePlans methods → IsPlan m.plan → ArePlans (methods ++ m ∷ [])
plans_more [] m all one = (one, tt)
plans_more (x ∷ methods) m all one = (all.0, plans_more methods m all.1 one)

added_if : (b : Bool) (i j : ℕ) (s : Settings) (known : List Method) (n : NameSeen) → IsPlan s.plan → ArePlans known → IfOk (if b then Err (fault.RepeatedName i j) else Ok (known ++ method_of n s ∷ [])) ArePlans
added_if true i j s known n is all = tt
added_if false i j s known n is all = plans_more known (method_of n s) all is

added_count : (i j : ℕ) (s : Settings) (known : List Method) (names : List NameSeen) → IsPlan s.plan → ArePlans known → IfOk (added_from i j s known names) ArePlans
added_count i j s known [] is all = all
added_count i j s known (n ∷ names) is all =
    bound ArePlans ArePlans (added i j s known n) (λ ms. added_from i (j + 1) s ms names) (added_if (has_name n known) i j s known n is all) (λ ms more. added_count i (j + 1) s ms names is more)

read_count : (i : ℕ) (v : Tree) → IfOk (read_entry i v) IsEntry
read_count i v =
    bound Anything IsEntry (fields_at (object.Entry i) v) _ (any (fields_at (object.Entry i) v)) (λ fields a.
    bound Anything IsEntry (names_in i fields) _ (any (names_in i fields)) (λ names b.
    bound AreSettings IsEntry (settings_in i fields) _ (settings_count i fields) (λ s is. is)))

entry_count : (i : ℕ) (known : List Method) (v : Tree) → ArePlans known → IfOk (entry_at i known v) ArePlans
unfolding entry_at
entry_count i known v all = bound IsEntry ArePlans (read_entry i v) _ (read_count i v) (λ e is. added_count i 0 e.1 known e.0 is all)

entries_count : (i : ℕ) (known : List Method) (vs : List Tree) → ArePlans known → IfOk (entries_from i known vs) ArePlans
entries_count i known [] all = all
entries_count i known (v ∷ vs) all = bound ArePlans ArePlans (entry_at i known v) (λ ms. entries_from (i + 1) ms vs) (entry_count i known v all) (λ ms more. entries_count (i + 1) ms vs more)

entries_if_count : (o : Option (List Tree)) → IfOk (entries_if o) ArePlans
entries_if_count None = tt
entries_if_count (Some vs) = entries_count 0 [] vs tt

methods_count : (fields : Fields) → IfOk (methods_in fields) ArePlans
unfolding methods_in
methods_count fields = bound Anything ArePlans (optional values_in object.Config field.MethodConfig fields) _ (any (optional values_in object.Config field.MethodConfig fields)) (λ vs a. entries_if_count vs)

-- configs
abbrev pub HasPlans : Config → Type 0
HasPlans c = ArePlans c.methods

config_count : (kinds : KindsSeen) (fields : Fields) → IfOk (config_in kinds fields) HasPlans
unfolding config_in
config_count kinds fields =
    bound Anything HasPlans (kind_in kinds fields) _ (any (kind_in kinds fields)) (λ kind a.
    bound ArePlans HasPlans (methods_in fields) _ (methods_count fields) (λ methods is.
    bound Anything HasPlans (throttle_in fields) _ (any (throttle_in fields)) (λ throttle b. is)))

tree_config : (kinds : KindsSeen) (v : Tree) → IfOk (config_in_tree kinds v) HasPlans
unfolding config_in_tree
tree_config kinds v = bound Anything HasPlans (fields_at object.Config v) _ (any (fields_at object.Config v)) (λ fields a. config_count kinds fields)

reported_config : (r : Result Config Fault) → IfOk r HasPlans → IfOk (reported_by r) HasPlans
reported_config (Ok c) h = h
reported_config (Err f) h = tt

at_config : (kinds : KindsSeen) (r : Result Tree JsonFault) → IfOk (config_at kinds r) HasPlans
at_config kinds (Ok v) = reported_config (config_in_tree kinds v) (tree_config kinds v)
at_config kinds (Err f) = tt

pub text_config : (kinds : KindsSeen) (text : List ℕ) → IfOk (config_of kinds text) HasPlans
text_config kinds text = at_config kinds (reading text)

-- the choice for a path
found_if : (p : Method → Bool) (m : Method) (methods : List Method) (b : Bool) → IsPlan m.plan → IfSome (find p methods) IsMethod → IfSome (if b then Some m else find p methods) IsMethod
found_if p m methods true one rest = one
found_if p m methods false one rest = rest

found_plan : (p : Method → Bool) (methods : List Method) → ArePlans methods → IfSome (find p methods) IsMethod
found_plan p [] all = tt
found_plan p (m ∷ methods) all = found_if p m methods (p m) all.0 (found_plan p methods all.1)

or_plan : (a b : Option Method) → IfSome a IsMethod → IfSome b IsMethod → IfSome (option_or a b) IsMethod
or_plan None b h k = k
or_plan (Some m) b h k = h

entry_plan : (service method : List ℕ) (methods : List Method) → ArePlans methods → IfSome (entry_of service method methods) IsMethod
entry_plan service method methods all = found_plan (λ m. bytes_eq m.service service && bytes_eq m.method method) methods all

choice_plan : (methods : List Method) (names : Option (List ℕ × List ℕ)) → ArePlans methods → IfSome (entry_for methods names) IsMethod
choice_plan methods None all = entry_plan [] [] methods all
choice_plan methods (Some n) all =
    or_plan (entry_of n.0 n.1 methods) _ (entry_plan n.0 n.1 methods all) (or_plan (entry_of n.0 [] methods) _ (entry_plan n.0 [] methods all) (entry_plan [] [] methods all))

taken_plan : (throttle : Option Throttle) (o : Option Method) → IfSome o IsMethod → IsPlan (taken throttle o).plan
taken_plan throttle None h = record { least = omega arith; most = omega arith }
taken_plan throttle (Some m) h = h

pub chosen_plan : (c : Config) (path : List ℕ) → ArePlans c.methods → IsPlan (chosen_for c path).plan
chosen_plan c path all = taken_plan c.throttle (entry_for c.methods (names_of_path path)) (choice_plan c.methods (names_of_path path) all)

-- no config has a limit of responses above that of all messages
taken_response : (throttle : Option Throttle) (o : Option Method) → (taken throttle o).response ≤ message_limit
taken_response throttle None = omega arith
taken_response throttle (Some m) = min-le_right (unwrap_or m.response message_limit) message_limit

pub chosen_response : (c : Config) (path : List ℕ) → (chosen_for c path).response ≤ message_limit
chosen_response c path = taken_response c.throttle (entry_for c.methods (names_of_path path))

config_read_by : (r : Result Config ConfigFault) (c : Config) → r ≡ Ok c → IfOk r HasPlans → ArePlans c.methods
config_read_by r c e h = (let P : Result Config ConfigFault → Type 0 = λ r. IfOk r HasPlans in subst P e h)

pub read_plans : (kinds : KindsSeen) (text : List ℕ) (c : Config) → config_of kinds text ≡ Ok c → ArePlans c.methods
read_plans kinds text c e = config_read_by (config_of kinds text) c e (text_config kinds text)

-- what a config allows: from one to five attempts, and responses up to the longest message
pub record IsAllowed (chosen : Chosen) : Type 0 where
  pub least : 1 ≤ most_attempts chosen.plan
  pub most : most_attempts chosen.plan ≤ 5
  pub response : chosen.response ≤ message_limit

-- the configs that are read allow from one to five attempts
within_plan : (config : Config) (path : List ℕ) → IsCount (most_attempts (chosen_for config path).plan) → IsAllowed (chosen_for config path)
within_plan config path is = record { least = is.least; most = is.most; response = chosen_response config path }

empty_plan : (path : List ℕ) → IsAllowed (chosen_for empty_config path)
empty_plan path = within_plan empty_config path (chosen_plan empty_config path tt)

pub allowed : (config : Config) (kinds : KindsSeen) (text : Option (List ℕ)) → config_read kinds text ≡ Ok config → (path : List ℕ) → IsAllowed (chosen_for config path)
allowed config kinds None e path = (let same : empty_config ≡ config = (cc) in subst (λ (c : Config). IsAllowed (chosen_for c path)) same (empty_plan path))
allowed config kinds (Some text) e path = within_plan config path (chosen_plan config path (read_plans kinds text config e))
