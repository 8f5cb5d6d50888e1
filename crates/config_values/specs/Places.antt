-- The names of the fields, and the paths of values that are at fault: the names with points between, and the places
-- of elements from 0 in brackets.
use Rattle.std.specs.Prelude.{ℕ, List, [], ◌∷◌, ◌++◌, codes, decimal}
use Rattle.grpc_base.specs.declared.event.ConfigFault.{ConfigFault}
use Rattle.grpc_base.specs.declared.event.ConfigFault.TheVariants as reported
use Rattle.config_values.specs.declared.place.Field.{Field}
use Rattle.config_values.specs.declared.place.Field.TheVariants as field
use Rattle.config_values.specs.declared.place.Object.{Object}
use Rattle.config_values.specs.declared.place.Object.TheVariants as object
use Rattle.config_values.specs.declared.place.Place.{Place}
use Rattle.config_values.specs.declared.place.Place.TheVariants as place
use Rattle.config_values.specs.declared.place.Fault.{Fault}
use Rattle.config_values.specs.declared.place.Fault.TheVariants as fault

abbrev pub field_name : Field → List ℕ
field_name field.LoadBalancingConfig = codes "loadBalancingConfig"
field_name field.LoadBalancingPolicy = codes "loadBalancingPolicy"
field_name field.MethodConfig = codes "methodConfig"
field_name field.Name = codes "name"
field_name field.Service = codes "service"
field_name field.Method = codes "method"
field_name field.WaitForReady = codes "waitForReady"
field_name field.Timeout = codes "timeout"
field_name field.MaxRequestMessageBytes = codes "maxRequestMessageBytes"
field_name field.MaxResponseMessageBytes = codes "maxResponseMessageBytes"
field_name field.RetryPolicy = codes "retryPolicy"
field_name field.HedgingPolicy = codes "hedgingPolicy"
field_name field.InitialBackoff = codes "initialBackoff"
field_name field.MaxBackoff = codes "maxBackoff"
field_name field.HedgingDelay = codes "hedgingDelay"
field_name field.MaxAttempts = codes "maxAttempts"
field_name field.BackoffMultiplier = codes "backoffMultiplier"
field_name field.RetryableStatusCodes = codes "retryableStatusCodes"
field_name field.NonFatalStatusCodes = codes "nonFatalStatusCodes"
field_name field.RetryThrottling = codes "retryThrottling"
field_name field.MaxTokens = codes "maxTokens"
field_name field.TokenRatio = codes "tokenRatio"

-- a step to a member, a step to an element
abbrev pub member_step : Field → List ℕ
member_step f = 46 ∷ field_name f

abbrev pub element_step : ℕ → List ℕ
element_step i = 91 ∷ (decimal i ++ 93 ∷ [])

unfoldable pub entry_path : ℕ → List ℕ
entry_path i = field_name field.MethodConfig ++ element_step i

-- the path of an object
unfoldable pub object_path : Object → List ℕ
object_path object.Config = []
object_path (object.Entry i) = entry_path i
object_path (object.Name i j) = entry_path i ++ (member_step field.Name ++ element_step j)
object_path (object.RetryPolicy i) = entry_path i ++ member_step field.RetryPolicy
object_path (object.HedgingPolicy i) = entry_path i ++ member_step field.HedgingPolicy
object_path object.Throttling = field_name field.RetryThrottling

-- the path of a member of an object
unfoldable pub member_path : Object → Field → List ℕ
member_path object.Config f = field_name f
member_path o f = object_path o ++ member_step f

-- the path of a value
unfoldable pub path_of : Place → List ℕ
path_of (place.Whole o) = object_path o
path_of (place.Field o f) = member_path o f
path_of (place.Element o f i) = member_path o f ++ element_step i

-- a fault as it is reported, with its path
abbrev pub reported_of : Fault → ConfigFault
reported_of (fault.Wrong p) = reported.Field (path_of p)
reported_of (fault.BothPolicies i) = reported.BothPolicies (path_of (place.Whole (object.Entry i)))
reported_of (fault.RepeatedName i j) = reported.RepeatedName (path_of (place.Whole (object.Name i j)))
reported_of fault.NoSupportedPolicy = reported.NoSupportedPolicy
reported_of fault.NoMemory = reported.NoMemory
