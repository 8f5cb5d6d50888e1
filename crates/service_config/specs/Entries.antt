-- The entries of methodConfig, one by one: their names, what they say, and that no name stands twice (gRPC, "Service
-- Config in gRPC"; service_config.proto, MethodConfig).
use Rattle.std.specs.Prelude.{◌≡◌, ℕ, ◌+◌, Bool, not, ◌&&◌, ◌==◌, if◌then◌else◌, List, [], ◌∷◌, ◌++◌, length, Option, Some, None, unwrap_or, Result, Ok, Err}
use Rattle.std.specs.List.{list_any}
use Rattle.std.specs.Str.{bytes_eq}
use Rattle.json_text.specs.Tree.{Tree}
use Rattle.json_text.specs.Parts.{values_in, text_in, flag_in}
use Rattle.config_values.specs.Values.{duration, size}
use Rattle.config_values.specs.Policies.{Fields, ◌>>=◌, optional, fields_at, plan_in}
use Rattle.config_values.specs.declared.place.Field.TheVariants as field
use Rattle.config_values.specs.declared.place.Object.{Object}
use Rattle.config_values.specs.declared.place.Object.TheVariants as object
use Rattle.config_values.specs.declared.place.Place.TheVariants as place
use Rattle.config_values.specs.declared.place.Fault.{Fault}
use Rattle.config_values.specs.declared.place.Fault.TheVariants as fault
use Rattle.service_config.specs.declared.config.Method.{Method}
use Rattle.service_config.specs.declared.entry.Name.{Name}
use Rattle.service_config.specs.declared.entry.Settings.{Settings}

-- a service and a method
abbrev pub NameSeen : Type 0
NameSeen = List ℕ × List ℕ

abbrev pub name_seen : Name → NameSeen
name_seen n = (n.service.now, n.method.now)

-- a text, which is empty where it is absent
abbrev pub text_or_empty : Option (List ℕ) → List ℕ
text_or_empty t = unwrap_or t []

abbrev pub is_empty : List ℕ → Bool
is_empty t = length t == 0

-- a method needs a service
abbrev pub name_of : Object → List ℕ → List ℕ → Result NameSeen Fault
name_of o service method =
    if is_empty service && not (is_empty method) then Err (fault.Wrong (place.Field o field.Method)) else Ok (service, method)

unfoldable pub name_in : Object → Fields → Result NameSeen Fault
name_in o fields =
    optional text_in o field.Service fields >>= λ service.
    optional text_in o field.Method fields >>= λ method.
    name_of o (text_or_empty service) (text_or_empty method)

abbrev pub name_at : ℕ → ℕ → Tree → Result NameSeen Fault
name_at i j v = fields_at (object.Name i j) v >>= λ fields. name_in (object.Name i j) fields

-- the names of an entry, of which these are known and the next has this place
abbrev pub names_from : ℕ → ℕ → List NameSeen → List Tree → Result (List NameSeen) Fault
names_from i j known [] = Ok known
names_from i j known (v ∷ vs) = name_at i j v >>= λ n. names_from i (j + 1) (known ++ n ∷ []) vs

abbrev pub names_if : ℕ → Option (List Tree) → Result (List NameSeen) Fault
names_if i None = Ok []
names_if i (Some vs) = names_from i 0 [] vs

unfoldable pub names_in : ℕ → Fields → Result (List NameSeen) Fault
names_in i fields = optional values_in (object.Entry i) field.Name fields >>= λ vs. names_if i vs

-- what an entry says of its names
unfoldable pub settings_in : ℕ → Fields → Result Settings Fault
settings_in i fields =
    optional flag_in (object.Entry i) field.WaitForReady fields >>= λ wait.
    optional duration (object.Entry i) field.Timeout fields >>= λ timeout.
    optional size (object.Entry i) field.MaxRequestMessageBytes fields >>= λ request.
    optional size (object.Entry i) field.MaxResponseMessageBytes fields >>= λ response.
    plan_in i fields >>= λ plan.
    Ok (record { wait = wait; timeout = timeout; request = request; response = response; plan = plan })

abbrev pub method_of : NameSeen → Settings → Method
method_of n s = record { service = n.0; method = n.1; wait = s.wait; timeout = s.timeout; request = s.request; response = s.response; plan = s.plan }

-- whether a name stands among those before
abbrev pub has_name : NameSeen → List Method → Bool
has_name n ms = list_any (λ m. bytes_eq m.service n.0 && bytes_eq m.method n.1) ms

-- one name more, the j-th of entry i
abbrev pub added : ℕ → ℕ → Settings → List Method → NameSeen → Result (List Method) Fault
added i j s known n = if has_name n known then Err (fault.RepeatedName i j) else Ok (known ++ method_of n s ∷ [])

-- these names more, the first of which is the j-th of entry i
abbrev pub added_from : ℕ → ℕ → Settings → List Method → List NameSeen → Result (List Method) Fault
added_from i j s known [] = Ok known
added_from i j s known (n ∷ ns) = added i j s known n >>= λ ms. added_from i (j + 1) s ms ns

-- an entry: its names, and what it says of them
abbrev pub read_entry : ℕ → Tree → Result (List NameSeen × Settings) Fault
read_entry i v =
    fields_at (object.Entry i) v >>= λ fields.
    names_in i fields >>= λ names.
    settings_in i fields >>= λ s.
    Ok (names, s)

-- entry i, after those before
unfoldable pub entry_at : ℕ → List Method → Tree → Result (List Method) Fault
entry_at i known v = read_entry i v >>= λ e. added_from i 0 e.1 known e.0

abbrev pub entries_from : ℕ → List Method → List Tree → Result (List Method) Fault
entries_from i known [] = Ok known
entries_from i known (v ∷ vs) = entry_at i known v >>= λ ms. entries_from (i + 1) ms vs

abbrev pub entries_if : Option (List Tree) → Result (List Method) Fault
entries_if None = Ok []
entries_if (Some vs) = entries_from 0 [] vs

-- what a config says of each name, in the text's order
unfoldable pub methods_in : Fields → Result (List Method) Fault
methods_in fields = optional values_in object.Config field.MethodConfig fields >>= λ vs. entries_if vs

-- What a function returned, seen by view, is what a reading gives, unless memory ran out.
abbrev pub Fails : {Y : Type 0} → Fault → Result Y Fault → Type 0
Fails fault.NoMemory read = Unit {0}
Fails f read = read ≡ Err f

abbrev pub Gives : {X Y : Type 0} → (X → Y) → Result X Fault → Result Y Fault → Type 0
Gives view (Ok x) read = read ≡ Ok (view x)
Gives view (Err e) read = Fails e read

-- a name as one text, in which a 1 stands before each byte of the service, and a 0 after it
abbrev pub key_from : List ℕ → List ℕ → List ℕ
key_from [] method = 0 ∷ method
key_from (b ∷ service) method = 1 ∷ b ∷ key_from service method
