-- No config is read with a timeout above the longest duration.
use Rattle.std.proofs.Common.{◌≡◌, ◌≤◌, ◌*◌, ◌^◌, ◌+◌, ◌-◌, ◌&&◌, ◌∷◌, ◌++◌, Bool, true, false, nat_le, if◌then◌else◌, Option, Some, None, IfSome, Result, Ok, Err, IfOk, List, [], length, refl, subst, take, ℕ}
use Rattle.std.proofs.lemmas.Bool.{leb-true}
use Rattle.std.specs.List.{AllByRecursion, ends_with, find}
use Rattle.std.specs.Option.{option_map, option_or}
use Rattle.std.specs.Prelude.{nat_eq, option_and_then}
use Rattle.std.specs.Str.{bytes_eq}
use Rattle.config_values.specs.Policies.{Fields, ◌>>=◌, fields_at, found_at, optional, plan_in, read_if, throttle_in, value_of}
use Rattle.config_values.specs.Values.{duration, size}
use Rattle.config_values.specs.declared.place.Fault.TheVariants as fault
use Rattle.config_values.specs.declared.place.Fault.{Fault}
use Rattle.config_values.specs.declared.place.Field.TheVariants as field
use Rattle.config_values.specs.declared.place.Field.{Field}
use Rattle.config_values.specs.declared.place.Object.TheVariants as object
use Rattle.config_values.specs.declared.place.Object.{Object}
use Rattle.config_values.specs.declared.place.Place.TheVariants as place
use Rattle.config_values.specs.declared.place.Place.{Place}
use Rattle.grpc_base.specs.Kinds.{KindsSeen}
use Rattle.grpc_base.specs.Limits.{duration_limit}
use Rattle.grpc_base.specs.Numbers.{is_number, number_of}
use Rattle.grpc_base.specs.Requests.{names_of_path}
use Rattle.grpc_base.specs.declared.event.ConfigFault.{ConfigFault}
use Rattle.grpc_base.specs.declared.event.JsonFault.{JsonFault}
use Rattle.grpc_base.specs.declared.plan.Throttle.{Throttle}
use Rattle.json_text.specs.Decimals.{fraction_of, nanos_by, nanos_found, nanos_of, parts_of}
use Rattle.json_text.specs.Parts.{flag_in, text_in, values_in}
use Rattle.json_text.specs.Reading.{reading}
use Rattle.json_text.specs.Tree.{Tree}
use Rattle.service_config.specs.Choice.{chosen_for, entry_for, entry_of, taken}
use Rattle.service_config.specs.Entries.{NameSeen, added, added_from, entries_from, entries_if, entry_at, has_name, method_of, methods_in, names_in, read_entry, settings_in}
use Rattle.service_config.specs.Reading.{config_at, config_in, config_in_tree, config_of, kind_in, reported_by}
use Rattle.service_config.specs.declared.config.Config.{Config}
use Rattle.service_config.specs.declared.config.Method.{Method}
use Rattle.service_config.specs.declared.entry.Settings.{Settings}

-- a timeout that may be absent
abbrev pub IsShort : Option ℕ → Type 0
IsShort o = IfSome o (λ t. t ≤ duration_limit)

short_if : (b : Bool) (o : Option ℕ) → IsShort o → IsShort (if b then o else None)
short_if true o h = h
short_if false o h = tt

found_if : (n : ℕ) (b : Bool) → nat_le n (10 ^ 18) ≡ b → IsShort (if b then Some n else None)
found_if n true e = leb-true n (10 ^ 18) e
found_if n false e = tt

found_short : (n : ℕ) → IsShort (nanos_found n)
found_short n = found_if n (nat_le n (10 ^ 18)) refl

parts_short : (whole : List ℕ) (o : Option (List ℕ)) → IsShort (nanos_by whole o)
parts_short whole None = short_if (is_number whole) (nanos_found (number_of whole * 10 ^ 9)) (found_short (number_of whole * 10 ^ 9))
parts_short whole (Some digits) =
    short_if (is_number whole && is_number digits && nat_le (length digits) 9) (nanos_found (number_of whole * 10 ^ 9 + fraction_of (10 ^ 9) digits))
    (found_short (number_of whole * 10 ^ 9 + fraction_of (10 ^ 9) digits))

nanos_short : (text : List ℕ) → IsShort (nanos_of text)
nanos_short text =
    short_if (ends_with nat_eq text (115 ∷ [])) (nanos_by (parts_of (take (length text - 1) text)).0 (parts_of (take (length text - 1) text)).1)
    (parts_short (parts_of (take (length text - 1) text)).0 (parts_of (take (length text - 1) text)).1)

text_short : (o : Option (List ℕ)) → IsShort (option_and_then nanos_of o)
text_short None = tt
text_short (Some text) = nanos_short text

place_short : (p : Place) (o : Option ℕ) → IsShort o → IfOk (found_at p (option_map (λ (n : ℕ). Some n) o)) IsShort
place_short p None h = tt
place_short p (Some n) h = h

tree_short : (o : Object) (f : Field) (v : Option Tree) → IfOk (read_if duration o f v) IsShort
tree_short o f None = tt
tree_short o f (Some v) = place_short (place.Field o f) (duration v) (text_short (text_in v))

-- what is known of what is read
bound : {A B : Type 0} (P : A → Type 0) (Q : B → Type 0) (r : Result A Fault) (f : A → Result B Fault) → IfOk r P → ((x : A) → P x → IfOk (f x) Q) → IfOk (r >>= f) Q
bound P Q (Ok x) f h next = next x h
bound P Q (Err e) f h next = tt

abbrev Anything : {A : Type 0} → A → Type 0
Anything x = Unit {0}

any : {A : Type 0} (r : Result A Fault) → IfOk r Anything
any (Ok x) = tt
any (Err e) = tt

-- entries
abbrev AreSettings : Settings → Type 0
AreSettings s = IsShort s.timeout

abbrev IsEntry : List NameSeen × Settings → Type 0
IsEntry e = IsShort e.1.timeout

abbrev IsMethod : Method → Type 0
IsMethod m = IsShort m.timeout

settings_short : (i : ℕ) (fields : Fields) → IfOk (settings_in i fields) AreSettings
unfolding settings_in
settings_short i fields =
    bound Anything AreSettings (optional flag_in (object.Entry i) field.WaitForReady fields) _ (any (optional flag_in (object.Entry i) field.WaitForReady fields)) (λ wait a.
    bound IsShort AreSettings (optional duration (object.Entry i) field.Timeout fields) _ (tree_short (object.Entry i) field.Timeout (value_of field.Timeout fields)) (λ timeout is.
    bound Anything AreSettings (optional size (object.Entry i) field.MaxRequestMessageBytes fields) _ (any (optional size (object.Entry i) field.MaxRequestMessageBytes fields)) (λ request c.
    bound Anything AreSettings (optional size (object.Entry i) field.MaxResponseMessageBytes fields) _ (any (optional size (object.Entry i) field.MaxResponseMessageBytes fields)) (λ response d.
    bound Anything AreSettings (plan_in i fields) _ (any (plan_in i fields)) (λ plan e. is)))))

abbrev pub AreShort : List Method → Type 0
AreShort methods = AllByRecursion IsMethod methods

short_more : (methods : List Method) (m : Method) → AreShort methods → IsShort m.timeout → AreShort (methods ++ m ∷ [])
short_more [] m all one = (one, tt)
short_more (x ∷ methods) m all one = (all.0, short_more methods m all.1 one)

added_if : (b : Bool) (i j : ℕ) (s : Settings) (known : List Method) (n : NameSeen) → IsShort s.timeout → AreShort known
    → IfOk (if b then Err (fault.RepeatedName i j) else Ok (known ++ method_of n s ∷ [])) AreShort
added_if true i j s known n is all = tt
added_if false i j s known n is all = short_more known (method_of n s) all is

added_short : (i j : ℕ) (s : Settings) (known : List Method) (names : List NameSeen) → IsShort s.timeout → AreShort known → IfOk (added_from i j s known names) AreShort
added_short i j s known [] is all = all
added_short i j s known (n ∷ names) is all =
    bound AreShort AreShort (added i j s known n) (λ ms. added_from i (j + 1) s ms names) (added_if (has_name n known) i j s known n is all)
    (λ ms more. added_short i (j + 1) s ms names is more)

read_short : (i : ℕ) (v : Tree) → IfOk (read_entry i v) IsEntry
read_short i v =
    bound Anything IsEntry (fields_at (object.Entry i) v) _ (any (fields_at (object.Entry i) v)) (λ fields a.
    bound Anything IsEntry (names_in i fields) _ (any (names_in i fields)) (λ names b.
    bound AreSettings IsEntry (settings_in i fields) _ (settings_short i fields) (λ s is. is)))

entry_short : (i : ℕ) (known : List Method) (v : Tree) → AreShort known → IfOk (entry_at i known v) AreShort
unfolding entry_at
entry_short i known v all = bound IsEntry AreShort (read_entry i v) _ (read_short i v) (λ e is. added_short i 0 e.1 known e.0 is all)

entries_short : (i : ℕ) (known : List Method) (vs : List Tree) → AreShort known → IfOk (entries_from i known vs) AreShort
entries_short i known [] all = all
entries_short i known (v ∷ vs) all =
    bound AreShort AreShort (entry_at i known v) (λ ms. entries_from (i + 1) ms vs) (entry_short i known v all) (λ ms more. entries_short (i + 1) ms vs more)

entries_if_short : (o : Option (List Tree)) → IfOk (entries_if o) AreShort
entries_if_short None = tt
entries_if_short (Some vs) = entries_short 0 [] vs tt

methods_short : (fields : Fields) → IfOk (methods_in fields) AreShort
unfolding methods_in
methods_short fields =
    bound Anything AreShort (optional values_in object.Config field.MethodConfig fields) _ (any (optional values_in object.Config field.MethodConfig fields))
    (λ vs a. entries_if_short vs)

-- configs
abbrev HasShort : Config → Type 0
HasShort c = AreShort c.methods

config_short : (kinds : KindsSeen) (fields : Fields) → IfOk (config_in kinds fields) HasShort
unfolding config_in
config_short kinds fields =
    bound Anything HasShort (kind_in kinds fields) _ (any (kind_in kinds fields)) (λ kind a.
    bound AreShort HasShort (methods_in fields) _ (methods_short fields) (λ methods is.
    bound Anything HasShort (throttle_in fields) _ (any (throttle_in fields)) (λ throttle b. is)))

at_tree : (kinds : KindsSeen) (v : Tree) → IfOk (config_in_tree kinds v) HasShort
unfolding config_in_tree
at_tree kinds v = bound Anything HasShort (fields_at object.Config v) _ (any (fields_at object.Config v)) (λ fields a. config_short kinds fields)

reported_short : (r : Result Config Fault) → IfOk r HasShort → IfOk (reported_by r) HasShort
reported_short (Ok c) h = h
reported_short (Err f) h = tt

at_short : (kinds : KindsSeen) (r : Result Tree JsonFault) → IfOk (config_at kinds r) HasShort
at_short kinds (Ok v) = reported_short (config_in_tree kinds v) (at_tree kinds v)
at_short kinds (Err f) = tt

of_result : (r : Result Config ConfigFault) (c : Config) → r ≡ Ok c → IfOk r HasShort → AreShort c.methods
of_result r c e h = (let P : Result Config ConfigFault → Type 0 = λ r. IfOk r HasShort in subst P e h)

pub read_is_short : (kinds : KindsSeen) (text : List ℕ) (c : Config) → config_of kinds text ≡ Ok c → AreShort c.methods
read_is_short kinds text c e = of_result (config_of kinds text) c e (at_short kinds (reading text))

-- the choice for a path
choice_if : (p : Method → Bool) (m : Method) (methods : List Method) (b : Bool) → IsShort m.timeout → IfSome (find p methods) IsMethod → IfSome (if b then Some m else find p methods) IsMethod
choice_if p m methods true one rest = one
choice_if p m methods false one rest = rest

choice_in : (p : Method → Bool) (methods : List Method) → AreShort methods → IfSome (find p methods) IsMethod
choice_in p [] all = tt
choice_in p (m ∷ methods) all = choice_if p m methods (p m) all.0 (choice_in p methods all.1)

or_short : (a b : Option Method) → IfSome a IsMethod → IfSome b IsMethod → IfSome (option_or a b) IsMethod
or_short None b h k = k
or_short (Some m) b h k = h

one_short : (service method : List ℕ) (methods : List Method) → AreShort methods → IfSome (entry_of service method methods) IsMethod
one_short service method methods all = choice_in (λ m. bytes_eq m.service service && bytes_eq m.method method) methods all

choice_short : (methods : List Method) (names : Option (List ℕ × List ℕ)) → AreShort methods → IfSome (entry_for methods names) IsMethod
choice_short methods None all = one_short [] [] methods all
choice_short methods (Some n) all =
    or_short (entry_of n.0 n.1 methods) _ (one_short n.0 n.1 methods all) (or_short (entry_of n.0 [] methods) _ (one_short n.0 [] methods all) (one_short [] [] methods all))

taken_short : (throttle : Option Throttle) (o : Option Method) → IfSome o IsMethod → IsShort (taken throttle o).timeout
taken_short throttle None h = tt
taken_short throttle (Some m) h = h

pub chosen_is_short : (c : Config) (path : List ℕ) → AreShort c.methods → IsShort (chosen_for c path).timeout
chosen_is_short c path all = taken_short c.throttle (entry_for c.methods (names_of_path path)) (choice_short c.methods (names_of_path path) all)
