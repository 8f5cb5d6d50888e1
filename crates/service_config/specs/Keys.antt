-- The keys of names, by which a name is found among those before.
use Rattle.std.specs.Prelude.{◌≡◌, ℕ, List, Vec}
use Rattle.std.specs.Global.{Global}
use Rattle.std.specs.List.{list_any}
use Rattle.std.specs.Str.{bytes_eq}
use Rattle.service_config.specs.declared.config.Method.{Method}
use Rattle.service_config.specs.Entries.{key_from, has_name}

-- the keys are those of the methods' names
abbrev pub HasKeys : List (Vec ℕ Global) → List Method → Type 0
HasKeys keys ms = (s m : List ℕ) → list_any (λ k. bytes_eq (key_from s m) k.items) keys ≡ has_name (s, m) ms
