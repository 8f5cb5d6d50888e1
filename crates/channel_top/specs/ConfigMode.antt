-- What the mode that reads a service config reads, and the text that it makes of it, by its status.
use Rattle.std.specs.Prelude.{◌≡◌, ◌<◌, ◌≤◌, ◌⊎◌, ℕ, ◌+◌, Option, List, ◌++◌, length, Ok, Err}
use Rattle.grpc_base.specs.Kinds.{KindsSeen}
use Rattle.grpc_base.specs.Limits.{config_limit}
use Rattle.grpc_base.specs.declared.event.ConfigFault.{ConfigFault}
use Rattle.grpc_base.specs.declared.event.ConfigFault.TheVariants as fault
use Rattle.grpc_base.specs.declared.event.JsonFault.TheVariants as json
use Rattle.gate_io.specs.Outside.{IsAtEnd, Rises, Takes}
use Rattle.service_config.specs.Reading.{config_of}
use Rattle.service_config.specs.Text.{config_text, fault_text}
use Rattle.service_config.specs.declared.config.Config.{Config}

-- how many bytes of a config are judged: one more than a config may have, so that the longest and those above it are distinguished
abbrev pub judged_bytes : ℕ
judged_bytes = config_limit + 1

-- a fault that the text has; want of memory is none
abbrev pub IsTextFault : ConfigFault → Type 0
IsTextFault f = (f ≡ fault.NoMemory → ⊥) × (f ≡ fault.Json json.NoMemory → ⊥)

-- status 0: the input was read to its end, and the text is that of its reading, where these kinds of policy are supported
pub record IsConfigDone (kinds : KindsSeen) (left left' : Option (List ℕ)) (text : List ℕ) : Type 0 where
  pub input : List ℕ
  pub config : Config
  pub read : Takes left left' input
  pub at_end : IsAtEnd left'
  pub reading : config_of kinds input ≡ Ok config
  pub text_is : text ≡ config_text config

-- an input has a fault: it is whole and has it, or every text that begins so has it
abbrev pub HasFault : KindsSeen → Option (List ℕ) → List ℕ → ConfigFault → Type 0
HasFault kinds left' input f =
    (IsAtEnd left' × (config_of kinds input ≡ Err f)) ⊎ ((rest : List ℕ) → config_of kinds (input ++ rest) ≡ Err f)

-- status 3: the text reports the first fault of the input, with its number and what it names
pub record ReportsConfigFault (kinds : KindsSeen) (left left' : Option (List ℕ)) (text : List ℕ) : Type 0 where
  pub input : List ℕ
  pub fault : ConfigFault
  pub read : Takes left left' input
  pub bounded : length input ≤ judged_bytes
  pub has : HasFault kinds left' input fault
  pub of_text : IsTextFault fault
  pub text_is : text ≡ fault_text fault

-- the output of the mode
abbrev pub IsConfigText : KindsSeen → Option (List ℕ) → Option (List ℕ) → List ℕ → Type 0
IsConfigText kinds left left' text = IsConfigDone kinds left left' text ⊎ ReportsConfigFault kinds left left' text

-- status 4: a read failed before the input's end, where no more bytes had come than a config may have; nothing was written
pub record StopsInConfig (left left' taken taken' : Option (List ℕ)) (faults faults' : ℕ) : Type 0 where
  pub input : List ℕ
  pub read : Takes left left' input
  pub short : length input < judged_bytes
  pub failed : Rises faults faults'
  pub written : taken' ≡ taken
