-- What the reading of a script took from its source, by its answer.
use Rattle.std.specs.Prelude.{◌⊎◌, ℕ, Option, List, [], ◌++◌}
use Rattle.grpc_base.specs.declared.event.Stamped.{Stamped}
use Rattle.gate_io.specs.Outside.{IsAtEnd, Rises, Takes}
use Rattle.resolver_core.specs.declared.any_target.Target.{Target}
use Rattle.script_input.specs.declared.form.Form.{Form}
use Rattle.script_input.specs.declared.fault.InputFault.{InputFault}
use Rattle.script_input.specs.declared.fault.InputFault.TheVariants as fault
use Rattle.script_input.specs.Scripts.{IsFirstBad, IsPrefix, IsOnlyScript, IsScript}

-- a script, or the report that holds it, with nothing left over it, and the only one that its bytes spell
pub record ReadsScript (f : Form) (left left' : Option (List ℕ)) (target : List ℕ) (value : Target) (events : List Stamped) : Type 0 where
  pub input : List ℕ
  pub read : Takes left left' input
  pub at_end : IsAtEnd left'
  pub script : IsScript f input target value events
  pub only : IsOnlyScript f input target value events

-- the first bad line of the bytes that were read: they are all that there are, or that line stays the first bad one whatever follows
pub record FindsBad (f : Form) (left left' : Option (List ℕ)) (n cause : ℕ) : Type 0 where
  pub input : List ℕ
  pub read : Takes left left' input
  pub bad : (IsAtEnd left' × IsFirstBad f input n cause) ⊎ ((more : List ℕ) → IsFirstBad f (input ++ more) n cause)

-- a read failed after good lines and the prefix of another
pub record StopsReading (f : Form) (left left' : Option (List ℕ)) (faults faults' : ℕ) : Type 0 where
  pub input : List ℕ
  pub read : Takes left left' input
  pub failed : Rises faults faults'
  pub prefix : IsPrefix f input

-- why the reading of a source gave no script
abbrev pub GivesNone : Form → Option (List ℕ) → Option (List ℕ) → ℕ → ℕ → InputFault → Type 0
GivesNone f left left' faults faults' fault.Empty = Takes left left' [] × IsAtEnd left'
GivesNone f left left' faults faults' (fault.BadLine n cause) = FindsBad f left left' n cause
GivesNone f left left' faults faults' fault.ReadFailed = StopsReading f left left' faults faults'
GivesNone f left left' faults faults' fault.NoMemory = Unit {0}
