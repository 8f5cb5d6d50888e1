-- How the reading of an input stopped.
use Rattle.std.specs.Prelude.{◌≡◌, ◌<◌, ℕ, Option, List}
use Rattle.gate_io.specs.Outside.{IsAtEnd, Rises}
use Rattle.channel_top.specs.declared.input.Ending.{Ending}
use Rattle.channel_top.specs.declared.input.Ending.TheVariants as ending

-- at the input's end, at the limit of so many bytes, or at a read that failed before both
abbrev pub EndsSo : ℕ → Ending → Option (List ℕ) → ℕ → ℕ → ℕ → Type 0
EndsSo limit ending.End left count faults faults' = IsAtEnd left × (count < limit)
EndsSo limit ending.Limit left count faults faults' = count ≡ limit
EndsSo limit ending.Failed left count faults faults' = Rises faults faults' × (count < limit)
