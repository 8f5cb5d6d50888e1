-- Whether a call waits for a ready subchannel ("gRPC Wait for Ready Semantics"), as texts write it.
use Rattle.std.specs.Prelude.{Bool, true, false, Option, Some, None, List, ℕ, codes}

-- what is not said is a dash
abbrev pub wait_text : Option Bool → List ℕ
wait_text None = codes "-"
wait_text (Some true) = codes "yes"
wait_text (Some false) = codes "no"
