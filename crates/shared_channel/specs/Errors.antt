-- The error of a post, by that of its step.
use Rattle.grpc_base.specs.declared.post.PostError.{PostError}
use Rattle.grpc_base.specs.declared.post.PostError.TheVariants as failed
use Rattle.channel_core.specs.declared.channel.CoreError.{CoreError}
use Rattle.channel_core.specs.declared.channel.CoreError.TheVariants as faults
use Rattle.shared_channel.specs.Histories.{IsNearlyFullAt}

abbrev pub error_of : CoreError → PostError
error_of (faults.NoMemory spent) = failed.NoMemory spent
error_of (faults.SessionFull entries octets) = failed.SessionFull entries octets

-- the step found a history that is nearly full
abbrev pub FindsNearlyFull : CoreError → Type 0
FindsNearlyFull (faults.NoMemory spent) = ⊥
FindsNearlyFull (faults.SessionFull entries octets) = IsNearlyFullAt entries octets
