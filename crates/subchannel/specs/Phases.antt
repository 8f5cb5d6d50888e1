-- What a phase shows of a subchannel.
use Rattle.std.specs.Prelude.{ℕ, Bool, true, false, Option, Some, None}
use Rattle.grpc_base.specs.declared.event.Conn.{Conn}
use Rattle.grpc_base.specs.declared.event.Conn.TheVariants as conn
use Rattle.subchannel.specs.declared.phase.Phase.{Phase}
use Rattle.subchannel.specs.declared.phase.Phase.TheVariants as phase

abbrev pub state_of : Phase → Conn
state_of phase.Idle = conn.Idle
state_of phase.Waiting = conn.Connecting
state_of (phase.Dialing again until) = conn.Connecting
state_of (phase.AwaitingPreface again until) = conn.Connecting
state_of phase.Ready = conn.Ready
state_of (phase.Failure again) = conn.Failure
state_of phase.Shutdown = conn.Shutdown

abbrev pub again_of : Phase → Option ℕ
again_of (phase.Dialing again until) = Some again
again_of (phase.AwaitingPreface again until) = Some again
again_of (phase.Failure again) = Some again
again_of _ = None

abbrev pub until_of : Phase → Option ℕ
until_of (phase.Dialing again until) = Some until
until_of (phase.AwaitingPreface again until) = Some until
until_of _ = None

abbrev pub linked_of : Phase → Bool
linked_of (phase.AwaitingPreface again until) = true
linked_of phase.Ready = true
linked_of _ = false
