-- An application begins a call on a channel that is open. The call gets the next number; it has no config and no attempt yet, and waits for its config. Nothing
-- else changes: neither another call, nor a link, a subchannel or a policy ("Service Config in gRPC": a call is sent once its config is known).
-- Example: there are two calls. A Begin with a timeout of 5 s at 7 s is answered with call 3, whose deadline is 12 s; in the session that is CallBegins.
use Rattle.std.specs.Prelude.{None, ◌≡◌}
use Rattle.channel_core.specs.Applying as channel
use Rattle.channel_core.specs.States.{StateSeen}
use Rattle.grpc_base.specs.Requests.{RequestSeen}
use Rattle.grpc_base.specs.declared.event.Event.TheVariants as event
use Rattle.grpc_base.specs.declared.event.Event.{Event}
use Rattle.session_actions.specs.declared.seen.Seen.{Seen}

-- an application begins a call, and the channel is not shut down
pub record IsBegin (e : Event) (x : StateSeen) (s : Seen) : Type 0 where
  pub request : RequestSeen
  pub event_is : e ≡ event.Begin request
  pub kept : channel.refusal_of e x ≡ None
