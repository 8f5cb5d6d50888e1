-- Nobody has to believe these steps: what is done to a call, and what is answered.
use Rattle.std.specs.Prelude.{ℕ, Option, List, [], ◌∷◌}
use Rattle.grpc_base.specs.declared.event.Reply.{Reply}
use Rattle.grpc_base.specs.declared.event.Reply.TheVariants as reply
use Rattle.call_core.specs.declared.state.CallState.{CallState}
use Rattle.call_core.specs.Steps as step
use Rattle.call_core.specs.Steps.{Stepped, cancel_reply, send_reply}
use Rattle.channel_core.specs.declared.state.call_event.CallEvent.{CallEvent}
use Rattle.channel_core.specs.declared.state.call_event.CallEvent.TheVariants as event
use Rattle.channel_core.specs.declared.state.slots.CallSlot.{CallSlot}
use Rattle.channel_core.specs.States.{StateSeen}
use Rattle.channel_core.specs.Steps.{call_asked, sealed}
use Rattle.channel_core.specs.Tables.{cancel_reply_of, send_reply_of}
use Rattle.channel_core.specs.Timing.{number_of}

abbrev pub step_by : CallEvent → ℕ → Stepped → Stepped
step_by (event.Send message) moment = step.sent message moment
step_by event.Cancel moment = step.cancelled moment
step_by (event.Close why) moment = step.closed_by why moment
step_by event.Deadline moment = step.timed_out moment
step_by event.Due moment = step.made_due moment

-- what a call answers, and what its number does
abbrev pub asks : CallEvent → CallState → Reply
asks (event.Send message) call = send_reply message call
asks event.Cancel call = cancel_reply call
asks (event.Close why) call = reply.Done
asks event.Deadline call = reply.Done
asks event.Due call = reply.Done

abbrev pub reply_by : CallEvent → Option CallSlot → Reply
reply_by (event.Send message) slot = send_reply_of message slot
reply_by event.Cancel slot = cancel_reply_of slot
reply_by (event.Close why) slot = reply.Done
reply_by event.Deadline slot = reply.Done
reply_by event.Due slot = reply.Done

-- it is done to a call, and to each of some
abbrev pub acted_by : CallEvent → ℕ → StateSeen → StateSeen
acted_by e number s = sealed (call_asked (step_by e s.book.moment) number s)

abbrev pub all_acted_by : CallEvent → List ℕ → StateSeen → StateSeen
all_acted_by e [] s = s
all_acted_by e (key ∷ calls) s = all_acted_by e calls (acted_by e (number_of key) s)
