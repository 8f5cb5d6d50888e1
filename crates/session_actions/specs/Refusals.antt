-- Refusals: an event that names what is not there, or that comes too late, has no effect of its own. It makes an entry all the same, in which
-- deadlines end calls and what is due is done. The first refusal that stands is given, judged after the deadlines of the entry. They are the
-- channel's own; that a link after GOAWAY still carries its open streams is RFC 9113, section 6.8.
-- Example: where call 1 is finished, a Send of it is refused with AfterFinish, and with CallEnded once it has ended. Where there is no call 9, a Send
-- of call 9 is refused with NoSuchCall; and after a Shutdown all three with Shut.
use Rattle.std.specs.List.{list_any}
use Rattle.std.specs.Prelude.{Bool, None, Option, Some, if◌then◌else◌, is_some, nat_lt, not, ℕ, ◌&&◌, ◌||◌}
use Rattle.grpc_base.specs.declared.event.Event.{Event}
use Rattle.grpc_base.specs.declared.event.Refusal.{Refusal}
use Rattle.session_actions.specs.Links.{is_retiring}
use Rattle.session_actions.specs.Policies.{is_shutdown}
use Rattle.session_actions.specs.Reading.{is_outstanding_on}
use Rattle.session_actions.specs.Subchannels.{is_dialling}
use Rattle.session_actions.specs.Words.{holds, numbered}
use Rattle.session_actions.specs.declared.call.Call.{Call}
use Rattle.session_actions.specs.declared.link.Link.{Link}
use Rattle.session_actions.specs.declared.seen.Seen.{Seen}
use Rattle.session_actions.specs.declared.subchannel.Subchannel.{Subchannel}
use Rattle.grpc_base.specs.declared.event.Event.TheVariants as event
use Rattle.grpc_base.specs.declared.event.Refusal.TheVariants as refusal

-- a link is gone: it is over; or it takes no further stream, or its subchannel is shut down, and no attempt is outstanding on it. It stays so, since
-- its subchannel no longer has it, and no further attempt is placed on it
abbrev pub is_shutdown_sub : Seen → ℕ → Bool
is_shutdown_sub s sub = holds (λ b. is_shutdown b.state) (numbered s.subs sub)

abbrev pub is_gone : Link → Seen → Bool
is_gone l s =
    is_some l.over
    || ((is_retiring l || is_shutdown_sub s l.sub) && not (list_any (is_outstanding_on l) s.attempts))

abbrev pub refused_if : Bool → Refusal → Option Refusal → Option Refusal
refused_if stands why others = if stands then Some why else others

-- of a call that is to send something; that is to be cancelled; of which something is taken
abbrev pub send_refusal : Option Call → Option Refusal
send_refusal None = Some refusal.NoSuchCall
send_refusal (Some c) = refused_if (is_some c.end) refusal.CallEnded (refused_if c.finished refusal.AfterFinish None)

abbrev pub cancel_refusal : Option Call → Option Refusal
cancel_refusal None = Some refusal.NoSuchCall
cancel_refusal (Some c) = refused_if (is_some c.end) refusal.CallEnded None

abbrev pub take_refusal : Option Call → Option Refusal
take_refusal None = Some refusal.NoSuchCall
take_refusal (Some c) = refused_if c.end_taken refusal.CallEnded None

abbrev pub dial_refusal : Option Subchannel → Option Refusal
dial_refusal None = Some refusal.NoSuchSub
dial_refusal (Some b) = refused_if (not (is_dialling b)) refusal.NotDialing None

abbrev pub link_refusal : Seen → Option Link → Option Refusal → Option Refusal
link_refusal s None others = Some refusal.NoSuchLink
link_refusal s (Some l) others = refused_if (is_gone l s) refusal.LinkGone others

-- what an event is refused for while the channel is open
abbrev pub refusal_when_open : Event → Seen → Option Refusal
refusal_when_open (event.Send call message) s = send_refusal (numbered s.calls call)
refusal_when_open (event.Finish call) s = send_refusal (numbered s.calls call)
refusal_when_open (event.Cancel call) s = cancel_refusal (numbered s.calls call)
refusal_when_open (event.LinkUp sub) s = dial_refusal (numbered s.subs sub)
refusal_when_open (event.DialFailed sub) s = dial_refusal (numbered s.subs sub)
refusal_when_open (event.Arrived link piece) s = link_refusal s (numbered s.links link) None
refusal_when_open (event.LinkLost link) s = link_refusal s (numbered s.links link) None
refusal_when_open (event.Drain link most) s =
    link_refusal s (numbered s.links link) (refused_if (nat_lt most 16393) refusal.RoomTooSmall None)
refusal_when_open (event.Ping link word) s = link_refusal s (numbered s.links link) None
refusal_when_open _ s = None

-- a channel that was shut down refuses all but Take, Tick and Shutdown
abbrev pub refusal_of : Event → Seen → Option Refusal
refusal_of (event.Take call) s = take_refusal (numbered s.calls call)
refusal_of event.Tick s = None
refusal_of event.Shutdown s = None
refusal_of e s = refused_if s.shut refusal.Shut (refusal_when_open e s)
