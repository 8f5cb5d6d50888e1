-- The headline: every run of a channel is a session. It is put together here from what each stage of an entry asks (`Stages`).
-- Example: a new channel is given one Tick. Its journal has one entry with reply Done and state IDLE, and its ledger is empty. The actions are EntryOpens,
-- EventAnswered, SettlingBegins, EntryCloses.
use Rattle.std.specs.Prelude.{List, [], length, nat_le, nat_lt, true, ◌&&◌, ◌++◌, ◌+◌, ◌∷◌, ◌≡◌, Bool}
use Rattle.std.specs.Global.{Global}
use Rattle.channel_actions.specs.Cases.{DoesSomething, HasDue, HasOverdue, IsIdle, IsInTime, IsNoDial, IsPing, IsRefused, IsRefusedDial, IsTick, IsUnresolved}
use Rattle.channel_actions.specs.HeldTexts.Fits.{TextsFit}
use Rattle.channel_actions.specs.Known.{IsKnown}
use Rattle.channel_actions.specs.Points.{AtRest}
use Rattle.channel_actions.specs.Posted.{EventsArePosted, IsPosted}
use Rattle.channel_actions.specs.Stages.{DeadlinesOf, EventsAnswered, SettlingsOf}
use Rattle.channel_core.specs.Applying.{new_state}
use Rattle.channel_core.specs.Core.{CoreSeen, IsNewBy, Runs, ledger_in}
use Rattle.grpc_base.specs.Posts.{event_bytes}
use Rattle.grpc_base.specs.declared.event.Entry.{Entry}
use Rattle.grpc_base.specs.declared.event.Event.{Event}
use Rattle.grpc_base.specs.declared.event.Stamped.{Stamped}
use Rattle.lb_policy.specs.Table.{PolicySeen}
use Rattle.net_actions.specs.Sees.{KindsAgree}
use Rattle.policy_rack.specs.Kinds.{are_ready}
use Rattle.session_actions.specs.Entries.{journal_bytes}
use Rattle.session_actions.specs.Laws.{posted_in}
use Rattle.session_actions.specs.Sessions.{IsConsistent, new_session}
use Rattle.session_actions.specs.declared.seen.Setup.{Setup}

-- each entry of a journal was made where there was room for its event. (A channel refuses an event for which there is none, and changes nothing.)
abbrev pub is_room : List Entry → Event → Bool
is_room before e = nat_lt (length before) 1048576 && nat_le (journal_bytes before + event_bytes e) 268435456

abbrev pub HadRoom : List Entry → List Entry → Type 0
HadRoom before [] = Unit {0}
HadRoom before (e ∷ entries) = (is_room before e.event ≡ true) × HadRoom (before ++ e ∷ []) entries

-- a new channel agrees with a new session of its authority and its policies
abbrev pub NewChannelsAgree : Type 0
NewChannelsAgree =
    (setup : Setup) (policies : List PolicySeen) (alloc : Global) → KindsAgree setup.policies policies → are_ready policies ≡ true
    → AtRest (new_state alloc setup.authority policies) (new_session setup)

-- its journal and its ledger are those of a session of the same events
pub record IsSession (setup : Setup) (events : List Stamped) (core : CoreSeen) : Type 0 where
  pub consistent : IsConsistent setup core.journal.entries (ledger_in core)
  pub posted : posted_in consistent.actions ≡ events

abbrev pub EveryRunIsASession : Type 0
EveryRunIsASession =
    (setup : Setup) (policies : List PolicySeen) (alloc : Global) (events : List Stamped) (new core : CoreSeen) → KindsAgree setup.policies policies → are_ready policies ≡ true
    → IsNewBy alloc setup.authority policies new → EventsArePosted events → Runs new events core → HadRoom [] core.journal.entries
    → IsSession setup events core

-- (the premises are what is left of the stages, where all is known that runs keep; the rest of each is proved below)
abbrev pub RunsAreSessions : Type 0
RunsAreSessions =
    DeadlinesOf (λ x s. HasOverdue x s × IsKnown x s) → EventsAnswered (λ e x s. DoesSomething e x s × IsPosted e × IsKnown x s)
    → SettlingsOf (λ x s. HasDue x s × TextsFit x s × IsKnown x s) → EveryRunIsASession

-- What is proved of the stages, case by case.
-- Events: what the channel refuses before it looks at a call or a subchannel; a Tick; a resolution that failed; a dial where none is to be made, and dials
-- that are refused. Deadlines: none has come. Settlings: nothing is due
abbrev pub RefusalsAreAnswered : Type 0
RefusalsAreAnswered = EventsAnswered IsRefused

abbrev pub TicksAreAnswered : Type 0
TicksAreAnswered = EventsAnswered IsTick

abbrev pub FailedResolutionsAreAnswered : Type 0
FailedResolutionsAreAnswered = EventsAnswered IsUnresolved

abbrev pub NoDialsAreAnswered : Type 0
NoDialsAreAnswered = EventsAnswered IsNoDial

abbrev pub RefusedDialsAreAnswered : Type 0
RefusedDialsAreAnswered = EventsAnswered IsRefusedDial

-- a PING is queued
abbrev pub PingsAreQueued : Type 0
PingsAreQueued = EventsAnswered IsPing

abbrev pub DeadlinesAreAhead : Type 0
DeadlinesAreAhead = DeadlinesOf IsInTime

abbrev pub NothingIsDue : Type 0
NothingIsDue = SettlingsOf IsIdle
