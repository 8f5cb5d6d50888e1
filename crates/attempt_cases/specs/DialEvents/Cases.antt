-- What the environment reports of dials.
-- Example: the dial of subchannel 2 was taken. DialFailed 2 and LinkUp 2 are of a dial that is under way; a second DialFailed 2 is not, and is refused.
use Rattle.std.specs.Prelude.{None, Some, length, ℕ, ◌<◌, ◌≡◌}
use Rattle.channel_core.specs.Applying as channel
use Rattle.channel_core.specs.States.{StateSeen}
use Rattle.channel_net.specs.Steps.{dial_refusal}
use Rattle.grpc_base.specs.declared.event.Event.{Event}
use Rattle.grpc_base.specs.declared.event.Event.TheVariants as event
use Rattle.net_actions.specs.Laws.{DialCountsFit}
use Rattle.session_actions.specs.declared.seen.Seen.{Seen}
use Rattle.subchannel.specs.Boards.{first_number, numbered}
use Rattle.subchannel.specs.Records.{is_dialable}

-- a dial is asked for, and there is one to be made. (Each subchannel was dialled fewer than 2^32 - 1 times since it was last READY.)
pub record IsTakenDial (e : Event) (x : StateSeen) (s : Seen) : Type 0 where
  pub sub : ℕ
  pub event_is : e ≡ event.TakeDial
  pub kept : channel.refusal_of e x ≡ None
  pub first : first_number is_dialable x.net.board ≡ Some sub
  pub few : DialCountsFit s.subs

-- a dial that is under way fails
pub record IsFailedDial (e : Event) (x : StateSeen) (s : Seen) : Type 0 where
  pub sub : ℕ
  pub event_is : e ≡ event.DialFailed sub
  pub kept : channel.refusal_of e x ≡ None
  pub dial : dial_refusal (numbered x.net.board sub) ≡ None

-- a dial that is under way is up. (Fewer than 2^32 - 1 links came up.)
pub record IsNewLink (e : Event) (x : StateSeen) (s : Seen) : Type 0 where
  pub sub : ℕ
  pub event_is : e ≡ event.LinkUp sub
  pub kept : channel.refusal_of e x ≡ None
  pub dial : dial_refusal (numbered x.net.board sub) ≡ None
  pub few : length s.links < 4294967295
