-- Events on links, with what is known of a run where they begin.
-- Example: link 1 is up, and no entry said that it is gone; bytes come on it that are no whole frame yet.
use Rattle.channel_actions.specs.Known.{IsKnown}
use Rattle.channel_actions.specs.Stages.{EventsAnswered}
use Rattle.end_cases.specs.AttemptEnds.Laws.{OneAttemptEnds}
use Rattle.channel_core.specs.Applying as channel
use Rattle.channel_core.specs.States.{StateSeen}
use Rattle.grpc_base.specs.declared.event.Event.TheVariants as event
use Rattle.grpc_base.specs.declared.event.Event.{Event}
use Rattle.session_actions.specs.declared.seen.Seen.{Seen}
use Rattle.std.specs.Prelude.{List, None, ℕ, ◌≡◌}

-- Bytes come on a link that is not gone
pub record IsArrival (e : Event) (x : StateSeen) (s : Seen) : Type 0 where
  pub link : ℕ
  pub piece : List ℕ
  pub event_is : e ≡ event.Arrived link piece
  pub kept : channel.refusal_of e x ≡ None
  pub known : IsKnown x s

-- a link that is not gone is lost
pub record IsLoss (e : Event) (x : StateSeen) (s : Seen) : Type 0 where
  pub link : ℕ
  pub event_is : e ≡ event.LinkLost link
  pub kept : channel.refusal_of e x ≡ None
  pub known : IsKnown x s

abbrev pub KnownLossesAreAnswered : Type 0
KnownLossesAreAnswered = OneAttemptEnds → EventsAnswered IsLoss
