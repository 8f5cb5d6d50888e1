-- The attempts of a link that is lost, between two of their ends: nothing else follows at once, and channel and session agree. The channel stamps a link as gone where
-- an attempt on it ends, and once more where none is left; the session when the entry closes.
-- Example: link 1 is lost, with the attempts 2 and 5 on it. Before attempt 2 ends, and before attempt 5 does, all agrees with the channel as it is once link 1 is
-- stamped.
use Rattle.std.specs.List.{AllByRecursion}
use Rattle.std.specs.Prelude.{List, None, Some, [], false, length, true, ℕ, ◌<◌, ◌≡◌}
use Rattle.channel_actions.specs.Agrees.{Agrees}
use Rattle.call_cases.specs.EndsFollow.Cuts.{NoStreamIsToReset}
use Rattle.channel_actions.specs.GoingCalls.Going.{CallsGoOn}
use Rattle.channel_actions.specs.PrefacedLinks.Prefaced.{LinksArePrefaced}
use Rattle.channel_actions.specs.Known.{IsKnown}
use Rattle.channel_actions.specs.OwnStreams.Own.{StreamsAreOwn}
use Rattle.channel_actions.specs.Points.{IsSameEntry}
use Rattle.end_cases.specs.AttemptEnds.Ends.{AreHeld}
use Rattle.end_cases.specs.AttemptEnds.Runs.{RunsRise}
use Rattle.channel_core.specs.Applying as channel
use Rattle.channel_core.specs.Arrivals.{most_rows, rows_lost}
use Rattle.channel_core.specs.States.{StateSeen}
use Rattle.channel_core.specs.Steps.{stamped_gone}
use Rattle.grpc_base.specs.declared.event.Event.{Event}
use Rattle.grpc_base.specs.declared.event.Event.TheVariants as event
use Rattle.link_actions.specs.LossActions.Laws.{IsQuiet}
use Rattle.link_actions.specs.LossActions.Sees.{SeesOver}
use Rattle.session_actions.specs.Laws.{posted_in}
use Rattle.session_actions.specs.Sessions.{Does}
use Rattle.session_actions.specs.declared.action.Action.{Action}
use Rattle.session_actions.specs.declared.entry.OpenEntry.{OpenEntry}
use Rattle.session_actions.specs.declared.entry.Stage.TheVariants as stage
use Rattle.session_actions.specs.declared.link.Link.{Link}
use Rattle.session_actions.specs.declared.seen.Seen.{Seen}
use Rattle.session_order.specs.Quiescent.{IsStill}
use Rattle.session_order.specs.Lines.{is_line}
use Rattle.session_order.specs.declared.line.Line.{Line}
use Rattle.session_order.specs.declared.line.Line.TheVariants as line

-- the link is over, the responses of its attempts go on, and nothing but the loss ends an attempt
pub record LossGoesOn (l : Link) (x : StateSeen) (o : OpenEntry) (s : Seen) : Type 0 where
  pub current : s.current ≡ Some o
  pub event_is : o.event ≡ event.LinkLost l.number
  pub stage_is : o.stage ≡ stage.Replied
  pub still : (m : Line) → is_line m line.WireEnd ≡ false → IsStill m o s
  pub over : SeesOver l s
  pub quiet : AllByRecursion (IsQuiet l s) s.attempts
  pub agrees : Agrees (stamped_gone l.number x) s
  pub unreset : NoStreamIsToReset s
  -- attempts are only on links with SETTINGS, and no two of a link have one stream
  pub prefaced : LinksArePrefaced s
  pub streams : StreamsAreOwn s
  pub rising : RunsRise s
  -- of the channel alone (`going_calls`), and what its buffers hold
  pub going : CallsGoOn x
  pub held : AreHeld x

-- once all of them have ended nothing follows at once, and all agrees
pub record HasLost (link : ℕ) (x : StateSeen) (o : OpenEntry) (s : Seen) : Type 0 where
  pub actions : List Action
  pub seen : Seen
  pub entry : OpenEntry
  pub does : Does actions s seen
  pub posts : posted_in actions ≡ []
  pub same : IsSameEntry o s entry seen
  pub stage_is : entry.stage ≡ stage.Replied
  pub reply : entry.reply ≡ o.reply
  pub turn : entry.turn ≡ o.turn
  pub current : seen.current ≡ Some entry
  pub quiescent : (m : Line) → IsStill m entry seen
  pub agrees : Agrees (stamped_gone link (rows_lost most_rows link true 0 x)) seen

-- the environment loses a link that is not gone. (Fewer than 2^64 - 1 attempts were made.)
pub record IsLostLink (e : Event) (x : StateSeen) (s : Seen) : Type 0 where
  pub link : ℕ
  pub event_is : e ≡ event.LinkLost link
  pub kept : channel.refusal_of e x ≡ None
  pub known : IsKnown x s
  pub rising : RunsRise s
  pub held : AreHeld x
  pub few : length s.attempts < 18446744073709551615
