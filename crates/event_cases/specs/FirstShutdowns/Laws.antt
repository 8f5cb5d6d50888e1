-- A Shutdown of an open channel: first all its calls end, in both; and then its policies are retired and its subchannels are shut.
use Rattle.channel_actions.specs.Agrees.{Agrees}
use Rattle.channel_actions.specs.BoardActions.Boards.{IsBoarded}
use Rattle.channel_actions.specs.Quiescent.{IsAt}
use Rattle.channel_actions.specs.Cases.{answered_done}
use Rattle.channel_actions.specs.Columns.{links_noted}
use Rattle.call_cases.specs.EndsFollow.Laws.{is_late}
use Rattle.channel_actions.specs.KeptSessions.Kept.{IsKept}
use Rattle.channel_actions.specs.Stages.{EventsAnswered}
use Rattle.channel_actions.specs.TheirLinks.Theirs.{LinksAreTheirs}
use Rattle.event_cases.specs.FirstShutdowns.Cases.{IsFirstShutdown}
use Rattle.channel_core.specs.Applying.{all_closed, net_closed}
use Rattle.channel_core.specs.States.{StateSeen}
use Rattle.channel_net.specs.Steps.{net_shut}
use Rattle.net_actions.specs.Runs.{DoesAll, NoneIsToEnd}
use Rattle.net_actions.specs.Sees.{Sees}
use Rattle.session_actions.specs.CallEnds.{next_deadline}
use Rattle.session_actions.specs.Laws.{posted_in}
use Rattle.session_actions.specs.Policies.{result_of}
use Rattle.session_actions.specs.Sessions.{Does}
use Rattle.session_actions.specs.declared.action.Action.{Action}
use Rattle.session_actions.specs.declared.entry.OpenEntry.{OpenEntry}
use Rattle.session_actions.specs.declared.entry.Stage.TheVariants as stage
use Rattle.session_actions.specs.declared.seen.Seen.{Seen}
use Rattle.session_order.specs.Quiescent.{IsStill}
use Rattle.session_order.specs.declared.line.Line.{Line}
use Rattle.std.specs.Prelude.{List, None, Some, [], false, map, true, ◌≡◌}

-- the channel once it is shut down and its calls have ended
abbrev pub without_calls : StateSeen → StateSeen
without_calls x = all_closed (record x { shut = true })

-- all calls have ended, and nothing follows of calls and links; policies and subchannels are as before
pub record CallsAreOver (x : StateSeen) (o : OpenEntry) (s : Seen) : Type 0 where
  pub actions : List Action
  pub seen : Seen
  pub does : Does actions s seen
  pub posts : posted_in actions ≡ []
  pub current : seen.current ≡ Some (answered_done o)
  pub still : (l : Line) → is_late l ≡ false → IsStill l (answered_done o) seen
  pub over : NoneIsToEnd seen
  pub agrees : Agrees (without_calls x) seen
  pub shut : seen.shut ≡ true
  pub entries : seen.entries ≡ s.entries
  pub setup : seen.setup ≡ s.setup
  pub asks : seen.asks ≡ s.asks
  pub subs : seen.subs ≡ s.subs

abbrev pub ShutdownsEndCalls : Type 0
ShutdownsEndCalls =
    (x : StateSeen) (o : OpenEntry) (s : Seen) → Agrees x s → IsAt stage.Event o s → next_deadline s ≡ None → IsFirstShutdown o.event x s → CallsAreOver x o s

-- where policies are retired and subchannels are shut, the ledger has the same stamps of policies and of links that are gone
pub record StampsAreKept (x : StateSeen) (t : Seen) : Type 0 where
  pub generations : map (λ g. g.generation) t.policies ≡ (net_closed x).book.ledger.generations
  pub links : links_noted t ≡ (net_closed x).book.ledger.links

abbrev pub ShutsAreStamped : Type 0
ShutsAreStamped =
    (x : StateSeen) (o : OpenEntry) (s t : Seen) (actions : List Action) → Agrees x s → LinksAreTheirs s → s.shut ≡ true → s.current ≡ Some o → result_of o ≡ None
    → DoesAll actions o s t → t.current ≡ Some o → IsBoarded s t → IsKept t → t.links ≡ s.links → Sees t (net_shut x.net).net → StampsAreKept x t

-- so a Shutdown is answered as any other event
abbrev pub FirstShutdownsAreAnswered : Type 0
FirstShutdownsAreAnswered = EventsAnswered IsFirstShutdown
