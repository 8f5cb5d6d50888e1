-- Every Send of a call that is there is answered alike, where calls that are to end, and calls that are to be committed, go on alike in channel and session.
-- Example: a message that is too long ends its call, one for which there is no room else commits it, and the others do neither: they are accepted, or answered with
-- what the call holds, or refused.
use Rattle.std.specs.Prelude.{List, None, Some, [], ℕ, ◌∷◌, ◌≡◌}
use Rattle.channel_actions.specs.Agrees.{Agrees}
use Rattle.channel_actions.specs.Quiescent.{IsQuiescent}
use Rattle.channel_actions.specs.Stages.{EventsAnswered}
use Rattle.channel_core.specs.Applying as channel
use Rattle.channel_core.specs.States.{StateSeen}
use Rattle.channel_core.specs.Steps.{call_asked, sealed}
use Rattle.call_cases.specs.FullSends.Laws.{LeadsToCommit, commits}
use Rattle.grpc_base.specs.declared.event.Event.{Event}
use Rattle.grpc_base.specs.declared.event.Event.TheVariants as event
use Rattle.grpc_base.specs.declared.event.Reply.{Reply}
use Rattle.call_cases.specs.LongSends.Laws.{NoStreamIsReset, CallsEndAlike}
use Rattle.session_actions.specs.Laws.{posted_in}
use Rattle.session_actions.specs.Sessions.{Does}
use Rattle.session_actions.specs.declared.action.Action.{Action}
use Rattle.session_actions.specs.declared.action.Action.TheVariants as action
use Rattle.session_actions.specs.declared.action.CommitCause.{CommitCause}
use Rattle.session_actions.specs.declared.entry.OpenEntry.{OpenEntry}
use Rattle.session_actions.specs.declared.seen.Seen.{Seen}

-- a call of a number is committed to the attempt of a row, whose commitment was next: nothing follows from it any more, and channel and session agree
pub record CommitsAlike (number row : ℕ) (why : CommitCause) (x : StateSeen) (o : OpenEntry) (s : Seen) : Type 0 where
  pub actions : List Action
  pub seen : Seen
  pub does : Does (action.CallCommitted row why ∷ actions) s seen
  pub posts : posted_in actions ≡ []
  pub entries : seen.entries ≡ s.entries
  pub setup : seen.setup ≡ s.setup
  pub current : seen.current ≡ Some o
  pub quiescent : IsQuiescent o seen
  pub agrees : Agrees (sealed (call_asked (commits row x.book.moment) number x)) seen

abbrev pub CallsCommitAlike : Type 0
CallsCommitAlike =
    (number : ℕ) (why : CommitCause) (x y : StateSeen) (r : Reply) (o : OpenEntry) (s : Seen) → NoStreamIsReset s → (led : LeadsToCommit number why x y r o s)
    → CommitsAlike number led.attempt.place why led.between led.entry led.seen

-- any Send of a call that is there, while the channel is open; no stream was reset of an attempt that goes on
pub record IsSend (e : Event) (x : StateSeen) (s : Seen) : Type 0 where
  pub call : ℕ
  pub message : List ℕ
  pub event_is : e ≡ event.Send call message
  pub kept : channel.refusal_of e x ≡ None
  pub unreset : NoStreamIsReset s

abbrev pub SendsAreAllAnswered : Type 0
SendsAreAllAnswered = CallsEndAlike → CallsCommitAlike → EventsAnswered IsSend
