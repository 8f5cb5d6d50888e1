-- The end of one call without an attempt, as the steps of configs ask for it: a premise here. (It is a case of the end of any call.)
-- Example: call 1 waits for a config, the resolution fails, and CallEnds 1 is next. After it nothing follows at once, and channel and session agree, with call 1
-- ended in both.
use Rattle.std.specs.Prelude.{List, Some, [], ◌∷◌, ◌≡◌, ℕ}
use Rattle.call_actions.specs.Laws.{IsUnconfigured}
use Rattle.channel_actions.specs.Agrees.{Agrees}
use Rattle.channel_core.specs.States.{StateSeen}
use Rattle.channel_core.specs.Steps.{closed}
use Rattle.grpc_base.specs.declared.event.EndCause.{EndCause}
use Rattle.channel_actions.specs.KeptCalls.Early.{IsEarlyKept}
use Rattle.session_actions.specs.Actions.{following}
use Rattle.session_actions.specs.Laws.{posted_in}
use Rattle.session_actions.specs.Sessions.{Does}
use Rattle.session_actions.specs.Words.{numbered}
use Rattle.session_actions.specs.declared.action.Action.{Action}
use Rattle.session_actions.specs.declared.action.Action.TheVariants as action
use Rattle.session_actions.specs.declared.call.Call.{Call}
use Rattle.session_actions.specs.declared.entry.OpenEntry.{OpenEntry}
use Rattle.session_actions.specs.declared.seen.Seen.{Seen}
use Rattle.session_order.specs.Quiescent.{IsQuiescent}

-- its end is next, and nothing follows at once
pub record EndsWithoutAttemptsNext (number : ℕ) (why : EndCause) (x : StateSeen) (o : OpenEntry) (s : Seen) : Type 0 where
  pub current : s.current ≡ Some o
  pub agrees : Agrees x s
  pub early : IsEarlyKept s
  pub call : Call
  pub there : numbered s.calls number ≡ Some call
  pub awaiting_config : IsUnconfigured s call
  pub quiescent : IsQuiescent o s
  pub next : following s ≡ Some (action.CallEnds number why)

-- it has ended, in the same entry, and nothing follows at once
pub record HasEndedWithoutAttempts (number : ℕ) (why : EndCause) (x : StateSeen) (o : OpenEntry) (s : Seen) : Type 0 where
  pub actions : List Action
  pub seen : Seen
  pub does : Does (action.CallEnds number why ∷ actions) s seen
  pub posts : posted_in actions ≡ []
  pub entries : seen.entries ≡ s.entries
  pub setup : seen.setup ≡ s.setup
  pub current : seen.current ≡ Some o
  pub quiescent : IsQuiescent o seen
  pub agrees : Agrees (closed why number x) seen

abbrev pub CallsWithoutAttemptsEnd : Type 0
CallsWithoutAttemptsEnd =
    (number : ℕ) (why : EndCause) (x : StateSeen) (o : OpenEntry) (s : Seen) → EndsWithoutAttemptsNext number why x o s → HasEndedWithoutAttempts number why x o s
