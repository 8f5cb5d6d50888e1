-- The attempts of a round, call by call (gRFC A6, "Retry Policy", "Hedging Policy"). One that is due is made, and channel and session agree after it; or its hedge
-- is withheld; and the attempts of a round are these.
-- Example: the calls 1 and 2 got their configs in this settling. AttemptMade of call 1, and then of call 2; each waits for a pick.
-- The laws, in the order of this file:
-- 1. One attempt is made: what channel and session are after it.
-- 2. What is asked of one call that is due (`OneMakes`), and of a round (`RoundsMake`). It is so of a call whose attempt is made (`OneIsMade`),
--    and of one whose hedge is withheld while others go on (`OneIsWithheld`); what is left is `LastIsWithheld`.
use Rattle.std.specs.Prelude.{Bool, None, Some, false, true, ℕ, ◌≡◌}
use Rattle.attempt_ledger.specs.declared.row.RowKind.{RowKind}
use Rattle.channel_actions.specs.Agrees.{Agrees}
use Rattle.channel_actions.specs.Calls.{HasSlot}
use Rattle.channel_actions.specs.Quiescent.{IsAt}
use Rattle.channel_core.specs.States.{StateSeen}
use Rattle.channel_core.specs.Steps.{made_one}
use Rattle.session_actions.specs.Actions.{following}
use Rattle.session_actions.specs.DueAttempts.{has_going}
use Rattle.session_actions.specs.Making.{attempt_made, due_action, next_due_attempt, next_transparent}
use Rattle.session_actions.specs.Words.{numbered}
use Rattle.session_actions.specs.declared.action.Action.{Action}
use Rattle.session_actions.specs.declared.action.Action.TheVariants as action
use Rattle.session_actions.specs.declared.call.Call.{Call}
use Rattle.session_actions.specs.declared.entry.OpenEntry.{OpenEntry}
use Rattle.session_actions.specs.declared.entry.Stage.TheVariants as stage
use Rattle.session_actions.specs.declared.seen.Seen.{Seen}
use Rattle.call_cases.specs.ConfiguredCalls.Laws.{Frames}
use Rattle.attempt_cases.specs.MakingSteps.Made.{with_attempt}
use Rattle.call_cases.specs.SettlingActions.Sound.{IsSound}
use Rattle.call_cases.specs.SettlingActions.Steps.{IsTended, Leads, MakingSteps}

-- the making of an attempt is next, since it is due
pub record MakeNext (number : ℕ) (x : StateSeen) (o : OpenEntry) (s : Seen) : Type 0 where
  pub current : s.current ≡ Some o
  pub agrees : Agrees x s
  pub sound : IsSound x s
  -- no attempt waits for its transparent retry
  pub quiescent : next_transparent s ≡ None
  pub call : Call
  pub there : numbered s.calls number ≡ Some call
  pub nth : ℕ
  pub why : RowKind
  pub due : ℕ
  pub gives : due_action s call ≡ Some (action.AttemptMade number nth why due)
  pub next : following s ≡ Some (action.AttemptMade number nth why due)

abbrev pub AttemptsGetRows : Type 0
AttemptsGetRows =
    Frames → (number : ℕ) (x : StateSeen) (o : OpenEntry) (s : Seen) (k : MakeNext number x o s) (own : HasSlot x s k.call number)
    → Agrees (with_attempt k.due number own.slot x) (attempt_made number k.nth k.why k.due s)

-- the next attempt that is due is of the call of a number
pub record DueNext (number : ℕ) (s : Seen) : Type 0 where
  pub call : Call
  pub there : numbered s.calls number ≡ Some call
  pub does : Action
  pub gives : due_action s call ≡ Some does
  pub first : next_due_attempt s ≡ Some does

-- it is made, or withheld, and none of that call is due any more
pub record IsDueDone (number : ℕ) (o : OpenEntry) (s : Seen) : Type 0 where
  pub tended : IsTended o s
  pub none : (c : Call) → numbered s.calls number ≡ Some c → due_action s c ≡ None

abbrev pub OneMakes : Type 0
OneMakes =
    (number : ℕ) (x : StateSeen) (o : OpenEntry) (s : Seen) → Agrees x s → IsSound x s → IsAt stage.Settling o s → IsTended o s → DueNext number s
    → Leads (made_one number x) o s (IsDueDone number)

abbrev pub RoundsMake : Type 0
RoundsMake = OneMakes → MakingSteps

-- so it is where it is made
abbrev pub OneIsMade : Type 0
OneIsMade =
    (number nth due : ℕ) (why : RowKind) (x : StateSeen) (o : OpenEntry) (s : Seen) → Agrees x s → IsSound x s → IsAt stage.Settling o s → IsTended o s
    → (k : DueNext number s) → k.does ≡ action.AttemptMade number nth why due → Leads (made_one number x) o s (IsDueDone number)

-- or where its hedge is withheld, since too few tokens are left, while others of its call go on ("Throttling Retry Attempts and Hedged RPCs")
abbrev pub WithheldOf : Bool → Type 0
WithheldOf going =
    (number : ℕ) (x : StateSeen) (o : OpenEntry) (s : Seen) → Agrees x s → IsSound x s → IsAt stage.Settling o s → IsTended o s → (k : DueNext number s)
    → k.does ≡ action.HedgeWithheld number → has_going k.call s ≡ going → Leads (made_one number x) o s (IsDueDone number)

abbrev pub OneIsWithheld : Type 0
OneIsWithheld = WithheldOf true

-- where none goes on, the call is committed to the attempt whose end counted last, and ends by it; with that these are all cases
abbrev pub LastIsWithheld : Type 0
LastIsWithheld = WithheldOf false

abbrev pub MakesByCases : Type 0
MakesByCases = LastIsWithheld → OneMakes
