-- One attempt ends, and channel and session agree again: the call goes on, by a retry that is set, by another attempt, or by a hedge that is due. A transparent retry
-- is made at once; or the end is the last one, and the call ends by it (gRFC A6, "Retry Policy", "Hedging Policy", "Transparent Retries", "When Retries are Valid").
-- Example: of a hedged call the attempts 1 and 2 are on link 1, which is lost. AttemptEnds 1, with UNAVAILABLE, a code of hedgingPolicy; attempt 2 goes on. Then
-- AttemptEnds 2; no further attempt is due: CallCommitted 2, and the call ends with UNAVAILABLE.
-- The laws, in the order of this file:
-- 1. One attempt ends; and so the cases.
-- 2. Then the resets that are owed are made, and all agrees.
-- 3. And what the channel keeps by itself.
use Rattle.std.specs.Option.{option_and_then}
use Rattle.std.specs.List.{list_any}
use Rattle.std.specs.Prelude.{Bool, List, None, Some, [], false, is_some, not, true, ℕ, ◌&&◌, ◌==◌, ◌≡◌, ◌∷◌, ◌||◌}
use Rattle.attempt_ledger.specs.declared.news.EndNews.{EndNews}
use Rattle.attempt_ledger.specs.declared.row.RowEnd.{RowEnd}
use Rattle.call_actions.specs.Laws.{IsCounting}
use Rattle.call_actions.specs.Sees.{is_live}
use Rattle.channel_actions.specs.Agrees.{Agrees}
use Rattle.call_cases.specs.EndsFollow.Cuts.{NoStreamIsToReset}
use Rattle.call_cases.specs.EndsFollow.Laws.{is_late}
use Rattle.channel_actions.specs.Sets.{is_in_outstanding}
use Rattle.end_cases.specs.AttemptEnds.Ahead.{AgreesAhead}
use Rattle.end_cases.specs.AttemptEnds.Ends.{AreHeld, EndNext, HasEnded, ended_in}
use Rattle.channel_core.specs.States.{StateSeen}
use Rattle.channel_core.specs.Steps.{sealed, sealed_one}
use Rattle.grpc_base.specs.Codes.{has_code}
use Rattle.grpc_base.specs.declared.plan.CallPlan.{CallPlan}
use Rattle.grpc_base.specs.declared.plan.CallPlan.TheVariants as plan
use Rattle.grpc_base.specs.declared.plan.HedgePolicy.{HedgePolicy}
use Rattle.session_actions.specs.AttemptEnds.{attempt_ended, end_of, tokens_at_end}
use Rattle.session_actions.specs.Attempts.{commitment, is_to_follow}
use Rattle.session_actions.specs.Configs.{plan_of}
use Rattle.session_actions.specs.DueAttempts.{is_licensed, next_due}
use Rattle.session_actions.specs.Events.{is_loss}
use Rattle.session_actions.specs.Laws.{posted_in}
use Rattle.session_actions.specs.Sessions.{Does}
use Rattle.session_actions.specs.Words.{numbered}
use Rattle.session_actions.specs.declared.action.Action.{Action}
use Rattle.session_actions.specs.declared.attempt.Attempt.{Attempt}
use Rattle.session_actions.specs.declared.call.Call.{Call}
use Rattle.session_actions.specs.declared.entry.OpenEntry.{OpenEntry}
use Rattle.session_actions.specs.declared.response.Outcome.{Outcome}
use Rattle.session_actions.specs.declared.seen.Seen.{Seen}
use Rattle.session_order.specs.Quiescent.{IsStill, is_to_reset}
use Rattle.session_order.specs.Lines.{is_line}
use Rattle.session_order.specs.declared.line.Line.{Line}
use Rattle.session_order.specs.declared.line.Line.TheVariants as line

-- of these cases
abbrev pub AttemptEndsOf : (Seen → Call → Attempt → Outcome → Type 0) → Type 0
AttemptEndsOf Case =
    (later : List (ℕ × RowEnd)) (waits : Line → Bool) (also : List ℕ) (a : Attempt) (out : Outcome) (x : StateSeen) (o : OpenEntry) (s : Seen)
    (is : EndNext later waits also a out x o s) → Case s is.call a out → HasEnded later waits also a out x o s

abbrev pub OneAttemptEnds : Type 0
OneAttemptEnds = AttemptEndsOf (λ s c a out. Unit {0})

-- the call goes on after it: a retry is licensed; or it is hedged, the code is one of its policy, and another attempt goes on, or one is due
abbrev pub goes_on_after : CallPlan → Seen → Call → Attempt → Outcome → Bool
goes_on_after plan.None s c a out = false
goes_on_after (plan.Retry p) s c a out = is_licensed c a.row.number out.code out.pushback (tokens_at_end a out s) s
goes_on_after (plan.Hedge p) s c a out =
    has_code p.codes out.code
    && (list_any (λ q. is_live s c q && not (q.place == a.place)) s.attempts
    || is_some (option_and_then (λ k. next_due k (attempt_ended a.place (end_of a out s) s)) (numbered (attempt_ended a.place (end_of a out s) s).calls c.number)))

pub record GoesOnAfter (s : Seen) (c : Call) (a : Attempt) (out : Outcome) : Type 0 where
  pub counting : IsCounting s c out
  pub free : commitment c s ≡ None
  pub goes : goes_on_after (plan_of c s) s c a out ≡ true

abbrev pub CallsGoOnAfterEnds : Type 0
CallsGoOnAfterEnds = AttemptEndsOf GoesOnAfter

-- a transparent retry follows it at once; where the call is committed to it, the retry takes the commitment over
pub record IsRetriedAtOnce (s : Seen) (c : Call) (a : Attempt) (out : Outcome) : Type 0 where
  pub going : c.end ≡ None
  pub follows : is_to_follow c out.cause out.unseen s ≡ true

abbrev pub RetriesFollowEnds : Type 0
RetriesFollowEnds = AttemptEndsOf IsRetriedAtOnce

-- the call is not committed, and no further attempt follows: it is committed to this one, the others are cut off, and it ends
pub record IsLastEnd (s : Seen) (c : Call) (a : Attempt) (out : Outcome) : Type 0 where
  pub counting : IsCounting s c out
  pub free : commitment c s ≡ None
  pub last : goes_on_after (plan_of c s) s c a out ≡ false

abbrev pub LastEndsClose : Type 0
LastEndsClose = AttemptEndsOf IsLastEnd

-- so it is where no other attempt of the call goes on: there is none to cut off
pub record IsLoneLastEnd (s : Seen) (c : Call) (a : Attempt) (out : Outcome) : Type 0 where
  pub last : IsLastEnd s c a out
  pub alone : list_any (λ q. is_live s c q && not (q.place == a.place)) s.attempts ≡ false

abbrev pub LoneLastEndsClose : Type 0
LoneLastEndsClose = AttemptEndsOf IsLoneLastEnd

-- the call is committed to it, and ends by it
pub record IsCommittedEnd (s : Seen) (c : Call) (a : Attempt) (out : Outcome) : Type 0 where
  pub counting : IsCounting s c out
  pub committed : is_some (commitment c s) ≡ true

abbrev pub CommittedEndsClose : Type 0
CommittedEndsClose = AttemptEndsOf IsCommittedEnd

-- these are all
abbrev pub EndsByCases : Type 0
EndsByCases = CallsGoOnAfterEnds → RetriesFollowEnds → LastEndsClose → CommittedEndsClose → OneAttemptEnds

-- what is shown of these leaves one case: a hedged call ends by a code that its policy does not name, and its other attempts are cut off
pub record IsLastOfSeveral (s : Seen) (c : Call) (a : Attempt) (out : Outcome) : Type 0 where
  pub last : IsLastEnd s c a out
  pub policy : HedgePolicy
  pub hedged : plan_of c s ≡ plan.Hedge policy
  pub unnamed : has_code policy.codes out.code ≡ false
  pub others : list_any (λ q. is_live s c q && not (q.place == a.place)) s.attempts ≡ true

abbrev pub LastEndsCutOff : Type 0
LastEndsCutOff = AttemptEndsOf IsLastOfSeveral

abbrev pub EndsByCuts : Type 0
EndsByCuts = LastEndsCutOff → OneAttemptEnds

-- then the streams are reset that the session owes, by link and stream, and the channel closes what it queued: all agrees
abbrev pub all_sealed : List ℕ → StateSeen → StateSeen
all_sealed [] x = sealed x
all_sealed (link ∷ also) x = all_sealed also (sealed_one link x)

-- resets are next, if any is owed: what may wait are the lines that come after them, and further ends where the environment lost the link
abbrev pub may_wait_for_resets : OpenEntry → Line → Bool
may_wait_for_resets o line.WireEnd = is_loss o.event
may_wait_for_resets o l = is_late l

pub record ResetsNext (waits : Line → Bool) (also : List ℕ) (x : StateSeen) (o : OpenEntry) (s : Seen) : Type 0 where
  pub late : (l : Line) → waits l ≡ true → may_wait_for_resets o l ≡ true
  pub current : s.current ≡ Some o
  pub still : (l : Line) → is_line l line.Reset ≡ false → waits l ≡ false → IsStill l o s
  pub agrees : AgreesAhead [] also x s

pub record HasReset (waits : Line → Bool) (also : List ℕ) (x : StateSeen) (o : OpenEntry) (s : Seen) : Type 0 where
  pub actions : List Action
  pub seen : Seen
  pub does : Does actions s seen
  pub posts : posted_in actions ≡ []
  pub entries : seen.entries ≡ s.entries
  pub setup : seen.setup ≡ s.setup
  pub current : seen.current ≡ Some o
  pub still : (l : Line) → waits l ≡ false → IsStill l o seen
  pub fewer : (link row : ℕ) → is_in_outstanding seen link row ≡ true → is_in_outstanding s link row ≡ true
  pub unreset : NoStreamIsToReset seen
  pub agrees : Agrees (all_sealed also x) seen

abbrev pub ResetsCatchUp : Type 0
ResetsCatchUp = (waits : Line → Bool) (also : List ℕ) (x : StateSeen) (o : OpenEntry) (s : Seen) → ResetsNext waits also x o s → HasReset waits also x o s

-- where none is owed there is nothing to do: all agrees at once
abbrev pub NoneIsOwed : Type 0
NoneIsOwed = (x : StateSeen) (s : Seen) → AgreesAhead [] [] x s → list_any (is_to_reset s) s.attempts ≡ false → x.resets ≡ [] → Agrees x s

-- and what buffers hold for rows is for those that are there, as before (of the channel alone)
abbrev pub EndsStayHeld : Type 0
EndsStayHeld = (a : Attempt) (news : EndNews) (x : StateSeen) → AreHeld x → AreHeld (ended_in a news x)
