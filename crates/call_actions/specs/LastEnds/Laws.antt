-- Ends of attempts after which a call goes on, or by which it ends. An end with a code of a hedged call's policy after which a further attempt is due lets the
-- call go on; a hedge that the tokens then forbid ends the call by the last end that counted. An end that no further attempt follows ends it at once, and cuts
-- off the attempts that go on; and the attempt to which a call is committed may be retried transparently (gRFC A6, "Hedging Policy", "Throttling Retry
-- Attempts and Hedged RPCs" and "Transparent Retries").
-- Example: hedgingDelay is 1 s, and attempt 1 ends at once with UNAVAILABLE, a code of the policy. Attempt 2 is due now. Where the tokens are not above half,
-- it is withheld: CallCommitted 1, and the call ends with UNAVAILABLE.
-- Example: the attempts 1, 2 and 3 are outstanding, and 2 ends with INTERNAL, which the policy does not name: CallCommitted 2, 1 and 3 end, cut off, and the
-- call ends with INTERNAL.
use Rattle.std.specs.Option.{option_and_then}
use Rattle.std.specs.List.{list_any}
use Rattle.std.specs.Prelude.{List, None, Some, [], false, is_none, is_some, length, map, true, ℕ, ◌&&◌, ◌+◌, ◌≡◌}
use Rattle.attempt_ledger.specs.declared.row.RowEnd.{RowEnd}
use Rattle.attempt_ledger.specs.declared.row.RowKind.TheVariants as kind
use Rattle.call_actions.specs.Laws.{IsCounting, IsEnding, ends_alike, is_last_end, news_of}
use Rattle.call_actions.specs.Order.{IsInOrder, IsInTurn, Keeps}
use Rattle.call_actions.specs.Sees.{Sees}
use Rattle.call_core.specs.Going.{IsGoing}
use Rattle.call_core.specs.Steps as steps
use Rattle.call_core.specs.Steps.{Stepped}
use Rattle.grpc_base.specs.Codes.{has_code}
use Rattle.grpc_base.specs.declared.event.EndCause.TheVariants as ending
use Rattle.grpc_base.specs.declared.plan.CallPlan.TheVariants as plan
use Rattle.grpc_base.specs.declared.plan.HedgePolicy.{HedgePolicy}
use Rattle.session_actions.specs.AttemptEnds.{attempt_ended, end_of}
use Rattle.session_actions.specs.Attempts.{commitment, is_of, is_to_follow, wants_follower}
use Rattle.session_actions.specs.CallEnds.{call_ended}
use Rattle.session_actions.specs.Commitments.{call_committed}
use Rattle.session_actions.specs.Configs.{plan_of}
use Rattle.session_actions.specs.DueAttempts.{last_counted, next_due}
use Rattle.session_actions.specs.Entries.{next_word, now}
use Rattle.session_actions.specs.Making.{attempt_made, due_action, hedge_withheld}
use Rattle.session_actions.specs.Sessions.{link_seen}
use Rattle.session_actions.specs.Words.{numbered}
use Rattle.session_actions.specs.declared.action.Action.{Action}
use Rattle.session_actions.specs.declared.action.Action.TheVariants as action
use Rattle.session_actions.specs.declared.attempt.Attempt.{Attempt}
use Rattle.session_actions.specs.declared.call.Call.{Call}
use Rattle.session_actions.specs.declared.response.Outcome.{Outcome}
use Rattle.session_actions.specs.declared.seen.Seen.{Seen}
use Rattle.call_actions.specs.TakeActions.Cuts.{AttemptsAreCut, is_twin}

-- an end of a hedged call, with a code of its policy, after which a further attempt is due: whether another one goes on or not, the call does
abbrev pub DueHedgesGoOn : Type 0
DueHedgesGoOn =
    (s : Seen) (c : Call) (x : Stepped) (place : ℕ) (a : Attempt) (out : Outcome) (p : HedgePolicy) → Sees s c x → IsInOrder s c → IsInTurn s c
    → IsEnding s c place a out → IsCounting s c out → commitment c s ≡ None → plan_of c s ≡ plan.Hedge p → has_code p.codes out.code ≡ true
    → is_some (option_and_then (λ k. next_due k (attempt_ended place (end_of a out s) s)) (numbered (attempt_ended place (end_of a out s) s).calls c.number)) ≡ true
    → ends_alike s c x place a out

-- a hedge is withheld where no attempt goes on: the call is committed to the attempt whose end counted last, and ends by it
abbrev pub WithheldHedgesClose : Type 0
WithheldHedgesClose =
    (s : Seen) (c : Call) (x : Stepped) (place : ℕ) (a : Attempt) → Sees s c x → IsInOrder s c → c.end ≡ None → commitment c s ≡ None → x.call.live ≡ []
    → last_counted c s ≡ Some place → numbered s.attempts place ≡ Some a → is_of c a ≡ true
    → Keeps (call_ended c.number ending.Row (call_committed place (hedge_withheld c.number s))) c.number (steps.refused_due (now s) x)

-- so it is where the session's line withholds the hedge, of a call of the channel that goes on (`IsGoing` of `call_core`): an end has counted then
pub record ClosesByLast (s : Seen) (c : Call) (x : Stepped) : Type 0 where
  pub place : ℕ
  pub last : last_counted c s ≡ Some place
  pub closes : Keeps (call_ended c.number ending.Row (call_committed place (hedge_withheld c.number s))) c.number x

abbrev pub WithheldHedgesEnd : Type 0
WithheldHedgesEnd =
    (s : Seen) (c : Call) (x : Stepped) → Sees s c x → IsInOrder s c → IsGoing x.call → x.call.live ≡ [] → due_action s c ≡ Some (action.HedgeWithheld c.number)
    → ClosesByLast s c (steps.made_due (now s) x)

-- an attempt that has ended, to which its call can be committed: the call is open and not committed, and no other attempt of it that goes on has its number
pub record CanClose (s : Seen) (c : Call) (k : Attempt) : Type 0 where
  pub at : numbered s.attempts k.place ≡ Some k
  pub mine : is_of c k ≡ true
  pub over : is_none k.row.ended ≡ false
  pub open_now : c.end ≡ None
  pub free : commitment c s ≡ None
  pub alone : list_any (is_twin s c k) s.attempts ≡ false

-- an attempt ends, and no further attempt follows it: the call is committed to it, each other attempt of the call that is outstanding is cut off right then,
-- and the call ends by it (gRFC A6, "Hedging Policy"). (`links`: the ledger has the links of the session.)
pub record ClosesWithCuts (s : Seen) (c : Call) (place : ℕ) (end : RowEnd) (x : Stepped) : Type 0 where
  pub cuts : List Action
  pub seen : Seen
  pub cut : AttemptsAreCut c.number cuts (call_committed place (attempt_ended place end s)) seen
  pub closes : Keeps (call_ended c.number ending.Row seen) c.number x

abbrev pub FinalEndsCutOthers : Type 0
FinalEndsCutOthers =
    (s : Seen) (c : Call) (x : Stepped) (place : ℕ) (a : Attempt) (out : Outcome) → is_some s.current ≡ true → Sees s c x → IsInOrder s c → IsInTurn s c
    → map link_seen s.links ≡ x.ledger.links → IsEnding s c place a out → IsCounting s c out → commitment c s ≡ None
    → is_last_end (plan_of c s) c a out s ≡ true
    → ClosesWithCuts s c place (end_of a out s) (steps.ended_at place (news_of a out s) (now s) (next_word s) x)

-- the attempt to which a call is committed ends, and was never sent: a transparent retry follows it at once, of its number, and takes the commitment over
-- (gRFC A6, "Transparent Retries"). (`quiescent`: no other attempt of the call waits for its follower.)
abbrev pub CommittedAreRetried : Type 0
CommittedAreRetried =
    (s : Seen) (c : Call) (x : Stepped) (place : ℕ) (a : Attempt) (out : Outcome) → Sees s c x → IsInOrder s c → IsInTurn s c → IsEnding s c place a out
    → c.end ≡ None → commitment c s ≡ Some a → is_to_follow c out.cause out.unseen s ≡ true
    → list_any (λ q. is_of c q && wants_follower q s) s.attempts ≡ false
    → Keeps (call_committed (length s.attempts + 1) (attempt_made c.number a.row.number kind.Transparent (now s) (attempt_ended place (end_of a out s) s))) c.number
    (steps.ended_at place (news_of a out s) (now s) (next_word s) x)
