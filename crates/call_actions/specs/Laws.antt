-- What is done to a call is an action of the session, and leaves the call as what the session then is. So it is until it has its configuration, and of any call
-- that its request is finished, when its next attempt is due, that this is made and placed, and that a hedge is withheld. Each is stated of a session
-- and a call that agree (`Sees`), apart from all other calls and from the rest of the entry; attempts also of what a session keeps in order (`IsInOrder`).
-- Example: a call begins; its application finishes its request; then the config comes. In the session CallBegins, RequestFinished and CallConfigured; in
-- the channel a new call, `finished` and `configured`; and the two agree after each.
use Rattle.std.specs.List.{list_any}
use Rattle.std.specs.Option.{option_and_then, option_map, option_map_or}
use Rattle.std.specs.Prelude.{Bool, List, None, Option, Some, [], false, filter, is_some, length, map, not, true, ℕ, ◌&&◌, ◌++◌, ◌+◌, ◌==◌, ◌≤◌, ◌≡◌, ◌∷◌}
use Rattle.a6_numbers.specs.Throttling.{Bucket}
use Rattle.attempt_ledger.specs.Ends.{is_cut}
use Rattle.attempt_ledger.specs.Hedging.{is_hedge}
use Rattle.attempt_ledger.specs.declared.ledger.Ledger.{Ledger}
use Rattle.attempt_ledger.specs.declared.news.EndNews.{EndNews}
use Rattle.attempt_ledger.specs.declared.row.Placed.{Placed}
use Rattle.attempt_ledger.specs.declared.row.RowEnd.{RowEnd}
use Rattle.attempt_ledger.specs.declared.row.RowKind.{RowKind}
use Rattle.attempt_ledger.specs.declared.row.RowKind.TheVariants as kind
use Rattle.call_core.specs.Parts.{count_of, has_none, is_above, is_tested, is_too_long, stopped_attempts, without}
use Rattle.call_core.specs.Steps as steps
use Rattle.call_core.specs.Steps.{Stepped, lent, new_call}
use Rattle.call_core.specs.declared.act.CallAct.{CallAct}
use Rattle.call_core.specs.declared.act.CallAct.TheVariants as act
use Rattle.grpc_base.specs.Codes.{has_code}
use Rattle.grpc_base.specs.Requests.{RequestSeen}
use Rattle.grpc_base.specs.declared.event.EndCause.{EndCause}
use Rattle.grpc_base.specs.declared.event.EndCause.TheVariants as ending
use Rattle.grpc_base.specs.declared.event.Event.TheVariants as event
use Rattle.grpc_base.specs.declared.plan.CallPlan.{CallPlan}
use Rattle.grpc_base.specs.declared.plan.CallPlan.TheVariants as plan
use Rattle.grpc_base.specs.declared.plan.HedgePolicy.{HedgePolicy}
use Rattle.grpc_base.specs.declared.plan.RetryPolicy.{RetryPolicy}
use Rattle.ledger_stamps.specs.Steps as stamps
use Rattle.service_config.specs.Choice.{chosen_for}
use Rattle.call_actions.specs.Order.{IsInOrder, IsInTurn, Keeps}
use Rattle.call_actions.specs.Sees.{Sees, bucket_of, is_live}
use Rattle.session_actions.specs.AttemptEnds.{attempt_ended, cut, end_of, tokens_at_end}
use Rattle.session_actions.specs.Attempts.{commitment, is_of, is_queued, is_to_follow, wants_follower}
use Rattle.session_actions.specs.CallEnds.{call_ended}
use Rattle.session_actions.specs.Commitments.{call_committed}
use Rattle.session_actions.specs.Configs.{call_configured, held_config, plan_of}
use Rattle.session_actions.specs.Deliveries.{begun_call, call_begun_by, request_finished}
use Rattle.session_actions.specs.DueAttempts.{is_licensed, kind_of_next, next_due}
use Rattle.session_actions.specs.Entries.{entry, next_word, now}
use Rattle.session_actions.specs.Links.{link_of, read_bytes}
use Rattle.session_actions.specs.Making.{attempt_made, due_action, hedge_withheld}
use Rattle.session_actions.specs.Policies.{attempt_placed}
use Rattle.session_actions.specs.Sessions.{link_seen}
use Rattle.session_actions.specs.Tokens.{has_tokens}
use Rattle.session_actions.specs.Words.{numbered}
use Rattle.session_actions.specs.declared.action.Action.TheVariants as action
use Rattle.session_actions.specs.declared.attempt.Attempt.{Attempt}
use Rattle.session_actions.specs.declared.call.Call.{Call}
use Rattle.session_actions.specs.declared.config.HeldConfig.{HeldConfig}
use Rattle.session_actions.specs.declared.response.Outcome.{Outcome}
use Rattle.session_actions.specs.declared.seen.Seen.{Seen}

-- an open call without a configuration: nothing happened to it, and it has no attempt
pub record IsUnconfigured (s : Seen) (c : Call) : Type 0 where
  pub config : c.config ≡ None
  pub configured : c.configured ≡ None
  pub end : c.end ≡ None
  pub marks : c.marks ≡ []
  pub none : list_any (is_of c) s.attempts ≡ false

-- it begins, as the next call of session and ledger
abbrev pub begun_ledger : Ledger → Ledger
begun_ledger ledger = record ledger { calls = ledger.calls ++ stamps.begun_call ledger.entry ∷ [] }

pub record Begins (s : Seen) (request : RequestSeen) (ledger : Ledger) (acts : List CallAct) : Type 0 where
  pub call : Call
  pub sees : Sees (call_begun_by (event.Begin request) s) call (lent (new_call (length s.calls + 1) request (now s)) (begun_ledger ledger) None acts)
  pub awaiting_config : IsUnconfigured (call_begun_by (event.Begin request) s) call

abbrev pub CallsBegin : Type 0
CallsBegin =
    (s : Seen) (request : RequestSeen) (ledger : Ledger) (acts : List CallAct) → entry s ≡ ledger.entry → map (λ a. a.row) s.attempts ≡ ledger.rows
    → length s.calls ≡ length ledger.calls → list_any (λ a. is_of (begun_call (length s.calls + 1) (entry s) (now s) request) a) s.attempts ≡ false
    → Begins s request ledger acts

-- after an action of a session the call of a number agrees with a call of the channel
pub record Agrees (s : Seen) (number : ℕ) (x : Stepped) : Type 0 where
  pub call : Call
  pub number_is : call.number ≡ number
  pub sees : Sees s call x

-- the channel ends it
abbrev pub CallsEnd : Type 0
CallsEnd =
    (s : Seen) (c : Call) (x : Stepped) (why : EndCause) → Sees s c x → IsUnconfigured s c
    → Agrees (call_ended c.number why s) c.number (steps.closed_by why (now s) x)

-- it gets the config that is held, with the tokens of its run; where it was sent a message that this config does not allow, it ends at once
abbrev pub tokens_of_config : Seen → HeldConfig → Option Bucket
tokens_of_config s h = option_map (bucket_of s) (option_and_then (numbered s.runs) h.run)

abbrev pub configured_by : HeldConfig → Call → Seen → Stepped → Stepped
configured_by h c s x = steps.configured (chosen_for h.config c.request.path) (now s) (record x { tokens = tokens_of_config s h })

abbrev pub allows : HeldConfig → Call → Stepped → Bool
allows h c x = not (is_too_long (Some (chosen_for h.config c.request.path)) x.call.longest)

abbrev pub ConfigsCome : Type 0
ConfigsCome =
    (s : Seen) (c : Call) (x : Stepped) (h : HeldConfig) → Sees s c x → IsUnconfigured s c → held_config s ≡ Some h → allows h c x ≡ true
    → Agrees (call_configured c.number (length s.configs) s) c.number (configured_by h c s x)

abbrev pub LongMessagesEnd : Type 0
LongMessagesEnd =
    (s : Seen) (c : Call) (x : Stepped) (h : HeldConfig) → Sees s c x → IsUnconfigured s c → held_config s ≡ Some h → allows h c x ≡ false
    → Agrees (call_ended c.number ending.Request (call_configured c.number (length s.configs) s)) c.number (configured_by h c s x)

-- of any call that has not ended: its application finishes its request
abbrev pub RequestsFinish : Type 0
RequestsFinish =
    (s : Seen) (c : Call) (x : Stepped) → Sees s c x → c.end ≡ None → c.finished ≡ false
    → Agrees (request_finished c.number s) c.number (record x { call = steps.finished x.call })

-- its next attempt is due in both at one moment, or in none; and the tokens forbid it in both or in none
abbrev pub AttemptsAreDue : Type 0
AttemptsAreDue = (s : Seen) (c : Call) (x : Stepped) → Sees s c x → next_due c s ≡ steps.next_due x.call

abbrev pub HedgesAreTested : Type 0
HedgesAreTested =
    (s : Seen) (c : Call) (x : Stepped) → Sees s c x
    → (is_hedge (kind_of_next c s) && not (has_tokens c s)) ≡ (is_tested (steps.call_plan x.call) x.call.attempts && not (is_above x.tokens))

-- a hedge is withheld, while other attempts go on
abbrev pub HedgesAreWithheld : Type 0
HedgesAreWithheld =
    (s : Seen) (c : Call) (x : Stepped) → Sees s c x → has_none x.call.live ≡ false
    → Agrees (hedge_withheld c.number s) c.number (steps.refused_due (now s) x)

-- its next attempt is made, where the session's own line gives it: the same row in the ledger, of the same number and kind, due at the same moment.
-- (Numbers of attempts do not end, which no session reaches.)
abbrev pub AttemptsAreMade : Type 0
AttemptsAreMade =
    (s : Seen) (c : Call) (x : Stepped) (number : ℕ) (why : RowKind) (due : ℕ) → Sees s c x → IsInOrder s c
    → due_action s c ≡ Some (action.AttemptMade c.number number why due) → number ≤ 4294967295
    → Keeps (attempt_made c.number number why due s) c.number (steps.made_due (now s) x)

-- where that line gives nothing, nothing is made
abbrev pub NoneIsMade : Type 0
NoneIsMade = (s : Seen) (c : Call) (x : Stepped) → Sees s c x → due_action s c ≡ None → c.end ≡ None → steps.made_due (now s) x ≡ x

-- and where it withholds a hedge, the channel refuses it
abbrev pub HedgesAreRefused : Type 0
HedgesAreRefused =
    (s : Seen) (c : Call) (x : Stepped) → Sees s c x → due_action s c ≡ Some (action.HedgeWithheld c.number)
    → steps.made_due (now s) x ≡ steps.refused_due (now s) x

-- an attempt that waits for a pick is placed on a link
abbrev pub AttemptsArePlaced : Type 0
AttemptsArePlaced =
    (s : Seen) (c : Call) (x : Stepped) (place : ℕ) (a : Attempt) (at : Placed) → Sees s c x → IsInOrder s c → numbered s.attempts place ≡ Some a
    → is_of c a ≡ true → is_queued a s ≡ true → at.moment ≡ now s
    → Keeps (attempt_placed place at s) c.number (steps.placed_at place at x)

-- an attempt ends: what its outcome is reported as, with the bytes of its link that were read
abbrev pub news_of : Attempt → Outcome → Seen → EndNews
news_of a out s = record {
  code = out.code;
  text = out.text;
  meta = out.meta;
  pushback = out.pushback;
  unseen = out.unseen;
  seen = option_map_or read_bytes (link_of a s) 0;
  cause = out.cause;
}

-- an attempt of a call that goes on, and ends by something else than that it is cut
pub record IsEnding (s : Seen) (c : Call) (place : ℕ) (a : Attempt) (out : Outcome) : Type 0 where
  pub there : numbered s.attempts place ≡ Some a
  pub own : is_of c a ≡ true
  pub lives : is_live s c a ≡ true
  pub uncut : is_cut out.cause ≡ false

-- its end counts, in a call that goes on: no transparent retry is to follow it
pub record IsCounting (s : Seen) (c : Call) (out : Outcome) : Type 0 where
  pub goes_on : c.end ≡ None
  pub alone : is_to_follow c out.cause out.unseen s ≡ false

abbrev pub ends_alike : Seen → Call → Stepped → ℕ → Attempt → Outcome → Type 0
ends_alike s c x place a out =
    Keeps (attempt_ended place (end_of a out s) s) c.number (steps.ended_at place (news_of a out s) (now s) (next_word s) x)

-- an end that licenses a retry: it is due at the same moment, after the same wait, and the bucket has the same tokens
abbrev pub RetriesAreSet : Type 0
RetriesAreSet =
    (s : Seen) (c : Call) (x : Stepped) (place : ℕ) (a : Attempt) (out : Outcome) (p : RetryPolicy) → Sees s c x → IsInOrder s c → IsInTurn s c
    → IsEnding s c place a out → IsCounting s c out → commitment c s ≡ None → plan_of c s ≡ plan.Retry p
    → is_licensed c a.row.number out.code out.pushback (tokens_at_end a out s) s ≡ true
    → ends_alike s c x place a out

-- an end of a hedged call, with a code of its policy, while another attempt goes on
abbrev pub HedgesGoOn : Type 0
HedgesGoOn =
    (s : Seen) (c : Call) (x : Stepped) (place : ℕ) (a : Attempt) (out : Outcome) (p : HedgePolicy) → Sees s c x → IsInOrder s c → IsInTurn s c
    → IsEnding s c place a out → IsCounting s c out → commitment c s ≡ None → plan_of c s ≡ plan.Hedge p
    → has_code p.codes out.code ≡ true → list_any (λ q. is_live s c q && not (q.place == place)) s.attempts ≡ true
    → ends_alike s c x place a out

-- an attempt that is over for its call is cut off: where the session's line gives that, its row ends in the ledger, by the bytes of its link that were
-- read, and it is live no more. (`links`: the ledger has the links of the session.)
abbrev pub cut_off : ℕ → ℕ → ℕ → Stepped → Stepped
cut_off place link moment x = record {
  call = record x.call { live = without place x.call.live };
  ledger = steps.cut_row moment (count_of x.tokens) place x.ledger (Some link);
  tokens = x.tokens;
  acts = x.acts ++ steps.given_up_act place (Some link) ∷ [];
}

abbrev pub AttemptsAreCut : Type 0
AttemptsAreCut =
    (s : Seen) (c : Call) (x : Stepped) (place : ℕ) (a : Attempt) (at : Placed) (end : RowEnd) → Sees s c x → IsInOrder s c → IsInTurn s c
    → numbered s.attempts place ≡ Some a → is_of c a ≡ true → a.row.placed ≡ Some at → map link_seen s.links ≡ x.ledger.links
    → cut s a ≡ Some (action.AttemptEnds a.place end)
    → Keeps (attempt_ended place end s) c.number (cut_off place at.link (now s) x)

-- an attempt that the server did not process, or that was never sent, ends; and a transparent retry follows it at once, of its number. No token is
-- taken, and no word is drawn. (`quiescent`: no other attempt of the call waits for its follower.)
abbrev pub RefusedAreRetried : Type 0
RefusedAreRetried =
    (s : Seen) (c : Call) (x : Stepped) (place : ℕ) (a : Attempt) (out : Outcome) → Sees s c x → IsInOrder s c → IsInTurn s c → IsEnding s c place a out
    → c.end ≡ None → commitment c s ≡ None → is_to_follow c out.cause out.unseen s ≡ true → list_any (λ q. is_of c q && wants_follower q s) s.attempts ≡ false
    → Keeps (attempt_made c.number a.row.number kind.Transparent (now s) (attempt_ended place (end_of a out s) s)) c.number
    (steps.ended_at place (news_of a out s) (now s) (next_word s) x)

-- a call ends, whatever its attempts do: those that wait for a pick are given up, and those that are outstanding are still to be cut off
abbrev pub call_closed : EndCause → ℕ → Stepped → Stepped
call_closed why moment x = record {
  call = record x.call {
    live = filter (λ r. is_some r.link) x.call.live;
    buffer = steps.fresh_buffer;
    attempts = stopped_attempts x.call.attempts;
    ended = Some why;
  };
  ledger = steps.end_stamped x.call.number why moment x.ledger;
  tokens = x.tokens;
  acts = x.acts ++ act.End why ∷ [];
}

abbrev pub CallsClose : Type 0
CallsClose =
    (s : Seen) (c : Call) (x : Stepped) (why : EndCause) → Sees s c x → IsInOrder s c → c.end ≡ None
    → Keeps (call_ended c.number why s) c.number (call_closed why (now s) x)

-- where none of its attempts goes on, that is all: session and channel agree after it
abbrev pub QuietCallsEnd : Type 0
QuietCallsEnd =
    (s : Seen) (c : Call) (x : Stepped) (why : EndCause) → Sees s c x → IsInOrder s c → c.end ≡ None → x.call.live ≡ []
    → Keeps (call_ended c.number why s) c.number (steps.closed_by why (now s) x)

-- the committed attempt ends, and by it its call, with its code: no other attempt of a committed call goes on
abbrev pub CommittedEndsClose : Type 0
CommittedEndsClose =
    (s : Seen) (c : Call) (x : Stepped) (place : ℕ) (a k : Attempt) (out : Outcome) → Sees s c x → IsInOrder s c → IsInTurn s c → IsEnding s c place a out
    → IsCounting s c out → commitment c s ≡ Some k → list_any (λ q. is_live s c q && not (q.place == place)) s.attempts ≡ false
    → Keeps (call_ended c.number ending.Row (attempt_ended place (end_of a out s) s)) c.number
    (steps.ended_at place (news_of a out s) (now s) (next_word s) x)

-- an end that no further attempt follows: without a plan; where it licenses no retry; of a hedged call with a code that its policy does not name
abbrev pub is_last_end : CallPlan → Call → Attempt → Outcome → Seen → Bool
is_last_end plan.None c a out s = true
is_last_end (plan.Retry p) c a out s = not (is_licensed c a.row.number out.code out.pushback (tokens_at_end a out s) s)
is_last_end (plan.Hedge p) c a out s = not (has_code p.codes out.code)

-- where no other attempt of its call goes on, the call is committed to the attempt, and ends by it
abbrev pub FinalEndsClose : Type 0
FinalEndsClose =
    (s : Seen) (c : Call) (x : Stepped) (place : ℕ) (a : Attempt) (out : Outcome) → Sees s c x → IsInOrder s c → IsInTurn s c → IsEnding s c place a out
    → IsCounting s c out → commitment c s ≡ None → is_last_end (plan_of c s) c a out s ≡ true
    → list_any (λ q. is_live s c q && not (q.place == place)) s.attempts ≡ false
    → Keeps (call_ended c.number ending.Row (call_committed place (attempt_ended place (end_of a out s) s))) c.number
    (steps.ended_at place (news_of a out s) (now s) (next_word s) x)

-- and so it is by the end of a hedged call's last attempt, with a code of its policy, where no further attempt is due then
abbrev pub LastHedgesClose : Type 0
LastHedgesClose =
    (s : Seen) (c : Call) (x : Stepped) (place : ℕ) (a : Attempt) (out : Outcome) (p : HedgePolicy) → Sees s c x → IsInOrder s c → IsInTurn s c
    → IsEnding s c place a out → IsCounting s c out → commitment c s ≡ None → plan_of c s ≡ plan.Hedge p → has_code p.codes out.code ≡ true
    → option_and_then (λ k. next_due k (attempt_ended place (end_of a out s) s)) (numbered (attempt_ended place (end_of a out s) s).calls c.number) ≡ None
    → list_any (λ q. is_live s c q && not (q.place == place)) s.attempts ≡ false
    → Keeps (call_ended c.number ending.Row (call_committed place (attempt_ended place (end_of a out s) s))) c.number
    (steps.ended_at place (news_of a out s) (now s) (next_word s) x)
