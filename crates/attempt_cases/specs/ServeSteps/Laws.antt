-- One attempt of a pass asks for a pick (gRPC, "Load Balancing in gRPC"; "gRPC Wait for Ready Semantics"). The channel serves the first attempt after the last one that
-- waits and can be served. That is the one of the session that asks next, of the same policy, and gets the same answer; and channel and session agree after it.
-- Example: the attempts 1 of call 1 and 2 of call 2 wait, the policy is READY, and 1 was served. PickRequested 2, which is answered Place 1.
use Rattle.std.specs.Prelude.{Some, nat_lt, true, ℕ, ◌≡◌}
use Rattle.channel_actions.specs.Agrees.{Agrees}
use Rattle.channel_actions.specs.Quiescent.{IsAt}
use Rattle.channel_core.specs.Settling.{asked}
use Rattle.channel_core.specs.States.{StateSeen}
use Rattle.channel_core.specs.Steps.{asked_by, next_served}
use Rattle.channel_net.specs.Steps.{net_answer}
use Rattle.grpc_base.specs.declared.kind.Pick.{Pick}
use Rattle.lb_policy.specs.Table.{pick_of}
use Rattle.session_actions.specs.Actions.{following}
use Rattle.session_actions.specs.Attempts.{is_queued}
use Rattle.session_actions.specs.Policies.{current_policy, is_served_by, pick_requested, policy_of, policy_state}
use Rattle.session_actions.specs.Words.{numbered}
use Rattle.session_actions.specs.declared.action.Action.TheVariants as action
use Rattle.session_actions.specs.declared.attempt.Attempt.{Attempt}
use Rattle.session_actions.specs.declared.entry.OpenEntry.{OpenEntry}
use Rattle.session_actions.specs.declared.entry.Stage.TheVariants as stage
use Rattle.session_actions.specs.declared.policy.PolicyUse.{PolicyUse}
use Rattle.session_actions.specs.declared.seen.Seen.{Seen}
use Rattle.attempt_cases.specs.PassActions.Serves.{IsPassing}

-- what the current policy answers
abbrev pub answer_for : PolicyUse → Seen → Pick
answer_for g s = pick_of (policy_of g s)

-- a pick request is next, of an attempt that waits
pub record AskNext (p : ℕ × ℕ) (s : Seen) : Type 0 where
  pub policy : PolicyUse
  pub current : current_policy s ≡ Some policy
  pub attempt : Attempt
  pub there : numbered s.attempts p.1 ≡ Some attempt
  pub place : attempt.place ≡ p.1
  pub call : attempt.row.call ≡ p.0
  pub queued : is_queued attempt s ≡ true
  -- its policy is READY, or in TRANSIENT_FAILURE where its call does not wait for ready
  pub served : is_served_by (policy_state policy s) attempt s ≡ true
  pub next : following s ≡ Some (action.PickRequested p.1 policy.number (answer_for policy s))

-- whom the channel serves next asks next
abbrev pub AsksFollow : Type 0
AsksFollow =
    (last p : ℕ × ℕ) (x : StateSeen) (o : OpenEntry) (s : Seen) → Agrees x s → IsAt stage.Settling o s → IsPassing last o s → next_served last x ≡ Some p → AskNext p s

-- the channel once it has asked; its net counts its pick requests, and asks no more once it counted 2^64 - 1 of them
abbrev pub asked_for : ℕ → PolicyUse → Seen → StateSeen → StateSeen
asked_for row g s x = asked_by row (record { generation = g.number; pick = answer_for g s }) (asked x)

abbrev pub MayAsk : StateSeen → Type 0
MayAsk x = nat_lt x.net.asker.asks 18446744073709551615 ≡ true

pub record HasAsked (p : ℕ × ℕ) (g : PolicyUse) (x : StateSeen) (s : Seen) : Type 0 where
  pub answer : net_answer x.net ≡ Some (record { generation = g.number; pick = answer_for g s })
  pub agrees : Agrees (asked_for p.1 g s x) (pick_requested p.1 g.number (answer_for g s) s)

abbrev pub AsksAgree : Type 0
AsksAgree =
    (p : ℕ × ℕ) (x : StateSeen) (o : OpenEntry) (s : Seen) → Agrees x s → s.current ≡ Some o → MayAsk x → (k : AskNext p s) → HasAsked p k.policy x s
