-- What the channel keeps of one call (`call_core`) of what a session has done so far: what the application asked, its configuration and tokens, its end,
-- its attempts, and its part of the ledger. The bytes of its messages, and what came for its application, are apart.
-- Example: a call has its configuration, and attempt 1 of it waits for a pick. In the session it has two marks, Configured and Made; in the channel one
-- attempt was sent, row 1 is live without a link, and no moment is set for the next attempt.
use Rattle.std.specs.Option.{option_map}
use Rattle.std.specs.Prelude.{List, None, Option, Some, false, filter, fold, length, map, max, ℕ, ◌&&◌, ◌||◌, ◌≡◌, Bool}
use Rattle.a6_numbers.specs.Throttling.{Bucket}
use Rattle.call_core.specs.Steps.{Stepped}
use Rattle.call_core.specs.declared.attempts.Attempts.{Attempts}
use Rattle.call_core.specs.declared.live.LiveRow.{LiveRow}
use Rattle.grpc_base.specs.declared.plan.CallPlan.{CallPlan}
use Rattle.grpc_base.specs.declared.plan.CallPlan.TheVariants as plan
use Rattle.service_config.specs.Choice.{chosen_for}
use Rattle.session_actions.specs.Attempts.{commitment, is_of, is_outstanding, is_queued, was_retried_so}
use Rattle.session_actions.specs.Configs.{config_of_call, plan_of}
use Rattle.session_actions.specs.DueAttempts.{attempts_made, due_state, last_counted, last_delayed}
use Rattle.session_actions.specs.Entries.{entry}
use Rattle.session_actions.specs.Sessions.{call_seen}
use Rattle.session_actions.specs.Tokens.{run_of, tokens_in}
use Rattle.session_actions.specs.Words.{numbered}
use Rattle.session_actions.specs.declared.attempt.Attempt.{Attempt}
use Rattle.session_actions.specs.declared.call.Call.{Call}
use Rattle.session_actions.specs.declared.config.ThrottleRun.{ThrottleRun}
use Rattle.session_actions.specs.declared.due.DueState.{DueState}
use Rattle.session_actions.specs.declared.seen.Seen.{Seen}

-- its attempts that are queued or outstanding
abbrev pub is_live : Seen → Call → Attempt → Bool
is_live s c a = is_of c a && (is_outstanding a || is_queued a s)

abbrev pub live_row : Attempt → LiveRow
live_row a = record { place = a.place; number = a.row.number; link = option_map (λ at. at.link) a.row.placed }

abbrev pub live_rows : Seen → Call → List LiveRow
live_rows s c = map live_row (filter (is_live s c) s.attempts)

-- the bytes of the longest message that was accepted
abbrev pub longest : List (List ℕ) → ℕ
longest messages = fold (λ n m. max n (length m)) 0 messages

-- the bucket of a run of throttle settings
abbrev pub bucket_of : Seen → ThrottleRun → Bucket
bucket_of s run = record { start = run.throttle.start; ratio = run.throttle.ratio; count = tokens_in run s }

-- after which attempt the server asked for a delay is kept before the configuration, where there was none, and of a call that may be retried
abbrev pub KeepsDelay : Option ℕ → CallPlan → Type 0
KeepsDelay None p = Unit {0}
KeepsDelay (Some config) (plan.Retry p) = Unit {0}
KeepsDelay (Some config) _ = ⊥

-- what is known of its next attempt: no moment counts where none is made
pub record DuesAgree (d : DueState) (a : Attempts) : Type 0 where
  pub newest : d.newest ≡ a.newest
  pub placed : d.placed ≡ a.placed
  pub stopped : d.stopped ≡ a.stopped
  pub forced : a.stopped ≡ false → d.forced ≡ a.forced

-- and of those that were made. (The last end that counts, and the last delay, are kept while the call is not committed.)
pub record AttemptsAgree (s : Seen) (c : Call) (a : Attempts) : Type 0 where
  pub sent : attempts_made c s ≡ a.sent
  pub due : DuesAgree (due_state c s) a
  pub unplaced : a.sent ≡ 0 → a.placed ≡ None
  pub delayed : KeepsDelay c.config (plan_of c s) → a.committed ≡ None → last_delayed c a.sent s ≡ a.delayed
  pub last : a.committed ≡ None → last_counted c s ≡ a.last
  pub refused : was_retried_so c s ≡ a.is_refusal_followed
  pub committed : option_map (λ k. k.place) (commitment c s) ≡ a.committed

pub record Sees (s : Seen) (c : Call) (x : Stepped) : Type 0 where
  pub own : numbered s.calls c.number ≡ Some c
  pub number_is : c.number ≡ x.call.number
  pub request : c.request ≡ x.call.request
  pub begun : c.begun_at ≡ x.call.begun
  pub chosen : option_map (λ h. chosen_for h.config c.request.path) (config_of_call c s) ≡ x.call.chosen
  pub finished : c.finished ≡ x.call.is_finished
  pub longest_is : longest c.messages ≡ x.call.longest
  pub ended : option_map (λ e. e.cause) c.end ≡ x.call.ended
  pub attempts : AttemptsAgree s c x.call.attempts
  pub live : live_rows s c ≡ x.call.live
  pub tokens : option_map (bucket_of s) (run_of c s) ≡ x.tokens
  -- its part of the ledger
  pub entry_is : entry s ≡ x.ledger.entry
  pub rows : map (λ a. a.row) s.attempts ≡ x.ledger.rows
  pub call_is : numbered x.ledger.calls c.number ≡ Some (call_seen s c)
