-- When the next attempt of a call is due, and which end is final (gRFC A6, "Retry Policy", "Maximum Number of Retries", "Exponential Backoff",
-- "Retryable Status Codes", "Hedging Policy", "Throttling Retry Attempts and Hedged RPCs", "Pushback" and "Summary of Retry and Hedging Logic").
-- Example: initialBackoff is 1 s, backoffMultiplier 2, maxBackoff 120 s, all random words are 0. Attempt 1 fails at 0 s: attempt 2 is due at 0.8 s,
-- after 1 s less a fifth. It fails at 1 s with a pushback of 500 ms: attempt 3 is due at 1.5 s, and the wait after its end is 0.8 s once more.
use Rattle.std.specs.List.{list_any}
use Rattle.std.specs.Option.{option_map_or, option_or}
use Rattle.std.specs.Prelude.{Bool, None, Option, Some, count_by, false, filter, filter_map, fold, if◌then◌else◌, is_none, is_some, max, nat_le, nat_lt, not, option_map, true, unwrap_or, ℕ, ◌&&◌, ◌+◌, ◌-◌, ◌||◌}
use Rattle.attempt_ledger.specs.Ends.{delay_of, is_stop, millis_after}
use Rattle.attempt_ledger.specs.Numbering.{is_transparent, kind_by_number, most_attempts}
use Rattle.attempt_ledger.specs.Throttling.{codes_of}
use Rattle.attempt_ledger.specs.declared.row.RowEnd.{RowEnd}
use Rattle.attempt_ledger.specs.declared.row.RowKind.{RowKind}
use Rattle.grpc_base.specs.Backoff.{capped_wait, spread_wait}
use Rattle.grpc_base.specs.Codes.{has_code}
use Rattle.grpc_base.specs.declared.code.Code.{Code}
use Rattle.grpc_base.specs.declared.plan.CallPlan.{CallPlan}
use Rattle.grpc_base.specs.declared.plan.Pushback.{Pushback}
use Rattle.grpc_base.specs.declared.plan.RetryPolicy.{RetryPolicy}
use Rattle.session_actions.specs.Attempts.{counts_by, is_counted, is_of, is_outstanding, is_queued}
use Rattle.session_actions.specs.Configs.{plan_of}
use Rattle.session_actions.specs.Tokens.{allows_attempt}
use Rattle.session_actions.specs.Words.{holds, is_number, last_of, numbered}
use Rattle.session_actions.specs.declared.attempt.Attempt.{Attempt}
use Rattle.session_actions.specs.declared.call.Call.{Call}
use Rattle.session_actions.specs.declared.call.MarkKind.{MarkKind}
use Rattle.session_actions.specs.declared.due.DueState.{DueState}
use Rattle.session_actions.specs.declared.seen.Seen.{Seen}
use Rattle.attempt_ledger.specs.declared.row.RowKind.TheVariants as kind
use Rattle.session_actions.specs.declared.call.MarkKind.TheVariants as mark
use Rattle.grpc_base.specs.declared.plan.CallPlan.TheVariants as plan
use Rattle.grpc_base.specs.declared.plan.Pushback.TheVariants as pushback

-- an end of this number, code, pushback and count of tokens licenses a retry: its code is one that retryPolicy names, the server does not forbid it,
-- enough tokens are left, and one attempt more is allowed. That the call is not committed is asked where this is used
abbrev pub is_licensed_by : CallPlan → ℕ → Code → Pushback → Bool → Bool
is_licensed_by (plan.Retry p) number c asks allowed = has_code p.codes c && not (is_stop asks) && allowed && nat_lt number p.max
is_licensed_by _ number c asks allowed = false

abbrev pub is_licensed : Call → ℕ → Code → Pushback → Option ℕ → Seen → Bool
is_licensed c number code asks tokens s = is_licensed_by (plan_of c s) number code asks (allows_attempt c tokens s)

-- the number of the last attempt up to this one with a counted end for which the server asked for a delay; 0 where there is none
abbrev pub was_delayed : Call → ℕ → Seen → Attempt → Bool
was_delayed c number s a =
    is_of c a && nat_le a.row.number number && is_counted a s && holds (λ e. is_some (delay_of e.pushback)) a.row.ended

abbrev pub last_delayed : Call → ℕ → Seen → ℕ
last_delayed c number s = fold (λ n a. max n a.row.number) 0 (filter (was_delayed c number s) s.attempts)

-- the moment of the retry after an end: when the server asks, or after a wait that grew with each attempt since the last such delay.
-- (The word 0 is never taken: a licensed end without such a delay drew a word.)
abbrev pub retry_wait : RetryPolicy → ℕ → RowEnd → ℕ
retry_wait p n e = spread_wait (capped_wait p.initial p.multiplier p.limit n) (unwrap_or e.word 0)

abbrev pub retry_due : RetryPolicy → ℕ → RowEnd → ℕ
retry_due p n e = option_map_or (λ millis. millis_after e millis) (delay_of e.pushback) (e.moment + retry_wait p n e)

-- before its configuration no attempt of a call is made
abbrev pub no_due : DueState
no_due = record { newest = None; placed = None; forced = None; stopped = true }

-- a counted end of a hedged call: a pushback sets the next attempt or forbids it; without one it is made now, if the tokens allow it
abbrev pub hedge_forced : Pushback → Bool → RowEnd → DueState → DueState
hedge_forced pushback.Stop allowed e d = record d { stopped = true }
hedge_forced (pushback.After millis) allowed e d = record d { forced = Some (millis_after e millis) }
hedge_forced pushback.None allowed e d = record d { forced = Some e.moment; stopped = not allowed }

abbrev pub due_by_plan : CallPlan → Call → Attempt → Seen → DueState → RowEnd → DueState
due_by_plan plan.None c a s d e = d
due_by_plan (plan.Retry p) c a s d e =
    record d {
      forced = if is_licensed c a.row.number e.code e.pushback e.tokens s
          then Some (retry_due p (a.row.number - last_delayed c a.row.number s) e) else None;
    }
due_by_plan (plan.Hedge p) c a s d e = hedge_forced e.pushback (allows_attempt c e.tokens s) e d

-- an end says something of the next attempt only where it counts, with a code of the plan, while attempts may be made
abbrev pub due_after_end : Call → Seen → DueState → Attempt → RowEnd → DueState
due_after_end c s d a e =
    if not d.stopped && counts_by a s e && has_code (codes_of (plan_of c s)) e.code
    then due_by_plan (plan_of c s) c a s d e else d

-- an attempt was made: no moment is set for the next one yet. A transparent retry is no further attempt
abbrev pub due_after_making : DueState → Attempt → DueState
due_after_making d a =
    if is_transparent a.row.kind then d
    else record d { newest = Some a.place; placed = None; forced = None }

-- what each mark says: the first attempt is due when the configuration comes; a commitment, the end of the call or a hedge that is withheld stops
-- further ones
abbrev pub due_after_mark : Call → Seen → MarkKind → ℕ → DueState → DueState
due_after_mark c s mark.Configured moment d = record d { forced = Some moment; stopped = false }
due_after_mark c s (mark.Made row) moment d = option_map_or (due_after_making d) (numbered s.attempts row) d
due_after_mark c s (mark.Placed row) moment d = if is_number row d.newest then record d { placed = Some moment } else d
due_after_mark c s (mark.Ended row) moment d =
    option_map_or (λ a. option_map_or (due_after_end c s d a) a.row.ended d) (numbered s.attempts row) d
due_after_mark c s mark.Withheld moment d = record d { stopped = true }
due_after_mark c s mark.Committed moment d = record d { stopped = true }
due_after_mark c s mark.Closed moment d = record d { stopped = true }

-- (whether an end counts is settled at its own moment: a transparent retry follows at once or never)
abbrev pub due_state : Call → Seen → DueState
due_state c s = fold (λ d m. due_after_mark c s m.what m.moment d) no_due c.marks

-- how many attempts were made; a transparent retry is no further one
abbrev pub attempts_made : Call → Seen → ℕ
attempts_made c s = count_by (λ a. is_of c a && not (is_transparent a.row.kind)) s.attempts

-- the moment at which the next attempt is due, if any: the one that an end set, or for a hedge the delay after the newest attempt was placed
abbrev pub hedge_due : CallPlan → DueState → Option ℕ
hedge_due (plan.Hedge p) d = option_map (λ placed. placed + p.delay) d.placed
hedge_due _ d = None

abbrev pub due_by : CallPlan → ℕ → DueState → Option ℕ
due_by p made d = if d.stopped || nat_le (most_attempts p) made then None else option_or d.forced (hedge_due p d)

abbrev pub next_due : Call → Seen → Option ℕ
next_due c s = due_by (plan_of c s) (attempts_made c s) (due_state c s)

-- the kind of the next attempt. (First is no default for a later one: a plan without further attempts has none due.)
abbrev pub kind_of_next : Call → Seen → RowKind
kind_of_next c s = unwrap_or (kind_by_number (plan_of c s) (attempts_made c s + 1)) kind.First

-- the row of the last counted end of a call
abbrev pub counted_row : Seen → MarkKind → Option ℕ
counted_row s (mark.Ended row) = if holds (λ a. is_counted a s) (numbered s.attempts row) then Some row else None
counted_row s _ = None

abbrev pub last_counted : Call → Seen → Option ℕ
last_counted c s = last_of (filter_map (λ m. counted_row s m.what) c.marks)

-- some attempt of a call is outstanding or queued
abbrev pub has_going : Call → Seen → Bool
has_going c s = list_any (λ a. is_of c a && (is_outstanding a || is_queued a s)) s.attempts

-- a counted end is final where no further attempt follows it: without a plan; where it licenses no retry. Of a hedged call it is so with a code
-- that hedgingPolicy does not name, or where it is the last one, no attempt goes on and none is due
abbrev pub is_final_by : CallPlan → Call → Attempt → Seen → RowEnd → Bool
is_final_by plan.None c a s e = true
is_final_by (plan.Retry p) c a s e = not (is_licensed c a.row.number e.code e.pushback e.tokens s)
is_final_by (plan.Hedge p) c a s e =
    not (has_code p.codes e.code)
    || (is_number a.place (last_counted c s) && is_none (next_due c s) && not (has_going c s))

abbrev pub is_final : Call → Attempt → Seen → Bool
is_final c a s = holds (is_final_by (plan_of c s) c a s) a.row.ended
