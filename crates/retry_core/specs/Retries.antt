-- The law of retries, of one attempt that ended (gRFC A6, "Retry Policy", "Exponential Backoff" and "Pushback").
use Rattle.std.specs.Prelude.{ℕ, ◌+◌, Bool, not, ◌&&◌, nat_lt, if◌then◌else◌}
use Rattle.std.specs.Option.{option_map_or}
use Rattle.grpc_base.specs.Backoff.{capped_wait, spread_wait}
use Rattle.grpc_base.specs.Codes.{has_code}
use Rattle.grpc_base.specs.declared.plan.RetryPolicy.{RetryPolicy}
use Rattle.attempt_ledger.specs.declared.next.Next.{Next}
use Rattle.attempt_ledger.specs.declared.next.Next.TheVariants as next
use Rattle.attempt_ledger.specs.declared.row.RowEnd.{RowEnd}
use Rattle.attempt_ledger.specs.Ends.{delay_of, is_stop, millis_after}

-- a further attempt is licensed: the code is one of the policy's, the server doesn't forbid it, more than half of the tokens are
-- left after this end, and one more attempt is allowed
abbrev pub is_licensed : RetryPolicy → ℕ → RowEnd → Bool → Bool
is_licensed policy number end above =
    has_code policy.codes end.code && not (is_stop end.pushback) && above && nat_lt number policy.max

-- the wait before it where the server asks for no delay. It grows with the attempts since the server last asked for one, up to
-- the policy's limit, and is spread by a fifth to both sides by a random word
abbrev pub drawn_wait : RetryPolicy → ℕ → ℕ → ℕ
drawn_wait policy since word = spread_wait (capped_wait policy.initial policy.multiplier policy.limit since) word

-- when it is due
abbrev pub retry_due : RetryPolicy → ℕ → RowEnd → ℕ → ℕ
retry_due policy since end word = option_map_or (millis_after end) (delay_of end.pushback) (end.moment + drawn_wait policy since word)

-- what follows the end
abbrev pub after_retryable_end : RetryPolicy → ℕ → ℕ → RowEnd → Bool → ℕ → Next
after_retryable_end policy number since end above word =
    if is_licensed policy number end above then next.Again (retry_due policy since end word) else next.Final
