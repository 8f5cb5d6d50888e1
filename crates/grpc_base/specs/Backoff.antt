-- Backoff arithmetic: plain recursions, in nanoseconds and thousandths.
use Rattle.std.specs.Prelude.{ℕ, zero, suc, ◌+◌, ◌-◌, ◌*◌, ◌/◌, ◌%◌, ◌^◌, min, pred, if◌then◌else◌, nat_le}

-- a start that grew n times by a factor in thousandths, rounded down, never past a limit
abbrev pub grown : ℕ → ℕ → ℕ → ℕ → ℕ
grown start factor limit zero = start
grown start factor limit (suc n) = min (grown start factor limit n * factor / 1000) limit

-- the wait before the n-th retry as it grows, n from 1, at most 10^18 ns (gRFC A6, "Exponential Backoff")
abbrev pub raw_wait : ℕ → ℕ → ℕ → ℕ
raw_wait initial multiplier n = grown initial multiplier (10 ^ 18) (pred n)

-- that wait, at most the largest one of the policy
abbrev pub capped_wait : ℕ → ℕ → ℕ → ℕ → ℕ
capped_wait initial multiplier largest n = min (raw_wait initial multiplier n) largest

-- a random word of 64 bits spread over 0 to n
abbrev pub draw : ℕ → ℕ → ℕ
draw word n = word * (n + 1) / 2 ^ 64

-- a wait spread by a fifth to both sides (gRPC, "Connection Backoff Protocol": JITTER 0.2; gRFC A6, "Exponential Backoff")
abbrev pub spread_wait : ℕ → ℕ → ℕ
spread_wait wait word = wait - wait / 5 + draw word (2 * (wait / 5))

-- the k-th word of an entry, k from 0
abbrev pub nth_word : ℕ → ℕ → ℕ
nth_word word k = (word + k * 0x9E3779B97F4A7C15) % 2 ^ 64

-- the wait of the n-th dial since the last success, before it is spread: 1 s, times 1.6, at most 120 s
-- (gRPC, "Connection Backoff Protocol")
abbrev pub connect_base : ℕ → ℕ
connect_base n = grown (10 ^ 9) 1600 (120 * 10 ^ 9) (pred n)

-- that wait spread by a fifth to both sides; the first dial's is not spread
abbrev pub connect_wait : ℕ → ℕ → ℕ
connect_wait n word =
    if nat_le n 1 then connect_base 1
    else spread_wait (connect_base n) word

-- no dial is given up before 20 s
abbrev pub connect_least : ℕ
connect_least = 20 * 10 ^ 9
