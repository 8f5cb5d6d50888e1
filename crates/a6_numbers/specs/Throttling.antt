-- The token bucket of a config, in thousandths of a token (gRFC A6, "Throttling Retry Attempts and Hedged RPCs").
use Rattle.std.specs.Prelude.{ℕ, ◌+◌, ◌-◌, ◌*◌, Bool, nat_lt, min}
use Rattle.grpc_base.specs.declared.plan.Throttle.{Throttle}

-- a bucket: the tokens that it began with, which are the most, what a success adds, and how many there are
pub record Bucket : Type 0 where
  pub start : ℕ
  pub ratio : ℕ
  pub count : ℕ

-- the bucket of a config begins full
abbrev pub full : Throttle → Bucket
full throttle = record { start = throttle.start; ratio = throttle.ratio; count = throttle.start }

-- a failure takes one token, if there is one
abbrev pub after_failure : Bucket → Bucket
after_failure bucket = record bucket { count = bucket.count - 1000 }

-- a success adds the ratio, up to the start
abbrev pub after_success : Bucket → Bucket
after_success bucket = record bucket { count = min (bucket.count + bucket.ratio) bucket.start }

-- retries and hedges are allowed while more than half of the tokens are there
abbrev pub is_above : Bucket → Bool
is_above bucket = nat_lt bucket.start (2 * bucket.count)
