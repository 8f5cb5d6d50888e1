-- What is done in a load, and when.
use Rattle.std.specs.Prelude.{ℕ, ◌+◌, ◌*◌, ◌^◌, Some, List, [], ◌∷◌, ◌++◌, codes, map, flat_map, replicate}
use Rattle.std.specs.List.{range_with_len}
use Rattle.grpc_base.specs.declared.address.Address.{Address}
use Rattle.grpc_base.specs.declared.event.Event.TheVariants as event
use Rattle.grpc_base.specs.Backoff.{draw, nth_word}
use Rattle.load_plan.specs.declared.action.LoadAction.{LoadAction}
use Rattle.load_plan.specs.declared.action.LoadStep.{LoadStep}
use Rattle.load_plan.specs.declared.action.LoadStep.TheVariants as does
use Rattle.load_plan.specs.Answers.{request}
use Rattle.load_plan.specs.Batches.{batch_moment, batches_of, calls_in, round_nanos}

abbrev pub at : ℕ → LoadStep → LoadAction
at moment step = record { moment = moment; step = step }

abbrev pub moment_of : LoadAction → ℕ
moment_of action = action.moment

-- 127.0.0.1:50051 and 127.0.0.1:50052
abbrev pub addresses : List Address
addresses =
    record { ip = 127 * 2 ^ 24 + 1; port = 50051 }
    ∷ record { ip = 127 * 2 ^ 24 + 1; port = 50052 }
    ∷ []

-- the authority of the requests: the first address
abbrev pub authority : List ℕ
authority = codes "127.0.0.1:50051"

-- the service config
abbrev pub config : List ℕ
config = codes "{\"loadBalancingConfig\":[{\"round_robin\":{}}],\"methodConfig\":[{\"name\":[{}],\"retryPolicy\":{\"maxAttempts\":4,\"initialBackoff\":\"0.01s\",\"maxBackoff\":\"0.1s\",\"backoffMultiplier\":2,\"retryableStatusCodes\":[\"UNAVAILABLE\"]}}],\"retryThrottling\":{\"maxTokens\":100,\"tokenRatio\":0.1}}"

-- before the first call: the resolver's result, two links, and an exchange
abbrev pub opening : List LoadAction
opening =
    at 0 (does.Post (event.Resolved addresses (Some config)))
    ∷ at 0 (does.Post event.TakeDial)
    ∷ at 0 (does.Post (event.LinkUp 1))
    ∷ at 0 (does.Post event.TakeDial)
    ∷ at 0 (does.Post (event.LinkUp 2))
    ∷ at 0 does.Exchange
    ∷ []

-- the message of a call: 0 to 1,000 times the letter a, by the seed's word of the call
abbrev pub message : ℕ → ℕ → List ℕ
message seed call = replicate (draw (nth_word seed call) 1000) 0x61

-- a call: it begins, sends its message and finishes, and the links exchange what they hold
abbrev pub call_actions : ℕ → ℕ → ℕ → List LoadAction
call_actions seed moment call =
    at moment (does.Post (event.Begin request))
    ∷ at moment (does.Post (event.Send call (message seed call)))
    ∷ at moment (does.Post (event.Finish call))
    ∷ at moment does.Exchange
    ∷ []

-- a round, from 1, after the calls that began at a moment: time passes, and the links exchange what they hold
abbrev pub round_actions : ℕ → ℕ → List LoadAction
round_actions begun round =
    at (begun + round * round_nanos) (does.Post event.Tick)
    ∷ at (begun + round * round_nanos) does.Exchange
    ∷ []

abbrev pub takes_at : ℕ → ℕ → LoadAction
takes_at moment call = at moment (does.Takes call)

-- a batch: its calls, sixteen rounds, and takes of each of its calls
abbrev pub batch_actions : ℕ → ℕ → ℕ → List LoadAction
batch_actions seed calls number =
    flat_map (call_actions seed (batch_moment number)) (calls_in calls number)
    ++ flat_map (round_actions (batch_moment number)) (range_with_len 1 16)
    ++ map (takes_at (batch_moment (number + 1))) (calls_in calls number)

-- a load: what is done before the first call, and then its batches one after another
abbrev pub actions_of : ℕ → ℕ → List LoadAction
actions_of seed calls = opening ++ flat_map (batch_actions seed calls) (range_with_len 0 (batches_of calls))
