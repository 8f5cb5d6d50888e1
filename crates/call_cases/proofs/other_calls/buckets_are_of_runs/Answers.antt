use Rattle.call_cases.proofs.OtherCalls.Buckets.{buckets_are_of_runs}
use Rattle.call_cases.proofs.other_calls.buckets_are_of_runs.Goals as goal

pub returns : goal.returns
returns c = buckets_are_of_runs
