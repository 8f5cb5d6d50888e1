use Rattle.subchannel.proofs.OnceLaws.{live-once, live-where-kept}
use Rattle.subchannel.proofs.RunLaws.{numbers-stay, failure-stays}
use Rattle.subchannel.proofs.runs.laws_of_runs.Goals as goal

pub returns : goal.returns
returns c = record {
  once = live-once;
  kept = live-where-kept;
  numbers = numbers-stay;
  failure = failure-stays;
}
