-- A first Shutdown, with what runs keep.
use Rattle.run_cases.proofs.KnownStages.Deadlines.{few_calls}
use Rattle.run_cases.proofs.KnownStages.Picks.{picks_are_there}
use Rattle.run_cases.specs.KnownStages.Laws.{KnownShutdownsAreAnswered}
use Rattle.event_cases.specs.FirstShutdowns.Laws.{FirstShutdownsAreAnswered}

pub known_shutdowns_are_answered : FirstShutdownsAreAnswered → KnownShutdownsAreAnswered
known_shutdowns_are_answered first x y r o s h at fresh none case answers =
    first x y r o s h at fresh none
    (record {
      event_is = case.event_is;
      going = case.going;
      unreset = case.known.early.resets;
      early = case.known.early;
      prefaced = case.known.prefaced;
      theirs = case.known.theirs;
      picks = picks_are_there case.known.reached.setup case.known.reached.actions s case.known.reached.does;
      few = few_calls x s case.known;
    })
    answers
