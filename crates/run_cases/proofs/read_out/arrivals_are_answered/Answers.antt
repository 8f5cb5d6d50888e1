use Rattle.run_cases.proofs.ReadOut.Arrivals.{arrivals_are_answered}
use Rattle.run_cases.proofs.read_out.arrivals_are_answered.Goals as goal

pub returns : goal.returns
returns c =
    arrivals_are_answered c.links_are_few.ensures.bytes c.links_are_read_out.ensures c.known_stays_along_frames.ensures c.pieces_are_handled.ensures
