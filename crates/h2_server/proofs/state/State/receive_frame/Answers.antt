use Rattle.h2_server.proofs.Prefixes.{shown_within}
use Rattle.h2_server.proofs.state.State.receive_frame.Goals as goal

pub returns-in-Bad-clause-within : goal.returns-in-Bad-clause-within
returns-in-Bad-clause-within c =
    shown_within c.args.bytes.now c.in-Bad.code c.fault_place.result ((c.next_frame.ensures.bad c.in-Bad.code).0 c.in-Bad.is) c.fault_place.ensures.place
