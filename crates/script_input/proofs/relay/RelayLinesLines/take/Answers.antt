use Rattle.script_input.proofs.RelayLaws.{taken_relay}
use Rattle.script_input.proofs.relay.RelayLinesLines.take.Goals as goal

pub returns-clause-taken : goal.returns-clause-taken
returns-clause-taken c = taken_relay c.args.self.now _ c.args.text.now c.take.result (c.is_call.ensures.other c.if-is_call.false) c.take.ensures.taken
