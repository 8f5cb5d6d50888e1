use Rattle.std.proofs.Common.{arith}
use Rattle.attempt_buffer.proofs.BufferLaws.{spot_in_text}
use Rattle.attempt_buffer.proofs.buffer.Buffer.ready.Goals as goal

pub overflow_sub-result : goal.overflow_sub-result
overflow_sub-result c = omega (arith, spot_in_text c.self.inside.state.messages c.in-Some.spot c.in-Some.ensures.spot, c.bytes.ensures)
