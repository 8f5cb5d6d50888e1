use Rattle.std.proofs.Common.{refl}
use Rattle.script_input.proofs.StateLaws.{nothing_read}
use Rattle.script_input.proofs.collected.Collected.new.Goals as goal

pub returns-clause-read : goal.returns-clause-read
returns-clause-read c = nothing_read _ c.new-2.ensures.items c.new-3.ensures.items refl refl c.new.ensures.kind c.new.ensures.lines
