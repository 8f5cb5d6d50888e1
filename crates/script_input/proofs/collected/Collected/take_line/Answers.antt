use Rattle.std.proofs.Common.{◌≡◌, ◌++◌, ◌∙◌, refl}
use Rattle.script_input.proofs.StateLaws.{decided_line, taken_line}
use Rattle.script_input.proofs.collected.Collected.take_line.Goals as goal

pub returns-in-Err-clause-bad : goal.returns-in-Err-clause-bad
returns-in-Err-clause-bad c =
    let joined : c.as_slice.result.now ≡ c.args.self.now.line.items ++ c.args.text.now = c.as_slice.ensures.value ∙ c.in_ok-extend_from_slice.ensures.items in
    decided_line c.args.self.now c.args.text.now c.as_slice.result.now c.in-Err.fault c.requires.free joined c.in-Err.ensures.bad

pub returns-clause-ok : goal.returns-clause-ok
returns-clause-ok c = λ input h.
    let joined : c.as_slice.result.now ≡ c.args.self.now.line.items ++ c.args.text.now = c.as_slice.ensures.value ∙ c.in_ok-extend_from_slice.ensures.items in
    taken_line c.args.self.now _ input c.args.text.now c.as_slice.result.now c.in-Ok.read c.requires.free joined c.in-Ok.ensures.ok c.in_ok-keep.ensures.kept c.clear.ensures.items refl h
