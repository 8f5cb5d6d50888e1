use Rattle.std.proofs.Common.{◌≡◌, ◌++◌, ◌∙◌, arith, refl}
use Rattle.script_input.proofs.StateLaws.{decided_prefix, taken_prefix}
use Rattle.script_input.proofs.collected.Collected.take_prefix.Goals as goal

pub returns-then-len-gt-LINE_BYTES-clause-bad : goal.returns-then-len-gt-LINE_BYTES-clause-bad
returns-then-len-gt-LINE_BYTES-clause-bad c =
    let joined : c.as_slice.result.now ≡ c.args.self.now.line.items ++ c.args.text.now = c.as_slice.ensures.value ∙ c.in_ok-extend_from_slice.ensures.items in
    decided_prefix c.args.self.now c.args.text.now c.as_slice.result.now c.open_fault.result c.requires.free joined
    (omega (arith, c.if-len-gt-LINE_BYTES.true, c.len.ensures, c.as_slice.ensures.len)) c.open_fault.ensures

pub returns-clause-ok : goal.returns-clause-ok
returns-clause-ok c = λ input h.
    taken_prefix c.args.self.now _ input c.args.text.now c.requires.free c.in_ok-extend_from_slice.ensures.items
    (omega (arith, c.if-len-gt-LINE_BYTES.false, c.len.ensures, c.extend_from_slice.new.self.ok)) refl refl refl refl refl h
