use Rattle.std.proofs.Common.{◌∙◌, ◌++◌, ◌-◌, take, drop, ap, arith, append_assoc}
use Rattle.std.specs.List.{concat}
use Rattle.attempt_buffer.proofs.SpotLaws.{bytes_on}
use Rattle.attempt_buffer.proofs.messages.Messages.copy.Goals as goal

pub loop-at-preserved : goal.loop-at-preserved
loop-at-preserved c =
    let text = concat c.args.self.now in
    let s = c.args.spot.taken in
    let a = c.loop-at.at.taken in
    let r = c.copy_some-at.result.taken in
    record {
      spot = c.copy_some-at.ensures.spot;
      from = omega (arith, c.loop-at.invariant.from, c.copy_some-at.ensures.further);
      to = omega (arith, c.copy_some-at.ensures.most, c.loop-at-test.true);
      bytes = c.copy_some-at.ensures.bytes ∙ ap (λ l. l ++ take (r - a) (drop a text)) c.loop-at.invariant.bytes ∙ append_assoc c.args.out.now.items (take (a - s) (drop s text)) (take (r - a) (drop a text))
          ∙ ap (λ l. c.args.out.now.items ++ l) (bytes_on text s a r c.loop-at.invariant.from (omega (arith, c.copy_some-at.ensures.further)));
      spare = omega (arith, c.copy_some-at.ensures.spare, c.copy_some-at.ensures.further, c.loop-at.invariant.spare, c.loop-at-test.true);
    }
