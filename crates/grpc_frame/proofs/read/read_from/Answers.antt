use Rattle.std.proofs.Common.{◌≡◌, ◌∙◌, ◌+◌, ap, sym, drop, List, ℕ}
use Rattle.std.specs.Prelude.{slice_range}
use Rattle.grpc_frame.specs.declared.next.NextMessage.TheVariants as next
use Rattle.grpc_frame.specs.Messages.{next_of}
use Rattle.grpc_frame.proofs.ReadLaws.{inside, loop_on, tail_is}
use Rattle.grpc_frame.proofs.read.read_from.Goals as goal

pub loop-length-preserved : goal.loop-length-preserved
loop-length-preserved c =
    let bytes = c.as_slice-bytes.result.now in
    let at = c.loop-length.at in
    let len = c.in-Whole.length in
    let whole : next_of c.args.limit (drop at bytes) ≡ next.Whole len = ap (next_of c.args.limit) (sym (tail_is at bytes)) ∙ sym c.next_message.ensures ∙ c.in-Whole.is in
    let message : c.in_ok-part.field-0 ≡ slice_range bytes (at + 5) (at + 5 + len) =
    c.in_ok-part.ensures ∙ ap (λ (xs : List ℕ). slice_range xs (at + 5) (at + 5 + len)) (sym c.as_slice-bytes.ensures) in (
      inside c.args.limit len at bytes whole c.loop-length.invariant.0,
      loop_on c.args.limit len at c.loop-length.messages.items c.push.new.self.items c.in_ok-part.field-0 bytes whole message c.in_ok-push.ensures.items ∙ c.loop-length.invariant.1,
    )
