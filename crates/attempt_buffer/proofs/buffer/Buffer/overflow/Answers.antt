use Rattle.std.proofs.Common.{◌≡◌, ◌∙◌, ◌∷◌, ◌++◌, [], None, length, ap, arith, subst, sym}
use Rattle.std.specs.List.{concat}
use Rattle.std.specs.Option.{option_map}
use Rattle.attempt_buffer.specs.Buffers.{Buffered}
use Rattle.attempt_buffer.specs.Cursors.{seen_committed}
use Rattle.attempt_buffer.specs.Spots.{MessagesAreSized}
use Rattle.attempt_buffer.proofs.BufferLaws.{uncommitted_most}
use Rattle.attempt_buffer.proofs.SpotLaws.{bytes_more, sized_more}
use Rattle.attempt_buffer.proofs.buffer.Buffer.overflow.Goals as goal

pub commit_at-requires-clause-sized : goal.commit_at-requires-clause-sized
commit_at-requires-clause-sized c =
    let ms = c.self.inside.state.messages in
    let more : c.push.new.self ≡ ms ++ c.args.framed ∷ [] = c.in_ok-push.ensures.ok in
    subst MessagesAreSized (sym more) (sized_more ms c.args.framed c.self.invariant.sized c.requires.filled c.requires.limit)

pub commit_at-requires-clause-fits : goal.commit_at-requires-clause-fits
commit_at-requires-clause-fits c =
    let ms = c.self.inside.state.messages in
    let more : c.push.new.self ≡ ms ++ c.args.framed ∷ [] = c.in_ok-push.ensures.ok in
    let none : option_map seen_committed c.self.inside.state.committed ≡ None = ap (λ (b : Buffered). b.committed) c.self.view_is ∙ c.requires.uncommitted in
    omega (arith, ap (λ l. length (concat l)) more, bytes_more ms c.args.framed, c.self.invariant.fits, uncommitted_most c.self.inside.state.committed none, c.requires.limit)
