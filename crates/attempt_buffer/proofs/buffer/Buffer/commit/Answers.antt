use Rattle.std.proofs.Common.{◌∙◌, ◌==◌, ℕ, List, [], if◌then◌else◌, ap, sym}
use Rattle.attempt_buffer.specs.Buffers.{Buffered, left_of}
use Rattle.attempt_buffer.specs.Cursors.{seen_state}
use Rattle.attempt_buffer.proofs.BufferLaws.{left_is}
use Rattle.attempt_buffer.proofs.LeftLaws.{left_committed}
use Rattle.attempt_buffer.proofs.buffer.Buffer.commit.Goals as goal

pub returns-in-Some-clause-left : goal.returns-in-Some-clause-left
returns-in-Some-clause-left c = λ t.
    let s = seen_state c.self.inside.state in
    let row = c.args.row in
    let taken = c.in-Some.spot.taken in
    let L : List ℕ → List ℕ = λ l. if t == row then l else [] in
    let R : Buffered → List ℕ = λ b. L (left_of row b) in
    ap (left_of t) c.commit_at.ensures.seen ∙ left_committed row taken t s
    ∙ ap L (sym (left_is row taken s (sym c.in-Some.ensures.taken))) ∙ ap R c.self.view_is
