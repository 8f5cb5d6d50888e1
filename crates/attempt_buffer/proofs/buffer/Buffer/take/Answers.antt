use Rattle.std.proofs.Common.{◌≡◌, ◌∙◌, ◌≤◌, ◌==◌, ℕ, List, if◌then◌else◌, length, drop, ap, arith, subst, sym, length-drop}
use Rattle.std.specs.List.{concat}
use Rattle.attempt_buffer.specs.Buffers.{Buffered, left_of, taken_to}
use Rattle.attempt_buffer.specs.Cursors.{seen_state}
use Rattle.attempt_buffer.proofs.BufferLaws.{left_is, spot_in_text}
use Rattle.attempt_buffer.proofs.LeftLaws.{alone_seen, left_taken}
use Rattle.attempt_buffer.proofs.buffer.Buffer.take.Goals as goal

pub copy-afterwards-requires-clause-within : goal.copy-afterwards-requires-clause-within
copy-afterwards-requires-clause-within c =
    let s = c.self.inside.state in
    let t = c.in-Some.spot.taken in
    let left : left_of c.args.row (seen_state s) ≡ drop t (concat s.messages) = left_is c.args.row t (seen_state s) (sym c.in-Some.ensures.taken) in
    let P : Buffered → Type 0 = λ b. c.args.len ≤ length (left_of c.args.row b) in
    let within : c.args.len ≤ length (left_of c.args.row (seen_state s)) = subst P (sym c.self.view_is) c.requires.within in
    omega (arith, within, ap length left ∙ length-drop t (concat s.messages), spot_in_text s.messages c.in-Some.spot c.in-Some.ensures.spot)

pub returns-clause-left : goal.returns-clause-left
returns-clause-left c = λ t.
    let s = c.self.inside.state in
    let row = c.args.row in
    let R : Buffered → List ℕ = λ b. if t == row then drop c.args.len (left_of row b) else left_of t b in
    ap (left_of t) (c.stand.ensures.seen ∙ ap (λ n. taken_to row n (seen_state s)) c.copy-afterwards.ensures.taken)
    ∙ left_taken row c.in-Some.spot.taken c.args.len t (seen_state s) (alone_seen s.cursors.items s.committed c.self.invariant.alone) (sym c.in-Some.ensures.taken)
    ∙ ap R c.self.view_is
