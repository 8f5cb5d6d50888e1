use Rattle.std.proofs.Common.{◌≡◌, ◌≤◌, ℕ, ◌+◌, ◌∷◌, ◌++◌, [], List, length, is_some, if◌then◌else◌, subst, sym}
use Rattle.std.specs.List.{concat}
use Rattle.attempt_buffer.specs.Buffers.{Buffered, text_of}
use Rattle.attempt_buffer.specs.Cursors.{IsSound, most_bytes}
use Rattle.attempt_buffer.proofs.BufferLaws.{most_is, sound_more}
use Rattle.attempt_buffer.proofs.buffer.Buffer.append_filled.Goals as goal

pub invariant_of-self-2 : goal.invariant_of-self-2
invariant_of-self-2 c =
    let s = c.self.inside.state in
    let more : c.push.new.self ≡ s.messages ++ c.args.framed ∷ [] = c.in_ok-push.ensures.ok in
    let P : Buffered → Type 0 = λ b. length (text_of b) + length c.args.framed ≤ (if is_some b.committed then 8454153 else 262144) in
    let Q : ℕ → Type 0 = λ n. length (concat s.messages) + length c.args.framed ≤ n in
    let room : length (concat s.messages) + length c.args.framed ≤ most_bytes s.committed = subst Q (sym (most_is s.committed)) (subst P (sym c.self.view_is) c.requires.room) in
    let R : List (List ℕ) → Type 0 = λ l. IsSound l s.cursors.items s.committed in
    subst R (sym more) (sound_more s.messages c.args.framed s.cursors.items s.committed c.self.invariant c.requires.filled c.requires.limit room)
