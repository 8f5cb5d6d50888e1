use Rattle.std.proofs.Common.{◌≡◌, ◌∷◌, ◌++◌, [], true, not, List, subst, sym}
use Rattle.attempt_buffer.specs.Buffers.{Buffered, can_open, is_open}
use Rattle.attempt_buffer.specs.Cursors.{CursorsAreAt, seen_state}
use Rattle.attempt_buffer.specs.declared.cursors.Cursor.{Cursor}
use Rattle.attempt_buffer.proofs.BufferLaws.{alone_opened, begun_at}
use Rattle.attempt_buffer.proofs.SpotLaws.{at_start}
use Rattle.attempt_buffer.proofs.buffer.Buffer.open.Goals as goal

pub invariant_of-self-2 : goal.invariant_of-self-2
invariant_of-self-2 c =
    let s = c.self.inside.state in
    let ms = s.messages in
    let Q : Buffered → Type 0 = λ b. can_open c.args.row b ≡ true in
    let begun : Cursor = record { row = c.args.row; spot = record { message = 0; offset = 0; taken = 0 } } in
    let more : c.push.new.self.items ≡ c.self.inside.state.cursors.items ++ begun ∷ [] = c.in_ok-push.ensures.items in
    let P : List Cursor → Type 0 = λ l. CursorsAreAt ms l in
    record {
      sized = c.self.invariant.sized;
      spots = subst P (sym more) (begun_at ms c.self.inside.state.cursors.items begun c.self.invariant.spots (at_start ms c.self.invariant.sized));
      first = c.self.invariant.first;
      fits = c.self.invariant.fits;
      alone = alone_opened s.is_whole (not (is_open c.args.row (seen_state s))) c.push.new.self.items s.committed (subst Q (sym c.self.view_is) c.requires);
    }
