use Rattle.std.proofs.Common.{◌≡◌, ◌∙◌, ◌++◌, false, List, length, map, take, drop, refl, ap, arith, subst, sym}
use Rattle.std.specs.Option.{option_map}
use Rattle.attempt_buffer.specs.Buffers.{Buffered, is_committed_row}
use Rattle.attempt_buffer.specs.Buffers.{Cursor as Seen}
use Rattle.attempt_buffer.specs.Cursors.{IsSound, at_spot, seen_committed, seen_cursor, seen_state}
use Rattle.attempt_buffer.specs.declared.cursors.Cursor.{Cursor}
use Rattle.attempt_buffer.proofs.BufferLaws.{alone_kept, back_whole, moved_at, moved_seen, taken_else}
use Rattle.attempt_buffer.proofs.state.State.stand.Goals as goal

-- the cursors, as the code leaves them
moved_back : (c : goal.After-self-1) → take c.args.self.now.cursors.len (c.move_cursor.new.cursors ++ drop (length c.move_cursor.new.cursors) c.args.self.now.cursors.items) ≡ map (at_spot c.args.row c.args.spot) c.args.self.now.cursors.items
moved_back c =
    let new : c.move_cursor.new.cursors ≡ map (at_spot c.args.row c.args.spot) c.args.self.now.cursors.items = c.move_cursor.ensures ∙ ap (map (at_spot c.args.row c.args.spot)) c.deref_mut.ensures.value in
    back_whole c.move_cursor.new.cursors c.args.self.now.cursors.items c.args.self.now.cursors.len (omega (arith, c.move_cursor.auto.cursors, c.deref_mut.ensures.len)) ∙ new

pub returns-else-is_committed_row-clause-seen : goal.returns-else-is_committed_row-clause-seen
returns-else-is_committed_row-clause-seen c =
    let s = c.args.self.now in
    let other : is_committed_row c.args.row (option_map seen_committed s.committed) ≡ false = sym c.is_committed_row.ensures ∙ c.if-is_committed_row.false in
    let M : List Seen → Buffered = λ l. record { messages = s.messages; cursors = l; committed = option_map seen_committed s.committed; is_whole = s.is_whole } in
    ap (λ l. M (map seen_cursor l)) (moved_back c) ∙ ap M (moved_seen c.args.row c.args.spot s.cursors.items) ∙ taken_else c.args.row c.args.spot.taken (seen_state s) other

pub returns-else-is_committed_row-clause-sound : goal.returns-else-is_committed_row-clause-sound
returns-else-is_committed_row-clause-sound c =
    let s = c.args.self.now in
    let P : List Cursor → Type 0 = λ l. IsSound s.messages l s.committed in
    subst P (sym (moved_back c)) (record {
      sized = c.requires.sound.sized;
      spots = moved_at s.messages c.args.row c.args.spot s.cursors.items c.requires.at c.requires.sound.spots;
      first = c.requires.sound.first;
      fits = c.requires.sound.fits;
      alone = alone_kept (map (at_spot c.args.row c.args.spot)) s.cursors.items s.committed refl c.requires.sound.alone;
    })
