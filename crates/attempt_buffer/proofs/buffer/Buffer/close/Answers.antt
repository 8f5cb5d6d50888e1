use Rattle.std.proofs.Common.{◌≡◌, ◌∙◌, ◌==◌, true, false, not, IfSome, List, [], map, refl, ap, subst, sym}
use Rattle.std.specs.List.{filter}
use Rattle.std.specs.Option.{option_map}
use Rattle.attempt_buffer.specs.Buffers.{Buffered, closed, is_committed_row}
use Rattle.attempt_buffer.specs.Buffers.{Cursor as Seen}
use Rattle.attempt_buffer.specs.Cursors.{CursorsAreAt, seen_committed, seen_cursor, seen_state}
use Rattle.attempt_buffer.specs.declared.cursors.Cursor.{Cursor}
use Rattle.attempt_buffer.proofs.BufferLaws.{alone_kept, closed_at, closed_else, closed_seen}
use Rattle.attempt_buffer.proofs.buffer.Buffer.close.Goals as goal

pub invariant_of-self-else-is_committed_row : goal.invariant_of-self-else-is_committed_row
invariant_of-self-else-is_committed_row c =
    let s = c.self.inside.state in
    let P : List Cursor → Type 0 = λ l. CursorsAreAt s.messages l in
    let Q : List Cursor → Type 0 = λ l. IfSome s.committed (λ x. x.is_open ≡ true → l ≡ []) in
    record {
      sized = c.self.invariant.sized;
      spots = subst P (sym c.remove_cursor.ensures) (closed_at s.messages c.args.row s.cursors.items c.self.invariant.spots);
      first = c.self.invariant.first;
      fits = c.self.invariant.fits;
      alone = subst Q (sym c.remove_cursor.ensures) (alone_kept (filter (λ x. not (x.row == c.args.row))) s.cursors.items s.committed refl c.self.invariant.alone);
    }

pub returns-else-is_committed_row : goal.returns-else-is_committed_row
returns-else-is_committed_row c =
    let s = c.self.inside.state in
    let other : is_committed_row c.args.row (option_map seen_committed s.committed) ≡ false = sym c.is_committed_row.ensures ∙ c.if-is_committed_row.false in
    let M : List Seen → Buffered = λ l. record { messages = s.messages; cursors = l; committed = option_map seen_committed s.committed; is_whole = s.is_whole } in
    ap (λ l. M (map seen_cursor l)) c.remove_cursor.ensures ∙ ap M (closed_seen c.args.row s.cursors.items) ∙ closed_else c.args.row (seen_state s) other ∙ ap (closed c.args.row) c.self.view_is
