use Rattle.std.proofs.Common.{◌∙◌, ◌==◌, ◌&&◌, true, Option, Some, List, [], ℕ, refl, subst, sym}
use Rattle.attempt_buffer.specs.Buffers.{unpassed}
use Rattle.attempt_buffer.specs.Cursors.{IsSound, seen_state}
use Rattle.attempt_buffer.specs.declared.cursors.Committed.{Committed}
use Rattle.attempt_buffer.specs.declared.cursors.Cursor.{Cursor}
use Rattle.attempt_buffer.proofs.BufferLaws.{committed_is, rest_at, seen_is, sound_committed}
use Rattle.attempt_buffer.proofs.state.State.commit_at.Goals as goal

pub returns-clause-seen : goal.returns-clause-seen
returns-clause-seen c =
    let ms = c.args.self.now.messages in
    let s = c.args.spot in
    let made : Option Committed = Some (record { cursor = record { row = c.args.row; spot = record { message = 0; offset = s.offset; taken = s.offset } }; is_open = true }) in
    seen_is c.give_up.new.self (unpassed s.taken ms) c.close_all.new.cursors.items [] made made c.is_still_whole-self.result (c.args.self.now.is_whole && (s.message == 0))
    (c.give_up.ensures ∙ rest_at ms s c.requires.at) c.close_all.ensures refl c.is_still_whole-self.ensures
    ∙ committed_is (seen_state c.args.self.now) c.args.row s c.requires.sized c.requires.at

pub returns-clause-sound : goal.returns-clause-sound
returns-clause-sound c =
    let ms = c.args.self.now.messages in
    let s = c.args.spot in
    let made : Option Committed = Some (record { cursor = record { row = c.args.row; spot = record { message = 0; offset = s.offset; taken = s.offset } }; is_open = true }) in
    let P : List (List ℕ) → Type 0 = λ l. IsSound l c.close_all.new.cursors.items made in
    let Q : List Cursor → Type 0 = λ cs. IsSound (unpassed s.taken ms) cs made in
    subst P (sym (c.give_up.ensures ∙ rest_at ms s c.requires.at)) (subst Q (sym c.close_all.ensures) (sound_committed ms s c.args.row c.requires.sized c.requires.at c.requires.fits))
