use Rattle.std.proofs.Common.{◌≡◌, ◌++◌, ◌∷◌, [], ℕ, List, subst, sym, arith}
use Rattle.std.specs.Prelude.{decimal}
use Rattle.std.proofs.lemmas.Grind.{common_steps}
use Rattle.script_text.specs.Spelling.{number_or_dash}
use Rattle.script_text.specs.Report.{kind_text, placed_words, ended_words, drawn_words}
use Rattle.script_text.proofs.Words.{row_parts}
use Rattle.script_text.proofs.rows.append_row.Goals as goal

pub returns : goal.returns
returns c =
    let row = c.args.row.now in
    subst (λ (line : List ℕ). c.push.new.self.items ≡ c.args.out.now.items ++ line ++ 10 ∷ [])
    (sym (row_parts (decimal row.call) (decimal row.number) (kind_text row.kind) (decimal row.due) (placed_words row.placed) (number_or_dash row.stream) (ended_words row.ended) (number_or_dash row.committed) (drawn_words row.ended)))
    (grind (arith, common_steps))
