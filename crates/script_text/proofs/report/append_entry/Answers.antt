use Rattle.std.proofs.Common.{◌≡◌, ◌++◌, ◌∷◌, [], ℕ, List, subst, sym, arith}
use Rattle.std.specs.Prelude.{decimal}
use Rattle.std.proofs.lemmas.Grind.{common_steps}
use Rattle.script_text.specs.Spelling.{event_words}
use Rattle.script_text.proofs.Words.{entry_parts}
use Rattle.script_text.proofs.report.append_entry.Goals as goal

pub returns : goal.returns
returns c =
    let entry = c.args.entry.now in
    subst (λ (line : List ℕ). c.push.new.self.items ≡ c.args.out.now.items ++ line ++ 10 ∷ [])
    (sym (entry_parts (decimal entry.moment) (decimal entry.word) (event_words entry.event) entry.reply))
    (grind (arith, common_steps))
