use Rattle.std.proofs.Common.{◌≡◌, ◌++◌, ◌∷◌, [], ℕ, List, subst, arith}
use Rattle.std.specs.Prelude.{OnOk, codes, decimal}
use Rattle.std.proofs.lemmas.Grind.{common_steps}
use Rattle.script_text.specs.Output.{spaced}
use Rattle.script_text.specs.Spelling.{hex_digits, word_bytes}
use Rattle.script_text.proofs.Words.{word_after}
use Rattle.script_text.proofs.events.append_ping.Goals as goal

pub returns : goal.returns
returns c =
    let prefix : c.push.new.self.items ≡ c.args.out.now.items ++ spaced (codes "ping" ∷ decimal c.args.link ∷ []) ++ 32 ∷ [] = grind (arith, common_steps) in
    subst (λ (t : List ℕ). OnOk c.append_hex_of_word.result (c.append_hex_of_word.new.out.items ≡ t))
    (word_after c.push.new.self.items c.args.out.now.items (decimal c.args.link) (hex_digits (word_bytes c.args.word)) prefix)
    c.append_hex_of_word.ensures
