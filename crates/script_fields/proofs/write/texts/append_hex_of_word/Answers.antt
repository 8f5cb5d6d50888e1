use Rattle.std.proofs.Common.{◌≡◌, ◌++◌, ◌∙◌, ℕ, List, subst}
use Rattle.std.specs.Prelude.{OnOk}
use Rattle.script_fields.specs.Spelling.{hex_digits}
use Rattle.script_fields.proofs.Digits.{word_same}
use Rattle.script_fields.proofs.write.texts.append_hex_of_word.Goals as goal

pub returns : goal.returns
returns c =
    subst (λ (bs : List ℕ). OnOk c.append_hex.result (c.append_hex.new.out.items ≡ c.args.out.now.items ++ hex_digits bs))
    (c.to_be_bytes.ensures ∙ word_same c.args.word) c.append_hex.ensures
