use Rattle.std.proofs.Common.{◌≡◌, ◌++◌, ◌∷◌, drop}
use Rattle.std.specs.Prelude.{flat_map}
use Rattle.script_fields.specs.Spelling.{pair_text, meta_text}
use Rattle.script_fields.proofs.write.texts.append_meta.Given as goal

-- what is appended, with what is still to come, is the whole
abbrev pub invariant-loop-pair : goal.invariant-loop-pair
invariant-loop-pair l = l.fn.out.items ++ 32 ∷ meta_text l.pairs ≡ l.out.items ++ flat_map (λ f. 44 ∷ pair_text f) (drop l.pair-index l.rest)
