use Rattle.std.proofs.Common.{◌≡◌, ◌++◌, ◌∷◌, drop}
use Rattle.std.specs.Prelude.{flat_map}
use Rattle.script_fields.specs.Spelling.{address_text, addresses_text}
use Rattle.script_fields.proofs.write.texts.append_addresses.Given as goal

-- what is appended, with what is still to come, is the whole
abbrev pub invariant-loop-address : goal.invariant-loop-address
invariant-loop-address l = l.fn.out.items ++ 32 ∷ addresses_text l.addresses ≡ l.out.items ++ flat_map (λ a. 44 ∷ address_text a) (drop l.address-index l.rest)
