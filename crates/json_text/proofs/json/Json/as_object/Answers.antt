use Rattle.std.proofs.Common.{ap, sym, Some, ◌∙◌, map, List, ℕ}
use Rattle.json_text.specs.Views.{tree_of}
use Rattle.json_text.specs.declared.json.Json.{Json}
use Rattle.json_text.specs.Parts.{members_in, member_seen}
use Rattle.json_text.proofs.Parts.{members_of_object}
use Rattle.json_text.proofs.json.Json.as_object.Goals as goal

pub returns-in-Object : goal.returns-in-Object
returns-in-Object c =
    let here = ap (λ (xs : List (List ℕ × Json)). Some (map member_seen xs)) c.as_slice.ensures.value in
    here ∙ sym (members_of_object c.in-Object.members) ∙ ap (λ (j : Json). members_in (tree_of j)) (sym c.in-Object.is)
