use Rattle.std.proofs.Common.{ap, sym, Some, ◌∙◌, map, List}
use Rattle.json_text.specs.Views.{tree_of}
use Rattle.json_text.specs.declared.json.Json.{Json}
use Rattle.json_text.specs.Parts.{values_in}
use Rattle.json_text.proofs.Parts.{values_of_list}
use Rattle.json_text.proofs.json.Json.as_list.Goals as goal

pub returns-in-List : goal.returns-in-List
returns-in-List c =
    let here = ap (λ (xs : List Json). Some (map tree_of xs)) c.as_slice.ensures.value in
    here ∙ sym (values_of_list c.in-List.values) ∙ ap (λ (j : Json). values_in (tree_of j)) (sym c.in-List.is)
