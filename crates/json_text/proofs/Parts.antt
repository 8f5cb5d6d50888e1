-- The parts of the tree that a value stands for are those of the value.
use Rattle.std.proofs.Common.{◌≡◌, ℕ, List, [], ◌∷◌, ◌++◌, refl, map, ◌∙◌, ap, sym, Some, Vec, Global}
use Rattle.json_text.specs.Tree.{Tree, list, object, Items, no_items, item_after, Members, no_members, member_after}
use Rattle.json_text.specs.Views.{tree_of, view_step, items_of, members_of, items_from, members_from}
use Rattle.json_text.specs.declared.json.Json.{Json, Json-F, fold-roll-Json}
use Rattle.json_text.specs.declared.json.Json.TheVariants as json
use Rattle.json_text.specs.declared.json.Json.TheVariants.{rolls-List, rolls-Object}
use Rattle.json_text.specs.Parts.{values_in, members_in, items_onto, members_onto, member_seen}

append_nil : {X : Type 0} (xs : List X) → xs ++ [] ≡ xs
append_nil [] = refl
append_nil {X = X} (x ∷ xs) = ap (λ (ys : List X). x ∷ ys) (append_nil xs)

items_after : (items : Items) (vs after : List Tree) → items_onto (items_from items vs) after ≡ items_onto items (vs ++ after)
items_after items [] after = refl
items_after items (v ∷ vs) after = items_after (item_after items v) vs after

pub items_back : (vs : List Tree) → items_onto (items_from no_items vs) [] ≡ vs
items_back vs = items_after no_items vs [] ∙ append_nil vs

members_after : (prefix : Members) (ms after : List (List ℕ × Tree)) → members_onto (members_from prefix ms) after ≡ members_onto prefix (ms ++ after)
members_after prefix [] after = refl
members_after prefix (m ∷ ms) after = members_after (member_after prefix m.0 m.1) ms after

pub members_back : (ms : List (List ℕ × Tree)) → members_onto (members_from no_members ms) [] ≡ ms
members_back ms = members_after no_members ms [] ∙ append_nil ms

-- the tree of a list and of an object
pub values_of_list : (vs : Vec Json Global) → values_in (tree_of (json.List vs)) ≡ Some (map tree_of vs.items)
values_of_list vs =
    let tree : tree_of (json.List vs) ≡ list (items_of vs.items) = ap tree_of (sym (rolls-List vs)) ∙ fold-roll-Json Tree view_step (Json-F.List vs) in
    ap values_in tree ∙ ap (λ (xs : List Tree). Some xs) (items_back (map tree_of vs.items))

pub members_of_object : (ms : Vec (List ℕ × Json) Global) → members_in (tree_of (json.Object ms)) ≡ Some (map member_seen ms.items)
members_of_object ms =
    let tree : tree_of (json.Object ms) ≡ object (members_of ms.items) = ap tree_of (sym (rolls-Object ms)) ∙ fold-roll-Json Tree view_step (Json-F.Object ms) in
    ap members_in tree ∙ ap (λ (xs : List (List ℕ × Tree)). Some xs) (members_back (map member_seen ms.items))
