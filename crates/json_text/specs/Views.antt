-- What the reader's values stand for, apart from where they lie in memory.
use Rattle.std.specs.Prelude.{ℕ, List, [], ◌∷◌, map}
use Rattle.json_text.specs.Tree.{Tree, null, boolean, number, string, list, object, Items, no_items, item_after, Members, no_members, member_after}
use Rattle.json_text.specs.Reading.{State, Stage, at_top, at_first_value, at_value, at_first_name, at_name, at_colon, after_item, after_member, in_word, in_number, in_string, in_name, at_end}
use Rattle.json_text.specs.Reading as read
use Rattle.json_text.specs.declared.json.Json.{Json, fold-Json}
use Rattle.json_text.specs.declared.json.Json.TheOpen.{Json-F}
use Rattle.json_text.specs.declared.place.Place.{Place}
use Rattle.json_text.specs.declared.place.Place.TheVariants as place
use Rattle.json_text.specs.declared.place.Parent.{Parent}
use Rattle.json_text.specs.declared.place.Parent.TheVariants as parent
use Rattle.json_text.specs.declared.place.Reader.{Reader}

abbrev pub items_from : Items → List Tree → Items
items_from items [] = items
items_from items (v ∷ vs) = items_from (item_after items v) vs

abbrev pub members_from : Members → List (List ℕ × Tree) → Members
members_from members [] = members
members_from members (m ∷ ms) = members_from (member_after members m.0 m.1) ms

-- one level, with each value inside already seen as its tree
abbrev pub view_step : Json-F Tree → Tree
view_step Json-F.Null = null
view_step (Json-F.Bool b) = boolean b
view_step (Json-F.Number text) = number text
view_step (Json-F.Str text) = string text
view_step (Json-F.List v) = list (items_from no_items v.items)
view_step (Json-F.Object v) = object (members_from no_members v.items)

-- the tree that a value stands for
abbrev pub tree_of : Json → Tree
tree_of = fold-Json Tree view_step

abbrev pub items_of : List Json → Items
items_of values = items_from no_items (map tree_of values)

abbrev pub members_of : List (List ℕ × Json) → Members
members_of members = members_from no_members (map (λ m. (m.0, tree_of m.1)) members)

abbrev pub parent_of : Parent → read.Parent
parent_of (parent.List v) = read.in_list (items_of v.items)
parent_of (parent.Member ms name) = read.in_object (members_of ms.list.items) name

-- those that stand last in the vector are innermost
abbrev pub parents_from : List read.Parent → List Parent → List read.Parent
parents_from parents [] = parents
parents_from parents (p ∷ ps) = parents_from (parent_of p ∷ parents) ps

abbrev pub parents_of : List Parent → List read.Parent
parents_of ps = parents_from [] ps

abbrev pub stage_of : Place → Stage
stage_of place.Top = at_top
stage_of place.FirstValue = at_first_value
stage_of place.Value = at_value
stage_of place.FirstName = at_first_name
stage_of (place.Name ms) = at_name (members_of ms.list.items)
stage_of place.Colon = at_colon
stage_of (place.AfterItem v) = after_item (items_of v.items)
stage_of (place.AfterMember ms) = after_member (members_of ms.list.items)
stage_of (place.InWord letter letters v) = in_word letter letters.now (tree_of v)
stage_of (place.InNumber part start text) = in_number part start text
stage_of (place.InString q) = in_string q
stage_of (place.InName ms start q) = in_name (members_of ms.list.items) start q
stage_of (place.End v) = at_end (tree_of v)

abbrev pub state_of : Reader → State
state_of r = record { stage = stage_of r.place; parents = parents_of r.parents.items }
