-- The parts of a JSON value (RFC 8259, section 3), in the text's order; None where the value is of another kind.
use Rattle.std.specs.Prelude.{ℕ, Bool, List, [], ◌∷◌, Option, Some, None, if◌then◌else◌, option_and_then}
use Rattle.std.specs.Str.{bytes_eq}
use Rattle.json_text.specs.Tree.{Tree, boolean, number, string, list, object, Items, no_items, item_after, Members, no_members, member_after}
use Rattle.json_text.specs.Views.{tree_of}
use Rattle.json_text.specs.declared.json.Json.{Json}

-- all of these, and then those after them
abbrev pub items_onto : Items → List Tree → List Tree
items_onto no_items after = after
items_onto (item_after items v) after = items_onto items (v ∷ after)

abbrev pub members_onto : Members → List (List ℕ × Tree) → List (List ℕ × Tree)
members_onto no_members after = after
members_onto (member_after members name v) after = members_onto members ((name, v) ∷ after)

-- the values of a list
abbrev pub values_in : Tree → Option (List Tree)
values_in (list items) = Some (items_onto items [])
values_in v = None

-- the members of an object: names and values
abbrev pub members_in : Tree → Option (List (List ℕ × Tree))
members_in (object members) = Some (members_onto members [])
members_in v = None

-- the characters of a string
abbrev pub text_in : Tree → Option (List ℕ)
text_in (string text) = Some text
text_in v = None

-- a number as it is written
abbrev pub number_in : Tree → Option (List ℕ)
number_in (number text) = Some text
number_in v = None

-- true or false
abbrev pub flag_in : Tree → Option Bool
flag_in (boolean b) = Some b
flag_in v = None

-- the value of the first member of this name
abbrev pub member_of : List ℕ → List (List ℕ × Tree) → Option Tree
member_of name [] = None
member_of name (m ∷ ms) = if bytes_eq m.0 name then Some m.1 else member_of name ms

-- the same, of an object
abbrev pub member_in : List ℕ → Tree → Option Tree
member_in name v = option_and_then (member_of name) (members_in v)

-- a member as contracts see it
abbrev pub member_seen : List ℕ × Json → List ℕ × Tree
member_seen m = (m.0, tree_of m.1)
