-- What one element more at a vector's end does to the trees that the vectors stand for.
use Rattle.std.proofs.Common.{◌≡◌, ℕ, ◌+◌, List, [], ◌∷◌, ◌++◌, length, refl, ◌∙◌, arith, Bool, true, false, map}
use Rattle.std.specs.Prelude.{◌||◌}
use Rattle.std.specs.Str.{bytes_eq}
use Rattle.json_text.specs.Tree.{Tree, Items, no_items, item_after, Members, no_members, member_after, is_named}
use Rattle.json_text.specs.Reading as read
use Rattle.json_text.specs.Order.{any_named}
use Rattle.json_text.specs.Views.{tree_of, items_from, items_of, members_from, members_of, parent_of, parents_from, parents_of}
use Rattle.json_text.specs.declared.json.Json.{Json}
use Rattle.json_text.specs.declared.place.Parent.{Parent}

items_pushed : (items : Items) (vs : List Json) (v : Json) → items_from items (map tree_of (vs ++ v ∷ [])) ≡ item_after (items_from items (map tree_of vs)) (tree_of v)
items_pushed items [] v = refl
items_pushed items (x ∷ vs) v = items_pushed (item_after items (tree_of x)) vs v

pub items_push : (vs : List Json) (v : Json) → items_of (vs ++ v ∷ []) ≡ item_after (items_of vs) (tree_of v)
items_push vs v = items_pushed no_items vs v

abbrev member_seen : List ℕ × Json → List ℕ × Tree
member_seen m = (m.0, tree_of m.1)

members_pushed : (ms : Members) (vs : List (List ℕ × Json)) (v : List ℕ × Json) → members_from ms (map member_seen (vs ++ v ∷ [])) ≡ member_after (members_from ms (map member_seen vs)) v.0 (tree_of v.1)
members_pushed ms [] v = refl
members_pushed ms (x ∷ vs) v = members_pushed (member_after ms x.0 (tree_of x.1)) vs v

pub members_push : (vs : List (List ℕ × Json)) (v : List ℕ × Json) → members_of (vs ++ v ∷ []) ≡ member_after (members_of vs) v.0 (tree_of v.1)
members_push vs v = members_pushed no_members vs v

parents_pushed : (ps : List read.Parent) (vs : List Parent) (v : Parent) → parents_from ps (vs ++ v ∷ []) ≡ parent_of v ∷ parents_from ps vs
parents_pushed ps [] v = refl
parents_pushed ps (x ∷ vs) v = parents_pushed (parent_of x ∷ ps) vs v

pub parents_push : (vs : List Parent) (v : Parent) → parents_of (vs ++ v ∷ []) ≡ parent_of v ∷ parents_of vs
parents_push vs v = parents_pushed [] vs v

parents_counted : (ps : List read.Parent) (vs : List Parent) → length (parents_from ps vs) ≡ length vs + length ps
parents_counted ps [] = omega arith
parents_counted ps (x ∷ vs) = omega (arith, parents_counted (parent_of x ∷ ps) vs)

pub parents_count : (vs : List Parent) → length (parents_of vs) ≡ length vs
parents_count vs = omega (arith, parents_counted [] vs)

or_turned : (a b c : Bool) → ((b || a) || c) ≡ (a || (b || c))
or_turned true true c = refl
or_turned true false c = refl
or_turned false true c = refl
or_turned false false c = refl

named_among : (name : List ℕ) (acc : Members) (ms : List (List ℕ × Json)) → is_named name (members_from acc (map member_seen ms)) ≡ (is_named name acc || any_named name ms)
named_among name acc [] = or_false (is_named name acc)
  where
    or_false : (b : Bool) → b ≡ (b || false)
    or_false true = refl
    or_false false = refl
named_among name acc (m ∷ ms) = named_among name (member_after acc m.0 (tree_of m.1)) ms ∙ or_turned (is_named name acc) (bytes_eq m.0 name) (any_named name ms)

pub named_from_prefix : (name : List ℕ) (ms : List (List ℕ × Json)) → is_named name (members_of ms) ≡ any_named name ms
named_from_prefix name ms = named_among name no_members ms
