-- A JSON value (RFC 8259, section 3): what a text means, apart from blanks and from how a string is escaped.
use Rattle.std.specs.Prelude.{ℕ, Bool, false, ◌||◌, List, [], ◌∷◌}
use Rattle.std.specs.Str.{bytes_eq}

mutual
  pub data Tree : Type 0 where
    null : Tree
    boolean : Bool → Tree
    number : List ℕ → Tree
    string : List ℕ → Tree
    list : Items → Tree
    object : Members → Tree

  -- the values of a list, the last one outermost
  pub data Items : Type 0 where
    no_items : Items
    item_after : Items → Tree → Items

  -- the members of an object, the last one outermost
  pub data Members : Type 0 where
    no_members : Members
    member_after : Members → List ℕ → Tree → Members

-- whether one of the members has this name
abbrev pub is_named : List ℕ → Members → Bool
is_named name no_members = false
is_named name (member_after ms k v) = bytes_eq k name || is_named name ms
