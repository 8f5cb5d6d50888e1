-- The values that are read: what a text may not have beyond the grammar.
use Rattle.std.specs.Prelude.{◌≡◌, ◌<◌, ℕ, suc, false}
use Rattle.json_text.specs.Tree.{Tree, null, boolean, number, string, list, object, Items, no_items, item_after, Members, no_members, member_after, is_named}
use Rattle.json_text.specs.Grammar.{IsPlain}

abbrev mutual
  -- A value inside this many lists and objects: with its own, at most 32 stand inside one another, no
  -- number has an exponent, and no object has a name twice.
  pub IsReadable : Tree → ℕ → Type 0
  IsReadable null outer = Unit {0}
  IsReadable (boolean b) outer = Unit {0}
  IsReadable (number n) outer = IsPlain n
  IsReadable (string s) outer = Unit {0}
  IsReadable (list items) outer = (outer < 32) × AreReadable items (suc outer)
  IsReadable (object members) outer = (outer < 32) × HasReadable members (suc outer)

  pub AreReadable : Items → ℕ → Type 0
  AreReadable no_items outer = Unit {0}
  AreReadable (item_after items v) outer = AreReadable items outer × IsReadable v outer

  pub HasReadable : Members → ℕ → Type 0
  HasReadable no_members outer = Unit {0}
  HasReadable (member_after members name v) outer =
      HasReadable members outer × (is_named name members ≡ false) × IsReadable v outer
