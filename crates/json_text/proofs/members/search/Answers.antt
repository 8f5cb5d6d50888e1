use Rattle.std.proofs.Common.{rules}
use Rattle.std.proofs.lemmas.Fn.{always_returns_same}
use Rattle.json_text.specs.Order.{place_cmp}
use Rattle.json_text.proofs.members.search.Goals as goal

-- the closure says how the name at a place stands to the one that is sought
pub returns-clause-position : goal.returns-clause-position
returns-clause-position c =
    c.binary_search_by.ensures.position (place_cmp c.args.list.now c.args.name.now) (always_returns_same _ _ _ (λ a r f called. search rules))
