use Rattle.std.proofs.Common.{◌≡◌, List, ℕ, [], ◌++◌, sym, ◌∙◌, ap, append-nil}
use Rattle.std.specs.Prelude.{map}
use Rattle.h2_link.specs.Steps.{unseen}
use Rattle.h2_link.proofs.Lists.{none_first}
use Rattle.h2_link.proofs.apply_frame.push_unseen_tags.Goals as goal

pub returns-clause-news : goal.returns-clause-news
returns-clause-news c =
    let none : c.loop-tag.waiting ≡ [] = none_first c.loop-tag.waiting (sym c.in_default.ensures) in
    sym (append-nil c.loop-tag.news) ∙ (sym (ap (λ (t : List ℕ). c.loop-tag.news ++ map (unseen c.args.seen) t) none) ∙ c.loop-tag.invariant)
