use Rattle.std.proofs.Common.{ℕ, List, ◌∙◌, sym, ap}
use Rattle.std.specs.Prelude.{Option}
use Rattle.h2_link.specs.declared.news.LinkNews.{LinkNews}
use Rattle.h2_link.specs.Outcomes.{prefix_reported}
use Rattle.h2_link.proofs.Receiving.{some_prefix}
use Rattle.h2_link.proofs.link.Link.receive_first.Goals as goal

pub returns-in-Some-clause-within : goal.returns-in-Some-clause-within
returns-in-Some-clause-within c =
    some_prefix c.self.inside.state c.receive.new.self c.args.piece.now c.in-Some.prefix (sym (ap (λ (o : Option (ℕ × List LinkNews)). prefix_reported o c.receive.new.self) c.in-Some.is) ∙ c.in_ok-prefix.ensures.prefix)
