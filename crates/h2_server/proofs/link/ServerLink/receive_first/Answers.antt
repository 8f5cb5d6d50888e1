use Rattle.std.proofs.Common.{ℕ, List, ◌∙◌, sym, ap}
use Rattle.std.specs.Prelude.{Option}
use Rattle.h2_server.specs.declared.news.RequestNews.{RequestNews}
use Rattle.h2_server.specs.Outcomes.{prefix_reported}
use Rattle.h2_server.specs.Wire.{Seen}
use Rattle.h2_server.proofs.Receiving.{first_part, some_prefix}
use Rattle.h2_server.proofs.link.ServerLink.receive_first.Goals as goal

pub returns-in-Some-clause-within : goal.returns-in-Some-clause-within
returns-in-Some-clause-within c =
    some_prefix c.self.inside.prefaced c.self.inside.state c.receive.new.self c.args.piece.now c.in-Some.prefix (sym (ap (λ (o : Option (ℕ × Option RequestNews)). prefix_reported o c.receive.new.self) c.in-Some.is) ∙ c.in_ok-prefix.ensures.prefix)

pub invariant_of-self-in-None : goal.invariant_of-self-in-None
invariant_of-self-in-None c =
    let f = sym (ap (λ (o : Option (ℕ × Option RequestNews)). prefix_reported o c.receive.new.self) c.in-None.is) ∙ c.in_ok-prefix.ensures.prefix in
    first_part c.self.inside.prefaced c.self.inside.state c.receive.new.self c.args.piece.now c.self.inside.rest.items c.extend.new.bytes.items f (ap (λ (v : Seen). v.rest) c.self.view_is ∙ c.requires.none) c.in_ok-extend-in-None.ensures.ok
