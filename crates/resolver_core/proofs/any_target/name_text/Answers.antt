use Rattle.std.proofs.Common.{◌++◌, ◌∷◌, [], ◌∙◌, ℕ, List, ap, append_assoc, sym, subst, decimal}
use Rattle.grpc_base.specs.Authorities.{IsAuthority}
use Rattle.resolver_core.proofs.AuthorityLaws.{name_authority}
use Rattle.resolver_core.proofs.any_target.name_text.Goals as goal

pub returns-clause-is_authority : goal.returns-clause-is_authority
returns-clause-is_authority c =
    subst IsAuthority
    (sym
    (c.of_vec.ensures ∙ c.in_ok-append_decimal.ensures.ok
    ∙ ap (λ (v : List ℕ). v ++ decimal c.args.port) (c.in_ok-push.ensures.items ∙ ap (λ (v : List ℕ). v ++ 58 ∷ []) c.in_ok-text.ensures.items)
    ∙ append_assoc c.args.host.now (58 ∷ []) (decimal c.args.port)))
    (name_authority c.args.host.now c.args.port c.requires c.ranges.port.fits)
