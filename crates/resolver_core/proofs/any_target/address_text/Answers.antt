use Rattle.std.proofs.Common.{List, ℕ, ◌++◌, sym, ◌∙◌, ap, subst}
use Rattle.grpc_base.specs.Addresses.{address_text}
use Rattle.grpc_base.specs.Authorities.{IsAuthority}
use Rattle.resolver_core.proofs.AuthorityLaws.{address_authority}
use Rattle.resolver_core.proofs.any_target.address_text.Goals as goal

pub returns-clause-is_authority : goal.returns-clause-is_authority
returns-clause-is_authority c =
    subst IsAuthority
    (sym (c.of_vec.ensures ∙ c.in_ok-append_to.ensures ∙ ap (λ (v : List ℕ). v ++ address_text (record { ip = c.args.ip; port = c.args.port })) c.new-text.ensures.items))
    (address_authority (record { ip = c.args.ip; port = c.args.port }) c.ranges.ip.fits c.ranges.port.fits)
