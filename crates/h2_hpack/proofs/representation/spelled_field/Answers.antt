use Rattle.std.proofs.Common.{◌≡◌, length, arith}
use Rattle.h2_hpack.proofs.TextLemmas.{cut_apart}
use Rattle.h2_hpack.proofs.representation.spelled_field.Goals as goal

pub returns-clause-ok : goal.returns-clause-ok
returns-clause-ok c =
    let len : c.len-name_len.result ≡ length c.append_text.new.out.items = omega (arith, c.len-name_len.ensures, c.append_text.new.out.ok.0) in
    cut_apart c.args.bytes.now _ _ _ _ _ _ _ _ _ c.in_ok-both.ensures.items c.in_ok-rest.ensures.ok len c.in_ok-rest-2.ensures.ok c.in_ok-value.ensures c.in_ok-name.ensures c.advance.ensures
