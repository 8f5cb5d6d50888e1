use Rattle.std.proofs.Common.{◌≡◌, [], ◌∷◌, ◌++◌, length, ap, arith, subst, sym}
use Rattle.std.specs.List.{concat}
use Rattle.attempt_buffer.specs.Spots.{MessagesAreSized}
use Rattle.attempt_buffer.proofs.SpotLaws.{sized_more, bytes_more}
use Rattle.attempt_buffer.proofs.messages.Messages.push.Goals as goal

pub invariant_of-self-2 : goal.invariant_of-self-2
invariant_of-self-2 c =
    let more : c.push_back.new.self.items ≡ c.self.inside.list.items ++ c.args.framed ∷ [] = c.in_ok-push_back.ensures.items in
    let sized = sized_more c.self.inside.list.items c.args.framed c.self.invariant.1 c.requires.filled c.requires.limit in
    (omega (arith, c.self.invariant.0, c.len-len.ensures, ap (λ l. length (concat l)) more, bytes_more c.self.inside.list.items c.args.framed), subst MessagesAreSized (sym more) sized)
