use Rattle.std.proofs.Common.{◌≡◌, ◌≤◌, ◌<◌, ◌+◌, ◌∙◌, ap, List, length, arith}
use Rattle.subchannel.specs.Records.{SubRecord}
use Rattle.subchannel.specs.Insides.{made_limit}
use Rattle.subchannel.specs.Boards.{kept}
use Rattle.subchannel.proofs.KeepLaws.{IsBoard-kept, kept-made, length-kept, numbers-after}
use Rattle.subchannel.proofs.board.Board.keep.Goals as goal

pub returns-clause-ok : goal.returns-clause-ok
returns-clause-ok c =
    kept-made c.args.current.now c.args.pending.now c.self.inside.subs.items c.deref.result.now c.deref-5.result.now c.self.inside.live.items c.in_ok-added.added.items _ _ c.self.invariant.numbers c.deref.ensures.value c.deref-5.ensures.value c.in_ok-added.ensures.made c.in_ok-append.ensures.items c.shut_unwanted.ensures ∙ ap (kept c.args.current.now c.args.pending.now) c.self.view_is

pub invariant_of-self-2 : goal.invariant_of-self-2
invariant_of-self-2 c =
    let made : c.shut_unwanted.new.subs.items ≡ kept c.args.current.now c.args.pending.now c.self.inside.subs.items =
    kept-made c.args.current.now c.args.pending.now c.self.inside.subs.items c.deref.result.now c.deref-5.result.now c.self.inside.live.items c.in_ok-added.added.items _ _ c.self.invariant.numbers c.deref.ensures.value c.deref-5.ensures.value c.in_ok-added.ensures.made c.in_ok-append.ensures.items c.shut_unwanted.ensures in
    let grown : length c.shut_unwanted.new.subs.items ≡ length c.self.inside.subs.items + length c.in_ok-added.added.items =
    length-kept c.args.current.now c.args.pending.now c.self.inside.subs.items c.deref.result.now c.in_ok-added.added.items c.shut_unwanted.new.subs.items made c.deref.ensures.value c.in_ok-added.ensures.made in
    let before : length c.self.inside.subs.items ≡ length c.args.self.now = ap (λ (xs : List SubRecord). length xs) c.self.view_is in
    let few : length c.in_ok-added.added.items ≤ 128 = omega (arith, c.in_ok-added.ensures.few) in
    let room : length c.args.self.now < 4000000000 = c.requires in
    let within : length c.shut_unwanted.new.subs.items ≤ made_limit = omega arith in
    let count : c.len.result ≡ length c.in_ok-added.added.items = omega arith in
    IsBoard-kept c.args.current.now c.args.pending.now c.self.inside.subs.items c.self.inside.live.items c.self.invariant c.in_ok-live.live.items c.shut_unwanted.new.subs.items made within (numbers-after c.args.current.now c.args.pending.now c.self.inside.subs.items c.deref.result.now c.deref-3.result.now c.deref-4.result.now c.self.inside.live.items c.in_ok-live.live.items c.in_ok-added.added.items c.len.result c.deref.ensures.value c.deref-3.ensures.value c.deref-4.ensures.value c.in_ok-added.ensures.made count c.in_ok-live.ensures)
