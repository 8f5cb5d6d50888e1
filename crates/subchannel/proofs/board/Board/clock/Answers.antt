use Rattle.std.proofs.Common.{◌≡◌, ◌-◌, ◌∙◌, sym, ap, subst, List, Option, IfSome}
use Rattle.subchannel.specs.Records.{SubRecord, clocked}
use Rattle.subchannel.specs.Boards.{HasNumber, first_clocked}
use Rattle.subchannel.proofs.NumberLaws.{set-numbered, set-place, numbered-set, first_clocked-is}
use Rattle.subchannel.proofs.KeepLaws.{IsBoard-changed}
use Rattle.subchannel.proofs.StepLaws.{keeps_live-clocked}
use Rattle.subchannel.proofs.board.Board.clock.Goals as goal

pub invariant_of-self : goal.invariant_of-self
invariant_of-self c =
    IsBoard-changed (clocked c.args.moment) c.self.inside.subs.items _ c.self.inside.live.items (c.in_ok-number.number - 1) (keeps_live-clocked c.args.moment) c.self.invariant (set-place (clocked c.args.moment) c.self.inside.subs.items c.deref.result.now c.in_ok-number.number c.index_mut-chosen.result.now _ (sym c.deref.ensures.value) c.in_ok-number.ensures.number c.index_mut-chosen.ensures.value c.clock.ensures)

pub returns-clause-after : goal.returns-clause-after
returns-clause-after c =
    set-numbered (clocked c.args.moment) c.self.inside.subs.items c.deref.result.now c.in_ok-number.number c.index_mut-chosen.result.now _ (sym c.deref.ensures.value) c.in_ok-number.ensures.number c.index_mut-chosen.ensures.value c.clock.ensures ∙ sym (first_clocked-is c.args.moment c.deref.result.now c.in_ok-number.number c.in_ok-number.ensures.value) ∙ ap (first_clocked c.args.moment) (c.deref.ensures.value ∙ c.self.view_is)

pub returns-clause-state : goal.returns-clause-state
returns-clause-state c =
    subst (λ (o : Option SubRecord). IfSome o (λ s. s.state ≡ c.state.result)) (sym (numbered-set c.self.inside.subs.items c.in_ok-number.number c.clock.new.self (subst (λ (zs : List SubRecord). HasNumber zs c.in_ok-number.number) c.deref.ensures.value c.in_ok-number.ensures.number))) (sym c.state.ensures)
