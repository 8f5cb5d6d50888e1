use Rattle.std.proofs.Common.{◌∙◌, Option, IfSome, ap, subst, sym}
use Rattle.std.specs.Option.{option_map}
use Rattle.attempt_buffer.specs.Cursors.{IsAt}
use Rattle.attempt_buffer.specs.declared.messages.Spot.{Spot}
use Rattle.attempt_buffer.proofs.BufferLaws.{spot_is_at, spot_taken}
use Rattle.attempt_buffer.proofs.state.State.spot_of.Goals as goal

pub returns-clause-taken : goal.returns-clause-taken
returns-clause-taken c = ap (option_map (λ s. s.taken)) c.find_spot.ensures ∙ spot_taken c.args.row c.args.self.now.cursors.items c.args.self.now.committed

pub returns-clause-spot : goal.returns-clause-spot
returns-clause-spot c =
    let P : Option Spot → Type 0 = λ o. IfSome o (IsAt c.args.self.now.messages) in
    subst P (sym c.find_spot.ensures) (spot_is_at c.args.self.now.messages c.args.row c.args.self.now.cursors.items c.args.self.now.committed c.requires)
