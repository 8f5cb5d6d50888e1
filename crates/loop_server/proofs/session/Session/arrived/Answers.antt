use Rattle.std.proofs.Common.{◌≡◌, ◌<◌, ℕ, suc, None, ◌∙◌, ap, drop, length, rules}
use Rattle.loop_server.proofs.Going.{one_step, open_as}
use Rattle.loop_server.proofs.session.Session.arrived.Goals as goal

pub loop-self-preserved : goal.loop-self-preserved
loop-self-preserved c =
    let whole : c.loop-self.self.link.wire.broken ≡ None = search rules in
    let some : 0 < length c.loop-self.rest.now = search rules in
    (suc c.loop-self.invariant.0, one_step (record { state = record { book = c.args.answers.now; session = c.args.self.now }; rest = c.args.piece.now }) (record { state = record { book = c.loop-self.answers; session = c.loop-self.self }; rest = c.loop-self.rest.now }) (record { state = record { book = c.arrived_once.new.answers; session = c.arrived_once.new.self }; rest = c.afterwards-rest.result.now }) c.loop-self.invariant.0 c.loop-self.invariant.1 (open_as (record { state = record { book = c.loop-self.answers; session = c.loop-self.self }; rest = c.loop-self.rest.now }) whole some) c.in_ok-taken.ensures.state (c.afterwards-rest.ensures ∙ ap (λ (n : ℕ). drop n c.loop-self.rest.now) c.in_ok-taken.ensures.taken))
