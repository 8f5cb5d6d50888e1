-- To which attempts a call is committed.
use Rattle.session_order.proofs.SessionLaws.Lines.{IsChained, next_asks}
use Rattle.session_order.specs.SessionLaws.Chains.{CommitmentsChain}
use Rattle.session_order.proofs.Places.{sessions_are_in_place}
use Rattle.session_actions.specs.declared.action.Action.TheVariants as action

pub commitments_chain : CommitmentsChain
commitments_chain setup actions s does row why next =
    let t : IsChained row s = next_asks s (action.CallCommitted row why) next (sessions_are_in_place setup actions s does) in (t.here, t.there, t.joins)
