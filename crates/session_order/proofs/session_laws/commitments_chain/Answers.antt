use Rattle.session_order.proofs.SessionLaws.Chains.{commitments_chain}
use Rattle.session_order.proofs.session_laws.commitments_chain.Goals as goal

pub returns : goal.returns
returns c = commitments_chain
