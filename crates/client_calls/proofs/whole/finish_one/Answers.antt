use Rattle.grpc_base.specs.declared.event.Event.TheVariants as event
use Rattle.client_calls.proofs.ExchangeLaws.{passed}
use Rattle.client_calls.proofs.whole.finish_one.Goals as goal

pub returns-clause-finished : goal.returns-clause-finished
returns-clause-finished g c =
    let did = c.finish.ensures.finished in
    passed _ _ (event.Finish c.args.call) did.0 _ _ did.1 did.2 c.unless_refused.ensures
