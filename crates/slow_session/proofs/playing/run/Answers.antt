use Rattle.slow_session.proofs.RunLaws.{session_is}
use Rattle.slow_session.proofs.playing.run.Goals as goal

pub returns : goal.returns
returns c =
    session_is c.args.setup c.args.events.items c.in_ok-seen.seen c.in_ok-report.report.journal.entries c.in_ok-report.report.ledger
    c.in_ok-seen.ensures c.in_ok-report.ensures.journal c.in_ok-report.ensures.ledger
