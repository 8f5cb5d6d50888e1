use Rattle.std.proofs.Common.{sym}
use Rattle.channel_core.proofs.Lending.{configured_acts, configured_book}
use Rattle.channel_core.proofs.state.book.Book.configure.Goals as goal

pub returns-clause-book : goal.returns-clause-book
returns-clause-book c =
    configured_book c.args.chosen c.args.self.now c.set_bucket.new.self c.args.call c.in-Some.slot.now c.configure.new.self c.configure.new.ledger c.configure.result
    c.set_bucket.ensures (sym c.in-Some.ensures.slot) c.configure.ensures.call c.configure.ensures.ledger

pub returns-clause-acts : goal.returns-clause-acts
returns-clause-acts c =
    configured_acts c.args.chosen c.args.self.now c.set_bucket.new.self c.args.call c.in-Some.slot.now c.configure.result
    c.set_bucket.ensures (sym c.in-Some.ensures.slot) c.configure.ensures.acts
