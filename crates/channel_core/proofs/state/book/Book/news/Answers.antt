use Rattle.std.proofs.Common.{sym}
use Rattle.call_core.specs.Steps as step
use Rattle.channel_core.proofs.Lending.{acted_acts, acted_book}
use Rattle.channel_core.proofs.state.book.Book.news.Goals as goal

pub returns-clause-book : goal.returns-clause-book
returns-clause-book c =
    acted_book (step.received_news c.args.row c.args.news c.args.self.now.moment c.args.word) c.args.self.now c.args.call c.take-tokens.result c.news-2.new.tokens c.take-tokens.new.self c.put.new.self c.in-Some.slot.now c.news-2.new.self c.news-2.new.ledger
    (sym c.in-Some.ensures.slot) c.take-tokens.ensures.tokens c.take-tokens.ensures.after c.put.ensures c.in_ok-acts.ensures.call c.in_ok-acts.ensures.ledger c.in_ok-acts.ensures.tokens

pub returns-clause-acts : goal.returns-clause-acts
returns-clause-acts c =
    acted_acts (step.received_news c.args.row c.args.news c.args.self.now.moment c.args.word) c.args.self.now c.args.call c.take-tokens.result c.in-Some.slot.now c.in_ok-acts.acts
    (sym c.in-Some.ensures.slot) c.take-tokens.ensures.tokens c.in_ok-acts.ensures.acts
