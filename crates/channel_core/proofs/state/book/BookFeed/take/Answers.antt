use Rattle.channel_core.proofs.BookLaws.{book_is_fed, lines_fed}
use Rattle.channel_core.proofs.state.book.BookFeed.take.Goals as goal

pub returns-clause-lines : goal.returns-clause-lines
returns-clause-lines c =
    lines_fed c.args.tag c.args.len c.call_of_row-call.result c.args.self.now c.feed.new.self c.feed.result c.call_of_row-call.ensures c.requires.there c.feed.ensures.calls c.feed.ensures.left

pub returns-clause-same : goal.returns-clause-same
returns-clause-same c =
    book_is_fed c.args.tag c.args.len c.call_of_row-call.result c.args.self.now c.feed.new.self c.feed.result c.call_of_row-call.ensures c.feed.ensures.calls c.feed.ensures.err
