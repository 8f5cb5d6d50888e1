use Rattle.channel_core.proofs.BookLaws.{size_fits}
use Rattle.channel_core.proofs.state.book.Book.head_for.Goals as goal

pub returns-clause-size : goal.returns-clause-size
returns-clause-size c = size_fits c.request_fields.result c.request_fields.ensures.fits
