use Rattle.call_actions.proofs.CallsApart.Books.{books_begin, books_stay}
use Rattle.call_actions.proofs.CallsApart.Fair.{books_along, lines_are_fair}
use Rattle.call_actions.proofs.calls_apart.books_are_kept.Goals as goal

pub returns-clause-begun : goal.returns-clause-begun
returns-clause-begun c = books_begin

pub returns-clause-after : goal.returns-clause-after
returns-clause-after c = books_stay

pub returns-clause-fair : goal.returns-clause-fair
returns-clause-fair c = lines_are_fair

pub returns-clause-along : goal.returns-clause-along
returns-clause-along c = books_along
