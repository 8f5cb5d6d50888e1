use Rattle.channel_actions.proofs.Drains.Books.Columns as columns
use Rattle.channel_actions.proofs.Drains.Books.Sets as sets
use Rattle.channel_actions.proofs.drain_books.drains_leave_books.Goals as goal

pub returns-clause-sets : goal.returns-clause-sets
returns-clause-sets c = sets.sets_stay

pub returns-clause-buckets : goal.returns-clause-buckets
returns-clause-buckets c = sets.buckets_stay

pub returns-clause-calls : goal.returns-clause-calls
returns-clause-calls c = sets.call_columns_stay

pub returns-clause-links : goal.returns-clause-links
returns-clause-links c = columns.link_columns_stay
