-- Nobody has to believe these steps: what goes out on a link, and what the ledger says of it.
use Rattle.std.specs.Prelude.{◌≡◌, ℕ, Option, Some, None, List, [], ◌∷◌}
use Rattle.grpc_base.specs.declared.event.Reply.{Reply}
use Rattle.grpc_base.specs.declared.event.Reply.TheVariants as reply
use Rattle.attempt_ledger.specs.declared.row.Row.{Row}
use Rattle.h2_link.specs.declared.news.Drained.{Drained}
use Rattle.ledger_stamps.specs.Steps.{changed_at, streamed_row}
use Rattle.channel_core.specs.declared.state.book.Book.{Book}
use Rattle.channel_core.specs.Books.{lines_of}
use Rattle.channel_core.specs.Feeding.{IsFed}
use Rattle.channel_core.specs.States.{StateSeen}
use Rattle.channel_core.specs.Tables.{DrainGives, pinged_in}

abbrev pub pinged : ℕ → ℕ → StateSeen → StateSeen
pinged link word s = record s { links = pinged_in link word s.links }

-- rows get their streams
abbrev pub streams_given : List (ℕ × ℕ) → List Row → List Row
streams_given [] rows = rows
streams_given (o ∷ opened) rows = streams_given opened (changed_at (streamed_row o.1) rows o.0)

abbrev pub with_streams : List (ℕ × ℕ) → Book → Book
with_streams opened b = record b { ledger = record b.ledger { rows = streams_given opened b.ledger.rows } }

abbrev pub opened_by : Option Drained → List (ℕ × ℕ)
opened_by None = []
opened_by (Some drained) = drained.opened

abbrev pub octets_by : Option Drained → List ℕ
octets_by None = []
octets_by (Some drained) = drained.octets

-- a drain gives at most so many bytes, whatever its room
abbrev pub drained_limit : ℕ
drained_limit = 1048576

-- a drain: the link takes from the book what it sends, and each row whose stream it opened is stamped with it
pub record DrainLeaves (link room : ℕ) (s : StateSeen) (r : Reply) (t : StateSeen) : Type 0 where
  pub drained : Option Drained
  pub fed : Book
  pub feeds : IsFed s.book fed
  pub gives : DrainGives room s.links link (lines_of s.book) drained t.links (lines_of fed)
  pub reply_is : r ≡ reply.Octets (octets_by drained)
  pub state_is : t ≡ record s { links = t.links; book = with_streams (opened_by drained) fed }
