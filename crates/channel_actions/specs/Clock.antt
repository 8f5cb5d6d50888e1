-- The clock of channel and session: the entry that is being made, its moment, its random word and how many were drawn of it.
-- Example: entry 3 is being made at 7 s with the word 9, and two words were drawn. In the session the open entry says so; in the channel the ledger has
-- the entry 3, the book the moment, and the state the word 9 and 2 draws. Between two entries no word is kept.
use Rattle.std.specs.Prelude.{None, Option, Some, ◌%◌, ◌^◌, ◌≡◌}
use Rattle.channel_core.specs.States.{StateSeen}
use Rattle.session_actions.specs.Entries.{entry, now}
use Rattle.session_actions.specs.declared.entry.OpenEntry.{OpenEntry}
use Rattle.session_actions.specs.declared.seen.Seen.{Seen}

-- the random words of an entry. (The channel counts them in 64 bits, which is all that the next word asks for.)
abbrev pub DrawsAlike : Option OpenEntry → StateSeen → Type 0
DrawsAlike None x = Unit {0}
DrawsAlike (Some o) x = (o.word ≡ x.word) × (x.drawn ≡ o.drawn % 2 ^ 64)

-- what the journal's entry, each end's moment and word, and each draw are by
pub record SeesClock (x : StateSeen) (s : Seen) : Type 0 where
  pub entry_is : entry s ≡ x.book.ledger.entry
  pub moment : now s ≡ x.book.moment
  pub draws : DrawsAlike s.current x
