-- The ledger of the channel and that of a session, column by column. A link that is gone is stamped at once by the channel, and in a session where the
-- entry closes.
-- Example: in entry 12 link 1 is lost. From then on the channel's ledger has that it is gone from entry 12 on; the session has it from EntryCloses on.
use Rattle.std.specs.Prelude.{List, map, ◌≡◌}
use Rattle.attempt_ledger.specs.declared.ledger.Ledger.{Ledger}
use Rattle.attempt_ledger.specs.declared.ledger.LinkSeen.{LinkSeen}
use Rattle.session_actions.specs.Closing.{noted_gone}
use Rattle.session_actions.specs.Sessions.{call_seen, link_seen}
use Rattle.session_actions.specs.declared.seen.Seen.{Seen}

-- the links as they are were the entry to close now
abbrev pub links_noted : Seen → List LinkSeen
links_noted s = map (λ l. link_seen (noted_gone s l)) s.links

-- what the ledger of the session is at the end
pub record SeesColumns (ledger : Ledger) (s : Seen) : Type 0 where
  pub rows : map (λ a. a.row) s.attempts ≡ ledger.rows
  pub calls : map (call_seen s) s.calls ≡ ledger.calls
  pub asks : s.asks ≡ ledger.asks
  pub generations : map (λ g. g.generation) s.policies ≡ ledger.generations
  pub links : links_noted s ≡ ledger.links
