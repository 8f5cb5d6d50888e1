-- What comes or passes on one link, and brings nothing for a call, leaves channel and session in agreement where the two agree about that link.
-- Example: a PING is read on link 1. Link 1 owes its acknowledgement in both; calls, other links, subchannels and sets are as before, so all agrees.
use Rattle.std.specs.Prelude.{List, Some, [], false, length, ◌==◌, ◌≡◌, ℕ}
use Rattle.attempt_ledger.specs.declared.ledger.LinkSeen.{LinkSeen}
use Rattle.call_actions.specs.TakeActions.Serves.{came}
use Rattle.channel_actions.specs.Agrees.{Agrees}
use Rattle.channel_actions.specs.Columns.{links_noted}
use Rattle.channel_actions.specs.KeptSessions.Kept.{IsKept}
use Rattle.channel_actions.specs.LinkFrames.Alike.{SeesNoDifference}
use Rattle.channel_actions.specs.Links.{HasLink}
use Rattle.channel_core.specs.States.{StateSeen}
use Rattle.channel_core.specs.declared.state.links.LinkSlot.{LinkSlot}
use Rattle.session_actions.specs.Words.{numbered}
use Rattle.session_actions.specs.Writing.{drained}
use Rattle.session_actions.specs.declared.attempt.Attempt.{Attempt}
use Rattle.session_actions.specs.declared.call.Call.{Call}
use Rattle.session_actions.specs.declared.entry.OpenEntry.{OpenEntry}
use Rattle.session_actions.specs.declared.link.Link.{Link}
use Rattle.session_actions.specs.declared.seen.Seen.{Seen}

-- the channel with other links, and another column of links in its ledger; and the session with other links
abbrev pub relinked : List LinkSlot → List LinkSeen → StateSeen → StateSeen
relinked slots links x = record x { links = slots; resets = []; book = record x.book { ledger = record x.book.ledger { links = links } } }

pub record IsPassed (link : ℕ) (x y : StateSeen) (o p : OpenEntry) (s t : Seen) : Type 0 where
  pub state : y ≡ relinked y.links y.book.ledger.links x
  pub current : s.current ≡ Some o
  pub seen : t ≡ record s { links = t.links; current = Some p }
  -- the same entry, moment and words
  pub moment : p.moment ≡ o.moment
  pub word : p.word ≡ o.word
  pub drawn : p.drawn ≡ o.drawn
  pub kept : IsKept t
  -- the other links
  pub cannot : SeesNoDifference (λ k. link == k) s t
  pub slots : (k : ℕ) → (link == k) ≡ false → numbered y.links k ≡ numbered x.links k
  pub count : length t.links ≡ length y.links
  -- nothing came for an application, and nothing was written
  pub came_same : (c : Call) → came c t ≡ came c s
  pub drained_same : (a : Attempt) → drained a t ≡ drained a s
  -- this link
  pub noted : links_noted t ≡ y.book.ledger.links
  pub own : (m : Link) → numbered t.links link ≡ Some m → HasLink y t m link

abbrev pub PassedBytesKeep : Type 0
PassedBytesKeep = (link : ℕ) (x y : StateSeen) (o p : OpenEntry) (s t : Seen) → Agrees x s → IsPassed link x y o p s t → Agrees y t
