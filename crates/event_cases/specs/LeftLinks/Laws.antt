-- Links that the net drops: where a step of the net shuts subchannels, the channel stamps the links that these had and that are gone by it. The session has the same
-- stamps where its entry closes.
-- Example: a result of the resolver has no address of subchannel 2, whose link 3 has no attempt. SubchannelShut 2: link 3 is gone from this entry on, in both.
use Rattle.channel_actions.specs.Agrees.{Agrees}
use Rattle.channel_actions.specs.Columns.{links_noted}
use Rattle.channel_actions.specs.KeptSessions.Kept.{IsKept}
use Rattle.channel_actions.specs.TheirLinks.Theirs.{LinksAreTheirs}
use Rattle.channel_core.specs.States.{StateSeen}
use Rattle.channel_core.specs.Steps.{links_left}
use Rattle.channel_net.specs.Steps.{NetSeen, left}
use Rattle.net_actions.specs.Sees.{Sees}
use Rattle.session_actions.specs.Entries.{entry}
use Rattle.session_actions.specs.Refusals.{is_shutdown_sub}
use Rattle.session_actions.specs.Words.{numbered}
use Rattle.session_actions.specs.declared.seen.Seen.{Seen}
use Rattle.session_actions.specs.declared.subchannel.Subchannel.{Subchannel}
use Rattle.std.specs.List.{list_any}
use Rattle.std.specs.Prelude.{List, Some, false, true, ℕ, ◌==◌, ◌≡◌}

-- no attempt and no link changed; and these links are those of the subchannels that were shut
pub record LinksAreLeft (x : StateSeen) (s t : Seen) (n : NetSeen) (gone : List ℕ) : Type 0 where
  pub attempts : t.attempts ≡ s.attempts
  pub links : t.links ≡ s.links
  pub entry_is : entry t ≡ entry s
  pub kept : IsKept t
  pub sees : Sees t n
  -- what was SHUTDOWN is so still, and the own link of a subchannel that is SHUTDOWN now is among those that are left
  pub shut : (sub : ℕ) → is_shutdown_sub s sub ≡ true → is_shutdown_sub t sub ≡ true
  pub left : (sub link : ℕ) (b : Subchannel) → numbered s.subs sub ≡ Some b → b.link ≡ Some link → is_shutdown_sub s sub ≡ false → is_shutdown_sub t sub ≡ true
      → list_any (λ k. k == link) gone ≡ true

abbrev pub LeftLinksAreStamped : Type 0
LeftLinksAreStamped =
    (x : StateSeen) (s t : Seen) (n : NetSeen) (gone : List ℕ) → Agrees x s → LinksAreTheirs s → LinksAreLeft x s t n gone
    → links_noted t ≡ (links_left (left n gone) x).book.ledger.links
