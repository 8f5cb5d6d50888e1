-- What links are to subchannels and attempts: the link of a subchannel is one of its own, and attempts are on links only on which the server's SETTINGS came
-- (a pick names a READY subchannel). So a link whose SETTINGS did not come in time is that of one subchannel, and no attempt is on it.
-- Example: subchannel 2 is CONNECTING, with the link 3, which came up for it. Nothing came on link 3 yet, and no attempt was placed on it.
use Rattle.std.specs.Prelude.{Some, true, ℕ, ◌≡◌}
use Rattle.attempt_ledger.specs.declared.row.Placed.{Placed}
use Rattle.session_actions.specs.Links.{has_settings}
use Rattle.session_actions.specs.Words.{numbered}
use Rattle.session_actions.specs.declared.attempt.Attempt.{Attempt}
use Rattle.session_actions.specs.declared.link.Link.{Link}
use Rattle.session_actions.specs.declared.seen.Seen.{Seen}
use Rattle.session_actions.specs.declared.subchannel.Subchannel.{Subchannel}

pub record PrefacedLinksAreJoined (s : Seen) : Type 0 where
  pub own : (n k : ℕ) (b : Subchannel) (l : Link) → numbered s.subs n ≡ Some b → b.link ≡ Some k → numbered s.links k ≡ Some l → l.sub ≡ n
  pub prefaced : (row : ℕ) (a : Attempt) (at : Placed) (l : Link) → numbered s.attempts row ≡ Some a → a.row.placed ≡ Some at → numbered s.links at.link ≡ Some l
      → has_settings l ≡ true
