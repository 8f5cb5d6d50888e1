-- The link that a subchannel has is one that came up for it. So a link that is over, or whose SETTINGS came, is that of one subchannel at most.
-- Example: LinkUp of subchannel 2 brings link 3. Link 3 is of subchannel 2, and no other subchannel ever has it.
use Rattle.std.specs.Prelude.{Some, ℕ, ◌≡◌}
use Rattle.session_actions.specs.Words.{numbered}
use Rattle.session_actions.specs.declared.link.Link.{Link}
use Rattle.session_actions.specs.declared.seen.Seen.{Seen}
use Rattle.session_actions.specs.declared.subchannel.Subchannel.{Subchannel}

abbrev pub LinksAreOwn : Seen → Type 0
LinksAreOwn s = (n k : ℕ) (b : Subchannel) (l : Link) → numbered s.subs n ≡ Some b → b.link ≡ Some k → numbered s.links k ≡ Some l → l.sub ≡ n
