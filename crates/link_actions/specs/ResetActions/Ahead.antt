-- A link that is ahead of a session by some resets. What one frame or one action of a call ends, ends one after the other; and only then its streams are reset,
-- the lowest first. The link queues each reset at once, in its place among those.
-- Example: a call with attempts on the streams 5 and 3 is cancelled, and they are cut off in this order. After the first the link has RST_STREAM on 5 queued;
-- after the second those on 3 and 5. The session queues RST_STREAM on 3, and then on 5.
use Rattle.std.specs.Prelude.{List, [], if◌then◌else◌, map, nat_lt, ℕ, ◌++◌, ◌∷◌, ◌≡◌}
use Rattle.h2_link.specs.Feeds.{Line}
use Rattle.h2_link.specs.Wire.{Wire}
use Rattle.h2_link.specs.declared.control.Control.{Control}
use Rattle.h2_link.specs.declared.control.Control.TheVariants as control
use Rattle.session_actions.specs.declared.link.Link.{Link}
use Rattle.session_actions.specs.declared.seen.Seen.{Seen}
use Rattle.link_actions.specs.StreamActions.Sees.{SeesStreams}

-- RST_STREAM on a stream, with a code
abbrev pub reset_of : ℕ × ℕ → Control
reset_of x = control.Reset x.0 x.1

-- in its place, by stream
abbrev pub put_reset : ℕ → ℕ → List (ℕ × ℕ) → List (ℕ × ℕ)
put_reset stream number [] = (stream, number) ∷ []
put_reset stream number (x ∷ resets) = if nat_lt stream x.0 then (stream, number) ∷ x ∷ resets else x ∷ put_reset stream number resets

-- the link but for these resets, which stand at the end of its queue
pub record SeesAhead (resets : List (ℕ × ℕ)) (l : Link) (s : Seen) (w : Wire) (g : ℕ → Line) : Type 0 where
  pub wire : Wire
  pub sees : SeesStreams l s wire g
  pub same : w ≡ record wire { queue = w.queue }
  pub queue : w.queue.items ≡ wire.queue.items ++ map reset_of resets
