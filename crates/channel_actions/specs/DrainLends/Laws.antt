-- What the book of a channel lends a link for its attempts is what the session feeds it with, while no deadline of an open call has come. (Past one, the header
-- list has no timeout that may be sent; such a call ends before anything is written.)
-- Example: call 1 began at 0 s with a timeout of 5 s, and at 2 s its attempt 1 waits for a stream. Both have `grpc-timeout` of 3 s for it, and the bytes of the
-- messages that were accepted and not written.
use Rattle.std.specs.List.{list_all}
use Rattle.std.specs.Option.{option_map_or}
use Rattle.std.specs.Prelude.{None, nat_le, true, ℕ, ◌+◌, ◌≡◌}
use Rattle.channel_actions.specs.Agrees.{Agrees}
use Rattle.channel_core.specs.Books.{lines_of}
use Rattle.channel_core.specs.States.{StateSeen}
use Rattle.grpc_base.specs.Limits.{duration_limit}
use Rattle.h2_link.specs.Feeds.{Line}
use Rattle.h2_link.specs.Wire.{Wire}
use Rattle.session_actions.specs.CallEnds.{next_deadline}
use Rattle.session_actions.specs.Configs.{deadline}
use Rattle.session_actions.specs.Entries.{now}
use Rattle.session_actions.specs.declared.link.Link.{Link}
use Rattle.session_actions.specs.declared.seen.Seen.{Seen}
use Rattle.session_order.specs.Quiescent.{NoneIs, is_to_cut}
use Rattle.link_actions.specs.StreamActions.Sees.{SeesStreams}

-- no deadline is further ahead than the longest duration. (Requests and configs name no longer timeout.)
abbrev pub DeadlinesAreClose : Seen → Type 0
DeadlinesAreClose s = list_all (λ c. option_map_or (λ t. nat_le t (now s + duration_limit)) (deadline c s) true) s.calls ≡ true

-- where nothing is to be cut off, and no deadline has come
abbrev pub LinesAreLent : Type 0
LinesAreLent =
    (x : StateSeen) (s : Seen) (l : Link) (w : Wire) (g : ℕ → Line) → Agrees x s → NoneIs (is_to_cut s) s.attempts → next_deadline s ≡ None → DeadlinesAreClose s
    → SeesStreams l s w g → SeesStreams l s w (lines_of x.book)
