-- What one frame adds to a response, as a link reports it: a head, further messages, a message that is too long, an end; each with the number of bytes of
-- the link up to the end of that frame.
-- Example: DATA 00 00000002 6869 with END_STREAM comes after the head on the stream of attempt 1. The message `hi` is gained, and the end UNKNOWN.
use Rattle.std.specs.Prelude.{Bool, List, [], drop, if◌then◌else◌, is_none, is_some, length, map, option_map, true, ℕ, ◌++◌, ◌∷◌, ◌||◌}
use Rattle.attempt_ledger.specs.declared.news.News.{News}
use Rattle.attempt_ledger.specs.declared.news.News.TheVariants as news
use Rattle.grpc_link.specs.Response.{end_gained, head_gained, message_news}
use Rattle.link_actions.specs.LossActions.Sees.{end_news}
use Rattle.session_actions.specs.Reading.{is_of_block}
use Rattle.session_actions.specs.declared.link.Traffic.{Traffic}
use Rattle.session_actions.specs.declared.link.Traffic.TheVariants as traffic
use Rattle.session_actions.specs.declared.response.Response.{Response}

-- nothing more is read of it
abbrev pub is_done : Response → Bool
is_done p = is_some p.end || p.large

abbrev pub large_gained : ℕ → ℕ → Bool → List News
large_gained tag seen large = if large then news.TooLarge tag seen ∷ [] else []

-- of a response that goes on, to what it is then
abbrev pub gained : ℕ → ℕ → Response → Response → List News
gained tag seen p q =
    head_gained tag seen p.head q.head ++ map (message_news tag seen) (drop (length p.messages) q.messages)
    ++ large_gained tag seen q.large ++ end_gained tag (option_map (λ o. end_news o seen) q.end)

-- a frame that was read with a header list is the last of a header block (RFC 9113, section 4.3)
abbrev pub is_listed_fairly : Traffic → Bool
is_listed_fairly (traffic.Read r) = is_of_block r.frame || is_none r.block
is_listed_fairly _ = true
