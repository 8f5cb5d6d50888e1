-- What the links of a channel do where attempts are cut off: the channel cuts off at once all attempts that one action cuts off, and closes what it queued for
-- them on each link. (How the session does it is in `ends_follow`.)
-- Example: call 1 has attempt 1 on stream 3 of link 1, attempt 2 on stream 1 of link 2, and attempt 3, which waits for a stream on link 1, and it is cancelled.
-- The channel gives the three up on their links, and closes what it queued on the links 1, 2 and 1.
use Rattle.std.specs.Prelude.{List, [], ◌∷◌}
use Rattle.channel_core.specs.Tables.{reset_in, sealed_in}
use Rattle.channel_core.specs.declared.state.links.LinkSlot.{LinkSlot}
use Rattle.session_actions.specs.Links.{link_number}
use Rattle.session_actions.specs.declared.attempt.Attempt.{Attempt}

-- each attempt is given up on its link, and then what was queued on these links is closed
abbrev pub links_cut : List Attempt → List LinkSlot → List LinkSlot
links_cut [] links = links
links_cut (a ∷ cuts) links = links_cut cuts (reset_in (link_number a) a.place links)

abbrev pub links_closed : List Attempt → List LinkSlot → List LinkSlot
links_closed [] links = links
links_closed (a ∷ cuts) links = links_closed cuts (sealed_in (link_number a) links)
