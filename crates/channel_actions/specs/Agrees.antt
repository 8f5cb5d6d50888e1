-- The channel and a session agree: what the channel keeps is what the session has done so far. It is so wherever nothing follows at once: when an
-- entry opens, after its deadlines, after its event and each of its frames, at each point of the settling, and when it closes.
-- Each part is a record of its own, in the file of its subject, with what it is needed for.
-- Example: nothing has happened. The channel has no call, no link, no row and no config, its sets are empty, and so is the session.
use Rattle.channel_actions.specs.Calls.{SeesCalls}
use Rattle.channel_actions.specs.Clock.{SeesClock}
use Rattle.channel_actions.specs.Columns.{SeesColumns}
use Rattle.channel_actions.specs.Configs.{SeesBuckets, SeesConfigs}
use Rattle.channel_actions.specs.KeptSessions.Kept.{IsKept}
use Rattle.channel_actions.specs.Links.{SeesLinks}
use Rattle.channel_actions.specs.Sets.{SeesSets}
use Rattle.channel_core.specs.States.{StateSeen}
use Rattle.net_actions.specs.Runs.{IsOfCalls}
use Rattle.net_actions.specs.Sees.{Sees}
use Rattle.session_actions.specs.declared.seen.Seen.{Seen}

pub record Agrees (x : StateSeen) (s : Seen) : Type 0 where
  pub clock : SeesClock x s
  pub columns : SeesColumns x.book.ledger s
  pub configs : SeesConfigs x s
  pub buckets : SeesBuckets x.book.buckets s
  pub calls : SeesCalls x s
  pub links : SeesLinks x s
  -- subchannels and policies, and that the net came of calls of it: its lists are in order
  pub net : Sees s x.net
  pub orderly : IsOfCalls x.net
  pub sets : SeesSets x s
  -- of the session alone
  pub kept : IsKept s
