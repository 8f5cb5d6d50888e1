-- What is known at each stage of an entry, beside that channel and session agree. It is what each step of a channel keeps, what every session keeps, that the journal is
-- below its limit, and that what was posted is what types allow. It holds of a new channel and a new session, and is carried along a run.
-- Example: the deadline of call 1 has come. That no stream was reset of an attempt of it that goes on is no part of the agreement; every session keeps it.
use Rattle.std.specs.Prelude.{length, nat_lt, true, ◌≡◌}
use Rattle.channel_actions.specs.FewCalls.Reached.{IsReached}
use Rattle.channel_actions.specs.GoingCalls.Going.{CallsGoOn}
use Rattle.channel_actions.specs.PrefacedLinks.Prefaced.{LinksArePrefaced}
use Rattle.channel_actions.specs.KeptCalls.Early.{IsEarlyKept}
use Rattle.channel_actions.specs.OwnLinks.Own.{LinksAreOwn}
use Rattle.channel_actions.specs.OwnStreams.Own.{StreamsAreOwn}
use Rattle.channel_actions.specs.Posted.{EventsArePosted}
use Rattle.channel_actions.specs.SoundBuffers.Held.{BuffersAreSound}
use Rattle.channel_actions.specs.SoundCalls.Sound.{CallsAreSound}
use Rattle.channel_actions.specs.TheirLinks.Theirs.{LinksAreTheirs}
use Rattle.channel_core.specs.States.{StateSeen}
use Rattle.grpc_base.specs.Kinds.{has_kind}
use Rattle.grpc_base.specs.declared.kind.Kind.TheVariants as kind
use Rattle.session_actions.specs.Configs.{kinds_in}
use Rattle.session_actions.specs.Laws.{posted_in}
use Rattle.session_actions.specs.declared.seen.Seen.{Seen}

pub record IsKnown (x : StateSeen) (s : Seen) : Type 0 where
  -- of the channel alone: each call that runs goes on, and makes no more attempts than its plan allows; and what it holds of its messages has a place for each of its
  -- rows
  pub going : CallsGoOn x
  pub calls : CallsAreSound x
  pub buffers : BuffersAreSound x
  -- of the session alone, beside `IsKept`: calls before their first attempt, resets of streams; links of subchannels are their own, and links that take further streams
  -- are. Attempts are only on links with SETTINGS, and no two of a link have one stream
  pub early : IsEarlyKept s
  pub own : LinksAreOwn s
  pub theirs : LinksAreTheirs s
  pub prefaced : LinksArePrefaced s
  pub streams : StreamsAreOwn s
  -- it began new, and so keeps what every list of actions keeps
  pub reached : IsReached s
  -- so numbers of calls and links do not end
  pub few : nat_lt (length s.entries) 1048576 ≡ true
  -- what was posted is what the types of an event allow, and pick_first is among the policies
  pub posted : EventsArePosted (posted_in reached.actions)
  pub first : has_kind (kinds_in reached.setup.policies) kind.PickFirst ≡ true
