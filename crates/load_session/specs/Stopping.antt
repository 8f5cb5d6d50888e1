-- Where a load stops, since the journal of its channel has no room for the event that comes next.
use Rattle.std.specs.Prelude.{◌≡◌, ◌⊎◌, ℕ, true, List, [], ◌∷◌, ◌++◌, length}
use Rattle.grpc_base.specs.Posts.{HasNoRoom}
use Rattle.grpc_base.specs.declared.event.Event.{Event}
use Rattle.grpc_base.specs.declared.event.Event.TheVariants as event
use Rattle.grpc_base.specs.declared.event.Reply.{Reply}
use Rattle.channel_core.specs.Applying.{can_drain_in}
use Rattle.channel_core.specs.Core.{CoreSeen}
use Rattle.channel_core.specs.Sizes.{journal_bytes}
use Rattle.loop_server.specs.Drains.{CoreDrains}
use Rattle.loop_server.specs.Server.{Core}
use Rattle.load_plan.specs.declared.action.LoadAction.{LoadAction}
use Rattle.load_plan.specs.declared.action.LoadStep.{LoadStep}
use Rattle.load_plan.specs.declared.action.LoadStep.TheVariants as does
use Rattle.load_session.specs.Playing.{ExchangesOn, Plays, Sends, Sides, TakesMore}

-- the journal of a channel has no room for an event
abbrev pub LacksRoom : Event → CoreSeen → Type 0
LacksRoom e core = HasNoRoom (length core.journal.entries) (journal_bytes core.journal.entries) e

-- for the drain of a link on which the channel has something to send
abbrev pub StopsSending : ℕ → CoreSeen → Type 0
StopsSending link core = (can_drain_in link core.state ≡ true) × LacksRoom (event.Drain link 65536) core

-- for the bytes that the server has to send on a link
pub record StopsReceiving (link : ℕ) (a : Sides) : Type 0 where
  pub server : Core
  pub octets : List ℕ
  pub drains : CoreDrains a.server link server octets
  pub some : octets ≡ [] → ⊥
  pub full : LacksRoom (event.Arrived link octets) a.channel

-- for either of an exchange on one link
abbrev pub StopsOn : ℕ → ℕ → Sides → Type 0
StopsOn moment link a = StopsSending link a.channel ⊎ ((mid : Sides) × Sends moment link a mid × StopsReceiving link mid)

-- on link 1, or after it on link 2
abbrev pub StopsExchange : ℕ → Sides → Type 0
StopsExchange moment a = StopsOn moment 1 a ⊎ ((mid : Sides) × ExchangesOn moment 1 a mid × StopsOn moment 2 mid)

-- for a further Take of a call
pub record StopsTaking (moment call : ℕ) (old : CoreSeen) : Type 0 where
  pub more : List Reply
  pub before : CoreSeen
  pub take_more : TakesMore moment call more old before
  pub full : LacksRoom (event.Take call) before

-- an action
abbrev pub Stops : ℕ → LoadStep → Sides → Type 0
Stops moment (does.Post e) a = LacksRoom e a.channel
Stops moment does.Exchange a = StopsExchange moment a
Stops moment (does.Takes call) a = StopsTaking moment call a.channel

-- the actions before one were played, and that one stops
pub record StopsIn (actions : List LoadAction) (a : Sides) : Type 0 where
  pub played : List LoadAction
  pub action : LoadAction
  pub afterwards : List LoadAction
  pub parts : actions ≡ played ++ action ∷ afterwards
  pub mid : Sides
  pub plays : Plays played a mid
  pub stops : Stops action.moment action.step mid
