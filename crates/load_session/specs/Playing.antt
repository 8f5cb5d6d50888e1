-- What each action of a load does to a channel and to the server at the other end of its links.
use Rattle.std.specs.Prelude.{◌≡◌, ℕ, Bool, true, false, MatchBool, Option, List, [], ◌∷◌}
use Rattle.grpc_base.specs.declared.event.Event.{Event}
use Rattle.grpc_base.specs.declared.event.Event.TheVariants as event
use Rattle.grpc_base.specs.declared.event.Reply.{Reply}
use Rattle.grpc_base.specs.declared.event.Reply.TheVariants as reply
use Rattle.channel_core.specs.Applying.{can_drain_in}
use Rattle.channel_core.specs.Core.{CoreSeen, Steps}
use Rattle.journal_room.specs.Posted.{IsPosted}
use Rattle.journal_room.specs.Rooms.{HasRoom}
use Rattle.loop_server.specs.Drains.{CoreDrains}
use Rattle.loop_server.specs.Server.{Core}
use Rattle.loop_server.specs.Steps.{CoreArrives}
use Rattle.load_plan.specs.declared.action.LoadAction.{LoadAction}
use Rattle.load_plan.specs.declared.action.LoadStep.{LoadStep}
use Rattle.load_plan.specs.declared.action.LoadStep.TheVariants as does

-- a channel, and the server at the other end of its links
pub record Sides : Type 0 where
  pub channel : CoreSeen
  pub server : Core

-- the channel is given an event such as its type allows at a moment, with the word 2^63, where its journal has room for it, and replies: the
-- journal gains this entry
pub record Posts (moment : ℕ) (e : Event) (old new : CoreSeen) (r : Reply) : Type 0 where
  pub steps : Steps old new (record { moment = moment; word = 9223372036854775808; event = e }) r
  pub posted : IsPosted e
  pub room : HasRoom old.journal.entries e

-- the bytes that a reply gives
abbrev pub octets_in : Reply → List ℕ
octets_in (reply.Octets octets) = octets
octets_in _ = []

-- a drain of a link, whose bytes arrive at the server
pub record Drained (moment link : ℕ) (a b : Sides) : Type 0 where
  pub reply : Reply
  pub posts : Posts moment (event.Drain link 65536) a.channel b.channel reply
  pub broken : Option ℕ
  pub arrives : CoreArrives a.server link (octets_in reply) b.server broken

-- what the channel has to send on a link goes to the server
abbrev pub Sends : ℕ → ℕ → Sides → Sides → Type 0
Sends moment link a b = MatchBool (can_drain_in link a.channel.state) (Drained moment link a b) (b ≡ a)

-- bytes of a link come to the channel, all in one piece, where there are some
abbrev pub ArriveAt : ℕ → ℕ → List ℕ → CoreSeen → CoreSeen → Type 0
ArriveAt moment link [] old new = new ≡ old
ArriveAt moment link (octet ∷ octets) old new = (r : Reply) × Posts moment (event.Arrived link (octet ∷ octets)) old new r

-- what the server has to send on a link comes to the channel
pub record Receives (moment link : ℕ) (a b : Sides) : Type 0 where
  pub octets : List ℕ
  pub drains : CoreDrains a.server link b.server octets
  pub arrive : ArriveAt moment link octets a.channel b.channel

-- both, on one link
abbrev pub ExchangesOn : ℕ → ℕ → Sides → Sides → Type 0
ExchangesOn moment link a b = (mid : Sides) × Sends moment link a mid × Receives moment link mid b

-- an exchange: on link 1, and then on link 2
abbrev pub Exchanges : ℕ → Sides → Sides → Type 0
Exchanges moment a b = (mid : Sides) × ExchangesOn moment 1 a mid × ExchangesOn moment 2 mid b

-- more may have come after a head or a message
abbrev pub is_more : Reply → Bool
is_more (reply.Head meta) = true
is_more (reply.Message octets) = true
is_more _ = false

-- Takes of a call that such replies answer
abbrev pub TakesMore : ℕ → ℕ → List Reply → CoreSeen → CoreSeen → Type 0
TakesMore moment call [] old new = new ≡ old
TakesMore moment call (r ∷ replies) old new =
    (next : CoreSeen) × Posts moment (event.Take call) old next r × (is_more r ≡ true) × TakesMore moment call replies next new

-- Takes of a call, up to one that neither a head nor a message answers
pub record Takes (moment call : ℕ) (old new : CoreSeen) : Type 0 where
  pub more : List Reply
  pub before : CoreSeen
  pub take_more : TakesMore moment call more old before
  pub last : Reply
  pub posts : Posts moment (event.Take call) before new last
  pub stops : is_more last ≡ false

-- an action
abbrev pub Does : ℕ → LoadStep → Sides → Sides → Type 0
Does moment (does.Post e) a b = (b.server ≡ a.server) × (r : Reply) × Posts moment e a.channel b.channel r
Does moment does.Exchange a b = Exchanges moment a b
Does moment (does.Takes call) a b = (b.server ≡ a.server) × Takes moment call a.channel b.channel

-- actions, one after the other
abbrev pub Plays : List LoadAction → Sides → Sides → Type 0
Plays [] a b = b ≡ a
Plays (action ∷ actions) a b = (mid : Sides) × Does action.moment action.step a mid × Plays actions mid b
