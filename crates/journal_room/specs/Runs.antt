-- A channel that was given events, one after another, each where its journal had room for it.
-- Example: a new channel with `pick_first` is given one Tick. Its run has that event, and its journal one entry.
use Rattle.std.specs.Prelude.{◌≡◌, ℕ, true, List, map}
use Rattle.std.specs.Global.{Global}
use Rattle.grpc_base.specs.declared.event.Stamped.{Stamped}
use Rattle.grpc_base.specs.declared.kind.Kind.{Kind}
use Rattle.lb_policy.specs.Table.{PolicySeen}
use Rattle.policy_rack.specs.Kinds.{are_ready}
use Rattle.channel_core.specs.Core.{CoreSeen, IsNewBy, Runs}
use Rattle.journal_room.specs.Posted.{EventsArePosted}
use Rattle.journal_room.specs.Rooms.{HadRoom}

-- what of a policy no step changes: its kind, and how many subchannels a tier of it has
abbrev pub looks_of : List PolicySeen → List (Kind × ℕ)
looks_of policies = map (λ p. (p.kind, p.width)) policies

-- A channel was new with this authority, and with policies that look like these, no two of one kind and one of them `pick_first`. It was given these events,
-- each of them such as its type allows, and for each entry there was room in its journal
pub record HasRunBy (authority : List ℕ) (policies : List PolicySeen) (events : List Stamped) (core : CoreSeen) : Type 0 where
  pub alloc : Global
  pub own : List PolicySeen
  pub new : CoreSeen
  pub alike : looks_of own ≡ looks_of policies
  pub ready : are_ready own ≡ true
  pub is_new : IsNewBy alloc authority own new
  pub runs : Runs new events core
  pub posted : EventsArePosted events
  pub room : HadRoom core.journal.entries
