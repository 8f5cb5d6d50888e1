-- What is under the lock: a channel that was new was given events, one after another.
-- Example: the origin of a channel with the authority `a` and `pick_first` alone is 1, 97, 0, 1: the length and the bytes of the authority, and after them the
-- number of the kind, and the width, of each policy.
use Rattle.std.specs.Prelude.{◌≡◌, ◌⊎◌, ℕ, true, List, [], ◌∷◌, ◌++◌, length}
use Rattle.grpc_base.specs.Kinds.{kind_number}
use Rattle.grpc_base.specs.declared.event.Stamped.{Stamped}
use Rattle.grpc_base.specs.declared.kind.Kind.{Kind}
use Rattle.channel_core.specs.Core.{CoreSeen}
use Rattle.journal_room.specs.Runs.{HasRunBy, looks_of}
use Rattle.lb_policy.specs.Table.{PolicySeen}

-- what is under the lock: a channel, and the numbers that say with what it was new
pub record WatchedSeen : Type 0 where
  pub core : CoreSeen
  pub origin : List ℕ

-- each kind by its number, and the width after it
abbrev pub look_numbers : List (Kind × ℕ) → List ℕ
look_numbers [] = []
look_numbers (look ∷ looks) = kind_number look.0 ∷ look.1 ∷ look_numbers looks

-- the numbers that say an authority and how policies look
abbrev pub origin_of : List ℕ → List PolicySeen → List ℕ
origin_of authority policies = length authority ∷ (authority ++ look_numbers (looks_of policies))

-- a channel that was new with such an authority and such policies was given some events, each where there was room, and this came of it
pub record HasRun (origin : List ℕ) (core : CoreSeen) : Type 0 where
  pub authority : List ℕ
  pub policies : List PolicySeen
  pub events : List Stamped
  pub origin_is : origin ≡ origin_of authority policies
  pub run : HasRunBy authority policies events core

-- the same, or it ran out of memory half way through a step
abbrev pub IsRunning : List ℕ → CoreSeen → Type 0
IsRunning origin core = HasRun origin core ⊎ (core.spent ≡ true)
