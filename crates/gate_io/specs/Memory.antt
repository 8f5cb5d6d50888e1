-- Sources and sinks in memory as contracts see them, and which of their calls fail.
use Rattle.std.specs.Prelude.{◌≡◌, ℕ, Bool, List, Contains, length, min}
use Rattle.gate_io.specs.declared.world.ReadAnswer.{ReadAnswer}
use Rattle.gate_io.specs.declared.world.ReadAnswer.TheVariants as read
use Rattle.gate_io.specs.declared.world.WriteAnswer.{WriteAnswer}
use Rattle.gate_io.specs.declared.world.WriteAnswer.TheVariants as write
use Rattle.gate_io.specs.Outside.{one_more}

-- the bytes that are left, the most that one read gives, the calls that are to fail, how many were made, and how often a read has failed
pub record SourceSeen : Type 0 where
  pub left : List ℕ
  pub most : ℕ
  pub failing : List ℕ
  pub calls : ℕ
  pub faults : ℕ

-- the bytes that were taken, the most that one write takes, the calls that are to fail, how many were made,
-- whether memory was wanting for the last one, and how often a write has failed
pub record SinkSeen : Type 0 where
  pub taken : List ℕ
  pub most : ℕ
  pub failing : List ℕ
  pub calls : ℕ
  pub wanting : Bool
  pub faults : ℕ

-- the call that comes next is to fail; calls count from 1
abbrev pub FailsNext : List ℕ → ℕ → Type 0
FailsNext failing calls = Contains failing (one_more calls)

-- a read gives as much as is left, as fits and as one read gives
abbrev pub GivesMost : SourceSeen → ℕ → ReadAnswer → Type 0
GivesMost before room (read.Got n) = n ≡ min (min (length before.left) room) before.most
GivesMost before room _ = Unit {0}

-- a write takes the whole piece, or as much as one write takes
abbrev pub TakesMost : SinkSeen → ℕ → WriteAnswer → Type 0
TakesMost before size (write.Took n) = n ≡ min size before.most
TakesMost before size _ = Unit {0}

-- what comes on a link: where its bytes come from, whether the link ends after them or stays quiet, and how often it was quiet
pub record LinkInSeen : Type 0 where
  pub source : SourceSeen
  pub ends : Bool
  pub quiet : ℕ

-- what goes on a link: where its bytes go, whether it was closed, and how often a write has failed
pub record LinkOutSeen : Type 0 where
  pub sink : SinkSeen
  pub closed : Bool
  pub faults : ℕ

-- links that are still to be opened, the calls that are to fail, how many were made, and how often one has failed
pub record LinksSeen (L : Type 0) : Type 0 where
  pub links : List L
  pub failing : List ℕ
  pub calls : ℕ
  pub faults : ℕ

-- a listener: the links that it is to accept, and whether it opens
pub record ListenerSeen (L : Type 0) : Type 0 where
  pub links : LinksSeen L
  pub opens : Bool

-- a world in memory: the moments of its clock, and its dialers
pub record WorldSeen (D : Type 0) : Type 0 where
  pub clock : List ℕ
  pub dialers : List D
