-- What a tender that is a table of keepalives, or none, shows of its turns.
use Rattle.std.specs.Prelude.{ℕ, Option}
use Rattle.grpc_base.specs.declared.tender.TendTurn.{TendTurn}
use Rattle.live_run.specs.declared.tending.Tending.{Tending}
use Rattle.live_run.specs.declared.tending.Tending.TheVariants as tending

abbrev pub turns_of : Tending → ℕ
turns_of (tending.Keep table) = table.turns
turns_of (tending.Let tender) = tender.turns

abbrev pub last_of : Tending → Option TendTurn
last_of (tending.Keep table) = table.last
last_of (tending.Let tender) = tender.last
