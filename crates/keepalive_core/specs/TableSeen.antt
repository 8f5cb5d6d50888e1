-- What contracts see of a table of keepalives.
use Rattle.std.specs.Prelude.{ℕ, Option, List}
use Rattle.grpc_base.specs.declared.tender.TendTurn.{TendTurn}
use Rattle.keepalive_core.specs.declared.rule.KeepRule.{KeepRule}

-- the rule, the links that were opened with their keepalives, how many turns there were, and the last one
pub record TableSeen (L : Type 0) : Type 0 where
  pub rule : KeepRule
  pub links : List L
  pub turns : ℕ
  pub last : Option TendTurn
