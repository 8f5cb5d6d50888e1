-- A policy of this crate.
use Rattle.std.specs.Prelude.{ℕ, []}
use Rattle.grpc_base.specs.declared.kind.Kind.TheVariants as kind
use Rattle.lb_policy.specs.Table.{PolicySeen}
use Rattle.lb_kinds.specs.Seen.{Viewed}

pub record Tiered : Type 0 where
  pub width : ℕ
  pub view : Viewed
  pub turns : ℕ

-- the policy of tiers with that width, view and turns
abbrev pub of_tiers : Tiered → PolicySeen
of_tiers p = record { kind = kind.Priority; width = p.width; view = p.view.subs; failed = p.view.failed; turns = p.turns }

-- one that was made: the empty view, none that failed, and no turn
abbrev pub new_tiered : ℕ → Tiered
new_tiered width = record { width = width; view = record { subs = []; failed = [] }; turns = 0 }
