-- A channel that is new over some allocator and some policies is new.
use Rattle.std.proofs.Common.{ℕ, List}
use Rattle.std.specs.Global.{Global}
use Rattle.lb_policy.specs.Table.{PolicySeen}
use Rattle.channel_core.specs.Core.{CoreSeen, IsNew, IsNewBy}

pub is_new : (alloc : Global) (authority : List ℕ) (policies : List PolicySeen) (core : CoreSeen) → IsNewBy alloc authority policies core → IsNew authority core
is_new alloc authority policies core new = (alloc, policies, new)
