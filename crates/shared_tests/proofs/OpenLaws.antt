-- A new channel may go under a lock, and a post leaves the lock of its handle.
use Rattle.std.proofs.Common.{◌≡◌, ◌≤◌, ℕ, List, ap, arith, length, subst, sym, true}
use Rattle.std.specs.Global.{Global}
use Rattle.std.specs.Prelude.{Result}
use Rattle.grpc_base.specs.declared.event.Entry.{Entry}
use Rattle.grpc_base.specs.declared.event.Event.{Event}
use Rattle.grpc_base.specs.declared.event.Reply.{Reply}
use Rattle.grpc_base.specs.declared.post.PostError.{PostError}
use Rattle.lb_policy.specs.Table.{PolicySeen}
use Rattle.policy_rack.specs.Kinds.{are_ready}
use Rattle.turn_lock.specs.History.{SeatSeen}
use Rattle.channel_core.specs.Core.{CoreSeen, IsNewBy}
use Rattle.shared_channel.specs.Running.{HasRun, origin_of}
use Rattle.shared_channel.specs.Turns.{TakesPlace}
use Rattle.shared_channel.proofs.RunningLaws.{new_has_run}

pub new_run : (alloc : Global) (authority : List ℕ) (policies : List PolicySeen) (origin : List ℕ) (core : CoreSeen) → origin ≡ origin_of authority policies
    → IsNewBy alloc authority policies core → are_ready policies ≡ true → HasRun origin core
new_run alloc authority policies origin core is new ready = subst (λ (o : List ℕ). HasRun o core) (sym is) (new_has_run alloc authority policies core new ready)

pub new_fits : (alloc : Global) (authority : List ℕ) (policies : List PolicySeen) (core : CoreSeen) → IsNewBy alloc authority policies core → length core.journal.entries ≤ 1048576
new_fits alloc authority policies core new = omega (arith, ap length new.journal)

pub place_lock : (may_give : ℕ → Type 0) (word : ℕ) (event : Event) (result : Result Reply PostError) (before after : SeatSeen Entry) → TakesPlace may_give word event result before after → after.lock ≡ before.lock
place_lock may_give word event result before after takes = takes.lock
