-- A channel that was new and was given events, and one more.
use Rattle.std.proofs.Common.{◌≡◌, ℕ, List, [], ◌∷◌, ◌++◌, true, false, refl, sym, subst, inl, inr}
use Rattle.std.specs.Global.{Global}
use Rattle.grpc_base.specs.declared.event.Event.{Event}
use Rattle.grpc_base.specs.declared.event.Reply.{Reply}
use Rattle.grpc_base.specs.declared.event.Stamped.{Stamped}
use Rattle.grpc_base.specs.declared.post.PostError.{PostError}
use Rattle.grpc_base.specs.declared.post.PostError.TheVariants as failed
use Rattle.lb_policy.specs.Table.{PolicySeen}
use Rattle.policy_rack.specs.Kinds.{are_ready}
use Rattle.channel_core.specs.Core.{CoreSeen, IsNewBy, Steps}
use Rattle.journal_room.specs.Posted.{IsPosted}
use Rattle.journal_room.specs.Rooms.{HasRoom}
use Rattle.journal_room.proofs.RunLaws.{new_has_run as new_has_run_by, step_has_run}
use Rattle.shared_channel.specs.Running.{HasRun, IsRunning, origin_of}
use Rattle.shared_channel.specs.Turns.{Fails}

-- a new channel was given no event
pub new_has_run : (alloc : Global) (authority : List ℕ) (policies : List PolicySeen) (core : CoreSeen) → IsNewBy alloc authority policies core → are_ready policies ≡ true
    → HasRun (origin_of authority policies) core
new_has_run alloc authority policies core new ready =
    record { authority = authority; policies = policies; events = []; origin_is = refl; run = new_has_run_by alloc authority policies core new ready }

has_run_more : (origin : List ℕ) (core next : CoreSeen) (s : Stamped) (r : Reply) → HasRun origin core → Steps core next s r → IsPosted s.event → HasRoom core.journal.entries s.event
    → HasRun origin next
has_run_more origin core next s r h step is room = record {
  authority = h.authority;
  policies = h.policies;
  events = h.events ++ s ∷ [];
  origin_is = h.origin_is;
  run = step_has_run h.authority h.policies h.events core next s r h.run step is room;
}

-- a step that is answered, for which there was room, keeps it so
pub steps_run : (origin : List ℕ) (old new : CoreSeen) (s : Stamped) (r : Reply) → Steps old new s r → IsPosted s.event → HasRoom old.journal.entries s.event
    → IsRunning origin old → IsRunning origin new
steps_run origin old new s r step is room (inl run) = inl (has_run_more origin old new s r run step is room)
steps_run origin old new s r step is room (inr spent) = (let before : old.spent ≡ false = step.before in absurd (cc))

-- and so does a step that fails
pub fails_run : (origin : List ℕ) (e : Event) (old new : CoreSeen) (error : PostError) → Fails e old error new → IsRunning origin old → IsRunning origin new
fails_run origin e old new (failed.NoMemory false) fails running = subst (IsRunning origin) (sym fails.0) running
fails_run origin e old new (failed.NoMemory true) fails running = inr fails.0
fails_run origin e old new (failed.SessionFull entries octets) fails running = subst (IsRunning origin) (sym fails.0) running
