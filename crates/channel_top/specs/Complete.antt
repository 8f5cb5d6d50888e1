-- When the mode `replay` has to end with its report: nothing but a lack of memory may stop it.
use Rattle.std.specs.Prelude.{◌≡◌, ◌≤◌, ℕ, Option, Some, List, ◌∷◌, ◌++◌, length}
use Rattle.std.specs.List.{sum_by}
use Rattle.grpc_base.specs.declared.event.Stamped.{Stamped}
use Rattle.grpc_base.specs.Posts.{event_bytes}
use Rattle.attempt_ledger.specs.declared.journal.Journal.{Journal}
use Rattle.attempt_ledger.specs.declared.ledger.Ledger.{Ledger}
use Rattle.journal_room.specs.Rooms.{HasRoom}
use Rattle.lb_policy.specs.Table.{PolicySeen}
use Rattle.session_text.specs.Sessions.{IsSession}
use Rattle.resolver_core.specs.AnyTargets.{authority_of}
use Rattle.resolver_core.specs.declared.any_target.Target.{Target}
use Rattle.script_input.specs.Scripts.{IsScript}
use Rattle.script_input.specs.declared.form.Form.TheVariants as form

-- a session within the limits: the journal of a session by these policies and with this authority, to which the events before one were
-- given, has room for that one
abbrev pub HaveRoom : List PolicySeen → List ℕ → List Stamped → Type 0
HaveRoom policies authority events =
    (prefix : List Stamped) (next : Stamped) (afterwards : List Stamped) (journal : Journal) (ledger : Ledger)
    → events ≡ prefix ++ next ∷ afterwards → IsSession authority policies prefix journal ledger → HasRoom journal.entries next.event

-- the input is known, and is a script whose session is within the limits
pub record IsRunnable (policies : List PolicySeen) (left : Option (List ℕ)) : Type 0 where
  pub input : List ℕ
  pub target : List ℕ
  pub value : Target
  pub events : List Stamped
  pub left_is : left ≡ Some input
  pub script : IsScript form.Script input target value events
  pub room : HaveRoom policies (authority_of value) events

-- the same without a word of the channel: as many events as a journal can hold, which have no more bytes than it can hold, where each counts
-- with the most that it can add
abbrev pub EventsFit : List Stamped → Type 0
EventsFit events = (length events ≤ 1048576) × (sum_by (λ s. event_bytes s.event) events ≤ 268435456)

-- the input is known, and is a script of so few events
pub record IsShortScript (left : Option (List ℕ)) : Type 0 where
  pub input : List ℕ
  pub target : List ℕ
  pub value : Target
  pub events : List Stamped
  pub left_is : left ≡ Some input
  pub script : IsScript form.Script input target value events
  pub few : EventsFit events
