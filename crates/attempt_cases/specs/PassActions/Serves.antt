-- A pass over the queue, attempt by attempt: each that can be served asks for a pick once, and is placed or ends. What is asked of one of these, and that a pass
-- is all of them.
-- Example: the attempts 1 and 2 of call 1 wait, and the policy is READY. The pass begins after no attempt; (1, 1) is served, and then (1, 2); after that none
-- waits, and the pass is over.
use Rattle.std.specs.Prelude.{Bool, None, Option, Some, false, suc, true, zero, ℕ, ◌≡◌, ◌⊎◌}
use Rattle.channel_actions.specs.Agrees.{Agrees}
use Rattle.channel_actions.specs.Quiescent.{IsAt}
use Rattle.channel_core.specs.Settling.{also, most, served, stays}
use Rattle.channel_core.specs.States.{StateSeen}
use Rattle.channel_core.specs.Steps.{Moved, next_served}
use Rattle.session_actions.specs.Actions.{config_action}
use Rattle.session_actions.specs.Policies.{next_of_pass, next_of_queue, next_take_over}
use Rattle.session_actions.specs.Subchannels.{next_connected, next_of_clock}
use Rattle.session_actions.specs.Words.{first_of}
use Rattle.session_actions.specs.declared.entry.OpenEntry.{OpenEntry}
use Rattle.session_actions.specs.declared.entry.Stage.TheVariants as stage
use Rattle.session_actions.specs.declared.entry.Turn.{Turn}
use Rattle.session_actions.specs.declared.seen.Seen.{Seen}
use Rattle.call_cases.specs.SettlingActions.Sound.{IsSound}
use Rattle.call_cases.specs.SettlingActions.Steps.{IsMade, Leads}

-- a pass is at its begin, or after an attempt that asked last
abbrev pub turn_of : ℕ × ℕ → Turn
turn_of p = record { call = p.0; row = p.1 }

pub record IsBeginning (last : ℕ × ℕ) (o : OpenEntry) (s : Seen) : Type 0 where
  pub none : last ≡ (0, 0)
  pub made : IsMade o s

pub record IsPassing (last : ℕ × ℕ) (o : OpenEntry) (s : Seen) : Type 0 where
  pub clock : next_of_clock s ≡ None
  pub take_over : next_take_over s ≡ None
  pub connected : next_connected s ≡ None
  pub configs : first_of (config_action s) s.calls ≡ None
  pub begun : IsBeginning last o s ⊎ (o.turn ≡ Some (turn_of last))

-- the next one is served: it asks, and is placed or ends
pub record IsServed (p : ℕ × ℕ) (x : StateSeen) (o : OpenEntry) (s : Seen) : Type 0 where
  pub leads : Leads (served p.0 p.1 x).state o s (IsPassing p)
  pub turn : leads.reaches.entry.turn ≡ Some (turn_of p)
  pub sound : IsSound (served p.0 p.1 x).state leads.reaches.seen
  pub moved : (served p.0 p.1 x).moved ≡ true

abbrev pub ServeSteps : Type 0
ServeSteps =
    (last p : ℕ × ℕ) (x : StateSeen) (o : OpenEntry) (s : Seen) → Agrees x s → IsSound x s → IsAt stage.Settling o s → IsPassing last o s
    → next_served last x ≡ Some p → IsServed p x o s

-- where the channel serves none, the session's lines give none
pub record IsOver (o : OpenEntry) (s : Seen) (last : ℕ × ℕ) : Type 0 where
  pub pass : next_of_pass o s ≡ None
  pub queue : IsBeginning last o s → next_of_queue s ≡ None

abbrev pub PassesStop : Type 0
PassesStop =
    (last : ℕ × ℕ) (x : StateSeen) (o : OpenEntry) (s : Seen) → Agrees x s → IsSound x s → IsAt stage.Settling o s → IsPassing last o s
    → next_served last x ≡ None → IsOver o s last

-- a pass ends before it served 2^64 - 1 attempts. (Each stands after the one before, and an entry makes no more.)
abbrev pub is_passed_by : (ℕ × ℕ → Moved → Bool) → Option (ℕ × ℕ) → Moved → Bool
is_passed_by further None m = true
is_passed_by further (Some p) m = further p (also m.moved (served p.0 p.1 m.state))

unfoldable pub is_passed : ℕ → ℕ × ℕ → Moved → Bool
is_passed zero last m = false
is_passed (suc left) last m = is_passed_by (is_passed left) (next_served last m.state) m

abbrev pub PassesEnd : Type 0
PassesEnd =
    (x : StateSeen) (o : OpenEntry) (s : Seen) → Agrees x s → IsSound x s → IsAt stage.Settling o s → IsMade o s → is_passed most (0, 0) (stays x) ≡ true
