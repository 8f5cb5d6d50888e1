-- A new channel agrees with a new session: nothing has happened in either.
use Rattle.std.proofs.Common.{◌≡◌, ◌&&◌, ◌==◌, refl, sym, Bool, true, false, List, [], Option, None, Some, ℕ, zero, suc, if◌then◌else◌, is_none, not}
use Rattle.std.specs.Global.{Global}
use Rattle.std.specs.Option.{option_or}
use Rattle.channel_actions.specs.Agrees.{Agrees}
use Rattle.channel_actions.specs.Calls.{deadline_of, due_of}
use Rattle.channel_actions.specs.Quiescent.{EntriesAreQuiescent}
use Rattle.channel_actions.specs.Laws.{NewChannelsAgree}
use Rattle.channel_actions.specs.Points.{AtRest}
use Rattle.channel_actions.specs.Sets.{is_ready_waiter}
use Rattle.channel_core.specs.Applying.{new_state}
use Rattle.channel_core.specs.States.{StateSeen}
use Rattle.channel_actions.proofs.KeptSessions.Along.{kept_begins}
use Rattle.lb_policy.specs.Table.{PolicySeen}
use Rattle.net_actions.specs.Laws.{NewOnesAgree}
use Rattle.net_actions.specs.Sees.{KindsAgree}
use Rattle.policy_rack.specs.Kinds.{are_ready}
use Rattle.session_actions.specs.Attempts.{is_outstanding, is_queued}
use Rattle.session_actions.specs.Calls.{is_open_call}
use Rattle.session_actions.specs.Events.{is_loss}
use Rattle.session_actions.specs.Links.{link_number}
use Rattle.session_actions.specs.Sessions.{new_session}
use Rattle.session_actions.specs.Words.{holds, is_number, numbered}
use Rattle.session_actions.specs.declared.action.Action.{Action}
use Rattle.session_actions.specs.declared.attempt.Attempt.{Attempt}
use Rattle.session_actions.specs.declared.call.Call.{Call}
use Rattle.session_actions.specs.declared.seen.Seen.{Seen}
use Rattle.session_actions.specs.declared.seen.Setup.{Setup}

none_numbered : {X : Type 0} (n : ℕ) (x : X) → numbered [] n ≡ Some x → ⊥
none_numbered zero x e = absurd (cc)
none_numbered (suc i) x e = absurd (cc)

-- no pair passes a test that looks for a thing of a number
nothing_by : {X : Type 0} (test : Option X → Bool) → test None ≡ false → (n : ℕ) → false ≡ test (numbered [] n)
nothing_by test e zero = sym e
nothing_by test e (suc i) = sym e

and_never : (a b : Bool) → b ≡ false → false ≡ (a && b)
and_never true b e = sym e
and_never false b e = refl

and_less : (a b : Bool) → false ≡ a → false ≡ (a && b)
and_less true b e = absurd (cc)
and_less false b e = refl

abbrev nothing : Option Action
nothing = None

none_or_none : (b : Bool) → option_or (if b then nothing else nothing) nothing ≡ nothing
none_or_none true = refl
none_or_none false = refl

module _ (setup : Setup) (policies : List PolicySeen) (alloc : Global) where
  abbrev x : StateSeen
  x = new_state alloc setup.authority policies

  abbrev s : Seen
  s = new_session setup

  quiescent : EntriesAreQuiescent s
  quiescent posted word e = record { calls = refl; links = none_or_none (is_loss e); policies = refl }

  pub new_agrees : NewOnesAgree → KindsAgree setup.policies policies → are_ready policies ≡ true → Agrees x s
  new_agrees nets kinds ready = record {
    clock = record { entry_is = refl; moment = refl; draws = tt };
    columns = record { rows = refl; calls = refl; asks = refl; generations = refl; links = refl };
    configs = record { authority = refl; shut = refl; held = refl; unconfigured = λ e. refl; policy = λ e unshut. absurd (cc) };
    buckets = record { runs = refl; throttle = refl };
    calls = record { count = refl; each = λ n c e. absurd (none_numbered n c e) };
    links = record { count = refl; each = λ n l e. absurd (none_numbered n l e) };
    net = nets setup policies kinds;
    orderly = record { calls = []; policies = policies; ready = ready; is = refl };
    sets = record {
      queue = record { rising = tt; exact = λ a b. nothing_by (λ (o : Option Attempt). holds (λ (q : Attempt). (q.row.call == a) && is_queued q s) o && not (is_ready_waiter s a)) refl b };
      ready_waiters = record { rising = tt; exact = λ a b. nothing_by (λ (o : Option Attempt). holds (λ (q : Attempt). (q.row.call == a) && is_queued q s) o && is_ready_waiter s a) refl b };
      dues = record { rising = tt; exact = λ a b. nothing_by (holds (λ (c : Call). is_number a (due_of s c))) refl b };
      deadlines = record { rising = tt; exact = λ a b. nothing_by (holds (λ (c : Call). is_number a (deadline_of s c))) refl b };
      awaiting_config = record { rising = tt; exact = λ a b. and_never (a == 0) _ (sym (nothing_by (holds (λ (c : Call). is_open_call c && is_none c.config)) refl b)) };
      fail_fast = record { rising = tt; exact = λ a b. and_less ((a == 0) && holds (λ (c : Call). is_open_call c && is_none c.config) (numbered [] b)) (not (is_ready_waiter s b)) (and_never (a == 0) _ (sym (nothing_by (holds (λ (c : Call). is_open_call c && is_none c.config)) refl b))) };
      outstanding = record { rising = tt; exact = λ a b. nothing_by (holds (λ (q : Attempt). is_outstanding q && (link_number q == a))) refl b };
      resets = refl;
    };
    kept = kept_begins setup;
  }

  pub new_rests : NewOnesAgree → KindsAgree setup.policies policies → are_ready policies ≡ true → AtRest x s
  new_rests nets kinds ready = record { between = refl; agrees = new_agrees nets kinds ready; noted = refl; quiescent = quiescent }

pub new_channels_agree : NewOnesAgree → NewChannelsAgree
new_channels_agree nets setup policies alloc kinds ready = new_rests setup policies alloc nets kinds ready
