-- What is done to one subchannel of a net is an action of the session, and leaves the net as what the session then is. Each is stated apart from calls
-- and links: of a session and a net that agree (`Sees`), and of the line of the session's definition that gives the action.
-- Example: the dial of subchannel 2 was taken, and it fails. In the session it is in TRANSIENT_FAILURE after `dial_failed 2`, and its policies have
-- noted it; in the net after `net_dial_failed 2`; and the two agree again.
use Rattle.std.specs.Option.{option_map}
use Rattle.std.specs.Prelude.{List, None, Option, Some, [], if◌then◌else◌, length, nat_lt, true, ℕ, ◌+◌, ◌<◌, ◌∷◌, ◌≡◌, ◌⊎◌}
use Rattle.channel_net.specs.Steps.{NetSeen, clock_round, connect_round, first_wished, net_answer, net_asked, net_dial_failed, net_dialed, net_down, net_ready, net_state, net_up, new_net}
use Rattle.grpc_base.specs.declared.kind.Pick.{Pick}
use Rattle.lb_policy.specs.Table.{PolicySeen, pick_of}
use Rattle.policy_rack.specs.Steps.{may_take_over}
use Rattle.session_actions.specs.Sessions.{new_session}
use Rattle.session_actions.specs.declared.seen.Setup.{Setup}
use Rattle.net_actions.specs.Sees.{KindsAgree, Sees}
use Rattle.policy_rack.specs.declared.live.Live.{Live}
use Rattle.session_actions.specs.declared.policy.PolicyUse.{PolicyUse}
use Rattle.session_actions.specs.Entries.{next_word, now}
use Rattle.session_actions.specs.Policies.{current_policy, next_take_over, pick_requested, policy_of, policy_state}
use Rattle.session_actions.specs.Subchannels.{connect_timed_out, dial_failed, dial_taken, gone_down, in_state, is_connecting, is_dialling, link_up, next_connected, next_of_clock, settings_arrived, take_dial, with_sub}
use Rattle.session_actions.specs.Words.{numbered}
use Rattle.session_actions.specs.declared.seen.Seen.{Seen}
use Rattle.session_actions.specs.declared.subchannel.Subchannel.{Subchannel}
use Rattle.subchannel.specs.Boards.{first_number}
use Rattle.subchannel.specs.Records.{is_dialable, is_due}
use Rattle.grpc_base.specs.declared.event.Conn.TheVariants as conn
use Rattle.grpc_base.specs.declared.event.Reply.TheVariants as reply
use Rattle.session_actions.specs.declared.action.Action.TheVariants as action

-- a dial is taken: of the first subchannel that is to be dialled, with the moments that its wait gives; where there is none, there is nothing to dial.
-- (The count of dials stands still at the end of its type, which no session reaches.)
abbrev pub DialCountsFit : List Subchannel → Type 0
DialCountsFit [] = Unit {0}
DialCountsFit (b ∷ subs) = (b.dials < 4294967295) × DialCountsFit subs

pub record IsTaken (sub : ℕ) (s : Seen) (n : NetSeen) : Type 0 where
  pub again : ℕ
  pub until : ℕ
  pub next : take_dial s ≡ action.DialTaken sub again until
  pub sees : Sees (dial_taken sub again until s) (net_dialed (now s) (next_word s) n)

abbrev pub DialsAreTaken : Type 0
DialsAreTaken =
    (sub : ℕ) (s : Seen) (n : NetSeen) → Sees s n → DialCountsFit s.subs → first_number is_dialable n.board ≡ Some sub → IsTaken sub s n

abbrev pub NoneToDial : Type 0
NoneToDial = (s : Seen) (n : NetSeen) → Sees s n → first_number is_dialable n.board ≡ None → take_dial s ≡ action.EventAnswered reply.NotYet

-- a dial that is under way fails
abbrev pub DialsFail : Type 0
DialsFail =
    (sub : ℕ) (s : Seen) (n : NetSeen) (b : Subchannel) → Sees s n → numbered s.subs sub ≡ Some b → is_dialling b ≡ true
    → Sees (dial_failed sub s) (net_dial_failed sub n)

-- a dial that is under way is a link, which is the next one of the session
abbrev pub DialsAreLinks : Type 0
DialsAreLinks =
    (sub : ℕ) (s : Seen) (n : NetSeen) (b : Subchannel) → Sees s n → numbered s.subs sub ≡ Some b → is_dialling b ≡ true
    → Sees (link_up sub s) (net_up sub (length s.links + 1) n)

-- the server's SETTINGS come on the link of one that is CONNECTING
abbrev pub SettingsCome : Type 0
SettingsCome =
    (sub link : ℕ) (s : Seen) (n : NetSeen) (b : Subchannel) → Sees s n → numbered s.subs sub ≡ Some b → is_connecting b.state ≡ true
    → b.link ≡ Some link → Sees (settings_arrived sub s) (net_ready sub link n)

-- its link is over, or takes no further stream
abbrev pub LinksGo : Type 0
LinksGo =
    (sub link : ℕ) (s : Seen) (n : NetSeen) (b : Subchannel) → Sees s n → numbered s.subs sub ≡ Some b → b.link ≡ Some link
    → Sees (with_sub gone_down sub s) (net_down sub link n)

-- the clock: where the net changes a subchannel, the session's next action by the clock is that it times out, or that its backoff ends; and where
-- the net changes none, there is none
abbrev pub TimesOut : ℕ → Seen → NetSeen → Type 0
TimesOut sub s n =
    (next_of_clock s ≡ Some (action.ConnectTimesOut sub))
    × ((gone : List ℕ) → Sees (connect_timed_out sub s) (clock_round (now s) (record { net = n; gone = gone })).net)

abbrev pub EndsBackoff : ℕ → Seen → NetSeen → Type 0
EndsBackoff sub s n =
    (next_of_clock s ≡ Some (action.BackoffEnds sub))
    × ((gone : List ℕ) → Sees (with_sub (in_state conn.Idle) sub s) (clock_round (now s) (record { net = n; gone = gone })).net)

abbrev pub ClockChanges : Type 0
ClockChanges =
    (sub : ℕ) (s : Seen) (n : NetSeen) → Sees s n → first_number (is_due (now s)) n.board ≡ Some sub → TimesOut sub s n ⊎ EndsBackoff sub s n

abbrev pub ClockRests : Type 0
ClockRests = (s : Seen) (n : NetSeen) → Sees s n → first_number (is_due (now s)) n.board ≡ None → next_of_clock s ≡ None

-- a subchannel that is IDLE and that a live policy wishes becomes CONNECTING, the lowest number first
abbrev pub Connects : ℕ → Seen → NetSeen → Type 0
Connects sub s n =
    (next_connected s ≡ Some (action.SubchannelConnects sub)) × Sees (with_sub (in_state conn.Connecting) sub s) (connect_round n)

abbrev pub WishesConnect : Type 0
WishesConnect = (sub : ℕ) (s : Seen) (n : NetSeen) → Sees s n → first_wished n ≡ Some sub → Connects sub s n

abbrev pub NoneConnects : Type 0
NoneConnects = (s : Seen) (n : NetSeen) → Sees s n → first_wished n ≡ None → next_connected s ≡ None

-- the state of the current policy, which is that of the channel while it is open
abbrev pub StatesAreSame : Type 0
StatesAreSame = (s : Seen) (n : NetSeen) → Sees s n → option_map (λ g. policy_state g s) (current_policy s) ≡ net_state n

-- A pick request goes to the current policy, and is answered by its table; what it adds is one turn more of that policy. (Where a policy is pending,
-- there is a current one; the net's count of requests stands still at the end of its type, which no session reaches.)
abbrev pub IsBeside : Option Live → Option Live → Type 0
IsBeside current pending = (p : Live) → pending ≡ Some p → (c : Live) × (current ≡ Some c)

abbrev pub AsksAreAnswered : Type 0
AsksAreAnswered =
    (s : Seen) (n : NetSeen) (g : PolicyUse) (row : ℕ) (answer : Pick) → Sees s n → IsBeside n.asker.rack.current n.asker.rack.pending
    → nat_lt n.asker.asks 18446744073709551615 ≡ true → current_policy s ≡ Some g
    → (net_answer n ≡ Some (record { generation = g.number; pick = pick_of (policy_of g s) }))
    × Sees (pick_requested row g.number answer s) (net_asked n)

-- a new net of the policies that the channel was made with is what a new session has done
abbrev pub NewOnesAgree : Type 0
NewOnesAgree = (setup : Setup) (policies : List PolicySeen) → KindsAgree setup.policies policies → Sees (new_session setup) (new_net policies)

-- a pending policy takes over exactly where the net's does, and is the one of its number
abbrev pub TakeOversAreSame : Type 0
TakeOversAreSame =
    (s : Seen) (n : NetSeen) → Sees s n
    → next_take_over s
    ≡ (if may_take_over n.asker.rack then option_map (λ l. action.PolicyTakesOver l.generation) n.asker.rack.pending else None)
