-- What holds of a net, whatever calls were made of it ("gRPC Connectivity Semantics and API"; "Load Balancing in gRPC").
use Rattle.std.specs.Prelude.{◌≡◌, ◌<◌, ℕ, ◌||◌, true, false, if◌then◌else◌, Some, IsSomeAnd, List, slice_get, Option, None, is_some}
use Rattle.grpc_base.specs.declared.address.Address.{Address}
use Rattle.grpc_base.specs.declared.event.Conn.TheVariants as conn
use Rattle.grpc_base.specs.Addresses.{has_address}
use Rattle.lb_policy.specs.Table.{PolicySeen, pick_of}
use Rattle.subchannel.specs.Records.{SubRecord, is_due, awaits_preface, is_ready}
use Rattle.subchannel.specs.Boards.{numbered}
use Rattle.subchannel.specs.Runs.{live_count, IsLater}
use Rattle.policy_rack.specs.declared.live.Live.{Live}
use Rattle.policy_rack.specs.Kinds.{are_ready}
use Rattle.policy_rack.specs.Runs.{IsKept, KindsOfLiveDiffer}
use Rattle.policy_rack.specs.Steps.{is_at, may_take_over}
use Rattle.channel_net.specs.Steps.{NetSeen, new_net, net_clocked, net_settled, net_asked, net_answer, is_wished}
use Rattle.channel_net.specs.Lists.{link_of, view_of}
use Rattle.channel_net.specs.Runs.{NetCall, after_calls, net_of, answered, times}

-- an address has one live subchannel while a live generation was given it, and else none
abbrev pub LiveWhereListed : Type 0
LiveWhereListed =
    (calls : List NetCall) (policies : List PolicySeen) (a : Address) → live_count a (net_of calls policies).board ≡ (if has_address (net_of calls policies).current a || has_address (net_of calls policies).pending a then 1 else 0)

-- a number is that of one subchannel for good
abbrev pub NumbersStay : Type 0
NumbersStay =
    (calls more : List NetCall) (policies : List PolicySeen) (number : ℕ) (s : SubRecord) → numbered (net_of calls policies).board number ≡ Some s → IsSomeAnd (numbered (after_calls more (net_of calls policies)).board number) (λ t. IsLater s t)

-- a subchannel has a link of its own exactly where it is READY, or CONNECTING with a dial that is a link
abbrev pub LinksAreOfTheBoard : Type 0
LinksAreOfTheBoard =
    (calls : List NetCall) (policies : List PolicySeen) (number : ℕ) (s : SubRecord) → numbered (net_of calls policies).board number ≡ Some s → is_some (link_of (net_of calls policies).links number) ≡ (is_ready s.state || awaits_preface s)

-- a pending generation stands only beside a current one, of another policy; the policy of a generation that was dropped
-- or replaced is reset: it has the empty view, none that failed and no turn
abbrev pub GenerationsAreKept : Type 0
GenerationsAreKept = (calls : List NetCall) (policies : List PolicySeen) → IsKept (net_of calls policies).asker.rack

-- the two live generations are of different kinds
abbrev pub LiveKindsDiffer : Type 0
LiveKindsDiffer = (calls : List NetCall) (policies : List PolicySeen) → are_ready policies ≡ true → KindsOfLiveDiffer (net_of calls policies).asker.rack

-- a pick request changes no policy but that of the current generation, whose answer is that of the table
abbrev pub AsksReachTheCurrent : Type 0
AsksReachTheCurrent =
    (n : NetSeen) (place : ℕ) → is_at place n.asker.rack.current ≡ false → slice_get (net_asked n).asker.rack.policies place ≡ slice_get n.asker.rack.policies place

abbrev pub AnswersAreOfTheTable : Type 0
AnswersAreOfTheTable =
    (n : NetSeen) (live : Live) (p : PolicySeen) → n.asker.rack.current ≡ Some live → slice_get n.asker.rack.policies live.place ≡ Some p → n.asker.asks < 18446744073709551615 → net_answer n ≡ Some (record { generation = live.generation; pick = pick_of p })

-- the turns of the current generation are the pick requests that it answered
abbrev pub TurnsAreAsks : Type 0
TurnsAreAsks =
    (calls : List NetCall) (policies : List PolicySeen) (live : Live) (p : PolicySeen) → (net_of calls policies).asker.rack.current ≡ Some live → slice_get (net_of calls policies).asker.rack.policies live.place ≡ Some p → p.turns ≡ times live.generation (answered calls (new_net policies))

-- the view of a live generation is the list of its addresses, each as the live subchannel that it has, with its state
abbrev pub SeesBoard : List SubRecord → List Address → List PolicySeen → Option Live → Type 0
SeesBoard board addresses policies None = Unit {0}
SeesBoard board addresses policies (Some live) =
    (p : PolicySeen) × ((slice_get policies live.place ≡ Some p) × (p.view ≡ view_of board addresses))

pub record Views (n : NetSeen) : Type 0 where
  pub current : SeesBoard n.board n.current n.asker.rack.policies n.asker.rack.current
  pub pending : SeesBoard n.board n.pending n.asker.rack.policies n.asker.rack.pending

abbrev pub ViewsAreOfTheBoard : Type 0
ViewsAreOfTheBoard = (calls : List NetCall) (policies : List PolicySeen) → are_ready policies ≡ true → Views (net_of calls policies)

-- after the clock reached a moment, nothing is left that it changes by then
abbrev pub NothingIsDue : Type 0
NothingIsDue =
    (moment : ℕ) (n : NetSeen) (number : ℕ) (s : SubRecord) → numbered (net_clocked moment n).net.board number ≡ Some s → is_due moment s ≡ false

-- after a net settled, no pending generation may take over, and no live generation wishes an IDLE subchannel
pub record IsSettled (n : NetSeen) : Type 0 where
  pub decided : may_take_over n.asker.rack ≡ false
  pub connected : (number : ℕ) (s : SubRecord) → numbered n.board number ≡ Some s → s.state ≡ conn.Idle → is_wished n.asker.rack number ≡ false

abbrev pub NothingWaits : Type 0
NothingWaits = (n : NetSeen) → IsSettled (net_settled n).net
