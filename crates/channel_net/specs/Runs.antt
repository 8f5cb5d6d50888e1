-- A net over whole runs.
use Rattle.std.specs.Prelude.{ℕ, ◌+◌, ◌==◌, is_some, if◌then◌else◌, List, [], ◌∷◌, ◌++◌, map, option_to_list}
use Rattle.grpc_base.specs.declared.address.Address.{Address}
use Rattle.grpc_base.specs.declared.kind.Kind.{Kind}
use Rattle.lb_policy.specs.Table.{PolicySeen}
use Rattle.subchannel.specs.Boards.{numbered}
use Rattle.channel_net.specs.Steps.{NetSeen, new_net, net_resolved, net_dialed, dial_refusal, net_up, net_dial_failed, net_ready, net_down, net_clocked, net_settled, net_asked, net_answer, net_shut}

-- a call that may change a net
pub data NetCall : Type 0 where
  Resolved : Kind → List Address → NetCall
  Dial : ℕ → ℕ → NetCall
  Up : ℕ → ℕ → NetCall
  DialFailed : ℕ → NetCall
  Ready : ℕ → ℕ → NetCall
  Down : ℕ → ℕ → NetCall
  Clock : ℕ → NetCall
  Settle : NetCall
  Ask : NetCall
  Shut : NetCall

-- the net after one call, and after several; a link or a failure of a dial that is refused changes nothing
abbrev pub after_call : NetCall → NetSeen → NetSeen
after_call (Resolved kind addresses) n = net_resolved kind addresses n
after_call (Dial moment word) n = net_dialed moment word n
after_call (Up sub link) n = if is_some (dial_refusal (numbered n.board sub)) then n else net_up sub link n
after_call (DialFailed sub) n = if is_some (dial_refusal (numbered n.board sub)) then n else net_dial_failed sub n
after_call (Ready sub link) n = net_ready sub link n
after_call (Down sub link) n = net_down sub link n
after_call (Clock moment) n = (net_clocked moment n).net
after_call Settle n = (net_settled n).net
after_call Ask n = net_asked n
after_call Shut n = (net_shut n).net

abbrev pub after_calls : List NetCall → NetSeen → NetSeen
after_calls [] n = n
after_calls (call ∷ calls) n = after_calls calls (after_call call n)

-- the net of these policies after some calls
abbrev pub net_of : List NetCall → List PolicySeen → NetSeen
net_of calls policies = after_calls calls (new_net policies)

-- the generations that answered its pick requests, in their order
abbrev pub answered_by : NetCall → NetSeen → List ℕ
answered_by Ask n = map (λ a. a.generation) (option_to_list (net_answer n))
answered_by _ n = []

abbrev pub answered : List NetCall → NetSeen → List ℕ
answered [] n = []
answered (call ∷ calls) n = answered_by call n ++ answered calls (after_call call n)

-- how often a generation is among them
abbrev pub times : ℕ → List ℕ → ℕ
times generation [] = 0
times generation (g ∷ rest) = (if g == generation then 1 else 0) + times generation rest
