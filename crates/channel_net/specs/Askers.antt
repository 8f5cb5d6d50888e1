-- A rack that counts the pick requests, and what each call makes of it. Nobody has to believe it: the laws say what holds.
use Rattle.std.specs.Prelude.{ℕ, ◌+◌, ◌≤◌, ◌&&◌, nat_lt, Bool, is_some, if◌then◌else◌, Option, Some, None, List, [], ◌∷◌}
use Rattle.std.specs.Option.{option_map, option_and_then}
use Rattle.grpc_base.specs.declared.event.Conn.{Conn}
use Rattle.grpc_base.specs.declared.kind.Kind.{Kind}
use Rattle.lb_policy.specs.declared.seen.SubSeen.{SubSeen}
use Rattle.lb_policy.specs.Table.{PolicySeen, pick_of}
use Rattle.policy_rack.specs.Kinds.{first_place}
use Rattle.policy_rack.specs.Steps.{RackSeen, new_rack, adopted, noted_by_live, may_take_over, taken_over, asked, all_retired, policy_of, live_of}
use Rattle.channel_net.specs.declared.replies.Asked.{Asked}

pub record AskerSeen : Type 0 where
  pub rack : RackSeen
  -- how many pick requests its policies answered
  pub asks : ℕ

-- no policy has more turns than that
abbrev pub TurnsWithin : ℕ → List PolicySeen → Type 0
TurnsWithin n [] = Unit {0}
TurnsWithin n (p ∷ policies) = (p.turns ≤ n) × TurnsWithin n policies

abbrev pub new_asker : List PolicySeen → AskerSeen
new_asker policies = record { rack = new_rack policies; asks = 0 }

-- a result for the policy of a kind
abbrev pub asker_adopted : List SubSeen → Kind → AskerSeen → AskerSeen
asker_adopted view kind a = record a { rack = adopted view (first_place kind a.rack.policies) a.rack }

-- the live policies are given the state of a subchannel, if it has one
abbrev pub reported : Option Conn → ℕ → AskerSeen → AskerSeen
reported None sub a = a
reported (Some state) sub a = record a { rack = noted_by_live sub state a.rack }

abbrev pub asker_taken_over : AskerSeen → AskerSeen
asker_taken_over a = record a { rack = (if may_take_over a.rack then taken_over a.rack else a.rack) }

abbrev pub asker_retired : AskerSeen → AskerSeen
asker_retired a = record a { rack = all_retired a.rack }

-- the generation that pick requests go to, unless the count of requests is at its end
abbrev pub may_ask : AskerSeen → Bool
may_ask a = is_some (live_of a.rack.policies a.rack.current) && nat_lt a.asks 18446744073709551615

abbrev pub asker_asked : AskerSeen → AskerSeen
asker_asked a = if may_ask a then record { rack = asked a.rack; asks = a.asks + 1 } else a

-- what it answers
abbrev pub answer_of : RackSeen → Option Asked
answer_of r =
    option_and_then (λ live. option_map (λ p. record { generation = live.generation; pick = pick_of p }) (policy_of r.policies r.current)) r.current

abbrev pub asker_answer : AskerSeen → Option Asked
asker_answer a = if may_ask a then answer_of a.rack else None
