-- A rack of policies with the generations that use them, and what each call makes of it.
use Rattle.std.specs.Prelude.{ℕ, zero, suc, ◌+◌, Bool, true, false, not, ◌||◌, ◌==◌, is_some, if◌then◌else◌, Option, Some, None, List, [], ◌∷◌, map, slice_get}
use Rattle.std.specs.List.{list_any}
use Rattle.std.specs.Option.{option_map}
use Rattle.grpc_base.specs.declared.event.Conn.{Conn}
use Rattle.grpc_base.specs.declared.event.Conn.TheVariants as conn
use Rattle.grpc_base.specs.declared.kind.Kind.{Kind}
use Rattle.lb_policy.specs.declared.seen.SubSeen.{SubSeen}
use Rattle.lb_policy.specs.Table.{PolicySeen, is_ready, state_of, wish_of}
use Rattle.lb_policy.specs.Steps.{emptied, given, noted, turned}
use Rattle.policy_rack.specs.declared.live.Live.{Live}

pub record RackSeen : Type 0 where
  pub policies : List PolicySeen
  -- the generation that pick requests go to
  pub current : Option Live
  -- the one that is to take its place
  pub pending : Option Live
  -- how many generations were made
  pub made : ℕ

-- the policies after something happened to the one at a place, or to that of a generation
abbrev pub changed : (PolicySeen → PolicySeen) → List PolicySeen → ℕ → List PolicySeen
changed f [] place = []
changed f (p ∷ policies) zero = f p ∷ policies
changed f (p ∷ policies) (suc place) = p ∷ changed f policies place

abbrev pub changed_of : (PolicySeen → PolicySeen) → Option Live → List PolicySeen → List PolicySeen
changed_of f None policies = policies
changed_of f (Some live) policies = changed f policies live.place

-- the policy of a generation
abbrev pub policy_of : List PolicySeen → Option Live → Option PolicySeen
policy_of policies None = None
policy_of policies (Some live) = slice_get policies live.place

-- the number and the kind of a generation
abbrev pub live_of : List PolicySeen → Option Live → Option (ℕ × Kind)
live_of policies None = None
live_of policies (Some live) = option_map (λ p. (live.generation, p.kind)) (slice_get policies live.place)

-- whether a policy wishes a subchannel connected
abbrev pub wishes : ℕ → Option PolicySeen → Bool
wishes sub None = false
wishes sub (Some p) = list_any (λ n. n == sub) (wish_of p)

-- a rack that was made of policies: each is reset, and no generation was made
abbrev pub new_rack : List PolicySeen → RackSeen
new_rack policies = record { policies = map emptied policies; current = None; pending = None; made = 0 }

-- whether a generation uses the policy at a place
abbrev pub is_at : ℕ → Option Live → Bool
is_at place None = false
is_at place (Some live) = live.place == place

-- a new generation of the policy at a place: current where there is none, else pending in place of another one
abbrev pub next_live : ℕ → RackSeen → Live
next_live place r = record { generation = r.made + 1; place = place }

abbrev pub begun : List SubSeen → ℕ → RackSeen → RackSeen
begun subs place r = record {
  policies = changed (given subs) (changed_of emptied r.pending r.policies) place;
  current = if is_some r.current then r.current else Some (next_live place r);
  pending = if is_some r.current then Some (next_live place r) else None;
  made = r.made + 1;
}

-- a result for the current generation, which drops a pending one
abbrev pub renewed : List SubSeen → ℕ → RackSeen → RackSeen
renewed subs place r = record r { policies = changed (given subs) (changed_of emptied r.pending r.policies) place; pending = None }

-- a result for the policy at a place
abbrev pub adopted_at : List SubSeen → ℕ → RackSeen → RackSeen
adopted_at subs place r =
    if is_at place r.current then renewed subs place r
    else if is_at place r.pending then record r { policies = changed (given subs) r.policies place }
    else begun subs place r

abbrev pub adopted : List SubSeen → Option ℕ → RackSeen → RackSeen
adopted subs None r = r
adopted subs (Some place) r = adopted_at subs place r

-- the generation that a result for the policy at a place goes to
abbrev pub number_at : ℕ → Option Live → ℕ → ℕ
number_at place None other = other
number_at place (Some live) other = if live.place == place then live.generation else other

abbrev pub adopted_number : Option ℕ → RackSeen → ℕ
adopted_number None r = 0
adopted_number (Some place) r = number_at place r.current (number_at place r.pending (r.made + 1))

-- the live policies are given the state of a subchannel
abbrev pub noted_by_live : ℕ → Conn → RackSeen → RackSeen
noted_by_live sub state r = record r { policies = changed_of (noted sub state) r.pending (changed_of (noted sub state) r.current r.policies) }

-- a pending generation may take over when it is READY or in TRANSIENT_FAILURE, or when the current one is not READY
abbrev pub is_decided : Conn → Bool
is_decided conn.Ready = true
is_decided conn.Failure = true
is_decided _ = false

abbrev pub is_ready_one : Option Conn → Bool
is_ready_one None = false
is_ready_one (Some state) = is_ready state

abbrev pub may_follow : Option Conn → Option Conn → Bool
may_follow current None = false
may_follow current (Some state) = is_decided state || not (is_ready_one current)

abbrev pub state_in : RackSeen → Option Live → Option Conn
state_in r live = option_map state_of (policy_of r.policies live)

abbrev pub may_take_over : RackSeen → Bool
may_take_over r = may_follow (state_in r r.current) (state_in r r.pending)

-- it takes over: the policy that was current is reset
abbrev pub taken_over : RackSeen → RackSeen
taken_over r = record r { policies = changed_of emptied r.current r.policies; current = r.pending; pending = None }

-- the current policy has answered a pick request
abbrev pub asked : RackSeen → RackSeen
asked r = record r { policies = changed_of turned r.current r.policies }

-- every generation is retired, and its policy reset
abbrev pub all_retired : RackSeen → RackSeen
all_retired r = record r { policies = changed_of emptied r.pending (changed_of emptied r.current r.policies); current = None; pending = None }
