-- The table of load balancing policies: state, wish and pick by kind, width, view, failed subchannels and turns ("Load
-- Balancing in gRPC"; "gRPC Connectivity Semantics and API").
use Rattle.std.specs.Prelude.{◌≡◌, ◌≤◌, ℕ, ◌+◌, ◌*◌, ◌%◌, Bool, true, false, not, ◌&&◌, ◌||◌, ◌==◌, is_some, if◌then◌else◌, Option, List, [], ◌∷◌, length, map, take, drop, slice_get}
use Rattle.std.specs.List.{filter, list_any, list_all, position_from, range_with_len}
use Rattle.std.specs.Option.{option_map_or}
use Rattle.grpc_base.specs.declared.event.Conn.{Conn}
use Rattle.grpc_base.specs.declared.event.Conn.TheVariants as conn
use Rattle.grpc_base.specs.declared.kind.Kind.{Kind}
use Rattle.grpc_base.specs.declared.kind.Kind.TheVariants as kind
use Rattle.grpc_base.specs.declared.kind.Pick.{Pick}
use Rattle.grpc_base.specs.declared.kind.Pick.TheVariants as pick
use Rattle.lb_policy.specs.declared.seen.SubSeen.{SubSeen}

-- a policy as contracts see it
pub record PolicySeen : Type 0 where
  pub kind : Kind
  -- how many subchannels a tier has; 1 for a kind without tiers
  pub width : ℕ
  -- the subchannels that it was given, in order, with their states
  pub view : List SubSeen
  -- the numbers of those that have failed, in the order of the view: in TRANSIENT_FAILURE, or not READY since they were
  pub failed : List ℕ
  -- how many pick requests it answered since it was reset
  pub turns : ℕ

-- the tests of a state
abbrev pub is_ready : Conn → Bool
is_ready conn.Ready = true
is_ready _ = false

-- in any state but TRANSIENT_FAILURE
abbrev pub is_open : Conn → Bool
is_open conn.Failure = false
is_open _ = true

abbrev pub is_starting : Conn → Bool
is_starting conn.Idle = true
is_starting conn.Connecting = true
is_starting _ = false

-- the numbers of the subchannels of a view that are in such a state, in the order of the view
abbrev pub subs_in : (Conn → Bool) → List SubSeen → List ℕ
subs_in test view = map (λ s. s.sub) (filter (λ s. test s.state) view)

abbrev pub has_state : (Conn → Bool) → List SubSeen → Bool
has_state test view = list_any (λ s. test s.state) view

-- whether a number is one of these
abbrev pub is_one_of : List ℕ → ℕ → Bool
is_one_of numbers n = list_any (λ m. m == n) numbers

abbrev pub is_among : List ℕ → SubSeen → Bool
is_among numbers s = is_one_of numbers s.sub

-- tiers: the places of a view in groups of so many. Tier t, counted from 0, has the places from t × width on, before
-- (t + 1) × width. There are no more of them than places: those after the last place are empty
abbrev pub tier : ℕ → List SubSeen → ℕ → List SubSeen
tier width view t = take width (drop (t * width) view)

abbrev pub tiers : ℕ → List SubSeen → List (List SubSeen)
tiers width view = map (tier width view) (range_with_len 0 (length view))

-- the first tier that passes a test
abbrev pub first_tier : (List SubSeen → Bool) → ℕ → List SubSeen → Option ℕ
first_tier test width view = position_from test 0 (tiers width view)

-- a tier is ready if one of its subchannels is READY; it has failed if it is not ready and all of them have failed
abbrev pub tier_is_ready : List SubSeen → Bool
tier_is_ready members = has_state is_ready members

abbrev pub tier_has_failed : List ℕ → List SubSeen → Bool
tier_has_failed failed members = not (tier_is_ready members) && list_all (is_among failed) members

-- so a subchannel that is READY, or has not failed, keeps its tier from having failed
abbrev pub upholds_tier : List ℕ → SubSeen → Bool
upholds_tier failed s = is_ready s.state || not (is_among failed s)

-- the state, by whether anything is READY, and whether anything may still become so
abbrev pub state_by : Bool → Bool → Conn
state_by ready hope = if ready then conn.Ready else (if hope then conn.Connecting else conn.Failure)

-- round_robin: READY if any is READY, else CONNECTING if any is not in TRANSIENT_FAILURE, else that
abbrev pub state_of_view : List SubSeen → Conn
state_of_view view = state_by (has_state is_ready view) (has_state is_open view)

-- pick_first: READY if any is READY, else CONNECTING if any has not failed, else TRANSIENT_FAILURE
abbrev pub lasting_state : List ℕ → List SubSeen → Conn
lasting_state failed view = state_by (has_state is_ready view) (list_any (λ s. not (is_among failed s)) view)

-- priority: READY if any tier is ready, else CONNECTING if a tier has not failed, else TRANSIENT_FAILURE
abbrev pub state_of_tiers : ℕ → List ℕ → List SubSeen → Conn
state_of_tiers width failed view =
    state_by (is_some (first_tier tier_is_ready width view)) (is_some (first_tier (λ t. not (tier_has_failed failed t)) width view))

abbrev pub state_of_kind : Kind → ℕ → List ℕ → List SubSeen → Conn
state_of_kind kind.PickFirst width failed view = lasting_state failed view
state_of_kind kind.RoundRobin width failed view = state_of_view view
state_of_kind kind.Priority width failed view = state_of_tiers width failed view

abbrev pub state_of : PolicySeen → Conn
state_of p = state_of_kind p.kind p.width p.failed p.view

-- the tiers up to the first that has not failed, or all of them, as one list
abbrev pub tiers_to_wish : ℕ → List ℕ → List SubSeen → List SubSeen
tiers_to_wish width failed view =
    option_map_or (λ k. take ((k + 1) * width) view) (first_tier (λ t. not (tier_has_failed failed t)) width view) view

-- which subchannels are to be connected. pick_first: none if any is READY, else the first that is not in
-- TRANSIENT_FAILURE; round_robin: all that are IDLE or CONNECTING; priority: those of the tiers up to the first that has
-- not failed
abbrev pub wish_by : Kind → ℕ → List ℕ → List SubSeen → List ℕ
wish_by kind.PickFirst width failed view = if has_state is_ready view then [] else take 1 (subs_in is_open view)
wish_by kind.RoundRobin width failed view = subs_in is_starting view
wish_by kind.Priority width failed view = subs_in is_starting (tiers_to_wish width failed view)

abbrev pub wish_of : PolicySeen → List ℕ
wish_of p = wish_by p.kind p.width p.failed p.view

-- the READY subchannels that a pick request may get. priority: those of the first tier that is ready
abbrev pub choices_in_tiers : ℕ → List SubSeen → List ℕ
choices_in_tiers width view = option_map_or (λ t. subs_in is_ready (tier width view t)) (first_tier tier_is_ready width view) []

abbrev pub choices_by : Kind → ℕ → List SubSeen → List ℕ
choices_by kind.Priority width view = choices_in_tiers width view
choices_by _ width view = subs_in is_ready view

-- the place among so many of them, counted from 0. pick_first: the first; the others: one turn, one further
abbrev pub place_by : Kind → ℕ → ℕ → ℕ
place_by kind.PickFirst turns count = 0
place_by _ turns count = turns % count

-- the answer to a pick request where none is READY
abbrev pub pick_without : Conn → Pick
pick_without conn.Failure = pick.Fail
pick_without _ = pick.Wait

-- the one at a place, or the answer where none is READY
abbrev pub pick_at : List ℕ → ℕ → Conn → Pick
pick_at choices place state = option_map_or pick.Place (slice_get choices place) (pick_without state)

-- the answer to a pick request
abbrev pub pick_by : Kind → ℕ → List ℕ → List SubSeen → ℕ → Pick
pick_by k width failed view turns =
    pick_at (choices_by k width view) (place_by k turns (length (choices_by k width view))) (state_of_kind k width failed view)

abbrev pub pick_of : PolicySeen → Pick
pick_of p = pick_by p.kind p.width p.failed p.view p.turns

-- what a view has to be: at most 64 subchannels, none twice
abbrev pub IsWithoutRepeats : List SubSeen → Type 0
IsWithoutRepeats [] = Unit {0}
IsWithoutRepeats (s ∷ rest) = (list_any (λ t. t.sub == s.sub) rest ≡ false) × IsWithoutRepeats rest

pub record IsView (view : List SubSeen) : Type 0 where
  pub within : length view ≤ 64
  pub no_repeats : IsWithoutRepeats view
