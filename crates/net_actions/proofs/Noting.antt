-- A subchannel changes, and the live policies note its state: the same in the session and in the net.
use Rattle.std.proofs.Common.{◌≡◌, ◌+◌, ◌∷◌, ◌==◌, ◌||◌, ◌&&◌, ap, refl, subst, sym, ◌∙◌, Bool, true, false, List, [], Option, None, Some, ℕ, zero, suc, cond, if◌then◌else◌, slice_get, map, is_none, is_some}
use Rattle.std.specs.List.{filter, list_any}
use Rattle.std.specs.Option.{option_map}
use Rattle.std.specs.Prelude.{find}
use Rattle.attempt_ledger.specs.declared.ledger.Generation.{Generation}
use Rattle.grpc_base.specs.declared.event.Conn.{Conn}
use Rattle.grpc_base.specs.declared.event.Conn.TheVariants as conn
use Rattle.lb_policy.specs.Steps.{failed_after, noted, noted_sub}
use Rattle.lb_policy.specs.Table.{PolicySeen, is_one_of}
use Rattle.lb_policy.specs.declared.seen.SubSeen.{SubSeen}
use Rattle.policy_rack.specs.Steps.{changed, changed_of}
use Rattle.policy_rack.specs.declared.live.Live.{Live}
use Rattle.session_actions.specs.Policies.{current_policy, is_current, is_live_policy, is_pending, pending_policy, policy_of, view_of}
use Rattle.session_actions.specs.Subchannels.{noted_state}
use Rattle.session_actions.specs.declared.policy.PolicyUse.{PolicyUse}
use Rattle.session_actions.specs.declared.seen.Seen.{Seen}
use Rattle.session_actions.specs.declared.subchannel.Subchannel.{Subchannel}
use Rattle.net_actions.specs.Sees.{UsesAreApart, PoliciesAreNumbered, UsesAgree, AtMostOne}

-- a change that a test does not see
found_by : {X : Type 0} (f : X → X) (x : X) (t u : Bool) (o p : Option X) → u ≡ t → o ≡ option_map f p → cond u (Some (f x)) o ≡ option_map f (cond t (Some x) p)
found_by f x true true o p e h = refl
found_by f x false false o p e h = h
found_by f x true false o p e h = absurd (cc)
found_by f x false true o p e h = absurd (cc)

pub found_map : {X : Type 0} (test other : X → Bool) (f : X → X) (same : (x : X) → test (f x) ≡ other x) (xs : List X)
    → find test (map f xs) ≡ option_map f (find other xs)
found_map test other f same [] = refl
found_map test other f same (x ∷ xs) =
    found_by f x (other x) (test (f x)) (find test (map f xs)) (find other xs) (same x) (found_map test other f same xs)

-- the policies that are in use stay so
stays_live : (s : Seen) (b : Subchannel) (t : Bool) (g : PolicyUse) → is_live_policy g ≡ t → (noted_state s b g).generation ≡ g.generation
stays_live s b true g e = (cc)
stays_live s b false g e = (cc)

is_current_still : (s : Seen) (b : Subchannel) (g : PolicyUse) → is_current (noted_state s b g) ≡ is_current g
is_current_still s b g =
    ap (λ (x : Generation). is_none x.retired && is_some x.activated) (stays_live s b (is_live_policy g) g refl)

is_pending_still : (s : Seen) (b : Subchannel) (g : PolicyUse) → is_pending (noted_state s b g) ≡ is_pending g
is_pending_still s b g =
    ap (λ (x : Generation). is_none x.retired && is_none x.activated) (stays_live s b (is_live_policy g) g refl)

-- the session after a subchannel changed: its subchannels, and what the policies noted
abbrev pub with_subs : List Subchannel → Seen → Seen
with_subs subs s = record s { subs = subs }

abbrev pub with_noted : Subchannel → Seen → Seen
with_noted b t = record t { policies = map (noted_state t b) t.policies }

pub current_noted : (b : Subchannel) (t : Seen) → current_policy (with_noted b t) ≡ option_map (noted_state t b) (current_policy t)
current_noted b t = found_map is_current is_current (noted_state t b) (is_current_still t b) t.policies

pub pending_noted : (b : Subchannel) (t : Seen) → pending_policy (with_noted b t) ≡ option_map (noted_state t b) (pending_policy t)
pending_noted b t = found_map is_pending is_pending (noted_state t b) (is_pending_still t b) t.policies

-- uses of policies whose numbers and generations stay
pub numbers_stay : (f : PolicyUse → PolicyUse) → ((g : PolicyUse) → (f g).number ≡ g.number) → (n : ℕ) (uses : List PolicyUse)
    → PoliciesAreNumbered n uses → PoliciesAreNumbered n (map f uses)
numbers_stay f same n [] h = tt
numbers_stay f same n (g ∷ uses) h = (same g ∙ h.0, numbers_stay f same (n + 1) uses h.1)

any_as : (test other : PolicyUse → Bool) (f : PolicyUse → PolicyUse) → ((g : PolicyUse) → test (f g) ≡ other g) → (uses : List PolicyUse)
    → list_any test (map f uses) ≡ list_any other uses
any_as test other f same [] = refl
any_as test other f same (g ∷ uses) =
    ap (λ (x : Bool). x || list_any test (map f uses)) (same g) ∙ ap (λ (x : Bool). other g || x) (any_as test other f same uses)

pub one_as : (test other : PolicyUse → Bool) (f : PolicyUse → PolicyUse) → ((g : PolicyUse) → test (f g) ≡ other g) → (uses : List PolicyUse)
    → AtMostOne other uses → AtMostOne test (map f uses)
one_as test other f same [] h = tt
one_as test other f same (g ∷ uses) h =
    (λ e. any_as test other f same uses ∙ h.0 (sym (same g) ∙ e), one_as test other f same uses h.1)

pub uses_stay : (f : PolicyUse → PolicyUse) → ((g : PolicyUse) → (f g).number ≡ g.number) → ((g : PolicyUse) → (f g).generation ≡ g.generation)
    → (uses : List PolicyUse) → UsesAgree uses → UsesAgree (map f uses)
uses_stay f number generation uses h = record {
  numbers = numbers_stay f number 1 uses h.numbers;
  one_current = one_as is_current is_current f (λ g. ap (λ (x : Generation). is_none x.retired && is_some x.activated) (generation g)) uses h.one_current;
  one_pending = one_as is_pending is_pending f (λ g. ap (λ (x : Generation). is_none x.retired && is_none x.activated) (generation g)) uses h.one_pending;
}

pub still_number : (s : Seen) (b : Subchannel) (t : Bool) (g : PolicyUse)
    → (if t then record g { failed = failed_after b.number b.state g.failed (view_of g.addresses s) } else g).number ≡ g.number
still_number s b true g = refl
still_number s b false g = refl

pub uses_noted : (b : Subchannel) (s : Seen) (uses : List PolicyUse) → UsesAgree uses → UsesAgree (map (noted_state s b) uses)
uses_noted b s uses h =
    uses_stay (noted_state s b) (λ g. still_number s b (is_live_policy g) g) (λ g. stays_live s b (is_live_policy g) g refl) uses h

-- one that is found passes
found_passes_by : {X : Type 0} (test : X → Bool) (x : X) (t : Bool) (xs : List X) (y : X) → test x ≡ t → cond t (Some x) (find test xs) ≡ Some y
    → (find test xs ≡ Some y → test y ≡ true) → test y ≡ true
found_passes_by test x true xs y is e next = let one : x ≡ y = (cc) in subst (λ z. test z ≡ true) one is
found_passes_by test x false xs y is e next = next e

pub found_passes : {X : Type 0} (test : X → Bool) (xs : List X) (y : X) → find test xs ≡ Some y → test y ≡ true
found_passes test [] y e = absurd (cc)
found_passes test (x ∷ xs) y e = found_passes_by test x (test x) xs y refl e (found_passes test xs y)

pub first_true : (x y : Bool) → (x && y) ≡ true → x ≡ true
first_true true y e = refl
first_true false y e = absurd (cc)

-- what it notes
noted_is : (t : Seen) (b : Subchannel) (g : PolicyUse) → is_live_policy g ≡ true
    → noted_state t b g ≡ record g { failed = failed_after b.number b.state g.failed (view_of g.addresses t) }
noted_is t b g live =
    ap (λ (x : Bool). if x then record g { failed = failed_after b.number b.state g.failed (view_of g.addresses t) } else g) live

same_sub_by : (x : Bool) (c : Conn) (v : SubSeen) → (if x then record v { state = c } else v).sub ≡ v.sub
same_sub_by true c v = refl
same_sub_by false c v = refl

same_subs : (sub : ℕ) (c : Conn) (view : List SubSeen) → map (λ (v : SubSeen). v.sub) (map (noted_sub sub c) view) ≡ map (λ (v : SubSeen). v.sub) view
same_subs sub c [] = refl
same_subs sub c (v ∷ view) =
    ap (λ (k : ℕ). k ∷ map (λ (x : SubSeen). x.sub) (map (noted_sub sub c) view)) (same_sub_by (v.sub == sub) c v)
    ∙ ap (λ (l : List ℕ). v.sub ∷ l) (same_subs sub c view)

failed_still : (sub : ℕ) (c : Conn) (failed : List ℕ) (view : List SubSeen)
    → failed_after sub c failed (map (noted_sub sub c) view) ≡ failed_after sub c failed view
failed_still sub conn.Idle failed view = refl
failed_still sub conn.Connecting failed view = refl
failed_still sub conn.Ready failed view = refl
failed_still sub conn.Failure failed view =
    ap (filter (λ (n : ℕ). (n == sub) || is_one_of failed n)) (same_subs sub conn.Failure view)
failed_still sub conn.Shutdown failed view = refl

-- so a policy notes the state of a subchannel as the table does
pub policy_noted : (s : Seen) (subs : List Subchannel) (b : Subchannel) (g : PolicyUse) → is_live_policy g ≡ true
    → view_of g.addresses (with_subs subs s) ≡ map (noted_sub b.number b.state) (view_of g.addresses s)
    → policy_of (noted_state (with_subs subs s) b g) (with_noted b (with_subs subs s)) ≡ noted b.number b.state (policy_of g s)
policy_noted s subs b g live view =
    let t : Seen = with_subs subs s in
    let u : Seen = with_noted b t in
    ap (λ (x : PolicyUse). policy_of x u) (noted_is t b g live)
    ∙ ap (λ (v : List SubSeen). record (policy_of g s) { view = v; failed = failed_after b.number b.state g.failed v }) view
    ∙ ap (λ (l : List ℕ). record (policy_of g s) { view = map (noted_sub b.number b.state) (view_of g.addresses s); failed = l })
    (failed_still b.number b.state g.failed (view_of g.addresses s))

-- the policies of the rack after both noted it
pub get_here : (f : PolicySeen → PolicySeen) (policies : List PolicySeen) (place : ℕ) → slice_get (changed f policies place) place ≡ option_map f (slice_get policies place)
get_here f [] place = refl
get_here f (p ∷ policies) zero = refl
get_here f (p ∷ policies) (suc place) = get_here f policies place

pub get_away : (f : PolicySeen → PolicySeen) (policies : List PolicySeen) (place other : ℕ) → (other ≡ place → ⊥)
    → slice_get (changed f policies place) other ≡ slice_get policies other
get_away f [] place other away = refl
get_away f (p ∷ policies) zero zero away = absurd (away refl)
get_away f (p ∷ policies) zero (suc other) away = refl
get_away f (p ∷ policies) (suc place) zero away = refl
get_away f (p ∷ policies) (suc place) (suc other) away = get_away f policies place other (λ e. away (ap suc e))

pub current_after : (f : PolicySeen → PolicySeen) (policies : List PolicySeen) (live : Live) (pending : Option Live) (p : PolicySeen)
    → UsesAreApart (Some live) pending → slice_get policies live.place ≡ Some p
    → slice_get (changed_of f pending (changed_of f (Some live) policies)) live.place ≡ Some (f p)
current_after f policies live None p apart e = get_here f policies live.place ∙ ap (option_map f) e
current_after f policies live (Some other) p apart e =
    get_away f (changed f policies live.place) other.place live.place apart.0 ∙ get_here f policies live.place ∙ ap (option_map f) e

pub pending_after : (f : PolicySeen → PolicySeen) (policies : List PolicySeen) (live : Live) (current : Option Live) (p : PolicySeen)
    → UsesAreApart current (Some live) → slice_get policies live.place ≡ Some p
    → slice_get (changed_of f (Some live) (changed_of f current policies)) live.place ≡ Some (f p)
pending_after f policies live None p apart e = get_here f policies live.place ∙ ap (option_map f) e
pending_after f policies live (Some other) p apart e =
    get_here f (changed f policies other.place) live.place
    ∙ ap (option_map f) (get_away f policies other.place live.place (λ same. apart.0 (sym same)) ∙ e)
