-- The subchannel that the policies wish connected is the same in the session and in the net.
use Rattle.std.proofs.Common.{◌≡◌, ◌∷◌, ◌++◌, ◌||◌, ◌&&◌, not, ap, refl, subst, sym, ◌∙◌, Bool, true, false, List, [], Option, None, Some, ℕ, ◌+◌, arith, suc, slice_get, if◌then◌else◌, is_some, length, cond, option_to_list}
use Rattle.std.proofs.lemmas.Option.{same_Some}
use Rattle.std.specs.List.{list_any}
use Rattle.std.specs.Option.{option_map}
use Rattle.std.specs.Prelude.{find}
use Rattle.grpc_base.specs.declared.address.Address.{Address}
use Rattle.grpc_base.specs.declared.event.Conn.{Conn}
use Rattle.grpc_base.specs.declared.event.Conn.TheVariants as conn
use Rattle.lb_policy.specs.Table.{PolicySeen, is_one_of, wish_of}
use Rattle.policy_rack.specs.Steps.{wishes}
use Rattle.policy_rack.specs.Steps as rack
use Rattle.policy_rack.specs.declared.live.Live.{Live}
use Rattle.channel_net.proofs.ViewLaws.{KeepsAddress}
use Rattle.channel_net.specs.Askers.{reported}
use Rattle.channel_net.specs.Lists.{link_of}
use Rattle.channel_net.specs.Steps.{NetSeen, connect_round, connected_at, first_wished, idle_and_wished}
use Rattle.channel_net.specs.Steps as steps
use Rattle.channel_net.specs.declared.links.OwnLink.{OwnLink}
use Rattle.net_actions.proofs.Changing.{Change, changed_sees, net_changed, reported_now}
use Rattle.net_actions.proofs.Dialling.{here}
use Rattle.net_actions.proofs.Noting.{found_passes}
use Rattle.net_actions.proofs.Subs.{Both}
use Rattle.net_actions.specs.Laws.{Connects, NoneConnects, WishesConnect}
use Rattle.net_actions.specs.Sees.{SubchannelsAgree, IsShaped, IsSub, IsUse, Sees}
use Rattle.session_actions.specs.Policies.{current_policy, live_policies, pending_policy, policy_of}
use Rattle.session_actions.specs.Subchannels as sub
use Rattle.session_actions.specs.Subchannels.{in_state, is_wished, next_connected, with_sub}
use Rattle.session_actions.specs.declared.policy.PolicyUse.{PolicyUse}
use Rattle.session_actions.specs.declared.seen.Seen.{Seen}
use Rattle.session_actions.specs.declared.subchannel.Subchannel.{Subchannel}
use Rattle.session_actions.specs.declared.action.Action.TheVariants as action
use Rattle.subchannel.proofs.NumberLaws.{live_numbers-live, live_numbers-shut, numbered-afterwards, one-longer, one-moved}
use Rattle.subchannel.proofs.StepLaws.{keeps_live-wished}
use Rattle.subchannel.specs.Boards.{changed_at, numbered, passes, passes_test}
use Rattle.subchannel.specs.Insides.{live_numbers}
use Rattle.subchannel.specs.Records.{SubRecord, is_idle, is_live, is_shut, wished}

idle_same : (c : Conn) → sub.is_idle c ≡ is_idle c
idle_same conn.Idle = refl
idle_same conn.Connecting = refl
idle_same conn.Ready = refl
idle_same conn.Failure = refl
idle_same conn.Shutdown = refl

idle_shut : (c : Conn) → not (is_shut c) ≡ false → is_idle c ≡ false
idle_shut conn.Idle e = absurd (cc)
idle_shut conn.Connecting e = refl
idle_shut conn.Ready e = refl
idle_shut conn.Failure e = refl
idle_shut conn.Shutdown e = refl

-- the first idle one of which the number passes
abbrev idle_in : List SubRecord → (ℕ → Bool) → ℕ → Bool
idle_in board w k = passes (λ r. is_idle r.state) board k && w k

abbrev idle_one : (ℕ → Bool) → Subchannel → Bool
idle_one w b = sub.is_idle b.state && w b.number

chosen : (t u : Bool) (b : Subchannel) (n : ℕ) (o : Option Subchannel) (e : Option ℕ) → t ≡ u → b.number ≡ n
    → option_map (λ (x : Subchannel). x.number) o ≡ e → option_map (λ (x : Subchannel). x.number) (cond t (Some b) o) ≡ cond u (Some n) e
chosen true true b n o e same number rest = ap (λ (k : ℕ). Some k) number
chosen false false b n o e same number rest = rest
chosen true false b n o e same number rest = absurd (cc)
chosen false true b n o e same number rest = absurd (cc)

first_by : (w : ℕ → Bool) (board rest : List SubRecord) (b : Subchannel) (subs : List Subchannel) (r : SubRecord) (n : ℕ) (links : List OwnLink) (live : Bool)
    → is_live r ≡ live → numbered board n ≡ Some r → IsSub b r n (link_of links n)
    → option_map (λ (x : Subchannel). x.number) (find (idle_one w) subs) ≡ find (idle_in board w) (live_numbers (n + 1) rest)
    → option_map (λ (x : Subchannel). x.number) (find (idle_one w) (b ∷ subs)) ≡ find (idle_in board w) (live_numbers n (r ∷ rest))
first_by w board rest b subs r n links true is_it at is next =
    let test : idle_one w b ≡ idle_in board w n
    = ap (λ (x : Bool). x && w b.number) (idle_same b.state) ∙ ap (λ (c : Conn). is_idle c && w b.number) is.state
    ∙ ap (λ (k : ℕ). is_idle r.state && w k) is.number_is
    ∙ ap (λ (o : Option SubRecord). passes_test (λ x. is_idle x.state) o && w n) (sym at) in
    chosen (idle_one w b) (idle_in board w n) b n (find (idle_one w) subs) (find (idle_in board w) (live_numbers (n + 1) rest)) test is.number_is next
    ∙ ap (find (idle_in board w)) (sym (live_numbers-live r rest n is_it))
first_by w board rest b subs r n links false is_it at is next =
    let idle : sub.is_idle b.state ≡ false = idle_same b.state ∙ ap is_idle is.state ∙ idle_shut r.state is_it in
    let not_it : idle_one w b ≡ false = ap (λ (x : Bool). x && w b.number) idle in
    ap (λ (x : Bool). option_map (λ (y : Subchannel). y.number) (cond x (Some b) (find (idle_one w) subs))) not_it
    ∙ next ∙ ap (find (idle_in board w)) (sym (live_numbers-shut r rest n is_it))

first_idle : (w : ℕ → Bool) (prefix rest : List SubRecord) (n : ℕ) (subs : List Subchannel) (links : List OwnLink) → n ≡ length prefix + 1 → SubchannelsAgree n subs rest links
    → option_map (λ (x : Subchannel). x.number) (find (idle_one w) subs) ≡ find (idle_in (prefix ++ rest) w) (live_numbers n rest)
first_idle w prefix [] n [] links e h = refl
first_idle w prefix [] n (b ∷ subs) links e h = absurd h
first_idle w prefix (r ∷ rest) n [] links e h = absurd h
first_idle w prefix (r ∷ rest) n (b ∷ subs) links e h =
    let next : option_map (λ (x : Subchannel). x.number) (find (idle_one w) subs) ≡ find (idle_in ((prefix ++ r ∷ []) ++ rest) w) (live_numbers (n + 1) rest)
    = first_idle w (prefix ++ r ∷ []) rest (n + 1) subs links (one-longer prefix r n e) h.1 in
    let moved : option_map (λ (x : Subchannel). x.number) (find (idle_one w) subs) ≡ find (idle_in (prefix ++ r ∷ rest) w) (live_numbers (n + 1) rest)
    = subst (λ (l : List SubRecord). option_map (λ (x : Subchannel). x.number) (find (idle_one w) subs) ≡ find (idle_in l w) (live_numbers (n + 1) rest)) (one-moved prefix rest r) next in
    first_by w (prefix ++ r ∷ rest) rest b subs r n links (is_live r) refl (numbered-afterwards prefix rest r n e) h.0 moved

one_only : (x : Bool) → (x || false) ≡ x
one_only true = refl
one_only false = refl

or_none : (x y : Bool) → (x || y) ≡ ((x || false) || y)
or_none true y = refl
or_none false y = refl

-- a policy wishes the same
wishes_by : (k : ℕ) (s : Seen) (o : Option PolicyUse) (live : Option Live) (addresses : List Address) (policies : List PolicySeen)
    → IsUse o (option_map (λ (g : PolicyUse). policy_of g s) o) live addresses policies
    → list_any (λ (g : PolicyUse). is_one_of (wish_of (policy_of g s)) k) (option_to_list o) ≡ wishes k (rack.policy_of policies live)
wishes_by k s None None addresses policies u = refl
wishes_by k s (Some g) (Some live) addresses policies u =
    one_only (is_one_of (wish_of (policy_of g s)) k) ∙ ap (wishes k) (sym u.2)
wishes_by k s None (Some live) addresses policies u = absurd u
wishes_by k s (Some g) None addresses policies u = absurd u

any_both : (f : PolicyUse → Bool) (o p : Option PolicyUse) → list_any f (option_to_list o ++ option_to_list p) ≡ (list_any f (option_to_list o) || list_any f (option_to_list p))
any_both f None p = refl
any_both f (Some g) p = or_none (f g) (list_any f (option_to_list p))

wished_same : (k : ℕ) (s : Seen) (n : NetSeen) → Sees s n → list_any (λ (g : PolicyUse). is_one_of (wish_of (policy_of g s)) k) (live_policies s) ≡ steps.is_wished n.asker.rack k
wished_same k s n h =
    any_both (λ (g : PolicyUse). is_one_of (wish_of (policy_of g s)) k) (current_policy s) (pending_policy s)
    ∙ ap (λ (x : Bool). x || list_any (λ (g : PolicyUse). is_one_of (wish_of (policy_of g s)) k) (option_to_list (pending_policy s)))
    (wishes_by k s (current_policy s) n.asker.rack.current n.current n.asker.rack.policies h.current_is)
    ∙ ap (λ (x : Bool). wishes k (rack.policy_of n.asker.rack.policies n.asker.rack.current) || x)
    (wishes_by k s (pending_policy s) n.asker.rack.pending n.pending n.asker.rack.policies h.pending_is)

-- so the first one is the same
find_same : {X : Type 0} (p q : X → Bool) (xs : List X) → ((x : X) → p x ≡ q x) → find p xs ≡ find q xs
find_same p q [] e = refl
find_same p q (x ∷ xs) e =
    ap (λ (b : Bool). cond b (Some x) (find p xs)) (e x) ∙ ap (λ (o : Option _). cond (q x) (Some x) o) (find_same p q xs e)

first_same : (s : Seen) (n : NetSeen) → Sees s n
    → option_map (λ (x : Subchannel). x.number) (find (λ (b : Subchannel). sub.is_idle b.state && is_wished s b) s.subs) ≡ first_wished n
first_same s n h =
    ap (option_map (λ (x : Subchannel). x.number))
    (find_same (λ (b : Subchannel). sub.is_idle b.state && is_wished s b) (idle_one (steps.is_wished n.asker.rack)) s.subs
    (λ b. ap (λ (x : Bool). sub.is_idle b.state && x) (wished_same b.number s n h)))
    ∙ first_idle (steps.is_wished n.asker.rack) [] n.board 1 s.subs n.links refl h.subs_are

-- it becomes CONNECTING
address_if : (x : Bool) (r : SubRecord) → (if x then record r { state = conn.Connecting } else r).address ≡ r.address
address_if true r = refl
address_if false r = refl

keeps_address-wished : KeepsAddress wished
keeps_address-wished r = address_if (is_idle r.state) r

shape_of : (until : Option ℕ) (linked : Bool) → until ≡ None → linked ≡ false → IsShaped conn.Connecting until linked
shape_of None linked e f = f
shape_of (Some t) linked e f = tt

wished_in : (b : Subchannel) (a : Address) (c : Conn) (dials : ℕ) (again until : Option ℕ) (linked : Bool) (number : ℕ) (link : Option ℕ)
    → is_idle c ≡ true
    → IsSub b (record { address = a; state = c; dials = dials; again = again; until = until; linked = linked }) number link
    → (IsSub (in_state conn.Connecting b) (wished (record { address = a; state = c; dials = dials; again = again; until = until; linked = linked })) number link)
    × ((wished (record { address = a; state = c; dials = dials; again = again; until = until; linked = linked })).state ≡ conn.Connecting)
wished_in b a conn.Idle dials again until linked number link idle is = (
  record {
    number_is = is.number_is;
    address = is.address;
    state = refl;
    dials = is.dials;
    until = is.until;
    again = λ e. absurd (let none : until ≡ None = is.shape.0 in let some : is_some until ≡ true = e in let no_one : ⊥ = (cc) in no_one);
    link_is = is.link_is;
    linked = is.linked;
    shape = shape_of until linked is.shape.0 is.shape.1;
  },
  refl,
)
wished_in b a conn.Connecting dials again until linked number link idle is = absurd (cc)
wished_in b a conn.Ready dials again until linked number link idle is = absurd (cc)
wished_in b a conn.Failure dials again until linked number link idle is = absurd (cc)
wished_in b a conn.Shutdown dials again until linked number link idle is = absurd (cc)

both_true : (x y : Bool) → (x && y) ≡ true → x ≡ true
both_true true y e = refl
both_true false y e = absurd (cc)

connects_at : (s : Seen) (n : NetSeen) (h : Sees s n) (place : ℕ) (b : Subchannel) → slice_get s.subs place ≡ Some b → sub.is_idle b.state ≡ true
    → first_wished n ≡ Some (suc place) → Sees (with_sub (in_state conn.Connecting) (suc place) s) (connect_round n)
connects_at s n h place b at idle first =
    let both : Both b n.board place (suc place) n.links = here place s n b h at in
    let r : SubRecord = both.r in
    let is_it : is_idle r.state ≡ true = sym (ap is_idle both.is.state) ∙ sym (idle_same b.state) ∙ idle in
    let one : (IsSub (in_state conn.Connecting b) (wished r) (suc place) (link_of n.links (suc place))) × ((wished r).state ≡ conn.Connecting)
    = wished_in b r.address r.state r.dials r.again r.until r.linked (suc place) (link_of n.links (suc place)) is_it both.is in
    let change : Change (in_state conn.Connecting) wished place n.links s n = record {
      b = b;
      at = at;
      r = r;
      there = both.at;
      is = one.0;
      same = λ k other. refl;
      live = keeps_live-wished;
      address = keeps_address-wished;
    } in
    let after : Sees (with_sub (in_state conn.Connecting) (suc place) s) (net_changed wished place n.links n)
    = changed_sees (in_state conn.Connecting) wished place n.links s n change h in
    let net : net_changed wished place n.links n ≡ connected_at (Some (suc place)) n
    = reported_now (in_state conn.Connecting) wished place n.links s n change
    ∙ ap (λ (c : Conn). record n { asker = reported (Some c) (suc place) n.asker; board = changed_at wished n.board (suc place) }) one.1 in
    subst (λ (o : Option ℕ). Sees (with_sub (in_state conn.Connecting) (suc place) s) (connected_at o n)) (sym first)
    (subst (λ (m : NetSeen). Sees (with_sub (in_state conn.Connecting) (suc place) s) m) net after)

-- the place of one that is found
pub record PlaceOf (subs : List Subchannel) (b : Subchannel) (n : ℕ) : Type 0 where
  pub place : ℕ
  pub own : slice_get subs place ≡ Some b
  pub number_is : b.number ≡ n + place

place_by : (c : Subchannel) (subs : List Subchannel) (p : Subchannel → Bool) (n : ℕ) (board : List SubRecord) (links : List OwnLink) (b : Subchannel) (t : Bool)
    → c.number ≡ n → cond t (Some c) (find p subs) ≡ Some b → (find p subs ≡ Some b → PlaceOf subs b (n + 1)) → PlaceOf (c ∷ subs) b n
place_by c subs p n board links b true number e next =
    let one : c ≡ b = (cc) in
    let k : n ≡ n + 0 = omega arith in
    record { place = 0; own = ap (λ (x : Subchannel). Some x) one; number_is = sym (ap (λ (x : Subchannel). x.number) one) ∙ number ∙ k }
place_by c subs p n board links b false number e next =
    let later : PlaceOf subs b (n + 1) = next e in
    let k : n + 1 + later.place ≡ n + suc later.place = omega arith in
    record { place = suc later.place; own = later.own; number_is = later.number_is ∙ k }

numbered_place : (subs : List Subchannel) (p : Subchannel → Bool) (n : ℕ) (board : List SubRecord) (links : List OwnLink) (b : Subchannel)
    → SubchannelsAgree n subs board links → find p subs ≡ Some b → PlaceOf subs b n
numbered_place [] p n board links b h e = absurd (cc)
numbered_place (c ∷ subs) p n [] links b h e = absurd h
numbered_place (c ∷ subs) p n (r ∷ board) links b h e = place_by c subs p n board links b (p c) h.0.number_is e (λ f. numbered_place subs p (n + 1) board links b h.1 f)

connects_by : (number : ℕ) (s : Seen) (n : NetSeen) (h : Sees s n) (o : Option Subchannel)
    → find (λ (b : Subchannel). sub.is_idle b.state && is_wished s b) s.subs ≡ o → option_map (λ (x : Subchannel). x.number) o ≡ Some number
    → first_wished n ≡ Some number → Connects number s n
connects_by number s n h None e same first = absurd (cc)
connects_by number s n h (Some b) e same first =
    let at : PlaceOf s.subs b 1 = numbered_place s.subs (λ (x : Subchannel). sub.is_idle x.state && is_wished s x) 1 n.board n.links b h.subs_are e in
    let one : number ≡ suc at.place = same_Some number b.number (sym same) ∙ at.number_is ∙ (let k : 1 + at.place ≡ suc at.place = omega arith in k) in
    let idle : sub.is_idle b.state ≡ true
    = both_true (sub.is_idle b.state) (is_wished s b) (found_passes (λ (x : Subchannel). sub.is_idle x.state && is_wished s x) s.subs b e) in
    let next : next_connected s ≡ Some (action.SubchannelConnects number)
    = ap (option_map (λ (x : Subchannel). action.SubchannelConnects x.number)) e
    ∙ ap (λ (k : ℕ). Some (action.SubchannelConnects k)) (same_Some b.number number same) in (
      next,
      subst (λ (k : ℕ). Sees (with_sub (in_state conn.Connecting) k s) (connect_round n)) (sym one)
          (connects_at s n h at.place b at.own idle (first ∙ ap (λ (k : ℕ). Some k) one)),
    )

pub wishes_connect : WishesConnect
wishes_connect number s n h first =
    connects_by number s n h (find (λ (b : Subchannel). sub.is_idle b.state && is_wished s b) s.subs) refl (first_same s n h ∙ first) first

none_by : (o : Option Subchannel) → option_map (λ (x : Subchannel). x.number) o ≡ None
    → option_map (λ (x : Subchannel). action.SubchannelConnects x.number) o ≡ None
none_by None e = refl
none_by (Some b) e = absurd (cc)

pub none_connects : NoneConnects
none_connects s n h none =
    none_by (find (λ (b : Subchannel). sub.is_idle b.state && is_wished s b) s.subs) (first_same s n h ∙ none)
