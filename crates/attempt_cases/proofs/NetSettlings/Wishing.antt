-- Round by round: the subchannel that the net's policies wish is the session's next to connect, until none is wished. Whether a policy may take over stays as it is.
use Rattle.std.proofs.Common.{◌≡◌, ◌&&◌, ◌++◌, ◌+◌, ◌==◌, ◌||◌, ◌∷◌, ap, arith, refl, subst, sym, ◌∙◌, Bool, true, false, List, [], None, Option, Some, ℕ, cond, find, filter_map, if◌then◌else◌, map, nat_le, option_map, option_to_list, slice_get, suc, zero}
use Rattle.std.proofs.lemmas.Bool.{eqb-true}
use Rattle.std.specs.Option.{option_or}
use Rattle.std.specs.Prelude.{option_and_then, slice_set}
use Rattle.attempt_ledger.specs.declared.ledger.Generation.{Generation}
use Rattle.attempt_ledger.specs.declared.ledger.LinkSeen.{LinkSeen}
use Rattle.channel_actions.proofs.Does.{does_on, none_on}
use Rattle.channel_actions.proofs.Settles.{follows_by}
use Rattle.channel_actions.specs.Agrees.{Agrees}
use Rattle.channel_actions.specs.Quiescent.{IsAt, IsQuiescent}
use Rattle.channel_actions.specs.Columns.{links_noted}
use Rattle.channel_actions.specs.Links.{SeesLinks}
use Rattle.channel_core.specs.States.{StateSeen}
use Rattle.channel_net.specs.Steps.{NetSeen, connect_round, connect_rounds, connected_at, first_wished}
use Rattle.grpc_base.specs.declared.address.Address.{Address}
use Rattle.grpc_base.specs.declared.event.Conn.{Conn}
use Rattle.grpc_base.specs.declared.event.Conn.TheVariants as conn
use Rattle.channel_actions.specs.KeptSessions.Kept.{IsKept}
use Rattle.channel_actions.specs.KeptSessions.Laws.{KeptAlong}
use Rattle.lb_policy.specs.Steps.{noted}
use Rattle.lb_policy.specs.Table.{PolicySeen, state_of}
use Rattle.channel_actions.specs.LinkFrames.Laws.{LinksStay}
use Rattle.net_actions.proofs.Subs.{Both, both_at}
use Rattle.net_actions.specs.Laws.{TakeOversAreSame, WishesConnect}
use Rattle.net_actions.specs.Sees.{UsesAreApart, IsShaped, IsUse, Sees}
use Rattle.attempt_cases.proofs.NetSettlings.Clocking.{board_on, first_true, no_link}
use Rattle.attempt_cases.proofs.NetSettlings.Unlinked.{joined_after, same_links, subs_after}
use Rattle.attempt_cases.proofs.NetSettlings.Starting.{AreIdleIn, IsIdleIn, starting_state}
use Rattle.channel_actions.specs.PrefacedLinks.Joined.{PrefacedLinksAreJoined}
use Rattle.attempt_cases.proofs.NetSteps.Alike.{links_without_difference_agree}
use Rattle.channel_actions.proofs.BoardActions.Boards.{one_boarded, subbed}
use Rattle.channel_actions.proofs.BoardActions.Quiescent.{of_order}
use Rattle.attempt_cases.proofs.NetSteps.Clocks.{entry_goes_on, now_goes_on}
use Rattle.attempt_cases.proofs.NetSteps.Subbed.{noted_same, subbed_generations, subbed_links, subbed_shut, subbed_subs}
use Rattle.channel_actions.specs.BoardActions.Boards.{ActionsAreOfBoard, IsBoarded}
use Rattle.policy_rack.specs.Steps as rack
use Rattle.policy_rack.specs.Steps.{may_follow, may_take_over}
use Rattle.policy_rack.specs.declared.live.Live.{Live}
use Rattle.session_actions.specs.Actions.{after, after_if, config_action, first_action, following, following_in, of_calls, of_links, of_policies, of_stage}
use Rattle.session_actions.specs.Entries.{now}
use Rattle.session_actions.specs.Laws.{posted_in}
use Rattle.session_actions.specs.Making.{next_due_attempt}
use Rattle.session_actions.specs.Policies.{current_policy, is_failure, is_live_sub, live_sub, next_of_pass, next_of_queue, next_take_over, pending_policy, policy_of, is_shutdown, view_of}
use Rattle.session_actions.specs.Refusals.{is_shutdown_sub}
use Rattle.session_actions.specs.Sessions.{Does}
use Rattle.session_actions.specs.Subchannels.{clock_action, in_state, is_connecting, is_idle, is_wished, next_connected, next_of_clock, with_sub}
use Rattle.session_actions.specs.Words.{changed, changed_if, first_of, holds, numbered}
use Rattle.session_actions.specs.declared.action.Action.{Action}
use Rattle.session_actions.specs.declared.action.Action.TheVariants as action
use Rattle.session_actions.specs.declared.entry.OpenEntry.{OpenEntry}
use Rattle.session_actions.specs.declared.entry.Stage.TheVariants as stage
use Rattle.session_actions.specs.declared.link.Link.{Link}
use Rattle.session_actions.specs.declared.policy.PolicyUse.{PolicyUse}
use Rattle.session_actions.specs.declared.seen.Seen.{Seen}
use Rattle.session_actions.specs.declared.subchannel.Subchannel.{Subchannel}
use Rattle.session_order.proofs.Boards.{with_sub_current}
use Rattle.session_order.specs.Quiescent as order
use Rattle.session_order.specs.Laws.{BoardsStir, QuiescenceIsExact}

-- a point of the rounds
pub record IsOn (x : StateSeen) (o : OpenEntry) (s : Seen) (generations : List Generation) (stamps : List LinkSeen) (n : NetSeen) (t : Seen) : Type 0 where
  pub actions : List Action
  pub does : Does actions s t
  pub board : ActionsAreOfBoard actions
  pub posts : posted_in actions ≡ []
  pub current : t.current ≡ Some o
  pub still : order.IsQuiescent o t
  pub sees : Sees t n
  pub ages : map (λ (g : PolicyUse). g.generation) t.policies ≡ generations
  pub joined : PrefacedLinksAreJoined t
  pub links : SeesLinks x t
  pub noted : links_noted t ≡ stamps
  pub clock : next_of_clock t ≡ None

-- a list of which one thing changed
none_both : (o p : Option Action) → o ≡ None → p ≡ None → option_or o p ≡ None
none_both o p e f = ap (λ (z : Option Action). option_or z p) e ∙ f

parts : (o p : Option Action) → option_or o p ≡ None → (o ≡ None) × (p ≡ None)
parts None p h = (refl, h)
parts (Some a) p h = absurd (cc)

none_put : (g : Subchannel → Option Action) (f : Subchannel → Subchannel) (xs : List Subchannel) (i : ℕ) (b : Subchannel) → first_of g xs ≡ None → slice_get xs i ≡ Some b
    → g (f b) ≡ None → first_of g (slice_set xs i (f b)) ≡ None
none_put g f [] i b none e h = absurd (cc)
none_put g f (c ∷ xs) zero b none e h = none_both (g (f b)) (first_of g xs) h (parts (g c) (first_of g xs) none).1
none_put g f (c ∷ xs) (suc i) b none e h =
    let two = parts (g c) (first_of g xs) none in
    none_both (g c) (first_of g (slice_set xs i (f b))) two.0 (none_put g f xs i b two.1 e h)

none_changed : (g : Subchannel → Option Action) (f : Subchannel → Subchannel) (n : ℕ) (xs : List Subchannel) (b : Subchannel) → first_of g xs ≡ None → numbered xs n ≡ Some b
    → g (f b) ≡ None → first_of g (changed f n xs) ≡ None
none_changed g f zero xs b none e h = absurd (cc)
none_changed g f (suc i) xs b none e h = ap (λ (o : Option Subchannel). first_of g (changed_if f (suc i) xs o)) e ∙ none_put g f xs i b none e h

-- what the clock does at a moment
abbrev clock_at : ℕ → Subchannel → Option Action
clock_at w b =
    if is_connecting b.state && holds (λ (t : ℕ). nat_le t w) b.until then Some (action.ConnectTimesOut b.number)
    else if is_failure b.state && holds (λ (t : ℕ). nat_le t w) b.again then Some (action.BackoffEnds b.number)
    else None

-- the one that is found
found_by : (p : Subchannel → Bool) (c : Subchannel) (xs : List Subchannel) (b : Subchannel) (t : Bool) → p c ≡ t → cond t (Some c) (find p xs) ≡ Some b
    → (find p xs ≡ Some b → (i : ℕ) × ((slice_get xs i ≡ Some b) × (p b ≡ true))) → (i : ℕ) × ((slice_get (c ∷ xs) i ≡ Some b) × (p b ≡ true))
found_by p c xs b true is e rest = let one : c ≡ b = (cc) in (zero, (ap (λ (z : Subchannel). Some z) one, sym (ap p one) ∙ is))
found_by p c xs b false is e rest = let r = rest e in (suc r.0, r.1)

found : (p : Subchannel → Bool) (xs : List Subchannel) (b : Subchannel) → find p xs ≡ Some b → (i : ℕ) × ((slice_get xs i ≡ Some b) × (p b ≡ true))
found p [] b e = absurd (cc)
found p (c ∷ xs) b e = found_by p c xs b (p c) refl e (found p xs b)

named : (o : Option Subchannel) (sub : ℕ) → option_map (λ (b : Subchannel). action.SubchannelConnects b.number) o ≡ Some (action.SubchannelConnects sub)
    → (b : Subchannel) × ((o ≡ Some b) × (b.number ≡ sub))
named None sub e = absurd (cc)
named (Some b) sub e = (b, (refl, (cc)))

shaped_idle : (c : Conn) (until : Option ℕ) (linked : Bool) → IsShaped c until linked → is_idle c ≡ true → (until ≡ None) × (linked ≡ false)
shaped_idle conn.Idle until linked h e = h
shaped_idle conn.Failure until linked h e = absurd (cc)
shaped_idle conn.Connecting until linked h e = absurd (cc)
shaped_idle conn.Ready until linked h e = absurd (cc)
shaped_idle conn.Shutdown until linked h e = absurd (cc)

idle_is : (c : Conn) → is_idle c ≡ true → c ≡ conn.Idle
idle_is conn.Idle e = refl
idle_is conn.Failure e = absurd (cc)
idle_is conn.Connecting e = absurd (cc)
idle_is conn.Ready e = absurd (cc)
idle_is conn.Shutdown e = absurd (cc)

-- in a view it is IDLE
module _ (t : Seen) (sub : ℕ) (b : Subchannel) (there : numbered t.subs sub ≡ Some b) (idle : b.state ≡ conn.Idle)
    (numbers : (i : ℕ) (c : Subchannel) → slice_get t.subs i ≡ Some c → c.number ≡ suc i) where
  seen_idle : (c : Subchannel) (i : ℕ) → slice_get t.subs i ≡ Some c → IsIdleIn sub (record { sub = c.number; state = c.state })
  seen_idle c i at is =
      let number : suc i ≡ sub = sym (numbers i c at) ∙ eqb-true c.number sub is in
      let both : Some c ≡ Some b = sym at ∙ ap (numbered t.subs) number ∙ there in
      let one : c ≡ b = (cc) in
      ap (λ (z : Subchannel). z.state) one ∙ idle

  view_by : (a : Address) (rest : List Address) (o : Option Subchannel) → live_sub t a ≡ o → ((c : Subchannel) → o ≡ Some c → IsIdleIn sub (record { sub = c.number; state = c.state }))
      → AreIdleIn sub (view_of rest t) → AreIdleIn sub (map (λ (c : Subchannel). record { sub = c.number; state = c.state }) (option_to_list o ++ filter_map (live_sub t) rest))
  view_by a rest None e each h = h
  view_by a rest (Some c) e each h = (each c refl, h)

  filtered : (a : Address) (rest : List Address) (o : Option Subchannel) → live_sub t a ≡ o
      → filter_map (live_sub t) (a ∷ rest) ≡ option_to_list o ++ filter_map (live_sub t) rest
  filtered a rest None e = (cc)
  filtered a rest (Some c) e = (cc)

  pub view_idle : (addresses : List Address) → AreIdleIn sub (view_of addresses t)
  view_idle [] = tt
  view_idle (a ∷ addresses) =
      subst (λ (bs : List Subchannel). AreIdleIn sub (map (λ (c : Subchannel). record { sub = c.number; state = c.state }) bs)) (sym (filtered a addresses (live_sub t a) refl))
      (view_by a addresses (live_sub t a) refl (λ c e. let f = found (is_live_sub a) t.subs c e in seen_idle c f.0 f.1.0) (view_idle addresses))

-- what the rack notes
slice_here : (f : PolicySeen → PolicySeen) (ps : List PolicySeen) (i : ℕ) → slice_get (rack.changed f ps i) i ≡ option_map f (slice_get ps i)
slice_here f [] i = refl
slice_here f (p ∷ ps) zero = refl
slice_here f (p ∷ ps) (suc i) = slice_here f ps i

slice_away : (f : PolicySeen → PolicySeen) (ps : List PolicySeen) (i j : ℕ) → (i ≡ j → ⊥) → slice_get (rack.changed f ps i) j ≡ slice_get ps j
slice_away f [] i j off = refl
slice_away f (p ∷ ps) zero zero off = absurd (off refl)
slice_away f (p ∷ ps) zero (suc j) off = refl
slice_away f (p ∷ ps) (suc i) zero off = refl
slice_away f (p ∷ ps) (suc i) (suc j) off = slice_away f ps i j (λ e. off (ap suc e))

same_states : (f : PolicySeen → PolicySeen) (o : Option PolicySeen) → ((p : PolicySeen) → o ≡ Some p → state_of (f p) ≡ state_of p) → option_map state_of (option_map f o) ≡ option_map state_of o
same_states f None same = refl
same_states f (Some p) same = ap (λ (c : Conn). Some c) (same p refl)

-- so no policy's state changes by it, nor whether one may take over
module _ (t : Seen) (sub : ℕ) (idle : (addresses : List Address) → AreIdleIn sub (view_of addresses t)) where
  abbrev f : PolicySeen → PolicySeen
  f p = noted sub conn.Connecting p

  use_state : (o : Option PolicyUse) (live : Option Live) (addresses : List Address) (policies : List PolicySeen)
      → IsUse o (option_map (λ (g : PolicyUse). policy_of g t) o) live addresses policies
      → (lv : Live) → live ≡ Some lv → (p : PolicySeen) → slice_get policies lv.place ≡ Some p → state_of (f p) ≡ state_of p
  use_state None None addresses policies u lv e p at = absurd (cc)
  use_state None (Some l) addresses policies u lv e p at = absurd u
  use_state (Some g) None addresses policies u lv e p at = absurd u
  use_state (Some g) (Some l) addresses policies u lv e p at =
      let one : l ≡ lv = (cc) in
      let both : Some p ≡ Some (policy_of g t) = sym at ∙ sym (ap (λ (z : Live). slice_get policies z.place) one) ∙ u.2 in
      let same : p ≡ policy_of g t = (cc) in
      subst (λ (q : PolicySeen). state_of (f q) ≡ state_of q) (sym same) (starting_state sub (policy_of g t) (idle g.addresses))

  may_by : (current pending : Option Live) (policies : List PolicySeen) → UsesAreApart current pending
      → ((lv : Live) → current ≡ Some lv → (p : PolicySeen) → slice_get policies lv.place ≡ Some p → state_of (f p) ≡ state_of p)
      → ((lv : Live) → pending ≡ Some lv → (p : PolicySeen) → slice_get policies lv.place ≡ Some p → state_of (f p) ≡ state_of p)
      → may_follow (option_map state_of (rack.policy_of (rack.changed_of f pending (rack.changed_of f current policies)) current))
      (option_map state_of (rack.policy_of (rack.changed_of f pending (rack.changed_of f current policies)) pending))
      ≡ may_follow (option_map state_of (rack.policy_of policies current)) (option_map state_of (rack.policy_of policies pending))
  may_by current None policies apart c p = refl
  may_by None (Some q) policies apart c p =
      ap (may_follow None)
      (ap (option_map state_of) (slice_here f policies q.place) ∙ same_states f (slice_get policies q.place) (p q refl))
  may_by (Some l) (Some q) policies apart c p =
      let one : option_map state_of (slice_get (rack.changed f (rack.changed f policies l.place) q.place) l.place) ≡ option_map state_of (slice_get policies l.place)
      = ap (option_map state_of) (slice_away f (rack.changed f policies l.place) q.place l.place (λ e. apart.0 (sym e)) ∙ slice_here f policies l.place)
      ∙ same_states f (slice_get policies l.place) (c l refl) in
      let two : option_map state_of (slice_get (rack.changed f (rack.changed f policies l.place) q.place) q.place) ≡ option_map state_of (slice_get policies q.place)
      = ap (option_map state_of) (slice_here f (rack.changed f policies l.place) q.place ∙ ap (option_map f) (slice_away f policies l.place q.place apart.0))
      ∙ same_states f (slice_get policies q.place) (p q refl) in
      ap (λ (z : Option Conn). may_follow z (option_map state_of (slice_get (rack.changed f (rack.changed f policies l.place) q.place) q.place))) one
      ∙ ap (may_follow (option_map state_of (slice_get policies l.place))) two

  pub may_stays : (n : NetSeen) → Sees t n → first_wished n ≡ Some sub → may_take_over (connect_round n).asker.rack ≡ may_take_over n.asker.rack
  may_stays n h first =
      ap (λ (p : Option ℕ). may_take_over (connected_at p n).asker.rack) first
      ∙ may_by n.asker.rack.current n.asker.rack.pending n.asker.rack.policies h.apart
      (use_state (current_policy t) n.asker.rack.current n.current n.asker.rack.policies h.current_is)
      (use_state (pending_policy t) n.asker.rack.pending n.pending n.asker.rack.policies h.pending_is)

-- a settling's third line
if_none_over : (b : Bool) (o : Option Action) → b ≡ false → (if b then o else None) ≡ None
if_none_over true o e = absurd (cc)
if_none_over false o e = refl

module _ (exact : QuiescenceIsExact) (stir : BoardsStir) (overs : TakeOversAreSame) (wishes : WishesConnect) (kept_along : KeptAlong) (links_stay : LinksStay)
    (x : StateSeen) (o : OpenEntry) (s : Seen) (h : Agrees x s) (at : IsAt stage.Settling o s) (ages : List Generation) (stamps : List LinkSeen) where
  pub none_over : (n : NetSeen) (t : Seen) → Sees t n → may_take_over n.asker.rack ≡ false → next_take_over t ≡ None
  none_over n t sees may =
      overs t n sees ∙ if_none_over (may_take_over n.asker.rack) (option_map (λ (l : Live). action.PolicyTakesOver l.generation) n.asker.rack.pending) may

  module _ (n : NetSeen) (t : Seen) (m : IsOn x o s ages stamps n t) (may : may_take_over n.asker.rack ≡ false) (sub : ℕ) (first : first_wished n ≡ Some sub) where
    abbrev a : Action
    a = action.SubchannelConnects sub

    abbrev u : Seen
    u = with_sub (in_state conn.Connecting) sub t

    connects : (next_connected t ≡ Some a) × Sees u (connect_round n)
    connects = wishes sub t n m.sees first

    who : (b : Subchannel) × ((find (λ (c : Subchannel). is_idle c.state && is_wished t c) t.subs ≡ Some b) × (b.number ≡ sub))
    who = named (find (λ (c : Subchannel). is_idle c.state && is_wished t c) t.subs) sub connects.0

    abbrev b : Subchannel
    b = who.0

    place : (i : ℕ) × ((slice_get t.subs i ≡ Some b) × ((is_idle b.state && is_wished t b) ≡ true))
    place = found (λ (c : Subchannel). is_idle c.state && is_wished t c) t.subs b who.1.0

    idle : is_idle b.state ≡ true
    idle = first_true (is_idle b.state) (is_wished t b) place.1.1

    numbers : (i : ℕ) (c : Subchannel) → slice_get t.subs i ≡ Some c → c.number ≡ suc i
    numbers i c e = (both_at 1 t.subs n.board n.links i c m.sees.subs_are e).is.number_is ∙ (let up : 1 + i ≡ suc i = omega arith in up)

    there : numbered t.subs sub ≡ Some b
    there = ap (numbered t.subs) (sym who.1.1 ∙ numbers place.0 b place.1.0) ∙ place.1.0

    both : Both b n.board place.0 (1 + place.0) n.links
    both = both_at 1 t.subs n.board n.links place.0 b m.sees.subs_are place.1.0

    shaped : (both.r.until ≡ None) × (both.r.linked ≡ false)
    shaped = shaped_idle both.r.state both.r.until both.r.linked both.is.shape (sym (ap is_idle both.is.state) ∙ idle)

    unlinked : b.link ≡ None
    unlinked = both.is.link_is ∙ no_link _ both.r.linked both.is.linked shaped.1

    quiescent : IsQuiescent o t
    quiescent = of_order exact o t m.still

    gives : of_stage o t o.stage ≡ Some a
    gives =
        ap (of_stage o t) at.stage_is
        ∙ ap (λ (d : Option Action). first_action (d ∷ next_take_over t ∷ next_connected t ∷ first_of (config_action t) t.calls ∷ next_of_pass o t ∷ next_due_attempt t ∷ next_of_queue t ∷ Some action.EntryCloses ∷ [])) m.clock
        ∙ ap (λ (d : Option Action). first_action (d ∷ next_connected t ∷ first_of (config_action t) t.calls ∷ next_of_pass o t ∷ next_due_attempt t ∷ next_of_queue t ∷ Some action.EntryCloses ∷ [])) (none_over n t m.sees may)
        ∙ ap (λ (d : Option Action). first_action (d ∷ first_of (config_action t) t.calls ∷ next_of_pass o t ∷ next_due_attempt t ∷ next_of_queue t ∷ Some action.EntryCloses ∷ [])) connects.0

    next : following t ≡ Some a
    next =
        ap (option_and_then (following_in t)) m.current
        ∙ follows_by (of_calls o t) (of_links o t) (of_policies o t) (of_stage o t o.stage) a quiescent.calls quiescent.links quiescent.policies gives

    does : after a t ≡ u
    does = ap (λ (c : Option OpenEntry). after_if c a t) m.current

    current : u.current ≡ Some o
    current = with_sub_current t sub (in_state conn.Connecting) ∙ m.current

    boarded : IsBoarded t u
    boarded = subst (IsBoarded t) does (one_boarded t a refl)

    shut : (k : ℕ) → is_shutdown_sub u k ≡ is_shutdown_sub t k
    shut = subbed_shut (in_state conn.Connecting) sub t b there (sym (ap is_shutdown (idle_is b.state idle)))

    kept : IsKept t
    kept = kept_along m.actions s t h.kept m.does

    clock_now : clock_action t (in_state conn.Connecting b) ≡ None
    clock_now =
        ap (λ (p : Option ℕ). if holds (λ (w : ℕ). nat_le w (now t)) p then Some (action.ConnectTimesOut b.number) else None) (both.is.until ∙ shaped.0)

    clock : next_of_clock u ≡ None
    clock =
        ap (λ (bs : List Subchannel). first_of (clock_action u) bs) (subbed_subs (in_state conn.Connecting) sub t)
        ∙ ap (λ (w : ℕ). first_of (λ (c : Subchannel). clock_at w c) (changed (in_state conn.Connecting) sub t.subs)) (now_goes_on t u o o boarded m.current current refl)
        ∙ none_changed (clock_action t) (in_state conn.Connecting) sub t.subs b m.clock there clock_now

    pub further : IsOn x o s ages stamps (connect_round n) u
    further = record {
      actions = m.actions ++ a ∷ [];
      does = does_on m.actions (a ∷ []) s t u m.does (next, sym does);
      board = board_on m.actions (a ∷ []) m.board (refl, tt);
      posts = none_on m.actions (a ∷ []) m.posts refl;
      current = current;
      still = λ line. stir.connects sub o t m.current (b, there, idle, unlinked) line o current refl (m.still line);
      sees = connects.1;
      ages = subbed_generations (in_state conn.Connecting) sub t ∙ m.ages;
      joined =
          joined_after t u m.joined
          (λ j k c here has. subs_after (in_state conn.Connecting) (λ d i e. e) sub t b there j k c (ap (λ (bs : List Subchannel). numbered bs j) (sym (subbed_subs (in_state conn.Connecting) sub t)) ∙ here) has)
          (λ j w here. same_links t j w (ap (λ (ls : List Link). numbered ls j) (sym (subbed_links (in_state conn.Connecting) sub t)) ∙ here))
          (ap (λ (v : Seen). v.attempts) (subbed (in_state conn.Connecting) sub t));
      links = links_without_difference_agree links_stay x x t u kept (kept_along (a ∷ []) t u kept (next, sym does)) boarded (subbed_links (in_state conn.Connecting) sub t) refl m.links;
      noted = noted_same t u boarded (entry_goes_on t u o o boarded m.current current) shut (subbed_links (in_state conn.Connecting) sub t) ∙ m.noted;
      clock = clock;
    }

    pub may_now : may_take_over (connect_round n).asker.rack ≡ false
    may_now = may_stays t sub (view_idle t sub b there (idle_is b.state idle) numbers) n m.sees first ∙ may

  -- the rounds
  pub record IsDone (n : NetSeen) : Type 0 where
    pub seen : Seen
    pub on : IsOn x o s ages stamps n seen
    pub may : may_take_over n.asker.rack ≡ false

  round_by : (n : NetSeen) (t : Seen) → IsOn x o s ages stamps n t → may_take_over n.asker.rack ≡ false → (p : Option ℕ) → first_wished n ≡ p → IsDone (connect_round n)
  round_by n t m may None e = subst IsDone (sym (ap (λ (p : Option ℕ). connected_at p n) e)) (record { seen = t; on = m; may = may })
  round_by n t m may (Some sub) e = record { seen = with_sub (in_state conn.Connecting) sub t; on = further n t m may sub e; may = may_now n t m may sub e }

  pub connect_on : (k : ℕ) (n : NetSeen) (t : Seen) → IsOn x o s ages stamps n t → may_take_over n.asker.rack ≡ false → IsDone (connect_rounds k n)
  connect_on zero n t m may = record { seen = t; on = m; may = may }
  connect_on (suc k) n t m may =
      let r = round_by n t m may (first_wished n) refl in connect_on k (connect_round n) r.seen r.on r.may
