-- A change of one subchannel, noted by the live policies, is the same in the session and in the net.
use Rattle.std.proofs.Common.{◌≡◌, ◌<◌, ◌+◌, ◌∷◌, ap, arith, refl, subst, sym, ◌∙◌, Bool, true, false, List, [], Option, None, Some, ℕ, zero, suc, slice_get, map, if◌then◌else◌, is_none, is_some, length}
use Rattle.std.proofs.lemmas.List.{length-map}
use Rattle.std.specs.Option.{option_map, option_map_or}
use Rattle.std.specs.Prelude.{slice_set}
use Rattle.grpc_base.specs.declared.address.Address.{Address}
use Rattle.grpc_base.specs.declared.event.Conn.{Conn}
use Rattle.lb_policy.proofs.FailedLaws.{after-note, once-noted}
use Rattle.lb_policy.specs.Steps.{failed_after, noted, noted_sub}
use Rattle.lb_policy.specs.Table.{PolicySeen}
use Rattle.policy_rack.specs.Steps.{changed_of}
use Rattle.policy_rack.specs.declared.live.Live.{Live}
use Rattle.channel_net.proofs.ViewLaws.{KeepsAddress, numbered-here, view-reported}
use Rattle.channel_net.specs.Askers.{reported}
use Rattle.channel_net.specs.Lists.{link_of, state_at}
use Rattle.channel_net.specs.Lists as lists
use Rattle.channel_net.specs.Steps.{NetSeen}
use Rattle.channel_net.specs.declared.links.OwnLink.{OwnLink}
use Rattle.net_actions.proofs.KindsKept.{kinds_changed_of, plain}
use Rattle.net_actions.proofs.Noting.{current_after, current_noted, first_true, found_passes, pending_after, pending_noted, policy_noted, still_number, uses_noted, with_noted, with_subs}
use Rattle.net_actions.proofs.Subs.{SameBut, changed_same}
use Rattle.net_actions.proofs.Views.{views_same}
use Rattle.net_actions.specs.Sees.{UsesAreApart, SubchannelsAgree, IsSound, IsSub, IsUse, NoneAskedBeyond, NoneBeyond, Sees, SeesBy}
use Rattle.session_actions.specs.Policies.{current_policy, is_current, is_live_policy, is_pending, pending_policy, policy_of, view_of}
use Rattle.session_actions.specs.Subchannels.{noted_by_policies, noted_state, with_sub}
use Rattle.session_actions.specs.Words.{changed_if}
use Rattle.session_actions.specs.declared.policy.PolicyUse.{PolicyUse}
use Rattle.session_actions.specs.declared.seen.Seen.{Seen}
use Rattle.session_actions.specs.declared.subchannel.Subchannel.{Subchannel}
use Rattle.subchannel.proofs.KeepLaws.{KeepsLive}
use Rattle.subchannel.specs.Boards as boards
use Rattle.subchannel.specs.Records.{SubRecord}

set_here : (subs : List Subchannel) (place : ℕ) (b c : Subchannel) → slice_get subs place ≡ Some b → slice_get (slice_set subs place c) place ≡ Some c
set_here [] place b c e = absurd (cc)
set_here (x ∷ subs) zero b c e = refl
set_here (x ∷ subs) (suc place) b c e = set_here subs place b c e

length_set : (subs : List Subchannel) (place : ℕ) (b : Subchannel) → length (slice_set subs place b) ≡ length subs
length_set [] place b = refl
length_set (x ∷ subs) zero b = refl
length_set (x ∷ subs) (suc place) b = ap suc (length_set subs place b)

place_within : (subs : List Subchannel) (place : ℕ) (b : Subchannel) → slice_get subs place ≡ Some b → place < length subs
place_within [] place b e = absurd (cc)
place_within (x ∷ subs) zero b e = omega arith
place_within (x ∷ subs) (suc place) b e = let next : place < length subs = place_within subs place b e in omega arith

-- what the session makes of it
pub with_sub_is : (f : Subchannel → Subchannel) (place : ℕ) (s : Seen) (b : Subchannel) → slice_get s.subs place ≡ Some b
    → with_sub f (suc place) s ≡ with_noted (f b) (with_subs (slice_set s.subs place (f b)) s)
with_sub_is f place s b e =
    let t : Seen = with_subs (slice_set s.subs place (f b)) s in
    ap (λ (o : Option Subchannel). (let t : Seen = with_subs (changed_if f (suc place) s.subs o) s in
    option_map_or (λ (c : Subchannel). noted_by_policies c t) (slice_get t.subs place) t)) e
    ∙ ap (λ (o : Option Subchannel). option_map_or (λ (c : Subchannel). noted_by_policies c t) o t) (set_here s.subs place b (f b) e)

-- what noting leaves
still_addresses : (t : Seen) (b : Subchannel) (x : Bool) (g : PolicyUse)
    → (if x then record g { failed = failed_after b.number b.state g.failed (view_of g.addresses t) } else g).addresses ≡ g.addresses
still_addresses t b true g = refl
still_addresses t b false g = refl

sound_noted : (sub : ℕ) (state : Conn) (p : PolicySeen) → IsSound p → IsSound (noted sub state p)
sound_noted sub state p h = (once-noted sub state p.view h.0, after-note sub state p.failed p.view h.0 h.1)

-- what is known of the change
pub record Change (f : Subchannel → Subchannel) (g : SubRecord → SubRecord) (place : ℕ) (others : List OwnLink) (s : Seen) (n : NetSeen) : Type 0 where
  pub b : Subchannel
  pub at : slice_get s.subs place ≡ Some b
  pub r : SubRecord
  pub there : slice_get n.board place ≡ Some r
  pub is : IsSub (f b) (g r) (suc place) (link_of others (suc place))
  pub same : SameBut (suc place) n.links others
  pub live : KeepsLive g
  pub address : KeepsAddress g

-- the net after it
abbrev pub net_changed : (SubRecord → SubRecord) → ℕ → List OwnLink → NetSeen → NetSeen
net_changed g place others n = record {
  asker = reported (state_at (boards.changed_at g n.board (suc place)) (suc place)) (suc place) n.asker;
  board = boards.changed_at g n.board (suc place);
  current = n.current;
  pending = n.pending;
  links = others;
}

module _ (f : Subchannel → Subchannel) (g : SubRecord → SubRecord) (place : ℕ) (others : List OwnLink) (s : Seen) (n : NetSeen) (c : Change f g place others s n) where
  pub subs_same : SubchannelsAgree 1 s.subs n.board n.links → SubchannelsAgree 1 (slice_set s.subs place (f c.b)) (boards.changed g n.board place) others
  subs_same h =
      let number : suc place ≡ 1 + place = omega arith in
      let but : SameBut (1 + place) n.links others = subst (λ (k : ℕ). SameBut k n.links others) number c.same in
      let is : IsSub (f c.b) (g c.r) (1 + place) (link_of others (1 + place))
      = subst (λ (k : ℕ). IsSub (f c.b) (g c.r) k (link_of others k)) number c.is in
      changed_same 1 place s.subs n.board n.links others (f c.b) g but h
      (λ r e. (let one : r ≡ c.r = (cc) in subst (λ (q : SubRecord). IsSub (f c.b) (g q) (1 + place) (link_of others (1 + place))) (sym one) is))

  pub beyond_now : NoneBeyond (length s.subs) n.links → NoneBeyond (length (slice_set s.subs place (f c.b))) others
  beyond_now h number less =
      let same : length (slice_set s.subs place (f c.b)) ≡ length s.subs = length_set s.subs place (f c.b) in
      let within : place < length s.subs = place_within s.subs place c.b c.at in
      sym (c.same number (λ e. omega (arith, e))) ∙ h number (omega arith)

  there_now : boards.numbered (boards.changed_at g n.board (suc place)) (suc place) ≡ Some (g c.r)
  there_now = numbered-here g n.board (suc place) ∙ ap (option_map g) c.there

  -- the view of some addresses, in the session
  view_now : (addresses : List Address) → SubchannelsAgree 1 s.subs n.board n.links
      → view_of addresses (with_subs (slice_set s.subs place (f c.b)) s) ≡ map (noted_sub (f c.b).number (f c.b).state) (view_of addresses s)
  view_now addresses h =
      let t : Seen = with_subs (slice_set s.subs place (f c.b)) s in
      let after : lists.view_of (boards.changed_at g n.board (suc place)) addresses ≡ view_of addresses t
      = views_same t (boards.changed_at g n.board (suc place)) others addresses (subs_same h) in
      let before : lists.view_of n.board addresses ≡ view_of addresses s = views_same s n.board n.links addresses h in
      let step : lists.view_of (boards.changed_at g n.board (suc place)) addresses ≡ map (noted_sub (suc place) (g c.r).state) (lists.view_of n.board addresses)
      = view-reported g c.live c.address n.board (suc place) (g c.r) addresses there_now in
      sym after ∙ step ∙ ap (map (noted_sub (suc place) (g c.r).state)) before
      ∙ ap (λ (k : ℕ). map (noted_sub k (g c.r).state) (view_of addresses s)) (sym c.is.number_is)
      ∙ ap (λ (x : Conn). map (noted_sub (f c.b).number x) (view_of addresses s)) (sym c.is.state)

  -- a use of a policy, after it
  used_now : (g0 : PolicyUse) (live : Live) (addresses : List Address) (before after : List PolicySeen) → SubchannelsAgree 1 s.subs n.board n.links
      → is_live_policy g0 ≡ true
      → (g0.number ≡ live.generation) × (g0.addresses ≡ addresses) × (slice_get before live.place ≡ Some (policy_of g0 s)) × IsSound (policy_of g0 s)
      → ((p : PolicySeen) → slice_get before live.place ≡ Some p → slice_get after live.place ≡ Some (noted (suc place) (g c.r).state p))
      → IsUse (Some (noted_state (with_subs (slice_set s.subs place (f c.b)) s) (f c.b) g0))
      (Some (policy_of (noted_state (with_subs (slice_set s.subs place (f c.b)) s) (f c.b) g0) (with_noted (f c.b) (with_subs (slice_set s.subs place (f c.b)) s))))
      (Some live) addresses after
  used_now g0 live addresses before after h is used onward =
      let t : Seen = with_subs (slice_set s.subs place (f c.b)) s in
      let table : policy_of (noted_state t (f c.b) g0) (with_noted (f c.b) t) ≡ noted (f c.b).number (f c.b).state (policy_of g0 s)
      = policy_noted s (slice_set s.subs place (f c.b)) (f c.b) g0 is (view_now g0.addresses h) in
      let named : noted (f c.b).number (f c.b).state (policy_of g0 s) ≡ noted (suc place) (g c.r).state (policy_of g0 s)
      = ap (λ (k : ℕ). noted k (f c.b).state (policy_of g0 s)) c.is.number_is ∙ ap (λ (x : Conn). noted (suc place) x (policy_of g0 s)) c.is.state in (
        still_number t (f c.b) (is_live_policy g0) g0 ∙ used.0,
        still_addresses t (f c.b) (is_live_policy g0) g0 ∙ used.1,
        onward (policy_of g0 s) used.2 ∙ ap (λ (p : PolicySeen). Some p) (sym (table ∙ named)),
        subst IsSound (sym (table ∙ named)) (sound_noted (suc place) (g c.r).state (policy_of g0 s) used.3),
      )

  -- the current policy and the pending one
  current_now : (o : Option PolicyUse) (live pending : Option Live) (addresses : List Address) (policies : List PolicySeen) → SubchannelsAgree 1 s.subs n.board n.links
      → ((x : PolicyUse) → o ≡ Some x → is_live_policy x ≡ true) → UsesAreApart live pending
      → IsUse o (option_map (λ (x : PolicyUse). policy_of x s) o) live addresses policies
      → IsUse (option_map (noted_state (with_subs (slice_set s.subs place (f c.b)) s) (f c.b)) o)
      (option_map (λ (x : PolicyUse). policy_of x (with_noted (f c.b) (with_subs (slice_set s.subs place (f c.b)) s)))
      (option_map (noted_state (with_subs (slice_set s.subs place (f c.b)) s) (f c.b)) o))
      live addresses (changed_of (noted (suc place) (g c.r).state) pending (changed_of (noted (suc place) (g c.r).state) live policies))
  current_now None None pending addresses policies h is apart u = u
  current_now (Some x) (Some live) pending addresses policies h is apart u =
      used_now x live addresses policies (changed_of (noted (suc place) (g c.r).state) pending (changed_of (noted (suc place) (g c.r).state) (Some live) policies))
      h (is x refl) u (λ p e. current_after (noted (suc place) (g c.r).state) policies live pending p apart e)
  current_now None (Some live) pending addresses policies h is apart u = absurd u
  current_now (Some x) None pending addresses policies h is apart u = absurd u

  pending_now : (o : Option PolicyUse) (live current : Option Live) (addresses : List Address) (policies : List PolicySeen) → SubchannelsAgree 1 s.subs n.board n.links
      → ((x : PolicyUse) → o ≡ Some x → is_live_policy x ≡ true) → UsesAreApart current live
      → IsUse o (option_map (λ (x : PolicyUse). policy_of x s) o) live addresses policies
      → IsUse (option_map (noted_state (with_subs (slice_set s.subs place (f c.b)) s) (f c.b)) o)
      (option_map (λ (x : PolicyUse). policy_of x (with_noted (f c.b) (with_subs (slice_set s.subs place (f c.b)) s)))
      (option_map (noted_state (with_subs (slice_set s.subs place (f c.b)) s) (f c.b)) o))
      live addresses (changed_of (noted (suc place) (g c.r).state) live (changed_of (noted (suc place) (g c.r).state) current policies))
  pending_now None None current addresses policies h is apart u = u
  pending_now (Some x) (Some live) current addresses policies h is apart u =
      used_now x live addresses policies (changed_of (noted (suc place) (g c.r).state) (Some live) (changed_of (noted (suc place) (g c.r).state) current policies))
      h (is x refl) u (λ p e. pending_after (noted (suc place) (g c.r).state) policies live current p apart e)
  pending_now None (Some live) current addresses policies h is apart u = absurd u
  pending_now (Some x) None current addresses policies h is apart u = absurd u

  -- the net notes it
  pub reported_now : net_changed g place others n ≡ record {
    asker = reported (Some (g c.r).state) (suc place) n.asker;
    board = boards.changed_at g n.board (suc place);
    current = n.current;
    pending = n.pending;
    links = others;
  }
  reported_now =
      ap (λ (o : Option SubRecord). record {
        asker = reported (option_map (λ (x : SubRecord). x.state) o) (suc place) n.asker;
        board = boards.changed_at g n.board (suc place);
        current = n.current;
        pending = n.pending;
        links = others;
      }) there_now

  seen_now : Sees s n → Sees (with_noted (f c.b) (with_subs (slice_set s.subs place (f c.b)) s)) (net_changed g place others n)
  seen_now h =
      let t : Seen = with_subs (slice_set s.subs place (f c.b)) s in
      let u : Seen = with_noted (f c.b) t in
      let net : NetSeen = record {
        asker = reported (Some (g c.r).state) (suc place) n.asker;
        board = boards.changed_at g n.board (suc place);
        current = n.current;
        pending = n.pending;
        links = others;
      } in
      let one : SeesBy u.setup.policies u.asks u.policies u.subs (option_map (noted_state t (f c.b)) (current_policy s))
      (option_map (λ (x : PolicyUse). policy_of x u) (option_map (noted_state t (f c.b)) (current_policy s)))
      (option_map (noted_state t (f c.b)) (pending_policy s))
      (option_map (λ (x : PolicyUse). policy_of x u) (option_map (noted_state t (f c.b)) (pending_policy s))) net
      = record {
        subs_are = subs_same h.subs_are;
        beyond = beyond_now h.beyond;
        uses_are = uses_noted (f c.b) t s.policies h.uses_are;
        made = h.made ∙ sym (length-map s.policies (noted_state t (f c.b)));
        kinds_are = kinds_changed_of (noted (suc place) (g c.r).state) (plain (noted (suc place) (g c.r).state) (λ p. (refl, refl))) s.setup.policies
            (changed_of (noted (suc place) (g c.r).state) n.asker.rack.current n.asker.rack.policies) n.asker.rack.pending
            (kinds_changed_of (noted (suc place) (g c.r).state) (plain (noted (suc place) (g c.r).state) (λ p. (refl, refl))) s.setup.policies
            n.asker.rack.policies n.asker.rack.current h.kinds_are);
        unasked = subst (λ (k : ℕ). NoneAskedBeyond k s.asks) (sym (length-map s.policies (noted_state t (f c.b)))) h.unasked;
        counted = h.counted;
        current_is = current_now (current_policy s) n.asker.rack.current n.asker.rack.pending n.current n.asker.rack.policies h.subs_are
            (λ x e. first_true (is_live_policy x) (is_some x.generation.activated) (found_passes is_current s.policies x e)) h.apart h.current_is;
        pending_is = pending_now (pending_policy s) n.asker.rack.pending n.asker.rack.current n.pending n.asker.rack.policies h.subs_are
            (λ x e. first_true (is_live_policy x) (is_none x.generation.activated) (found_passes is_pending s.policies x e)) h.apart h.pending_is;
        apart = h.apart;
      } in
      let two : SeesBy u.setup.policies u.asks u.policies u.subs (current_policy u) (option_map (λ (x : PolicyUse). policy_of x u) (current_policy u))
      (option_map (noted_state t (f c.b)) (pending_policy s))
      (option_map (λ (x : PolicyUse). policy_of x u) (option_map (noted_state t (f c.b)) (pending_policy s))) net
      = subst (λ (o : Option PolicyUse). SeesBy u.setup.policies u.asks u.policies u.subs o (option_map (λ (x : PolicyUse). policy_of x u) o)
      (option_map (noted_state t (f c.b)) (pending_policy s))
      (option_map (λ (x : PolicyUse). policy_of x u) (option_map (noted_state t (f c.b)) (pending_policy s))) net) (sym (current_noted (f c.b) t)) one in
      let three : Sees u net
      = subst (λ (o : Option PolicyUse). SeesBy u.setup.policies u.asks u.policies u.subs (current_policy u) (option_map (λ (x : PolicyUse). policy_of x u) (current_policy u)) o
      (option_map (λ (x : PolicyUse). policy_of x u) o) net) (sym (pending_noted (f c.b) t)) two in
      subst (λ (m : NetSeen). Sees u m) (sym reported_now) three

  pub changed_sees : Sees s n → Sees (with_sub f (suc place) s) (net_changed g place others n)
  changed_sees h = subst (λ (v : Seen). Sees v (net_changed g place others n)) (sym (with_sub_is f place s c.b c.at)) (seen_now h)
