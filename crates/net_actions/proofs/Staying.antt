-- A change of a subchannel of which no policy notes anything, in the session and in the net.
use Rattle.std.proofs.Common.{◌≡◌, ◌∷◌, ap, refl, subst, sym, ◌∙◌, Bool, true, false, List, [], Option, None, Some, ℕ, suc, map, if◌then◌else◌}
use Rattle.std.specs.Option.{option_map}
use Rattle.std.specs.Prelude.{slice_set}
use Rattle.grpc_base.specs.declared.address.Address.{Address}
use Rattle.grpc_base.specs.declared.event.Conn.{Conn}
use Rattle.grpc_base.specs.declared.event.Conn.TheVariants as conn
use Rattle.lb_policy.specs.Steps.{failed_after}
use Rattle.lb_policy.specs.Table.{PolicySeen}
use Rattle.lb_policy.specs.declared.seen.SubSeen.{SubSeen}
use Rattle.policy_rack.specs.declared.live.Live.{Live}
use Rattle.channel_net.proofs.ViewLaws.{view-still}
use Rattle.channel_net.specs.Steps.{NetSeen}
use Rattle.channel_net.specs.declared.links.OwnLink.{OwnLink}
use Rattle.net_actions.proofs.Changing.{Change, beyond_now, subs_same, with_sub_is}
use Rattle.net_actions.proofs.Noting.{with_noted, with_subs}
use Rattle.net_actions.proofs.Views.{views_same}
use Rattle.net_actions.specs.Sees.{SubchannelsAgree, IsSound, IsUse, Sees}
use Rattle.session_actions.specs.Policies.{current_policy, is_live_policy, pending_policy, policy_of, view_of}
use Rattle.session_actions.specs.Subchannels.{noted_state, with_sub}
use Rattle.session_actions.specs.declared.policy.PolicyUse.{PolicyUse}
use Rattle.session_actions.specs.declared.seen.Seen.{Seen}
use Rattle.session_actions.specs.declared.subchannel.Subchannel.{Subchannel}
use Rattle.subchannel.specs.Boards as boards
use Rattle.subchannel.specs.Records.{SubRecord}

-- a state that leaves the failed ones: a policy that notes it is as it was
abbrev pub LeavesFailed : Conn → Type 0
LeavesFailed c = (sub : ℕ) (failed : List ℕ) (view : List SubSeen) → failed_after sub c failed view ≡ failed

kept_if : (x : Bool) (g : PolicyUse) → (if x then record g { failed = g.failed } else g) ≡ g
kept_if true g = refl
kept_if false g = refl

unnoted : (t : Seen) (b : Subchannel) (g : PolicyUse) → LeavesFailed b.state → noted_state t b g ≡ g
unnoted t b g leaves =
    ap (λ (l : List ℕ). if is_live_policy g then record g { failed = l } else g) (leaves b.number g.failed (view_of g.addresses t))
    ∙ kept_if (is_live_policy g) g

all_unnoted : (t : Seen) (b : Subchannel) (policies : List PolicyUse) → LeavesFailed b.state → map (noted_state t b) policies ≡ policies
all_unnoted t b [] leaves = refl
all_unnoted t b (g ∷ policies) leaves =
    ap (λ (x : PolicyUse). x ∷ map (noted_state t b) policies) (unnoted t b g leaves) ∙ ap (λ (l : List PolicyUse). g ∷ l) (all_unnoted t b policies leaves)

pub none_noted : (t : Seen) (b : Subchannel) → LeavesFailed b.state → with_noted b t ≡ t
none_noted t b leaves = ap (λ (l : List PolicyUse). record t { policies = l }) (all_unnoted t b t.policies leaves)

-- the net after the change
abbrev pub net_still : (SubRecord → SubRecord) → ℕ → List OwnLink → NetSeen → NetSeen
net_still g place others n = record {
  asker = n.asker;
  board = boards.changed_at g n.board (suc place);
  current = n.current;
  pending = n.pending;
  links = others;
}

module _ (f : Subchannel → Subchannel) (g : SubRecord → SubRecord) (place : ℕ) (others : List OwnLink) (s : Seen) (n : NetSeen) (c : Change f g place others s n)
    (still : (r : SubRecord) → (g r).state ≡ r.state) where
  view_still : (addresses : List Address) → SubchannelsAgree 1 s.subs n.board n.links
      → view_of addresses (with_subs (slice_set s.subs place (f c.b)) s) ≡ view_of addresses s
  view_still addresses h =
      let t : Seen = with_subs (slice_set s.subs place (f c.b)) s in
      sym (views_same t (boards.changed_at g n.board (suc place)) others addresses (subs_same f g place others s n c h))
      ∙ view-still g c.live c.address still n.board (suc place) addresses
      ∙ views_same s n.board n.links addresses h

  used_still : (o : Option PolicyUse) (live : Option Live) (addresses : List Address) (policies : List PolicySeen) → SubchannelsAgree 1 s.subs n.board n.links
      → IsUse o (option_map (λ (x : PolicyUse). policy_of x s) o) live addresses policies
      → IsUse o (option_map (λ (x : PolicyUse). policy_of x (with_subs (slice_set s.subs place (f c.b)) s)) o) live addresses policies
  used_still None None addresses policies h u = u
  used_still (Some x) (Some live) addresses policies h u =
      let same : policy_of x (with_subs (slice_set s.subs place (f c.b)) s) ≡ policy_of x s
      = ap (λ (v : List SubSeen). record (policy_of x s) { view = v }) (view_still x.addresses h) in
      (u.0, u.1, u.2 ∙ ap (λ (p : PolicySeen). Some p) (sym same), subst IsSound (sym same) u.3)
  used_still None (Some live) addresses policies h u = absurd u
  used_still (Some x) None addresses policies h u = absurd u

  still_there : Sees s n → Sees (with_subs (slice_set s.subs place (f c.b)) s) (net_still g place others n)
  still_there h = record {
    subs_are = subs_same f g place others s n c h.subs_are;
    beyond = beyond_now f g place others s n c h.beyond;
    uses_are = h.uses_are;
    made = h.made;
    kinds_are = h.kinds_are;
    unasked = h.unasked;
    counted = h.counted;
    current_is = used_still (current_policy s) n.asker.rack.current n.current n.asker.rack.policies h.subs_are h.current_is;
    pending_is = used_still (pending_policy s) n.asker.rack.pending n.pending n.asker.rack.policies h.subs_are h.pending_is;
    apart = h.apart;
  }

  pub still_sees : (f c.b).state ≡ conn.Connecting → Sees s n → Sees (with_sub f (suc place) s) (net_still g place others n)
  still_sees e h =
      let t : Seen = with_subs (slice_set s.subs place (f c.b)) s in
      let leaves : LeavesFailed (f c.b).state = subst LeavesFailed (sym e) (λ k failed view. refl) in
      subst (λ (v : Seen). Sees v (net_still g place others n)) (sym (with_sub_is f place s c.b c.at ∙ none_noted t (f c.b) leaves)) (still_there h)
