-- Once the policies of a session have the lists of a net, subchannels go and come, and session and net agree.
use Rattle.std.proofs.Common.{◌≡◌, ◌≤◌, ◌++◌, ap, subst, sym, ◌∙◌, List, Option, length, option_to_list}
use Rattle.std.specs.List.{flat_map}
use Rattle.std.specs.Option.{option_map}
use Rattle.grpc_base.specs.Addresses.{IsWithoutRepeats}
use Rattle.grpc_base.specs.declared.address.Address.{Address}
use Rattle.channel_net.proofs.ViewLaws.{StayLive, view-kept}
use Rattle.channel_net.specs.Lists.{live_links}
use Rattle.channel_net.specs.Steps.{NetSeen}
use Rattle.channel_net.specs.declared.links.OwnLink.{OwnLink}
use Rattle.lb_policy.specs.Table.{PolicySeen}
use Rattle.lb_policy.specs.declared.seen.SubSeen.{SubSeen}
use Rattle.net_actions.proofs.Keeping.{KeptBy, keeps}
use Rattle.net_actions.proofs.Noting.{with_subs}
use Rattle.net_actions.proofs.Quiet.{with_uses}
use Rattle.net_actions.proofs.Running.{IsQuiet}
use Rattle.net_actions.proofs.Views.{views_same}
use Rattle.net_actions.specs.Runs.{Becomes, RunsTo}
use Rattle.net_actions.specs.Sees.{UsesAreApart, KindsAgree, SubchannelsAgree, UsesAgree, IsUse, NoneAskedBeyond, NoneBeyond, Sees, SeesBy}
use Rattle.policy_rack.specs.Steps.{RackSeen}
use Rattle.session_actions.specs.Policies.{current_policy, listed, pending_policy, policy_of, view_of}
use Rattle.session_actions.specs.declared.entry.OpenEntry.{OpenEntry}
use Rattle.session_actions.specs.declared.policy.PolicyUse.{PolicyUse}
use Rattle.session_actions.specs.declared.seen.Seen.{Seen}
use Rattle.session_actions.specs.declared.subchannel.Subchannel.{Subchannel}
use Rattle.subchannel.specs.Boards.{kept}
use Rattle.subchannel.specs.Records.{SubRecord}

-- the session once its policies are as they will be, with who is current and who is pending
pub record UsesNow (o : OpenEntry) (s : Seen) (uses : List PolicyUse) (current pending : Option PolicyUse) : Type 0 where
  pub current_is : current_policy (with_uses uses s) ≡ current
  pub pending_is : pending_policy (with_uses uses s) ≡ pending
  pub quiet : IsQuiet o (with_uses uses s)
  pub uses_are : UsesAgree uses
  pub runs : (t : Seen) → RunsTo o (with_uses uses s) t → RunsTo o s t

-- a policy whose addresses all stay is as it was
module _ (s : Seen) (uses : List PolicyUse) (subs : List Subchannel) (board : List SubRecord) (links others : List OwnLink) (current pending list : List Address)
    (before : SubchannelsAgree 1 s.subs board links) (after : SubchannelsAgree 1 subs (kept current pending board) others) (stays : StayLive current pending board list) where
  still_view : view_of list (with_subs subs (with_uses uses s)) ≡ view_of list s
  still_view =
      sym (views_same (with_subs subs (with_uses uses s)) (kept current pending board) others list after)
      ∙ view-kept current pending board list stays ∙ views_same s board links list before

  pub still_same : (g : PolicyUse) → g.addresses ≡ list → policy_of g s ≡ policy_of g (with_subs subs (with_uses uses s))
  still_same g e =
      ap (λ (v : List SubSeen). record (policy_of g s) { view = v })
      (sym (subst (λ (l : List Address). view_of l (with_subs subs (with_uses uses s)) ≡ view_of l s) (sym e) still_view))

-- a net after its lists are kept, with a rack
abbrev pub net_with : RackSeen → List Address → List Address → NetSeen → NetSeen
net_with r current pending n = record {
  asker = record n.asker { rack = r };
  board = kept current pending n.board;
  current = current;
  pending = pending;
  links = live_links (kept current pending n.board) n.links;
}

-- a use agrees with the net, whatever the subchannels are by which the boards agree
abbrev pub FitsNow : Seen → List PolicyUse → List Address → List Address → NetSeen → (Seen → Type 0) → Type 0
FitsNow s uses current pending n P =
    (subs : List Subchannel) → SubchannelsAgree 1 subs (kept current pending n.board) (live_links (kept current pending n.board) n.links) → P (with_subs subs (with_uses uses s))

abbrev pub use_in : Option PolicyUse → Seen → Option PolicySeen
use_in c t = option_map (λ (g : PolicyUse). policy_of g t) c

pub finished : (o : OpenEntry) (s : Seen) (uses : List PolicyUse) (c p : Option PolicyUse) (r : RackSeen) (current pending : List Address) (n : NetSeen)
    → SubchannelsAgree 1 s.subs n.board n.links → NoneBeyond (length s.subs) n.links → UsesNow o s uses c p
    → flat_map (λ (g : PolicyUse). g.addresses) (option_to_list c ++ option_to_list p) ≡ current ++ pending
    → IsWithoutRepeats current → IsWithoutRepeats pending → r.made ≡ length uses → KindsAgree s.setup.policies r.policies
    → NoneAskedBeyond (length uses) s.asks → n.asker.asks ≤ length s.asks → UsesAreApart r.current r.pending
    → FitsNow s uses current pending n (λ t. IsUse c (use_in c t) r.current current r.policies)
    → FitsNow s uses current pending n (λ t. IsUse p (use_in p t) r.pending pending r.policies)
    → Becomes o s (net_with r current pending n)
finished o s uses c p r current pending n subs beyond given list one two made kinds unasked counted apart first second =
    let u : Seen = with_uses uses s in
    let m : NetSeen = net_with r current pending n in
    let are : listed u ≡ current ++ pending
    = ap (λ (x : Option PolicyUse). flat_map (λ (g : PolicyUse). g.addresses) (option_to_list x ++ option_to_list (pending_policy u))) given.current_is
    ∙ ap (λ (x : Option PolicyUse). flat_map (λ (g : PolicyUse). g.addresses) (option_to_list c ++ option_to_list x)) given.pending_is ∙ list in
    let kept_now : KeptBy o u m.board m.links = keeps o u current pending n.board n.links given.quiet are one two subs beyond in
    let t : Seen = with_subs kept_now.subs u in
    let by : SeesBy s.setup.policies s.asks uses kept_now.subs c (use_in c t) p (use_in p t) m = record {
      subs_are = kept_now.are;
      beyond = kept_now.beyond;
      uses_are = given.uses_are;
      made = made;
      kinds_are = kinds;
      unasked = unasked;
      counted = counted;
      current_is = first kept_now.subs kept_now.are;
      pending_is = second kept_now.subs kept_now.are;
      apart = apart;
    } in
    let by_current : SeesBy s.setup.policies s.asks uses kept_now.subs (current_policy u) (use_in (current_policy u) t) p (use_in p t) m
    = subst (λ (x : Option PolicyUse). SeesBy s.setup.policies s.asks uses kept_now.subs x (use_in x t) p (use_in p t) m) (sym given.current_is) by in
    let sees : Sees t m
    = subst (λ (x : Option PolicyUse). SeesBy s.setup.policies s.asks uses kept_now.subs (current_policy u) (use_in (current_policy u) t) x (use_in x t) m) (sym given.pending_is) by_current in
    record { end = t; runs = given.runs t kept_now.runs; sees = sees }
