-- A take-over whole: the policies change, and then the subchannels that only the one before had are shut.
use Rattle.std.proofs.Common.{◌≡◌, ◌++◌, ◌||◌, ◌&&◌, ap, refl, subst, sym, ◌∙◌, Bool, true, false, List, [], Option, None, Some, ℕ, if◌then◌else◌, length, map, slice_get}
use Rattle.std.proofs.lemmas.List.{length-map}
use Rattle.std.specs.List.{list_any}
use Rattle.std.specs.Option.{option_and_then, option_map}
use Rattle.grpc_base.specs.Addresses.{has_address}
use Rattle.grpc_base.specs.declared.address.Address.{Address}
use Rattle.grpc_base.specs.declared.kind.Kind.{Kind}
use Rattle.channel_net.proofs.MoveLaws.{Orderly}
use Rattle.channel_net.proofs.ViewLaws.{StayLive, or-left, or-right, stay-live}
use Rattle.channel_net.specs.Lists.{live_links}
use Rattle.channel_net.specs.Steps.{NetSeen, kept_shut, left, net_kept, net_taken_over}
use Rattle.lb_policy.specs.Steps.{emptied}
use Rattle.lb_policy.specs.Table.{PolicySeen}
use Rattle.policy_rack.specs.Steps.{changed_of, may_take_over, taken_over}
use Rattle.policy_rack.specs.declared.live.Live.{Live}
use Rattle.net_actions.proofs.Followed.{over, over_is, over_pending, over_uses, taken_over_now}
use Rattle.net_actions.proofs.Finishing.{UsesNow, finished, net_with, still_same}
use Rattle.net_actions.proofs.KindsKept.{kinds_changed_of, plain}
use Rattle.net_actions.proofs.Orders.{as_order}
use Rattle.net_actions.proofs.Noting.{get_away, with_subs}
use Rattle.net_actions.proofs.Quiet.{none_after, none_begins, none_ends, none_given, with_uses}
use Rattle.net_actions.proofs.Running.{find_none}
use Rattle.net_actions.proofs.TakingOver.{take_overs_are_same}
use Rattle.net_actions.specs.Runs.{Becomes, NoneIsToEnd, TakesOver}
use Rattle.net_actions.specs.Sees.{UsesAreApart, IsSound, IsUse, NoneAskedBeyond, Sees}
use Rattle.session_actions.specs.Entries.{entry}
use Rattle.session_actions.specs.Policies as policies
use Rattle.session_actions.specs.Policies.{activated_in, current_policy, is_live_policy, is_other_kind, is_pending, is_to_retire, listed, next_retired, next_take_over, pending_policy, policy_of, policy_took_over, result_of, view_of, wanted_kind}
use Rattle.session_actions.specs.Words.{holds}
use Rattle.session_actions.specs.declared.action.Action.{Action}
use Rattle.session_actions.specs.declared.entry.OpenEntry.{OpenEntry}
use Rattle.session_actions.specs.declared.policy.PolicyUse.{PolicyUse}
use Rattle.session_actions.specs.declared.seen.Seen.{Seen}
use Rattle.session_actions.specs.declared.action.Action.TheVariants as action
use Rattle.subchannel.specs.Boards.{kept}

-- the net, where it may
abbrev moved_if : Bool → NetSeen → NetSeen
moved_if x n = record n {
  asker = record n.asker { rack = (if x then taken_over n.asker.rack else n.asker.rack) };
  current = n.pending;
  pending = [];
}

over_net : (n : NetSeen) (gone : List ℕ) → may_take_over n.asker.rack ≡ true → (net_taken_over (left n gone)).net ≡ net_with (taken_over n.asker.rack) n.pending [] n
over_net n gone may =
    ap (λ (x : Bool). (if x then record { net = net_kept (moved_if x n); gone = kept_shut (moved_if x n) } else left n gone).net) may

stays : (n : NetSeen) → Orderly n → StayLive n.pending [] n.board n.pending
stays n o =
    stay-live n.pending [] n.board n.pending
    (λ a e. (or-left (has_address n.pending a) (has_address [] a) e, o.listed a ∙ ap (λ (b : Bool). if b then 1 else 0) (or-right (has_address n.current a) (has_address n.pending a) e)))

-- which policy it is
if_number : (x : Bool) (k number : ℕ) → (if x then Some (action.PolicyTakesOver k) else None) ≡ Some (action.PolicyTakesOver number) → k ≡ number
if_number true k number e = (cc)
if_number false k number e = absurd (cc)

pub record Pending (s : Seen) (number : ℕ) : Type 0 where
  pub p : PolicyUse
  pub there : pending_policy s ≡ Some p
  pub number_is : p.number ≡ number

pending_by : (s : Seen) (number : ℕ) (o : Option PolicyUse) → pending_policy s ≡ o
    → option_and_then (λ (g : PolicyUse). if policies.may_take_over s g then Some (action.PolicyTakesOver g.number) else None) o ≡ Some (action.PolicyTakesOver number)
    → Pending s number
pending_by s number None there e = absurd (cc)
pending_by s number (Some p) there e = record { p = p; there = there; number_is = if_number (policies.may_take_over s p) p.number number e }

may_by : (x : Bool) (o : Option Action) (a : Action) → (if x then o else None) ≡ Some a → x ≡ true
may_by true o a e = refl
may_by false o a e = absurd (cc)

-- no policy is to be retired then
retire_no : (l h p k : Bool) → h ≡ false → p ≡ false → (l && (h || (p && k))) ≡ false
retire_no true false false k e f = refl
retire_no true true p k e f = absurd (cc)
retire_no true false true k e f = absurd (cc)
retire_no false h p k e f = refl

-- what the policy is in both
apart_none : (o : Option Live) → UsesAreApart o None
apart_none None = tt
apart_none (Some live) = tt

pub still_there : (current : Option Live) (live : Live) (seen : List PolicySeen) → UsesAreApart current (Some live)
    → slice_get (changed_of emptied current seen) live.place ≡ slice_get seen live.place
still_there None live seen apart = refl
still_there (Some c) live seen apart = get_away emptied seen c.place live.place (λ e. apart.0 (sym e))

used_over : (e : ℕ) (s t : Seen) (p : PolicyUse) (live current : Option Live) (addresses : List Address) (seen : List PolicySeen) → UsesAreApart current live
    → policy_of p s ≡ policy_of (activated_in e p) t
    → IsUse (Some p) (Some (policy_of p s)) live addresses seen
    → IsUse (Some (activated_in e p)) (Some (policy_of (activated_in e p) t)) live addresses (changed_of emptied current seen)
used_over e s t p None current addresses seen apart same u = absurd u
used_over e s t p (Some live) current addresses seen apart same u =
    (u.0, u.1, still_there current live seen apart ∙ u.2 ∙ ap (λ (x : PolicySeen). Some x) same, subst IsSound same u.3)

has_list : (s : Seen) (p : PolicyUse) (live : Option Live) (addresses : List Address) (seen : List PolicySeen)
    → IsUse (Some p) (Some (policy_of p s)) live addresses seen → p.addresses ≡ addresses
has_list s p None addresses seen u = absurd u
has_list s p (Some live) addresses seen u = u.1

over_at : (o : OpenEntry) (s : Seen) (n : NetSeen) (p : PolicyUse) → Sees s n → Orderly n → s.shut ≡ false → NoneIsToEnd s → result_of o ≡ None
    → pending_policy s ≡ Some p → Becomes o (with_uses (map (over (entry s)) s.policies) s) (net_with (taken_over n.asker.rack) n.pending [] n)
over_at o s n p h order shut ended none there =
    let e : ℕ = entry s in
    let uses : List PolicyUse = map (over e) s.policies in
    let u : Seen = with_uses uses s in
    let q : PolicyUse = activated_in e p in
    let no_pending : list_any is_pending uses ≡ false = none_after is_pending (over e) (over_pending e) s.policies in
    let retired : next_retired o u ≡ None
    = ap (λ (x : Option PolicyUse). option_map (λ (g : PolicyUse). action.PolicyRetired g.number) x)
    (find_none (is_to_retire o u) uses (none_after (is_to_retire o u) (over e)
    (λ g. retire_no (is_live_policy (over e g)) s.shut (is_pending (over e g)) (holds (λ (k : Kind). is_other_kind k (over e g)) (wanted_kind o s)) shut (over_pending e g)) s.policies)) in
    let now : UsesNow o u uses (Some q) None = record {
      current_is = over_is e s.policies p there;
      pending_is = find_none is_pending uses no_pending;
      quiet = record { ended = ended; retired = retired; begun = none_begins o u none; given = none_given o u none };
      uses_are = over_uses e s.policies h.uses_are;
      runs = λ t run. run;
    } in
    let used : IsUse (Some p) (Some (policy_of p s)) n.asker.rack.pending n.pending n.asker.rack.policies
    = subst (λ (x : Option PolicyUse). IsUse x (option_map (λ (g : PolicyUse). policy_of g s) x) n.asker.rack.pending n.pending n.asker.rack.policies) there h.pending_is in
    let addresses : p.addresses ≡ n.pending = has_list s p n.asker.rack.pending n.pending n.asker.rack.policies used in
    let same : length uses ≡ length s.policies = length-map s.policies (over e) in
    finished o u uses (Some q) None (taken_over n.asker.rack) n.pending [] n h.subs_are h.beyond now (ap (λ (l : List Address). l ++ []) addresses) order.pending tt
    (h.made ∙ sym same) (kinds_changed_of emptied (plain emptied (λ x. (refl, refl))) s.setup.policies n.asker.rack.policies n.asker.rack.current h.kinds_are)
    (subst (λ (k : ℕ). NoneAskedBeyond k s.asks) (sym same) h.unasked) h.counted (apart_none n.asker.rack.pending)
    (λ subs after. used_over e s (with_subs subs u) p n.asker.rack.pending n.asker.rack.current n.pending n.asker.rack.policies h.apart
    (still_same s uses subs n.board n.links (live_links (kept n.pending [] n.board) n.links) n.pending [] n.pending h.subs_are after (stays n order) p addresses) used)
    (λ subs after. refl)

pub takes_over : TakesOver
takes_over o s n number gone h is shut none next =
    let it : Pending s number = pending_by s number (pending_policy s) refl next in
    let may : may_take_over n.asker.rack ≡ true
    = may_by (may_take_over n.asker.rack) (option_map (λ (l : Live). action.PolicyTakesOver l.generation) n.asker.rack.pending) (action.PolicyTakesOver number)
    (sym (take_overs_are_same s n h) ∙ next) in
    let after : policy_took_over number s ≡ with_uses (map (over (entry s)) s.policies) s
    = ap (λ (k : ℕ). policy_took_over k s) (sym it.number_is) ∙ taken_over_now s it.p h.uses_are it.there in
    let one : Becomes o (policy_took_over number s) (net_with (taken_over n.asker.rack) n.pending [] n)
    = subst (λ (v : Seen). Becomes o v (net_with (taken_over n.asker.rack) n.pending [] n)) (sym after) (over_at o s n it.p h (as_order n is) shut (none_ends s shut) none it.there) in
    subst (λ (m : NetSeen). Becomes o (policy_took_over number s) m) (sym (over_net n gone may)) one
