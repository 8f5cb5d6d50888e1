-- A result of the resolver whole: it is for the current policy, for the pending one, or a new one begins; then subchannels go and come.
use Rattle.std.proofs.Common.{◌≡◌, ◌+◌, ◌≤◌, ◌∷◌, ◌++◌, ◌&&◌, ◌==◌, ap, arith, refl, subst, sym, ◌∙◌, Bool, true, false, List, [], Option, None, Some, ℕ, if◌then◌else◌, is_some, length, map, slice_get, length-append}
use Rattle.std.proofs.lemmas.Bool.{eqb-false, eqb-true}
use Rattle.std.proofs.lemmas.List.{append-nil, length-map}
use Rattle.std.specs.Option.{option_map, option_map_or}
use Rattle.grpc_base.specs.Addresses.{IsAddressList, has_address}
use Rattle.grpc_base.specs.declared.address.Address.{Address}
use Rattle.grpc_base.specs.declared.kind.Kind.{Kind}
use Rattle.grpc_base.specs.declared.kind.Kind.TheVariants as kind
use Rattle.channel_net.proofs.KindRuns.{kinds-stay, place-is, there}
use Rattle.channel_net.proofs.MoveLaws.{Orderly}
use Rattle.channel_net.proofs.RunLaws.{Follows, of-new}
use Rattle.channel_net.proofs.ViewLaws.{StayLive, or-left, stay-live}
use Rattle.channel_net.specs.Laws.{GenerationsAreKept}
use Rattle.channel_net.specs.Lists as lists
use Rattle.channel_net.specs.Lists.{each_once, live_links}
use Rattle.channel_net.specs.Steps.{NetSeen, is_for_current, net_taken, new_net}
use Rattle.channel_net.specs.declared.links.OwnLink.{OwnLink}
use Rattle.lb_policy.specs.Steps.{emptied, failed_in, given}
use Rattle.lb_policy.specs.Table.{PolicySeen}
use Rattle.lb_policy.specs.declared.seen.SubSeen.{SubSeen}
use Rattle.net_actions.proofs.Uses.{none_found}
use Rattle.net_actions.proofs.Finishing.{UsesNow, finished, net_with, still_same}
use Rattle.net_actions.proofs.Giving.{give, give_one}
use Rattle.net_actions.proofs.KindsKept.{kinds_changed, kinds_changed_of, plain}
use Rattle.net_actions.proofs.Noting.{get_away, get_here, with_subs}
use Rattle.net_actions.proofs.Quiet.{none_ends, with_uses}
use Rattle.net_actions.proofs.ResultKinds.{if_false, is_of_kind}
use Rattle.net_actions.proofs.ResultNets.{first_wanted, given_same, given_sound, second_wanted, spare_is}
use Rattle.net_actions.proofs.ResultRuns.{begun, for_current, for_new_current, for_new_pending, for_pending, more}
use Rattle.net_actions.proofs.Retiring.{retire_one}
use Rattle.net_actions.proofs.Uses.{AllUses, all_to, none_passes, only_is}
use Rattle.net_actions.proofs.ViewNumbers.{each_once_is}
use Rattle.net_actions.specs.Runs.{Becomes, NoneIsToEnd, TakesResult}
use Rattle.net_actions.specs.Sees.{UsesAreApart, KindsAgree, UsesAgree, IsSound, IsUse, NoneAskedBeyond, Sees}
use Rattle.policy_rack.proofs.KindLaws.{has_place}
use Rattle.policy_rack.specs.Kinds.{first_place, has_policy, kinds_differ, same_kind}
use Rattle.policy_rack.specs.Runs.{GenerationsAreLive, IsKept, SparesAreEmpty}
use Rattle.policy_rack.specs.Steps.{RackSeen, adopted, begun as begun_rack, changed, changed_of, is_at, renewed}
use Rattle.policy_rack.specs.declared.live.Live.{Live}
use Rattle.session_actions.specs.Policies.{current_policy, is_current, is_pending, pending_policy, policy_of, result_of, turns_of, view_of, wanted_kind, width_of}
use Rattle.session_actions.specs.declared.entry.OpenEntry.{OpenEntry}
use Rattle.session_actions.specs.declared.policy.PolicyUse.{PolicyUse}
use Rattle.session_actions.specs.declared.seen.PolicyKind.{PolicyKind}
use Rattle.session_actions.specs.declared.seen.Seen.{Seen}
use Rattle.subchannel.specs.Boards.{kept}
use Rattle.subchannel.specs.Records.{SubRecord}

-- the net with its rack in parts
abbrev rack_of : List PolicySeen → Option Live → Option Live → ℕ → RackSeen
rack_of ps cl pl made = record { policies = ps; current = cl; pending = pl; made = made }

abbrev net_of : RackSeen → ℕ → List SubRecord → List Address → List Address → List OwnLink → NetSeen
net_of r asks board current pending links = record { asker = record { rack = r; asks = asks }; board = board; current = current; pending = pending; links = links }

-- what the net makes of a result for the policy at a place
abbrev first_list : Bool → List Address → NetSeen → List Address
first_list b list n = if b then list else n.current

abbrev second_list : Bool → List Address → List Address
second_list b list = if b then [] else list

abbrev taken_by : Bool → List Address → Option ℕ → NetSeen → NetSeen
taken_by b list place n =
    net_with (adopted (lists.view_of (kept (first_list b list n) (second_list b list) n.board) list) place n.asker.rack) (first_list b list n) (second_list b list) n

taken_is : (k : Kind) (addresses : List Address) (n : NetSeen) (b : Bool) (place : ℕ) → is_for_current k n.asker.rack ≡ b → each_once addresses ≡ addresses
    → first_place k n.asker.rack.policies ≡ Some place → net_taken k addresses n ≡ taken_by b addresses (Some place) n
taken_is k addresses n b place current once first =
    ap (λ (x : Bool). taken_by x (each_once addresses) (first_place k n.asker.rack.policies) n) current
    ∙ ap (λ (l : List Address). taken_by b l (first_place k n.asker.rack.policies) n) once
    ∙ ap (λ (x : Option ℕ). taken_by b addresses x n) first

-- the kind of a policy in use decides its place
place_reports : (s : Seen) (k : Kind) (place : ℕ) (g : PolicyUse) (live : Live) (addresses : List Address) (ps : List PolicySeen) → kinds_differ ps ≡ true
    → first_place k ps ≡ Some place → IsUse (Some g) (Some (policy_of g s)) (Some live) addresses ps → is_of_kind k g ≡ (live.place == place)
place_reports s k place g live addresses ps differ first u = place-is k ps place live.place (policy_of g s) differ first u.2

-- and whether a result is for it
for_it : (k : Kind) (g : PolicyUse) (s : Seen) (live : Live) (ps : List PolicySeen) (pl : Option Live) (made : ℕ) → slice_get ps live.place ≡ Some (policy_of g s)
    → is_for_current k (rack_of ps (Some live) pl made) ≡ is_of_kind k g
for_it k g s live ps pl made at =
    ap (λ (o : Option PolicySeen). option_map_or (λ (l : ℕ × Kind). same_kind l.1 k) (option_map (λ (p : PolicySeen). (live.generation, p.kind)) o) true) at

-- what is known of the session and the net before
record Before (o : OpenEntry) (s : Seen) (k : Kind) (addresses : List Address) (ps : List PolicySeen) (cl pl : Option Live) (made asks : ℕ)
    (board : List SubRecord) (current pending : List Address) (links : List OwnLink) (place : ℕ) : Type 0 where
  sees : Sees s (net_of (rack_of ps cl pl made) asks board current pending links)
  is_open : s.shut ≡ false
  ended : NoneIsToEnd s
  wanted : wanted_kind o s ≡ Some k
  result : result_of o ≡ Some addresses
  list : IsAddressList addresses
  first : first_place k ps ≡ Some place
  differ : kinds_differ ps ≡ true
  orderly : Orderly (net_of (rack_of ps cl pl made) asks board current pending links)
  live : GenerationsAreLive cl pl made
  spare : SparesAreEmpty ps cl pl

given_keeps : (view : List SubSeen) → (p : PolicySeen) → (p.kind ≡ (given view p).kind) × (p.width ≡ (given view p).width)
given_keeps view p = (refl, refl)

emptied_keeps : (p : PolicySeen) → (p.kind ≡ (emptied p).kind) × (p.width ≡ (emptied p).width)
emptied_keeps p = (refl, refl)

kinds_given : (view : List SubSeen) (kinds : List PolicyKind) (ps : List PolicySeen) (pl : Option Live) (place : ℕ) → KindsAgree kinds ps
    → KindsAgree kinds (changed (given view) (changed_of emptied pl ps) place)
kinds_given view kinds ps pl place h =
    kinds_changed (given view) (plain (given view) (given_keeps view)) kinds (changed_of emptied pl ps) place
    (kinds_changed_of emptied (plain emptied emptied_keeps) kinds ps pl h)

module _ (o : OpenEntry) (s : Seen) (k : Kind) (addresses : List Address) (ps : List PolicySeen) (made asks : ℕ)
    (board : List SubRecord) (current pending : List Address) (links : List OwnLink) (place : ℕ) where
  abbrev before : Option Live → Option Live → Type 0
  before cl pl = Before o s k addresses ps cl pl made asks board current pending links place

  abbrev the_net : Option Live → Option Live → NetSeen
  the_net cl pl = net_of (rack_of ps cl pl made) asks board current pending links

  -- the kinds of the uses, by the one that is found
  kind_by : (test : PolicyUse → Bool) (g : PolicyUse) (x : Bool) → is_of_kind k g ≡ x → AllUses (λ (h : PolicyUse). test h ≡ true → h ≡ g) s.policies
      → AllUses (λ (h : PolicyUse). test h ≡ true → is_of_kind k h ≡ x) s.policies
  kind_by test g x kind all =
      all_to (λ (h : PolicyUse). test h ≡ true → h ≡ g) (λ (h : PolicyUse). test h ≡ true → is_of_kind k h ≡ x)
      (λ h same passes. ap (is_of_kind k) (same passes) ∙ kind) s.policies all

  current_use : (cl pl : Option Live) (b : before cl pl) (c : PolicyUse) → current_policy s ≡ Some c → IsUse (Some c) (Some (policy_of c s)) cl current ps
  current_use cl pl b c e =
      subst (λ (x : Option PolicyUse). IsUse x (option_map (λ (g : PolicyUse). policy_of g s) x) cl current ps) e b.sees.current_is

  pending_use : (cl pl : Option Live) (b : before cl pl) (p : PolicyUse) → pending_policy s ≡ Some p → IsUse (Some p) (Some (policy_of p s)) pl pending ps
  pending_use cl pl b p e =
      subst (λ (x : Option PolicyUse). IsUse x (option_map (λ (g : PolicyUse). policy_of g s) x) pl pending ps) e b.sees.pending_is

  -- the pending one is of another kind, where its place is another one
  pending_kind : (cl pl : Option Live) (b : before cl pl) (p : Option PolicyUse) → pending_policy s ≡ p → is_at place pl ≡ false
      → AllUses (λ (h : PolicyUse). is_pending h ≡ true → is_of_kind k h ≡ false) s.policies
  pending_kind cl pl b None e away =
      none_passes is_pending (λ (h : PolicyUse). is_of_kind k h ≡ false) s.policies (none_found is_pending s.policies e)
  pending_kind cl None b (Some p) e away = absurd (pending_use cl None b p e)
  pending_kind cl (Some live) b (Some p) e away =
      kind_by is_pending p false (place_reports s k place p live pending ps b.differ b.first (pending_use cl (Some live) b p e) ∙ away)
      (only_is is_pending s.policies p b.sees.uses_are.one_pending e)

  stays_live : (cl pl : Option Live) (b : before cl pl) (list : List Address) → StayLive current list board current
  stays_live cl pl b list =
      stay-live current list board current
      (λ a e. (or-left (has_address current a) (has_address list a) e, b.orderly.listed a ∙ ap (λ (x : Bool). if x then 1 else 0) (or-left (has_address current a) (has_address pending a) e)))

  dropped_still : (cl : Live) (pl : Option Live) → UsesAreApart (Some cl) pl → slice_get (changed_of emptied pl ps) cl.place ≡ slice_get ps cl.place
  dropped_still cl None apart = refl
  dropped_still cl (Some p) apart = get_away emptied ps p.place cl.place apart.0

  -- a result for the current policy
  for_current_net : (live : Live) (pl : Option Live) (b : before (Some live) pl) (c : PolicyUse) → current_policy s ≡ Some c → (live.place == place) ≡ true
      → is_at place pl ≡ false → Becomes o s (net_taken k addresses (the_net (Some live) pl))
  for_current_net live pl b c e here away =
      let n : NetSeen = the_net (Some live) pl in
      let u : IsUse (Some c) (Some (policy_of c s)) (Some live) current ps = current_use (Some live) pl b c e in
      let kind : is_of_kind k c ≡ true = place_reports s k place c live current ps b.differ b.first u ∙ here in
      let view : List SubSeen = lists.view_of (kept addresses [] board) addresses in
      let r : RackSeen = renewed view place n.asker.rack in
      let is_it : is_for_current k n.asker.rack ≡ true = for_it k c s live ps pl made u.2 ∙ kind in
      let net : net_taken k addresses n ≡ net_with r addresses [] n
      = taken_is k addresses n true place is_it (each_once_is addresses b.list.no_repeats) b.first
      ∙ ap (λ (x : Bool). net_with (if x then r else (if is_at place pl then record n.asker.rack { policies = changed (given view) ps place } else begun_rack view place n.asker.rack)) addresses [] n) here in
      let uses : List PolicyUse = map (give_one k addresses s) (map (retire_one o s) s.policies) in
      let sound : c.failed ≡ failed_in c.failed (view_of c.addresses s) = u.3.1 in
      let given_by : UsesNow o s uses (Some (give addresses s c)) None
      = for_current o s k addresses b.is_open b.wanted b.result b.ended b.sees.uses_are c e
      (kind_by is_current c true kind (only_is is_current s.policies c b.sees.uses_are.one_current e))
      (pending_kind (Some live) pl b (pending_policy s) refl away) kind sound in
      let same_place : place ≡ live.place = sym (eqb-true live.place place here) in
      let same_length : length uses ≡ length s.policies
      = length-map (map (retire_one o s) s.policies) (give_one k addresses s) ∙ length-map s.policies (retire_one o s) in
      let at : slice_get (changed_of emptied pl ps) live.place ≡ Some (policy_of c s) = dropped_still live pl b.sees.apart ∙ u.2 in
      let got : slice_get r.policies live.place ≡ Some (given view (policy_of c s))
      = ap (λ (j : ℕ). slice_get (changed (given view) (changed_of emptied pl ps) j) live.place) same_place
      ∙ get_here (given view) (changed_of emptied pl ps) live.place ∙ ap (option_map (given view)) at in
      let becomes : Becomes o s (net_with r addresses [] n)
      = finished o s uses (Some (give addresses s c)) None r addresses [] n b.sees.subs_are b.sees.beyond given_by refl
      b.list.no_repeats tt (b.sees.made ∙ sym same_length) (kinds_given view s.setup.policies ps pl place b.sees.kinds_are)
      (subst (λ (j : ℕ). NoneAskedBeyond j s.asks) (sym same_length) b.sees.unasked) b.sees.counted tt
      (λ subs after. (let same : given view (policy_of c s) ≡ policy_of (give addresses s c) (with_subs subs (with_uses uses s))
      = given_same s uses subs board links (live_links (kept addresses [] board) links) addresses [] addresses c b.sees.subs_are after (first_wanted addresses []) sound in
      (u.0, refl, got ∙ ap (λ (x : PolicySeen). Some x) same, subst IsSound same (given_sound (kept addresses [] board) addresses (policy_of c s) b.list))))
      (λ subs after. refl) in
      subst (λ (m : NetSeen). Becomes o s m) (sym net) becomes

  -- a result for the pending one
  for_pending_net : (cl live : Live) (b : before (Some cl) (Some live)) (c p : PolicyUse) → current_policy s ≡ Some c → pending_policy s ≡ Some p
      → (cl.place == place) ≡ false → (live.place == place) ≡ true → Becomes o s (net_taken k addresses (the_net (Some cl) (Some live)))
  for_pending_net cl live b c p e d away here =
      let n : NetSeen = the_net (Some cl) (Some live) in
      let u : IsUse (Some c) (Some (policy_of c s)) (Some cl) current ps = current_use (Some cl) (Some live) b c e in
      let v : IsUse (Some p) (Some (policy_of p s)) (Some live) pending ps = pending_use (Some cl) (Some live) b p d in
      let other : is_of_kind k c ≡ false = place_reports s k place c cl current ps b.differ b.first u ∙ away in
      let kind : is_of_kind k p ≡ true = place_reports s k place p live pending ps b.differ b.first v ∙ here in
      let view : List SubSeen = lists.view_of (kept current addresses board) addresses in
      let r : RackSeen = record n.asker.rack { policies = changed (given view) ps place } in
      let is_not : is_for_current k n.asker.rack ≡ false = for_it k c s cl ps (Some live) made u.2 ∙ other in
      let net : net_taken k addresses n ≡ net_with r current addresses n
      = taken_is k addresses n false place is_not (each_once_is addresses b.list.no_repeats) b.first
      ∙ ap (λ (x : Bool). net_with (if x then renewed view place n.asker.rack else (if live.place == place then r else begun_rack view place n.asker.rack)) current addresses n) away
      ∙ ap (λ (x : Bool). net_with (if x then r else begun_rack view place n.asker.rack) current addresses n) here in
      let uses : List PolicyUse = map (give_one k addresses s) (map (retire_one o s) s.policies) in
      let sound : p.failed ≡ failed_in p.failed (view_of p.addresses s) = v.3.1 in
      let given_by : UsesNow o s uses (Some c) (Some (give addresses s p))
      = for_pending o s k addresses b.is_open b.wanted b.result b.ended b.sees.uses_are c p e d
      (kind_by is_current c false other (only_is is_current s.policies c b.sees.uses_are.one_current e))
      (kind_by is_pending p true kind (only_is is_pending s.policies p b.sees.uses_are.one_pending d)) other kind sound in
      let same_place : place ≡ live.place = sym (eqb-true live.place place here) in
      let same_length : length uses ≡ length s.policies
      = length-map (map (retire_one o s) s.policies) (give_one k addresses s) ∙ length-map s.policies (retire_one o s) in
      let got : slice_get r.policies live.place ≡ Some (given view (policy_of p s))
      = ap (λ (j : ℕ). slice_get (changed (given view) ps j) live.place) same_place ∙ get_here (given view) ps live.place ∙ ap (option_map (given view)) v.2 in
      let stays : slice_get r.policies cl.place ≡ Some (policy_of c s)
      = get_away (given view) ps place cl.place (λ x. eqb-false cl.place place away x) ∙ u.2 in
      let becomes : Becomes o s (net_with r current addresses n)
      = finished o s uses (Some c) (Some (give addresses s p)) r current addresses n b.sees.subs_are b.sees.beyond given_by
      (ap (λ (l : List Address). l ++ (addresses ++ [])) u.1 ∙ ap (λ (l : List Address). current ++ l) (append-nil addresses))
      b.orderly.current b.list.no_repeats (b.sees.made ∙ sym same_length) (kinds_changed (given view) (plain (given view) (given_keeps view)) s.setup.policies ps place b.sees.kinds_are)
      (subst (λ (j : ℕ). NoneAskedBeyond j s.asks) (sym same_length) b.sees.unasked) b.sees.counted b.sees.apart
      (λ subs after. (let same : policy_of c s ≡ policy_of c (with_subs subs (with_uses uses s))
      = still_same s uses subs board links (live_links (kept current addresses board) links) current addresses current b.sees.subs_are after (stays_live (Some cl) (Some live) b addresses) c u.1 in
      (u.0, u.1, stays ∙ ap (λ (x : PolicySeen). Some x) same, subst IsSound same u.3)))
      (λ subs after. (let same : given view (policy_of p s) ≡ policy_of (give addresses s p) (with_subs subs (with_uses uses s))
      = given_same s uses subs board links (live_links (kept current addresses board) links) current addresses addresses p b.sees.subs_are after (second_wanted current addresses) sound in
      (v.0, refl, got ∙ ap (λ (x : PolicySeen). Some x) same, subst IsSound same (given_sound (kept current addresses board) addresses (policy_of p s) b.list)))) in
      subst (λ (m : NetSeen). Becomes o s m) (sym net) becomes

  -- a result for a new one: its policy is one that none uses
  used_none : (pl : Option Live) → is_at place pl ≡ false → slice_get (changed_of emptied pl ps) place ≡ slice_get ps place
  used_none None away = refl
  used_none (Some p) away = get_away emptied ps p.place place (λ e. eqb-false p.place place away (sym e))

  turns_none : (cl pl : Option Live) (b : before cl pl) (g : PolicyUse) → g.number ≡ length s.policies + 1 → turns_of g s ≡ 0
  turns_none cl pl b g number = b.sees.unasked g.number (omega (arith, number))

  spare_at : (cl pl : Option Live) (b : before cl pl) (g : PolicyUse) → g.number ≡ length s.policies + 1 → g.generation.kind ≡ k → g.addresses ≡ [] → g.failed ≡ []
      → is_at place cl ≡ false → is_at place pl ≡ false → slice_get (changed_of emptied pl ps) place ≡ Some (policy_of g s)
  spare_at cl pl b g number kind addresses_are failed_are one two =
      let q : (q : PolicySeen) × (slice_get ps place ≡ Some q) = there k ps place b.first in
      let same : q.0 ≡ record { kind = k; width = width_of k s.setup.policies; view = []; failed = []; turns = turns_of g s }
      = spare_is k place (turns_of g s) q.0 s.setup.policies ps b.sees.kinds_are b.differ b.first q.1 (b.spare place q.0 q.1 one two) (turns_none cl pl b g number) in
      used_none pl two ∙ q.1 ∙ ap (λ (x : PolicySeen). Some x) same
      ∙ ap (λ (j : Kind). Some (record { kind = j; width = width_of j s.setup.policies; view = []; failed = []; turns = turns_of g s })) (sym kind)
      ∙ ap (λ (l : List ℕ). Some (record { kind = g.generation.kind; width = width_of g.generation.kind s.setup.policies; view = []; failed = l; turns = turns_of g s })) (sym failed_are)
      ∙ ap (λ (l : List Address). Some (record { kind = g.generation.kind; width = width_of g.generation.kind s.setup.policies; view = view_of l s; failed = g.failed; turns = turns_of g s })) (sym addresses_are)

  got_new : (view : List SubSeen) (base : List PolicySeen) (p : PolicySeen) → slice_get base place ≡ Some p → slice_get (changed (given view) base place) place ≡ Some (given view p)
  got_new view base p at = get_here (given view) base place ∙ ap (option_map (given view)) at

  below : (cl : Live) (pl : Option Live) → GenerationsAreLive (Some cl) pl made → cl.generation ≤ made
  below cl None h = h
  below cl (Some later) h = omega (arith, h.1, h.2)

  for_new_net : (cl : Live) (pl : Option Live) (b : before (Some cl) pl) (c : PolicyUse) → current_policy s ≡ Some c → (cl.place == place) ≡ false
      → is_at place pl ≡ false → Becomes o s (net_taken k addresses (the_net (Some cl) pl))
  for_new_net cl pl b c e away gone =
      let n : NetSeen = the_net (Some cl) pl in
      let h : UsesAgree s.policies = b.sees.uses_are in
      let g : PolicyUse = begun o s k addresses b.is_open b.wanted b.result b.ended h in
      let left : List PolicyUse = map (retire_one o s) s.policies in
      let all : List PolicyUse = more o s k addresses b.is_open b.wanted b.result b.ended h in
      let uses : List PolicyUse = map (give_one k addresses s) all in
      let u : IsUse (Some c) (Some (policy_of c s)) (Some cl) current ps = current_use (Some cl) pl b c e in
      let other : is_of_kind k c ≡ false = place_reports s k place c cl current ps b.differ b.first u ∙ away in
      let view : List SubSeen = lists.view_of (kept current addresses board) addresses in
      let r : RackSeen = begun_rack view place n.asker.rack in
      let is_not : is_for_current k n.asker.rack ≡ false = for_it k c s cl ps pl made u.2 ∙ other in
      let net : net_taken k addresses n ≡ net_with r current addresses n
      = taken_is k addresses n false place is_not (each_once_is addresses b.list.no_repeats) b.first
      ∙ ap (λ (x : Bool). net_with (if x then renewed view place n.asker.rack else (if is_at place pl then record n.asker.rack { policies = changed (given view) ps place } else r)) current addresses n) away
      ∙ ap (λ (x : Bool). net_with (if x then record n.asker.rack { policies = changed (given view) ps place } else r) current addresses n) gone in
      let given_by : UsesNow o s uses (Some c) (Some (give addresses s g))
      = for_new_pending o s k addresses b.is_open b.wanted b.result b.ended h c e
      (kind_by is_current c false other (only_is is_current s.policies c h.one_current e))
      (pending_kind (Some cl) pl b (pending_policy s) refl gone) other in
      let left_length : length left ≡ length s.policies = length-map s.policies (retire_one o s) in
      let number : g.number ≡ length s.policies + 1 = ap (λ (j : ℕ). j + 1) left_length in
      let longer : length all ≡ length left + length (g ∷ []) = length-append left (g ∷ []) in
      let same_length : length uses ≡ length all = length-map all (give_one k addresses s) in
      let is_made : made ≡ length s.policies = b.sees.made in
      let made_now : made + 1 ≡ length uses = omega (arith, left_length, longer, same_length, is_made) in
      let at : slice_get (changed_of emptied pl ps) place ≡ Some (policy_of g s) = spare_at (Some cl) pl b g number refl refl refl away gone in
      let got : slice_get r.policies place ≡ Some (given view (policy_of g s)) = got_new view (changed_of emptied pl ps) (policy_of g s) at in
      let stays : slice_get r.policies cl.place ≡ Some (policy_of c s)
      = get_away (given view) (changed_of emptied pl ps) place cl.place (λ x. eqb-false cl.place place away x) ∙ dropped_still cl pl b.sees.apart ∙ u.2 in
      let low : cl.generation ≤ made = below cl pl b.live in
      let becomes : Becomes o s (net_with r current addresses n)
      = finished o s uses (Some c) (Some (give addresses s g)) r current addresses n b.sees.subs_are b.sees.beyond given_by
      (ap (λ (l : List Address). l ++ (addresses ++ [])) u.1 ∙ ap (λ (l : List Address). current ++ l) (append-nil addresses))
      b.orderly.current b.list.no_repeats made_now (kinds_given view s.setup.policies ps pl place b.sees.kinds_are)
      (λ j less. b.sees.unasked j (omega (arith, less, made_now, is_made))) b.sees.counted ((λ x. eqb-false cl.place place away x), (λ x. omega (arith, x, low)))
      (λ subs after. (let same : policy_of c s ≡ policy_of c (with_subs subs (with_uses uses s))
      = still_same s uses subs board links (live_links (kept current addresses board) links) current addresses current b.sees.subs_are after (stays_live (Some cl) pl b addresses) c u.1 in
      (u.0, u.1, stays ∙ ap (λ (x : PolicySeen). Some x) same, subst IsSound same u.3)))
      (λ subs after. (let same : given view (policy_of g s) ≡ policy_of (give addresses s g) (with_subs subs (with_uses uses s))
      = given_same s uses subs board links (live_links (kept current addresses board) links) current addresses addresses g b.sees.subs_are after (second_wanted current addresses) refl in
      (number ∙ ap (λ (j : ℕ). j + 1) (sym is_made), refl, got ∙ ap (λ (x : PolicySeen). Some x) same, subst IsSound same (given_sound (kept current addresses board) addresses (policy_of g s) b.list)))) in
      subst (λ (m : NetSeen). Becomes o s m) (sym net) becomes

  -- the first one of all
  for_first_net : (b : before None None) → current_policy s ≡ None → pending_policy s ≡ None → Becomes o s (net_taken k addresses (the_net None None))
  for_first_net b e d =
      let n : NetSeen = the_net None None in
      let h : UsesAgree s.policies = b.sees.uses_are in
      let g : PolicyUse = begun o s k addresses b.is_open b.wanted b.result b.ended h in
      let left : List PolicyUse = map (retire_one o s) s.policies in
      let all : List PolicyUse = more o s k addresses b.is_open b.wanted b.result b.ended h in
      let uses : List PolicyUse = map (give_one k addresses s) all in
      let view : List SubSeen = lists.view_of (kept addresses [] board) addresses in
      let r : RackSeen = begun_rack view place n.asker.rack in
      let net : net_taken k addresses n ≡ net_with r addresses [] n
      = taken_is k addresses n true place refl (each_once_is addresses b.list.no_repeats) b.first in
      let given_by : UsesNow o s uses (Some (give addresses s g)) None
      = for_new_current o s k addresses b.is_open b.wanted b.result b.ended h e (pending_kind None None b None d refl) in
      let left_length : length left ≡ length s.policies = length-map s.policies (retire_one o s) in
      let number : g.number ≡ length s.policies + 1 = ap (λ (j : ℕ). j + 1) left_length in
      let longer : length all ≡ length left + length (g ∷ []) = length-append left (g ∷ []) in
      let same_length : length uses ≡ length all = length-map all (give_one k addresses s) in
      let is_made : made ≡ length s.policies = b.sees.made in
      let made_now : made + 1 ≡ length uses = omega (arith, left_length, longer, same_length, is_made) in
      let at : slice_get (changed_of emptied None ps) place ≡ Some (policy_of g s) = spare_at None None b g number refl refl refl refl refl in
      let got : slice_get r.policies place ≡ Some (given view (policy_of g s)) = got_new view ps (policy_of g s) at in
      let becomes : Becomes o s (net_with r addresses [] n)
      = finished o s uses (Some (give addresses s g)) None r addresses [] n b.sees.subs_are b.sees.beyond given_by refl
      b.list.no_repeats tt made_now (kinds_given view s.setup.policies ps None place b.sees.kinds_are)
      (λ j less. b.sees.unasked j (omega (arith, less, made_now, is_made))) b.sees.counted tt
      (λ subs after. (let same : given view (policy_of g s) ≡ policy_of (give addresses s g) (with_subs subs (with_uses uses s))
      = given_same s uses subs board links (live_links (kept addresses [] board) links) addresses [] addresses g b.sees.subs_are after (first_wanted addresses []) refl in
      (number ∙ ap (λ (j : ℕ). j + 1) (sym is_made), refl, got ∙ ap (λ (x : PolicySeen). Some x) same, subst IsSound same (given_sound (kept addresses [] board) addresses (policy_of g s) b.list))))
      (λ subs after. refl) in
      subst (λ (m : NetSeen). Becomes o s m) (sym net) becomes

  -- which of them it is
  by_pending : (cl : Live) (pl : Option Live) (b : before (Some cl) pl) (c : PolicyUse) (p : Option PolicyUse) → current_policy s ≡ Some c → pending_policy s ≡ p
      → (cl.place == place) ≡ false → (x : Bool) → is_at place pl ≡ x → Becomes o s (net_taken k addresses (the_net (Some cl) pl))
  by_pending cl pl b c p e d away false at = for_new_net cl pl b c e away at
  by_pending cl None b c p e d away true at = absurd (cc)
  by_pending cl (Some live) b c None e d away true at =
      absurd (subst (λ (x : Option PolicyUse). IsUse x (option_map (λ (g : PolicyUse). policy_of g s) x) (Some live) pending ps) d b.sees.pending_is)
  by_pending cl (Some live) b c (Some p) e d away true at = for_pending_net cl live b c p e d away at

  not_both : (cl : Live) (pl : Option Live) → UsesAreApart (Some cl) pl → (cl.place == place) ≡ true → is_at place pl ≡ false
  not_both cl None apart here = refl
  not_both cl (Some p) apart here = if_false (p.place == place) (λ e. apart.0 (eqb-true cl.place place here ∙ sym (eqb-true p.place place e)))

  by_current : (cl : Live) (pl : Option Live) (b : before (Some cl) pl) (c : PolicyUse) → current_policy s ≡ Some c → (x : Bool) → (cl.place == place) ≡ x
      → Becomes o s (net_taken k addresses (the_net (Some cl) pl))
  by_current cl pl b c e true here = for_current_net cl pl b c e here (not_both cl pl b.sees.apart here)
  by_current cl pl b c e false away = by_pending cl pl b c (pending_policy s) e refl away (is_at place pl) refl

  by_live : (cl pl : Option Live) (b : before cl pl) (c p : Option PolicyUse) → current_policy s ≡ c → pending_policy s ≡ p
      → Becomes o s (net_taken k addresses (the_net cl pl))
  by_live None None b None None e d = for_first_net b e d
  by_live None None b (Some c) p e d = absurd (current_use None None b c e)
  by_live None None b None (Some p) e d = absurd (pending_use None None b p d)
  by_live None (Some live) b c p e d = absurd b.live
  by_live (Some cl) pl b None p e d =
      absurd (subst (λ (x : Option PolicyUse). IsUse x (option_map (λ (g : PolicyUse). policy_of g s) x) (Some cl) current ps) e b.sees.current_is)
  by_live (Some cl) pl b (Some c) p e d = by_current cl pl b c e (cl.place == place) refl

and_prefix : (a b : Bool) → (a && b) ≡ true → a ≡ true
and_prefix true b e = refl
and_prefix false b e = absurd (cc)

some_of : (o : Option ℕ) → is_some o ≡ true → (place : ℕ) × (o ≡ Some place)
some_of None e = absurd (cc)
some_of (Some place) e = (place, refl)

pub takes_result : GenerationsAreKept → TakesResult
takes_result keeps o s n k addresses h is is_open wanted result list has =
    let r : RackSeen = n.asker.rack in
    let follows : Follows (new_net is.policies) n = subst (λ (m : NetSeen). Follows (new_net is.policies) m) (sym is.is) (of-new is.calls is.policies) in
    let place : (place : ℕ) × (first_place k r.policies ≡ Some place) = some_of (first_place k r.policies) (has_place k r.policies has) in
    let kept_rack : IsKept r = subst (λ (m : NetSeen). IsKept m.asker.rack) (sym is.is) (keeps is.calls is.policies) in
    let differ : kinds_differ r.policies ≡ true
    = subst (λ (x : RackSeen). kinds_differ x.policies ≡ true) (sym follows.rack.1) (kinds-stay follows.rack.0 is.policies (and_prefix (kinds_differ is.policies) (has_policy kind.PickFirst is.policies) is.ready)) in
    let b : Before o s k addresses r.policies r.current r.pending r.made n.asker.asks n.board n.current n.pending n.links place.0 = record {
      sees = h;
      is_open = is_open;
      ended = none_ends s is_open;
      wanted = wanted;
      result = result;
      list = list;
      first = place.1;
      differ = differ;
      orderly = follows.orderly;
      live = kept_rack.live;
      spare = kept_rack.spare;
    } in
    let one : Becomes o s (net_taken k addresses n)
    = by_live o s k addresses r.policies r.made n.asker.asks n.board n.current n.pending n.links place.0 r.current r.pending b (current_policy s) (pending_policy s) refl refl in
    subst (λ (m : NetSeen). Becomes o s m) (sym (ap (λ (x : Bool). if x then net_taken k addresses n else n) has)) one
