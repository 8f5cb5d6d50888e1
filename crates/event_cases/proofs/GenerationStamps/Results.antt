-- A result stamps policies in the ledger of a channel as in a session: it is for the current one, for the pending one, or for a new one.
use Rattle.std.proofs.Common.{◌≡◌, ◌∷◌, ◌++◌, ◌+◌, ◌<◌, ◌≤◌, ◌==◌, ◌&&◌, ap, arith, refl, subst, sym, ◌∙◌, Bool, true, false, List, [], None, Option, Some, ℕ, if◌then◌else◌, is_some, length, nat_lt, slice_get}
use Rattle.std.proofs.lemmas.Bool.Decides.{nat_tests}
use Rattle.std.proofs.lemmas.Bool.{eqb-false, eqb-true}
use Rattle.std.proofs.lemmas.List.{length-map}
use Rattle.std.specs.Option.{option_map}
use Rattle.attempt_ledger.specs.declared.ledger.Generation.{Generation}
use Rattle.event_cases.proofs.GenerationStamps.Along.{gens}
use Rattle.event_cases.proofs.GenerationStamps.Kinds.{dropped_none, dropped_one, for_current, for_first, for_next, for_pending, no_pending, one_pending}
use Rattle.event_cases.proofs.GenerationStamps.Over.{live_is}
use Rattle.event_cases.proofs.GenerationStamps.Written.{written_last}
use Rattle.event_cases.specs.GenerationStamps.Laws.{ResultsStampAlike}
use Rattle.event_cases.specs.GenerationStamps.Stamps.{dropped, generations_after}
use Rattle.channel_net.proofs.KindRuns.{kinds-stay, place-is}
use Rattle.channel_net.proofs.KindRuns as kind_runs
use Rattle.channel_net.proofs.RunLaws.{Follows, of-new}
use Rattle.channel_net.specs.Laws.{GenerationsAreKept}
use Rattle.channel_net.specs.Stamps as stamps
use Rattle.channel_net.specs.Stamps.{activated, added, is_numbered}
use Rattle.channel_net.specs.Steps.{NetSeen, adopted_stamps, adopted_view, begun_stamps, kept_shut, listed, net_kept, net_resolved, net_taken, new_net, resolved_stamps, taken_stamps}
use Rattle.grpc_base.specs.Kinds.{has_kind}
use Rattle.grpc_base.specs.declared.address.Address.{Address}
use Rattle.grpc_base.specs.declared.kind.Kind.TheVariants as kind
use Rattle.grpc_base.specs.declared.kind.Kind.{Kind}
use Rattle.ledger_stamps.specs.Steps.{activated_generation, changed_at, new_generation, retired_generation}
use Rattle.lb_policy.specs.Steps.{emptied, given}
use Rattle.lb_policy.specs.Table.{PolicySeen}
use Rattle.lb_policy.specs.declared.seen.SubSeen.{SubSeen}
use Rattle.net_actions.proofs.Noting.{get_here}
use Rattle.net_actions.specs.Runs.{IsOfCalls}
use Rattle.net_actions.specs.Sees.{UsesAreApart, UsesAgree, IsUse, Sees}
use Rattle.policy_rack.proofs.KindLaws.{has_place}
use Rattle.policy_rack.specs.Kinds.{first_place, has_policy, kinds_differ, kinds_of}
use Rattle.policy_rack.specs.Runs.{GenerationsAreLive, IsKept}
use Rattle.policy_rack.specs.Steps.{RackSeen, adopted, adopted_at, adopted_number, begun, changed, changed_of, is_at, live_of, number_at, renewed}
use Rattle.policy_rack.specs.declared.live.Live.{Live}
use Rattle.session_actions.specs.Policies.{current_policy, is_same_kind, pending_policy, policy_of}
use Rattle.session_actions.specs.declared.policy.PolicyUse.{PolicyUse}
use Rattle.session_actions.specs.declared.seen.Seen.{Seen}

-- numbers of generations
not_above : (n m : ℕ) → n ≤ m → nat_lt m n ≡ false
not_above n m less = grind (arith, nat_tests, less)

above : (m : ℕ) → nat_lt m (m + 1) ≡ true
above m = grind (arith, nat_tests)

not_next : (n m : ℕ) → n ≤ m → (n == m + 1) ≡ false
not_next n m less = grind (arith, nat_tests, less)

is_itself : (n : ℕ) → (n == n) ≡ true
is_itself n = grind (arith, nat_tests)

apart_by : (n m : ℕ) (b : Bool) → (n == m) ≡ b → (n ≡ m → ⊥) → b ≡ false
apart_by n m true e away = absurd (away (eqb-true n m e))
apart_by n m false e away = refl

numbered_by : (number : ℕ) (g : ℕ) (o : Option PolicySeen) → (g == number) ≡ false → is_numbered number (option_map (λ (p : PolicySeen). (g, p.kind)) o) ≡ false
numbered_by number g None e = refl
numbered_by number g (Some p) e = e

-- what the stamps are by: the rack before, and the one that is current after it
module _ (s : Seen) (k : Kind) (e : ℕ) (r : RackSeen) (view : List SubSeen) (place : ℕ) (current pending : List Address)
    (u : UsesAgree s.policies)
    (c_is : IsUse (current_policy s) (option_map (λ (g : PolicyUse). policy_of g s) (current_policy s)) r.current current r.policies)
    (p_is : IsUse (pending_policy s) (option_map (λ (g : PolicyUse). policy_of g s) (pending_policy s)) r.pending pending r.policies)
    (apart : UsesAreApart r.current r.pending) (made : r.made ≡ length s.policies)
    (first : first_place k r.policies ≡ Some place) (differ : kinds_differ r.policies ≡ true) (lives : GenerationsAreLive r.current r.pending r.made) where
  abbrev gs : List Generation
  gs = gens s.policies

  abbrev stamps_at : ℕ → List Generation
  stamps_at number = adopted_stamps e k r (adopted_at view place r) number gs

  abbrev stamps_now : List Generation
  stamps_now = stamps_at (number_at place r.current (number_at place r.pending (r.made + 1)))

  abbrev Alike : Type 0
  Alike = generations_after false (Some k) e gs ≡ stamps_now

  current_use : (c : PolicyUse) (live : Live) → current_policy s ≡ Some c → r.current ≡ Some live → IsUse (Some c) (Some (policy_of c s)) (Some live) current r.policies
  current_use c live a b =
      subst (λ (l : Option Live). IsUse (Some c) (Some (policy_of c s)) l current r.policies) b
      (subst (λ (x : Option PolicyUse). IsUse x (option_map (λ (g : PolicyUse). policy_of g s) x) r.current current r.policies) a c_is)

  pending_use : (p : PolicyUse) (live : Live) → pending_policy s ≡ Some p → r.pending ≡ Some live → IsUse (Some p) (Some (policy_of p s)) (Some live) pending r.policies
  pending_use p live a b =
      subst (λ (l : Option Live). IsUse (Some p) (Some (policy_of p s)) l pending r.policies) b
      (subst (λ (x : Option PolicyUse). IsUse x (option_map (λ (g : PolicyUse). policy_of g s) x) r.pending pending r.policies) a p_is)

  kind_of : (g : PolicyUse) (live : Live) (addresses : List Address) → IsUse (Some g) (Some (policy_of g s)) (Some live) addresses r.policies
      → is_same_kind g.generation.kind k ≡ (live.place == place)
  kind_of g live addresses use_is = place-is k r.policies place live.place (policy_of g s) differ first use_is.2

  number_is : (g : PolicyUse) (live : Live) (addresses : List Address) → IsUse (Some g) (Some (policy_of g s)) (Some live) addresses r.policies
      → live_of r.policies (Some live) ≡ Some (live.generation, g.generation.kind)
  number_is g live addresses use_is = ap (option_map (λ (p : PolicySeen). (live.generation, p.kind))) use_is.2

  -- a generation that is dropped, where it is another one than the result goes to
  drop_none : pending_policy s ≡ None → r.pending ≡ None → (number : ℕ) → dropped false (Some k) e gs ≡ stamps.dropped e number (live_of r.policies r.pending) gs
  drop_none none lacks number =
      dropped_none s k e u none ∙ sym (ap (λ (l : Option Live). stamps.dropped e number (live_of r.policies l) gs) lacks)

  drop_other : (p : PolicyUse) (live : Live) → pending_policy s ≡ Some p → r.pending ≡ Some live → (live.place == place) ≡ false
      → (number : ℕ) → (live.generation == number) ≡ false → dropped false (Some k) e gs ≡ stamps.dropped e number (live_of r.policies r.pending) gs
  drop_other p live there is away number other =
      let use_is = pending_use p live there is in
      dropped_one s k e u p there (one_pending s k e u p false there (kind_of p live pending use_is ∙ away))
      ∙ ap (changed_at (retired_generation e) gs) use_is.0
      ∙ sym (ap (λ (b : Bool). if b then gs else stamps.retired e live.generation gs) other)
      ∙ sym (ap (λ (l : Option (ℕ × Kind)). stamps.dropped e number l gs) (number_is p live pending use_is))
      ∙ sym (ap (λ (l : Option Live). stamps.dropped e number (live_of r.policies l) gs) is)

  -- the generation is no new one
  old_stamps : (number : ℕ) → number ≤ r.made → stamps_at number ≡ stamps.dropped e number (live_of r.policies r.pending) gs
  old_stamps number less =
      ap (λ (b : Bool). if b then begun_stamps e k (is_numbered number (live_of (adopted_at view place r).policies (adopted_at view place r).current)) number (stamps.dropped e number (live_of r.policies r.pending) gs)
      else stamps.dropped e number (live_of r.policies r.pending) gs) (not_above number r.made less)

  new_stamps : stamps_at (r.made + 1)
      ≡ begun_stamps e k (is_numbered (r.made + 1) (live_of (adopted_at view place r).policies (adopted_at view place r).current)) (r.made + 1) (stamps.dropped e (r.made + 1) (live_of r.policies r.pending) gs)
  new_stamps =
      ap (λ (b : Bool). if b then begun_stamps e k (is_numbered (r.made + 1) (live_of (adopted_at view place r).policies (adopted_at view place r).current)) (r.made + 1) (stamps.dropped e (r.made + 1) (live_of r.policies r.pending) gs)
      else stamps.dropped e (r.made + 1) (live_of r.policies r.pending) gs) (above r.made)

  -- for the current one
  to_current : (c : PolicyUse) (live : Live) → current_policy s ≡ Some c → r.current ≡ Some live → (live.place == place) ≡ true → live.generation ≤ r.made
      → (p : Option PolicyUse) → pending_policy s ≡ p → (q : Option Live) → r.pending ≡ q → Alike
  to_current c live a b here less p there q is =
      let number : number_at place r.current (number_at place r.pending (r.made + 1)) ≡ live.generation
      = ap (λ (l : Option Live). number_at place l (number_at place r.pending (r.made + 1))) b
      ∙ ap (λ (x : Bool). if x then live.generation else number_at place r.pending (r.made + 1)) here in
      let kind : is_same_kind c.generation.kind k ≡ true = kind_of c live current (current_use c live a b) ∙ here in
      by p there q is kind ∙ sym (ap stamps_at number ∙ old_stamps live.generation less)
    where
      by : (p : Option PolicyUse) → pending_policy s ≡ p → (q : Option Live) → r.pending ≡ q → is_same_kind c.generation.kind k ≡ true
          → generations_after false (Some k) e gs ≡ stamps.dropped e live.generation (live_of r.policies r.pending) gs
      by None there None is kind = for_current s k e u c a kind (no_pending s k e u there) ∙ drop_none there is live.generation
      by (Some p) there (Some q) is kind =
          let far : UsesAreApart (Some live) (Some q) = subst (λ (l : Option Live). UsesAreApart (Some live) l) is (subst (λ (l : Option Live). UsesAreApart l r.pending) b apart) in
          let away : (q.place == place) ≡ false
          = apart_by q.place place (q.place == place) refl (λ f. far.0 (eqb-true live.place place here ∙ sym f)) in
          let use_is = pending_use p q there is in
          for_current s k e u c a kind (one_pending s k e u p false there (kind_of p q pending use_is ∙ away))
          ∙ drop_other p q there is away live.generation (apart_by q.generation live.generation (q.generation == live.generation) refl (λ f. far.1 (sym f)))
      by None there (Some q) is kind =
          absurd (subst (λ (l : Option Live). IsUse None None l pending r.policies) is
          (subst (λ (x : Option PolicyUse). IsUse x (option_map (λ (g : PolicyUse). policy_of g s) x) r.pending pending r.policies) there p_is))
      by (Some p) there None is kind =
          absurd (subst (λ (l : Option Live). IsUse (Some p) (Some (policy_of p s)) l pending r.policies) is
          (subst (λ (x : Option PolicyUse). IsUse x (option_map (λ (g : PolicyUse). policy_of g s) x) r.pending pending r.policies) there p_is))

  -- for the pending one
  to_pending : (c p : PolicyUse) (live q : Live) → current_policy s ≡ Some c → r.current ≡ Some live → pending_policy s ≡ Some p → r.pending ≡ Some q
      → (live.place == place) ≡ false → (q.place == place) ≡ true → q.generation ≤ r.made → Alike
  to_pending c p live q a b there is away here less =
      let number : number_at place r.current (number_at place r.pending (r.made + 1)) ≡ q.generation
      = ap (λ (l : Option Live). number_at place l (number_at place r.pending (r.made + 1))) b
      ∙ ap (λ (x : Bool). if x then live.generation else number_at place r.pending (r.made + 1)) away
      ∙ ap (λ (l : Option Live). number_at place l (r.made + 1)) is
      ∙ ap (λ (x : Bool). if x then q.generation else r.made + 1) here in
      let use_is = pending_use p q there is in
      let stays : stamps.dropped e q.generation (live_of r.policies r.pending) gs ≡ gs
      = ap (λ (l : Option Live). stamps.dropped e q.generation (live_of r.policies l) gs) is
      ∙ ap (λ (l : Option (ℕ × Kind)). stamps.dropped e q.generation l gs) (number_is p q pending use_is)
      ∙ ap (λ (x : Bool). if x then gs else stamps.retired e q.generation gs) (is_itself q.generation) in
      for_pending s k e u c p a there (kind_of c live current (current_use c live a b) ∙ away) (kind_of p q pending use_is ∙ here)
      ∙ sym (ap stamps_at number ∙ old_stamps q.generation less ∙ stays)

  -- for a new one beside the current one
  to_next : (c : PolicyUse) (live : Live) → current_policy s ≡ Some c → r.current ≡ Some live → (live.place == place) ≡ false → live.generation ≤ r.made
      → is_at place r.pending ≡ false → number_at place r.pending (r.made + 1) ≡ r.made + 1 → (p : Option PolicyUse) → pending_policy s ≡ p → (q : Option Live) → r.pending ≡ q
      → ((l : Live) → q ≡ Some l → l.generation ≤ r.made) → Alike
  to_next c live a b away less lacks fresh p there q is lower =
      let number : number_at place r.current (number_at place r.pending (r.made + 1)) ≡ r.made + 1
      = ap (λ (l : Option Live). number_at place l (number_at place r.pending (r.made + 1))) b
      ∙ ap (λ (x : Bool). if x then live.generation else number_at place r.pending (r.made + 1)) away ∙ fresh in
      let kind : is_same_kind c.generation.kind k ≡ false = kind_of c live current (current_use c live a b) ∙ away in
      let current_now : (adopted_at view place r).current ≡ Some live
      = ap (λ (x : Bool). (if x then renewed view place r else (if is_at place r.pending then record r { policies = changed (given view) r.policies place } else begun view place r)).current) (ap (is_at place) b ∙ away)
      ∙ ap (λ (x : Bool). (if x then record r { policies = changed (given view) r.policies place } else begun view place r).current) lacks
      ∙ ap (λ (l : Option Live). if is_some l then l else Some (record { generation = r.made + 1; place = place })) b in
      let other : is_numbered (r.made + 1) (live_of (adopted_at view place r).policies (adopted_at view place r).current) ≡ false
      = ap (λ (l : Option Live). is_numbered (r.made + 1) (live_of (adopted_at view place r).policies l)) current_now
      ∙ numbered_by (r.made + 1) live.generation (slice_get (adopted_at view place r).policies live.place) (not_next live.generation r.made less) in
      by p there q is kind lower
      ∙ sym (ap stamps_at number ∙ new_stamps
      ∙ ap (λ (x : Bool). begun_stamps e k x (r.made + 1) (stamps.dropped e (r.made + 1) (live_of r.policies r.pending) gs)) other)
    where
      by : (p : Option PolicyUse) → pending_policy s ≡ p → (q : Option Live) → r.pending ≡ q → is_same_kind c.generation.kind k ≡ false
          → ((l : Live) → q ≡ Some l → l.generation ≤ r.made)
          → generations_after false (Some k) e gs ≡ added k (stamps.dropped e (r.made + 1) (live_of r.policies r.pending) gs)
      by None there None is kind lower =
          for_next s k e u c a kind (no_pending s k e u there) ∙ ap (added k) (drop_none there is (r.made + 1))
      by (Some p) there (Some q) is kind lower =
          let far : (q.place == place) ≡ false = sym (ap (is_at place) is) ∙ lacks in
          let use_is = pending_use p q there is in
          for_next s k e u c a kind (one_pending s k e u p false there (kind_of p q pending use_is ∙ far))
          ∙ ap (added k) (drop_other p q there is far (r.made + 1) (not_next q.generation r.made (lower q refl)))
      by None there (Some q) is kind lower =
          absurd (subst (λ (l : Option Live). IsUse None None l pending r.policies) is
          (subst (λ (x : Option PolicyUse). IsUse x (option_map (λ (g : PolicyUse). policy_of g s) x) r.pending pending r.policies) there p_is))
      by (Some p) there None is kind lower =
          absurd (subst (λ (l : Option Live). IsUse (Some p) (Some (policy_of p s)) l pending r.policies) is
          (subst (λ (x : Option PolicyUse). IsUse x (option_map (λ (g : PolicyUse). policy_of g s) x) r.pending pending r.policies) there p_is))

  -- for the first one
  to_first : current_policy s ≡ None → r.current ≡ None → pending_policy s ≡ None → r.pending ≡ None → Alike
  to_first a b there is =
      let number : number_at place r.current (number_at place r.pending (r.made + 1)) ≡ r.made + 1
      = ap (λ (l : Option Live). number_at place l (number_at place r.pending (r.made + 1))) b ∙ ap (λ (l : Option Live). number_at place l (r.made + 1)) is in
      let next : Live = record { generation = r.made + 1; place = place } in
      let begins : adopted_at view place r ≡ begun view place r
      = ap (λ (x : Bool). if x then renewed view place r else (if is_at place r.pending then record r { policies = changed (given view) r.policies place } else begun view place r)) (ap (is_at place) b)
      ∙ ap (λ (x : Bool). if x then record r { policies = changed (given view) r.policies place } else begun view place r) (ap (is_at place) is) in
      let it : (q : PolicySeen) × (slice_get r.policies place ≡ Some q) = there_is in
      let got : slice_get (begun view place r).policies place ≡ Some (given view it.0)
      = get_here (given view) (changed_of emptied r.pending r.policies) place
      ∙ ap (λ (l : Option Live). option_map (given view) (slice_get (changed_of emptied l r.policies) place)) is ∙ ap (option_map (given view)) it.1 in
      let numbers : live_of (adopted_at view place r).policies (adopted_at view place r).current ≡ Some (r.made + 1, (given view it.0).kind)
      = ap (λ (x : RackSeen). live_of x.policies x.current) begins
      ∙ ap (λ (l : Option Live). live_of (begun view place r).policies (if is_some l then l else Some next)) b
      ∙ ap (option_map (λ (p : PolicySeen). (r.made + 1, p.kind))) got in
      let own : is_numbered (r.made + 1) (live_of (adopted_at view place r).policies (adopted_at view place r).current) ≡ true
      = ap (is_numbered (r.made + 1)) numbers ∙ is_itself (r.made + 1) in
      let long : r.made ≡ length gs = made ∙ sym (length-map s.policies (λ (g : PolicyUse). g.generation)) in
      for_first s k e u a there
      ∙ sym (written_last (activated_generation e) gs (new_generation k) r.made long)
      ∙ sym (ap stamps_at number ∙ new_stamps
      ∙ ap (λ (x : Bool). begun_stamps e k x (r.made + 1) (stamps.dropped e (r.made + 1) (live_of r.policies r.pending) gs)) own
      ∙ ap (λ (l : Option Live). activated e (r.made + 1) (added k (stamps.dropped e (r.made + 1) (live_of r.policies l) gs))) is)
    where
      there_is : (q : PolicySeen) × (slice_get r.policies place ≡ Some q)
      there_is = kind_runs.there k r.policies place first

  -- which of them it is
  lives_by : (live : Live) (q : Option Live) → GenerationsAreLive (Some live) q r.made → live.generation ≤ r.made
  lives_by live None l = l
  lives_by live (Some q) l = let a : live.generation < q.generation = l.1 in let b : q.generation ≤ r.made = l.2 in omega (arith, a, b)

  later_by : (live : Live) (q : Option Live) → GenerationsAreLive (Some live) q r.made → (l : Live) → q ≡ Some l → l.generation ≤ r.made
  later_by live None a l e = absurd (cc)
  later_by live (Some q) a l e = let one : q ≡ l = (cc) in subst (λ (x : Live). x.generation ≤ r.made) one a.2

  fresh_by : (q : Option Live) → is_at place q ≡ false → number_at place q (r.made + 1) ≡ r.made + 1
  fresh_by None lacks = refl
  fresh_by (Some q) lacks = ap (λ (b : Bool). if b then q.generation else r.made + 1) lacks

  by_pending : (c : PolicyUse) (live : Live) → current_policy s ≡ Some c → r.current ≡ Some live → (live.place == place) ≡ false → GenerationsAreLive (Some live) r.pending r.made
      → (p : Option PolicyUse) → pending_policy s ≡ p → (q : Option Live) → r.pending ≡ q → (x : Bool) → is_at place q ≡ x → Alike
  by_pending c live a b away all p there q is false at =
      let all_q : GenerationsAreLive (Some live) q r.made = subst (λ (l : Option Live). GenerationsAreLive (Some live) l r.made) is all in
      to_next c live a b away (lives_by live q all_q) (ap (is_at place) is ∙ at) (ap (λ (l : Option Live). number_at place l (r.made + 1)) is ∙ fresh_by q at) p there q is (later_by live q all_q)
  by_pending c live a b away all (Some p) there (Some q) is true at =
      let all_q : GenerationsAreLive (Some live) (Some q) r.made = subst (λ (l : Option Live). GenerationsAreLive (Some live) l r.made) is all in
      to_pending c p live q a b there is away at all_q.2
  by_pending c live a b away all p there None is true at = absurd (cc)
  by_pending c live a b away all None there (Some q) is true at =
      absurd (subst (λ (l : Option Live). IsUse None None l pending r.policies) is
      (subst (λ (x : Option PolicyUse). IsUse x (option_map (λ (g : PolicyUse). policy_of g s) x) r.pending pending r.policies) there p_is))

  by_current : (c : PolicyUse) (live : Live) → current_policy s ≡ Some c → r.current ≡ Some live → GenerationsAreLive (Some live) r.pending r.made → (x : Bool) → (live.place == place) ≡ x → Alike
  by_current c live a b all true here = to_current c live a b here (lives_by live r.pending all) (pending_policy s) refl r.pending refl
  by_current c live a b all false away = by_pending c live a b away all (pending_policy s) refl r.pending refl (is_at place r.pending) refl

  by_live : (c : Option PolicyUse) → current_policy s ≡ c → (live : Option Live) → r.current ≡ live → (p : Option PolicyUse) → pending_policy s ≡ p
      → (q : Option Live) → r.pending ≡ q → GenerationsAreLive live q r.made → Alike
  by_live None a None b None there None is all = to_first a b there is
  by_live None a None b (Some p) there None is all =
      absurd (subst (λ (l : Option Live). IsUse (Some p) (Some (policy_of p s)) l pending r.policies) is
      (subst (λ (x : Option PolicyUse). IsUse x (option_map (λ (g : PolicyUse). policy_of g s) x) r.pending pending r.policies) there p_is))
  by_live None a None b p there (Some q) is all = absurd all
  by_live None a (Some live) b p there q is all =
      absurd (subst (λ (l : Option Live). IsUse None None l current r.policies) b
      (subst (λ (x : Option PolicyUse). IsUse x (option_map (λ (g : PolicyUse). policy_of g s) x) r.current current r.policies) a c_is))
  by_live (Some c) a None b p there q is all =
      absurd (subst (λ (l : Option Live). IsUse (Some c) (Some (policy_of c s)) l current r.policies) b
      (subst (λ (x : Option PolicyUse). IsUse x (option_map (λ (g : PolicyUse). policy_of g s) x) r.current current r.policies) a c_is))
  by_live (Some c) a (Some live) b p there q is all =
      by_current c live a b (subst (λ (l : Option Live). GenerationsAreLive (Some live) l r.made) (sym is) all) (live.place == place) refl

  pub alike : Alike
  alike = by_live (current_policy s) refl r.current refl (pending_policy s) refl r.pending refl lives

and_prefix : (a b : Bool) → (a && b) ≡ true → a ≡ true
and_prefix true b e = refl
and_prefix false b e = absurd (cc)

some_of : (o : Option ℕ) → is_some o ≡ true → (place : ℕ) × (o ≡ Some place)
some_of None e = absurd (cc)
some_of (Some place) e = (place, refl)

pub results_stamp_alike : GenerationsAreKept → ResultsStampAlike
results_stamp_alike keeps s n k addresses e h is has =
    let r : RackSeen = n.asker.rack in
    let gs : List Generation = gens s.policies in
    let follows : Follows (new_net is.policies) n = subst (λ (m : NetSeen). Follows (new_net is.policies) m) (sym is.is) (of-new is.calls is.policies) in
    let place : (place : ℕ) × (first_place k r.policies ≡ Some place) = some_of (first_place k r.policies) (has_place k r.policies has) in
    let kept_rack : IsKept r = subst (λ (m : NetSeen). IsKept m.asker.rack) (sym is.is) (keeps is.calls is.policies) in
    let differ : kinds_differ r.policies ≡ true
    = subst (λ (x : RackSeen). kinds_differ x.policies ≡ true) (sym follows.rack.1) (kinds-stay follows.rack.0 is.policies (and_prefix (kinds_differ is.policies) (has_policy kind.PickFirst is.policies) is.ready)) in
    let view : List SubSeen = adopted_view k addresses (net_kept (listed k addresses n)) in
    let one : generations_after false (Some k) e gs ≡ adopted_stamps e k r (adopted_at view place.0 r) (number_at place.0 r.current (number_at place.0 r.pending (r.made + 1))) gs
    = alike s k e r view place.0 n.current n.pending h.uses_are h.current_is h.pending_is h.apart h.made place.1 differ kept_rack.live in
    one
    ∙ sym (ap (λ (q : Option ℕ). adopted_stamps e k r (adopted view q r) (adopted_number q r) gs) place.1)
    ∙ sym (ap (λ (b : Bool). if b then taken_stamps e k n (if b then net_taken k addresses n else n) gs else gs) has)
