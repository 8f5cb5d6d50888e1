-- A result of the resolver in the net: its kinds by place, a policy that nobody uses, and what the one of the result's kind gets.
use Rattle.std.proofs.Common.{◌≡◌, ◌≤◌, ◌+◌, ◌∷◌, ◌==◌, ap, arith, refl, sym, ◌∙◌, Bool, true, false, List, [], Option, Some, ℕ, zero, suc, cond, slice_get}
use Rattle.std.proofs.lemmas.Bool.{eq-eqb}
use Rattle.std.specs.List.{position_from}
use Rattle.std.specs.Option.{option_map_or}
use Rattle.std.specs.Prelude.{find}
use Rattle.grpc_base.specs.Addresses.{IsAddressList, has_address}
use Rattle.grpc_base.specs.Kinds.{kind_number}
use Rattle.grpc_base.specs.declared.address.Address.{Address}
use Rattle.grpc_base.specs.declared.kind.Kind.{Kind}
use Rattle.grpc_base.specs.declared.kind.Kind.TheVariants as kind
use Rattle.channel_net.proofs.KindRuns.{place-is}
use Rattle.channel_net.proofs.ListLaws.{view-is}
use Rattle.channel_net.specs.Lists as lists
use Rattle.channel_net.specs.declared.links.OwnLink.{OwnLink}
use Rattle.lb_policy.proofs.FailedLaws.{after-given}
use Rattle.lb_policy.specs.Steps.{failed_in, given}
use Rattle.lb_policy.specs.Table.{IsView, PolicySeen}
use Rattle.lb_policy.specs.declared.seen.SubSeen.{SubSeen}
use Rattle.net_actions.proofs.FailedKept.{AllWanted, failed_kept}
use Rattle.net_actions.proofs.Giving.{give}
use Rattle.net_actions.proofs.KeptBoards.{is_itself, is_wanted, or_left, or_right}
use Rattle.net_actions.proofs.Noting.{with_subs}
use Rattle.net_actions.proofs.Quiet.{with_uses}
use Rattle.net_actions.proofs.ViewNumbers.{failed_above}
use Rattle.net_actions.proofs.Views.{views_same}
use Rattle.net_actions.specs.Sees.{KindsAgree, SubchannelsAgree, IsSound}
use Rattle.policy_rack.specs.Kinds.{first_place, kinds_differ, same_kind}
use Rattle.session_actions.specs.Policies.{is_same_address, is_same_kind, policy_of, view_of, width_of}
use Rattle.session_actions.specs.declared.policy.PolicyUse.{PolicyUse}
use Rattle.session_actions.specs.declared.seen.PolicyKind.{PolicyKind}
use Rattle.session_actions.specs.declared.seen.Seen.{Seen}
use Rattle.session_actions.specs.declared.subchannel.Subchannel.{Subchannel}
use Rattle.subchannel.specs.Boards.{kept}
use Rattle.subchannel.specs.Records.{SubRecord}

-- two kinds of one number are one
pub one_kind : (j k : Kind) → (kind_number j == kind_number k) ≡ true → j ≡ k
one_kind kind.PickFirst kind.PickFirst e = refl
one_kind kind.RoundRobin kind.RoundRobin e = refl
one_kind kind.Priority kind.Priority e = refl
one_kind kind.PickFirst kind.RoundRobin e = absurd (cc)
one_kind kind.PickFirst kind.Priority e = absurd (cc)
one_kind kind.RoundRobin kind.PickFirst e = absurd (cc)
one_kind kind.RoundRobin kind.Priority e = absurd (cc)
one_kind kind.Priority kind.PickFirst e = absurd (cc)
one_kind kind.Priority kind.RoundRobin e = absurd (cc)

-- the width of a kind is that of its policy
ge_by : (x : Bool) (n m : ℕ) (o : Option ℕ) → cond x (Some n) o ≡ Some m → (o ≡ Some m → n + 1 ≤ m) → n ≤ m
ge_by true n m o e next = let same : n ≡ m = (cc) in omega arith
ge_by false n m o e next = let later : n + 1 ≤ m = next e in omega arith

position_ge : (test : PolicySeen → Bool) (n m : ℕ) (policies : List PolicySeen) → position_from test n policies ≡ Some m → n ≤ m
position_ge test n m [] e = absurd (cc)
position_ge test n m (p ∷ policies) e =
    ge_by (test p) n m (position_from test (n + 1) policies) e (λ f. position_ge test (n + 1) m policies f)

abbrev of_kind : Kind → PolicySeen → Bool
of_kind k p = same_kind p.kind k

abbrev wide : Kind → List PolicyKind → Option PolicyKind
wide k kinds = find (λ (q : PolicyKind). is_same_kind q.kind k) kinds

width_step : (k : Kind) (n m place : ℕ) (p : PolicySeen) (q : PolicyKind) (kinds : List PolicyKind) (r : PolicySeen) (policies : List PolicySeen) (x y : Bool) → x ≡ y
    → q.width ≡ r.width → cond y (Some n) (position_from (of_kind k) (n + 1) policies) ≡ Some m → m ≡ n + place → slice_get (r ∷ policies) place ≡ Some p
    → ((i : ℕ) → position_from (of_kind k) (n + 1) policies ≡ Some m → m ≡ n + 1 + i → slice_get policies i ≡ Some p → option_map_or (λ (z : PolicyKind). z.width) (wide k kinds) 1 ≡ p.width)
    → option_map_or (λ (z : PolicyKind). z.width) (cond x (Some q) (wide k kinds)) 1 ≡ p.width
width_step k n m zero p q kinds r policies true true e w first number at next = let one : r ≡ p = (cc) in w ∙ ap (λ (z : PolicySeen). z.width) one
width_step k n m (suc i) p q kinds r policies true true e w first number at next = let same : n ≡ m = (cc) in absurd (omega arith)
width_step k n m zero p q kinds r policies false false e w first number at next =
    let later : n + 1 ≤ m = position_ge (of_kind k) (n + 1) m policies first in absurd (omega arith)
width_step k n m (suc i) p q kinds r policies false false e w first number at next =
    let further : m ≡ n + 1 + i = omega arith in next i first further at
width_step k n m place p q kinds r policies true false e w first number at next = absurd (cc)
width_step k n m place p q kinds r policies false true e w first number at next = absurd (cc)

width_is : (k : Kind) (n m place : ℕ) (p : PolicySeen) (kinds : List PolicyKind) (policies : List PolicySeen) → KindsAgree kinds policies
    → position_from (of_kind k) n policies ≡ Some m → m ≡ n + place → slice_get policies place ≡ Some p
    → option_map_or (λ (z : PolicyKind). z.width) (wide k kinds) 1 ≡ p.width
width_is k n m place p [] [] h first number at = absurd (cc)
width_is k n m place p [] (r ∷ policies) h first number at = absurd h
width_is k n m place p (q ∷ kinds) [] h first number at = absurd h
width_is k n m place p (q ∷ kinds) (r ∷ policies) h first number at =
    width_step k n m place p q kinds r policies (is_same_kind q.kind k) (of_kind k r) (ap (λ (j : Kind). same_kind j k) h.0) h.1 first number at
    (λ i f e g. width_is k (n + 1) m i p kinds policies h.2 f e g)

-- a policy that is as one that begins
abbrev policy_by : Kind → ℕ → List SubSeen → List ℕ → ℕ → PolicySeen
policy_by k width view failed turns = record { kind = k; width = width; view = view; failed = failed; turns = turns }

pub spare_is : (k : Kind) (place turns : ℕ) (q : PolicySeen) (kinds : List PolicyKind) (policies : List PolicySeen) → KindsAgree kinds policies
    → kinds_differ policies ≡ true → first_place k policies ≡ Some place → slice_get policies place ≡ Some q
    → (q.view ≡ []) × (q.failed ≡ []) × (q.turns ≡ 0) → turns ≡ 0
    → q ≡ policy_by k (width_of k kinds) [] [] turns
spare_is k place turns q kinds policies h differ first at spare none =
    let same : same_kind q.kind k ≡ true = place-is k policies place place q differ first at ∙ eq-eqb place place refl in
    let number : place ≡ 0 + place = omega arith in
    ap (λ (j : Kind). policy_by j q.width q.view q.failed q.turns) (one_kind q.kind k same)
    ∙ ap (λ (w : ℕ). policy_by k w q.view q.failed q.turns) (sym (width_is k 0 place place q kinds policies h first number at))
    ∙ ap (λ (v : List SubSeen). policy_by k (width_of k kinds) v q.failed q.turns) spare.0
    ∙ ap (λ (l : List ℕ). policy_by k (width_of k kinds) [] l q.turns) spare.1
    ∙ ap (λ (t : ℕ). policy_by k (width_of k kinds) [] [] t) (spare.2 ∙ sym none)

-- all addresses of one of the two lists are wanted
all_by : (current pending xs : List Address) → ((a : Address) → has_address xs a ≡ true → is_wanted current pending a ≡ true) → AllWanted current pending xs
all_by current pending [] h = tt
all_by current pending (a ∷ xs) h =
    (h a (or_left (is_same_address a a) (has_address xs a) (is_itself a)), all_by current pending xs (λ c e. h c (or_right (is_same_address a c) (has_address xs c) e)))

pub first_wanted : (current pending : List Address) → AllWanted current pending current
first_wanted current pending = all_by current pending current (λ a e. or_left (has_address current a) (has_address pending a) e)

pub second_wanted : (current pending : List Address) → AllWanted current pending pending
second_wanted current pending = all_by current pending pending (λ a e. or_right (has_address current a) (has_address pending a) e)

-- what the policy that gets the addresses is then, in both
module _ (s : Seen) (uses : List PolicyUse) (subs : List Subchannel) (board : List SubRecord) (links others : List OwnLink) (current pending addresses : List Address) (g : PolicyUse)
    (before : SubchannelsAgree 1 s.subs board links) (after : SubchannelsAgree 1 subs (kept current pending board) others) (all : AllWanted current pending addresses)
    (sound : g.failed ≡ failed_in g.failed (view_of g.addresses s)) where
  failed_same : failed_in g.failed (lists.view_of (kept current pending board) addresses) ≡ failed_in g.failed (view_of addresses s)
  failed_same =
      let here : g.failed ≡ failed_in g.failed (lists.view_of board g.addresses)
      = sound ∙ ap (failed_in g.failed) (sym (views_same s board links g.addresses before)) in
      failed_kept g.failed current pending board (failed_above board g.addresses g.failed here) addresses all
      ∙ ap (failed_in g.failed) (views_same s board links addresses before)

  pub given_same : given (lists.view_of (kept current pending board) addresses) (policy_of g s) ≡ policy_of (give addresses s g) (with_subs subs (with_uses uses s))
  given_same =
      ap (λ (l : List ℕ). record (policy_of g s) { view = lists.view_of (kept current pending board) addresses; failed = l }) failed_same
      ∙ ap (λ (v : List SubSeen). record (policy_of g s) { view = v; failed = failed_in g.failed (view_of addresses s) })
      (views_same (with_subs subs (with_uses uses s)) (kept current pending board) others addresses after)

pub given_sound : (board : List SubRecord) (addresses : List Address) (p : PolicySeen) → IsAddressList addresses → IsSound (given (lists.view_of board addresses) p)
given_sound board addresses p h =
    let view : IsView (lists.view_of board addresses) = view-is board addresses (lists.view_of board addresses) h.within h.no_repeats refl in
    (view.no_repeats, after-given p.failed (lists.view_of board addresses) view.no_repeats)
