-- What the lines of policies leave of the stamps of policies: each of their actions leaves what there is to be at last.
use Rattle.std.proofs.Common.{◌≡◌, ◌⊎◌, ◌+◌, ◌∷◌, ◌++◌, ◌||◌, ◌&&◌, ◌==◌, inl, inr, not, ap, arith, refl, subst, sym, ◌∙◌, Bool, true, false, cond, List, [], Option, None, Some, ℕ, suc, zero, find, if◌then◌else◌, is_none, is_some, length, map, option_to_list, slice_get}
use Rattle.std.proofs.lemmas.Bool.{eq-eqb, or_parts}
use Rattle.std.proofs.lemmas.List.Folds.{find-append, list_any-append}
use Rattle.std.proofs.lemmas.Simd.{map-map}
use Rattle.std.specs.List.{list_any}
use Rattle.std.specs.Option.{option_map, option_map_or, option_or}
use Rattle.std.specs.Prelude.{option_and_then, slice_set}
use Rattle.attempt_ledger.specs.declared.ledger.Generation.{Generation}
use Rattle.channel_actions.proofs.BoardActions.Boards.{subbed}
use Rattle.channel_actions.proofs.Stamps.{map_same}
use Rattle.event_cases.specs.GenerationStamps.Laws.{GenerationsAlong}
use Rattle.event_cases.specs.GenerationStamps.Stamps.{begun, dropped, dropped_in, generations_after, has_kind, is_current_stamp, is_dropped, is_pending_stamp, live_stamps, with_begun}
use Rattle.grpc_base.specs.Kinds.{kind_number}
use Rattle.grpc_base.specs.declared.address.Address.{Address}
use Rattle.grpc_base.specs.declared.event.Conn.TheVariants as conn
use Rattle.grpc_base.specs.declared.event.EndCause.TheVariants as ending
use Rattle.grpc_base.specs.declared.event.Event.{Event}
use Rattle.grpc_base.specs.declared.kind.Kind.{Kind}
use Rattle.net_actions.proofs.Noting.{found_passes, numbers_stay, still_number}
use Rattle.net_actions.proofs.Running.{find_none}
use Rattle.net_actions.proofs.Uses.{UseAt, none_found, use_at}
use Rattle.net_actions.specs.Runs.{DoesAll}
use Rattle.net_actions.specs.Sees.{PoliciesAreNumbered}
use Rattle.session_actions.specs.Actions.{after_in, first_action, of_policies}
use Rattle.session_actions.specs.CallEnds.{call_ended, ending_call, is_shut_down, next_ended}
use Rattle.session_actions.specs.Entries.{entry}
use Rattle.session_actions.specs.Policies.{addresses_given, addresses_in, begin_if, begun_policy, current_policy, given_addresses, is_current, is_live_policy, is_pending, is_same_kind, is_to_retire, listed, live_policies, live_sub, next_begun, next_given, next_retired, pending_policy, policy_begun, policy_retired, result_of, retired_in, wanted_kind, wants_addresses, with_policy}
use Rattle.session_actions.specs.Subchannels.{is_unlisted, next_added, next_shut, noted_by_policies, noted_state, with_sub, without_link}
use Rattle.session_actions.specs.Words.{changed, changed_if, holds, numbered}
use Rattle.session_actions.specs.declared.action.Action.TheVariants as action
use Rattle.session_actions.specs.declared.action.Action.{Action}
use Rattle.session_actions.specs.declared.call.Call.{Call}
use Rattle.session_actions.specs.declared.entry.OpenEntry.{OpenEntry}
use Rattle.session_actions.specs.declared.policy.PolicyUse.{PolicyUse}
use Rattle.session_actions.specs.declared.seen.Seen.{Seen}
use Rattle.session_actions.specs.declared.subchannel.Subchannel.{Subchannel}

abbrev pub gens : List PolicyUse → List Generation
gens uses = map (λ (g : PolicyUse). g.generation) uses

-- lists
pub map_set : {X Y : Type 0} (f : X → Y) (xs : List X) (i : ℕ) (x y : X) → slice_get xs i ≡ Some x → f y ≡ f x → map f (slice_set xs i y) ≡ map f xs
map_set f [] i x y e same = refl
map_set f (z ∷ xs) zero x y e same = let one : z ≡ x = (cc) in ap (λ (w : _). w ∷ map f xs) (same ∙ ap f (sym one))
map_set f (z ∷ xs) (suc i) x y e same = ap (λ (l : List _). f z ∷ l) (map_set f xs i x y e same)

map_append : {X Y : Type 0} (f : X → Y) (xs ys : List X) → map f (xs ++ ys) ≡ map f xs ++ map f ys
map_append f [] ys = refl
map_append f (x ∷ xs) ys = ap (λ (l : List _). f x ∷ l) (map_append f xs ys)

found_by : {X Y : Type 0} (f : X → Y) (x : X) (b : Bool) (o : Option Y) (p : Option X) → o ≡ option_map f p → cond b (Some (f x)) o ≡ option_map f (cond b (Some x) p)
found_by f x true o p e = refl
found_by f x false o p e = e

-- who is found is the same by the stamps
pub found_gens : (test : Generation → Bool) (uses : List PolicyUse) → find test (gens uses) ≡ option_map (λ (g : PolicyUse). g.generation) (find (λ (g : PolicyUse). test g.generation) uses)
found_gens test [] = refl
found_gens test (g ∷ uses) =
    found_by (λ (h : PolicyUse). h.generation) g (test g.generation) (find test (gens uses)) (find (λ (h : PolicyUse). test h.generation) uses) (found_gens test uses)

any_to_list : (k : Kind) (o : Option PolicyUse)
    → list_any (λ (g : Generation). is_same_kind g.kind k) (option_to_list (option_map (λ (g : PolicyUse). g.generation) o))
    ≡ list_any (λ (g : PolicyUse). is_same_kind g.generation.kind k) (option_to_list o)
any_to_list k None = refl
any_to_list k (Some g) = refl

none_of_map : {X Y : Type 0} (f : X → Y) (o : Option X) → is_none (option_map f o) ≡ is_none o
none_of_map f None = refl
none_of_map f (Some x) = refl

pub kind_gens : (k : Kind) (s : Seen) → has_kind k (gens s.policies) ≡ list_any (λ (g : PolicyUse). is_same_kind g.generation.kind k) (live_policies s)
kind_gens k s =
    list_any-append (λ (g : Generation). is_same_kind g.kind k) (option_to_list (find is_current_stamp (gens s.policies))) (option_to_list (find is_pending_stamp (gens s.policies)))
    ∙ ap (λ (o : Option Generation). list_any (λ (g : Generation). is_same_kind g.kind k) (option_to_list o) || list_any (λ (g : Generation). is_same_kind g.kind k) (option_to_list (find is_pending_stamp (gens s.policies)))) (found_gens is_current_stamp s.policies)
    ∙ ap (λ (b : Bool). b || list_any (λ (g : Generation). is_same_kind g.kind k) (option_to_list (find is_pending_stamp (gens s.policies)))) (any_to_list k (current_policy s))
    ∙ ap (λ (o : Option Generation). list_any (λ (g : PolicyUse). is_same_kind g.generation.kind k) (option_to_list (current_policy s)) || list_any (λ (g : Generation). is_same_kind g.kind k) (option_to_list o)) (found_gens is_pending_stamp s.policies)
    ∙ ap (λ (b : Bool). list_any (λ (g : PolicyUse). is_same_kind g.generation.kind k) (option_to_list (current_policy s)) || b) (any_to_list k (pending_policy s))
    ∙ sym (list_any-append (λ (g : PolicyUse). is_same_kind g.generation.kind k) (option_to_list (current_policy s)) (option_to_list (pending_policy s)))

pub begun_gens : (e : ℕ) (k : Kind) (s : Seen) → begun e k (gens s.policies) ≡ record { kind = k; activated = if is_none (current_policy s) then Some e else None; retired = None }
begun_gens e k s =
    ap (λ (b : Bool). record { kind = k; activated = if b then Some e else None; retired = None })
    (ap (λ (o : Option Generation). is_none o) (found_gens is_current_stamp s.policies) ∙ none_of_map (λ (g : PolicyUse). g.generation) (current_policy s))

-- those of which none is dropped stay
none_dropped_by : (shut : Bool) (wanted : Option Kind) (e : ℕ) (g : Generation) (b : Bool) → is_dropped shut wanted g ≡ b → b ≡ false → dropped_in shut wanted e g ≡ g
none_dropped_by shut wanted e g b is off = ap (λ (x : Bool). if x then record g { retired = Some e } else g) (is ∙ off)

pub none_dropped : (shut : Bool) (wanted : Option Kind) (e : ℕ) (gs : List Generation) → list_any (is_dropped shut wanted) gs ≡ false → dropped shut wanted e gs ≡ gs
none_dropped shut wanted e [] none = refl
none_dropped shut wanted e (g ∷ gs) none =
    let parts : (is_dropped shut wanted g ≡ false) × (list_any (is_dropped shut wanted) gs ≡ false) = or_parts (is_dropped shut wanted g) (list_any (is_dropped shut wanted) gs) none in
    ap (λ (x : Generation). x ∷ dropped shut wanted e gs) (none_dropped_by shut wanted e g false parts.0 refl)
    ∙ ap (λ (l : List Generation). g ∷ l) (none_dropped shut wanted e gs parts.1)

pub any_gens : (test : Generation → Bool) (uses : List PolicyUse) → list_any test (gens uses) ≡ list_any (λ (g : PolicyUse). test g.generation) uses
any_gens test [] = refl
any_gens test (g ∷ uses) = ap (λ (b : Bool). test g.generation || b) (any_gens test uses)

-- a list of lines
split : (p q : Option Action) (a : Action) → option_or p q ≡ Some a → (p ≡ Some a) ⊎ ((p ≡ None) × (q ≡ Some a))
split None q a e = inr (refl, e)
split (Some b) q a e = inl e

both_none : (p q : Option Action) → option_or p q ≡ None → (p ≡ None) × (q ≡ None)
both_none None q e = (refl, e)
both_none (Some b) q e = absurd (cc)

from_map : {X : Type 0} (f : X → Action) (o : Option X) (a : Action) → option_map f o ≡ Some a → (x : X) × ((o ≡ Some x) × (f x ≡ a))
from_map f None a e = absurd (cc)
from_map f (Some x) a e = (x, (refl, (cc)))

none_from : {X : Type 0} (f : X → Action) (o : Option X) → option_map f o ≡ None → o ≡ None
none_from f None e = refl
none_from f (Some x) e = absurd (cc)

numbers_set : (f : PolicyUse → PolicyUse) → ((g : PolicyUse) → (f g).number ≡ g.number) → (n i : ℕ) (uses : List PolicyUse) (g : PolicyUse) → slice_get uses i ≡ Some g
    → PoliciesAreNumbered n uses → PoliciesAreNumbered n (slice_set uses i (f g))
numbers_set f same n i [] g e h = tt
numbers_set f same n zero (x ∷ uses) g e h = let one : x ≡ g = (cc) in (same g ∙ ap (λ (y : PolicyUse). y.number) (sym one) ∙ h.0, h.1)
numbers_set f same n (suc i) (x ∷ uses) g e h = (h.0, numbers_set f same (n + 1) i uses g e h.1)

numbers_if : (f : PolicyUse → PolicyUse) → ((g : PolicyUse) → (f g).number ≡ g.number) → (k : ℕ) (uses : List PolicyUse) (o : Option PolicyUse) → numbered uses k ≡ o
    → PoliciesAreNumbered 1 uses → PoliciesAreNumbered 1 (changed_if f k uses o)
numbers_if f same k uses None e h = h
numbers_if f same zero uses (Some g) e h = absurd (cc)
numbers_if f same (suc i) uses (Some g) e h = numbers_set f same 1 i uses g e h

numbers_after : (n : ℕ) (uses : List PolicyUse) (b : PolicyUse) → PoliciesAreNumbered n uses → b.number ≡ n + length uses → PoliciesAreNumbered n (uses ++ b ∷ [])
numbers_after n [] b h e = (let number : b.number ≡ n = omega arith in number, tt)
numbers_after n (g ∷ uses) b h e =
    let further : b.number ≡ n + 1 + length uses = omega arith in
    (h.0, numbers_after (n + 1) uses b h.1 further)

gens_if : (f : PolicyUse → PolicyUse) → ((g : PolicyUse) → (f g).generation ≡ g.generation) → (k : ℕ) (uses : List PolicyUse) (o : Option PolicyUse) → numbered uses k ≡ o
    → gens (changed_if f k uses o) ≡ gens uses
gens_if f same k uses None e = refl
gens_if f same zero uses (Some g) e = absurd (cc)
gens_if f same (suc i) uses (Some g) e = map_set (λ (h : PolicyUse). h.generation) uses i g (f g) e (same g)

if_none_some : {X : Type 0} (b : Bool) (o : Option X) (x : X) → (if b then o else None) ≡ Some x → b ≡ true
if_none_some true o x e = refl
if_none_some false o x e = absurd (cc)

some_is : {X : Type 0} (o : Option X) → is_some o ≡ true → o ≡ None → ⊥
some_is None e f = (cc)
some_is (Some x) e f = (cc)

off_by : (b : Bool) → (b ≡ true → ⊥) → b ≡ false
off_by true never = absurd (never refl)
off_by false never = refl

kept_kind : (k : Kind) → is_same_kind k k ≡ true
kept_kind k = eq-eqb (kind_number k) (kind_number k) refl

-- of one kind: a pending one that is not dropped
not_other : (l p q : Bool) → (l && (false || ((l && p) && not q))) ≡ false → (l && p) ≡ true → q ≡ true
not_other true true true e f = refl
not_other true true false e f = absurd (cc)
not_other true false q e f = absurd (cc)
not_other false p q e f = absurd (cc)

or_after : (a b : Bool) → b ≡ true → (a || b) ≡ true
or_after true b e = refl
or_after false b e = e

passes_by : (test : Generation → Bool) (x : Generation) (gs : List Generation) (g : Generation) (b : Bool) → cond b (Some x) (find is_pending_stamp gs) ≡ Some g → test x ≡ false
    → (find is_pending_stamp gs ≡ Some g → test g ≡ false) → test g ≡ false
passes_by test x gs g true f here rest = let one : x ≡ g = (cc) in ap test (sym one) ∙ here
passes_by test x gs g false f here rest = rest f

passes_in : (test : Generation → Bool) (gs : List Generation) (g : Generation) → list_any test gs ≡ false → find is_pending_stamp gs ≡ Some g → test g ≡ false
passes_in test [] g none e = absurd (cc)
passes_in test (x ∷ gs) g none e =
    let parts : (test x ≡ false) × (list_any test gs ≡ false) = or_parts (test x) (list_any test gs) none in
    passes_by test x gs g (is_pending_stamp x) e parts.0 (passes_in test gs g parts.1)

module _ (o : OpenEntry) (s : Seen) (places : PoliciesAreNumbered 1 s.policies) (open_if : s.shut ≡ true → result_of o ≡ None) where
  abbrev goal : Seen → List Generation
  goal t = generations_after t.shut (wanted_kind o t) (entry t) (gens t.policies)

  pub record Stays (t : Seen) : Type 0 where
    pub same : goal t ≡ goal s
    pub numbers : PoliciesAreNumbered 1 t.policies
    pub shut : t.shut ≡ s.shut

  -- stamps are as they were
  by_uses : (uses : List PolicyUse) → gens uses ≡ gens s.policies → PoliciesAreNumbered 1 uses → Stays (record s { policies = uses })
  by_uses uses e h = record { same = ap (generations_after s.shut (wanted_kind o s) (entry s)) e; numbers = h; shut = refl }

  -- one is retired
  retire : (g : PolicyUse) → find (is_to_retire o s) s.policies ≡ Some g → Stays (policy_retired g.number s)
  retire g e =
      let at : UseAt s.policies g 1 = use_at s.policies (is_to_retire o s) 1 g places e in
      let f : PolicyUse → PolicyUse = retired_in (entry s) in
      let drops : is_dropped s.shut (wanted_kind o s) g.generation ≡ true = found_passes (is_to_retire o s) s.policies g e in
      let number : g.number ≡ suc at.place = (let k : g.number ≡ 1 + at.place = at.number_is in omega arith) in
      let uses : List PolicyUse = slice_set s.policies at.place (f g) in
      let is : changed f g.number s.policies ≡ uses
      = ap (λ (k : ℕ). changed f k s.policies) number ∙ ap (λ (q : Option PolicyUse). changed_if f (suc at.place) s.policies q) at.own in
      let one : dropped_in s.shut (wanted_kind o s) (entry s) (f g).generation ≡ dropped_in s.shut (wanted_kind o s) (entry s) g.generation
      = sym (ap (λ (b : Bool). if b then record g.generation { retired = Some (entry s) } else g.generation) drops) in
      let all : dropped s.shut (wanted_kind o s) (entry s) (gens uses) ≡ dropped s.shut (wanted_kind o s) (entry s) (gens s.policies)
      = map-map (dropped_in s.shut (wanted_kind o s) (entry s)) (λ (h : PolicyUse). h.generation) uses
      ∙ map_set (λ (h : PolicyUse). dropped_in s.shut (wanted_kind o s) (entry s) h.generation) s.policies at.place g (f g) at.own one
      ∙ sym (map-map (dropped_in s.shut (wanted_kind o s) (entry s)) (λ (h : PolicyUse). h.generation) s.policies) in
      subst (λ (l : List PolicyUse). Stays (record s { policies = l })) (sym is)
      (record {
        same = ap (with_begun (wanted_kind o s) (entry s)) all;
        numbers = numbers_set f (λ h. refl) 1 at.place s.policies g at.own places;
        shut = refl;
      })

  -- one begins
  begin : (k : Kind) → find (is_to_retire o s) s.policies ≡ None → wanted_kind o s ≡ Some k
      → list_any (λ (g : PolicyUse). is_same_kind g.generation.kind k) (live_policies s) ≡ false → Stays (policy_begun k s)
  begin k none wanted lacks =
      let gs : List Generation = gens s.policies in
      let e : ℕ = entry s in
      let b : Generation = begun e k gs in
      let is_open : s.shut ≡ false
      = off_by s.shut (λ shut. some_is (result_of o) (if_none_some (is_some (result_of o)) _ k wanted) (open_if shut)) in
      let none_here : list_any (is_dropped s.shut (wanted_kind o s)) gs ≡ false
      = any_gens (is_dropped s.shut (wanted_kind o s)) s.policies ∙ none_found (is_to_retire o s) s.policies none in
      let left : dropped s.shut (Some k) e gs ≡ gs
      = none_dropped s.shut (Some k) e gs (ap (λ (w : Option Kind). list_any (is_dropped s.shut w) gs) (sym wanted) ∙ none_here) in
      let lacking : has_kind k gs ≡ false = kind_gens k s ∙ lacks in
      let before : goal s ≡ gs ++ b ∷ []
      = ap (λ (w : Option Kind). generations_after s.shut w e gs) wanted
      ∙ ap (with_begun (Some k) e) left
      ∙ ap (λ (x : Bool). if x then gs else gs ++ b ∷ []) lacking in
      let none_open : list_any (is_dropped false (Some k)) gs ≡ false
      = ap (λ (x : Bool). list_any (is_dropped x (Some k)) gs) (sym is_open) ∙ ap (λ (w : Option Kind). list_any (is_dropped s.shut w) gs) (sym wanted) ∙ none_here in
      let new_gens : gens (policy_begun k s).policies ≡ gs ++ b ∷ []
      = map_append (λ (g : PolicyUse). g.generation) s.policies (begun_policy k s ∷ [])
      ∙ ap (λ (g : Generation). gs ++ g ∷ []) (sym (begun_gens e k s)) in
      record {
        same =
            ap (λ (l : List Generation). generations_after s.shut (wanted_kind o s) e l) new_gens
            ∙ ap (λ (x : Bool). generations_after x (wanted_kind o s) e (gs ++ b ∷ [])) is_open
            ∙ ap (λ (w : Option Kind). generations_after false w e (gs ++ b ∷ [])) wanted
            ∙ rests_with k e gs none_open lacking
            ∙ sym before;
        numbers = numbers_after 1 s.policies (begun_policy k s) places (let up : length s.policies + 1 ≡ 1 + length s.policies = omega arith in up);
        shut = refl;
      }
    where
      -- the new one stays, and none begins beside it
      rests_with : (k : Kind) (e : ℕ) (gs : List Generation) → list_any (is_dropped false (Some k)) gs ≡ false → has_kind k gs ≡ false
          → generations_after false (Some k) e (gs ++ begun e k gs ∷ []) ≡ gs ++ begun e k gs ∷ []
      rests_with k e gs none lacking =
          let b : Generation = begun e k gs in
          let stays : is_dropped false (Some k) b ≡ false
          = ap (λ (x : Bool). false || (is_pending_stamp b && not x)) (kept_kind k) ∙ and_off (is_pending_stamp b) in
          let left : dropped false (Some k) e (gs ++ b ∷ []) ≡ gs ++ b ∷ []
          = none_dropped false (Some k) e (gs ++ b ∷ []) (list_any-append (is_dropped false (Some k)) gs (b ∷ []) ∙ both_off (list_any (is_dropped false (Some k)) gs) (is_dropped false (Some k) b) none stays) in
          ap (with_begun (Some k) e) left
          ∙ ap (λ (x : Bool). if x then gs ++ b ∷ [] else (gs ++ b ∷ []) ++ begun e k (gs ++ b ∷ []) ∷ []) (has_it k e gs none lacking (find is_current_stamp gs) refl (find is_pending_stamp gs) refl)
        where
          and_off : (x : Bool) → (x && false) ≡ false
          and_off true = refl
          and_off false = refl

          both_off : (x y : Bool) → x ≡ false → y ≡ false → (x || (y || false)) ≡ false
          both_off true y e f = absurd (cc)
          both_off false true e f = absurd (cc)
          both_off false false e f = refl

          off_and : (x y : Bool) → x ≡ false → y ≡ true → x ≡ y → ⊥
          off_and x y e f g = (let bad : false ≡ true = sym e ∙ g ∙ f in (cc))

          has_it : (k : Kind) (e : ℕ) (gs : List Generation) → list_any (is_dropped false (Some k)) gs ≡ false → has_kind k gs ≡ false
              → (c : Option Generation) → find is_current_stamp gs ≡ c → (p : Option Generation) → find is_pending_stamp gs ≡ p
              → has_kind k (gs ++ begun e k gs ∷ []) ≡ true
          has_it k e gs none lacking None current p pending =
              let b : Generation = begun e k gs in
              let new : begun e k gs ≡ record { kind = k; activated = Some e; retired = None }
              = ap (λ (q : Option Generation). record { kind = k; activated = if is_none q then Some e else None; retired = None }) current in
              let here : find is_current_stamp (gs ++ b ∷ []) ≡ Some b
              = find-append is_current_stamp gs (b ∷ []) ∙ ap (λ (q : Option Generation). option_or q (find is_current_stamp (b ∷ []))) current
              ∙ ap (λ (x : Bool). cond x (Some b) None) (ap is_current_stamp new) in
              ap (λ (q : Option Generation). list_any (λ (g : Generation). is_same_kind g.kind k) (option_to_list q ++ option_to_list (find is_pending_stamp (gs ++ b ∷ [])))) here
              ∙ ap (λ (x : Bool). x || list_any (λ (g : Generation). is_same_kind g.kind k) (option_to_list (find is_pending_stamp (gs ++ b ∷ [])))) (kept_kind k)
          has_it k e gs none lacking (Some c) current (Some p) pending =
              let drops : is_dropped false (Some k) p ≡ false = passes_in (is_dropped false (Some k)) gs p none pending in
              let is : is_pending_stamp p ≡ true = found_passes is_pending_stamp gs p pending in
              let of_kind : is_same_kind p.kind k ≡ true = not_other (is_none p.retired) (is_none p.activated) (is_same_kind p.kind k) drops is in
              let has : has_kind k gs ≡ true
              = ap (λ (q : Option Generation). list_any (λ (g : Generation). is_same_kind g.kind k) (option_to_list (find is_current_stamp gs) ++ option_to_list q)) pending
              ∙ list_any-append (λ (g : Generation). is_same_kind g.kind k) (option_to_list (find is_current_stamp gs)) (p ∷ [])
              ∙ or_after (list_any (λ (g : Generation). is_same_kind g.kind k) (option_to_list (find is_current_stamp gs))) (is_same_kind p.kind k || false) (ap (λ (x : Bool). x || false) of_kind) in
              absurd (let bad : false ≡ true = sym lacking ∙ has in (cc))
          has_it k e gs none lacking (Some c) current None pending =
              let b : Generation = begun e k gs in
              let new : begun e k gs ≡ record { kind = k; activated = None; retired = None }
              = ap (λ (q : Option Generation). record { kind = k; activated = if is_none q then Some e else None; retired = None }) current in
              let here : find is_pending_stamp (gs ++ b ∷ []) ≡ Some b
              = find-append is_pending_stamp gs (b ∷ []) ∙ ap (λ (q : Option Generation). option_or q (find is_pending_stamp (b ∷ []))) pending
              ∙ ap (λ (x : Bool). cond x (Some b) None) (ap is_pending_stamp new) in
              ap (λ (q : Option Generation). list_any (λ (g : Generation). is_same_kind g.kind k) (option_to_list (find is_current_stamp (gs ++ b ∷ [])) ++ option_to_list q)) here
              ∙ list_any-append (λ (g : Generation). is_same_kind g.kind k) (option_to_list (find is_current_stamp (gs ++ b ∷ []))) (b ∷ [])
              ∙ or_after (list_any (λ (g : Generation). is_same_kind g.kind k) (option_to_list (find is_current_stamp (gs ++ b ∷ [])))) (is_same_kind k k || false) (ap (λ (x : Bool). x || false) (kept_kind k))

  -- one gets addresses
  give : (n : ℕ) (e : Event) (q : Option (List Address)) → Stays (option_map_or (λ (l : List Address). with_policy (given_addresses l s) n s) q s)
  give n e None = by_uses s.policies refl places
  give n e (Some l) =
      by_uses (changed (given_addresses l s) n s.policies) (gens_if (given_addresses l s) (λ g. refl) n s.policies (numbered s.policies n) refl)
      (numbers_if (given_addresses l s) (λ g. refl) n s.policies (numbered s.policies n) refl places)

  -- a subchannel is shut
  noted_gen_by : (g : PolicyUse) (live : Bool) (failed : List ℕ) → (if live then record g { failed = failed } else g).generation ≡ g.generation
  noted_gen_by g true failed = refl
  noted_gen_by g false failed = refl

  shut_by : (subs : List Subchannel) (q : Option Subchannel) → Stays (option_map_or (λ (b : Subchannel). noted_by_policies b (record s { subs = subs })) q (record s { subs = subs }))
  shut_by subs None = record { same = refl; numbers = places; shut = refl }
  shut_by subs (Some b) =
      let u : Seen = record s { subs = subs } in
      let same : gens (map (noted_state u b) s.policies) ≡ gens s.policies
      = map-map (λ (g : PolicyUse). g.generation) (noted_state u b) s.policies
      ∙ map_same (λ (g : PolicyUse). (noted_state u b g).generation) (λ (g : PolicyUse). g.generation) (λ g. noted_gen_by g (is_live_policy g) _) s.policies in
      record {
        same = ap (generations_after s.shut (wanted_kind o s) (entry s)) same;
        numbers = numbers_stay (noted_state u b) (λ g. still_number u b (is_live_policy g) g) 1 s.policies places;
        shut = refl;
      }

  begin_by : (k : Kind) (b : Bool) (a : Action) → find (is_to_retire o s) s.policies ≡ None → wanted_kind o s ≡ Some k
      → list_any (λ (g : PolicyUse). is_same_kind g.generation.kind k) (live_policies s) ≡ b
      → (if b then None else Some (action.PolicyBegins k)) ≡ Some a → Stays (after_in o a s)
  begin_by k true a none wanted is e = absurd (cc)
  begin_by k false a none wanted is e = let one : action.PolicyBegins k ≡ a = (cc) in subst (λ (d : Action). Stays (after_in o d s)) one (begin k none wanted is)

  begin_if_wanted : (q : Option Kind) (a : Action) → find (is_to_retire o s) s.policies ≡ None → wanted_kind o s ≡ q → option_and_then (begin_if s) q ≡ Some a → Stays (after_in o a s)
  begin_if_wanted None a none wanted e = absurd (cc)
  begin_if_wanted (Some k) a none wanted e = begin_by k (list_any (λ (g : PolicyUse). is_same_kind g.generation.kind k) (live_policies s)) a none wanted refl e

  abbrev shut_line : Option Action
  shut_line = next_ended ending.Shut (is_shut_down s) s

  pub stays : (a : Action) → of_policies o s ≡ Some a → Stays (after_in o a s)
  stays a e =
      elim (split shut_line _ a e) [
        | inl x ↦ (let c = from_map (ending_call ending.Shut) (find (is_shut_down s) s.calls) a x in
            subst (λ (d : Action). Stays (after_in o d s)) c.1.1 (record { same = refl; numbers = places; shut = refl }))
        | inr y ↦ elim (split (next_retired o s) _ a y.1) [
          | inl x ↦ (let c = from_map (λ (g : PolicyUse). action.PolicyRetired g.number) (find (is_to_retire o s) s.policies) a x in
              subst (λ (d : Action). Stays (after_in o d s)) c.1.1 (retire c.0 c.1.0))
          | inr z ↦ elim (split (next_begun o s) _ a z.1) [
            | inl x ↦ begin_if_wanted (wanted_kind o s) a (none_from (λ (g : PolicyUse). action.PolicyRetired g.number) (find (is_to_retire o s) s.policies) z.0) refl x
            | inr w ↦ elim (split (next_given o s) _ a w.1) [
              | inl x ↦ (let c = from_map (λ (g : PolicyUse). action.AddressesGiven g.number) (find (wants_addresses o s) s.policies) a x in
                  subst (λ (d : Action). Stays (after_in o d s)) c.1.1 (give c.0.number o.event (addresses_in o.event)))
              | inr v ↦ elim (split (next_shut s) _ a v.1) [
                | inl x ↦ (let c = from_map (λ (b : Subchannel). action.SubchannelShut b.number) (find (is_unlisted s) s.subs) a x in
                    subst (λ (d : Action). Stays (after_in o d s)) c.1.1
                    (shut_by (changed (without_link conn.Shutdown) c.0.number s.subs) (numbered (changed (without_link conn.Shutdown) c.0.number s.subs) c.0.number)))
                | inr u ↦ elim (split (next_added s) None a u.1) [
                  | inl x ↦ (let c = from_map (λ (l : Address). action.SubchannelAdded l) (find (λ (l : Address). is_none (live_sub s l)) (listed s)) a x in
                      subst (λ (d : Action). Stays (after_in o d s)) c.1.1 (record { same = refl; numbers = places; shut = refl }))
                  | inr never ↦ absurd (let bad : None ≡ Some a = never.1 in (cc))
                ]
              ]
            ]
          ]
        ]
      ]

  -- once none of them gives anything
  rests_by : (q : Option Kind) → list_any (is_dropped s.shut q) (gens s.policies) ≡ false → option_and_then (begin_if s) q ≡ None
      → generations_after s.shut q (entry s) (gens s.policies) ≡ gens s.policies
  rests_by None none e = none_dropped s.shut None (entry s) (gens s.policies) none
  rests_by (Some k) none e =
      ap (with_begun (Some k) (entry s)) (none_dropped s.shut (Some k) (entry s) (gens s.policies) none)
      ∙ ap (λ (b : Bool). if b then gens s.policies else gens s.policies ++ begun (entry s) k (gens s.policies) ∷ []) (kind_gens k s ∙ has_by (list_any (λ (g : PolicyUse). is_same_kind g.generation.kind k) (live_policies s)) e)
    where
      has_by : (b : Bool) → (if b then None else Some (action.PolicyBegins k)) ≡ None → b ≡ true
      has_by true f = refl
      has_by false f = absurd (cc)

  pub rests : of_policies o s ≡ None → gens s.policies ≡ goal s
  rests e =
      let a = both_none shut_line _ e in
      let b = both_none (next_retired o s) _ a.1 in
      let c = both_none (next_begun o s) _ b.1 in
      let none : find (is_to_retire o s) s.policies ≡ None = none_from (λ (g : PolicyUse). action.PolicyRetired g.number) (find (is_to_retire o s) s.policies) b.0 in
      sym (rests_by (wanted_kind o s) (any_gens (is_dropped s.shut (wanted_kind o s)) s.policies ∙ none_found (is_to_retire o s) s.policies none) c.0)

pub generations_along : GenerationsAlong
generations_along [] o s t numbers open_if d =
    ap (λ (v : Seen). gens v.policies) d.1 ∙ rests o s numbers open_if d.0
generations_along (a ∷ actions) o s t numbers open_if d =
    let k : Stays o s numbers open_if (after_in o a s) = stays o s numbers open_if a d.0 in
    generations_along actions o (after_in o a s) t k.numbers (λ shut. open_if (sym k.shut ∙ shut)) d.1 ∙ k.same
