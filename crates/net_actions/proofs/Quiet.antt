-- Where there is no result of the resolver, no policy begins and none gets addresses; and where no policy is live, or none is to be retired.
use Rattle.std.proofs.Common.{◌≡◌, ◌+◌, ◌<◌, ◌∷◌, ◌&&◌, ◌==◌, not, ap, arith, refl, sym, ◌∙◌, Bool, true, false, List, [], Option, None, Some, ℕ, zero, suc, if◌then◌else◌, is_some, slice_get, map}
use Rattle.std.proofs.lemmas.Bool.{eq-eqb, or_parts}
use Rattle.std.specs.List.{list_any}
use Rattle.std.specs.Option.{option_and_then, option_map}
use Rattle.std.specs.Prelude.{slice_set}
use Rattle.grpc_base.specs.declared.address.Address.{Address}
use Rattle.grpc_base.specs.declared.kind.Kind.{Kind}
use Rattle.net_actions.proofs.OwnLinks.{unlike}
use Rattle.net_actions.proofs.Running.{both_false, find_none}
use Rattle.net_actions.specs.Runs.{NoneIsToEnd}
use Rattle.net_actions.specs.Sees.{PoliciesAreNumbered, AtMostOne}
use Rattle.session_actions.specs.CallEnds.{ending_call, is_shut_down}
use Rattle.session_actions.specs.Calls.{is_open_call}
use Rattle.session_actions.specs.Configs.{held_config}
use Rattle.session_actions.specs.Policies.{are_same_addresses, begin_if, is_live_policy, is_same_kind, next_begun, next_given, result_of, retired_in, wanted_kind, wants_addresses}
use Rattle.session_actions.specs.Words.{changed, changed_if, holds}
use Rattle.session_actions.specs.declared.call.Call.{Call}
use Rattle.session_actions.specs.declared.config.HeldConfig.{HeldConfig}
use Rattle.session_actions.specs.declared.entry.OpenEntry.{OpenEntry}
use Rattle.session_actions.specs.declared.policy.PolicyUse.{PolicyUse}
use Rattle.session_actions.specs.declared.seen.Seen.{Seen}
use Rattle.grpc_base.specs.declared.event.EndCause.TheVariants as ending
use Rattle.session_actions.specs.declared.action.Action.TheVariants as action

abbrev pub with_uses : List PolicyUse → Seen → Seen
with_uses uses s = record s { policies = uses }

-- a use that is retired, or not
abbrev pub retire_if : ℕ → Bool → PolicyUse → PolicyUse
retire_if e x g = if x then retired_in e g else g

pub retired_number : (e : ℕ) (x : Bool) (g : PolicyUse) → (retire_if e x g).number ≡ g.number
retired_number e true g = refl
retired_number e false g = refl

pub and_no : (x : Bool) → (x && false) ≡ false
and_no true = refl
and_no false = refl

-- where the channel is not shut down, no call ends for that
none_shut : (s : Seen) (calls : List Call) → s.shut ≡ false → list_any (is_shut_down s) calls ≡ false
none_shut s [] e = refl
none_shut s (c ∷ calls) e =
    both_false (is_shut_down s c) (list_any (is_shut_down s) calls) (ap (λ (x : Bool). is_open_call c && x) e ∙ and_no (is_open_call c)) (none_shut s calls e)

pub none_ends : (s : Seen) → s.shut ≡ false → NoneIsToEnd s
none_ends s e = ap (option_map (ending_call ending.Shut)) (find_none (is_shut_down s) s.calls (none_shut s s.calls e))

pub none_begins : (o : OpenEntry) (s : Seen) → result_of o ≡ None → next_begun o s ≡ None
none_begins o s none =
    ap (λ (r : Option (List Address)). option_and_then (begin_if s) (if is_some r then option_map (λ (h : HeldConfig). h.config.kind) (held_config s) else None)) none

wants_none : (o : OpenEntry) (s : Seen) (g : PolicyUse) → result_of o ≡ None → wants_addresses o s g ≡ false
wants_none o s g none =
    let prefix : Bool = is_live_policy g && holds (λ (k : Kind). is_same_kind g.generation.kind k) (wanted_kind o s) in
    ap (λ (r : Option (List Address)). prefix && holds (λ (addresses : List Address). not (are_same_addresses g.addresses addresses)) r) none ∙ and_no prefix

none_want : (o : OpenEntry) (s : Seen) (uses : List PolicyUse) → result_of o ≡ None → list_any (wants_addresses o s) uses ≡ false
none_want o s [] none = refl
none_want o s (g ∷ uses) none =
    both_false (wants_addresses o s g) (list_any (wants_addresses o s) uses) (wants_none o s g none) (none_want o s uses none)

pub none_given : (o : OpenEntry) (s : Seen) → result_of o ≡ None → next_given o s ≡ None
none_given o s none =
    ap (λ (x : Option PolicyUse). option_map (λ (g : PolicyUse). action.AddressesGiven g.number) x)
    (find_none (wants_addresses o s) s.policies (none_want o s s.policies none))

-- of a list none passes after a change that none passes
pub none_after : (test : PolicyUse → Bool) (f : PolicyUse → PolicyUse) → ((g : PolicyUse) → test (f g) ≡ false) → (uses : List PolicyUse)
    → list_any test (map f uses) ≡ false
none_after test f never [] = refl
none_after test f never (g ∷ uses) = both_false (test (f g)) (list_any test (map f uses)) (never g) (none_after test f never uses)

pub one_of_none : (test : PolicyUse → Bool) (uses : List PolicyUse) → list_any test uses ≡ false → AtMostOne test uses
one_of_none test [] e = tt
one_of_none test (g ∷ uses) e =
    let parts : (test g ≡ false) × (list_any test uses ≡ false) = or_parts (test g) (list_any test uses) e in
    (λ x. parts.1, one_of_none test uses parts.1)

-- a change of the use of a number is one of all uses, of which only that one is changed
abbrev pub at_number : ℕ → (PolicyUse → PolicyUse) → PolicyUse → PolicyUse
at_number k f g = if g.number == k then f g else g

use_if : (x : Bool) (y : Bool) (f : PolicyUse → PolicyUse) (g : PolicyUse) → x ≡ y → (if x then f g else g) ≡ (if y then f g else g)
use_if x y f g e = ap (λ (b : Bool). if b then f g else g) e

none_of_number : (k n : ℕ) (f : PolicyUse → PolicyUse) (uses : List PolicyUse) → k < n → PoliciesAreNumbered n uses → map (at_number k f) uses ≡ uses
none_of_number k n f [] less h = refl
none_of_number k n f (g ∷ uses) less h =
    let other : (g.number == k) ≡ false = unlike g.number k (λ e. (let number : g.number ≡ n = h.0 in omega (arith, e, number))) in
    ap (λ (x : PolicyUse). x ∷ map (at_number k f) uses) (use_if (g.number == k) false f g other)
    ∙ ap (λ (l : List PolicyUse). g ∷ l) (none_of_number k (n + 1) f uses (omega arith) h.1)

set_number : (n place : ℕ) (f : PolicyUse → PolicyUse) (uses : List PolicyUse) (x : PolicyUse) → PoliciesAreNumbered n uses → slice_get uses place ≡ Some x
    → slice_set uses place (f x) ≡ map (at_number (n + place) f) uses
set_number n place f [] x h e = absurd (cc)
set_number n zero f (g ∷ uses) x h e =
    let one : x ≡ g = (cc) in
    let number : g.number ≡ n + 0 = (let k : g.number ≡ n = h.0 in omega arith) in
    let same : (g.number == n + 0) ≡ true = eq-eqb g.number (n + 0) number in
    ap (λ (y : PolicyUse). f y ∷ uses) one ∙ ap (λ (y : PolicyUse). y ∷ uses) (sym (use_if (g.number == n + 0) true f g same))
    ∙ ap (λ (l : List PolicyUse). at_number (n + 0) f g ∷ l) (sym (none_of_number (n + 0) (n + 1) f uses (omega arith) h.1))
set_number n (suc place) f (g ∷ uses) x h e =
    let k : n + 1 + place ≡ n + suc place = omega arith in
    let other : (g.number == n + suc place) ≡ false
    = unlike g.number (n + suc place) (λ d. (let number : g.number ≡ n = h.0 in omega (arith, d, number))) in
    ap (λ (l : List PolicyUse). g ∷ l) (set_number (n + 1) place f uses x h.1 e)
    ∙ ap (λ (j : ℕ). g ∷ map (at_number j f) uses) k
    ∙ ap (λ (y : PolicyUse). y ∷ map (at_number (n + suc place) f) uses) (sym (use_if (g.number == n + suc place) false f g other))

pub changed_number : (place : ℕ) (f : PolicyUse → PolicyUse) (uses : List PolicyUse) (x : PolicyUse) → PoliciesAreNumbered 1 uses → slice_get uses place ≡ Some x
    → changed f (suc place) uses ≡ map (at_number (suc place) f) uses
changed_number place f uses x h e =
    let number : 1 + place ≡ suc place = omega arith in
    ap (changed_if f (suc place) uses) e ∙ set_number 1 place f uses x h e ∙ ap (λ (k : ℕ). map (at_number k f) uses) number
