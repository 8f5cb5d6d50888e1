-- The numbers of a view are of subchannels that there are, and so are those of it that failed; and a list without repeats has each address once.
use Rattle.std.proofs.Common.{◌≡◌, ◌+◌, ◌<◌, ◌∷◌, ◌++◌, ◌==◌, ap, arith, refl, sym, ◌∙◌, Bool, true, false, List, [], Option, None, Some, ℕ, suc, if◌then◌else◌, cond, length, map, filter, option_to_list, append_assoc}
use Rattle.std.proofs.lemmas.Bool.{or_parts}
use Rattle.std.proofs.lemmas.List.{append-nil}
use Rattle.std.proofs.lemmas.List.Folds.{list_any-append}
use Rattle.std.specs.List.{position_from}
use Rattle.std.specs.Option.{option_and_then, option_map}
use Rattle.grpc_base.specs.Addresses.{IsWithoutRepeats, has_address}
use Rattle.grpc_base.specs.declared.address.Address.{Address}
use Rattle.channel_net.specs.Lists.{each_once, seen_as, seen_at, view_of, with_addresses}
use Rattle.lb_policy.specs.Steps.{counts_as_failed, failed_in}
use Rattle.lb_policy.specs.Table.{is_one_of}
use Rattle.lb_policy.specs.declared.seen.SubSeen.{SubSeen}
use Rattle.net_actions.proofs.FailedKept.{NoneAbove}
use Rattle.net_actions.proofs.KeptBoards.{absent, or_false, same_turned}
use Rattle.net_actions.proofs.OwnLinks.{unlike}
use Rattle.net_actions.proofs.Running.{both_false}
use Rattle.session_actions.specs.Policies.{is_same_address}
use Rattle.subchannel.specs.Boards.{first_number, is_live_at, numbered}
use Rattle.subchannel.specs.Records.{SubRecord}

within_by : (x : Bool) (n k len : ℕ) (o : Option ℕ) → cond x (Some n) o ≡ Some k → (o ≡ Some k → k < n + 1 + len) → k < n + suc len
within_by true n k len o e next = let same : n ≡ k = (cc) in omega arith
within_by false n k len o e next = let later : k < n + 1 + len = next e in omega arith

position_within : (test : SubRecord → Bool) (n k : ℕ) (board : List SubRecord) → position_from test n board ≡ Some k → k < n + length board
position_within test n k [] e = absurd (cc)
position_within test n k (r ∷ board) e =
    within_by (test r) n k (length board) (position_from test (n + 1) board) e (λ f. position_within test (n + 1) k board f)

number_of_seen : (k : ℕ) (r : Option SubRecord) (v : SubSeen) → option_map (seen_as k) r ≡ Some v → v.sub ≡ k
number_of_seen k None v e = absurd (cc)
number_of_seen k (Some r) v e = let one : seen_as k r ≡ v = (cc) in sym (ap (λ (x : SubSeen). x.sub) one)

seen_by : (board : List SubRecord) (a : Address) (v : SubSeen) (o : Option ℕ) → first_number (is_live_at a) board ≡ o
    → option_and_then (λ (k : ℕ). option_map (seen_as k) (numbered board k)) o ≡ Some v → v.sub < 1 + length board
seen_by board a v None first e = absurd (cc)
seen_by board a v (Some k) first e =
    let number : v.sub ≡ k = number_of_seen k (numbered board k) v e in
    let within : k < 1 + length board = position_within (is_live_at a) 1 k board first in
    omega arith

above_by : (n : ℕ) (board : List SubRecord) (a : Address) (rest : List Address) (o : Option SubSeen) → length board < n → seen_at board a ≡ o
    → is_one_of (map (λ (v : SubSeen). v.sub) (view_of board rest)) n ≡ false
    → is_one_of (map (λ (v : SubSeen). v.sub) (option_to_list o ++ view_of board rest)) n ≡ false
above_by n board a rest None less e next = next
above_by n board a rest (Some v) less e next =
    let within : v.sub < 1 + length board = seen_by board a v (first_number (is_live_at a) board) refl e in
    both_false (v.sub == n) (is_one_of (map (λ (x : SubSeen). x.sub) (view_of board rest)) n) (unlike v.sub n (λ d. omega (arith, d))) next

above_view : (n : ℕ) (board : List SubRecord) (addresses : List Address) → length board < n
    → is_one_of (map (λ (v : SubSeen). v.sub) (view_of board addresses)) n ≡ false
above_view n board [] less = refl
above_view n board (a ∷ rest) less = above_by n board a rest (seen_at board a) less refl (above_view n board rest less)

filter_by : (n : ℕ) (v : SubSeen) (view : List SubSeen) (x : Bool) → (v.sub == n) ≡ false → is_one_of (map (λ (y : SubSeen). y.sub) view) n ≡ false
    → is_one_of (map (λ (y : SubSeen). y.sub) (cond x (v ∷ view) view)) n ≡ false
filter_by n v view true here next = both_false (v.sub == n) (is_one_of (map (λ (y : SubSeen). y.sub) view) n) here next
filter_by n v view false here next = next

above_filter : (n : ℕ) (test : SubSeen → Bool) (view : List SubSeen) → is_one_of (map (λ (v : SubSeen). v.sub) view) n ≡ false
    → is_one_of (map (λ (v : SubSeen). v.sub) (filter test view)) n ≡ false
above_filter n test [] e = refl
above_filter n test (v ∷ view) e =
    let parts : ((v.sub == n) ≡ false) × (is_one_of (map (λ (y : SubSeen). y.sub) view) n ≡ false)
    = or_parts (v.sub == n) (is_one_of (map (λ (y : SubSeen). y.sub) view) n) e in
    filter_by n v (filter test view) (test v) parts.0 (above_filter n test view parts.1)

pub failed_above : (board : List SubRecord) (addresses : List Address) (failed : List ℕ) → failed ≡ failed_in failed (view_of board addresses)
    → NoneAbove (length board) failed
failed_above board addresses failed e n less =
    ap (λ (l : List ℕ). is_one_of l n) e ∙ above_filter n (counts_as_failed failed) (view_of board addresses) (above_view n board addresses less)

-- each address once
abbrev AllAbsent : List Address → List Address → Type 0
AllAbsent prefix [] = Unit {0}
AllAbsent prefix (a ∷ rest) = (has_address prefix a ≡ false) × AllAbsent prefix rest

absent_more : (prefix : List Address) (a : Address) (rest : List Address) → has_address rest a ≡ false → AllAbsent prefix rest → AllAbsent (prefix ++ a ∷ []) rest
absent_more prefix a [] none h = tt
absent_more prefix a (c ∷ rest) none h =
    let parts : (is_same_address c a ≡ false) × (has_address rest a ≡ false) = or_parts (is_same_address c a) (has_address rest a) none in
    let here : has_address (prefix ++ a ∷ []) c ≡ has_address prefix c
    = list_any-append (λ (b : Address). is_same_address b c) prefix (a ∷ []) ∙ or_false (has_address prefix c) (is_same_address a c) (same_turned a c ∙ parts.0) in
    (here ∙ h.0, absent_more prefix a rest parts.1 h.1)

once_from : (prefix rest : List Address) → IsWithoutRepeats rest → AllAbsent prefix rest → with_addresses prefix rest ≡ prefix ++ rest
once_from prefix [] once h = sym (append-nil prefix)
once_from prefix (a ∷ rest) once h =
    ap (λ (b : Bool). with_addresses (if b then prefix else prefix ++ a ∷ []) rest) h.0
    ∙ once_from (prefix ++ a ∷ []) rest once.1 (absent_more prefix a rest (absent rest a once.0) h.1)
    ∙ append_assoc prefix (a ∷ []) rest

all_absent : (rest : List Address) → AllAbsent [] rest
all_absent [] = tt
all_absent (a ∷ rest) = (refl, all_absent rest)

pub each_once_is : (addresses : List Address) → IsWithoutRepeats addresses → each_once addresses ≡ addresses
each_once_is addresses once = once_from [] addresses once (all_absent addresses)
