-- What is kept of a list of answers decides as the list does.
use Rattle.std.proofs.Common.{◌≡◌, ◌≤◌, ℕ, ◌+◌, ◌==◌, ◌&&◌, Bool, true, false, nat_le, min, if◌then◌else◌, Option, Some, List, [], ◌∷◌, refl, sym, ap, ◌∙◌, arith}
use Rattle.std.proofs.lemmas.Grind.{common_steps}
use Rattle.grpc_base.specs.Backoff.{connect_base, connect_wait, spread_wait}
use Rattle.a6_numbers.proofs.GrowthLaws.{grown_still}
use Rattle.dns_watch.specs.Schedule.{failures_of, failures_to, is_turn, newest_of, turn_after}
use Rattle.dns_watch.specs.declared.watch.DnsAnswer.{DnsAnswer}
use Rattle.dns_watch.specs.declared.watch.Newest.{Newest}

-- from the twelfth on, the wait before it is spread is the greatest
base_still : (n : ℕ) → 12 ≤ n → connect_base n ≡ 120000000000
base_still n late = sym (grown_still 1000000000 1600 120000000000 120000000000 11 _ refl refl (grind (arith, common_steps)))

late_wait : (n word : ℕ) → 12 ≤ n → connect_wait n word ≡ spread_wait 120000000000 word
late_wait n word late =
    let first : nat_le n 1 ≡ false = grind (arith, common_steps) in
    ap (λ (b : Bool). if b then connect_base 1 else spread_wait (connect_base n) word) first ∙ ap (λ (w : ℕ). spread_wait w word) (base_still n late)

still_by : (n word : ℕ) (b : Bool) → nat_le n 4294967295 ≡ b → connect_wait (min n 4294967295) word ≡ connect_wait n word
still_by n word true within =
    let same : min n 4294967295 ≡ n = grind (arith, common_steps) in
    ap (λ (m : ℕ). connect_wait m word) same
still_by n word false beyond =
    let late : 12 ≤ n = grind (arith, common_steps) in
    let late_too : 12 ≤ min n 4294967295 = grind (arith, common_steps) in
    late_wait (min n 4294967295) word late_too ∙ sym (late_wait n word late)

-- so a count that stands still at the top of a u32 changes no wait
wait_still : (n word : ℕ) → connect_wait (min n 4294967295) word ≡ connect_wait n word
wait_still n word = still_by n word (nat_le n 4294967295) refl

-- by what is kept of an answer after f failures, and by the list
abbrev by_kept : DnsAnswer → ℕ → ℕ → Bool → Bool → Bool
by_kept a f moment wanted found =
    if min (if found then 0 else f + 1) 4294967295 == 0 then wanted && nat_le (a.moment + 30000000000) moment
    else nat_le (a.moment + connect_wait (min (if found then 0 else f + 1) 4294967295) a.word) moment

abbrev by_list : DnsAnswer → ℕ → ℕ → Bool → Bool → Bool
by_list a f moment wanted found =
    if found then wanted && nat_le (a.moment + 30000000000) moment
    else nat_le (a.moment + connect_wait (if found then 0 else f + 1) a.word) moment

same_turn : (a : DnsAnswer) (f moment : ℕ) (wanted found : Bool) → by_kept a f moment wanted found ≡ by_list a f moment wanted found
same_turn a f moment wanted true = refl
same_turn a f moment wanted false =
    let some : (min (f + 1) 4294967295 == 0) ≡ false = grind (arith, common_steps) in
    ap (λ (b : Bool). if b then wanted && nat_le (a.moment + 30000000000) moment else nat_le (a.moment + connect_wait (min (f + 1) 4294967295) a.word) moment) some
    ∙ ap (λ (w : ℕ). nat_le (a.moment + w) moment) (wait_still (f + 1) a.word)

turn_of : (log : List DnsAnswer) (moment : ℕ) (wanted : Bool) → is_turn (newest_of log) moment wanted ≡ turn_after log moment wanted
turn_of [] moment wanted = refl
turn_of (a ∷ older) moment wanted = same_turn a (failures_of older) moment wanted a.found

pub turn_law : (newest : Option Newest) (log : List DnsAnswer) (moment : ℕ) (wanted result : Bool) → result ≡ is_turn newest moment wanted → newest ≡ newest_of log → result ≡ turn_after log moment wanted
turn_law newest log moment wanted result is kept = is ∙ ap (λ (k : Option Newest). is_turn k moment wanted) kept ∙ turn_of log moment wanted

kept_failures : (log : List DnsAnswer) → failures_to (newest_of log) ≡ min (failures_of log) 4294967295
kept_failures [] = refl
kept_failures (a ∷ older) = refl

one_more_failure : (found : Bool) (f : ℕ) → (if found then 0 else min (min f 4294967295 + 1) 4294967295) ≡ min (if found then 0 else f + 1) 4294967295
one_more_failure true f = refl
one_more_failure false f = grind (arith, common_steps)

-- an answer more
pub answered_law : (before : Option Newest) (moment word : ℕ) (found : Bool) (failures : ℕ) (log : List DnsAnswer) → failures ≡ (if found then 0 else min (failures_to before + 1) 4294967295) → before ≡ newest_of log
    → ◌≡◌ {A = Option Newest} (Some (record { moment = moment; word = word; failures = failures })) (newest_of (record { moment = moment; word = word; found = found } ∷ log))
answered_law before moment word found failures log is kept =
    let so_far : failures_to before ≡ min (failures_of log) 4294967295 = ap (λ (k : Option Newest). failures_to k) kept ∙ kept_failures log in
    let count : failures ≡ min (if found then 0 else failures_of log + 1) 4294967295 = is ∙ ap (λ (n : ℕ). if found then 0 else min (n + 1) 4294967295) so_far ∙ one_more_failure found (failures_of log) in
    ap (λ (n : ℕ). let k : Newest = record { moment = moment; word = word; failures = n } in Some k) count
