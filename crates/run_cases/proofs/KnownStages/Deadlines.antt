-- The stage of deadlines, with what runs keep.
use Rattle.channel_actions.specs.Known.{IsKnown}
use Rattle.channel_actions.proofs.Calls.Few.Walk.{calls_are_few}
use Rattle.call_cases.specs.EndedCalls.Laws.{DeadlinesAreMet}
use Rattle.channel_actions.specs.Stages.{Deadlines}
use Rattle.channel_core.specs.States.{StateSeen}
use Rattle.session_actions.specs.Entries.{entry}
use Rattle.session_actions.specs.declared.seen.Seen.{Seen}
use Rattle.std.proofs.lemmas.Bool.Decides.{nat_tests}
use Rattle.std.proofs.Common.{Bool, arith, if◌then◌else◌, is_some, length, true, false, ℕ, ◌<◌, ◌≡◌, ◌≤◌, nat_lt}

pub below : (n m : ℕ) → nat_lt n m ≡ true → n < m
below n m e = grind (arith, nat_tests)

pub one_more : (b : Bool) → (if b then 1 else 0) ≤ 1
one_more true = omega arith
one_more false = omega arith

pub calls_known : (x : StateSeen) (s : Seen) → IsKnown x s → length s.calls ≤ 1048576
calls_known x s known =
    let a : length s.calls ≤ entry s = calls_are_few known.reached.setup known.reached.actions s known.reached.does in
    let b : length s.entries < 1048576 = below (length s.entries) 1048576 known.few in
    let c : (if is_some s.current then 1 else 0) ≤ 1 = one_more (is_some s.current) in omega (arith, a, b, c)

pub few_calls : (x : StateSeen) (s : Seen) → IsKnown x s → length s.calls ≤ 4294967295
few_calls x s known = by (length s.calls) (calls_known x s known)
  where
    by : (n : ℕ) → n ≤ 1048576 → n ≤ 4294967295
    by n e = omega (arith, e)

pub deadlines_are_done : DeadlinesAreMet → Deadlines
deadlines_are_done met x o s h at known = met x o s h at (record { unreset = known.early.resets; few = few_calls x s known })
