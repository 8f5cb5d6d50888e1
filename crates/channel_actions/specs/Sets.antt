-- The sets that the channel keeps in order: each has exactly the pairs that the session's words give.
-- Example: call 1 has a deadline at 9 s, and its attempt of row 3 waits for a pick, as the call does not wait for ready. The deadlines are (9 s, 1), the
-- queue is (1, 3), and `ready_waiters` has nothing.
use Rattle.std.specs.List.{list_all}
use Rattle.std.specs.Prelude.{Bool, List, [], is_none, not, true, ℕ, ◌&&◌, ◌==◌, ◌∷◌, ◌≡◌}
use Rattle.channel_actions.specs.Calls.{deadline_of, due_of}
use Rattle.channel_core.specs.States.{StateSeen}
use Rattle.picker_gate.specs.Pairs.{has, comes_after}
use Rattle.session_actions.specs.Attempts.{is_outstanding, is_queued}
use Rattle.session_actions.specs.Calls.{is_open_call}
use Rattle.session_actions.specs.Configs.{waits_for_ready}
use Rattle.session_actions.specs.Links.{link_number}
use Rattle.session_actions.specs.Words.{holds, is_number, numbered}
use Rattle.session_actions.specs.declared.seen.Seen.{Seen}

-- pairs in rising order, which are exactly those that pass a test
abbrev pub PairsAreRising : List (ℕ × ℕ) → Type 0
PairsAreRising [] = Unit {0}
PairsAreRising (p ∷ pairs) = (list_all (comes_after p) pairs ≡ true) × PairsAreRising pairs

pub record PairsAreExactly (pairs : List (ℕ × ℕ)) (test : ℕ → ℕ → Bool) : Type 0 where
  pub rising : PairsAreRising pairs
  pub exact : (a b : ℕ) → has pairs (a, b) ≡ test a b

-- by call and row: the attempts that wait for a pick, apart by whether their calls wait for ready
abbrev pub is_waiting : Seen → ℕ → ℕ → Bool
is_waiting s call row = holds (λ a. (a.row.call == call) && is_queued a s) (numbered s.attempts row)

abbrev pub is_ready_waiter : Seen → ℕ → Bool
is_ready_waiter s call = holds (λ c. waits_for_ready c s) (numbered s.calls call)

abbrev pub is_in_queue : Seen → ℕ → ℕ → Bool
is_in_queue s call row = is_waiting s call row && not (is_ready_waiter s call)

abbrev pub is_in_ready_waiters : Seen → ℕ → ℕ → Bool
is_in_ready_waiters s call row = is_waiting s call row && is_ready_waiter s call

-- by moment and call
abbrev pub is_in_dues : Seen → ℕ → ℕ → Bool
is_in_dues s moment call = holds (λ c. is_number moment (due_of s c)) (numbered s.calls call)

abbrev pub is_in_deadlines : Seen → ℕ → ℕ → Bool
is_in_deadlines s moment call = holds (λ c. is_number moment (deadline_of s c)) (numbered s.calls call)

-- the open calls that have no configuration yet, and of these those that do not wait for ready; each pair begins with 0
abbrev pub is_awaiting_config : Seen → ℕ → ℕ → Bool
is_awaiting_config s zero_ call = (zero_ == 0) && holds (λ c. is_open_call c && is_none c.config) (numbered s.calls call)

abbrev pub is_in_fail_fast : Seen → ℕ → ℕ → Bool
is_in_fail_fast s zero_ call = is_awaiting_config s zero_ call && not (is_ready_waiter s call)

-- by link and row
abbrev pub is_in_outstanding : Seen → ℕ → ℕ → Bool
is_in_outstanding s link row = holds (λ a. is_outstanding a && (link_number a == link)) (numbered s.attempts row)

-- which calls end by their deadlines, get configs and attempts, which attempts ask, and which end with a link. No reset waits
pub record SeesSets (x : StateSeen) (s : Seen) : Type 0 where
  pub queue : PairsAreExactly x.queue (is_in_queue s)
  pub ready_waiters : PairsAreExactly x.ready_waiters (is_in_ready_waiters s)
  pub dues : PairsAreExactly x.dues (is_in_dues s)
  pub deadlines : PairsAreExactly x.deadlines (is_in_deadlines s)
  pub awaiting_config : PairsAreExactly x.awaiting_config (is_awaiting_config s)
  pub fail_fast : PairsAreExactly x.fail_fast (is_in_fail_fast s)
  pub outstanding : PairsAreExactly x.outstanding (is_in_outstanding s)
  pub resets : x.resets ≡ []
