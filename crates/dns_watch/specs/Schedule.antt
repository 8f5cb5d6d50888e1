-- When a name is looked up, over the list of its lookups that were answered, newest first.
use Rattle.std.specs.Prelude.{ℕ, ◌+◌, ◌==◌, ◌&&◌, Bool, true, nat_le, min, if◌then◌else◌, Option, Some, None, List, [], ◌∷◌}
use Rattle.grpc_base.specs.Backoff.{connect_wait}
use Rattle.grpc_base.specs.declared.host.DnsName.{DnsName}
use Rattle.dns_watch.specs.declared.watch.DnsAnswer.{DnsAnswer}
use Rattle.dns_watch.specs.declared.watch.Newest.{Newest}

-- how many of the newest lookups failed in a row
abbrev pub failures_of : List DnsAnswer → ℕ
failures_of [] = 0
failures_of (a ∷ older) = if a.found then 0 else failures_of older + 1

-- whether a lookup is due at a moment: the first one is; after one that found addresses, one is due once it is wanted
-- and 30 s have passed. After n in a row that failed, once the wait of the n-th dial has passed, spread by the word of
-- the last one
abbrev pub turn_after : List DnsAnswer → ℕ → Bool → Bool
turn_after [] moment wanted = true
turn_after (a ∷ older) moment wanted =
    if a.found then wanted && nat_le (a.moment + 30000000000) moment
    else nat_le (a.moment + connect_wait (failures_of (a ∷ older)) a.word) moment

-- what is kept of such a list: its newest answer, and the failures in a row, counted in 32 bits
abbrev pub newest_of : List DnsAnswer → Option Newest
newest_of [] = None
newest_of (a ∷ older) = Some (record { moment = a.moment; word = a.word; failures = min (failures_of (a ∷ older)) 4294967295 })

-- the name, and what is kept of its lookups
pub record WatchSeen : Type 0 where
  pub name : DnsName
  pub newest : Option Newest

-- whether a lookup is due, by what is kept
abbrev pub is_turn : Option Newest → ℕ → Bool → Bool
is_turn None moment wanted = true
is_turn (Some n) moment wanted =
    if n.failures == 0 then wanted && nat_le (n.moment + 30000000000) moment
    else nat_le (n.moment + connect_wait n.failures n.word) moment

-- the failures in a row, by what is kept
abbrev pub failures_to : Option Newest → ℕ
failures_to None = 0
failures_to (Some n) = n.failures

-- what is kept once a further lookup was answered
abbrev pub answered : WatchSeen → DnsAnswer → WatchSeen
answered w a =
    record w { newest = Some (record { moment = a.moment; word = a.word; failures = if a.found then 0 else min (failures_to w.newest + 1) 4294967295 }) }
