-- Keepalive of a link (gRPC, "Keepalive"), over the list of all that was done on it, newest first.
use Rattle.std.specs.Prelude.{◌≤◌, ℕ, ◌+◌, Bool, true, false, ◌==◌, ◌||◌, nat_le, if◌then◌else◌, max, Option, Some, None, List, [], ◌∷◌, length}
use Rattle.keepalive_core.specs.declared.rule.KeepEntry.{KeepEntry}
use Rattle.keepalive_core.specs.declared.rule.KeepKind.{KeepKind}
use Rattle.keepalive_core.specs.declared.rule.KeepKind.TheVariants as kind
use Rattle.keepalive_core.specs.declared.rule.KeepRule.{KeepRule}
use Rattle.keepalive_core.specs.declared.rule.KeepTurn.{KeepTurn}
use Rattle.keepalive_core.specs.declared.rule.KeepTurn.TheVariants as turn

-- a rule whose two durations are above 0 and at most 1,000,000,000,000,000,000 ns
pub record IsKeepRule (rule : KeepRule) : Type 0 where
  pub time : 1 ≤ rule.time
  pub time_within : rule.time ≤ 1000000000000000000
  pub timeout : 1 ≤ rule.timeout
  pub timeout_within : rule.timeout ≤ 1000000000000000000

-- the latest moment so far: a moment below the last one counts as the last one
abbrev pub latest : ℕ → List KeepEntry → ℕ
latest start [] = start
latest start (e ∷ older) = max (latest start older) e.moment

abbrev pub is_lost : KeepKind → Bool
is_lost kind.Lost = true
is_lost _ = false

abbrev pub is_ping : KeepKind → Bool
is_ping (kind.Ping word) = true
is_ping _ = false

-- whether the link was given up
abbrev pub has_lost : List KeepEntry → Bool
has_lost [] = false
has_lost (e ∷ older) = is_lost e.kind || has_lost older

-- what was done until the link was given up, that with it; what comes later changes nothing
abbrev pub until_lost : List KeepEntry → List KeepEntry
until_lost [] = []
until_lost (e ∷ older) = if has_lost older then until_lost older else e ∷ older

-- bytes came at `now`, or the last moment at which they came stands
abbrev pub received_by : ℕ → ℕ → KeepKind → ℕ
received_by now before kind.Octets = now
received_by now before _ = before

-- the moment of the last bytes, or the start
abbrev pub received_at : ℕ → List KeepEntry → ℕ
received_at start [] = start
received_at start (e ∷ older) = received_by (latest start (e ∷ older)) (received_at start older) e.kind

-- a ping is sent at `now`, bytes answer it, or it stands as it stood
abbrev pub open_by : ℕ → Option ℕ → KeepKind → Option ℕ
open_by now before kind.Octets = None
open_by now before (kind.Ping word) = Some now
open_by now before _ = before

-- when the ping that is open was sent: one is open from its sending until bytes come
abbrev pub open_at : ℕ → List KeepEntry → Option ℕ
open_at start [] = None
open_at start (e ∷ older) = open_by (latest start (e ∷ older)) (open_at start older) e.kind

-- how many pings were sent
abbrev pub pings_of : List KeepEntry → ℕ
pings_of [] = 0
pings_of (e ∷ older) = if is_ping e.kind then pings_of older + 1 else pings_of older

-- when the link was given up
abbrev pub lost_at : ℕ → List KeepEntry → Option ℕ
lost_at start [] = None
lost_at start (e ∷ older) = if is_lost e.kind then Some (latest start (e ∷ older)) else None

-- where a link stands: its rule, the latest moment, when bytes last came, how many pings were sent, when the one that
-- is open was sent, and when the link was given up
pub record KeepSeen : Type 0 where
  pub rule : KeepRule
  pub moment : ℕ
  pub heard : ℕ
  pub pings : ℕ
  pub sent : Option ℕ
  pub lost : Option ℕ

abbrev pub stand_of : KeepRule → ℕ → List KeepEntry → KeepSeen
stand_of rule start log = record { rule = rule; moment = latest start log; heard = received_at start log; pings = pings_of log; sent = open_at start log; lost = lost_at start log }

-- where a link stands after all that was done
abbrev pub stand_after : KeepRule → ℕ → List KeepEntry → KeepSeen
stand_after rule start log = stand_of rule start (until_lost log)

-- a turn on a link with a ping open, sent at `sent`: lost once the timeout has passed since
abbrev pub turn_open : KeepSeen → ℕ → ℕ → KeepTurn
turn_open k now sent = if nat_le (sent + k.rule.timeout) now then turn.Lost k.heard sent else turn.Nothing

-- a turn on a link with no ping open: a ping once nothing came for the rule's time
abbrev pub turn_still : KeepSeen → ℕ → KeepTurn
turn_still k now = if nat_le (k.heard + k.rule.time) now then turn.SendPing (k.pings + 1) else turn.Nothing

abbrev pub turn_going : KeepSeen → ℕ → Option ℕ → KeepTurn
turn_going k now (Some sent) = turn_open k now sent
turn_going k now None = turn_still k now

-- once a link is lost, each turn says so, with the ping that was not answered
abbrev pub turn_lost : KeepSeen → Option ℕ → KeepTurn
turn_lost k (Some sent) = turn.Lost k.heard sent
turn_lost k None = turn.Nothing

-- what a turn at a moment answers where a link stands so
abbrev pub turn_at : KeepSeen → ℕ → Option ℕ → KeepTurn
turn_at k moment (Some lost) = turn_lost k k.sent
turn_at k moment None = turn_going k (max k.moment moment) k.sent

abbrev pub keep_turn : KeepSeen → ℕ → KeepTurn
keep_turn k moment = turn_at k moment k.lost

-- how an answer stands in the list
abbrev pub kind_of : KeepTurn → KeepKind
kind_of turn.Nothing = kind.Quiet
kind_of (turn.SendPing word) = kind.Ping word
kind_of (turn.Lost heard sent) = kind.Lost

-- when a turn will next answer other than Nothing; once a link is lost, when it was
abbrev pub due_going : KeepSeen → Option ℕ → ℕ
due_going k (Some sent) = sent + k.rule.timeout
due_going k None = k.heard + k.rule.time

abbrev pub due_at : KeepSeen → Option ℕ → ℕ
due_at k (Some lost) = lost
due_at k None = due_going k k.sent

abbrev pub next_due : KeepSeen → ℕ
next_due k = due_at k k.lost

-- where a link stands after bytes, or after a turn
abbrev pub stands_after : KeepSeen → KeepKind → ℕ → Option ℕ → KeepSeen
stands_after k done moment (Some lost) = k
stands_after k done moment None =
    record {
      rule = k.rule;
      moment = max k.moment moment;
      heard = received_by (max k.moment moment) k.heard done;
      pings = if is_ping done then k.pings + 1 else k.pings;
      sent = open_by (max k.moment moment) k.sent done;
      lost = if is_lost done then Some (max k.moment moment) else None;
    }

abbrev pub stand_next : KeepSeen → KeepKind → ℕ → KeepSeen
stand_next k done moment = stands_after k done moment k.lost

-- two entries of one kind
abbrev pub same_kind : KeepKind → KeepKind → Bool
same_kind kind.Octets kind.Octets = true
same_kind kind.Quiet kind.Quiet = true
same_kind (kind.Ping a) (kind.Ping b) = a == b
same_kind kind.Lost kind.Lost = true
same_kind _ _ = false

abbrev pub is_octets : KeepKind → Bool
is_octets kind.Octets = true
is_octets _ = false

-- whether an entry is what the rules say where a link stands so; bytes may come whenever they come
abbrev pub is_next : KeepSeen → KeepEntry → Bool
is_next k e = is_octets e.kind || same_kind e.kind (kind_of (keep_turn k e.moment))

-- the place of the first entry, from 1, that is not what the rules say; `older` is what stands before, newest first
abbrev pub first_fault : KeepRule → ℕ → List KeepEntry → List KeepEntry → Option ℕ
first_fault rule start older [] = None
first_fault rule start older (e ∷ later) = if is_next (stand_after rule start older) e then first_fault rule start (e ∷ older) later else Some (length older + 1)
