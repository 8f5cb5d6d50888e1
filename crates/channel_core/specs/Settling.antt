-- Nobody has to believe these steps: how the channel serves its queue and settles after an event, one definition for each function.
use Rattle.std.specs.Prelude.{ℕ, zero, suc, Bool, true, false, ◌||◌, if◌then◌else◌, Option, Some, None}
use Rattle.std.specs.BTreeSet.{insert_key}
use Rattle.grpc_base.specs.declared.kind.Pick.{Pick}
use Rattle.grpc_base.specs.declared.kind.Pick.TheVariants as pick
use Rattle.attempt_ledger.specs.declared.row.Placed.{Placed}
use Rattle.picker_gate.specs.Pairs.{pair_cmp}
use Rattle.channel_net.specs.declared.replies.Asked.{Asked}
use Rattle.channel_net.specs.Lists as net_lists
use Rattle.channel_net.specs.Steps as net
use Rattle.channel_core.specs.Books.{book_placed, limit_at, slot_at}
use Rattle.channel_core.specs.States.{StateSeen}
use Rattle.channel_core.specs.Steps.{Moved, asked_by, unconfigured_served, clocked, net_settled, next_served, pick_failed, round_made, unqueued, with_book}
use Rattle.channel_core.specs.Tables.{placed_in, takes_rows}

abbrev pub stays : StateSeen → Moved
stays s = record { state = s; moved = false }

abbrev pub moves : StateSeen → Moved
moves s = record { state = s; moved = true }

-- an attempt is offered to a link, which takes it or not
abbrev pub offered : ℕ → ℕ → ℕ → StateSeen → StateSeen
offered link row limit s = record s { links = placed_in link row limit s.links }

-- an attempt that a link took leaves the queue and is outstanding
abbrev pub outstanding_on : ℕ → ℕ → StateSeen → StateSeen
outstanding_on link row s = record s { outstanding = insert_key pair_cmp s.outstanding (link, row) }

abbrev pub settled_in : ℕ → ℕ → Placed → StateSeen → StateSeen
settled_in number row at s = with_book (book_placed row at number s.book) number (outstanding_on at.link row (unqueued number row s))

abbrev pub place_at : ℕ → ℕ → ℕ → StateSeen → Placed
place_at generation sub link s = record { entry = s.book.ledger.entry; moment = s.book.moment; generation = generation; sub = sub; link = link }

abbrev pub placed_if : Bool → ℕ → ℕ → Placed → StateSeen → Moved
placed_if takes number row at s = if takes then moves (settled_in number row at s) else stays s

abbrev pub placed_on : ℕ → ℕ → ℕ → ℕ → Option ℕ → StateSeen → Moved
placed_on number row generation sub None s = stays s
placed_on number row generation sub (Some link) s =
    placed_if (takes_rows link s.links) number row (place_at generation sub link s) (offered link row (limit_at (slot_at s.book number)) s)

abbrev pub placed : ℕ → ℕ → ℕ → ℕ → StateSeen → Moved
placed number row generation sub s = placed_on number row generation sub (net_lists.link_of s.net.links sub) s

-- what the policy picks for an attempt is followed
abbrev pub picked : ℕ → ℕ → ℕ → Pick → StateSeen → Moved
picked number row generation (pick.Place sub) s = placed number row generation sub s
picked number row generation pick.Wait s = stays s
picked number row generation pick.Fail s = moves (pick_failed number row s)

-- an attempt is served: the policy is asked, and its answer noted and followed
abbrev pub served_by : ℕ → ℕ → Option Asked → StateSeen → Moved
served_by number row None s = stays s
served_by number row (Some a) s = picked number row a.generation a.pick (asked_by row a s)

abbrev pub asked : StateSeen → StateSeen
asked s = record s { net = net.net_asked s.net }

abbrev pub served : ℕ → ℕ → StateSeen → Moved
served number row s = served_by number row (net.net_answer s.net) (asked s)

-- a step that moved something, or not, after others
abbrev pub also : Bool → Moved → Moved
also moved m = record { state = m.state; moved = moved || m.moved }

-- one pass over the queue: each attempt stands after the one before
abbrev pub passed_on : (ℕ × ℕ → Moved → Moved) → Option (ℕ × ℕ) → Moved → Moved
passed_on further None m = m
passed_on further (Some p) m = further p (also m.moved (served p.0 p.1 m.state))

unfoldable pub passed : ℕ → ℕ × ℕ → Moved → Moved
passed zero last m = m
passed (suc left) last m = passed_on (passed left) (next_served last m.state) m

-- more rounds than a settling can have, since each but the last makes or serves an attempt; and more attempts than a queue holds
abbrev pub most : ℕ
most = 18446744073709551615

abbrev pub queue_served : StateSeen → Moved
queue_served s = passed most (0, 0) (stays s)

-- a round: due attempts, then the queue
abbrev pub round_on : Moved → Moved
round_on m = also m.moved (queue_served m.state)

abbrev pub round : StateSeen → Moved
round s = round_on (round_made s)

-- rounds until nothing moves
abbrev pub rounds_on : (StateSeen → StateSeen) → Moved → StateSeen
rounds_on further m = if m.moved then further m.state else m.state

unfoldable pub rounds : ℕ → StateSeen → StateSeen
rounds zero s = s
rounds (suc left) s = rounds_on (rounds left) (round s)

-- before them: the dial limits and backoffs that are over, what the policies wish, and the calls without a configuration
abbrev pub prepared : StateSeen → StateSeen
prepared s = unconfigured_served (net_settled (clocked s))

abbrev pub settled : StateSeen → StateSeen
settled s = rounds most (prepared s)
