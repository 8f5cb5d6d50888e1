-- Nobody has to believe these steps: what the code does to the tables of calls, buckets and links, one definition for each function.
use Rattle.std.specs.Prelude.{◌≡◌, ℕ, zero, suc, ◌-◌, ◌==◌, Bool, true, false, not, ◌&&◌, ◌||◌, nat_le, if◌then◌else◌, Option, Some, None, List, [], ◌∷◌, ◌++◌, length, slice_get, slice_set}
use Rattle.std.specs.Option.{is_none, is_some, option_map, option_map_or}
use Rattle.grpc_base.specs.ErrorCodes.{cancel}
use Rattle.grpc_base.specs.declared.event.Reply.{Reply}
use Rattle.grpc_base.specs.declared.event.Reply.TheVariants as reply
use Rattle.grpc_base.specs.declared.plan.Throttle.{Throttle}
use Rattle.a6_numbers.specs.Throttling.{Bucket, full}
use Rattle.attempt_ledger.specs.declared.ledger.Ledger.{Ledger}
use Rattle.attempt_ledger.specs.declared.news.News.{News}
use Rattle.attempt_buffer.specs.Buffers.{left_of}
use Rattle.call_core.specs.declared.act.CallAct.{CallAct}
use Rattle.call_core.specs.declared.state.CallState.{CallState}
use Rattle.call_core.specs.Parts.{fed_buffer, fed_out}
use Rattle.call_core.specs.Steps.{Stepped, cancel_reply, finish_reply, lent, send_reply, take_reply}
use Rattle.ledger_stamps.specs.Steps.{changed_at, index_at}
use Rattle.h2_link.specs.Drains.{Drains, next, opened_between}
use Rattle.h2_link.specs.Feeds.{Line}
use Rattle.h2_link.specs.Received.{handled}
use Rattle.h2_link.specs.Steps.{cut, pinged, placed, sealed_wire}
use Rattle.h2_link.specs.Wire.{Wire, fresh_wire}
use Rattle.h2_link.specs.declared.news.Drained.{Drained}
use Rattle.grpc_link.specs.Links.{GrpcSeen, link_received, opened_all, placed_reader, without}
use Rattle.grpc_link.specs.declared.link.GrpcArrival.{GrpcArrival}
use Rattle.grpc_link.specs.declared.readers.TagReader.{TagReader}
use Rattle.channel_core.specs.declared.state.slots.CallSlot.{CallSlot}
use Rattle.channel_core.specs.declared.state.links.LinkSlot.{LinkSlot}

-- the element of a number, from 1
abbrev pub numbered : {X : Type 0} → List X → ℕ → Option X
numbered xs zero = None
numbered xs (suc index) = slice_get xs index

-- the calls, what they are lent, and the acts of one of them
pub record Acted : Type 0 where
  pub calls : List CallSlot
  pub ledger : Ledger
  pub tokens : Option Bucket
  pub acts : List CallAct

abbrev pub with_call : CallState → CallSlot → CallSlot
with_call call slot = record slot { call = call }

abbrev pub acted_as : List CallSlot → ℕ → CallSlot → Stepped → Acted
acted_as calls index slot s = record { calls = slice_set calls index (with_call s.call slot); ledger = s.ledger; tokens = s.tokens; acts = s.acts }

abbrev pub acted_at : (Stepped → Stepped) → List CallSlot → ℕ → Ledger → Option Bucket → Option CallSlot → Acted
acted_at f calls index ledger tokens None = record { calls = calls; ledger = ledger; tokens = tokens; acts = [] }
acted_at f calls index ledger tokens (Some slot) = acted_as calls index slot (f (lent slot.call ledger tokens []))

abbrev pub acted_on : (Stepped → Stepped) → List CallSlot → Ledger → Option Bucket → Option ℕ → Acted
acted_on f calls ledger tokens None = record { calls = calls; ledger = ledger; tokens = tokens; acts = [] }
acted_on f calls ledger tokens (Some index) = acted_at f calls index ledger tokens (slice_get calls index)

abbrev pub acted : (Stepped → Stepped) → List CallSlot → ℕ → Ledger → Option Bucket → Acted
acted f calls number ledger tokens = acted_on f calls ledger tokens (index_at number (length calls))

-- one place of the table alone changes
abbrev pub changed_slot_at : (CallSlot → CallSlot) → List CallSlot → ℕ → Option CallSlot → List CallSlot
changed_slot_at f calls index None = calls
changed_slot_at f calls index (Some slot) = slice_set calls index (f slot)

abbrev pub changed_slot_on : (CallSlot → CallSlot) → List CallSlot → Option ℕ → List CallSlot
changed_slot_on f calls None = calls
changed_slot_on f calls (Some index) = changed_slot_at f calls index (slice_get calls index)

abbrev pub changed_slot : (CallSlot → CallSlot) → List CallSlot → ℕ → List CallSlot
changed_slot f calls number = changed_slot_on f calls (index_at number (length calls))

-- one call alone changes
abbrev pub changed_call_at : (CallState → CallState) → List CallSlot → ℕ → Option CallSlot → List CallSlot
changed_call_at f calls index None = calls
changed_call_at f calls index (Some slot) = slice_set calls index (with_call (f slot.call) slot)

abbrev pub changed_call_on : (CallState → CallState) → List CallSlot → Option ℕ → List CallSlot
changed_call_on f calls None = calls
changed_call_on f calls (Some index) = changed_call_at f calls index (slice_get calls index)

abbrev pub changed_call : (CallState → CallState) → List CallSlot → ℕ → List CallSlot
changed_call f calls number = changed_call_on f calls (index_at number (length calls))

abbrev pub fed_call : ℕ → ℕ → CallState → CallState
fed_call row len call = record call { buffer = fed_buffer row len call.buffer }

abbrev pub fed_out_of : ℕ → ℕ → List ℕ → Option CallSlot → List ℕ
fed_out_of row len out None = out
fed_out_of row len out (Some slot) = fed_out row len slot.call.buffer out

-- what a row of a call has still to send
abbrev pub left_at : ℕ → Option CallSlot → List ℕ
left_at row None = []
left_at row (Some slot) = left_of row slot.call.buffer

-- the replies
abbrev pub send_reply_of : List ℕ → Option CallSlot → Reply
send_reply_of message None = reply.Done
send_reply_of message (Some slot) = send_reply message slot.call

abbrev pub finish_reply_of : Option CallSlot → Reply
finish_reply_of None = reply.Done
finish_reply_of (Some slot) = finish_reply slot.call

abbrev pub cancel_reply_of : Option CallSlot → Reply
cancel_reply_of None = reply.Done
cancel_reply_of (Some slot) = cancel_reply slot.call

abbrev pub take_reply_of : Ledger → Option CallSlot → Reply
take_reply_of ledger None = reply.Done
take_reply_of ledger (Some slot) = take_reply ledger slot.call

-- the timers that stand for a call
abbrev pub with_timers : Option ℕ → Option ℕ → CallSlot → CallSlot
with_timers due deadline slot = record slot { due = due; deadline = deadline }

abbrev pub without_due : CallSlot → CallSlot
without_due slot = record slot { due = None }

-- the bucket of a call that has no configuration yet
abbrev pub with_bucket : ℕ → CallSlot → CallSlot
with_bucket bucket slot = record slot { bucket = if is_some slot.call.chosen then slot.bucket else bucket }

-- the buckets, one for each run of configs with equal throttling, after that of calls without a configuration
pub record BucketsSeen : Type 0 where
  pub runs : List (Option Bucket)
  pub throttle : Option Throttle

abbrev pub no_buckets : BucketsSeen
no_buckets = record { runs = None ∷ []; throttle = None }

abbrev pub is_same_throttle : Option Throttle → Option Throttle → Bool
is_same_throttle None None = true
is_same_throttle None (Some t) = false
is_same_throttle (Some s) None = false
is_same_throttle (Some s) (Some t) = (s.start == t.start) && (s.ratio == t.ratio)

abbrev pub goes_on : Option Throttle → BucketsSeen → Bool
goes_on throttle b = not (nat_le (length b.runs) 1) && is_same_throttle b.throttle throttle

abbrev pub followed : Option Throttle → BucketsSeen → BucketsSeen
followed throttle b =
    if goes_on throttle b then b
    else record { runs = b.runs ++ option_map full throttle ∷ []; throttle = throttle }

abbrev pub last_run : BucketsSeen → ℕ
last_run b = length b.runs - 1

abbrev pub tokens_in : BucketsSeen → ℕ → Option Bucket
tokens_in b bucket = option_map_or (λ tokens. tokens) (slice_get b.runs bucket) None

abbrev pub with_tokens : ℕ → Option Bucket → BucketsSeen → BucketsSeen
with_tokens bucket tokens b = record b { runs = slice_set b.runs bucket tokens }

-- the links
abbrev pub fresh_link : GrpcSeen
fresh_link = record { link = record { wire = fresh_wire; rest = [] }; readers = [] }

abbrev pub new_slot : GrpcSeen → LinkSlot
new_slot link = record { link = link; dead = false; retiring = false }

abbrev pub marked_dead : LinkSlot → LinkSlot
marked_dead slot = record slot { dead = true }

abbrev pub retired : LinkSlot → LinkSlot
retired slot = record slot { retiring = true }

abbrev pub is_dead_at : Option LinkSlot → Bool
is_dead_at None = true
is_dead_at (Some slot) = slot.dead

abbrev pub is_retiring_at : Option LinkSlot → Bool
is_retiring_at None = true
is_retiring_at (Some slot) = slot.retiring

abbrev pub is_dead : List LinkSlot → ℕ → Bool
is_dead links link = is_dead_at (numbered links link)

abbrev pub is_retiring : List LinkSlot → ℕ → Bool
is_retiring links link = is_retiring_at (numbered links link)

abbrev pub has_link : List LinkSlot → ℕ → Bool
has_link links link = is_some (numbered links link)

-- what happens to the link of a number; nothing where there is none
abbrev pub with_link : (GrpcSeen → GrpcSeen) → LinkSlot → LinkSlot
with_link f slot = record slot { link = f slot.link }

abbrev pub reset_link : ℕ → GrpcSeen → GrpcSeen
reset_link row g = record { link = record g.link { wire = cut g.link.wire row cancel }; readers = without row g.readers }

abbrev pub sealed_link : GrpcSeen → GrpcSeen
sealed_link g = record g { link = record g.link { wire = sealed_wire g.link.wire } }

abbrev pub pinged_link : ℕ → GrpcSeen → GrpcSeen
pinged_link word g = record g { link = record g.link { wire = pinged g.link.wire word } }

abbrev pub placed_link : ℕ → ℕ → GrpcSeen → GrpcSeen
placed_link row limit g = record { link = record g.link { wire = placed g.link.wire row }; readers = placed_reader row limit g.readers }

abbrev pub reset_in : ℕ → ℕ → List LinkSlot → List LinkSlot
reset_in link row links = changed_at (with_link (reset_link row)) links link

abbrev pub sealed_in : ℕ → List LinkSlot → List LinkSlot
sealed_in link links = changed_at (with_link sealed_link) links link

abbrev pub pinged_in : ℕ → ℕ → List LinkSlot → List LinkSlot
pinged_in link word links = changed_at (with_link (pinged_link word)) links link

abbrev pub marked_dead_in : ℕ → List LinkSlot → List LinkSlot
marked_dead_in link links = changed_at marked_dead links link

abbrev pub retired_in : ℕ → List LinkSlot → List LinkSlot
retired_in link links = changed_at retired links link

-- an attempt may be placed on a link that is neither broken nor retiring
abbrev pub takes_rows_at : Option LinkSlot → Bool
takes_rows_at None = false
takes_rows_at (Some slot) = not (is_some slot.link.link.wire.broken || slot.link.link.wire.retiring)

abbrev pub takes_rows : ℕ → List LinkSlot → Bool
takes_rows link links = takes_rows_at (numbered links link)

abbrev pub placed_in : ℕ → ℕ → ℕ → List LinkSlot → List LinkSlot
placed_in link row limit links = if takes_rows link links then changed_at (with_link (placed_link row limit)) links link else links

-- what a link is notified of the next bytes; None where there is no such link, or it is dead
pub record Received : Type 0 where
  pub links : List LinkSlot
  pub taken : ℕ
  pub read : ℕ
  pub news : List News

abbrev pub received_link : List ℕ → GrpcSeen → GrpcSeen
received_link piece g = (link_received g piece).link

abbrev pub received_by : LinkSlot → ℕ → List ℕ → List LinkSlot → Received
received_by slot link piece links = record {
  links = changed_at (with_link (received_link piece)) links link;
  taken = (handled slot.link.link piece).taken;
  read = (handled slot.link.link piece).link.wire.read;
  news = (link_received slot.link piece).news;
}

abbrev pub receives_at : Option LinkSlot → Bool
receives_at None = false
receives_at (Some slot) = not (slot.dead || is_some slot.link.link.wire.broken)

abbrev pub received_at : Option LinkSlot → ℕ → List ℕ → List LinkSlot → Option Received
received_at None link piece links = None
received_at (Some slot) link piece links = if receives_at (Some slot) then Some (received_by slot link piece links) else None

abbrev pub received_in : ℕ → List ℕ → List LinkSlot → Option Received
received_in link piece links = received_at (numbered links link) link piece links

-- what the call answers of it
abbrev pub arrival_of : Received → GrpcArrival
arrival_of h = record { taken = h.taken; read = h.read; news = h.news }

abbrev pub arrival_by : List ℕ → LinkSlot → GrpcArrival
arrival_by piece slot = record {
  taken = (handled slot.link.link piece).taken;
  read = (handled slot.link.link piece).link.wire.read;
  news = (link_received slot.link piece).news;
}

abbrev pub arrival_at : List ℕ → Option LinkSlot → Option GrpcArrival
arrival_at piece None = None
arrival_at piece (Some slot) = if receives_at (Some slot) then Some (arrival_by piece slot) else None

abbrev pub links_received : List LinkSlot → Option Received → List LinkSlot
links_received links h = option_map_or (λ h. h.links) h links

-- a drain: whole frames, as many as fit, and the streams that they opened; nothing where the link is broken, there is none, or the
-- room is too small
abbrev pub drains_at : ℕ → Option LinkSlot → Bool
drains_at room None = false
drains_at room (Some slot) = not (is_some slot.link.link.wire.broken) && nat_le 16393 room

abbrev pub with_drained : Wire → List TagReader → LinkSlot → LinkSlot
with_drained wire readers slot = record slot { link = record { link = record slot.link.link { wire = wire }; readers = readers } }

pub record DrainsOn (room : ℕ) (slot : LinkSlot) (lines : ℕ → Line) (drained : Drained) (after : LinkSlot) (lines_after : ℕ → Line) : Type 0 where
  pub may : drains_at room (Some slot) ≡ true
  pub sends : Drains room slot.link.link.wire lines drained.octets after.link.link.wire lines_after
  pub opened : drained.opened ≡ opened_between slot.link.link.wire after.link.link.wire
  pub readers : after.link.readers ≡ opened_all drained.opened slot.link.readers
  pub rest : after ≡ with_drained after.link.link.wire after.link.readers slot

-- what a drain of one link gives: nothing, where it does not drain
abbrev pub SlotGives : ℕ → LinkSlot → (ℕ → Line) → Option Drained → LinkSlot → (ℕ → Line) → Type 0
SlotGives room slot lines None after lines_after = (drains_at room (Some slot) ≡ false) × (after ≡ slot) × (lines_after ≡ lines)
SlotGives room slot lines (Some drained) after lines_after = DrainsOn room slot lines drained after lines_after

-- the same of the link of a number
pub record LinkDrains (room : ℕ) (links : List LinkSlot) (link : ℕ) (lines : ℕ → Line) (drained : Drained) (links_after : List LinkSlot) (lines_after : ℕ → Line) : Type 0 where
  pub before : LinkSlot
  pub after : LinkSlot
  pub was : numbered links link ≡ Some before
  pub drains : DrainsOn room before lines drained after lines_after
  pub is : links_after ≡ changed_at (λ slot. after) links link

abbrev pub DrainGives : ℕ → List LinkSlot → ℕ → (ℕ → Line) → Option Drained → List LinkSlot → (ℕ → Line) → Type 0
DrainGives room links link lines None links_after lines_after = (drains_at room (numbered links link) ≡ false) × (links_after ≡ links) × (lines_after ≡ lines)
DrainGives room links link lines (Some drained) links_after lines_after = LinkDrains room links link lines drained links_after lines_after

-- whether a drain with room enough would give something
abbrev pub can_drain_at : (ℕ → Line) → Option LinkSlot → Bool
can_drain_at lines None = false
can_drain_at lines (Some slot) = is_none slot.link.link.wire.broken && is_some (next slot.link.link.wire lines)
