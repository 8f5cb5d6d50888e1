-- One subchannel and what happens to it ("gRPC Connectivity Semantics and API"; gRPC, "Connection Backoff Protocol").
use Rattle.std.specs.Prelude.{ℕ, ◌+◌, ◌-◌, ◌^◌, max, min, Bool, true, false, not, ◌&&◌, nat_le, is_some, if◌then◌else◌, Option, Some, None}
use Rattle.std.specs.Option.{option_map_or}
use Rattle.grpc_base.specs.declared.address.Address.{Address}
use Rattle.grpc_base.specs.declared.event.Conn.{Conn}
use Rattle.grpc_base.specs.declared.event.Conn.TheVariants as conn
use Rattle.grpc_base.specs.Backoff.{connect_wait, connect_least}

-- a subchannel as the channel's law sees it, but for the number of its link
pub record SubRecord : Type 0 where
  pub address : Address
  pub state : Conn
  -- how often it was dialled since it was last READY
  pub dials : ℕ
  -- when it may be dialled again, from a dial until it is READY or IDLE
  pub again : Option ℕ
  -- when the dial that was taken is given up
  pub until : Option ℕ
  -- whether it has a link of its own
  pub linked : Bool

-- the tests of a state
abbrev pub is_connecting : Conn → Bool
is_connecting conn.Connecting = true
is_connecting _ = false

abbrev pub is_ready : Conn → Bool
is_ready conn.Ready = true
is_ready _ = false

abbrev pub is_failure : Conn → Bool
is_failure conn.Failure = true
is_failure _ = false

abbrev pub is_idle : Conn → Bool
is_idle conn.Idle = true
is_idle _ = false

abbrev pub is_shut : Conn → Bool
is_shut conn.Shutdown = true
is_shut _ = false

-- whether it is not SHUTDOWN
abbrev pub is_live : SubRecord → Bool
is_live s = not (is_shut s.state)

-- CONNECTING, and its dial is not taken
abbrev pub is_dialable : SubRecord → Bool
is_dialable s = is_connecting s.state && not (is_some s.until)

-- CONNECTING, with a dial that was taken and no link
abbrev pub is_dialing : SubRecord → Bool
is_dialing s = is_connecting s.state && is_some s.until && not s.linked

-- CONNECTING, with a link that has not shown the server's SETTINGS
abbrev pub awaits_preface : SubRecord → Bool
awaits_preface s = is_connecting s.state && is_some s.until && s.linked

-- a new subchannel
abbrev pub new_sub : Address → SubRecord
new_sub a = record { address = a; state = conn.Idle; dials = 0; again = None; until = None; linked = false }

-- a policy wishes it connected
abbrev pub wished : SubRecord → SubRecord
wished s = if is_idle s.state then record s { state = conn.Connecting } else s

-- one dial more; the count stands still at the end of its type
abbrev pub next_dials : SubRecord → ℕ
next_dials s = min (s.dials + 1) (2 ^ 32 - 1)

-- when a dial at a moment may be followed by another, and when it is given up
abbrev pub again_after : SubRecord → ℕ → ℕ → ℕ
again_after s moment word = moment + connect_wait (next_dials s) word

abbrev pub until_after : SubRecord → ℕ → ℕ → ℕ
until_after s moment word = max (again_after s moment word) (moment + connect_least)

-- its dial is taken
abbrev pub dialed : ℕ → ℕ → SubRecord → SubRecord
dialed moment word s =
    if is_dialable s then record s { dials = next_dials s; again = Some (again_after s moment word); until = Some (until_after s moment word) }
    else s

-- its dial is a link
abbrev pub linked_up : SubRecord → SubRecord
linked_up s = if is_dialing s then record s { linked = true } else s

-- an attempt to connect ended without success
abbrev pub backing_off : SubRecord → SubRecord
backing_off s = record s { state = conn.Failure; until = None; linked = false }

-- its dial failed
abbrev pub failed : SubRecord → SubRecord
failed s = if is_dialing s then backing_off s else s

-- the server's first SETTINGS came
abbrev pub prefaced : SubRecord → SubRecord
prefaced s = if awaits_preface s then record s { state = conn.Ready; dials = 0; again = None; until = None } else s

-- its link is lost, broken or retiring
abbrev pub lost : SubRecord → SubRecord
lost s =
    if awaits_preface s then backing_off s
    else if is_ready s.state then record s { state = conn.Idle; linked = false }
    else s

-- its address is in no list any more
abbrev pub shut_down : SubRecord → SubRecord
shut_down s = record s { state = conn.Shutdown; again = None; until = None; linked = false }

-- when the clock changes it
abbrev pub next_of : SubRecord → Option ℕ
next_of s = if is_failure s.state then s.again else (if is_connecting s.state then s.until else None)

abbrev pub is_due : ℕ → SubRecord → Bool
is_due moment s = option_map_or (λ t. nat_le t moment) (next_of s) false

-- the clock reached a moment: a backoff is over, or a dial is given up
abbrev pub clocked : ℕ → SubRecord → SubRecord
clocked moment s =
    if is_due moment s then (if is_failure s.state then record s { state = conn.Idle; again = None } else backing_off s)
    else s
