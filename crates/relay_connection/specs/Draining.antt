-- What a connection of a relay sends, in which order.
use Rattle.std.specs.Prelude.{◌≡◌, ℕ, zero, suc, ◌-◌, nat_le, if◌then◌else◌, Option, Some, None, List, [], ◌++◌, length, position, slice_get}
use Rattle.h2_server.specs.Sends as link
use Rattle.h2_server.specs.Sends.{next_control}
use Rattle.relay_answer.specs.Answering.{room_of}
use Rattle.relay_connection.specs.Relay.{Relay}
use Rattle.relay_connection.specs.Streams.{may_send, put, sent}
use Rattle.relay_connection.specs.declared.stream.RelayStream.{RelayStream}

-- a connection after a frame, the frame's bytes, and the room for which it is tested
pub record Step : Type 0 where
  pub relay : Relay
  pub octets : List ℕ
  pub room : ℕ

-- the next frame of the stream at a place
abbrev pub step_as : Relay → ℕ → RelayStream → Option ℕ → Option Step
step_as r place s None = None
step_as r place s (Some room) =
    let x = sent r.link.wire s in
    Some (record {
      relay = record r { link = record r.link { wire = x.wire }; streams = put r.streams place x.stream };
      octets = x.octets;
      room = room;
    })

abbrev pub step_at : Relay → ℕ → Option RelayStream → Option Step
step_at r place None = None
step_at r place (Some s) = step_as r place s (room_of r.link.wire s.asking.number s.answer)

-- of the first stream, in the order of their opening, that may send something
abbrev pub stream_step : Relay → Option ℕ → Option Step
stream_step r None = None
stream_step r (Some place) = step_at r place (slice_get r.streams place)

-- the link's own frames stand before all others
abbrev pub next_by : Relay → Option link.Sent → Option Step
next_by r (Some s) =
    Some (record { relay = record r { link = record r.link { wire = s.wire } }; octets = s.octets; room = 17 })
next_by r None = stream_step r (position (may_send r.link.wire) r.streams)

abbrev pub next : Relay → Option Step
next r = next_by r (next_control r.link.wire)

-- a connection and what it sent so far
pub record Sending : Type 0 where
  pub relay : Relay
  pub octets : List ℕ

-- a frame goes where it has room
abbrev pub goes : ℕ → Sending → Option Step → Option Sending
goes left g None = None
goes left g (Some s) =
    if nat_le s.room left then Some (record { relay = s.relay; octets = g.octets ++ s.octets }) else None

abbrev pub next_sent : ℕ → Sending → Option Sending
next_sent room g = goes (room - length g.octets) g (next g.relay)

abbrev pub sent_more : Sending → Option Sending → Sending
sent_more g None = g
sent_more g (Some more) = more

-- so many frames
abbrev pub after_frames : ℕ → ℕ → Sending → Sending
after_frames room zero g = g
after_frames room (suc n) g = sent_more (after_frames room n g) (next_sent room (after_frames room n g))

-- a drain: frames, until the next one has no room, or there is none
pub record Drains (room : ℕ) (r : Relay) (end : Sending) : Type 0 where
  pub count : ℕ
  pub sent_is : after_frames room count (record { relay = r; octets = [] }) ≡ end
  pub stops : next_sent room end ≡ None
