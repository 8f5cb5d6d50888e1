-- A drain, one frame after the other.
use Rattle.std.proofs.Common.{◌≡◌, ℕ, zero, suc, ◌<◌, ◌≤◌, ◌-◌, Bool, true, false, List, [], ◌++◌, length, refl, sym, ◌∙◌, ap, ap₂, subst, Some, None, arith, length-append}
use Rattle.std.specs.Prelude.{Option, nat_le, if◌then◌else◌, option_map, position, slice_get}
use Rattle.std.proofs.lemmas.Bool.{le-leb, leb-true, lt-leb}
use Rattle.h2_frame.specs.Frames.{written}
use Rattle.h2_server.specs.declared.control.Control.{Control}
use Rattle.h2_server.specs.declared.control.Control.TheVariants.{Settings, SettingsAck, PingAck, LinkUpdate, StreamUpdate, Reset}
use Rattle.h2_server.specs.Frames.{control_frame}
use Rattle.h2_server.specs.Outcomes as link
use Rattle.h2_server.specs.Sends.{control_sent, next_control}
use Rattle.h2_server.specs.Sends as sends
use Rattle.h2_server.specs.Wire.{Seen, Wire}
use Rattle.relay_answer.specs.Answering.{room_of}
use Rattle.relay_answer.proofs.Rooms.{lighter}
use Rattle.relay_connection.specs.declared.stream.RelayStream.{RelayStream}
use Rattle.relay_connection.specs.Draining.{Drains, Sending, Step, after_frames, goes, next, next_by, next_sent, sent_more, step_as, step_at, stream_step}
use Rattle.relay_connection.specs.Outcomes.{WentAs}
use Rattle.relay_connection.specs.Relay.{Relay}
use Rattle.relay_connection.specs.Streams.{fits, may_send, put, sent, within}

-- and has no more bytes than its room
size_as : (r : Relay) (place : ℕ) (s : RelayStream) (step : Step) (o : Option ℕ) → room_of r.link.wire s.asking.number s.answer ≡ o → step_as r place s o ≡ Some step → length step.octets ≤ step.room
size_as r place s step None e h = absurd (cc)
size_as r place s step (Some n) e h =
    let room : n ≡ step.room = cc in
    let octets : (sent r.link.wire s).octets ≡ step.octets = cc in
    let size = (lighter r.link.wire s.asking.number s.answer n e).size in
    let len = ap length octets in omega (arith, room, size, len)

size_at : (r : Relay) (place : ℕ) (step : Step) (o : Option RelayStream) → step_at r place o ≡ Some step → length step.octets ≤ step.room
size_at r place step None h = absurd (cc)
size_at r place step (Some s) h =
    size_as r place s step (room_of r.link.wire s.asking.number s.answer) refl h

size_stream : (r : Relay) (step : Step) (o : Option ℕ) → stream_step r o ≡ Some step → length step.octets ≤ step.room
size_stream r step None h = absurd (cc)
size_stream r step (Some place) h = size_at r place step (slice_get r.streams place) h

-- a frame of the link's own
short : (c : Control) → length (written (control_frame c)) ≤ 17
short Settings = omega arith
short (SettingsAck resizes) = omega arith
short (PingAck word) = omega arith
short (LinkUpdate by) = omega arith
short (StreamUpdate stream by) = omega arith
short (Reset stream code) = omega arith

short_by : (w : Wire) (s : sends.Sent) (o : Option Control) → option_map (control_sent w) o ≡ Some s → length s.octets ≤ 17
short_by w s None e = absurd (cc)
short_by w s (Some c) e =
    let same : control_sent w c ≡ s = cc in subst (λ (v : sends.Sent). length v.octets ≤ 17) same (short c)

size_next : (r : Relay) (step : Step) (o : Option sends.Sent) → next_control r.link.wire ≡ o → next_by r o ≡ Some step → length step.octets ≤ step.room
size_next r step None e h = size_stream r step (position (may_send r.link.wire) r.streams) h
size_next r step (Some s) e h =
    let room : 17 ≡ step.room = cc in
    let octets : s.octets ≡ step.octets = cc in
    let size = short_by r.link.wire s (slice_get r.link.wire.queue 0) e in
    let len = ap length octets in omega (arith, room, size, len)

-- a drain keeps within its room
fits_within : (room left : ℕ) (g : Sending) (s : Step) (b : Bool) → nat_le s.room left ≡ b → length s.octets ≤ s.room → left ≡ room - length g.octets → length g.octets ≤ room → length (sent_more g (if b then Some (record { relay = s.relay; octets = g.octets ++ s.octets }) else None)).octets ≤ room
fits_within room left g s true t size l h =
    let fits_in = leb-true s.room left t in omega (arith, fits_in, size, l, h, length-append g.octets s.octets)
fits_within room left g s false t size l h = h

goes_within : (room left : ℕ) (g : Sending) (o : Option Step) → ((s : Step) → o ≡ Some s → length s.octets ≤ s.room) → left ≡ room - length g.octets → length g.octets ≤ room → length (sent_more g (goes left g o)).octets ≤ room
goes_within room left g None size l h = h
goes_within room left g (Some s) size l h = fits_within room left g s (nat_le s.room left) refl (size s refl) l h

all_within : (room n : ℕ) (g : Sending) → length g.octets ≤ room → length (after_frames room n g).octets ≤ room
all_within room zero g h = h
all_within room (suc n) g h =
    let k = after_frames room n g in
    goes_within room (room - length k.octets) k (next k.relay) (λ (s : Step) e. size_next k.relay s (next_control k.relay.link.wire) refl e) refl (all_within room n g h)

pub drains_within : (room : ℕ) (r : Relay) (end : Sending) → Drains room r end → length end.octets ≤ room
drains_within room r end d =
    subst (λ (g : Sending). length g.octets ≤ room) d.sent_is (all_within room d.count (record { relay = r; octets = [] }) (omega arith))

went_is : (o : Option Sending) (g h : Sending) → WentAs true o g h → o ≡ Some h
went_is None g h w = absurd w
went_is (Some more) g h w = ap (λ (v : Sending). Some v) (sym w)

-- one frame more
pub goes_on : (room n left : ℕ) (start g h : Sending) → after_frames room n start ≡ g → left ≡ room - length g.octets → WentAs true (goes left g (next g.relay)) g h → after_frames room (suc n) start ≡ h
goes_on room n left start g h e l w =
    let one : next_sent room g ≡ Some h = ap (λ (v : ℕ). goes v g (next g.relay)) (sym l) ∙ went_is (goes left g (next g.relay)) g h w in
    ap (λ (v : Sending). sent_more v (next_sent room v)) e ∙ ap (sent_more g) one
