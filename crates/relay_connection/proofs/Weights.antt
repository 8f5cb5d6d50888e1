-- How much a connection has still to send: each frame makes that less.
use Rattle.std.proofs.Common.{◌≡◌, ℕ, zero, suc, ◌<◌, ◌+◌, Bool, true, false, List, [], ◌∷◌, ◌++◌, length, drop, refl, sym, ap, subst, Some, None, arith}
use Rattle.std.specs.Prelude.{Option, nat_le, if◌then◌else◌, option_map, position, slice_get, slice_set}
use Rattle.std.specs.List.{remove}
use Rattle.h2_server.specs.declared.control.Control.{Control}
use Rattle.h2_server.specs.Sends.{control_sent, next_control}
use Rattle.h2_server.specs.Sends as sends
use Rattle.h2_server.specs.Wire.{Wire}
use Rattle.relay_answer.specs.Answering.{room_of}
use Rattle.relay_answer.proofs.Rooms.{answer_weight, lighter}
use Rattle.relay_connection.specs.declared.stream.RelayStream.{RelayStream}
use Rattle.relay_connection.specs.Draining.{Sending, Step, goes, next, next_by, step_as, step_at, stream_step}
use Rattle.relay_connection.specs.Outcomes.{WentAs}
use Rattle.relay_connection.specs.Relay.{Relay}
use Rattle.relay_connection.specs.Streams.{is_over, may_send, put, sent}
use Rattle.relay_connection.proofs.Places.{get_set}

abbrev streams_weight : List RelayStream → ℕ
streams_weight [] = 0
streams_weight (s ∷ streams) = answer_weight s.answer + streams_weight streams

abbrev pub weight : Relay → ℕ
weight r = length r.link.wire.queue + streams_weight r.streams

-- the streams with one lighter, or without it
set_weight : (streams : List RelayStream) (i : ℕ) (t u : RelayStream) → slice_get streams i ≡ Some t → streams_weight (slice_set streams i u) + answer_weight t.answer ≡ streams_weight streams + answer_weight u.answer
set_weight [] i t u e = absurd (cc)
set_weight (x ∷ streams) zero t u e =
    let same : x ≡ t = cc in
    let w : answer_weight x.answer ≡ answer_weight t.answer = ap (λ (s : RelayStream). answer_weight s.answer) same in
    omega (arith, w)
set_weight (x ∷ streams) (suc i) t u e =
    let h = set_weight streams i t u e in omega (arith, h)

remove_weight : (streams : List RelayStream) (i : ℕ) (t : RelayStream) → slice_get streams i ≡ Some t → streams_weight (remove streams i) + answer_weight t.answer ≡ streams_weight streams
remove_weight [] i t e = absurd (cc)
remove_weight (x ∷ streams) zero t e =
    let same : x ≡ t = cc in
    let w : answer_weight x.answer ≡ answer_weight t.answer = ap (λ (s : RelayStream). answer_weight s.answer) same in
    omega (arith, w)
remove_weight (x ∷ streams) (suc i) t e =
    let h = remove_weight streams i t e in omega (arith, h)

put_by : (streams : List RelayStream) (place : ℕ) (t u : RelayStream) (b : Bool) → slice_get streams place ≡ Some t → answer_weight u.answer < answer_weight t.answer → streams_weight (if b then remove (slice_set streams place u) place else slice_set streams place u) < streams_weight streams
put_by streams place t u true e less =
    let h = set_weight streams place t u e in
    let k = remove_weight (slice_set streams place u) place u (get_set streams place t u e) in
    omega (arith, h, k, less)
put_by streams place t u false e less = let h = set_weight streams place t u e in omega (arith, h, less)

put_weight : (streams : List RelayStream) (place : ℕ) (t u : RelayStream) → slice_get streams place ≡ Some t → answer_weight u.answer < answer_weight t.answer → streams_weight (put streams place u) < streams_weight streams
put_weight streams place t u e less = put_by streams place t u (is_over u) e less

as_weight : (r : Relay) (place : ℕ) (s : RelayStream) (step : Step) (o : Option ℕ) → slice_get r.streams place ≡ Some s → room_of r.link.wire s.asking.number s.answer ≡ o → step_as r place s o ≡ Some step → weight step.relay < weight r
as_weight r place s step None there e h = absurd (cc)
as_weight r place s step (Some n) there e h =
    let x = sent r.link.wire s in
    let light = lighter r.link.wire s.asking.number s.answer n e in
    let queue = ap length light.queue in
    let streams = put_weight r.streams place s x.stream there light.less in
    let same : ◌≡◌ {A = Relay} (record r { link = record r.link { wire = x.wire }; streams = put r.streams place x.stream }) step.relay = cc in
    subst (λ (v : Relay). weight v < weight r) same (omega (arith, queue, streams))

at_weight : (r : Relay) (place : ℕ) (step : Step) (o : Option RelayStream) → slice_get r.streams place ≡ o → step_at r place o ≡ Some step → weight step.relay < weight r
at_weight r place step None e h = absurd (cc)
at_weight r place step (Some s) e h =
    as_weight r place s step (room_of r.link.wire s.asking.number s.answer) e refl h

stream_weight : (r : Relay) (step : Step) (o : Option ℕ) → stream_step r o ≡ Some step → weight step.relay < weight r
stream_weight r step None h = absurd (cc)
stream_weight r step (Some place) h = at_weight r place step (slice_get r.streams place) refl h

control_less_by : (w : Wire) (s : sends.Sent) (q : List Control) → w.queue ≡ q → option_map (control_sent w) (slice_get q 0) ≡ Some s → length s.wire.queue < length w.queue
control_less_by w s [] e h = absurd (cc)
control_less_by w s (c ∷ q) e h =
    let same : control_sent w c ≡ s = cc in
    let rest : drop 1 w.queue ≡ q = ap (drop 1) e in
    let size : length w.queue ≡ suc (length q) = ap length e in
    let made : length (drop 1 w.queue) < length w.queue = omega (arith, ap length rest, size) in
    subst (λ (v : sends.Sent). length v.wire.queue < length w.queue) same made

next_weight_by : (r : Relay) (step : Step) (o : Option sends.Sent) → next_control r.link.wire ≡ o → next_by r o ≡ Some step → weight step.relay < weight r
next_weight_by r step None c e = stream_weight r step (position (may_send r.link.wire) r.streams) e
next_weight_by r step (Some s) c e =
    let same : ◌≡◌ {A = Relay} (record r { link = record r.link { wire = s.wire } }) step.relay = cc in
    let less = control_less_by r.link.wire s r.link.wire.queue refl c in
    subst (λ (v : Relay). weight v < weight r) same (omega (arith, less))

went_by : (left : ℕ) (g h : Sending) (s : Step) (b : Bool) → WentAs true (if b then Some (record { relay = s.relay; octets = g.octets ++ s.octets }) else None) g h → h.relay ≡ s.relay
went_by left g h s true w = ap (λ (v : Sending). v.relay) w
went_by left g h s false w = absurd w

went_lighter : (left : ℕ) (g h : Sending) (o : Option Step) → next g.relay ≡ o → WentAs true (goes left g o) g h → weight h.relay < weight g.relay
went_lighter left g h None e w = absurd w
went_lighter left g h (Some s) e w =
    let same = went_by left g h s (nat_le s.room left) w in
    let less = next_weight_by g.relay s (next_control g.relay.link.wire) refl e in
    subst (λ (v : Relay). weight v < weight g.relay) (sym same) less

-- what went makes a connection lighter
pub lighter_then : (left : ℕ) (g h : Sending) → WentAs true (goes left g (next g.relay)) g h → weight h.relay < weight g.relay
lighter_then left g h w = went_lighter left g h (next g.relay) refl w
