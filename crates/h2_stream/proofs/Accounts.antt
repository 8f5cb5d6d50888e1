-- What a run adds up to, by induction over its calls.
use Rattle.std.proofs.Common.{◌≡◌, ◌<◌, ◌≤◌, ℕ, ◌+◌, ℤ, pos, negsuc, ◌+ℤ◌, ◌-ℤ◌, ◌≤ℤ◌, Bool, true, false, List, [], ◌∷◌, refl, arith, if◌then◌else◌}
use Rattle.std.proofs.lemmas.Int.{ints}
use Rattle.std.proofs.lemmas.List.Sums.{sum_by-cons}
use Rattle.std.specs.Prelude.{int_lt, not, ◌&&◌}
use Rattle.h2_stream.specs.State.{is_closed_locally, is_closed_remotely}
use Rattle.h2_stream.specs.Stream.{StreamView, sendable, or_zero}
use Rattle.h2_stream.specs.Runs.{Event, Headers, Data, WindowUpdate, Shift, Sent, Granted, Reset, after, run, is_taken, taken, credit, credit_in, sent_by, sent_in, received_by, received_in, granted_by, granted_in}
use Rattle.h2_stream.proofs.Choices.{if_kept, if_same}

after_headers-send : (s : StreamView) (end : Bool) → (after s (Headers end)).send ≡ s.send
after_headers-send s end =
    let f : StreamView → ℤ = λ t. t.send in
    if_kept f s.send s (is_closed_remotely s.state) _ _ refl (if_kept f s.send s (s.head && not end) _ _ refl refl)

after_data-send : (s : StreamView) (len : ℕ) (end : Bool) → (after s (Data len end)).send ≡ s.send
after_data-send s len end =
    let f : StreamView → ℤ = λ t. t.send in
    if_kept f s.send s (is_closed_remotely s.state) _ _ refl (if_kept f s.send s (not s.head) _ _ refl (if_kept f s.send s (int_lt s.receive (pos len)) _ _ refl refl))

after_headers-receive : (s : StreamView) (end : Bool) → (after s (Headers end)).receive ≡ s.receive
after_headers-receive s end =
    let f : StreamView → ℤ = λ t. t.receive in
    if_kept f s.receive s (is_closed_remotely s.state) _ _ refl (if_kept f s.receive s (s.head && not end) _ _ refl refl)

-- what one call does to the send window
after-send : (s : StreamView) (e : Event) → (after s e).send ≡ (s.send +ℤ (if is_taken s e then credit e else pos 0)) -ℤ pos (sent_by e)
after-send s (Headers end) = rw (after_headers-send s end, if_same (pos 0) (is_taken s (Headers end))) (omega (arith, ints))
after-send s (Data len end) = rw (after_data-send s len end, if_same (pos 0) (is_taken s (Data len end))) (omega (arith, ints))
after-send s (WindowUpdate by) = grind (arith, ints)
after-send s (Shift by) = grind (arith, ints)
after-send s (Sent len end) = grind (arith, ints)
after-send s (Granted by) = grind (arith, ints)
after-send s Reset = grind (arith, ints)

-- what one call does to the receive window
after-receive : (s : StreamView) (e : Event) → (after s e).receive ≡ (s.receive +ℤ pos (granted_by e)) -ℤ pos (if is_taken s e then received_by e else 0)
after-receive s (Headers end) = rw (after_headers-receive s end, if_same {A = ℕ} 0 (is_taken s (Headers end))) (omega (arith, ints))
after-receive s (Data len end) = grind (arith, ints)
after-receive s (WindowUpdate by) = grind (arith, ints)
after-receive s (Shift by) = grind (arith, ints)
after-receive s (Sent len end) = grind (arith, ints)
after-receive s (Granted by) = grind (arith, ints)
after-receive s Reset = grind (arith, ints)

credit_in-if : (c : Bool) (e : Event) (rest : List Event) → credit_in (if c then e ∷ rest else rest) ≡ (if c then credit e else pos 0) +ℤ credit_in rest
credit_in-if true e rest = refl
credit_in-if false e rest = omega (arith, ints)

received_in-if : (c : Bool) (e : Event) (rest : List Event) → received_in (if c then e ∷ rest else rest) ≡ (if c then received_by e else 0) + received_in rest
received_in-if true e rest = sum_by-cons received_by e rest
received_in-if false e rest = omega arith

pub send_window : (s : StreamView) (es : List Event) → (run s es).send ≡ (s.send +ℤ credit_in (taken s es)) -ℤ pos (sent_in es)
send_window s [] = omega (arith, ints)
send_window s (e ∷ es) =
    let later = send_window (after s e) es in
    let first = after-send s e in
    let credits = credit_in-if (is_taken s e) e (taken (after s e) es) in
    let sums : sent_in (e ∷ es) ≡ sent_by e + sent_in es = sum_by-cons sent_by e es in
    rw (later, credits, first, sums) (omega (arith, ints))

pub receive_window : (s : StreamView) (es : List Event) → (run s es).receive ≡ (s.receive +ℤ pos (granted_in es)) -ℤ pos (received_in (taken s es))
receive_window s [] = omega (arith, ints)
receive_window s (e ∷ es) =
    let later = receive_window (after s e) es in
    let first = after-receive s e in
    let received = received_in-if (is_taken s e) e (taken (after s e) es) in
    let sums : granted_in (e ∷ es) ≡ granted_by e + granted_in es = sum_by-cons granted_by e es in
    rw (later, received, first, sums) (omega (arith, ints))

or_zero_above : (z : ℤ) (n : ℕ) → 0 < n → n ≤ or_zero z → pos n ≤ℤ z
or_zero_above (pos m) n some h = omega (arith, ints)
or_zero_above (negsuc m) n some h = absurd (omega arith)

sendable_above : (s : StreamView) (n : ℕ) → 0 < n → n ≤ sendable s → pos n ≤ℤ s.send
sendable_above s n some h =
    elim (is_closed_locally s.state) as (λ c. n ≤ (if c then 0 else or_zero s.send) → pos n ≤ℤ s.send)
    [ true ↦ λ none. absurd (omega arith) | false ↦ λ within. or_zero_above s.send n some within ] h

pub sent_within_credit : (s : StreamView) (es : List Event) (len : ℕ) → 0 < len → len ≤ sendable (run s es) → pos (sent_in es + len) ≤ℤ (s.send +ℤ credit_in (taken s es))
sent_within_credit s es len some within =
    let above = sendable_above (run s es) len some within in
    let account = send_window s es in
    omega (arith, ints)

data_fits : (s : StreamView) (len : ℕ) (end : Bool) → is_taken s (Data len end) ≡ true → pos len ≤ℤ s.receive
data_fits s len end h = grind (arith, ints)

pub received_within_grants : (s : StreamView) (es : List Event) (len : ℕ) (end : Bool) → is_taken (run s es) (Data len end) ≡ true → pos (received_in (taken s es) + len) ≤ℤ (s.receive +ℤ pos (granted_in es))
received_within_grants s es len end taken_now =
    let fits = data_fits (run s es) len end taken_now in
    let account = receive_window s es in
    omega (arith, ints)
