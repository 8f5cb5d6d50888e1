-- Whole runs of a stream: the calls made on it, in order, and what they add up to.
use Rattle.std.specs.Prelude.{◌≡◌, ◌≤◌, ℕ, ℤ, pos, neg_ℤ, ◌+ℤ◌, ◌-ℤ◌, ◌≤ℤ◌, Bool, true, false, not, ◌&&◌, if◌then◌else◌, List, [], ◌∷◌, Result, Ok, is_ok, sum_by}
use Rattle.std.specs.List.{list_any}
use Rattle.std.specs.Result.{result_unwrap_or}
use Rattle.h2_stream.specs.declared.fault.StreamFault.{StreamFault}
use Rattle.h2_stream.specs.State.{is_closed, is_closed_remotely}
use Rattle.h2_stream.specs.Stream.{StreamView, largest_window, sendable}
use Rattle.h2_stream.specs.Steps.{headers_step, data_step, window_step, shift_step, sent_step, granted_step, reset_step}

-- a call: on_headers, on_data, on_window, shift, sent, granted, reset
pub data Event : Type 0 where
  Headers : Bool → Event
  Data : ℕ → Bool → Event
  WindowUpdate : ℕ → Event
  Shift : ℤ → Event
  Sent : ℕ → Bool → Event
  Granted : ℕ → Event
  Reset : Event

abbrev pub step : StreamView → Event → Result StreamView StreamFault
step s (Headers end) = headers_step s end
step s (Data len end) = data_step s len end
step s (WindowUpdate by) = window_step s by
step s (Shift by) = shift_step s by
step s (Sent len end) = Ok (sent_step s len end)
step s (Granted by) = Ok (granted_step s by)
step s Reset = Ok (reset_step s)

-- a fault changes nothing
abbrev pub after : StreamView → Event → StreamView
after s event = result_unwrap_or (step s event) s

abbrev pub run : StreamView → List Event → StreamView
run s [] = s
run s (event ∷ events) = run (after s event) events

-- it comes too late to mean anything
abbrev pub is_passed_over : StreamView → Event → Bool
is_passed_over s (Headers end) = is_closed_remotely s.state
is_passed_over s (Data len end) = is_closed_remotely s.state
is_passed_over s (WindowUpdate by) = is_closed s.state
is_passed_over s (Shift by) = is_closed s.state
is_passed_over s Reset = is_closed s.state
is_passed_over s _ = false

-- it is neither refused nor passed over
abbrev pub is_taken : StreamView → Event → Bool
is_taken s event = is_ok (step s event) && not (is_passed_over s event)

-- the calls of a run that are taken
abbrev pub taken : StreamView → List Event → List Event
taken s [] = []
taken s (event ∷ events) = if is_taken s event then event ∷ taken (after s event) events else taken (after s event) events

-- how many octets of DATA more the peer lets this side send
abbrev pub credit : Event → ℤ
credit (WindowUpdate by) = pos by
credit (Shift by) = by
credit _ = pos 0

abbrev pub credit_in : List Event → ℤ
credit_in [] = pos 0
credit_in (event ∷ events) = credit event +ℤ credit_in events

-- how many octets of DATA this side sends
abbrev pub sent_by : Event → ℕ
sent_by (Sent len end) = len
sent_by _ = 0

abbrev pub sent_in : List Event → ℕ
sent_in events = sum_by sent_by events

-- how many octets of DATA more this side lets the peer send
abbrev pub granted_by : Event → ℕ
granted_by (Granted by) = by
granted_by _ = 0

abbrev pub granted_in : List Event → ℕ
granted_in events = sum_by granted_by events

-- how many octets of DATA the peer sends
abbrev pub received_by : Event → ℕ
received_by (Data len end) = len
received_by _ = 0

abbrev pub received_in : List Event → ℕ
received_in events = sum_by received_by events

-- what the peer's END_STREAM ends
abbrev pub is_content : Event → Bool
is_content (Headers end) = true
is_content (Data len end) = true
is_content _ = false

-- what the peer does; a reset is of either side
abbrev pub is_from_peer : Event → Bool
is_from_peer (Sent len end) = false
is_from_peer (Granted by) = false
is_from_peer _ = true

-- no header block and no DATA of these is taken
pub record TakesNoContent (s : StreamView) (events : List Event) : Type 0 where
  pub taken_is : list_any is_content (taken s events) ≡ false
  pub state : is_closed_remotely (run s events).state ≡ true
  pub head : (run s events).head ≡ s.head
  pub receive : (run s events).receive ≡ s.receive +ℤ pos (granted_in events)

-- nothing that the peer does in these is taken
pub record TakesNothing (s : StreamView) (events : List Event) : Type 0 where
  pub taken_is : list_any is_from_peer (taken s events) ≡ false
  pub state : (run s events).state ≡ s.state
  pub send : (run s events).send ≡ s.send -ℤ pos (sent_in events)

-- the conditions of the calls
abbrev pub IsAllowed : StreamView → Event → Type 0
IsAllowed s (Shift by) = (by ≤ℤ largest_window) × (neg_ℤ largest_window ≤ℤ (s.send +ℤ by))
IsAllowed s (Sent len end) = len ≤ sendable s
IsAllowed s (Granted by) = (s.receive +ℤ pos by) ≤ℤ largest_window
IsAllowed s _ = Unit {0}

abbrev pub is_shift : Event → Bool
is_shift (Shift by) = true
is_shift _ = false

-- under this SETTINGS_INITIAL_WINDOW_SIZE, the send window stays in its bounds at every other size
pub record HasRoom (initial : ℤ) (s : StreamView) : Type 0 where
  pub room : (initial -ℤ largest_window) ≤ℤ s.send
