-- Where a message finds no room.
use Rattle.std.proofs.Common.{◌≡◌, ℕ, ◌+◌, Bool, true, false, nat_le, nat_lt, if◌then◌else◌, Some, None, is_some, refl, sym, ap, arith}
use Rattle.std.proofs.lemmas.Bool.{le-leb, lt-leb, ltb-false, ltb-true}
use Rattle.attempt_buffer.specs.Buffers.{held}
use Rattle.call_core.specs.declared.state.CallState.{CallState}
use Rattle.call_core.specs.Laws.{full_of}
use Rattle.call_core.specs.Parts.{furthest, has_room}
use Rattle.call_core.specs.Steps.{full_with}

committed_by : (count : ℕ) (b : Bool) → nat_lt count 65536 ≡ b → (if b then None else Some count) ≡ (if nat_le 65536 count then Some count else None)
committed_by count true e = sym (ap (λ (b : Bool). if b then Some count else None) (lt-leb 65536 count (ltb-true count 65536 e)))
committed_by count false e = sym (ap (λ (b : Bool). if b then Some count else None) (le-leb 65536 count (ltb-false count 65536 e)))

full_by : (is_committed has_outstanding : Bool) (count len : ℕ) → (if has_room is_committed has_outstanding count len then None else Some count) ≡ full_of is_committed has_outstanding count (5 + len)
full_by true has_outstanding count len = committed_by count (nat_lt count 65536) refl
full_by false true count len = refl
full_by false false count len =
    let same : len + 5 + count ≡ count + (5 + len) = omega arith in ap (λ (k : ℕ). if nat_le k 262144 then None else Some count) same

pub full_law : (len : ℕ) (call : CallState) → full_with len call ≡ full_of (is_some call.attempts.committed) (is_some (furthest call.buffer call.live)) (held call.buffer) (5 + len)
full_law len call = full_by (is_some call.attempts.committed) (is_some (furthest call.buffer call.live)) (held call.buffer) len
