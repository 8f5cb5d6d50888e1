-- Attempts: which are outstanding, queued or over, which a transparent retry follows, and which ends count (gRFC A6, "Transparent Retries" and "When
-- Retries are Valid"; RFC 9113, sections 6.8 and 8.7).
-- Example: row 1, attempt 1 of a call, ends by RST_STREAM with REFUSED_STREAM before a head: row 2, again of number 1, follows it, and its end does
-- not count. Row 2 ends in the same way: nothing follows it, and its end counts, with UNAVAILABLE.
use Rattle.std.specs.List.{list_any}
use Rattle.std.specs.Option.{option_map_or}
use Rattle.std.specs.Prelude.{Bool, Option, is_none, is_some, nat_lt, not, ℕ, ◌&&◌, ◌==◌, ◌||◌}
use Rattle.attempt_ledger.specs.Ends.{is_cut}
use Rattle.attempt_ledger.specs.TransparentRows.{is_by_peer, is_refused, is_unsent}
use Rattle.attempt_ledger.specs.declared.row.RowCause.{RowCause}
use Rattle.attempt_ledger.specs.declared.row.RowEnd.{RowEnd}
use Rattle.session_actions.specs.Calls.{marked}
use Rattle.session_actions.specs.Words.{changed, find_last, holds, numbered}
use Rattle.session_actions.specs.declared.attempt.Attempt.{Attempt}
use Rattle.session_actions.specs.declared.call.Call.{Call}
use Rattle.session_actions.specs.declared.call.MarkKind.{MarkKind}
use Rattle.session_actions.specs.declared.seen.Seen.{Seen}

-- an attempt of a call, and the call of an attempt
abbrev pub is_of : Call → Attempt → Bool
is_of c a = a.row.call == c.number

abbrev pub call_of : Attempt → Seen → Option Call
call_of a s = numbered s.calls a.row.call

-- a fact of the call of an attempt
abbrev pub of_its_call : (Call → Bool) → Attempt → Seen → Bool
of_its_call test a s = holds test (call_of a s)

-- from its placing to its end an attempt is outstanding
abbrev pub is_outstanding : Attempt → Bool
is_outstanding a = is_some a.row.placed && is_none a.row.ended

-- the attempt to which a call is committed: the last one, where a transparent retry took a commitment over
abbrev pub is_commitment : Call → Attempt → Bool
is_commitment c a = is_of c a && is_some a.row.committed

abbrev pub commitment : Call → Seen → Option Attempt
commitment c s = find_last (is_commitment c) s.attempts

-- an attempt is over for its call, which has ended or is committed to another one: it is cut, or never placed
abbrev pub is_over_in : Call → Attempt → Seen → Bool
is_over_in c a s = is_some c.end || holds (λ k. not (k.row.number == a.row.number)) (commitment c s)

abbrev pub is_over : Attempt → Seen → Bool
is_over a s = of_its_call (λ c. is_over_in c a s) a s

-- it is queued until it is placed, ends or is over
abbrev pub is_queued : Attempt → Seen → Bool
is_queued a s = is_none a.row.placed && is_none a.row.ended && not (is_over a s)

-- a transparent retry follows it: a later row of its number
abbrev pub is_later_of : Attempt → Attempt → Bool
is_later_of a q = (q.row.call == a.row.call) && (q.row.number == a.row.number) && nat_lt a.place q.place

abbrev pub is_followed : Attempt → Seen → Bool
is_followed a s = list_any (is_later_of a) s.attempts

-- the server did not process it: a GOAWAY left its stream out, or REFUSED_STREAM came before a head (RFC 9113, sections 6.8 and 8.7). Such an attempt
-- is retried transparently once a call. Whether one was
abbrev pub was_refused : Attempt → Bool
was_refused a = holds is_refused a.row.ended

abbrev pub was_retried_so : Call → Seen → Bool
was_retried_so c s = list_any (λ q. is_of c q && was_refused q && is_followed q s) s.attempts

-- whether a transparent retry follows an end: always where the request never left the client; where the server did not process it, once a call, while
-- the call is not committed; else never
abbrev pub is_to_follow : Call → RowCause → Bool → Seen → Bool
is_to_follow c why unseen s =
    is_unsent why || (unseen && is_by_peer why && is_none (commitment c s) && not (was_retried_so c s))

-- it ended, and is to be followed, and is not yet
abbrev pub wants_follower_by : Attempt → Seen → RowEnd → Bool
wants_follower_by a s e = not (is_followed a s) && of_its_call (λ c. is_to_follow c e.cause e.unseen s) a s

abbrev pub wants_follower : Attempt → Seen → Bool
wants_follower a s = holds (wants_follower_by a s) a.row.ended

-- an end counts: the client did not cut the attempt off, and no transparent retry follows, or is to follow
abbrev pub counts_by : Attempt → Seen → RowEnd → Bool
counts_by a s e = not (is_cut e.cause) && not (is_followed a s) && not (wants_follower_by a s e)

abbrev pub is_counted : Attempt → Seen → Bool
is_counted a s = holds (counts_by a s) a.row.ended

-- an attempt, changed
abbrev pub with_attempt : (Attempt → Attempt) → ℕ → Seen → Seen
with_attempt f place s = record s { attempts = changed f place s.attempts }

-- something happened to the call of the row at a place
abbrev pub marked_row : MarkKind → ℕ → Seen → Seen
marked_row what place s = option_map_or (λ a. marked what a.row.call s) (numbered s.attempts place) s
