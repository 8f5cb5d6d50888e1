-- Several attempts on one link are cut off by one action: each ends, and then their streams are reset, the lowest first (RFC 9113, section 6.4; gRPC over
-- HTTP/2, "Errors").
-- Example: the head of attempt 2 comes on stream 3 of link 1, and its call is committed to it. Attempts 1 and 3, on the streams 1 and 5, end, cut off; then RST_STREAM
-- with CANCEL is queued for 1, and for 5. So it is in the link, whichever was cut off first.
-- The laws, in the order of this file: a link that is ahead by none; one more that is cut off, with a stream or waiting for one. Then come a reset that the session queues too;
-- GOAWAY, once all attempts have ended that it ends, and the resets that the session owes then.
use Rattle.std.specs.Prelude.{Bool, List, None, Option, Some, [], false, filter, if◌then◌else◌, is_some, length, map, true, unwrap_or, ℕ, ◌&&◌, ◌==◌, ◌∷◌, ◌≡◌}
use Rattle.attempt_ledger.specs.declared.row.RowEnd.{RowEnd}
use Rattle.grpc_base.specs.ErrorCodes.{cancel}
use Rattle.h2_frame.specs.Numbers.{goaway_type}
use Rattle.h2_frame.specs.Payloads.{last_stream}
use Rattle.h2_frame.specs.Sent.{rst_stream_frame}
use Rattle.h2_link.specs.Feeds.{Line}
use Rattle.h2_link.specs.Steps.{cut, sealed_wire, reported}
use Rattle.h2_link.specs.Wire.{Wire}
use Rattle.lb_policy.specs.Table.{is_one_of}
use Rattle.link_actions.specs.Laws.{with_owed}
use Rattle.link_actions.specs.ResetActions.Ahead.{SeesAhead, put_reset}
use Rattle.link_actions.specs.Sees.{by_stream}
use Rattle.session_actions.specs.AttemptEnds.{attempt_ended, stream_reset, with_end}
use Rattle.session_actions.specs.Links.{link_number, stream_number}
use Rattle.session_actions.specs.Reading.{is_outstanding_on}
use Rattle.session_actions.specs.Words.{numbered}
use Rattle.session_actions.specs.Writing.{frame_read}
use Rattle.session_actions.specs.declared.attempt.Attempt.{Attempt}
use Rattle.session_actions.specs.declared.link.Link.{Link}
use Rattle.session_actions.specs.declared.link.ReadFrame.{ReadFrame}
use Rattle.session_actions.specs.declared.seen.Seen.{Seen}
use Rattle.link_actions.specs.StreamActions.Laws.{AreAllOf, Comes, IsOn, left_out, read_link}
use Rattle.link_actions.specs.StreamActions.Sees.{SeesStreams}

-- a link that agrees is ahead by no reset; and one that is ahead by none agrees
abbrev pub NoneIsAhead : Type 0
NoneIsAhead = (l : Link) (s : Seen) (w : Wire) (g : ℕ → Line) → SeesStreams l s w g → SeesAhead [] l s w g

abbrev pub NoneIsLeft : Type 0
NoneIsLeft = (l : Link) (s : Seen) (w : Wire) (g : ℕ → Line) → SeesAhead [] l s w g → SeesStreams l s w g

-- one more attempt with a stream is cut off, by the same action: in the session it ends; the link is ahead by its reset too
pub record IsCut (resets : List (ℕ × ℕ)) (l : Link) (s : Seen) (w : Wire) (g : ℕ → Line) : Type 0 where
  pub ahead : SeesAhead resets l s w g
  pub fresh : w.queue.fresh ≡ length resets

abbrev pub CutsGoAhead : Type 0
CutsGoAhead =
    (resets : List (ℕ × ℕ)) (l : Link) (s : Seen) (w : Wire) (g : ℕ → Line) (n number : ℕ) (a : Attempt) (e : RowEnd) → IsCut resets l s w g → IsOn l s n a
    → IsCut (put_reset n number resets) l (attempt_ended a.place e s) (cut w a.place number) g

-- one more that waits for a stream is cut off: it ends, and nothing is reset
abbrev pub WaitsAreCut : Type 0
WaitsAreCut =
    (resets : List (ℕ × ℕ)) (l : Link) (s : Seen) (w : Wire) (g : ℕ → Line) (number : ℕ) (a : Attempt) (e : RowEnd) → IsCut resets l s w g
    → numbered s.attempts a.place ≡ Some a → is_one_of w.waiting a.place ≡ true → IsCut resets l (attempt_ended a.place e s) (cut w a.place number) g

-- the action is complete: whatever is reset from here on comes after it
abbrev pub SealsKeep : Type 0
SealsKeep =
    (resets : List (ℕ × ℕ)) (l : Link) (s : Seen) (w : Wire) (g : ℕ → Line) → SeesAhead resets l s w g → SeesAhead resets l s (sealed_wire w) g

-- the session queues the first of these resets, for the stream of an attempt that ended
abbrev pub ResetsCatchUp : Type 0
ResetsCatchUp =
    (resets : List (ℕ × ℕ)) (l : Link) (s : Seen) (w : Wire) (g : ℕ → Line) (t n number : ℕ) (a : Attempt) (e : RowEnd) → SeesAhead ((n, number) ∷ resets) l s w g
    → numbered s.attempts t ≡ Some a → a.row.ended ≡ Some e → a.row.stream ≡ Some n → link_number a ≡ l.number
    → SeesAhead resets (with_owed (rst_stream_frame n number ∷ []) l) (stream_reset t number s) w g

-- the attempts, once those at these places have ended, each in whatever way; the others are as they were
abbrev pub IsEndedIf : Bool → Attempt → Attempt → Type 0
IsEndedIf true a b = (e : RowEnd) × (b ≡ with_end e a)
IsEndedIf false a b = b ≡ a

abbrev pub AttemptsAreEndedAt : List ℕ → List Attempt → List Attempt → Type 0
AttemptsAreEndedAt places [] [] = Unit {0}
AttemptsAreEndedAt places (a ∷ as_) (b ∷ bs) = IsEndedIf (is_one_of places a.place) a b × AttemptsAreEndedAt places as_ bs
AttemptsAreEndedAt places _ _ = ⊥

-- after GOAWAY, and before any stream is reset, the link is as a session is in which all these have ended, and ahead of it by a reset with CANCEL for each stream
-- that GOAWAY leaves out, the lowest first (RFC 9113, section 6.8). (Tokens, marks and random words, which ends bring too, bear on no link.)
abbrev pub cancel_of : Attempt → ℕ × ℕ
cancel_of a = (stream_number a, cancel)

abbrev pub cancels_of : List Attempt → List (ℕ × ℕ)
cancels_of xs = map cancel_of xs

abbrev pub GoawaysGoAhead : Type 0
GoawaysGoAhead =
    (l : Link) (s : Seen) (w : Wire) (g : ℕ → Line) (r : ReadFrame) (ends : List (ℕ × RowEnd)) (rows : List Attempt) → SeesStreams l s w g → Comes l w r
    → (r.frame.kind == goaway_type) ≡ true → AreAllOf l s (last_stream r.frame.payload) ends → AttemptsAreEndedAt (map (λ (x : ℕ × RowEnd). x.0) ends) s.attempts rows
    → IsCut (cancels_of (left_out l s (last_stream r.frame.payload))) (read_link r l s) (record (frame_read l.number r s) { attempts = rows }) (reported w r.frame).wire g

-- these are the resets that the session owes on the link then, in the order of the streams: where nothing is owed of any other attempt, and of these a reset with
-- CANCEL is, if the attempt has a stream
abbrev pub reset_by : (Attempt → Option ℕ) → Attempt → ℕ × ℕ
reset_by code a = (stream_number a, unwrap_or (code a) 0)

abbrev pub owed_on : (Attempt → Option ℕ) → Link → List Attempt → List (ℕ × ℕ)
owed_on code l rows = map (reset_by code) (by_stream (filter (λ a. is_some (code a) && (link_number a == l.number)) rows))

abbrev pub OwesIf : (Attempt → Option ℕ) → Link → Bool → Attempt → Attempt → Type 0
OwesIf code l true a b = (is_outstanding_on l a ≡ true) × (code b ≡ (if is_some a.row.stream then Some cancel else None))
OwesIf code l false a b = code b ≡ None

abbrev pub OweAt : (Attempt → Option ℕ) → Link → List ℕ → List Attempt → List Attempt → Type 0
OweAt code l places [] [] = Unit {0}
OweAt code l places (a ∷ as_) (b ∷ bs) = OwesIf code l (is_one_of places a.place) a b × OweAt code l places as_ bs
OweAt code l places _ _ = ⊥

abbrev pub GoawaysOweResets : Type 0
GoawaysOweResets =
    (l : Link) (s : Seen) (last : ℕ) (ends : List (ℕ × RowEnd)) (rows : List Attempt) (code : Attempt → Option ℕ) → AreAllOf l s last ends
    → AttemptsAreEndedAt (map (λ (x : ℕ × RowEnd). x.0) ends) s.attempts rows → OweAt code l (map (λ (x : ℕ × RowEnd). x.0) ends) s.attempts rows
    → owed_on code l rows ≡ cancels_of (left_out l s last)
