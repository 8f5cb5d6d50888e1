-- What leaves the agreement of a link: whatever makes no difference to it. That is what is done to calls and their attempts between a frame and the ends that it brings:
-- a commitment, the end of a call, an attempt that is made, a message, or the end of a request.
-- Example: the head of attempt 1 comes on stream 1 of link 1, where attempt 2 of the same call has stream 3. The frame is read; the call is committed to attempt
-- 1; and link 1 still agrees, with both streams. Then attempt 2 ends, cut off, and its stream is reset.
-- The laws, in the order of this file:
-- 1. Whatever makes no difference to a link.
-- 2. A commitment; the end of a call; an attempt that is made.
-- 3. An attempt that is placed on the link.
-- 4. What is noted of the entry; a message that is accepted; a request that is finished; an entry that opens.
use Rattle.std.specs.Prelude.{List, None, Some, false, ℕ, ◌==◌, ◌≡◌}
use Rattle.attempt_ledger.specs.declared.row.Placed.{Placed}
use Rattle.attempt_ledger.specs.declared.row.RowKind.{RowKind}
use Rattle.grpc_base.specs.declared.event.EndCause.{EndCause}
use Rattle.grpc_base.specs.declared.event.Event.{Event}
use Rattle.grpc_base.specs.declared.event.Event.TheVariants as event
use Rattle.h2_link.specs.Feeds.{Line}
use Rattle.h2_link.specs.Steps.{placed}
use Rattle.h2_link.specs.Wire.{Wire}
use Rattle.link_actions.specs.Sees.{AttemptsStandInPlace, IsFed}
use Rattle.session_actions.specs.CallEnds.{call_ended}
use Rattle.session_actions.specs.Commitments.{call_committed}
use Rattle.session_actions.specs.Deliveries.{message_accepted, request_finished}
use Rattle.session_actions.specs.Entries.{opened, with_entry}
use Rattle.session_actions.specs.Making.{attempt_made}
use Rattle.session_actions.specs.Policies.{attempt_placed}
use Rattle.session_actions.specs.Words.{numbered}
use Rattle.session_actions.specs.declared.attempt.Attempt.{Attempt}
use Rattle.session_actions.specs.declared.entry.OpenEntry.{OpenEntry}
use Rattle.session_actions.specs.declared.link.Link.{Link}
use Rattle.session_actions.specs.declared.seen.Seen.{Seen}
use Rattle.link_actions.specs.SteadyLinks.Fed.{LinesAreChangedOf, LinesAreOfMoment, with_end, with_message_left}
use Rattle.link_actions.specs.SteadyLinks.Same.{LinesAreSameOn, IsSameLink}
use Rattle.link_actions.specs.StreamActions.Sees.{SeesBut, SeesStreams}

-- a link agrees with any session that it cannot distinguish from one with which it agrees, fed with these lines
abbrev pub LinksAreLeft : Type 0
LinksAreLeft =
    (l m : Link) (s t : Seen) (w : Wire) (g h : ℕ → Line) → SeesStreams l s w g → IsSameLink l m → numbered t.links m.number ≡ Some m
    → LinesAreSameOn l m s t h s.attempts t.attempts → AttemptsStandInPlace 1 t.attempts → SeesStreams m t w h

-- so it does but for an attempt whose end is about to happen
abbrev pub LinksAreLeftBut : Type 0
LinksAreLeftBut =
    (k : ℕ) (l m : Link) (s t : Seen) (w : Wire) (g h : ℕ → Line) → SeesBut k l s w g → IsSameLink l m → numbered t.links m.number ≡ Some m
    → LinesAreSameOn l m s t h s.attempts t.attempts → AttemptsStandInPlace 1 t.attempts → SeesBut k m t w h

-- what leaves each link that agrees, and each that agrees but for one attempt
pub record IsLeft (s t : Seen) : Type 0 where
  pub streams : (l : Link) (w : Wire) (g : ℕ → Line) → SeesStreams l s w g → SeesStreams l t w g
  pub but : (k : ℕ) (l : Link) (w : Wire) (g : ℕ → Line) → SeesBut k l s w g → SeesBut k l t w g

-- a call is committed to an attempt (gRFC A6, "When Retries are Valid")
abbrev pub CommitmentsLeaveLinks : Type 0
CommitmentsLeaveLinks = (s : Seen) (place : ℕ) (a : Attempt) → numbered s.attempts place ≡ Some a → IsLeft s (call_committed place s)

-- a call ends, for whatever cause. (Its attempts are cut off after it, one by one.)
abbrev pub CallEndsLeaveLinks : Type 0
CallEndsLeaveLinks = (s : Seen) (number : ℕ) (why : EndCause) → IsLeft s (call_ended number why s)

-- an attempt is made, a transparent retry too: it waits for a pick, and is on no link
abbrev pub AttemptsLeaveLinks : Type 0
AttemptsLeaveLinks = (s : Seen) (call number : ℕ) (k : RowKind) (due : ℕ) → IsLeft s (attempt_made call number k due s)

-- an attempt that is on no link yet
pub record CanPlace (l : Link) (a : Attempt) (at : Placed) : Type 0 where
  pub unplaced : a.row.placed ≡ None
  pub streamless : a.row.stream ≡ None
  pub going : a.row.ended ≡ None
  pub link : at.link ≡ l.number

-- it is placed on a link: it waits there for a stream, among the others by its place, and is fed from then on
abbrev pub PlacingsKeep : Type 0
PlacingsKeep =
    (l : Link) (s : Seen) (w : Wire) (g h : ℕ → Line) (place : ℕ) (a : Attempt) (at : Placed) → SeesStreams l s w g → numbered s.attempts place ≡ Some a → CanPlace l a at
    → ((k : ℕ) → (k == place) ≡ false → h k ≡ g k) → IsFed l s a (h place) → SeesStreams l (attempt_placed place at s) (placed w place) h

-- what is noted of the entry, but for its moment: its answer, that the channel settles, a random word more, the pass over the queue
abbrev pub EntriesLeaveLinks : Type 0
EntriesLeaveLinks = (s : Seen) (f : OpenEntry → OpenEntry) → ((o : OpenEntry) → (f o).moment ≡ o.moment) → IsLeft s (with_entry f s)

-- a message of a call is accepted: each of its attempts is fed with it too, after what it had (gRPC over HTTP/2, "Length-Prefixed-Message")
abbrev pub MessagesFeed : Type 0
MessagesFeed =
    (l : Link) (s : Seen) (w : Wire) (g h : ℕ → Line) (call : ℕ) (message : List ℕ) → SeesStreams l s w g → LinesAreChangedOf call (with_message_left message) s g h
    → SeesStreams l (message_accepted call (event.Send call message) s) w h

-- the request of a call is finished: nothing is added any more to what its attempts are fed with (gRPC over HTTP/2, "Requests": EOS)
abbrev pub FinishesFeed : Type 0
FinishesFeed =
    (l : Link) (s : Seen) (w : Wire) (g h : ℕ → Line) (call : ℕ) → SeesStreams l s w g → LinesAreChangedOf call with_end s g h
    → SeesStreams l (request_finished call s) w h

-- an entry opens: its moment is the later one, and the header list of each request names the time that is left then (gRPC over HTTP/2, "Requests": Timeout)
abbrev pub MomentsFeed : Type 0
MomentsFeed =
    (l : Link) (s : Seen) (w : Wire) (g h : ℕ → Line) (posted word : ℕ) (e : Event) → SeesStreams l s w g → LinesAreOfMoment s (opened posted word e s) g h
    → SeesStreams l (opened posted word e s) w h
