-- Links that are over: one that breaks, in mid-piece too, one that is lost, and one whose SETTINGS did not come in time.
-- Example: a piece has DATA of stream 1, and then PUSH_PROMISE. The DATA is read, with all that follows from it; then the link is broken in both, with
-- PROTOCOL_ERROR. What comes after it in the piece is not read; and the attempts on the link end, the lowest first, none of them with RST_STREAM.
-- The laws, in the order of this file:
-- 1. A link that breaks; one that is lost; one whose SETTINGS did not come.
-- 2. Nothing more is read of it.
-- 3. How its attempts end, in which order, and that their streams are not reset.
-- 4. It stays so, whatever else happens.
use Rattle.std.specs.List.{AllByRecursion}
use Rattle.std.specs.Prelude.{List, None, Option, Some, [], drop, false, if◌then◌else◌, is_some, not, option_map, slice_get, true, ℕ, ◌∷◌, ◌≡◌}
use Rattle.attempt_ledger.specs.declared.news.News.TheVariants as news
use Rattle.attempt_ledger.specs.declared.row.RowCause.TheVariants as cause
use Rattle.attempt_ledger.specs.declared.row.RowEnd.{RowEnd}
use Rattle.grpc_base.specs.declared.code.Code.TheVariants as code
use Rattle.grpc_link.specs.Ends.{end_without_block}
use Rattle.grpc_link.specs.Links.{GrpcSeen, reported_all}
use Rattle.h2_link.specs.Feeds.{Line}
use Rattle.h2_link.specs.Received.{prefix_of}
use Rattle.h2_link.specs.Steps.{broke}
use Rattle.h2_link.specs.Wire.{Report, Wire}
use Rattle.link_actions.specs.Sees.{AttemptsStandInPlace}
use Rattle.link_actions.specs.LossActions.Sees.{SeesOver, WasOn, end_news, loss_of}
use Rattle.session_actions.specs.AttemptEnds.{attempt_ended, end_of, next_wire_end, outcome_of, reset_code_of, wire_end}
use Rattle.session_actions.specs.Attempts.{is_over}
use Rattle.session_actions.specs.Links.{link_of, read_bytes}
use Rattle.session_actions.specs.Reading.{is_outstanding_on, outstanding_on}
use Rattle.session_actions.specs.Subchannels.{connect_timed_out}
use Rattle.session_actions.specs.Words.{numbered}
use Rattle.session_actions.specs.Writing.{link_broken, link_lost, next_frame_read}
use Rattle.session_actions.specs.declared.action.Action.{Action}
use Rattle.session_actions.specs.declared.action.Action.TheVariants as action
use Rattle.session_actions.specs.declared.attempt.Attempt.{Attempt}
use Rattle.session_actions.specs.declared.link.Link.{Link}
use Rattle.session_actions.specs.declared.link.LinkOver.{LinkOver}
use Rattle.session_actions.specs.declared.link.LinkOver.TheVariants as over
use Rattle.session_actions.specs.declared.seen.Seen.{Seen}
use Rattle.session_actions.specs.declared.subchannel.Subchannel.{Subchannel}
use Rattle.link_actions.specs.StreamActions.Laws.{IsOn}
use Rattle.link_actions.specs.StreamActions.Sees.{SeesStreams}

abbrev pub with_over : LinkOver → Link → Link
with_over why l = record l { over = Some why }

-- the bytes that were not read, wherever in a piece, break the link: so they do in the session, with the same code, and it is the next action; the link
-- keeps nothing of what it had (RFC 9113, section 5.4.1)
pub record IsBroken (l : Link) (s : Seen) (w : Wire) (number : ℕ) (t : Report) : Type 0 where
  pub reported : t ≡ broke w number
  pub next : next_frame_read l.number s ≡ Some (action.LinkBreaks l.number number)
  pub over : SeesOver (with_over over.Broken l) (link_broken l.number s)

abbrev pub BreaksAreSame : Type 0
BreaksAreSame =
    (l : Link) (s : Seen) (w : Wire) (g : ℕ → Line) (bytes : List ℕ) (taken number : ℕ) (t : Report) → SeesStreams l s w g → l.over ≡ None
    → drop (read_bytes l) l.received ≡ bytes → prefix_of w bytes ≡ Some (taken, t) → t.wire.broken ≡ Some number → IsBroken l s w number t

-- and the link reports of it this alone
abbrev pub BreaksAreReported : Type 0
BreaksAreReported =
    (g : GrpcSeen) (w : Wire) (number : ℕ) → reported_all g (broke w number).news ≡ record { link = record g { readers = [] }; news = news.Broken number ∷ [] }

-- the environment loses the link
abbrev pub LossesAreOver : Type 0
LossesAreOver =
    (l : Link) (s : Seen) (w : Wire) (g : ℕ → Line) → SeesStreams l s w g → SeesOver (with_over over.Lost l) (link_lost l.number s)

-- the server's SETTINGS did not come in time: the link of a subchannel that is CONNECTING is given up
abbrev pub TimeoutsAreOver : Type 0
TimeoutsAreOver =
    (l : Link) (s : Seen) (w : Wire) (g : ℕ → Line) (sub : ℕ) (b : Subchannel) → SeesStreams l s w g → numbered s.subs sub ≡ Some b → b.link ≡ Some l.number
    → SeesOver (with_over over.TimedOut l) (connect_timed_out sub s)

-- no frame is read of it any more, whatever of the piece is left
abbrev pub NothingIsRead : Type 0
NothingIsRead = (l : Link) (s : Seen) → SeesOver l s → next_frame_read l.number s ≡ None

-- each attempt on it ends by the loss
abbrev pub EndsAreLosses : Type 0
EndsAreLosses =
    (l : Link) (s : Seen) (a : Attempt) → SeesOver l s → numbered s.attempts a.place ≡ Some a → is_outstanding_on l a ≡ true → outcome_of a s ≡ Some (loss_of a.row.stream)

-- and so the channel reports it
abbrev pub LossesAreReported : Type 0
LossesAreReported =
    (stream : Option ℕ) (seen : ℕ)
    → end_news (loss_of stream) seen ≡ end_without_block code.Unavailable (if is_some stream then cause.Lost else cause.Unsent) (not (is_some stream)) seen

-- of several the lowest place comes first. (Nothing else is about to end an attempt: on other links each response goes on, and no attempt on this one is
-- over for its call, which would be cut off before.)
abbrev pub loss_action : Seen → Attempt → Action
loss_action s a = action.AttemptEnds a.place (end_of a (loss_of a.row.stream) s)

pub record IsQuiet (l : Link) (s : Seen) (a : Attempt) : Type 0 where
  pub here : is_outstanding_on l a ≡ true → is_over a s ≡ false
  pub elsewhere : is_outstanding_on l a ≡ false → wire_end s a ≡ None

abbrev pub LossesGoInOrder : Type 0
LossesGoInOrder =
    (l : Link) (s : Seen) → SeesOver l s → AllByRecursion (IsQuiet l s) s.attempts → next_wire_end s ≡ option_map (loss_action s) (slice_get (outstanding_on l s) 0)

-- no stream of it is reset, whatever ended its attempt (RFC 9113, section 5.4.1)
abbrev pub NoneIsReset : Type 0
NoneIsReset = (l : Link) (s : Seen) (a : Attempt) → link_of a s ≡ Some l → is_some l.over ≡ true → reset_code_of s a ≡ None

-- it stays over after whatever leaves what passed on it, and places no attempt on it: each that is on it was there before, with the same limit of its call
abbrev pub OverStays : Type 0
OverStays =
    (l m : Link) (s t : Seen) → SeesOver l s → numbered t.links m.number ≡ Some m → is_some m.over ≡ true → m.traffic ≡ l.traffic → AttemptsStandInPlace 1 t.attempts
    → ((n : ℕ) (b : Attempt) → IsOn m t n b → WasOn l s t n b) → SeesOver m t

-- so it does when any attempt ends
abbrev pub EndsLeaveOver : Type 0
EndsLeaveOver = (l : Link) (s : Seen) (t : ℕ) (a : Attempt) (e : RowEnd) → SeesOver l s → numbered s.attempts t ≡ Some a → SeesOver l (attempt_ended t e s)
