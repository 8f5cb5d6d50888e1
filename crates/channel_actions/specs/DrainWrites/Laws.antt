-- A drain of a link is a list of actions of a session: each frame that it writes is the next action, nothing else comes between two frames, and at its end no
-- further frame fits. Link and session agree then, with the readers and with what attempts are fed with.
-- Example: a drain with room for 100 bytes finds the preface and HEADERS of attempt 1 to be written. FrameWritten of the preface is next, then FrameWritten of HEADERS,
-- which gives attempt 1 its stream. Then nothing is left to write.
use Rattle.std.specs.Prelude.{List, None, Some, [], map, min, ℕ, ◌++◌, ◌<◌, ◌^◌, ◌∷◌, ◌≡◌}
use Rattle.grpc_base.specs.declared.event.Event.TheVariants as event
use Rattle.grpc_base.specs.declared.event.Reply.TheVariants as reply
use Rattle.grpc_link.specs.Links.{opened_all}
use Rattle.grpc_link.specs.declared.readers.TagReader.{TagReader}
use Rattle.h2_link.specs.Drains.{Drains, opened_between}
use Rattle.h2_link.specs.Feeds.{Line}
use Rattle.h2_link.specs.Wire.{Wire}
use Rattle.link_actions.specs.ResponseActions.Readers.{SeesReaders}
use Rattle.session_actions.specs.Events.{frame_action}
use Rattle.session_actions.specs.Sessions.{Does}
use Rattle.session_actions.specs.Words.{changed, numbered}
use Rattle.session_actions.specs.Writing.{with_stream}
use Rattle.session_actions.specs.declared.action.Action.{Action}
use Rattle.session_actions.specs.declared.action.Action.TheVariants as action
use Rattle.session_actions.specs.declared.attempt.Attempt.{Attempt}
use Rattle.session_actions.specs.declared.entry.OpenEntry.{OpenEntry}
use Rattle.session_actions.specs.declared.entry.Stage.TheVariants as stage
use Rattle.session_actions.specs.declared.link.Link.{Link}
use Rattle.session_actions.specs.declared.link.Sent.{Sent}
use Rattle.session_actions.specs.declared.link.Traffic.TheVariants as traffic
use Rattle.session_actions.specs.declared.seen.Seen.{Seen}
use Rattle.session_order.specs.Quiescent.{IsQuiescent}
use Rattle.link_actions.specs.StreamActions.Sees.{SeesStreams}

-- an attempt, but for its stream; and all of them
abbrev pub IsRow : Attempt → Attempt → Type 0
IsRow a b = b ≡ record a { row = record a.row { stream = b.row.stream } }

abbrev pub RowsAgree : List Attempt → List Attempt → Type 0
RowsAgree [] [] = Unit {0}
RowsAgree (a ∷ as_) (b ∷ bs) = IsRow a b × RowsAgree as_ bs
RowsAgree _ _ = ⊥

-- a link on which these were written, one after the other
abbrev pub with_all_sent : List Sent → Link → Link
with_all_sent [] l = l
with_all_sent (x ∷ sent) l = with_all_sent sent (record l { traffic = l.traffic ++ traffic.Written x ∷ [] })

-- an entry that drains a link is answered, with so many bytes, and nothing follows at once
pub record IsDraining (o : OpenEntry) (s : Seen) (link most : ℕ) (given : List ℕ) : Type 0 where
  pub current : s.current ≡ Some o
  pub event_is : o.event ≡ event.Drain link most
  pub stage_is : o.stage ≡ stage.Replied
  pub reply_is : o.reply ≡ Some (reply.Octets given)
  pub quiescent : IsQuiescent o s

-- attempts of these places get these streams, one after the other; and none of them had one
abbrev pub given_in : List (ℕ × ℕ) → List Attempt → List Attempt
given_in [] as_ = as_
given_in (o ∷ opened) as_ = given_in opened (changed (with_stream o.1) o.0 as_)

abbrev pub OpenedRowsWait : List (ℕ × ℕ) → List Attempt → Type 0
OpenedRowsWait [] as_ = Unit {0}
OpenedRowsWait (o ∷ opened) as_ = ((b : Attempt) → numbered as_ o.0 ≡ Some b → b.row.stream ≡ None) × OpenedRowsWait opened (changed (with_stream o.1) o.0 as_)

abbrev pub writing : ℕ → Sent → Action
writing link x = action.FrameWritten link x

-- the drain, as a list of actions: nothing changes but what passed on the link, the streams of attempts, and the answer of the entry
pub record IsDrainRun (l : Link) (s : Seen) (o : OpenEntry) (octets : List ℕ) (w w2 : Wire) (g2 : ℕ → Line) (readers : List TagReader) : Type 0 where
  pub sent : List Sent
  pub seen : Seen
  pub does : Does (map (writing l.number) sent) s seen
  pub entry : OpenEntry
  pub entry_is : entry ≡ record o { reply = Some (reply.Octets octets) }
  pub is : seen ≡ record s { attempts = seen.attempts; links = changed (with_all_sent sent) l.number s.links; current = Some entry }
  pub rows : RowsAgree s.attempts seen.attempts
  pub given : seen.attempts ≡ given_in (opened_between w w2) s.attempts
  pub fresh : OpenedRowsWait (opened_between w w2) s.attempts
  pub streams : SeesStreams (with_all_sent sent l) seen w2 g2
  pub readers_are : SeesReaders (with_all_sent sent l) seen readers
  pub quiescent : IsQuiescent entry seen
  pub none : frame_action entry seen ≡ None

-- (the numbers of streams do not end, which no session reaches)
abbrev pub DrainsAreActions : Type 0
DrainsAreActions =
    (l : Link) (s : Seen) (o : OpenEntry) (w w2 : Wire) (g g2 : ℕ → Line) (readers : List TagReader) (most : ℕ) (octets : List ℕ) → SeesStreams l s w g → SeesReaders l s readers
    → w2.opened < 2 ^ 30 → Drains (min most 1048576) w g octets w2 g2 → IsDraining o s l.number most []
    → IsDrainRun l s o octets w w2 g2 (opened_all (opened_between w w2) readers)
